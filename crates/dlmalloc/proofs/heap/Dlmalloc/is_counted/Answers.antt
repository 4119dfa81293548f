use Rattle.dlmalloc.proofs.Frees.Counted.{around_head, top_told, victim_told, size_told}
use Rattle.dlmalloc.proofs.heap.Dlmalloc.is_counted.Goals as goal

pub size-requires : goal.size-requires
size-requires g c = around_head c.requires.sound c.requires.free.1

pub returns-then-chunk-self-clause-told : goal.returns-then-chunk-self-clause-told
returns-then-chunk-self-clause-told g c = λ at around. top_told c.requires.sound around c.if-chunk-self.true

pub returns-then-chunk-self-2-clause-told : goal.returns-then-chunk-self-2-clause-told
returns-then-chunk-self-2-clause-told g c = λ at around. victim_told c.requires.sound around c.if-chunk-self.false c.if-chunk-self-2.true

pub returns-clause-told : goal.returns-clause-told
returns-clause-told g c = λ at around. size_told c.requires.sound around c.if-chunk-self.false c.if-chunk-self-2.false c.size.ensures.value
