use Rattle.std.proofs.Common.{◌∙◌, ◌^◌, sym}
use Rattle.checked_heap.specs.Marks.{is_marked}
use Rattle.checked_heap.proofs.Counting.{counted_none}
use Rattle.checked_heap.proofs.marks.Marks.law_none_counted.Goals as goal

pub returns : goal.returns
returns c = c.requires.zero ∙ sym (counted_none (is_marked c.args.self.now.base c.args.self.now.words.now) (2 ^ 64) c.requires.none)
