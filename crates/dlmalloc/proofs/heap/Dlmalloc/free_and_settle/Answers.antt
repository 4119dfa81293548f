use Rattle.dlmalloc.proofs.Names.{◌-◌, arith, IsSettled, state_of}
use Rattle.dlmalloc.proofs.Frees.Whole.{by_rules, freed_whole}
use Rattle.dlmalloc.proofs.Returns.PassSteps.{freed_pass}
use Rattle.dlmalloc.proofs.heap.Dlmalloc.free_and_settle.Goals as goal

pub returns-clause-freed : goal.returns-clause-freed
returns-clause-freed g c =
    let old = c.args.self.now in let middle = c.free_block-chunk.new.self in let new = c.settle.new.self in
    let at = c.args.ptr - 16 in let disposed = c.free_block-chunk.ensures.freed in
    let fixed = g.met.A.Allocator.fixed old.system middle.system _ disposed.followed in
    freed_whole g.A.Links.follows_on c.requires.intact.sound disposed c.free_block-chunk.ensures.around
    (by_rules g.A.Allocator.zeros g.A.Allocator.frees g.A.Allocator.parts g.A.Allocator.unit fixed (λ frees parts unit. IsSettled g.A.Links.regions
    g.A.Links.word g.A.Links.follows frees parts unit middle at new) (c.settle.ensures.settled at c.free_block-chunk.ensures.around))

pub returns-clause-counted : goal.returns-clause-counted
returns-clause-counted g c =
    let freed = c.free_block-chunk.ensures.counted in let settled = c.settle.ensures.counted in
    let same = freed_pass (state_of g.A.Links.word c.args.self.now) (c.args.ptr - 16) c.free_block-chunk.ensures.freed.state in
    omega arith
