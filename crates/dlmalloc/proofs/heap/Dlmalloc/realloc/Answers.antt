use Rattle.dlmalloc.proofs.Names.{◌-◌, inr, arith, state_of}
use Rattle.dlmalloc.proofs.Bins.Members.{on_both}
use Rattle.dlmalloc.proofs.Blocks.GivenSize.{given_size, given_elsewhere}
use Rattle.dlmalloc.proofs.Resizing.InPlaceOrElsewhere.{size_at}
use Rattle.dlmalloc.specs.OneChunk.{HoldsBytes}
use Rattle.dlmalloc.proofs.heap.Dlmalloc.realloc.Goals as goal
use Rattle.dlmalloc.proofs.heap.Dlmalloc.realloc.Goals.{Start}

-- the chunk has the bytes that are held
holds : (g : _) (c : Start g) → HoldsBytes g.A.Links c.args.self.now c.args.ptr c.args.old_size c.args.old_align
holds g c =
    let block = c.requires.block in let long = block.holds in
    record {
      intact = c.requires.intact;
      align = c.requires.align;
      block = (c.args.old_size, block);
      held = omega (arith, size_at (state_of g.A.Links.word c.args.self.now) (c.args.ptr - 16) block.extent block.there, long);
    }

pub resize_or_move-requires-clause-holds : goal.resize_or_move-requires-clause-holds
resize_or_move-requires-clause-holds g c = holds g (goal.at.resize_or_move-requires-clause-holds g c).Start

pub move_block-requires : goal.move_block-requires
move_block-requires g c = holds g (goal.at.move_block-requires g c).Start

pub returns-then-old_align-le-LEAST_ALIGN-clause-reallocated : goal.returns-then-old_align-le-LEAST_ALIGN-clause-reallocated
returns-then-old_align-le-LEAST_ALIGN-clause-reallocated g c =
    on_both c.resize_or_move.result (λ address resized member. record {
      resized = resized;
      given = given_size g.A.Links.follows_on c.requires.intact.sound c.requires.align c.requires.block resized;
      member = member;
    }) c.resize_or_move.ensures.resized c.resize_or_move.ensures.member

pub returns-else-old_align-le-LEAST_ALIGN-clause-reallocated : goal.returns-else-old_align-le-LEAST_ALIGN-clause-reallocated
returns-else-old_align-le-LEAST_ALIGN-clause-reallocated g c =
    on_both c.move_block.result (λ address out member. record {
      resized = inr (λ low. absurd (let high = c.if-old_align-le-LEAST_ALIGN.false in omega arith), out);
      given = given_elsewhere g.A.Links.follows_on c.requires.intact.sound c.requires.align c.requires.block out;
      member = λ moved. member;
    }) c.move_block.ensures.elsewhere c.move_block.ensures.member
