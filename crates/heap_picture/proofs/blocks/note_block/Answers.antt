use Rattle.std.proofs.Common.{rules, ◌≡◌, true, false}
use Rattle.heap_picture.specs.Blocks.{remains}
use Rattle.heap_picture.proofs.Names.{block_put, block_passed}
use Rattle.heap_picture.proofs.blocks.note_block.Goals as goal

pub returns-then-not-remains : goal.returns-then-not-remains
returns-then-not-remains c =
    let gone : remains c.args.calls c.args.stay ≡ false = search rules in
    block_passed c.args.calls c.args.stay c.args.blocks.now gone

pub returns : goal.returns
returns c =
    let there : remains c.args.calls c.args.stay ≡ true = search rules in
    block_put c.args.calls c.args.stay c.args.blocks.now c.insert.new.self c.from.result c.name_of.result there
    c.from.ensures c.name_of.ensures c.in_ok-insert.ensures.updates.0
