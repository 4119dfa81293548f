use Rattle.std.proofs.Common.{refl, ◌==◌}
use Rattle.x86_instructions.proofs.Words.{page_word, count_word}
use Rattle.x86_instructions.proofs.tlb.invlpgb.InvlpgbFlushBuilder.turn.Goals as goal

pub returns : goal.returns
returns g c =
    rw (
      page_word c.as_u64.result c.options.result c.as_u64.type_inv c.options.ensures.below c.options.ensures.even,
      c.from.ensures,
      c.bit.ensures,
      count_word (c.SIZE-is_large.result == 2097152) c.args.count c.ranges.count.fits,
      c.SIZE-is_large.ensures,
      c.identifiers.ensures,
      c.options.ensures.value,
      c.as_u64.ensures.value,
      c.start_address.ensures,
    )
    refl
