use Rattle.std.proofs.Common.{arith}
use Rattle.x86_tables.proofs.GateBits.{with_bit_field-lt}
use Rattle.x86_tables.proofs.idt.entry_options.EntryOptions.set_field.Goals as goal

pub overflow_cast-self : goal.overflow_cast-self
overflow_cast-self c = record {
  fits = rw (c.set_bits.ensures.value, c.from.ensures, c.from-2.ensures)
      (with_bit_field-lt c.args.self.now.bits c.args.low c.args.high c.args.value c.requires.order c.requires.within (omega arith) c.requires.fits);
}
