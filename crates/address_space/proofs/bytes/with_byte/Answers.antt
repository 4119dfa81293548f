use Rattle.std.proofs.Common.{◌∙◌, ◌+◌, ◌*◌, ap}
use Rattle.paging_core.specs.Field.{with_bit_field}
use Rattle.paging_core.specs.Memory.{byte_of}
use Rattle.address_space.proofs.WordBytes.{byte_here, byte_other}
use Rattle.address_space.proofs.bytes.with_byte.Goals as goal

pub returns-clause-here : goal.returns-clause-here
returns-clause-here c =
    ap (λ w. byte_of w c.args.byte) c.set_bits.ensures.value
    ∙ (ap (λ v. byte_of (with_bit_field c.args.word (8 * c.args.byte) (8 * c.args.byte + 8) v) c.args.byte) c.from.ensures
    ∙ byte_here c.args.word c.args.byte c.args.value c.requires c.ranges.value.fits)

pub returns-clause-others : goal.returns-clause-others
returns-clause-others c = λ other less different.
    ap (λ w. byte_of w other) c.set_bits.ensures.value
    ∙ (ap (λ v. byte_of (with_bit_field c.args.word (8 * c.args.byte) (8 * c.args.byte + 8) v) other) c.from.ensures
    ∙ byte_other c.args.word c.args.byte c.args.value other c.requires less c.ranges.value.fits different)
