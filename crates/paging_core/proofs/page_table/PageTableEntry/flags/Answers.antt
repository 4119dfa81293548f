use Rattle.std.proofs.Common.{◌+◌, ◌*◌, ◌/◌, ◌%◌, ◌^◌, ◌∙◌, ap, arith}
use Rattle.bitflags.specs.Sets.{known_from}
use Rattle.paging_core.proofs.EntryBits.{and_flags}
use Rattle.paging_core.proofs.page_table.PageTableEntry.flags.Goals as goal

pub returns : goal.returns
unfolding known_from
returns c =
    c.from_bits_truncate.ensures tt ∙ (and_flags c.self.inside.0 (omega arith) ∙ ap (λ e. e % 2 ^ 12 + e / 2 ^ 52 * 2 ^ 52) c.self.view_is)
