-- A frame's address in one word with low bits, and how the fields of CR3 read it.
use Rattle.std.proofs.Common.{◌≡◌, ℕ, ◌+◌, ◌*◌, ◌^◌, ◌<◌, arith}
use Rattle.std.specs.Int.RustNames.{bit_or}
use Rattle.std.proofs.lemmas.Nat.{or_shifted}
use Rattle.x86_registers.specs.Cr3.{HasPcid, cr3_word}

module _ (frame pcid : ℕ) (frame_fits : frame * 4096 < 2 ^ 52) (pcid_fits : pcid < 4096) where
  joined : cr3_word frame pcid ≡ frame * 2 ^ 12 + pcid
  joined = or_shifted frame 12 pcid pcid_fits

  pub HasPcid-cr3_word : HasPcid (cr3_word frame pcid) (frame, pcid)
  HasPcid-cr3_word = rw joined (omega arith, omega arith)

  pub HasPcid-no_flush : HasPcid (bit_or (2 ^ 63) (cr3_word frame pcid)) (frame, pcid)
  HasPcid-no_flush =
      let top : bit_or (1 * 2 ^ 63) (frame * 2 ^ 12 + pcid) ≡ 1 * 2 ^ 63 + (frame * 2 ^ 12 + pcid) =
      or_shifted 1 63 (frame * 2 ^ 12 + pcid) (omega arith) in
      rw (joined, top) (omega arith, omega arith)
