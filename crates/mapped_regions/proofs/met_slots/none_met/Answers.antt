use Rattle.std.proofs.Common.{◌^◌, ◌<◌, arith}
use Rattle.std.proofs.lemmas.List.Elements.{All-replicate}
use Rattle.mapped_regions.specs.declared.met_slots.Met.{Met}
use Rattle.mapped_regions.specs.MetSlots.{IsPage, IsTable, IsLargePage}
use Rattle.mapped_regions.proofs.met_slots.none_met.Goals as goal

pub returns : goal.returns
returns c =
    let none : Met = record { number = 2 ^ 52; frame = c.args.frame } in
    record {
      pages = λ words root. All-replicate (λ (met : Met). met.number < 2 ^ 52 → IsPage words root met.number met.frame) 64 none
          (λ low. absurd (omega (arith, low)));
      tables = λ words root. All-replicate (λ (met : Met). met.number < 2 ^ 27 → IsTable words root met.number met.frame) 64 none
          (λ low. absurd (omega (arith, low)));
      large_pages = λ words root. All-replicate (λ (met : Met). met.number < 2 ^ 27 → IsLargePage words root met.number met.frame) 64 none
          (λ low. absurd (omega (arith, low)));
    }
