-- Places in the window.
use Rattle.std.proofs.Common.{◌≡◌, ℕ, ◌+◌, ◌*◌, ◌/◌, ◌%◌, ◌^◌, ◌<◌, ◌≤◌, ◌-◌, ◌||◌, ap, ◌∙◌, arith, nat_eq}
use Rattle.paging_core.specs.Address.{IsCanonicalRange}
use Rattle.machine_model.specs.Machine.{Paged}
use Rattle.machine_model.specs.Place.{IsFit}
use Rattle.paged_systems.specs.Window.{IsHeapWindow}

-- pages that lie in the window are canonical
pub range_within : (p : Paged) (pages address : ℕ) → IsHeapWindow p.base p.pages → 0 < pages →
    IsFit p.base p.pages p.regions pages address → IsCanonicalRange (address / 4096) pages
range_within p pages address window some fit =
    let base_whole : p.base % 4096 ≡ 0 = window.whole in
    let half : (p.base / 4096 + p.pages - 1) / 2 ^ 35 ≡ p.base / 4096 / 2 ^ 35 = window.canonical.one_half in
    let whole : address % 4096 ≡ 0 = fit.aligned in
    let from : p.base ≤ address = fit.from in
    let within : address + 4096 * pages ≤ p.base + 4096 * p.pages = fit.within in
    let same : (address / 4096) * 4096 / 2 ^ 47 ≡ (p.base / 4096) * 4096 / 2 ^ 47 = omega arith in
    record {
      some = some;
      canonical = ap (λ q. nat_eq q 0 || nat_eq q (2 ^ 17 - 1)) same ∙ window.canonical.canonical;
      one_half = omega arith;
    }
