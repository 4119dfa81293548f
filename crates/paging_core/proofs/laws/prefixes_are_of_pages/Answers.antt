use Rattle.std.proofs.Common.{◌≡◌, ℕ, zero, suc, ◌<◌, ◌+◌, arith}
use Rattle.std.specs.Prelude.{◌↔◌, Contains}
use Rattle.paging_core.specs.Address.{IsCanonicalRange}
use Rattle.paging_core.specs.Prefix.{prefix_of, prefixes_of}
use Rattle.paging_core.proofs.PrefixLists.{prefixes_of_pages, pages_of_prefixes}
use Rattle.paging_core.proofs.laws.prefixes_are_of_pages.Goals as goal

both : (first pages level number : ℕ) → IsCanonicalRange first pages →
    Contains (prefixes_of first pages) (record { level = level; number = number })
    ↔ ((0 < level) × (level < 4) × ((k : ℕ) × ((k < pages) × (number ≡ prefix_of (first + k) level))))
both first zero level number range = absurd (let h : 0 < 0 = range.some in omega arith)
both first (suc more) level number range =
    (prefixes_of_pages first more level number range, (λ p. pages_of_prefixes first more level number range p.0 p.1 p.2))

pub returns : goal.returns
returns c = both
