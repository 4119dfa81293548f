-- What is found at an address: the region that has it, and the byte that a walk reaches.
use Rattle.std.proofs.Common.{◌≡◌, ℕ, zero, suc, ◌-◌, ◌*◌, ◌/◌, ◌%◌, ◌^◌, ◌<◌, ◌||◌, nat_eq, slice_index, List, [], ◌∷◌, refl, sym, ap, ◌∙◌, arith, Bool, true, false, Option, Some, None, option_map, IsSome, IsTrue}
use Rattle.std.specs.Int.{w64, to_le_bytes}
use Rattle.std.specs.List.{AllByRecursion}
use Rattle.paging_core.specs.Address.{is_canonical}
use Rattle.paging_core.specs.Memory.{byte_of}
use Rattle.paging_core.specs.Walk.{Place, walk_of, mapped_place}
use Rattle.paging_core.specs.PageBits.{bits_of, bits_at}
use Rattle.paging_core.specs.declared.page_table.Rights.{Rights}
use Rattle.paging_core.specs.declared.page_walk.Mapped.{Mapped}
use Rattle.machine_model.specs.declared.region.Region.{Region}
use Rattle.machine_model.specs.State.{is_within}
use Rattle.machine_model.specs.Machine.{Paged, rights_of}
use Rattle.machine_model.proofs.Found.{rights_alike}
use Rattle.machine_model.proofs.Regions.{within, within_bounds}
use Rattle.mapped_regions.specs.Regions.{kind_at}
use Rattle.mapped_regions.specs.Mapped.{IsRegion, IsMapped}
use Rattle.mapped_regions.proofs.Mapped.{some_mapped}

-- a region has an address if it has the first of its page
page_within : (at : ℕ) (r : Region) → r.start % 4096 ≡ 0 → is_within at r ≡ is_within (4096 * (at / 4096)) r
page_within at r whole = go (is_within at r) (is_within (4096 * (at / 4096)) r) refl refl where
  go : (b c : Bool) → is_within at r ≡ b → is_within (4096 * (at / 4096)) r ≡ c → is_within at r ≡ is_within (4096 * (at / 4096)) r
  go true true is first = is ∙ sym first
  go false false is first = is ∙ sym first
  go true false is first =
      let bounds = within_bounds at r is in
      let yes = within (4096 * (at / 4096)) r (omega (arith, whole, bounds.0)) (omega (arith, whole, bounds.1)) in absurd (cc)
  go false true is first =
      let bounds = within_bounds (4096 * (at / 4096)) r first in
      let yes = within at r (omega (arith, whole, bounds.0)) (omega (arith, whole, bounds.1)) in absurd (cc)

kind_page : (base window at : ℕ) (list : List Region) → AllByRecursion (IsRegion base window) list → kind_at list at ≡ kind_at list (4096 * (at / 4096))
kind_page base window at [] all = refl
kind_page base window at (r ∷ rs) all = go (is_within at r) refl (page_within at r all.0.range.0) (kind_page base window at rs all.1) where
  go : (b : Bool) → is_within at r ≡ b → is_within at r ≡ is_within (4096 * (at / 4096)) r →
      kind_at rs at ≡ kind_at rs (4096 * (at / 4096)) → kind_at (r ∷ rs) at ≡ kind_at (r ∷ rs) (4096 * (at / 4096))
  go true is same rest = let first = sym same ∙ is in rw (is, first) refl
  go false is same rest = let first = sym same ∙ is in rw (is, first) rest

pub first_canonical : (at : ℕ) → IsTrue (is_canonical at) → IsTrue (is_canonical (at / 4096 * 4096))
first_canonical at canonical =
    let same : at / 4096 * 4096 / 2 ^ 47 ≡ at / 2 ^ 47 = omega arith in
    ap (λ q. nat_eq q 0 || nat_eq q (2 ^ 17 - 1)) same ∙ canonical

-- the walk finds at an address what its region says
bits_found : (p : Paged) (at : ℕ) → IsMapped p → IsTrue (is_canonical at) →
    option_map bits_at (walk_of p.words p.root (at / 4096)) ≡ option_map (λ kind. bits_of kind.1) (kind_at p.regions at)
bits_found p at m canonical = m.found (at / 4096) (first_canonical at canonical)
    ∙ ap (option_map (λ (kind : Bool × Rights). bits_of kind.1)) (sym (kind_page p.base p.pages at p.regions m.regions))

pub found_at : (p : Paged) (at : ℕ) → IsMapped p → IsTrue (is_canonical at) →
    option_map rights_of (walk_of p.words p.root (at / 4096)) ≡ option_map (λ kind. kind.1) (kind_at p.regions at)
found_at p at m canonical =
    rights_alike (λ (kind : Bool × Rights). kind.1) (walk_of p.words p.root (at / 4096)) (kind_at p.regions at) (bits_found p at m canonical)

pub mapped_at : (p : Paged) (at : ℕ) → IsMapped p → IsTrue (is_canonical at) → IsSome (kind_at p.regions at) → IsSome (walk_of p.words p.root (at / 4096))
mapped_at p at m canonical there = some_mapped (walk_of p.words p.root (at / 4096)) (kind_at p.regions at) (bits_found p at m canonical) there

-- the rights of what was walked to
pub walked_none : (o : Option Mapped) (w : Option Place) (k : Option Rights) → option_map mapped_place o ≡ w → option_map rights_of w ≡ k → o ≡ None → None ≡ k
walked_none o w k walked found is = ap (option_map rights_of) (ap (option_map mapped_place) (sym is)) ∙ (ap (option_map rights_of) walked ∙ found)

pub walked_some : (o : Option Mapped) (mapped : Mapped) (w : Option Place) (k : Option Rights) →
    option_map mapped_place o ≡ w →
    option_map rights_of w ≡ k → o ≡ Some mapped →
    Some (record { write = mapped.write; user = mapped.user; fetch = mapped.fetch }) ≡ k
walked_some o mapped w k walked found is = ap (option_map rights_of) (ap (option_map mapped_place) (sym is)) ∙ (ap (option_map rights_of) walked ∙ found)

-- byte b of a word is the one that its bytes have there
pub le_byte : (word b : ℕ) → b < 8 → slice_index (to_le_bytes w64 word) b ≡ byte_of word b
le_byte word zero less = omega arith
le_byte word (suc zero) less = omega arith
le_byte word (suc (suc zero)) less = omega arith
le_byte word (suc (suc (suc zero))) less = omega arith
le_byte word (suc (suc (suc (suc zero)))) less = omega arith
le_byte word (suc (suc (suc (suc (suc zero))))) less = omega arith
le_byte word (suc (suc (suc (suc (suc (suc zero)))))) less = omega arith
le_byte word (suc (suc (suc (suc (suc (suc (suc zero))))))) less = omega arith
le_byte word (suc (suc (suc (suc (suc (suc (suc (suc b)))))))) less = absurd (omega arith)

pub word_canonical : (at : ℕ) → IsTrue (is_canonical at) → IsTrue (is_canonical (at - at % 8))
word_canonical at canonical =
    let same : (at - at % 8) / 2 ^ 47 ≡ at / 2 ^ 47 = omega arith in
    ap (λ q. nat_eq q 0 || nat_eq q (2 ^ 17 - 1)) same ∙ canonical
