-- A request was granted, or refused: what a heap over the system sees of it.
use Rattle.std.proofs.Common.{◌≡◌, ℕ, ◌+◌, ◌-◌, ◌/◌, ◌%◌, ◌^◌, ◌<◌, ◌≤◌, Result, Ok, Err, IfOk, IfErr, OnErr, map, refl, sym, ap, ◌∙◌, subst, arith, Some}
use Rattle.std.specs.List.{AllByRecursion}
use Rattle.paging_core.specs.Walk.{walk_of, place_with as granted_place}
use Rattle.paging_core.specs.PageBits.{bits_of}
use Rattle.heap_memory.specs.declared.grant.Grant.{Grant}
use Rattle.heap_memory.specs.declared.grant.GrantFault.{GrantFault}
use Rattle.heap_memory.specs.Regions.{IsWordOf, IsApart, IsGoodGrant, with_grant}
use Rattle.machine_model.specs.Request.{pages_in}
use Rattle.machine_model.specs.Room.{heap_region, heap_rights}
use Rattle.machine_model.specs.Machine.{Paged, OnlyHeapBytesChange}
use Rattle.paged_systems.specs.Follows.{still_none}
use Rattle.paged_systems.specs.Grants.{IsGrantSeen, IsDenialSeen}
use Rattle.paged_systems.specs.Layout.{IsPagedKept, IsGrantedFor, MayDeny}
use Rattle.paged_systems.specs.Words.{heap_regions, grant_of, grants_of}
use Rattle.mapped_regions.specs.Mapped.{word_reached}
use Rattle.paged_systems.proofs.HeapRegions.{apart_from, heap_joined, grants_joined}
use Rattle.paged_systems.proofs.Pages.{pages_hold}
use Rattle.paged_systems.proofs.Still.{word_at_place}
use Rattle.paged_systems.proofs.WordsStay.{words_added}

module _ (old new : Paged) (asked : ℕ) (grant : Grant) (kept : IsPagedKept old) (is : IsGrantedFor old new asked grant) where
  -- the grant is the region
  grant_is : grant ≡ grant_of (heap_region grant.base (pages_in asked))
  grant_is i = record { base = grant.base; size = is.size i; flags = is.flags i }

  pub good : IsGoodGrant asked grant
  good =
      let s = is.size in
      let holds = pages_hold asked in
      let whole = is.can.place.fit.aligned in
      let from = is.can.place.fit.from in
      let first = kept.window.after_first in
      let last = kept.window.before_last in
      let inside = is.can.place.fit.within in
      record { long = omega arith; base_aligned = omega arith; size_aligned = omega arith; low = omega arith; high = omega arith }

  pub apart : AllByRecursion (IsApart grant.base (grant.base + grant.size)) (grants_of old)
  apart = subst (λ (size : ℕ). AllByRecursion (IsApart grant.base (grant.base + size)) (grants_of old)) (sym is.size)
      (apart_from grant.base (pages_in asked) old.regions is.can.place.fit.clear)

  pub regions : grants_of new ≡ with_grant grant (grants_of old)
  regions =
      ap (λ regions. map grant_of (heap_regions regions)) is.granted.regions
      ∙ (ap (map grant_of) (heap_joined (heap_region grant.base (pages_in asked)) 0 (2 ^ 64) old.regions kept.laid refl)
      ∙ (grants_joined (heap_region grant.base (pages_in asked)) (heap_regions old.regions) ∙ ap (λ (g : Grant). with_grant g (grants_of old)) (sym grant_is)))

  -- its words are zero
  pub zeros : (at : ℕ) → grant.base ≤ at → at < grant.base + grant.size → at % 8 ≡ 0 → word_reached new at ≡ 0
  zeros at low high multiple =
      let s = is.size in
      let whole = is.can.place.fit.aligned in
      let page = is.granted.grant.added.mapped (at / 4096 - grant.base / 4096) (omega arith) in
      let same : grant.base / 4096 + (at / 4096 - grant.base / 4096) ≡ at / 4096 = omega arith in
      let found : walk_of new.words new.root (at / 4096) ≡ Some (granted_place page.frame (bits_of heap_rights)) =
      ap (λ (r : ℕ). walk_of new.words r (at / 4096)) is.granted.grant.root ∙ (ap (walk_of new.words old.root) (sym same) ∙ page.found) in
      word_at_place new at (granted_place page.frame (bits_of heap_rights)) found ∙ page.zeros (at % 4096 / 8) (omega arith)

  -- and every other granted word stays
  pub words : (at : ℕ) → IsWordOf (grants_of old) at → word_reached new at ≡ word_reached old at
  words = words_added old new grant.base (pages_in asked) heap_rights kept is.granted.grant

  -- so a heap sees it
  pub granted : IsGrantSeen old new asked grant
  granted = record { good = good; apart = apart; flags = is.flags; regions = regions; zeros = zeros; follows = (old, new, still_none old, is, still_none new) }

-- the words stay whatever is answered
pub words_stay : (old new : Paged) (asked : ℕ) (answer : Result Grant GrantFault) → IsPagedKept old →
    IfOk answer (λ grant. IsGrantedFor old new asked grant) → OnErr answer (new ≡ old) →
    (at : ℕ) → IsWordOf (grants_of old) at → word_reached new at ≡ word_reached old at
words_stay old new asked (Ok grant) kept ok err at word = words old new asked grant kept ok at word
words_stay old new asked (Err fault) kept ok err at word = ap (λ p. word_reached p at) err

-- a refusal is an event that changes nothing
pub denied : (old new : Paged) (asked : ℕ) (answer : Result Grant GrantFault) → OnErr answer (new ≡ old) →
    IfErr answer (λ fault. MayDeny old asked fault) → IfErr answer (λ fault. IsDenialSeen old new asked fault)
denied old new asked (Ok grant) same lacks = tt
denied old new asked (Err fault) same lacks = record { may = lacks; follows = (old, still_none old, lacks, subst (OnlyHeapBytesChange old) (sym same) (still_none old)) }
