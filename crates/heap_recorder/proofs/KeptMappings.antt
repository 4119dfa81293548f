-- Regions of the user, and the places that are kept of them.
use Rattle.std.proofs.Common.{◌≡◌, ℕ, zero, suc, ◌+◌, Bool, true, false, ◌&&◌, nat_eq, List, [], ◌∷◌, ◌++◌, length, inl, inr, Option, None, Some, refl, sym, ◌∙◌, ap, arith}
use Rattle.std.specs.Prelude.{if◌then◌else◌, find, slice_get, slice_set, is_some, cond}
use Rattle.std.specs.BTreeMap.{BTreeMap, get, is_at}
use Rattle.std.specs.declared.cmp.Ordering.{Ordering}
use Rattle.std.specs.declared.cmp.Ordering.TheVariants.{Less, Equal, Greater}
use Rattle.std.specs.Ordering.{nat_cmp, is_eq}
use Rattle.std.proofs.lemmas.Map.Lookups.{exact_unsigned}
use Rattle.std.proofs.lemmas.Bool.Decides.{nat_tests}
use Rattle.heap_history.specs.declared.history.Mapping.{Mapping}
use Rattle.machine_model.specs.declared.region.Region.{Region}
use Rattle.heap_recorder.specs.Mappings.{is_mapped, is_mapped_from, new_mapping, ended, with_mapping, mapped_from, with_mapping_ended, unmapped_if, ArePlacesByStart}
use Rattle.heap_recorder.specs.Places.{OnlyAt}
use Rattle.heap_recorder.proofs.Places.{some_is, none_some, not_true, not_both, get_push, get_set, IsMissed, Keeps, missed_none, missed_past, missed_at, map_missed, find_missed, map_at, find_at}

same_number : (m n : ℕ) → nat_eq m n ≡ true → m ≡ n
same_number m n same = grind (arith, nat_tests, same)

left_true : (a b : Bool) → (a && b) ≡ true → a ≡ true
left_true true b both = refl
left_true false b both = both

right_true : (a b : Bool) → (a && b) ≡ true → b ≡ true
right_true true b both = both
right_true false b both = absurd (let wrong : false ≡ true = both in cc)

pub only_from : (mappings : List Mapping) (places : BTreeMap ℕ ℕ) (start : ℕ) (place : Option ℕ) →
    ArePlacesByStart mappings places → get nat_cmp places start ≡ place → OnlyAt (is_mapped_from start) mappings place
only_from mappings places start place are is k mapping at begins =
    sym is
    ∙ ap (get nat_cmp places) (sym (same_number mapping.region.start start (right_true (is_mapped mapping) (nat_eq mapping.region.start start) begins)))
    ∙ are k mapping at (left_true (is_mapped mapping) (nat_eq mapping.region.start start) begins)

-- no region is mapped from there on
pub missed_start : (mappings : List Mapping) (places : BTreeMap ℕ ℕ) (start : ℕ) → ArePlacesByStart mappings places →
    get nat_cmp places start ≡ None → IsMissed (is_mapped_from start) mappings
missed_start mappings places start are is = missed_none (is_mapped_from start) mappings None (only_from mappings places start None are is) refl

pub missed_past_end : (mappings : List Mapping) (places : BTreeMap ℕ ℕ) (start place : ℕ) →
    ArePlacesByStart mappings places → get nat_cmp places start ≡ Some place → slice_get mappings place ≡ None →
    IsMissed (is_mapped_from start) mappings
missed_past_end mappings places start place are is none = missed_past (is_mapped_from start) mappings place
    (only_from mappings places start (Some place) are is) none

pub has_none : (start : ℕ) (mappings : List Mapping) → IsMissed (is_mapped_from start) mappings → false ≡ is_some (find (is_mapped_from start) mappings)
has_none start mappings missed = ap (λ (o : Option Mapping). is_some o) (sym (find_missed (is_mapped_from start) mappings missed))

pub has_at : (mappings : List Mapping) (places : BTreeMap ℕ ℕ) (start place : ℕ) (mapping : Mapping) (b : Bool) →
    ArePlacesByStart mappings places → get nat_cmp places start ≡ Some place → slice_get mappings place ≡ Some mapping →
    b ≡ is_mapped_from start mapping →
    b ≡ is_some (find (is_mapped_from start) mappings)
has_at mappings places start place mapping b are is at begins = begins ∙ go (is_mapped_from start mapping) refl
  where
    only : OnlyAt (is_mapped_from start) mappings (Some place)
    only = only_from mappings places start (Some place) are is

    go : (v : Bool) → is_mapped_from start mapping ≡ v → v ≡ is_some (find (is_mapped_from start) mappings)
    go true is = ap (λ (o : Option Mapping). is_some o) (sym (find_at (is_mapped_from start) mappings place mapping only at
        is))
    go false is = has_none start mappings (missed_at (is_mapped_from start) mappings place mapping only at is)

pub mapped_not : (call : ℕ) (region : Region) (large : ℕ) (mappings : List Mapping) →
    true ≡ is_some (find (is_mapped_from region.start) mappings) → mappings ≡ with_mapping call region large mappings
mapped_not call region large mappings has = go (find (is_mapped_from region.start) mappings) has
  where
    go : (o : Option Mapping) → true ≡ is_some o → mappings ≡ mapped_from call region large o mappings
    go None wrong = absurd (let other : true ≡ false = wrong in cc)
    go (Some mapping) is = refl

pub mapped_new : (call : ℕ) (region : Region) (large : ℕ) (mappings : List Mapping) →
    false ≡ is_some (find (is_mapped_from region.start) mappings) → mappings ++ new_mapping call region
    large ∷ [] ≡ with_mapping call
    region large mappings
mapped_new call region large mappings has = go (find (is_mapped_from region.start) mappings) has
  where
    go : (o : Option Mapping) → false ≡ is_some o → mappings ++ new_mapping call region large ∷ [] ≡ mapped_from call region large o mappings
    go None is = refl
    go (Some mapping) wrong = absurd (let other : false ≡ true = wrong in cc)

-- one whose end is 0 and that begins there is what would be found
not_found : (start : ℕ) (x : Mapping) (xs : List Mapping) → false ≡ is_some (find (is_mapped_from start) (x ∷ xs)) →
    (is_mapped_from start x ≡ false) × (false ≡ is_some (find (is_mapped_from start) xs))
not_found start x xs none = go (is_mapped_from start x) refl none
  where
    go : (v : Bool) → is_mapped_from start x ≡ v → false ≡ is_some (cond {A = Option Mapping} v (Some x)
        (find (is_mapped_from start) xs)) → (is_mapped_from start x ≡ false) × (false ≡ is_some
        (find (is_mapped_from start) xs))
    go true is wrong = absurd (let other : false ≡ true = wrong in cc)
    go false is rest = (is, rest)

pub missed_is : (start : ℕ) (mappings : List Mapping) → false ≡ is_some (find (is_mapped_from start) mappings) → IsMissed (is_mapped_from start) mappings
missed_is start [] none k mapping at begins = none_some mapping at
missed_is start (x ∷ xs) none zero mapping at begins = not_both (is_mapped_from start mapping) begins
    (ap (is_mapped_from start) (sym (some_is x mapping at)) ∙ (not_found start x xs none).0)
missed_is start (x ∷ xs) none (suc k) mapping at begins = missed_is start xs (not_found start x xs none).1 k mapping at begins

is_equal : (o : Ordering) → is_eq o ≡ true → o ≡ Equal
is_equal Less is = absurd (cc)
is_equal Equal is = refl
is_equal Greater is = absurd (cc)

same_at : (a b : ℕ) → is_at (nat_cmp a) b ≡ true → a ≡ b
same_at a b is = exact_unsigned a b (is_equal (nat_cmp a b) is)

begins : (start : ℕ) (mapping : Mapping) → is_mapped mapping ≡ true → start ≡ mapping.region.start → is_mapped_from start mapping ≡ true
begins start mapping is same = grind (arith, nat_tests, is, same)

-- by another start the same place is found as before
pub others_found : (mappings : List Mapping) (places new : BTreeMap ℕ ℕ) (start place : ℕ) →
    ArePlacesByStart mappings places → IsMissed (is_mapped_from start) mappings →
    ((q : ℕ) → is_at (nat_cmp start) q ≡ false → get nat_cmp new q ≡ get nat_cmp places q) → ArePlacesByStart mappings new
others_found mappings places new start place are missed others k mapping at is =
    others mapping.region.start (not_true (is_at (nat_cmp start) mapping.region.start)
    (λ same. missed k mapping at (begins start mapping is (same_at start mapping.region.start same))))
    ∙ are k mapping at is

pub places_mapped : (mappings : List Mapping) (new : BTreeMap ℕ ℕ) (place : ℕ) (put : Mapping) →
    ArePlacesByStart mappings new → place ≡ length mappings → get nat_cmp new put.region.start ≡ Some place →
    ArePlacesByStart (mappings ++ put ∷ []) new
places_mapped mappings new place put are last is k mapping at mapped = elim (get_push mappings put k mapping at) [
  | inl old ↦ are k mapping old mapped
  | inr added ↦ ap (λ (m : Mapping). get nat_cmp new m.region.start) (sym added.1) ∙ is ∙ ap (λ (n : ℕ). Some n) (last ∙ sym added.0)
]

keeps_unmapped : (call start pages : ℕ) → Keeps (is_mapped_from start) (unmapped_if call start pages)
keeps_unmapped call start pages mapping fails = ap (λ (b : Bool). if b && nat_eq mapping.region.pages pages then ended call mapping else mapping) fails

pub unmapped_none : (call start pages : ℕ) (mappings : List Mapping) → IsMissed (is_mapped_from start) mappings →
    mappings ≡ with_mapping_ended call start pages mappings
unmapped_none call start pages mappings missed = sym (map_missed (is_mapped_from start) (unmapped_if call start pages)
    mappings
    (keeps_unmapped call start pages) missed)

pub unmapped_at : (mappings : List Mapping) (places : BTreeMap ℕ ℕ) (call start pages place : ℕ) (mapping end : Mapping) →
    ArePlacesByStart mappings places → get nat_cmp places start ≡ Some place → slice_get mappings place ≡ Some mapping →
    end ≡ unmapped_if call start pages mapping →
    slice_set mappings place end ≡ with_mapping_ended call start pages mappings
unmapped_at mappings places call start pages place mapping end are is at ends =
    ap (slice_set mappings place) ends
    ∙ sym (map_at (is_mapped_from start) (unmapped_if call start pages) mappings place mapping
    (keeps_unmapped call start pages)
    (only_from mappings places start (Some place) are is) at)

-- what is still mapped then was so before, from the same address on
unmapped_was : (call start pages : ℕ) (mapping : Mapping) → is_mapped (unmapped_if call start pages mapping) ≡ true →
    (is_mapped mapping ≡ true) × ((unmapped_if call start pages mapping).region.start ≡ mapping.region.start)
unmapped_was call start pages mapping is = go (is_mapped_from start mapping && nat_eq mapping.region.pages pages) refl is
  where
    go : (b : Bool) → (is_mapped_from start mapping && nat_eq mapping.region.pages pages) ≡ b →
        is_mapped (if b then ended call mapping else mapping) ≡ true → (is_mapped
        mapping ≡ true) × ((if b then ended call mapping else mapping).region.start ≡ mapping.region.start)
    go true both is = (
      left_true (is_mapped mapping) (nat_eq mapping.region.start start)
          (left_true (is_mapped_from start mapping) (nat_eq mapping.region.pages pages) both),
      refl,
    )
    go false none is = (is, refl)

pub places_unmapped : (mappings : List Mapping) (places : BTreeMap ℕ ℕ) (call start pages place : ℕ)
    (mapping end : Mapping) → ArePlacesByStart mappings places → slice_get mappings place ≡ Some mapping →
    end ≡ unmapped_if call start pages mapping → ArePlacesByStart (slice_set mappings place end) places
places_unmapped mappings places call start pages place mapping end are is ends k one at mapped = elim (get_set mappings place end k one at) [
  | inl here ↦
      (let same : one ≡ unmapped_if call start pages mapping = sym here.1 ∙ ends in
      let was = unmapped_was call start pages mapping (ap is_mapped (sym same) ∙ mapped) in
      ap (get nat_cmp places) (ap (λ (m : Mapping). m.region.start) same ∙ was.1) ∙ are place mapping is was.0 ∙ ap (λ (n : ℕ). Some n) (sym here.0))
  | inr other ↦ are k one other.0 mapped
]
