-- Lists with one extent in use more.
use Rattle.dlmalloc.proofs.Names.{◌≡◌, ◌≢◌, ℕ, ◌+◌, ◌<◌, ◌≤◌, ◌⊎◌, inl, inr, Bool, true, false, ◌==◌, if◌then◌else◌, List, [], ◌∷◌, ◌++◌, Option, Some, None, refl, sym, ◌∙◌, ap, subst, arith, append_assoc, ⊤, filter-append, nat_tests, Extent, Kind, Used, is_used, HeapState, extents_in, HasOneMore, Tiles, used_of, HasMore}
use Rattle.dlmalloc_chunks.specs.Tiling.{extent_at}
use Rattle.dlmalloc.proofs.Extents.Lookup.{nat_is, nat_same, nat_isnt, the_extent, found_either, found_more}
use Rattle.dlmalloc.proofs.Extents.Tiling.{sized, tiles_le}

pub used_append : (front back : List Extent) → used_of (front ++ back) ≡ used_of front ++ used_of back
used_append front back = filter-append (λ extent. is_used extent.kind) front back

-- so it is between others
pub more_between : (front : List Extent) {less more : List Extent} (back : List Extent) {one : Extent} → HasMore less more one →
    HasMore (front ++ (less ++ back)) (front ++ (more ++ back)) one
more_between front {less} {more} back h = record {
  front = used_of front ++ h.front;
  back = h.back ++ used_of back;
  fewer = used_append front (less ++ back) ∙ (ap (λ l. used_of front ++ l) (used_append less back ∙ ap (λ l. l ++ used_of back) h.fewer) ∙ simp append_assoc);
  further = used_append front (more ++ back) ∙ (ap (λ l. used_of front ++ l)
      (used_append more back ∙ ap (λ l. l ++ used_of back) h.further) ∙ simp append_assoc);
}

-- ---- each extent begins at an address of its own

abbrev pub AreDistinct : List Extent → Type 0
AreDistinct [] = ⊤
AreDistinct (extent ∷ extents) = (extent_at extent.at extents ≡ None) × AreDistinct extents

pub distinct_second : (front back : List Extent) → AreDistinct (front ++ back) → AreDistinct back
distinct_second [] back apart = apart
distinct_second (first ∷ front) back apart = distinct_second front back apart.1

-- what is found after some is found with them
pub distinct_later : (front back : List Extent) (k : ℕ) {extent : Extent} → AreDistinct (front ++ back) →
    extent_at k back ≡ Some extent → extent_at k (front ++ back) ≡ Some extent
distinct_later [] back k distinct there = there
distinct_later (first ∷ front) back k {extent} distinct there = go (first.at == k) refl (distinct_later front back k distinct.1 there)
  where
    go : (b : Bool) → (first.at == k) ≡ b → extent_at k (front ++ back) ≡ Some extent → (if b then Some first else extent_at k (front ++ back)) ≡ Some extent
    go true here later = absurd (let none = subst (λ a. extent_at a (front ++ back) ≡ None) (nat_is here) distinct.0 in let some = later in cc)
    go false other later = later

-- what is found still is, if others stand in the place of some and it is found among them
pub replaced_found : (k : ℕ) {one : Extent} (front less more back : List Extent) → AreDistinct (front ++ (more ++ back)) →
    (extent_at k less ≡ Some one → extent_at k more ≡ Some one) → extent_at k (front ++ (less ++ back)) ≡ Some one →
    extent_at k (front ++ (more ++ back)) ≡ Some one
replaced_found k front less more back distinct stays there = elim (found_either k front (less ++ back) there) [
  | inl first ↦ found_more k front (more ++ back) first
  | inr later ↦ distinct_later front (more ++ back) k distinct (elim (found_either k less back later.1) [
    | inl here ↦ found_more k more back (stays here)
    | inr last ↦ distinct_later more back k (distinct_second front (more ++ back) distinct) last.1
  ])
]

-- none of the extents of a range begins outside of it
pub none_outside : (words : ℕ → ℕ) (before : Kind) (from : ℕ) (extents : List Extent) (to k : ℕ) → (k < from) ⊎ (to ≤ k) →
    Tiles words before from extents to → extent_at k extents ≡ None
none_outside words before from [] to k out h = refl
none_outside words before from (extent ∷ extents) to k out h =
    let long = (sized extent.kind extent.size h.1.size).1 in
    let later = tiles_le words extent.kind (from + extent.size) extents to h.2 in
    let place = h.0 in
    let test : (extent.at == k) ≡ false = nat_isnt (grind arith) in
    rw test (none_outside words extent.kind (from + extent.size) extents to k (grind arith) h.2)

pub tiles_distinct : (words : ℕ → ℕ) (before : Kind) (from : ℕ) (extents : List Extent) (to : ℕ) → Tiles words before from extents to → AreDistinct extents
tiles_distinct words before from [] to h = tt
tiles_distinct words before from (extent ∷ extents) to h =
    let long = (sized extent.kind extent.size h.1.size).1 in let place = h.0 in (
      none_outside words extent.kind (from + extent.size) extents to extent.at (inl (omega arith)) h.2,
      tiles_distinct words extent.kind (from + extent.size) extents to h.2,
    )

-- what is found in use is found among those in use
module _ (k : ℕ) (extent : Extent) (extents : List Extent) where
  abbrev used_later : List Extent
  used_later = used_of extents

  -- the first of them is used or not, and begins there or not
  passed : {found : Option Extent} → (extent.at == k) ≡ false → extent_at k used_later ≡ found → extent_at k (used_of (extent ∷ extents)) ≡ found
  passed {found} other is = go (is_used extent.kind)
    where
      go : (b : Bool) → extent_at k (if b then extent ∷ used_later else used_later) ≡ found
      go true = rw other is
      go false = is

  met : (extent.at == k) ≡ true → is_used extent.kind ≡ true → extent_at k (used_of (extent ∷ extents)) ≡ Some extent
  met here used = rw (used, here) refl

pub used_there : (k : ℕ) (extents : List Extent) {used : Extent} → used.kind ≡ Used → extent_at k extents ≡ Some used →
    extent_at k (used_of extents) ≡ Some used
used_there k [] is there = there
used_there k (extent ∷ extents) {used} is there = go (extent.at == k) refl there (used_there k extents is)
  where
    go : (b : Bool) → (extent.at == k) ≡ b → (if b then Some extent else extent_at k extents) ≡ Some used →
        (extent_at k extents ≡ Some used → extent_at k (used_of extents) ≡ Some used) → extent_at k (used_of (extent ∷ extents)) ≡ Some used
    go true here found later =
        let same = the_extent found in
        met k extent extents here (ap (λ e. is_used e.kind) same ∙ ap is_used is) ∙ found
    go false other found later = passed k extent extents other (later found)

none_used : (k : ℕ) (extents : List Extent) → extent_at k extents ≡ None → extent_at k (used_of extents) ≡ None
none_used k [] none = none
none_used k (extent ∷ extents) none = go (extent.at == k) refl none (none_used k extents)
  where
    go : (b : Bool) → (extent.at == k) ≡ b → (if b then Some extent else extent_at k extents) ≡ None →
        (extent_at k extents ≡ None → extent_at k (used_of extents) ≡ None) → extent_at k (used_of (extent ∷ extents)) ≡ None
    go true here found later = absurd (cc)
    go false other found later = passed k extent extents other (later found)

-- and the other way round
pub used_back : (k : ℕ) (extents : List Extent) {used : Extent} → AreDistinct extents →
    extent_at k (used_of extents) ≡ Some used → extent_at k extents ≡ Some used
used_back k [] apart there = there
used_back k (extent ∷ extents) {used} apart there =
    go (is_used extent.kind) there (λ found. distinct_later (extent ∷ []) extents k apart (used_back k extents apart.1 found))
  where
    here : (b : Bool) → (extent.at == k) ≡ b → (if b then Some extent else extent_at k (used_of extents)) ≡ Some used →
        (extent_at k (used_of extents) ≡ Some used → extent_at k (extent ∷ extents) ≡ Some used) → extent_at k (extent ∷ extents) ≡ Some used
    here true is found later = rw is found
    here false isnt found later = later found

    go : (u : Bool) → extent_at k (if u then extent ∷ used_of extents else used_of extents) ≡ Some used →
        (extent_at k (used_of extents) ≡ Some used → extent_at k (extent ∷ extents) ≡ Some used) → extent_at k (extent ∷ extents) ≡ Some used
    go true found later = here (extent.at == k) refl found later
    go false found later = later found

-- those in use are distinct
used_distinct : (extents : List Extent) → AreDistinct extents → AreDistinct (used_of extents)
used_distinct [] apart = tt
used_distinct (extent ∷ extents) apart = go (is_used extent.kind) (used_distinct extents apart.1)
  where
    go : (b : Bool) → AreDistinct (used_of extents) → AreDistinct (if b then extent ∷ used_of extents else used_of extents)
    go true later = (none_used extent.at extents apart.0, later)
    go false later = later

-- ---- one in use more

is_there : (front back : List Extent) (one : Extent) → extent_at one.at (front ++ one ∷ back) ≡ None → ⊥
is_there [] back one none = (let some : extent_at one.at (one ∷ back) ≡ Some one = rw (nat_same one.at) refl in cc)
is_there (first ∷ front) back one none = go (first.at == one.at) none (is_there front back one)
  where
    go : (b : Bool) → (if b then Some first else extent_at one.at (front ++ one ∷ back)) ≡ None → (extent_at one.at (front ++ one ∷ back) ≡ None → ⊥) → ⊥
    go true gone later = cc
    go false gone later = later gone

-- in a list of distinct extents one of them is found where it begins, and there alone
none_beside : (front back : List Extent) (one : Extent) → AreDistinct (front ++ one ∷ back) → extent_at one.at (front ++ back) ≡ None
none_beside [] back one apart = apart.0
none_beside (first ∷ front) back one apart = go (first.at == one.at) refl (none_beside front back one apart.1)
  where
    go : (b : Bool) → (first.at == one.at) ≡ b → extent_at one.at (front ++ back) ≡ None → (if b then Some first else extent_at one.at (front ++ back)) ≡ None
    go true here later = absurd (is_there front back one (subst (λ a. extent_at a (front ++ one ∷ back) ≡ None) (nat_is here) apart.0))
    go false other later = later

-- others are found as before
found_beside : (k : ℕ) (front back : List Extent) (one : Extent) → one.at ≢ k → extent_at k (front ++ one ∷ back) ≡ extent_at k (front ++ back)
found_beside k [] back one apart = (let test : (one.at == k) ≡ false = grind (arith, nat_tests) in rw test refl)
found_beside k (first ∷ front) back one apart = ap (λ o. if first.at == k then Some first else o) (found_beside k front back one apart)

pub one_more : (fewer further : HeapState) {one : Extent} → AreDistinct (extents_in fewer) → AreDistinct (extents_in further) →
    HasMore (extents_in fewer) (extents_in further) one → HasOneMore fewer further one.at
one_more fewer further {one} apart apart' h = record {
  kept = λ used is there.
      let among = ap (extent_at used.at) (sym h.fewer) ∙ used_there used.at (extents_in fewer) is there in
      used_back used.at (extents_in further) apart' (ap (extent_at used.at) h.further
      ∙ (found_beside used.at h.front h.back one (λ same. none used.at same used among) ∙ among));
  only = λ used is there other.
      let among = ap (extent_at used.at) (sym h.further) ∙ used_there used.at (extents_in further) is there in
      used_back used.at (extents_in fewer) apart (ap (extent_at used.at) h.fewer
      ∙ (sym (found_beside used.at h.front h.back one (λ same. other (sym same))) ∙ among));
  new = λ used is there same. none used.at (sym same) used (ap (extent_at used.at) (sym h.fewer) ∙ used_there used.at (extents_in fewer) is there);
}
  where
    none : (k : ℕ) → one.at ≡ k → (used : Extent) → extent_at k (h.front ++ h.back) ≡ Some used → ⊥
    none k same used there =
        let gone = none_beside h.front h.back one (subst AreDistinct h.further (used_distinct (extents_in further) apart')) in
        let here = subst (λ a. extent_at a (h.front ++ h.back) ≡ None) same gone in
        cc
