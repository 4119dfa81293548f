-- The one extent that a test finds, if there is one.
use Rattle.dlmalloc.proofs.Names.{◌≡◌, ℕ, ◌+◌, ◌<◌, ◌≤◌, inl, inr, Bool, true, false, ◌==◌, if◌then◌else◌, List, [], ◌∷◌, Some, None, refl, sym, ◌∙◌, ap, arith, find, nat_tests, Grant, Extent, extent_at, extents_in, is_free_below_top, has, segments_of, state_of, IsSound, Dlmalloc}
use Rattle.dlmalloc.proofs.Extents.Lookup.{nat_is, nat_same, the_extent, found_here}
use Rattle.dlmalloc.proofs.Extents.OneMoreUsed.{AreDistinct}
use Rattle.dlmalloc.proofs.Extents.Disjoint.{beside}
use Rattle.dlmalloc.proofs.Segments.Among.{all_distinct, distinct_later}

pub find_only : (is : Extent → Bool) (extents : List Extent) {one : Extent} → AreDistinct extents → extent_at one.at extents ≡ Some one → is one
    ≡ true → ((other : Extent) → extent_at other.at extents ≡ Some other → is other ≡ true → other.at ≡ one.at) → find is extents ≡ Some one
find_only is [] distinct there holds only = absurd (cc)
find_only is (first ∷ extents) {one} distinct there holds only =
    go (is first) refl (first.at == one.at) refl there (λ found. find_only is extents distinct.1 found holds
    (λ other found' test. only other (distinct_later (first ∷ []) extents other.at distinct found') test))
  where
    go : (a : Bool) → is first ≡ a → (b : Bool) → (first.at == one.at) ≡ b → (if b then Some first else extent_at one.at extents) ≡ Some one →
        (extent_at one.at extents ≡ Some one → find is extents ≡ Some one) → (if a then Some first else find is extents) ≡ Some one
    go true test true same found rest = found
    go true test false other found rest = absurd (let place = only first (found_here first extents) test in
        let no : (first.at == one.at) ≡ true = ap (λ n. n == one.at) place ∙ nat_same one.at in let both = sym no ∙ other in cc)
    go false test true same found rest = absurd (let both = sym test ∙ (ap is (the_extent found) ∙ holds) in cc)
    go false test false other found rest = rest found

pub find_none : (is : Extent → Bool) (extents : List Extent) → AreDistinct extents →
    ((other : Extent) → extent_at other.at extents ≡ Some other → is other ≡ true → ⊥) → find is extents ≡ None
find_none is [] distinct none = refl
find_none is (first ∷ extents) distinct none =
    go (is first) refl (find_none is extents distinct.1 (λ other found holds. none other (distinct_later (first ∷ []) extents other.at distinct found) holds))
  where
    go : (a : Bool) → is first ≡ a → find is extents ≡ None → (if a then Some first else find is extents) ≡ None
    go true test rest = absurd (none first (found_here first extents) test)
    go false test rest = rest

-- no free extent has a byte of one that is none
pub none_has : {A : Type 0} {regions : A → List Grant} {word : A → ℕ → ℕ} {heap : Dlmalloc A} → IsSound regions word heap → {one : Extent} →
    extent_at one.at (extents_in (state_of word heap)) ≡ Some one → is_free_below_top one.kind ≡ false → (k : ℕ) → one.at ≤ k → k < one.at + one.size →
    find (has k) (extents_in (state_of word heap)) ≡ None
none_has {regions} {word} {heap} sound {one} there plain k low high = find_none (has k) (extents_in (state_of word heap))
    (all_distinct (regions heap.system) (word heap.system) (segments_of word heap) sound.segments sound.apart) none
  where
    none : (other : Extent) → extent_at other.at (extents_in (state_of word heap)) ≡ Some other → has k other ≡ true → ⊥
    none other found test = go (one.at == other.at) refl
      where
        go : (b : Bool) → (one.at == other.at) ≡ b → ⊥
        go true same =
            let is : one ≡ other = the_extent (sym there ∙ (ap (λ a. extent_at a (extents_in (state_of word heap))) (nat_is same) ∙ found)) in
            let kind : is_free_below_top other.kind ≡ false = ap (λ e. is_free_below_top e.kind) (sym is) ∙ plain in
            grind (arith, nat_tests)
        go false differ = elim (beside (regions heap.system) (word heap.system) (segments_of word heap) sound.segments sound.apart there found (λ same.
            (let no : (one.at == other.at) ≡ true = (let e = same in grind (arith, nat_tests)) in cc))) [
              | inl before ↦ (let from : other.at ≤ k = grind (arith, nat_tests) in omega arith)
              | inr behind ↦ (let to : k < other.at + other.size = grind (arith, nat_tests) in omega arith)
            ]
