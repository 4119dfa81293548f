-- Where blocks begin, by the extents that are in use, and how many they are.
use Rattle.std.specs.Prelude.{◌≡◌, ◌≢◌, ℕ, ◌+◌, ◌-◌, ◌^◌, ◌<◌, ◌≤◌, ◌==◌, ◌||◌, Bool, true, false, if◌then◌else◌, List, [], ◌∷◌, Some, None}
use Rattle.std.proofs.Common.{◌∙◌, ap, sym, subst, refl, inl, inr, ◌⊎◌, arith}
use Rattle.std.proofs.lemmas.Bool.{cases_Bool, or_cases}
use Rattle.std.proofs.lemmas.Bool.Decides.{nat_tests}
use Rattle.std.proofs.lemmas.List.Recursion.{is_count_by}
use Rattle.heap_memory.specs.declared.grant.Grant.{Grant}
use Rattle.dlmalloc_chunks.specs.declared.extent.Extent.{Extent}
use Rattle.dlmalloc_chunks.specs.declared.extent.Kind.{Kind}
use Rattle.dlmalloc_chunks.specs.declared.extent.Kind.TheVariants.{Used, Free, Victim, Top, Record, Foot}
use Rattle.dlmalloc.specs.Extents.{extent_at}
use Rattle.dlmalloc.specs.Heap.{state_of, segments_of, IsSound}
use Rattle.dlmalloc.specs.State.{extents_in}
use Rattle.dlmalloc.specs.Walk.{IsAmong}
use Rattle.dlmalloc.specs.declared.heap.Dlmalloc.{Dlmalloc}
use Rattle.dlmalloc.proofs.Extents.Least.{among_found}
use Rattle.dlmalloc.proofs.Extents.OneMoreUsed.{AreDistinct}
use Rattle.dlmalloc.proofs.Laws.{used_inside}
use Rattle.dlmalloc.proofs.Segments.Among.{all_distinct}
use Rattle.sound_heap.specs.Heap.{HasBlock}
use Rattle.checked_heap.specs.Counted.{count_below, is_of_block, HasBlocks}
use Rattle.checked_heap.proofs.Counting.{counted_alike, counted_more, counted_none, counted_same}

-- whether the block of one of these extents begins at an address
abbrev begins_block : List Extent → ℕ → Bool
begins_block [] address = false
begins_block (extent ∷ extents) address = if is_of_block extent.kind then extent.at + 16 == address || begins_block extents address else begins_block extents address

-- how many of them are in use
abbrev used_among : List Extent → ℕ
used_among [] = 0
used_among (extent ∷ extents) = if is_of_block extent.kind then 1 + used_among extents else used_among extents

-- an extent in use is of one kind
used_is : (kind : Kind) → is_of_block kind ≡ true → kind ≡ Used
used_is Used is = refl
used_is Free is = let no : false ≡ true = is in absurd cc
used_is Victim is = let no : false ≡ true = is in absurd cc
used_is Top is = let no : false ≡ true = is in absurd cc
used_is Record is = let no : false ≡ true = is in absurd cc
used_is Foot is = let no : false ≡ true = is in absurd cc

-- where none of them begins, no block does
none_begins : (extents : List Extent) (at : ℕ) → extent_at at extents ≡ None → begins_block extents (at + 16) ≡ false
none_begins [] at none = refl
none_begins (extent ∷ extents) at none = go (is_of_block extent.kind) (extent.at == at) refl none (none_begins extents at)
  where
    go : (used here : Bool) → (extent.at == at) ≡ here → (if here then Some extent else extent_at at extents) ≡ None →
        (extent_at at extents ≡ None → begins_block extents (at + 16) ≡ false) →
        (if used then extent.at + 16 == at + 16 || begins_block extents (at + 16) else begins_block extents (at + 16)) ≡ false
    go used true is found rest = absurd cc
    go false false is found rest = rest found
    go true false is found rest =
        let other : (extent.at + 16 == at + 16) ≡ false = grind (arith, nat_tests) in
        let later = rest found in
        rw other later

-- where the block of one of them begins, that one is found
some_begins : (extents : List Extent) (address : ℕ) → begins_block extents address ≡ true →
    (extent : Extent) × IsAmong extent extents × (extent.kind ≡ Used) × (extent.at + 16 ≡ address)
some_begins [] address is = absurd cc
some_begins (first ∷ extents) address is = go (is_of_block first.kind) refl is (some_begins extents address)
  where
    go : (used : Bool) → is_of_block first.kind ≡ used → (if used then first.at + 16 == address || begins_block extents address else begins_block extents address) ≡ true →
        (begins_block extents address ≡ true → (extent : Extent) × IsAmong extent extents × (extent.kind ≡ Used) × (extent.at + 16 ≡ address)) →
        (extent : Extent) × IsAmong extent (first ∷ extents) × (extent.kind ≡ Used) × (extent.at + 16 ≡ address)
    go false kind is rest = let r = rest is in (r.0, inr r.1, r.2, r.3)
    go true kind is rest = elim (or_cases (first.at + 16 == address) (begins_block extents address) is) [
      | inl here ↦ (first, inl refl, used_is first.kind kind, grind (arith, nat_tests))
      | inr later ↦ (let r = rest later in (r.0, inr r.1, r.2, r.3))
    ]

-- and where one that is in use is found, its block begins
found_begins : (extents : List Extent) (at : ℕ) (one : Extent) → extent_at at extents ≡ Some one → one.kind ≡ Used → begins_block extents (at + 16) ≡ true
found_begins [] at one there used = absurd cc
found_begins (first ∷ extents) at one there used = go (first.at == at) refl there (is_of_block first.kind) refl (λ later. found_begins extents at one later used)
  where
    go : (here : Bool) → (first.at == at) ≡ here → (if here then Some first else extent_at at extents) ≡ Some one → (b : Bool) → is_of_block first.kind ≡ b →
        (extent_at at extents ≡ Some one → begins_block extents (at + 16) ≡ true) →
        (if b then first.at + 16 == at + 16 || begins_block extents (at + 16) else begins_block extents (at + 16)) ≡ true
    go true is found true kind rest =
        let here : (first.at + 16 == at + 16) ≡ true = grind (arith, nat_tests) in
        rw here refl
    go true is found false kind rest =
        let same : first ≡ one = cc in
        let not_used : is_of_block Used ≡ false = ap is_of_block (sym (ap (λ (e : Extent). e.kind) same ∙ used)) ∙ kind in
        absurd cc
    go false is found false kind rest = rest found
    go false is found true kind rest = go_or (first.at + 16 == at + 16) (begins_block extents (at + 16)) (rest found)
      where
        go_or : (a b : Bool) → b ≡ true → (a || b) ≡ true
        go_or true b is = refl
        go_or false b is = is

-- So many addresses begin a block as extents are in use.
counted_extents : (extents : List Extent) (n : ℕ) → AreDistinct extents → ((one : Extent) → one.kind ≡ Used → IsAmong one extents → one.at + 16 < n) →
    count_below (begins_block extents) n ≡ used_among extents
counted_extents [] n distinct low = counted_none (begins_block []) n (λ k. refl)
counted_extents (first ∷ extents) n distinct low = go (cases_Bool (is_of_block first.kind)) (counted_extents extents n distinct.1 (λ one used among. low one used (inr among)))
  where
    go : (is_of_block first.kind ≡ true) ⊎ (is_of_block first.kind ≡ false) → count_below (begins_block extents) n ≡ used_among extents →
        count_below (begins_block (first ∷ extents)) n ≡ used_among (first ∷ extents)
    go (inl is) rest =
        let one_more = counted_more (begins_block extents) (begins_block (first ∷ extents)) n (first.at + 16)
        (low first (used_is first.kind is) (inl refl)) (none_begins extents first.at distinct.0)
        (rw is (here (begins_block extents (first.at + 16)))) (λ k differ. rw is (beside k differ (begins_block extents k))) in
        one_more ∙ (rw is (omega (arith, rest)))
      where
        here : (b : Bool) → (first.at + 16 == first.at + 16 || b) ≡ true
        here b = let same : (first.at + 16 == first.at + 16) ≡ true = grind (arith, nat_tests) in rw same refl

        beside : (k : ℕ) → k ≢ first.at + 16 → (b : Bool) → (first.at + 16 == k || b) ≡ b
        beside k differ b = let other : (first.at + 16 == k) ≡ false = grind (arith, nat_tests) in rw other refl
    go (inr not) rest = rw not (counted_same (begins_block extents) (begins_block (first ∷ extents)) n (λ k less. rw not refl) ∙ rest)

module _ {A : Type 0} (regions : A → List Grant) (word : A → ℕ → ℕ) (heap : Dlmalloc A) (sound : IsSound regions word heap) where
  distinct : AreDistinct (extents_in (state_of word heap))
  distinct = all_distinct (regions heap.system) (word heap.system) (segments_of word heap) sound.segments sound.apart

  inside : (one : Extent) → one.kind ≡ Used → IsAmong one (extents_in (state_of word heap)) → (32 ≤ one.size) × (one.at + 16 < 2 ^ 64)
  inside one used among =
      let is = used_inside regions word heap sound one used (among_found one (extents_in (state_of word heap)) distinct among) in
      let high = is.high in
      (is.long, omega (arith, high))

  begins_to : (address : ℕ) → begins_block (extents_in (state_of word heap)) address ≡ true → HasBlock (state_of word heap) address
  begins_to address is =
      let it = some_begins (extents_in (state_of word heap)) address is in
      let long = (inside it.0 it.2 it.1).0 in
      let place = it.3 in
      let at : it.0.at ≡ address - 16 = omega (arith, place) in (
        it.0.size - 8,
        record {
          extent = it.0;
          there = ap (λ (k : ℕ). extent_at k (extents_in (state_of word heap))) (sym at) ∙ among_found it.0 (extents_in (state_of word heap)) distinct it.1;
          low = omega (arith, place);
          used = it.2;
          holds = omega (arith, long);
          little = omega (arith, long);
        },
      )

  begins_from : (address : ℕ) → HasBlock (state_of word heap) address → begins_block (extents_in (state_of word heap)) address ≡ true
  begins_from address block =
      let low = block.1.low in
      let same : address - 16 + 16 ≡ address = omega (arith, low) in
      subst (λ (a : ℕ). begins_block (extents_in (state_of word heap)) a ≡ true) same
      (found_begins (extents_in (state_of word heap)) (address - 16) block.1.extent block.1.there block.1.used)

  -- a test that tells where blocks begin counts them
  pub has_blocks : (test : ℕ → Bool) (count : ℕ) → ((a : ℕ) → test a ≡ true → HasBlock (state_of word heap) a) → ((a : ℕ) → HasBlock (state_of word heap) a → test a ≡ true) →
      count ≡ count_below test (2 ^ 64) → HasBlocks (state_of word heap) count
  has_blocks test count to from is =
      is ∙ (counted_alike (HasBlock (state_of word heap)) (begins_block (extents_in (state_of word heap))) test (2 ^ 64) begins_to begins_from to from
      ∙ (counted_extents (extents_in (state_of word heap)) (2 ^ 64) distinct (λ one used among. (inside one used among).1)
      ∙ is_count_by used_among (λ extent. is_of_block extent.kind) refl (λ extent extents. refl) (extents_in (state_of word heap))))
