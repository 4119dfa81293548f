-- A word of a block was put, and no other word of the arena changed.
use Rattle.std.specs.Prelude.{◌≡◌, ◌≢◌, ℕ, ◌+◌, ◌-◌, ◌*◌, ◌/◌, ◌%◌, ◌<◌, ◌≤◌, ◌⊎◌, Bool, true, false, List, [], length, slice_index, slice_set}
use Rattle.std.proofs.Common.{◌∙◌, ap, sym, refl, inl, inr, arith}
use Rattle.std.proofs.lemmas.Bool.{cases_eq, cases_lt}
use Rattle.std.proofs.lemmas.List.{ext_get_or, get_or-set_same, get_or-set_other, length-set}
use Rattle.heap_memory.specs.Regions.{is_granted}
use Rattle.heap_memory.specs.Words.{IsBeside, IsStored}
use Rattle.dlmalloc.specs.State.{HeapState}
use Rattle.dlmalloc.specs.Blocks.{ArePlaced, HasBlock}
use Rattle.heap_arena.specs.Arena.{regions_of, word_of, AreInside, IsArenaAfter, IsWordPut, KeepsOthers}
use Rattle.heap_arena.specs.declared.arena.Arena.{Arena}
use Rattle.checked_heap.proofs.Outside.{asked_outside}

-- a block begins after the first word of the arena, or there
pub block_above : (arena : Arena) (heap : HeapState) (address : ℕ) → AreInside arena → ArePlaced (regions_of arena) heap → HasBlock heap address →
    (arena.base ≤ address) × (address % 16 ≡ 0)
block_above arena heap address inside placed block =
    let is = placed address block.0 block.1 in
    ((inside address (is.granted address (omega arith) (omega arith))).0, is.aligned)

module _ (old new : Arena) (at value : ℕ) (above : old.base ≤ at) (whole : at % 8 ≡ 0) (stored : IsStored (regions_of old) (word_of old) at value (word_of new))
    (regions : regions_of new ≡ regions_of old) (after : IsArenaAfter old [] new) where
  place : (i : ℕ) → (old.base + 8 * i - new.base) / 8 ≡ i
  place i = let base = after.same.base in omega (arith, base)

  others : KeepsOthers at 1 old new
  others i beside = go (is_granted (regions_of old) (old.base + 8 * i)) refl
    where
      go : (b : Bool) → is_granted (regions_of old) (old.base + 8 * i) ≡ b → slice_index new.words.now i ≡ slice_index old.words.now i
      go true is =
          let begin = old.aligned in
          ap (λ (n : ℕ). slice_index new.words.now n) (sym (place i))
          ∙ (stored.elsewhere (old.base + 8 * i) (record { granted = is; aligned = omega (arith, begin) })
          (λ same. elim beside [ inl before ↦ omega (arith, same, before) | inr behind ↦ omega (arith, same, behind) ])
          ∙ ap (λ (n : ℕ). slice_index old.words.now n) (omega arith))
      go false is = asked_outside old new after i is

  beside_place : (i : ℕ) → (i ≡ (at - old.base) / 8 → ⊥) → IsBeside at 1 (old.base + 8 * i)
  beside_place i elsewhere = elim (cases_lt (old.base + 8 * i) at) [
    | inl before ↦ inl before
    | inr behind ↦ elim (cases_lt (old.base + 8 * i) (at + 8)) [
      | inl within ↦ (let begin = old.aligned in absurd (elsewhere (omega (arith, behind, within, above, whole, begin))))
      | inr past ↦ inr (omega (arith, past))
    ]
  ]

  words : new.words.now ≡ slice_set old.words.now ((at - old.base) / 8) value
  words = ext_get_or 0 new.words.now (slice_set old.words.now ((at - old.base) / 8) value)
      (after.same.len ∙ sym (length-set old.words.now ((at - old.base) / 8) value)) (λ i below. go i below (cases_eq i ((at - old.base) / 8)))
    where
      go : (i : ℕ) → i < length new.words.now → (i ≡ (at - old.base) / 8) ⊎ (i ≡ (at - old.base) / 8 → ⊥) →
          slice_index new.words.now i ≡ slice_index (slice_set old.words.now ((at - old.base) / 8) value) i
      go i below (inl here) =
          let base = after.same.base in
          let len = after.same.len in
          ap (λ (n : ℕ). slice_index new.words.now n) (omega (arith, here, base)) ∙ (stored.here
          ∙ (sym (get_or-set_same old.words.now ((at - old.base) / 8) value 0 (omega (arith, here, below, len)))
          ∙ ap (λ (n : ℕ). slice_index (slice_set old.words.now ((at - old.base) / 8) value) n) (sym here)))
      go i below (inr elsewhere) =
          others i (beside_place i elsewhere)
          ∙ sym (get_or-set_other old.words.now ((at - old.base) / 8) i value 0 elsewhere)

  pub stored_put : IsWordPut at value old new
  stored_put = record {
    stored = stored;
    words = words;
    written = record {
      others = others;
      regions = regions;
      follows = after;
      top = after.top;
      peak = after.peak;
    };
  }
