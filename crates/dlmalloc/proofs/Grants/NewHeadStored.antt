-- The stores that make a grant the head segment leave the heap so.
use Rattle.dlmalloc.proofs.Names.{◌≡◌, ℕ, ◌+◌, ◌%◌, ◌<◌, ◌≤◌, inl, inr, Bool, true, false, ◌==◌, nat_le, if◌then◌else◌, List, [], ◌∷◌, refl, sym, ◌∙◌, ap, subst, arith, nat_tests, Grant, Event, IsAdmitted, IsRecordAt, IsFreeAt, FreeMoves, state_of, IsSound, Dlmalloc, SegmentRecord}
use Rattle.dlmalloc.proofs.Extents.Lookup.{nat_isnt}
use Rattle.dlmalloc.proofs.Segments.HeadTop.{top_sizes}
use Rattle.dlmalloc.proofs.Grants.TopLeft.{left_free}
use Rattle.dlmalloc.proofs.Grants.NewHead.{new_head, record_of_head, IsNewHead, where_is, added_used, added_free, added_rest, added_sound, added_words, added_new, added_state}

-- what a heap over another system says is the same
pub ends_same : {A : Type 0} (heap : Dlmalloc A) {middle : Dlmalloc A} → middle ≡ record heap { system = middle.system } →
    middle.base + middle.size ≡ heap.base + heap.size
ends_same heap is = ap (λ h. h.base + h.size) is

pub told_same : {A : Type 0} {words : ℕ → ℕ} (at : ℕ) (heap : Dlmalloc A) {middle : Dlmalloc A} → middle ≡ record heap
    { system = middle.system } → IsRecordAt words at (record { base = middle.base; size = middle.size; next = middle.next; flags = middle.flags })
    (middle.base + middle.size) (at == middle.top) → IsRecordAt words at (record_of_head heap) (heap.base + heap.size) (at == heap.top)
told_same {words} at heap is told = subst (λ h. IsRecordAt words at (record {
  base = h.base;
  size = h.size;
  next = h.next;
  flags = h.flags;
}) (h.base + h.size) (at == h.top)) is told

-- a record rests on its own words
pub record_kept : {old : ℕ → ℕ} (new : ℕ → ℕ) {at : ℕ} {told : SegmentRecord} {end : ℕ} {behind : Bool} → at % 8 ≡ 0 → at + 80 ≤ end →
    ((k : ℕ) → at < k → k < end → k % 8 ≡ 0 → new k ≡ old k) → IsRecordAt old at told end behind → IsRecordAt new at told end behind
record_kept new {at} whole room same h = record {
  head = same (at + 8) (omega arith) (omega arith) (omega arith) ∙ h.head;
  base = same (at + 16) (omega arith) (omega arith) (omega arith) ∙ h.base;
  size = same (at + 16 + 8) (omega arith) (omega arith) (omega arith) ∙ h.size;
  next = same (at + 16 + 16) (omega arith) (omega arith) (omega arith) ∙ h.next;
  flags = same (at + 16 + 24) (omega arith) (omega arith) (omega arith) ∙ h.flags;
  fences = λ k low high m. same k (omega arith) high m ∙ h.fences k low high m;
}

module _ {A : Type 0} {regions : A → List Grant} {word : A → ℕ → ℕ} (follows : A → List Event → A → Type 0) {heap : Dlmalloc A} {grant : Grant}
    {system : A} {at : ℕ} (sound : IsSound regions word heap) (stored : IsNewHead regions word heap grant system at) where
  small_is : (b : Bool) → (at == heap.top) ≡ b → left_free b heap.top ≡ (if nat_le 32 heap.top_size then heap.top ∷ [] else [])
  small_is true is = (let sixteen = (where_is sound stored).0 ∙ is in let few : nat_le 32 heap.top_size ≡ false = grind (arith, nat_tests) in rw few refl)
  small_is false is = (let other = (where_is sound stored).0 ∙ is in let units = (top_sizes sound stored.some).0 in
      let long = (top_sizes sound stored.some).1 in let many : nat_le 32 heap.top_size ≡ true = grind (arith, nat_tests) in rw many refl)

  -- the heap is so, and what was the top is free, if it has more than 16 bytes
  pub new_added : follows heap.system [] system → IsAdmitted regions word follows heap grant (new_head heap grant system at) × FreeMoves (state_of word heap)
      (state_of word (new_head heap grant system at)) [] (if nat_le 32 heap.top_size then heap.top ∷ [] else []) × (32 ≤ heap.top_size →
      IsFreeAt (state_of word (new_head heap grant system at)) heap.top heap.top_size)
  new_added followed = (
    record {
      state = added_state sound stored;
      sound = added_sound sound stored;
      there = (let long = stored.fresh.long in omega arith);
      room = (let long = stored.fresh.long in omega arith);
      begins = inl refl;
      regions_same = stored.same;
      followed = followed;
      used = added_used sound stored;
      words = added_words sound stored;
      new_words = added_new sound stored;
    },
    subst (λ come. FreeMoves (state_of word heap) (state_of word (new_head heap grant system at)) [] come) (small_is (at == heap.top) refl)
        (added_free sound stored),
    λ many. added_rest sound stored (sym (where_is sound stored).0 ∙ nat_isnt (inr (omega arith))),
  )
