-- The words of free chunks in which links stand: at no boundary, and in no record.
use Rattle.dlmalloc.proofs.Names.{◌≡◌, ◌≢◌, ℕ, ◌+◌, ◌<◌, ◌≤◌, ◌⊎◌, inl, inr, Bool, true, false, ◌==◌, List, Some, refl, sym, ◌∙◌, ap, arith, dec_lt, nat_tests, Grant, IsWordOf, Extent, Kind, Used, Free, Record, size_of, head_of, size_of-head_of, HasHead, IsIn, OnlyLinksChange, extent_at, is_used, HasChunk, HeapState, extents_in, IsSegment, IsBoundary, IsInRecord, segments_of, state_of, IsSound, IsFreeAt, OnlyFreeChange, Dlmalloc}
use Rattle.bins.specs.Linked.{IsChunk, AreChunks, IsNoLink, AreKept}
use Rattle.dlmalloc.proofs.Extents.Lookup.{extent, nat_is, the_extent}
use Rattle.dlmalloc.proofs.Extents.Tiling.{sized}
use Rattle.dlmalloc.proofs.Segments.Among.{extents_all, located, of_located, in_part}
use Rattle.dlmalloc.proofs.Extents.Disjoint.{AreBeside, beside, stands_there}

-- ---- a free chunk of a heap

module _ {A : Type 0} {regions : A → List Grant} {word : A → ℕ → ℕ} {heap : Dlmalloc A} (sound : IsSound regions word heap) {at size : ℕ}
    (free : IsFreeAt (state_of word heap) at size) where
  abbrev chunk : Extent
  chunk = extent at size Free

  pub stands : (before : Kind) × HasChunk (word heap.system) before chunk
  stands = stands_there (regions heap.system) (word heap.system) (segments_of word heap) sound.segments free

  -- its head says that the chunk before it is in use, and that it is not
  pub free_head : word heap.system (at + 8) ≡ head_of size true false
  free_head = let s = stands in s.1.head ∙ ap (λ k. head_of size (is_used k) false) s.1.kind

  -- it is a chunk that bins may hold
  pub is_chunk : IsChunk (regions heap.system) (word heap.system) size at
  is_chunk =
      let l = located at (segments_of word heap) free in
      let p = of_located (IsSegment (regions heap.system) (word heap.system)) l sound.segments in
      let is = in_part (word heap.system) Used l.segment.base l.segment.extents (l.segment.base + l.segment.size) p.extents l.there in
      let low = is.low in let high = is.high in let base = p.low in let end = p.high in
      let units = is.stands.size.0 in
      record {
        whole = is.stands.size.0;
        long = is.stands.size.1;
        aligned = is.stands.whole;
        low = omega arith;
        high = omega arith;
        head = ap size_of free_head ∙ size_of-head_of size true false (omega arith);
        granted = λ k from to m. record { granted = p.run.covered k (omega arith) (omega arith); aligned = m };
      }

  pub free_has_head : HasHead (regions heap.system) at
  free_has_head =
      let c = is_chunk in
      record { aligned = omega arith; small = omega arith; granted = c.granted (at + 8) (omega arith) (omega arith) (omega arith) }

  -- any extent is it, or is beside it
  pub same_or_beside : {one : Extent} → extent_at one.at (extents_in (state_of word heap)) ≡ Some one → (one ≡ chunk) ⊎ AreBeside one chunk
  same_or_beside {one} there = go (one.at == at) refl
    where
      go : (b : Bool) → (one.at == at) ≡ b → (one ≡ chunk) ⊎ AreBeside one chunk
      go true test = inl (the_extent (sym there ∙ (ap (λ a. extent_at a (extents_all (segments_of word heap))) (nat_is test) ∙ free)))
      go false test = inr (beside (regions heap.system) (word heap.system) (segments_of word heap) sound.segments sound.apart there free
          (λ same. (let no : (one.at == at) ≡ true = (let e = same in grind (arith, nat_tests)) in cc)))

  -- the words in it, from 16 bytes on, are at no boundary
  pub no_boundary : (k : ℕ) → at + 16 ≤ k → k < at + size → IsBoundary (state_of word heap) k → ⊥
  no_boundary k low high b = elim (same_or_beside b.there) [
    | inl same ↦ (let place : b.extent.at ≡ at = ap (λ e. e.at) same in let long : b.extent.size ≡ size = ap (λ e. e.size) same in
        elim (b.is) [ inl head ↦ omega arith | inr end ↦ (let e = end.1 in omega arith) ])
    | inr apart ↦ (let long = (sized b.extent.kind b.extent.size (stands_there (regions heap.system) (word heap.system)
        (segments_of word heap) sound.segments b.there).1.size).1 in
        elim apart [
          | inl before ↦ elim (b.is) [ inl head ↦ omega arith | inr end ↦ (let e = end.1 in omega arith) ]
          | inr behind ↦ elim (b.is) [ inl head ↦ omega arith | inr end ↦ (let e = end.1 in omega arith) ]
        ])
  ]

  -- and in no record
  pub no_record : (k : ℕ) → at + 8 ≤ k → k < at + size → IsInRecord (state_of word heap) k → ⊥
  no_record k low high b = elim (same_or_beside b.there) [
    | inl same ↦ (let no : Free ≡ Record = ap (λ e. e.kind) (sym same) ∙ b.is in cc)
    | inr apart ↦ (let above = b.low in let below = b.high in elim apart [ inl before ↦ omega arith | inr behind ↦ omega arith ])
  ]

-- two free chunks share no byte
pub free_apart : {A : Type 0} (regions : A → List Grant) (word : A → ℕ → ℕ) (heap : Dlmalloc A) → IsSound regions word heap →
    {at size other n : ℕ} → IsFreeAt (state_of word heap) at size → IsFreeAt (state_of word heap) other n → at ≢ other →
    (at + size ≤ other) ⊎ (other + n ≤ at)
free_apart regions word heap sound one two apart =
    beside (regions heap.system) (word heap.system) (segments_of word heap) sound.segments sound.apart one two apart

-- ---- stores of links

no_link : (n other k : ℕ) → 32 ≤ n → (k < other + 16) ⊎ (other + n ≤ k) → IsNoLink n other k
no_link n other k long (inl below) = inl below
no_link n other k long (inr behind) = elim (dec_lt n 64) [ yes small ↦ inr (inr (omega arith, omega arith)) | no large ↦ inr (inl (omega arith)) ]

-- links are stored in free chunks alone
pub only_free : {regions : List Grant} {words : ℕ → ℕ} (heap : HeapState) {index : ℕ → List ℕ} {size : ℕ} (chunk : ℕ)
    (old new : ℕ → ℕ) → AreChunks regions words index → ((at n : ℕ) → IsIn at (index n) → IsFreeAt heap at n) → IsFreeAt heap chunk size →
    32 ≤ size → OnlyLinksChange regions index size chunk old new → OnlyFreeChange regions heap old new
only_free heap {size} chunk old new chunks held free long links k granted out =
    links k granted (no_link size chunk k long (out chunk size free)) (λ n other is.
    no_link n other k (chunks.each n other is).long (out other n (held other n is)))

-- ---- the heap moves

-- words of neither boundaries nor records stay
abbrev pub OthersStay : {A : Type 0} → (A → List Grant) → (A → ℕ → ℕ) → Dlmalloc A → Dlmalloc A → Type 0
OthersStay regions word old new = (k : ℕ) → IsWordOf (regions old.system) k → IsWordOf (regions new.system) k → (IsBoundary (state_of word new) k →
    ⊥) → (IsInRecord (state_of word old) k → ⊥) → (IsInRecord (state_of word new) k → ⊥) → word new.system k ≡ word old.system k

-- A chunk that is free before and after a move keeps its words, if only those at boundaries and of records change.
pub kept : {A : Type 0} (regions : A → List Grant) (word : A → ℕ → ℕ) (old new : Dlmalloc A) → IsSound regions word old →
    IsSound regions word new → OthersStay regions word old new → (index : ℕ → List ℕ) →
    ((at size : ℕ) → IsIn at (index size) → IsFreeAt (state_of word old) at size) → ((at size : ℕ) → IsIn at (index size) →
    IsFreeAt (state_of word new) at size) → AreKept (regions old.system) (regions new.system) (word old.system) (word new.system) index
kept regions word old new sound sound' others index was is = record {
  granted = λ size chunk k there low high inside. (is_chunk sound' (is chunk size there)).granted k low high inside.aligned;
  words = λ size chunk k there low high near inside. go size chunk k (was chunk size there) (is chunk size there) low high inside;
}
  where
    go : (size chunk k : ℕ) → IsFreeAt (state_of word old) chunk size → IsFreeAt (state_of word new) chunk size → chunk + 8 ≤ k →
        k < chunk + size → IsWordOf (regions old.system) k → word new.system k ≡ word old.system k
    go size chunk k before after low high inside =
        let c = is_chunk sound' after in let whole = c.aligned in let m = inside.aligned in
        elim (dec_lt k (chunk + 16)) [
          | yes head ↦ (let place : k ≡ chunk + 8 = omega arith in
              ap (word new.system) place ∙ (free_head sound' after ∙ (sym (free_head sound before) ∙ ap (word old.system) (sym place))))
          | no beyond ↦ others k inside (c.granted k low high m) (no_boundary sound' after k (omega arith) high)
              (no_record sound before k low high) (no_record sound' after k low high)
        ]
