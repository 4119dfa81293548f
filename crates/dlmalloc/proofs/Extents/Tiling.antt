-- Extents that tile a segment.
use Rattle.dlmalloc.proofs.Names.{◌≡◌, ℕ, ◌+◌, ◌%◌, ◌<◌, ◌≤◌, inl, inr, false, List, [], ◌∷◌, ◌++◌, IsTrue, refl, sym, ◌∙◌, subst, arith, Extent, Kind, Free, Top, Record, Foot, IsSize, is_free_below_top, HasChunk, MayStand, told_size, is_used, head_of, Tiles, last_kind}

-- sizes are whole units, and one at least
pub sized : (kind : Kind) (size : ℕ) → IsSize kind size → (size % 16 ≡ 0) × (16 ≤ size)
sized Top size h = h
sized Record size h = elim h [ inl short ↦ (omega arith, omega arith) | inr long ↦ (omega arith, omega arith) ]
sized Foot size h = (omega arith, omega arith)
sized kind size h = (h.0, (let l = h.1 in omega arith))

-- an extent that only its head describes
pub plain_chunk : {words : ℕ → ℕ} {before : Kind} {one : Extent} → one.at % 16 ≡ 0 → IsSize one.kind one.size → MayStand before one.kind →
    words (one.at + 8) ≡ head_of (told_size one.kind one.size) (is_used before) (is_used one.kind) → (IsTrue (is_free_below_top one.kind) → ⊥) →
    (one.kind ≡ Record → ⊥) → HasChunk words before one
plain_chunk whole size kind head foot fence =
    record { whole = whole; size = size; kind = kind; head = head; foot = λ free. absurd (foot free); fence = λ is. absurd (fence is) }

-- a free one, which its foot describes as well
pub free_chunk : {words : ℕ → ℕ} {before : Kind} {at size : ℕ} → at % 16 ≡ 0 → IsSize Free size → MayStand before Free → words
    (at + 8) ≡ head_of size (is_used before) false → words (at + size) ≡ size → HasChunk words before (record { at = at; size = size; kind = Free })
free_chunk whole size kind head foot = record { whole = whole; size = size; kind = kind; head = head; foot = λ free. foot; fence = λ is. absurd (cc) }

-- extents end after their beginning
pub tiles_le : (words : ℕ → ℕ) (before : Kind) (at : ℕ) (extents : List Extent) (end : ℕ) → Tiles words before at extents end → at ≤ end
tiles_le words before at [] end h = omega arith
tiles_le words before at (extent ∷ extents) end h = let rest = tiles_le words extent.kind (at + extent.size) extents end h.2 in omega arith

-- ---- one list after another

pub tiles_append : (words : ℕ → ℕ) (before : Kind) (at : ℕ) (front back : List Extent) (middle end : ℕ) → Tiles words before at front middle →
    Tiles words (last_kind before front) middle back end → Tiles words before at (front ++ back) end
tiles_append words before at [] back middle end h k = subst (λ a. Tiles words before a back end) (sym h) k
tiles_append words before at (extent ∷ front) back middle end h k = (h.0, h.1, tiles_append words extent.kind (at + extent.size) front back middle end h.2 k)

pub record Split (words : ℕ → ℕ) (before : Kind) (at : ℕ) (front back : List Extent) (end : ℕ) : Type 0 where
  pub middle : ℕ
  pub first : Tiles words before at front middle
  pub second : Tiles words (last_kind before front) middle back end

pub tiles_split : (words : ℕ → ℕ) (before : Kind) (at : ℕ) (front back : List Extent) (end : ℕ) →
    Tiles words before at (front ++ back) end → Split words before at front back end
tiles_split words before at [] back end h = record { middle = at; first = refl; second = h }
tiles_split words before at (extent ∷ front) back end h =
    let rest = tiles_split words extent.kind (at + extent.size) front back end h.2 in
    record { middle = rest.middle; first = (h.0, h.1, rest.first); second = rest.second }

-- ---- what extents rest on

-- the words that an extent may write
stands_kept : {words : ℕ → ℕ} (words' : ℕ → ℕ) {before : Kind} {extent : Extent} → HasChunk words before extent →
    ((k : ℕ) → extent.at < k → k ≤ extent.at + extent.size → k % 8 ≡ 0 →
    (k ≡ extent.at + extent.size → IsTrue (is_free_below_top extent.kind)) → words' k ≡ words k) → HasChunk words' before extent
stands_kept words' {extent} h same =
    let s = sized extent.kind extent.size h.size in let whole = h.whole in
    let size = s.0 in let long = s.1 in
    record {
      whole = h.whole;
      size = h.size;
      kind = h.kind;
      head = same (extent.at + 8) (omega arith) (omega arith) (omega arith) (λ is. absurd (omega arith)) ∙ h.head;
      foot = λ free. same (extent.at + extent.size) (omega arith) (omega arith) (omega arith) (λ is. free) ∙ h.foot free;
      fence = λ is k low high m. same k (omega arith) (omega arith) m (λ e. absurd (omega arith)) ∙ h.fence is k low high m;
    }

-- Words up to the end; the word at the end itself only if a free extent is the last.
pub tiles_kept : (words words' : ℕ → ℕ) (before : Kind) (at : ℕ) (extents : List Extent) (end : ℕ) → Tiles words before at extents end →
    ((k : ℕ) → at < k → k ≤ end → k % 8 ≡ 0 → (k ≡ end → IsTrue (is_free_below_top (last_kind before extents))) →
    words' k ≡ words k) → Tiles words' before at extents end
tiles_kept words words' before at [] end h same = h
tiles_kept words words' before at (extent ∷ []) end h same =
    let place = h.0 in let ends = h.2 in (
      h.0,
      stands_kept words' h.1 (λ k low high m free. same k (omega arith) (omega arith) m (λ is. free (omega arith))),
      h.2,
    )
tiles_kept words words' before at (extent ∷ next ∷ extents) end h same =
    let place = h.0 in let s = sized extent.kind extent.size h.1.size in let n = sized next.kind next.size h.2.1.size in
    let long = s.1 in let more = n.1 in
    let later = tiles_le words next.kind (at + extent.size + next.size) extents end h.2.2 in (
      h.0,
      stands_kept words' h.1 (λ k low high m free. same k (omega arith) (omega arith) m (λ is. absurd (omega arith))),
      tiles_kept words words' extent.kind (at + extent.size) (next ∷ extents) end h.2 (λ k low high m free. same k (omega arith) high m free),
    )
