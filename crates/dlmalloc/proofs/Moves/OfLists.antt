-- What a move leaves.
use Rattle.dlmalloc.proofs.Names.{◌≡◌, ℕ, ◌+◌, ◌/◌, ◌%◌, ◌<◌, ◌≤◌, Bool, true, false, List, [], ◌∷◌, ◌++◌, Some, IsTrue, sym, ◌∙◌, ap, subst, arith, refl, dec_lt, Grant, IsWordOf, Extent, Kind, Used, Free, Victim, Top, Record, Foot, head_of, ends_segment, IsSize, is_used, is_free_below_top, told_size, Tiles, last_kind, IsMove}
use Rattle.dlmalloc_chunks.specs.Tiling.{extent_at}
use Rattle.dlmalloc.proofs.Extents.Lookup.{found}
use Rattle.dlmalloc.proofs.Extents.Tiling.{tiles_le, tiles_kept, tiles_append, tiles_split, sized}
use Rattle.dlmalloc.proofs.Words.Spared.{spared_before, spared_behind}

-- what ends a segment is no free extent
pub no_plain : (kind : Kind) → ends_segment kind ≡ true → IsTrue (is_free_below_top kind) → ⊥
no_plain Used ends free = cc
no_plain Free ends free = cc
no_plain Victim ends free = cc
no_plain Top ends free = cc
no_plain Record ends free = cc
no_plain Foot ends free = cc

-- ---- the extents, with others for the run

module _ {regions : List Grant} {old new : ℕ → ℕ} (before : Kind) (base : ℕ) {from to : ℕ} (end : ℕ)
    (front : List Extent) {less more : List Extent} (back : List Extent) (first : Tiles old before base front from)
    (move : IsMove regions old new (last_kind before front) from to to less more) (second : Tiles old (last_kind (last_kind before front) less) to back end)
    (granted : (k : ℕ) → base < k → k < end → k % 8 ≡ 0 → IsWordOf regions k) (some : from < to) where
  -- what stands before it stays
  before_kept : Tiles new before base front from
  before_kept =
      let reach = tiles_le old (last_kind (last_kind before front) less) to back end second in
      tiles_kept old new before base front from first (λ k low high m free. move.kept k (granted k low (omega arith) m)
      (spared_before new (last_kind before front) from more to k move.more_stand (omega arith)))

  -- others stand after it
  pub moved : last_kind (last_kind before front) more ≡ last_kind (last_kind before front) less →
      ends_segment (last_kind (last_kind (last_kind before front) less) back) ≡ true → Tiles new before base (front ++ (more ++ back)) end
  moved kind tail =
      let below = tiles_le old before base front from first in
      let behind : Tiles new (last_kind (last_kind before front) less) to back end =
      tiles_kept old new (last_kind (last_kind before front) less) to back end second (λ k low high m free. move.kept k
      (granted k (omega arith) (inside k high free) m) (spared_behind new (last_kind before front) from more to k move.more_stand (omega arith))) in
      tiles_append new before base front (more ++ back) from end before_kept
      (tiles_append new (last_kind before front) from more back to end move.more_stand (subst (λ kind. Tiles new kind to back end) (sym kind) behind))
    where
      inside : (k : ℕ) → k ≤ end → (k ≡ end → IsTrue (is_free_below_top (last_kind (last_kind (last_kind before front) less) back))) → k < end
      inside k high free = elim (dec_lt k end) [
        | yes below ↦ below
        | no beyond ↦ absurd
            (no_plain (last_kind (last_kind (last_kind before front) less) back) tail (free (omega arith)))
      ]

-- ---- an extent in use, where it stands

pub half : (size : ℕ) (used other : Bool) → size % 8 ≡ 0 → head_of size used true / 2 ≡ head_of size other true / 2
half size true true whole = omega arith
half size true false whole = omega arith
half size false true whole = omega arith
half size false false whole = omega arith

pub record Standing (words : ℕ → ℕ) (from : ℕ) (to : ℕ) (block : Extent) : Type 0 where
  pub low : from ≤ block.at
  pub high : block.at + block.size + 16 ≤ to
  pub whole : block.at % 16 ≡ 0
  pub size_whole : block.size % 16 ≡ 0
  pub long : 32 ≤ block.size
  pub before : Bool
  pub head : words (block.at + 8) ≡ head_of block.size before true

used_size : {kind : Kind} (size : ℕ) → kind ≡ Used → IsSize kind size → (size % 16 ≡ 0) × (32 ≤ size)
used_size size is h = subst (λ k. IsSize k size) is h

pub last_append : (before : Kind) (front back : List Extent) → last_kind before (front ++ back) ≡ last_kind (last_kind before front) back
last_append before [] back = refl
last_append before (extent ∷ front) back = last_append extent.kind front back

-- an extent in use ends no segment
goes_on : (words : ℕ → ℕ) (from : ℕ) (back : List Extent) (to : ℕ) → Tiles words Used from back to → ends_segment (last_kind Used back) ≡ true → from + 16 ≤ to
goes_on words from [] to h tail = absurd (cc)
goes_on words from (next ∷ back) to h tail =
    let long = (sized next.kind next.size h.1.size).1 in
    let later = tiles_le words next.kind (from + next.size) back to h.2 in
    omega arith

pub standing : (words : ℕ → ℕ) (before : Kind) (from : ℕ) (extents : List Extent) (to : ℕ) {block : Extent} → Tiles words before from extents to →
    ends_segment (last_kind before extents) ≡ true → extent_at block.at extents ≡ Some block → block.kind ≡ Used → Standing words from to block
standing words before from extents to {block} h tail there used =
    let f = found block.at block extents there in
    let s = tiles_split words before from f.front (block ∷ f.back) to (subst (λ es. Tiles words before from es to) f.is h) in
    let size = used_size block.size used s.second.1.size in let place = s.second.0 in
    let low = tiles_le words before from f.front s.middle s.first in
    let last : ends_segment (last_kind block.kind f.back) ≡ true =
    ap ends_segment (sym (last_append before f.front (block ∷ f.back))) ∙ (ap (λ es. ends_segment (last_kind before es)) (sym f.is) ∙ tail) in
    let high = goes_on words (s.middle + block.size) f.back to (subst (λ kind. Tiles words kind (s.middle + block.size) f.back to) used s.second.2)
    (subst (λ kind. ends_segment (last_kind kind f.back) ≡ true) used last) in
    record {
      low = omega arith;
      high = omega arith;
      whole = s.second.1.whole;
      size_whole = size.0;
      long = size.1;
      before = is_used (last_kind before f.front);
      head = subst (λ kind. words (block.at + 8) ≡ head_of (told_size kind block.size) (is_used (last_kind before f.front))
          (is_used kind)) used s.second.1.head;
    }
