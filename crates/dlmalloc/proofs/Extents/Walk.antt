-- Passing over the chunks of a range.
use Rattle.dlmalloc.proofs.Names.{◌≡◌, ◌≢◌, ℕ, ◌+◌, ◌-◌, ◌*◌, ◌/◌, ◌%◌, ◌<◌, ◌≤◌, true, List, [], ◌∷◌, ◌++◌, map, Some, refl, sym, ◌∙◌, ap, subst, arith, append_assoc, append-nil, map-append, Grant, Extent, Kind, Used, Top, Record, Foot, HasHead, ends_segment, HasChunk, Tiles, last_kind, extent_at, Segment, IsSegment, record_of, chunks_between, IsChunkKind, AreChunks, IsChunkRun}
use Rattle.dlmalloc.specs.Walk.{chunk_told}
use Rattle.dlmalloc.proofs.Extents.Lookup.{extent, same_extent, found}
use Rattle.dlmalloc.proofs.Extents.Tiling.{sized, tiles_le, tiles_split, tiles_append}
use Rattle.dlmalloc.proofs.Moves.OfLists.{last_append}
use Rattle.dlmalloc.proofs.Extents.FromWords.{told, are_chunks, chunks_read, behind_top, nothing}

-- ---- the chunks of a range

-- a run of chunks is read off their heads
pub run_read : {regions : List Grant} {words : ℕ → ℕ} {from to : ℕ} (run : IsChunkRun regions words from to) → chunks_between words from to ≡ run.chunks
run_read {words} {from} {to} run = chunks_read words Used (to / 16) from run.chunks to (whole run.chunks run.stand) run.stand run.are
  where
    whole : (chunks : List Extent) → Tiles words Used from chunks to → to ≤ from + 16 * (to / 16)
    whole [] h = omega arith
    whole (chunk ∷ chunks) h = let place = h.0 in let w = h.1.whole in
        let e = end words chunk.kind (from + chunk.size) chunks to h.2 (omega (arith, (sized chunk.kind chunk.size h.1.size).0)) in omega arith
      where
        end : (words : ℕ → ℕ) (before : Kind) (at : ℕ) (chunks : List Extent) (to : ℕ) → Tiles words before at chunks to → at % 16 ≡ 0 → to % 16 ≡ 0
        end words before at [] to h w = omega arith
        end words before at (chunk ∷ chunks) to h w = end words chunk.kind (at + chunk.size) chunks to h.2
            (omega (arith, (sized chunk.kind chunk.size h.1.size).0))

-- the chunks of a range up to an address, of which something is known
pub record Passed (words : ℕ → ℕ) (from to at : ℕ) (known : List Extent → Type 0) : Type 0 where
  pub front : List Extent
  pub back : List Extent
  pub is : chunks_between words from to ≡ front ++ back
  pub before : Tiles words Used from front at
  pub behind : Tiles words (last_kind Used front) at back to
  pub are : AreChunks back
  pub so_far : known front

-- the chunk at an address, and those after it
pub record Next (words : ℕ → ℕ) (before : Kind) (at : ℕ) (back : List Extent) (to : ℕ) : Type 0 where
  pub chunk : Extent
  pub rest : List Extent
  pub is : back ≡ chunk ∷ rest
  pub place : chunk.at ≡ at
  pub stands : HasChunk words before chunk
  pub later : Tiles words chunk.kind (at + chunk.size) rest to
  pub kind : IsChunkKind chunk.kind
  pub are : AreChunks rest

next : (words : ℕ → ℕ) (before : Kind) (at : ℕ) (back : List Extent) (to : ℕ) → at < to → Tiles words before at back to →
    AreChunks back → Next words before at back to
next words before at [] to more h are = absurd (omega arith)
next words before at (chunk ∷ rest) to more h are = record {
  chunk = chunk;
  rest = rest;
  is = refl;
  place = h.0;
  stands =
      h.1;
  later = h.2;
  kind = are.0;
  are = are.1;
}

-- nothing is passed at the beginning
pub begun : {regions : List Grant} {words : ℕ → ℕ} {from to : ℕ} (known : List Extent → Type 0) →
    IsChunkRun regions words from to → known [] → Passed words from to from known
begun known run so_far = record { front = []; back = run.chunks; is = run_read run; before = refl; behind = run.stand; are = run.are; so_far = so_far }

-- where a range ends, no chunk is left
pub none_left : (words : ℕ → ℕ) (before : Kind) (at : ℕ) (chunks : List Extent) (end : ℕ) → end ≤ at → Tiles words before at chunks end → chunks ≡ []
none_left words before at [] end empty h = refl
none_left words before at (chunk ∷ chunks) end empty h =
    absurd (let long = (sized chunk.kind chunk.size h.1.size).1 in let later = tiles_le words chunk.kind (at + chunk.size) chunks end h.2 in omega arith)

-- all are passed at the end
pub all_passed : {words : ℕ → ℕ} {from to at : ℕ} {known : List Extent → Type 0} → to ≤ at → Passed words from to at known →
    known (chunks_between words from to)
all_passed {words} {to} {at} {known} end p = subst known
    (sym (p.is ∙ (ap (λ cs. p.front ++ cs) (none_left words (last_kind Used p.front) at p.back to end p.behind) ∙ append-nil p.front))) p.so_far

module _ {words : ℕ → ℕ} {from to at : ℕ} {known : List Extent → Type 0} (more : at < to) (p : Passed words from to at known) where
  pub ahead : Next words (last_kind Used p.front) at p.back to
  ahead = next words (last_kind Used p.front) at p.back to more p.behind p.are

  -- it is what its head says
  pub is_told : chunk_told words at ≡ ahead.chunk
  is_told = subst (λ a. chunk_told words a ≡ ahead.chunk) ahead.place (told ahead.kind ahead.stands)

  pub at_low : from ≤ at
  at_low = tiles_le words Used from p.front at p.before

  pub at_whole : at % 16 ≡ 0
  at_whole = let place = ahead.place in let w = ahead.stands.whole in omega arith

  -- so its head is granted
  pub head_there : {regions : List Grant} → IsChunkRun regions words from to → HasHead regions at
  head_there run = record {
    aligned = omega (arith, at_whole);
    small = omega arith;
    granted = record { granted = run.granted (at + 8) (omega (arith, at_low)) (omega arith); aligned = omega (arith, at_whole) };
  }

  module _ {chunk : Extent} (same : chunk ≡ chunk_told words at) where
    is_chunk : ahead.chunk ≡ chunk
    is_chunk = sym (same ∙ is_told)

    pub begins_at : chunk.at ≡ at
    begins_at = ap (λ e. e.at) (sym is_chunk) ∙ ahead.place

    later_le : at + ahead.chunk.size ≤ to
    later_le = tiles_le words ahead.chunk.kind (at + ahead.chunk.size) ahead.rest to ahead.later

    pub goes_to : at + chunk.size ≤ to
    goes_to = subst (λ e. at + e.size ≤ to) is_chunk later_le

    pub goes_on : 16 ≤ chunk.size
    goes_on = subst (λ e. 16 ≤ e.size) is_chunk (sized ahead.chunk.kind ahead.chunk.size ahead.stands.size).1

    -- it is passed
    pub onward : (known' : List Extent → Type 0) → known' (p.front ++ chunk ∷ []) → Passed words from to (at + chunk.size) known'
    onward known' holds = record {
      front = p.front ++ chunk ∷ [];
      back = ahead.rest;
      is = p.is ∙ (ap (λ es. p.front ++ es) (ahead.is ∙ ap (λ e. e ∷ ahead.rest) is_chunk) ∙ sym (append_assoc p.front (chunk ∷ []) ahead.rest));
      before = tiles_append words Used from p.front (chunk ∷ []) at (at + chunk.size) p.before
          (subst (λ e. Tiles words (last_kind Used p.front) at (e ∷ []) (at + e.size)) is_chunk (ahead.place, ahead.stands, refl));
      behind = subst (λ k. Tiles words k (at + chunk.size) ahead.rest to) (sym (last_append Used p.front (chunk ∷ [])))
          (subst (λ e. Tiles words e.kind (at + e.size) ahead.rest to) is_chunk ahead.later);
      are = ahead.are;
      so_far = holds;
    }

-- ---- a segment's chunks, and its tail

-- what stands before the tail of a segment
pub record HasTail (regions : List Grant) (words : ℕ → ℕ) (segment : Segment) (at : ℕ) (tail : List Extent) : Type 0 where
  pub run : IsChunkRun regions words segment.base at
  pub is : segment.extents ≡ chunks_between words segment.base at ++ tail
  pub above : segment.base ≤ at

has_tail : {regions : List Grant} {words : ℕ → ℕ} {segment : Segment} → IsSegment regions words segment → {last : Extent} → last.kind ≢ Foot →
    extent_at last.at segment.extents ≡ Some last → (tail : List Extent) →
    ((back : List Extent) → Tiles words last.kind (last.at + last.size) back (segment.base + segment.size) →
    ends_segment (last_kind last.kind back) ≡ true → last ∷ back ≡ tail) → HasTail regions words segment last.at tail
has_tail {regions} {words} {segment} part {last} other there tail rest =
    let f = found last.at last segment.extents there in let end = segment.base + segment.size in
    let tiles = subst (λ es. Tiles words Used segment.base es end) f.is part.extents in
    let s = tiles_split words Used segment.base f.front (last ∷ f.back) end tiles in
    let place : last.at ≡ s.middle = s.second.0 in
    let long = (sized last.kind last.size s.second.1.size).1 in
    let later = tiles_le words last.kind (s.middle + last.size) f.back end s.second.2 in
    let low = tiles_le words Used segment.base f.front s.middle s.first in
    let run : IsChunkRun regions words segment.base last.at = record {
      chunks = f.front;
      stand = subst (λ a. Tiles words Used segment.base f.front a) (sym place) s.first;
      are = are_chunks words Used segment.base f.front last f.back end other tiles;
      granted = λ k above below. part.run.covered k above (omega arith);
      small = (let high = part.high in omega arith);
    } in
    record {
      run = run;
      is = f.is ∙ (λ i. (sym (run_read run)) i ++ rest f.back (subst (λ a. Tiles words last.kind (a + last.size) f.back end) (sym place) s.second.2)
          (ap ends_segment (sym (last_append Used f.front (last ∷ f.back))) ∙ (ap (λ es. ends_segment (last_kind Used es)) (sym f.is) ∙ part.tail)) i);
      above = omega arith;
    }

pub top_tail : {regions : List Grant} {words : ℕ → ℕ} {segment : Segment} → IsSegment regions words segment → {top size : ℕ} → extent_at top
    segment.extents ≡ Some (extent top size Top) → HasTail regions words segment top (extent top size Top ∷ extent (top + size) 80 Foot ∷ [])
top_tail {words} {segment} part {top} {size} there = has_tail part (λ is. cc) there (extent top size Top ∷ extent (top + size) 80 Foot ∷ [])
    (λ back tiles tail. let b = behind_top words (top + size) back (segment.base + segment.size) tiles tail in let ends = b.1 in
    ap (λ es. extent top size Top ∷ es) (b.0 ∙ (λ i. same_extent {at = segment.base + segment.size - 80} {at' = top + size} {size = 80} {size' = 80}
    {kind = Foot} {kind' = Foot} (omega arith) refl refl i ∷ [])))

pub record_tail : {regions : List Grant} {words : ℕ → ℕ} {segment : Segment} → IsSegment regions words segment →
    (at : ℕ) → extent_at at segment.extents ≡ Some (record_of at (segment.base + segment.size)) →
    HasTail regions words segment at (record_of at (segment.base + segment.size) ∷ [])
record_tail {words} {segment} part at there = has_tail part (λ is. cc) there (record_of at (segment.base + segment.size) ∷ [])
    (λ back tiles tail. ap (λ b. record_of at (segment.base + segment.size) ∷ b)
    (nothing words Record (at + (segment.base + segment.size - at)) back (segment.base + segment.size) refl tiles).0)

-- ---- lists of what is passed

-- what is made of each extent, when one is added
pub mapped_more : (each : Extent → Extent) {old new : List Extent} (start front : List Extent) (extent : Extent) {item : Extent} →
    old ≡ start ++ map each front → item ≡ each extent → new ≡ old ++ item ∷ [] → new ≡ start ++ map each (front ++ extent ∷ [])
mapped_more each start front extent was is added =
    added ∙ (λ i. was i ++ is i ∷ []) ∙ append_assoc start (map each front) (each extent ∷ [])
    ∙ ap (λ es. start ++ es) (sym (map-append each front (extent ∷ [])))
