-- The extents of a segment are those that its words describe.
use Rattle.dlmalloc.proofs.Names.{◌≡◌, ◌≢◌, ℕ, zero, suc, ◌+◌, ◌-◌, ◌*◌, ◌/◌, ◌%◌, ◌≤◌, inl, inr, Bool, true, false, ◌==◌, if◌then◌else◌, List, [], ◌∷◌, ◌++◌, Some, refl, sym, ◌∙◌, ap, subst, arith, length, nat_tests, Grant, Extent, Kind, Used, Free, Victim, Top, Record, Foot, size_of, head_of, size_of-head_of, pinuse_of-head_of, cinuse_of-head_of, ends_segment, IsSize, kind_of, chunks_from, is_used, Segment, top_and_foot, IsChunkKind, AreChunks, MayStand, told_size, HasChunk, Tiles, last_kind, IsSegment, AreSegments, record_of, records_from, AreRecords}
use Rattle.std.proofs.lemmas.Bool.{le-ltb, lt-ltb}
use Rattle.dlmalloc_chunks.specs.Tiling.{extent_at}
use Rattle.dlmalloc.proofs.Extents.Lookup.{extent, same_extent, found, nat_isnt}
use Rattle.dlmalloc.proofs.Extents.Shown.{pair}
use Rattle.dlmalloc.proofs.Extents.Tiling.{sized, tiles_le, tiles_split}
use Rattle.dlmalloc.proofs.Moves.OfLists.{last_append}

-- before a foot stands the top, and before all others a chunk
before_all : (before kind : Kind) → kind ≢ Foot → MayStand before kind → IsChunkKind before
before_all before Used other h = h
before_all before Free other h = inl h
before_all before Victim other h = absurd h
before_all before Top other h = inl h
before_all before Record other h = h
before_all before Foot other h = absurd (other refl)

no_foot : (kind : Kind) → IsChunkKind kind → kind ≢ Foot
no_foot kind (inl is) = λ foot. (let f : Used ≡ Foot = sym is ∙ foot in cc)
no_foot kind (inr is) = λ foot. (let f : Free ≡ Foot = sym is ∙ foot in cc)

pub are_chunks : (words : ℕ → ℕ) (before : Kind) (at : ℕ) (extents : List Extent) (last : Extent) (back : List Extent) (end : ℕ) →
    last.kind ≢ Foot → Tiles words before at (extents ++ last ∷ back) end → AreChunks extents
are_chunks words before at [] last back end other h = tt
are_chunks words before at (extent ∷ []) last back end other h = (before_all extent.kind last.kind other h.2.1.kind, tt)
are_chunks words before at (extent ∷ next ∷ extents) last back end other h =
    let rest = are_chunks words extent.kind (at + extent.size) (next ∷ extents) last back end other h.2 in
    (before_all extent.kind next.kind (no_foot next.kind rest.0) h.2.1.kind, rest)

-- a chunk is what its head says
kind_told : (kind before : Kind) (size : ℕ) → size % 8 ≡ 0 → IsChunkKind kind → MayStand before kind →
    kind_of (head_of size (is_used before) (is_used kind)) ≡ kind
kind_told Used before size whole is h = go (is_used before)
  where
    go : (b : Bool) → kind_of (head_of size b true) ≡ Used
    go true = rw (pinuse_of-head_of size true true whole, cinuse_of-head_of size true true whole) refl
    go false = rw (pinuse_of-head_of size false true whole) refl
kind_told Free before size whole is h = rw (h, pinuse_of-head_of size true false whole, cinuse_of-head_of size true false whole) refl
kind_told Victim before size whole is h = absurd h
kind_told kind before size whole is h = elim is [ inl a ↦ absurd (cc) | inr a ↦ absurd (cc) ]

pub told : {words : ℕ → ℕ} {before : Kind} {chunk : Extent} → IsChunkKind chunk.kind → HasChunk words before chunk →
    extent chunk.at (size_of (words (chunk.at + 8))) (kind_of (words (chunk.at + 8))) ≡ chunk
told {words} {before} {chunk} is h =
    let s = sized chunk.kind chunk.size h.size in let units = s.0 in
    let whole : chunk.size % 8 ≡ 0 = omega arith in
    let head : words (chunk.at + 8) ≡ head_of chunk.size (is_used before) (is_used chunk.kind) = h.head
    ∙ ap (λ n. head_of n (is_used before) (is_used chunk.kind)) (told_chunk chunk.kind chunk.size is) in
    same_extent refl (ap size_of head ∙ size_of-head_of chunk.size (is_used before) (is_used chunk.kind) whole)
    (ap kind_of head ∙ kind_told chunk.kind before chunk.size whole is h.kind)
  where
    told_chunk : (kind : Kind) (size : ℕ) → IsChunkKind kind → told_size kind size ≡ size
    told_chunk kind size (inl is) = ap (λ k. told_size k size) is
    told_chunk kind size (inr is) = ap (λ k. told_size k size) is

-- the list that is read off the words is the one that tiles the range
pub chunks_read : (words : ℕ → ℕ) (before : Kind) (most at : ℕ) (chunks : List Extent) (end : ℕ) → end ≤ at + 16 * most →
    Tiles words before at chunks end → AreChunks chunks → chunks_from words most at end ≡ chunks
unfolding chunks_from
chunks_read words before zero at [] end few h are = refl
chunks_read words before (suc most) at [] end few h are = rw (le-ltb at end (omega arith)) refl
chunks_read words before zero at (chunk ∷ chunks) end few h are =
    absurd (let rest = tiles_le words chunk.kind (at + chunk.size) chunks end h.2 in let long = (sized chunk.kind chunk.size h.1.size).1 in omega arith)
chunks_read words before (suc most) at (chunk ∷ chunks) end few h are =
    let long = (sized chunk.kind chunk.size h.1.size).1 in
    let later = tiles_le words chunk.kind (at + chunk.size) chunks end h.2 in
    let one : extent at (size_of (words (at + 8))) (kind_of (words (at + 8))) ≡ chunk =
    subst (λ a. extent a (size_of (words (a + 8))) (kind_of (words (a + 8))) ≡ chunk) h.0 (told are.0 h.1) in
    let rest : chunks_from words most (at + size_of (words (at + 8))) end ≡ chunks =
    ap (λ e. chunks_from words most (at + e.size) end) one ∙ chunks_read words chunk.kind most (at + chunk.size) chunks end (omega arith) h.2 are.1 in
    rw (lt-ltb at end (omega arith)) (λ i. one i ∷ rest i)

-- what stands after a top is its foot, and after a record or a foot nothing
pub nothing : (words : ℕ → ℕ) (before : Kind) (from : ℕ) (back : List Extent) (end : ℕ) → ends_segment before ≡ true →
    Tiles words before from back end → (back ≡ []) × (from ≡ end)
nothing words before from [] end ends h = (refl, h)
nothing words before from (extent ∷ back) end ends h = absurd (let inner = (pair before extent.kind h.1.kind).inner in cc)

pub only_foot : (kind : Kind) → MayStand Top kind → kind ≡ Foot
only_foot Used h = elim h [ inl a ↦ absurd (cc) | inr a ↦ absurd (cc) ]
only_foot Record h = elim h [ inl a ↦ absurd (cc) | inr a ↦ absurd (cc) ]
only_foot Victim h = absurd h
only_foot Foot h = refl
only_foot kind h = absurd (cc)

pub behind_top : (words : ℕ → ℕ) (from : ℕ) (back : List Extent) (end : ℕ) → Tiles words Top from back end →
    ends_segment (last_kind Top back) ≡ true → (back ≡ extent (end - 80) 80 Foot ∷ []) × (from + 80 ≡ end)
behind_top words from [] end h tail = absurd (cc)
behind_top words from (foot ∷ back) end h tail =
    let kind = only_foot foot.kind h.1.kind in
    let size : foot.size ≡ 80 = subst (λ k. IsSize k foot.size) kind h.1.size in
    let rest = nothing words foot.kind (from + foot.size) back end (ap ends_segment kind) h.2 in
    let place = h.0 in let ends = rest.1 in (
      λ i. same_extent {at = foot.at} {at' = end - 80} {size = foot.size} {size' = 80} {kind = foot.kind} {kind' = Foot}
          (omega arith) size kind i ∷ rest.0 i,
      omega arith,
    )

module _ {regions : List Grant} {words : ℕ → ℕ} {segment : Segment} (h : IsSegment regions words segment) where
  abbrev end : ℕ
  end = segment.base + segment.size

  -- what is read of a segment whose tail stands at an address
  read : {last : Extent} → last.kind ≢ Foot → extent_at last.at segment.extents ≡ Some last → (tail : List Extent) →
      ((back : List Extent) → Tiles words last.kind (last.at + last.size) back end → ends_segment (last_kind last.kind back) ≡ true →
      last ∷ back ≡ tail) → chunks_from words (segment.size / 16) segment.base last.at ++ tail ≡ segment.extents
  read {last} other there tail rest =
      let f = found last.at last segment.extents there in
      let s = tiles_split words Used segment.base f.front (last ∷ f.back) end (subst (λ es. Tiles words Used segment.base es end) f.is h.extents) in
      let place : last.at ≡ s.middle = s.second.0 in
      let later = tiles_le words last.kind (s.middle + last.size) f.back end s.second.2 in
      let long = (sized last.kind last.size s.second.1.size).1 in let whole = s.second.1.whole in
      let chunks : chunks_from words (segment.size / 16) segment.base last.at ≡ f.front =
      chunks_read words Used (segment.size / 16) segment.base f.front last.at (omega arith) (subst (λ a. Tiles words Used segment.base f.front a) (sym place)
      s.first) (are_chunks words Used segment.base f.front last f.back end other (subst (λ es. Tiles words Used segment.base es end) f.is h.extents)) in
      let is = rest f.back (subst (λ a. Tiles words last.kind (a + last.size) f.back end) (sym place) s.second.2)
      (ap ends_segment (sym (last_append Used f.front (last ∷ f.back))) ∙ (ap (λ es. ends_segment (last_kind Used es)) (sym f.is) ∙ h.tail)) in
      (λ i. chunks i ++ (sym is) i) ∙ sym f.is

  pub read_top : {top size : ℕ} → extent_at top segment.extents ≡ Some (extent top size Top) →
      chunks_from words (segment.size / 16) segment.base top ++ top_and_foot top end ≡ segment.extents
  read_top {top} {size} there = read (λ is. cc) there (top_and_foot top end)
      (λ back tiles tail. let b = behind_top words (top + size) back end tiles tail in let ends = b.1 in
      λ i. same_extent {at = top} {at' = top} {size = size} {size' = end - 80 - top} {kind = Top} {kind' = Top} refl (omega arith) refl i ∷ b.0 i)

  pub read_record : (at : ℕ) → extent_at at segment.extents ≡ Some (record_of at end) →
      chunks_from words (segment.size / 16) segment.base at ++ record_of at end ∷ [] ≡ segment.extents
  read_record at there = read (λ is. cc) there (record_of at end ∷ [])
      (λ back tiles tail. ap (λ b. record_of at end ∷ b) (nothing words Record (at + (end - at)) back end refl tiles).0)

pub records_read : (regions : List Grant) (words : ℕ → ℕ) (most payload : ℕ) (segments : List Segment) → length segments ≤ most →
    AreSegments regions words segments → AreRecords words payload segments → records_from words most payload ≡ segments
unfolding records_from
records_read regions words zero payload [] few parts h = refl
records_read regions words (suc most) payload [] few parts h = (let none : (payload == 0) ≡ true = grind (arith, nat_tests) in rw none refl)
records_read regions words zero payload (segment ∷ segments) few parts h = absurd (omega arith)
records_read regions words (suc most) payload (segment ∷ segments) few parts h =
    let some : (payload == 0) ≡ false = nat_isnt (inr (let l = h.0 in omega arith)) in
    let extents = read_record parts.0 (payload - 16) h.4 in
    let whole : chunks_from words (words (payload + 8) / 16) (words payload) (payload - 16) ++ record_of (payload - 16)
    (words payload + words (payload + 8)) ∷ [] ≡ segment.extents =
    (λ i. chunks_from words (h.2 i / 16) (h.1 i) (payload - 16) ++ record_of (payload - 16) (h.1 i + h.2 i) ∷ []) ∙ extents in
    rw some (λ i. (record { base = h.1 i; size = h.2 i; flags = h.3 i; extents = whole i }) ∷ records_read regions words
    most (words (payload + 16)) segments (omega arith) parts.1 h.5 i)

-- they are no more than are looked for
pub records_few : (words : ℕ → ℕ) (most payload : ℕ) → length (records_from words most payload) ≤ most
unfolding records_from
records_few words zero payload = omega arith
records_few words (suc most) payload = go (payload == 0) (records_few words most (words (payload + 16)))
  where
    one : Segment
    one = record {
      base = words payload;
      size = words (payload + 8);
      flags = words (payload + 24);
      extents = chunks_from words (words (payload + 8) / 16) (words payload) (payload - 16) ++ record_of (payload - 16)
          (words payload + words (payload + 8)) ∷ [];
    }

    go : (b : Bool) → length (records_from words most (words (payload + 16))) ≤ most →
        length (if b then [] else one ∷ records_from words most (words (payload + 16))) ≤ suc most
    go true rest = omega arith
    go false rest = omega arith
