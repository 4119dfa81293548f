-- A segment is visited whose first chunk left its bin before that, or goes into it after that.
use Rattle.dlmalloc.proofs.Names.{◌≡◌, ◌≢◌, ℕ, ◌+◌, ◌-◌, ◌%◌, ◌^◌, ◌<◌, ◌≤◌, ◌⊎◌, inl, inr, Bool, true, false, ◌&&◌, ◌==◌, if◌then◌else◌, List, [], ◌∷◌, ◌++◌, Some, refl, sym, ◌∙◌, ap, subst, arith, append_assoc, Grant, Event, IsWordOf, Free, Record, size_of, free_of, IndexStays, extent_at, Segment, extents_in, IsInRecord, may_leave, IsSegment, AreSegments, record_of, AreRecords, payload_behind, segments_of, state_of, AreTold, IsSound, IsFreeAt, IsBinnedBut, OnlyFreeChange, IsRebinned, FreeMoves, IsLinked, IsChained, HaveLeft, IsVisited, Dlmalloc, SegmentRecord}
use Rattle.dlmalloc.proofs.Extents.Lookup.{nat_is, nat_same}
use Rattle.dlmalloc.proofs.Segments.Among.{all_at, all_back, among_all}
use Rattle.dlmalloc.proofs.Words.OfRecords.{payload_whole, payload_high, payload_word}
use Rattle.dlmalloc.proofs.Words.OfLinks.{is_chunk, same_or_beside}
use Rattle.dlmalloc.proofs.Bins.Changes.{binned_moved}
use Rattle.dlmalloc.proofs.Moves.WithBins.{out_of}
use Rattle.dlmalloc.proofs.Returns.SegmentVisited.{records_behind, test_is}
use Rattle.dlmalloc.proofs.Returns.ReleasePass.{left_on}

-- ---- the chain of records stays if words of free chunks change

module _ {A : Type 0} {regions : A → List Grant} {word : A → ℕ → ℕ} {heap : Dlmalloc A} (sound : IsSound regions word heap) (new : Dlmalloc A)
    (state : state_of word new ≡ state_of word heap) (next : new.next ≡ heap.next)
    (only : OnlyFreeChange (regions heap.system) (state_of word heap) (word heap.system) (word new.system)) where
  abbrev words : ℕ → ℕ
  words = word heap.system

  abbrev now : ℕ → ℕ
  now = word new.system

  abbrev granted : List Grant
  granted = regions heap.system

  -- the words of a record's payload are in no free extent
  record_stays : (front : List Segment) {segment : Segment} (back : List Segment) → segments_of word heap ≡ front ++ segment ∷ back →
      IsSegment granted words segment → (payload : ℕ) → 16 < payload → extent_at (payload - 16) segment.extents ≡ Some
      (record_of (payload - 16) (segment.base + segment.size)) → (k : ℕ) → payload ≤ k → k < payload + 32 → k % 8 ≡ 0 → now k ≡ words k
  record_stays front {segment} back is part payload some there k low high m = only k (payload_word part payload some there k low high m)
      (λ at size free. out at size (same_or_beside sound free (among_all granted words sound.segments sound.apart front segment back is (payload - 16) there)))
    where
      room : payload + 64 ≤ segment.base + segment.size
      room = payload_high part payload some there

      out : (at size : ℕ) → (record_of (payload - 16) (segment.base + segment.size) ≡ record { at = at; size = size; kind = Free })
          ⊎ ((payload - 16 + (segment.base + segment.size - (payload - 16)) ≤ at) ⊎ (at + size ≤ payload - 16)) → (k < at + 16) ⊎ (at + size ≤ k)
      out at size (inl is) = absurd (let no : Record ≡ Free = ap (λ e. e.kind) is in cc)
      out at size (inr (inl before)) = inl (omega (arith, room))
      out at size (inr (inr behind)) = inr (omega arith)

  pub records_still : (front segments : List Segment) → segments_of word heap ≡ front ++ segments → AreSegments granted words segments →
      (payload : ℕ) → AreRecords words payload segments → AreRecords now payload segments
  records_still front [] is parts payload h = h
  records_still front (segment ∷ segments) is parts payload h =
      let rest = records_still (front ++ segment ∷ []) segments (is ∙ sym (append_assoc front (segment ∷ []) segments)) parts.1 (words (payload + 16)) h.5 in (
        h.0,
        keeps payload (omega arith) (omega arith) (omega (arith, whole)) ∙ h.1,
        keeps (payload + 8) (omega arith) (omega arith) (omega (arith, whole)) ∙ h.2,
        keeps (payload + 24) (omega arith) (omega arith) (omega (arith, whole)) ∙ h.3,
        h.4,
        subst (λ p. AreRecords now p segments) (sym (keeps (payload + 16) (omega arith) (omega arith) (omega (arith, whole)))) rest,
      )
    where
      whole : payload % 16 ≡ 0
      whole = payload_whole parts.0 payload h.0 h.4

      keeps : (k : ℕ) → payload ≤ k → k < payload + 32 → k % 8 ≡ 0 → now k ≡ words k
      keeps = record_stays front segments is parts.0 payload h.0 h.4

  behind_still : (front first rest : List Segment) → segments_of word heap ≡ front ++ (first ++ rest) → AreSegments granted words (first ++ rest) →
      (payload : ℕ) → AreRecords words payload (first ++ rest) → payload_behind words payload first ≡ payload_behind now payload first
  behind_still front [] rest is parts payload h = refl
  behind_still front (segment ∷ first) rest is parts payload h =
      behind_still (front ++ segment ∷ []) first rest (is ∙ sym (append_assoc front (segment ∷ []) (first ++ rest))) parts.1 (words (payload + 16)) h.5
      ∙ ap (λ p. payload_behind now p first) (sym (record_stays front (first ++ rest) is parts.0 payload h.0 h.4 (payload + 16) (omega arith) (omega arith)
      (omega (arith, payload_whole parts.0 payload h.0 h.4))))

  -- what names the next record
  pub linked_still : (head : Segment) (front back : List Segment) → segments_of word heap ≡ head ∷ (front ++ back) →
      (before payload : ℕ) → IsLinked words heap.next before payload front → IsLinked now new.next before payload front
  linked_still head front back is before payload (inl h) = inl (h.0, h.1, h.2 ∙ sym next)
  linked_still head front back is before payload (inr l) = inr (record {
    first = l.first;
    last = l.last;
    is = l.is;
    reached = l.reached ∙ (behind_still (head ∷ []) l.first (l.last ∷ back) split parts.1 heap.next told.5 ∙ ap (λ p. payload_behind now p l.first) (sym next));
    some = l.some;
    tells = l.tells ∙ sym (record_stays (head ∷ l.first) back split last_part before last_told.0 last_told.4 (before + 16) (omega arith) (omega arith)
        (omega (arith, payload_whole last_part before last_told.0 last_told.4)));
  })
    where
      split : segments_of word heap ≡ head ∷ (l.first ++ l.last ∷ back)
      split = is ∙ (ap (λ front. head ∷ (front ++ back)) l.is ∙ ap (λ segments. head ∷ segments) (append_assoc l.first (l.last ∷ []) back))

      parts : AreSegments granted words (head ∷ (l.first ++ l.last ∷ back))
      parts = subst (AreSegments granted words) split sound.segments

      told : AreTold words heap (head ∷ (l.first ++ l.last ∷ back))
      told = subst (AreTold words heap) split sound.told

      last_part : IsSegment granted words l.last
      last_part = all_at (IsSegment granted words) (head ∷ l.first) l.last back parts

      last_told : AreRecords words before (l.last ∷ back)
      last_told = subst (λ p. AreRecords words p (l.last ∷ back)) (sym l.reached) (records_behind words heap.next l.first (l.last ∷ back) told.5)

  -- a segment's record is read the same
  pub read_still : {before : ℕ} {told : SegmentRecord} (c : IsChained word heap before told) →
      told ≡ record { base = now c.payload; size = now (c.payload + 8); next = now (c.payload + 16); flags = now (c.payload + 24) % 2 ^ 32 }
  read_still c =
      let base = sym (keeps c.payload (omega arith) (omega arith) (omega (arith, whole))) in
      let size = sym (keeps (c.payload + 8) (omega arith) (omega arith) (omega (arith, whole))) in
      let next = sym (keeps (c.payload + 16) (omega arith) (omega arith) (omega (arith, whole))) in
      let flags = sym (keeps (c.payload + 24) (omega arith) (omega arith) (omega (arith, whole))) in
      c.read ∙ (λ i. record { base = base i; size = size i; next = next i; flags = flags i % 2 ^ 32 })
    where
      part : IsSegment granted words c.segment
      part = all_at (IsSegment granted words) (c.head ∷ c.front) c.segment c.back (subst (AreSegments granted words) c.is sound.segments)

      whole : c.payload % 16 ≡ 0
      whole = payload_whole part c.payload c.records.0 c.records.4

      keeps : (k : ℕ) → c.payload ≤ k → k < c.payload + 32 → k % 8 ≡ 0 → now k ≡ words k
      keeps = record_stays (c.head ∷ c.front) c.back c.is part c.payload c.records.0 c.records.4

  -- so it is in the chain
  abbrev pub chained_on : {before : ℕ} {told : SegmentRecord} → IsChained word heap before told → IsChained word new before told
  chained_on {before} c = record {
    head = c.head;
    front = c.front;
    segment = c.segment;
    back = c.back;
    payload = c.payload;
    is = ap (λ s. s.segments) state ∙ c.is;
    records = records_still (c.head ∷ c.front) (c.segment ∷ c.back) c.is (all_back (IsSegment granted words) (c.head ∷ c.front) (c.segment ∷ c.back)
        (subst (AreSegments granted words) c.is sound.segments)) c.payload c.records;
    linked = linked_still c.head c.front (c.segment ∷ c.back) c.is before c.payload c.linked;
    read = read_still c;
  }

-- ---- chunks went into bins, or left them

module _ {A : Type 0} {regions : A → List Grant} {word : A → ℕ → ℕ} {follows : A → List Event → A → Type 0} {heap new : Dlmalloc A}
    (sound : IsSound regions word heap) (same : IsRebinned regions word follows heap new) where
  pub next_same : new.next ≡ heap.next
  next_same = ap (λ h. h.next) same.fields

  abbrev pub chained_then : {before : ℕ} {told : SegmentRecord} → IsChained word heap before told → IsChained word new before told
  chained_then c = chained_on sound new same.state next_same same.words c

  -- nothing left the heap
  pub none_left : HaveLeft regions word follows [] heap new
  none_left = record {
    sound = same.sound;
    used = record {
      still = λ used is there. ap (λ s. extent_at used.at (extents_in s)) same.state ∙ there;
      before = λ used is there. ap (λ s. extent_at used.at (extents_in s)) (sym same.state) ∙ there;
    };
    before = λ one there. ap (λ s. extent_at one.at (extents_in s)) (sym same.state) ∙ there;
    words = λ k inside was out. same.words k (subst (λ rs. IsWordOf rs k) same.regions_same inside) (out_of (state_of word heap) k was);
    regions_are = same.regions_same;
    followed = same.followed;
  }

  -- the same words of the heap before are changed back
  only_back : OnlyFreeChange (regions new.system) (state_of word new) (word new.system) (word heap.system)
  only_back = λ k inside out. sym (same.words k (subst (λ rs. IsWordOf rs k) same.regions_same inside)
      (λ at size free. out at size (subst (λ s. IsFreeAt s at size) (sym same.state) free)))

  -- a segment may leave as before
  pub may_still : (parts : Bool) {before : ℕ} {told : SegmentRecord} → (told.flags % 2 == 0 && (parts && (free_of (word heap.system (told.base + 8)) &&
      size_of (word heap.system (told.base + 8)) == told.size - 80))) ≡ true → (c : IsChained word new before told) → may_leave parts c.segment ≡ true
  may_still parts test c =
      sym (test_is sound (chained_on same.sound heap (sym same.state) (sym next_same) only_back c) parts) ∙ test

module _ {A : Type 0} {regions : A → List Grant} {word : A → ℕ → ℕ} (follows : A → List Event → A → Type 0)
    (follows_on : (x y z : A) (a b c : List Event) → follows x a y → follows y b z → a ++ b ≡ c → follows x c z) {heap : Dlmalloc A}
    (sound : IsSound regions word heap) {before : ℕ} {told : SegmentRecord} (c : IsChained word heap before told) where
  -- chunks left bins before a visit
  pub visited_then : {middle : Dlmalloc A} (same : IsRebinned regions word follows heap middle) {handed leaves : Bool} {new : Dlmalloc A} → IsVisited regions
      word follows handed leaves middle before told (chained_then sound same c) new → IsVisited regions word follows handed leaves heap before told c new
  visited_then same {handed} v = record {
    segments = v.segments;
    records = v.records;
    linked = v.linked;
    victim = v.victim ∙ ap (λ h. if handed && c.segment.base == h.victim then 0 else h.victim) same.fields;
    left = left_on regions word follows follows_on (none_left sound same) v.left;
    granularity_same = v.granularity_same ∙ ap (λ h. h.granularity) same.fields;
    rate_same = v.rate_same ∙ ap (λ h. h.rate) same.fields;
    trim_check_same = v.trim_check_same ∙ ap (λ h. h.trim_check) same.fields;
    size_same = v.size_same ∙ ap (λ h. h.size) same.fields;
  }

  -- they went into bins after one that stays
  pub visited_binned : {handed : Bool} (new : Dlmalloc A) {last : Dlmalloc A} → IsVisited regions word follows handed false heap before told c new →
      IsRebinned regions word follows new last → IsVisited regions word follows handed false heap before told c last
  visited_binned new {last} v same = record {
    segments = ap (λ s. s.segments) same.state ∙ v.segments;
    records = records_still v.left.sound last same.state next_same same.words (c.head ∷ (c.front ++ c.segment ∷ [])) c.back split
        (all_back (IsSegment (regions new.system) (word new.system)) (c.head ∷ (c.front ++ c.segment ∷ [])) c.back
        (subst (AreSegments (regions new.system) (word new.system)) split v.left.sound.segments)) told.next v.records;
    linked = linked_still v.left.sound last same.state next_same same.words c.head (c.front ++ c.segment ∷ []) c.back split c.payload told.next v.linked;
    victim = ap (λ h. h.victim) same.fields ∙ v.victim;
    left = left_on regions word follows follows_on v.left (none_left v.left.sound same);
    granularity_same = ap (λ h. h.granularity) same.fields ∙ v.granularity_same;
    rate_same = ap (λ h. h.rate) same.fields ∙ v.rate_same;
    trim_check_same = ap (λ h. h.trim_check) same.fields ∙ v.trim_check_same;
    size_same = ap (λ h. h.size) same.fields ∙ v.size_same;
  }
    where
      next_same : last.next ≡ new.next
      next_same = ap (λ h. h.next) same.fields

      split : segments_of word new ≡ c.head ∷ ((c.front ++ c.segment ∷ []) ++ c.back)
      split = v.segments ∙ ap (λ segments. c.head ∷ segments) (sym (append_assoc c.front (c.segment ∷ []) c.back))

-- ---- the bins if a segment is handed out whose first chunk is in none

module _ {A : Type 0} {regions : A → List Grant} {word : A → ℕ → ℕ} {follows : A → List Event → A → Type 0} {old new : Dlmalloc A}
    (sound : IsSound regions word old) {before : ℕ} {told : SegmentRecord} {c : IsChained word old before told} {leaves : Bool}
    (visited : IsVisited regions word follows true leaves old before told c new) where
  base_is : told.base ≡ c.segment.base
  base_is = ap (λ t. t.base) c.read ∙ c.records.1

  victim : {b : Bool} → (told.base == old.victim) ≡ b → new.victim ≡ (if b then 0 else old.victim)
  victim {b} test = visited.victim ∙ (ap (λ base. if base == old.victim then 0 else old.victim) (sym base_is) ∙ ap (λ b. if b then 0 else old.victim) test)

  -- it begins after the first page
  base_some : 4096 ≤ told.base
  base_some = subst (λ base. 4096 ≤ base) (sym base_is) (all_at (IsSegment (regions old.system) (word old.system)) (c.head ∷ c.front) c.segment c.back
      (subst (AreSegments (regions old.system) (word old.system)) c.is sound.segments)).low

  -- its first chunk is not the victim any more
  pub not_victim : told.base ≢ new.victim
  not_victim = go (told.base == old.victim) refl
    where
      go : (b : Bool) → (told.base == old.victim) ≡ b → told.base ≢ new.victim
      go true test = λ is. absurd (let none : told.base ≡ 0 = is ∙ victim test in omega (arith, base_some))
      go false test = λ is. (let yes : (told.base == old.victim) ≡ true = ap (λ b. b == old.victim) (is ∙ victim test)
          ∙ nat_same old.victim in let no = sym test ∙ yes in cc)

  -- the victim was that, or stays
  pub was_base : (k : ℕ) → k ≡ old.victim → k ≢ new.victim → k ≡ told.base
  was_base k is other = go (told.base == old.victim) refl
    where
      go : (b : Bool) → (told.base == old.victim) ≡ b → k ≡ told.base
      go true test = is ∙ sym (nat_is test)
      go false test = absurd (other (is ∙ sym (victim test)))

  -- and no other is the victim then
  pub was_victim : (k : ℕ) {n : ℕ} → k ≡ new.victim → IsFreeAt (state_of word old) k n → k ≢ old.victim → ⊥
  was_victim k is free other = go (told.base == old.victim) refl
    where
      go : (b : Bool) → (told.base == old.victim) ≡ b → ⊥
      go true test = (let none : k ≡ 0 = is ∙ victim test in let low = (is_chunk sound free).low in absurd (omega arith))
      go false test = other (is ∙ victim test)

module _ (index_stays : IndexStays) {A : Type 0} {regions : A → List Grant} {word : A → ℕ → ℕ} {follows : A → List Event → A → Type 0}
    {old new : Dlmalloc A} (sound : IsSound regions word old) {before : ℕ} {told : SegmentRecord} {c : IsChained word old before told} {leaves : Bool}
    (visited : IsVisited regions word follows true leaves old before told c new)
    (words : (k : ℕ) → IsWordOf (regions new.system) k → (IsInRecord (state_of word old) k → ⊥) → word new.system k ≡ word old.system k)
    (bins : new.bins ≡ old.bins) where
  -- it stays, and is in no bin
  abbrev pub loose_still : FreeMoves (state_of word old) (state_of word new) [] [] →
      IsBinnedBut (told.base ∷ []) regions word old → IsBinnedBut (told.base ∷ []) regions word new
  loose_still moves = binned_moved index_stays sound visited.left.sound (λ k was is boundary tag tag'. words k is tag) bins {loose = told.base ∷ []}
      {loose' = told.base ∷ []} moves (record {
        gone = λ k none n free other. absurd none;
        come = λ k none n free other. absurd none;
        still = λ k out which n free other. elim which [ inl is ↦ inl (was_base sound visited k is other) | inr is ↦ is ];
        from = λ k out which n free other. elim which [ inl is ↦ absurd (was_victim sound visited k is free other) | inr is ↦ is ];
      })

  -- it leaves, and the bins have all the others
  abbrev pub binned_without : FreeMoves (state_of word old) (state_of word new) (told.base ∷ []) [] →
      IsBinnedBut (told.base ∷ []) regions word old → IsBinnedBut [] regions word new
  binned_without moves = binned_moved index_stays sound visited.left.sound (λ k was is boundary tag tag'. words k is tag) bins {loose = told.base ∷ []}
      {loose' = []} moves (record {
        gone = λ k is n free other. is;
        come = λ k none n free other. none;
        still = λ k out which n free other. elim which [ inl is ↦ out (inl (was_base sound visited k is other)) | inr is ↦ out is ];
        from = λ k out which n free other. elim which [ inl is ↦ absurd (was_victim sound visited k is free other) | inr none ↦ absurd none ];
      })
