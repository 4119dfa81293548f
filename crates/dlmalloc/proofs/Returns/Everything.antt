-- All segments of a heap go back to its system, one after the other.
use Rattle.dlmalloc.proofs.Names.{◌≡◌, ◌≢◌, ℕ, ◌+◌, ◌%◌, ◌^◌, ◌<◌, ◌≤◌, Bool, true, false, cond, ◌==◌, List, [], ◌∷◌, ◌++◌, refl, sym, ◌∙◌, ap, subst, arith, append_assoc, length-append, length, filter, AllByRecursion, append-nil, filter-append, Grant, Event, IsWordOf, without_run, IsRun, Segment, is_own, taken_back, bytes_of, AreGivenBack, told_of, AreSegments, IsApartFrom, AreApart, records_from, AreRecords, segments_of, AreTold, IsSound, Dlmalloc, SegmentRecord}
use Rattle.dlmalloc.proofs.Extents.FromWords.{records_read}
use Rattle.dlmalloc.proofs.Segments.Among.{back_apart}
use Rattle.dlmalloc.proofs.Moves.OfHeaps.{segments_few}
use Rattle.dlmalloc.proofs.Segments.WordsKept.{KeepsIts, parts_stay, records_stay}
use Rattle.dlmalloc.proofs.Grants.PutBefore.{flip}
use Rattle.dlmalloc.proofs.Words.OfRecords.{payload_whole, payload_high, payload_word}
use Rattle.dlmalloc.proofs.Returns.Segments.{whole_run, apart_segments, apart_keeps, bytes_append, bytes_filter, bytes_few, taken_append, taken_few, given_on, given_same}

-- ---- the next record

-- the segment that a record describes, and those after it
pub record Ahead (words : ℕ → ℕ) (payload : ℕ) (rest : List Segment) : Type 0 where
  pub segment : Segment
  pub others : List Segment
  pub is : rest ≡ segment ∷ others
  pub told : AreRecords words payload (segment ∷ others)

pub ahead_of : (words : ℕ → ℕ) (payload : ℕ) (rest : List Segment) → payload ≢ 0 → AreRecords words payload rest → Ahead words payload rest
ahead_of words payload [] more h = absurd (more h)
ahead_of words payload (segment ∷ others) more h = record { segment = segment; others = others; is = refl; told = h }

pub none_ahead : (words : ℕ → ℕ) {payload : ℕ} (rest : List Segment) → payload ≡ 0 → AreRecords words payload rest → rest ≡ []
none_ahead words [] none h = refl
none_ahead words (segment ∷ rest) none h = absurd (let some = h.0 in omega arith)

-- what is read of a record
abbrev pub record_read : (ℕ → ℕ) → ℕ → SegmentRecord
record_read words payload = record { base = words payload; size = words (payload + 8); next = words (payload + 16); flags = words (payload + 24) % 2 ^ 32 }

-- the parity of flags is that of their last 32 bits
pub parity : {flags word : ℕ} → word ≡ flags → (word % 2 ^ 32 % 2 == 0) ≡ (flags % 2 == 0)
parity is = ap (λ n. n == 0) (omega arith)

-- all words of segments stay, if granted words do
pub all_keep : (regions : List Grant) (old new : ℕ → ℕ) → ((k : ℕ) → IsWordOf regions k → new k ≡ old k) →
    (segments : List Segment) → AreSegments regions old segments → AllByRecursion (KeepsIts old new) segments
all_keep regions old new kept [] parts = tt
all_keep regions old new kept (segment ∷ segments) parts =
    (λ k low high m. kept k (record { granted = parts.0.run.covered k (omega arith) high; aligned = m }), all_keep regions old new kept segments parts.1)

-- ---- so far

-- the segments of a heap up to a record are given back, if the system takes them, and have this many bytes
pub record Destroying {A : Type 0} (regions : A → List Grant) (word : A → ℕ → ℕ) (follows : A → List Event → A → Type 0)
    (takes : Bool) (old : Dlmalloc A) (payload released : ℕ) (system : A) : Type 0 where
  pub done : List Segment
  pub rest : List Segment
  pub given : AreGivenBack regions word follows (taken_back takes (filter is_own done)) old.system released system
  pub is : segments_of word old ≡ done ++ rest
  pub some : 0 < length done
  pub parts : AreSegments (regions system) (word system) rest
  pub told : AreRecords (word system) payload rest

-- the segment that is described is one of the heap
pub record IsTold (told segment : Segment) : Type 0 where
  pub base : told.base ≡ segment.base
  pub size : told.size ≡ segment.size
  pub own : is_own told ≡ is_own segment

-- the head segment is a run
pub head_is_run : {A : Type 0} {regions : A → List Grant} {word : A → ℕ → ℕ} {heap : Dlmalloc A} → IsSound regions word heap → heap.size ≢ 0 →
    {told : SegmentRecord} → told ≡ record { base = heap.base; size = heap.size; next = heap.next; flags = heap.flags } →
    IsRun (regions heap.system) told.base (told.base + told.size)
head_is_run {regions} {word} {heap} sound some read =
    subst (λ t. IsRun (regions heap.system) t.base (t.base + t.size)) (sym read) (go (segments_of word heap) sound.segments sound.told)
  where
    go : (segments : List Segment) → AreSegments (regions heap.system) (word heap.system) segments → AreTold (word heap.system) heap segments →
        IsRun (regions heap.system) heap.base (heap.base + heap.size)
    go [] parts h = absurd (some h)
    go (segment ∷ segments) parts h =
        subst (λ base. IsRun (regions heap.system) base (base + heap.size)) (sym h.1) (subst (λ size. IsRun (regions heap.system) segment.base
        (segment.base + size)) (sym h.2) (whole_run (let long = parts.0.long in omega arith) parts.0.run))

module _ {A : Type 0} {regions : A → List Grant} {word : A → ℕ → ℕ} {follows : A → List Event → A → Type 0} {takes : Bool} {heap : Dlmalloc A}
    (sound : IsSound regions word heap) where
  -- the records that are read are those that are left
  records_left : {payload released : ℕ} {system : A} (d : Destroying regions word follows takes heap payload released system) →
      records_from (word system) (2 ^ 64) payload ≡ d.rest
  records_left {payload} {system = system} d = records_read (regions system) (word system) (2 ^ 64) payload d.rest
      (let all = segments_few word heap in let sum = ap length d.is ∙ length-append d.done d.rest in let some = d.some in omega arith) d.parts d.told

  module _ {payload released : ℕ} {old : A} (d : Destroying regions word follows takes heap payload released old) where
    -- all are given back
    pub destroyed : payload ≡ 0 → AreGivenBack regions word follows (taken_back takes (filter is_own (segments_of word heap))) heap.system released old
    destroyed none = subst (λ segments. AreGivenBack regions word follows (taken_back takes (filter is_own segments)) heap.system released old)
        (sym (d.is ∙ (ap (λ rest. d.done ++ rest) (none_ahead (word old) d.rest none d.told) ∙ append-nil d.done))) d.given

    module _ (more : payload ≢ 0) where
      abbrev pub a : Ahead (word old) payload d.rest
      a = ahead_of (word old) payload d.rest more d.told

      pub parts_are : AreSegments (regions old) (word old) (a.segment ∷ a.others)
      parts_are = subst (AreSegments (regions old) (word old)) a.is d.parts

      -- what reading the record wants
      pub read_high : payload + 32 < 2 ^ 64
      read_high = omega (arith, payload_high parts_are.0 payload a.told.0 a.told.4, parts_are.0.high)

      pub read_word : (k : ℕ) → payload ≤ k → k < payload + 32 → k % 8 ≡ payload % 8 → IsWordOf (regions old) k
      read_word k low high m = payload_word parts_are.0 payload a.told.0 a.told.4 k low high
          (omega (arith, payload_whole parts_are.0 payload a.told.0 a.told.4))

      module _ {told : SegmentRecord} (read : told ≡ record_read (word old) payload) where
        pub is_told : IsTold (told_of told) a.segment
        is_told = record {
          base = ap (λ t. t.base) read ∙ a.told.1;
          size = ap (λ t. t.size) read ∙ a.told.2;
          own = ap (λ t. t.flags % 2 == 0) read ∙ parity a.told.3;
        }

        pub is_run : IsRun (regions old) told.base (told.base + told.size)
        is_run =
            subst (λ base. IsRun (regions old) base (base + told.size)) (sym is_told.base) (subst (λ size. IsRun (regions old) a.segment.base
            (a.segment.base + size)) (sym is_told.size) (whole_run (let long = parts_are.0.long in omega arith) parts_are.0.run))

module _ {A : Type 0} {regions : A → List Grant} {word : A → ℕ → ℕ} {follows : A → List Event → A → Type 0}
    (follows_on : (x y z : A) (a b c : List Event) → follows x a y → follows y b z → a ++ b ≡ c → follows x c z) where
  -- what the described segment is, the one in the heap is
  pub given_told : (takes : Bool) {told segment : Segment} {old new : A} {bytes : ℕ} → IsTold told segment → AreGivenBack regions word follows
      (taken_back takes (filter is_own (told ∷ []))) old bytes new → AreGivenBack regions word follows (taken_back takes (filter is_own (segment ∷ []))) old
      bytes new
  given_told takes {told} {segment} {old} {new} {bytes} is given =
      subst (λ b. AreGivenBack regions word follows (taken_back takes (cond b (segment ∷ []) [])) old bytes new) is.own (go takes (is_own told) given)
    where
      go : (takes own : Bool) → AreGivenBack regions word follows (taken_back takes (cond own (told ∷ []) [])) old bytes new →
          AreGivenBack regions word follows (taken_back takes (cond own (segment ∷ []) [])) old bytes new
      go true true given = given_same regions word follows follows_on told segment true old new is.base is.size given
      go true false given = given
      go false own given = given

  -- those after it stay
  pub rest_stay : (takes : Bool) (segment : Segment) (others : List Segment) {old new : A} {bytes : ℕ} → AreSegments (regions old) (word old)
      (segment ∷ others) → AllByRecursion (IsApartFrom segment) others → AreGivenBack regions word follows (taken_back takes
      (filter is_own (segment ∷ []))) old bytes new → AreSegments (regions new) (word new) others × AllByRecursion (KeepsIts (word old) (word new)) others
  rest_stay takes segment others {old} {new} {bytes} parts apart given = go takes (is_own segment) given
    where
      kept : regions new ≡ regions old → ((k : ℕ) → IsWordOf (regions new) k → word new k ≡ word old k) →
          AreSegments (regions new) (word new) others × AllByRecursion (KeepsIts (word old) (word new)) others
      kept same words =
          let keeps = all_keep (regions old) (word old) (word new) (λ k inside. words k (subst (λ rs. IsWordOf rs k) (sym same) inside)) others parts.1 in
          (subst (λ rs. AreSegments rs (word new) others) (sym same) (parts_stay (regions old) (word old) (word new) others parts.1 keeps), keeps)

      go : (takes own : Bool) → AreGivenBack regions word follows (taken_back takes (cond own (segment ∷ []) [])) old bytes new →
          AreSegments (regions new) (word new) others × AllByRecursion (KeepsIts (word old) (word new)) others
      go true true given =
          let some : 0 < segment.size = (let l = parts.0.long in omega arith) in
          let run = parts.0.run in
          let gone : regions new ≡ without_run segment.base (segment.base + segment.size) (regions old) = given.regions_are in
          let keeps = apart_keeps segment run some (word old) (word new) (λ k inside.
          given.words k (subst (λ rs. IsWordOf rs k) (sym gone) inside)) others parts.1 apart in
          (subst (λ rs. AreSegments rs (word new) others) (sym gone) (apart_segments segment run some (word old) (word new) others parts.1 apart keeps), keeps)
      go true false given = kept given.regions_are given.words
      go false own given = kept given.regions_are given.words

  module _ {takes : Bool} {heap : Dlmalloc A} (sound : IsSound regions word heap) where
    -- a segment is given back
    abbrev given_next : (done : List Segment) (segment : Segment) (others : List Segment) → segments_of word heap ≡ done ++ segment ∷ others →
        {released : ℕ} {old : A} → AreSegments (regions old) (word old) (segment ∷ others) → AreGivenBack regions word follows
        (taken_back takes (filter is_own done)) heap.system released old → {told : Segment} → IsTold told segment → {bytes : ℕ} {new : A} →
        AreGivenBack regions word follows (taken_back takes (filter is_own (told ∷ []))) old bytes new →
        (next : ℕ) → AreRecords (word old) next others → Destroying regions word follows takes heap next (released + bytes) new
    given_next done segment others is {released} {old} parts before told {bytes} {new} given next records =
        let here = given_told takes told given in
        let apart : AllByRecursion (IsApartFrom segment) others = flip segment others (back_apart done segment others (subst AreApart is sound.apart)) in
        let stay = rest_stay takes segment others parts apart here in
        record {
          done = done ++ segment ∷ [];
          rest = others;
          given = subst (λ gone. AreGivenBack regions word follows gone heap.system (released + bytes) new) (sym
              (ap (taken_back takes) (filter-append is_own done (segment ∷ [])) ∙ taken_append takes (filter is_own done) (filter is_own (segment ∷ []))))
              (given_on regions word follows follows_on old new before here);
          is = is ∙ sym (append_assoc done (segment ∷ []) others);
          some = omega (arith, length-append done (segment ∷ []));
          parts = stay.0;
          told = records_stay (regions old) (word old) (word new) others parts.1 stay.1 next records;
        }

    -- the head is
    pub head_given : heap.size ≢ 0 → (follows_none : (x : A) → follows x [] x) → {told : SegmentRecord} →
        told ≡ record { base = heap.base; size = heap.size; next = heap.next; flags = heap.flags } → {bytes : ℕ} {new : A} →
        AreGivenBack regions word follows (taken_back takes (filter is_own (told_of told ∷ []))) heap.system bytes new →
        Destroying regions word follows takes heap told.next bytes new
    head_given some follows_none {told} read {bytes} {new} given = go (segments_of word heap) refl sound.segments sound.told
      where
        nothing : (takes : Bool) → AreGivenBack regions word follows (taken_back takes []) heap.system 0 heap.system
        nothing true = record { bytes_are = refl; words = λ k inside. refl; regions_are = refl; followed = follows_none heap.system }
        nothing false = record { bytes_are = refl; words = λ k inside. refl; regions_are = refl; followed = follows_none heap.system }

        go : (segments : List Segment) → segments_of word heap ≡ segments → AreSegments (regions heap.system) (word heap.system) segments →
            AreTold (word heap.system) heap segments → Destroying regions word follows takes heap told.next bytes new
        go [] is parts h = absurd (some h)
        go (segment ∷ segments) is parts h =
            subst (λ n. Destroying regions word follows takes heap told.next n new) (omega arith) (given_next [] segment segments is parts (nothing takes)
            (record {
              base = ap (λ t. t.base) read ∙ h.1;
              size = ap (λ t. t.size) read ∙ h.2;
              own = ap (λ t. t.flags % 2 == 0) read ∙ ap (λ f. f % 2 == 0) h.3;
            })
            given told.next (subst (λ p. AreRecords (word heap.system) p segments) (ap (λ t. t.next) (sym read)) h.5))

    -- the next one is
    module _ {payload released : ℕ} {old : A} (d : Destroying regions word follows takes heap payload released old) (more : payload ≢ 0)
        {told : SegmentRecord} (read : told ≡ record_read (word old) payload) {bytes : ℕ} {new : A}
        (given : AreGivenBack regions word follows (taken_back takes (filter is_own (told_of told ∷ []))) old bytes new) where
      abbrev ahead : Ahead (word old) payload d.rest
      ahead = a sound d more

      abbrev pub on_given : Destroying regions word follows takes heap told.next (released + bytes) new
      on_given = given_next d.done ahead.segment ahead.others (d.is ∙ ap (λ rest. d.done ++ rest) ahead.is) (parts_are sound d more) d.given
          (is_told sound d more read) given told.next (subst (λ p. AreRecords (word old) p ahead.others) (ap (λ t. t.next) (sym read)) ahead.told.5)

      pub sum_fits : released + bytes < 2 ^ 64
      sum_fits =
          let all = bytes_few (regions heap.system) (word heap.system) (segments_of word heap) sound.segments sound.apart in
          let sum = ap bytes_of on_given.is ∙ bytes_append on_given.done on_given.rest in
          let some = taken_few takes (filter is_own on_given.done) in
          let own = bytes_filter is_own on_given.done in
          omega (arith, on_given.given.bytes_are)

      pub fewer_given : length (records_from (word new) (2 ^ 64) told.next) < length (records_from (word old) (2 ^ 64) payload)
      fewer_given = omega (arith, ap length (records_left sound on_given), ap length (records_left sound d), ap length ahead.is)
