-- A release pass: what it leaves, as it visits the segments after the head one after the other.
use Rattle.dlmalloc.proofs.Names.{◌≡◌, ◌≢◌, ℕ, ◌+◌, ◌/◌, ◌%◌, ◌^◌, ◌<◌, ◌≤◌, inl, Bool, true, false, cond, not, ◌&&◌, ◌||◌, ◌==◌, if◌then◌else◌, List, [], ◌∷◌, ◌++◌, Some, IsTrue, refl, sym, ◌∙◌, ap, subst, arith, append_assoc, length-append, length, filter, max, list_any, append-nil, map-append, filter-append, list_any-append, Grant, Event, Released, IsWordOf, is_granted, Extent, Used, Free, extent_at, Segment, extents_in, countdown_from, KeepsBlocks, may_leave, handed_out, staying, releases, regions_without, bytes_of, taken_back, IsSegment, AreSegments, AreRecords, segments_of, state_of, AreTold, IsSound, IsLinked, IsChained, HaveLeft, IsVisited, IsPassed, IsReindexed, after_visit, after_visits, after_pass, Dlmalloc, SegmentRecord}
use Rattle.dlmalloc.specs.Released.{visited}
use Rattle.dlmalloc.proofs.Returns.PassOrder.{visit_same, visits_on}
use Rattle.dlmalloc.proofs.Bins.Changes.{same_bins}
use Rattle.dlmalloc.proofs.Moves.OfLists.{standing}
use Rattle.dlmalloc.proofs.Segments.Among.{all_at, located, of_located}
use Rattle.dlmalloc.proofs.Segments.ByAddress.{few}
use Rattle.dlmalloc.proofs.Words.OfRecords.{payload_whole, payload_high, payload_word}
use Rattle.dlmalloc.proofs.Extents.Lookup.{extent}
use Rattle.dlmalloc.proofs.Blocks.WordsKept.{no_record, not_in_free}
use Rattle.dlmalloc.proofs.Returns.Segments.{still_granted, without_append, bytes_append, bytes_filter, bytes_few}
use Rattle.dlmalloc.proofs.Returns.Everything.{Ahead, ahead_of, none_ahead, record_read}

-- ---- of some segments

-- those that stay and those that leave
abbrev pub remaining : Bool → Bool → List Segment → List Segment
remaining frees parts segments = filter (λ segment. not (frees && may_leave parts segment)) segments

abbrev pub leaving : Bool → Bool → List Segment → List Segment
leaving frees parts segments = filter (λ segment. frees && may_leave parts segment) segments

-- the victim, if those that may leave are handed out
abbrev pub victim_after : Bool → List Segment → ℕ → ℕ
victim_after parts segments victim = if list_any (λ segment. segment.base == victim) (filter (may_leave parts) segments) then 0 else victim

all_filtered : (segments : List Segment) → filter (λ segment. true) segments ≡ segments
all_filtered [] = refl
all_filtered (segment ∷ segments) = ap (λ rest. segment ∷ rest) (all_filtered segments)

none_filtered : (segments : List Segment) → filter (λ segment. false) segments ≡ []
none_filtered [] = refl
none_filtered (segment ∷ segments) = none_filtered segments

remaining_is : (frees parts : Bool) (head : Segment) (segments : List Segment) →
    head ∷ remaining frees parts segments ≡ (if frees then staying parts (head ∷ segments) else head ∷ segments)
remaining_is true parts head segments = refl
remaining_is false parts head segments = ap (λ rest. head ∷ rest) (all_filtered segments)

leaving_is : (frees parts : Bool) (head : Segment) (segments : List Segment) →
    leaving frees parts segments ≡ taken_back frees (handed_out parts (head ∷ segments))
leaving_is true parts head segments = refl
leaving_is false parts head segments = none_filtered segments

-- ---- what has left

-- the countdown is no part of what makes a heap sound
pub countdown_sound : {A : Type 0} {regions : A → List Grant} {word : A → ℕ → ℕ} {heap : Dlmalloc A} → IsSound regions word heap →
    (countdown : ℕ) → IsSound regions word (record heap { countdown = countdown })
countdown_sound sound countdown = record {
  granularity = sound.granularity;
  segments = sound.segments;
  apart = sound.apart;
  told = sound.told;
  none = sound.none;
  no_victim = sound.no_victim;
  victim = sound.victim;
}

-- the bytes of an extent, and the head after it, are granted
record IsCovered (regions : List Grant) (block : Extent) : Type 0 where
  pub long : 32 ≤ block.size
  pub whole : block.at % 8 ≡ 0
  pub covered : (k : ℕ) → block.at ≤ k → k < block.at + block.size + 8 → IsTrue (is_granted regions k)

module _ {A : Type 0} (regions : A → List Grant) (word : A → ℕ → ℕ) (follows : A → List Event → A → Type 0) where
  pub left_on : ((x y z : A) (a b c : List Event) → follows x a y → follows y b z → a ++ b ≡ c → follows x c z) →
      {first second : List Segment} {old middle new : Dlmalloc A} →
      HaveLeft regions word follows first old middle → HaveLeft regions word follows second middle new → HaveLeft regions word follows (first ++ second) old new
  left_on follows_on {first} {second} {old} {middle} {new} one two = record {
    sound = two.sound;
    used = record {
      still = λ used is there. two.used.still used is (one.used.still used is there);
      before = λ used is there. one.used.before used is (two.used.before used is there);
    };
    before = λ extent there. one.before extent (two.before extent there);
    words = λ k inside was out.
        two.words k inside (λ f. was (record {
          at = f.at;
          size = f.size;
          free = one.before (extent f.at f.size Free) f.free;
          low = f.low;
          high = f.high;
        })) (λ r. out (record {
          extent = r.extent;
          there = one.before r.extent r.there;
          is =
              r.is;
          low = r.low;
          high = r.high;
        }))
        ∙ one.words k (record {
          granted = still_granted second (regions middle.system) k
              (subst (λ rs. IsTrue (is_granted rs k)) two.regions_are inside.granted);
          aligned = inside.aligned;
        }) was out;
    regions_are = two.regions_are ∙ (ap (regions_without second) one.regions_are ∙ sym (without_append first second (regions old.system)));
    followed = follows_on old.system middle.system new.system (releases first) (releases second) (releases (first ++ second)) one.followed two.followed
        (sym (map-append (λ segment. Released segment.base segment.size 0) first second));
  }

  -- the blocks keep their words
  blocks_left : {segments : List Segment} (old new : Dlmalloc A) → IsSound regions word old → HaveLeft regions word follows segments old new →
      KeepsBlocks (extents_in (state_of word old)) (word old.system) (word new.system)
  blocks_left old new sound left = record {
    words = λ block there used k low high m. left.words k (inside block there used k (omega arith) high m) (not_in_free sound there used k (omega arith) high)
        (no_record sound there used k (omega arith) high m);
    heads = λ block there used. (let is = stands block there used in
        ap (λ w. w / 2) (left.words (block.at + 8) (inside block there used (block.at + 8) (omega arith) (omega arith) (omega arith)) (not_in_free sound there
        used (block.at + 8) (omega arith) (omega arith)) (no_record sound there used (block.at + 8) (omega arith) (omega arith) (omega arith))));
  }
    where
      stands : (block : Extent) → extent_at block.at (extents_in (state_of word old)) ≡ Some block → block.kind ≡ Used → IsCovered (regions new.system) block
      stands block there used =
          let l = located block.at (segments_of word new) (left.used.still block used there) in
          let p = of_located (IsSegment (regions new.system) (word new.system)) l left.sound.segments in
          let is = standing (word new.system) Used l.segment.base l.segment.extents (l.segment.base + l.segment.size) p.extents p.tail l.there used in
          let from = is.low in let to = is.high in let long = is.long in let whole = is.whole in
          record { long = omega arith; whole = omega arith; covered = λ k low high. p.run.covered k (omega arith) (omega arith) }

      inside : (block : Extent) → extent_at block.at (extents_in (state_of word old)) ≡ Some block → block.kind ≡ Used →
          (k : ℕ) → block.at ≤ k → k < block.at + block.size + 8 → k % 8 ≡ 0 → IsWordOf (regions new.system) k
      inside block there used k low high m = record { granted = (stands block there used).covered k low high; aligned = m }

-- ---- the segments up to a record are visited

pub record Passing {A : Type 0} (regions : A → List Grant) (word : A → ℕ → ℕ) (follows : A → List Event → A → Type 0)
    (frees parts : Bool) (old : Dlmalloc A) (before payload count released : ℕ) (new : Dlmalloc A) : Type 0 where
  pub head : Segment
  pub done : List Segment
  pub rest : List Segment
  pub was : segments_of word old ≡ head ∷ (done ++ rest)
  pub is : segments_of word new ≡ head ∷ (remaining frees parts done ++ rest)
  pub records : AreRecords (word new.system) payload rest
  pub linked : IsLinked (word new.system) new.next before payload (remaining frees parts done)
  pub victim : new.victim ≡ victim_after parts done old.victim
  pub left : HaveLeft regions word follows (leaving frees parts done) old new
  pub bytes_are : released ≡ bytes_of (leaving frees parts done)
  pub counted : count ≡ length done
  pub index : IsReindexed regions word (after_visits frees parts done) old new
  pub some : 0 < new.size
  pub granularity_same : new.granularity ≡ old.granularity
  pub rate_same : new.rate ≡ old.rate
  pub trim_check_same : new.trim_check ≡ old.trim_check

module _ {A : Type 0} {regions : A → List Grant} {word : A → ℕ → ℕ} {follows : A → List Event → A → Type 0}
    {frees parts : Bool} {old : Dlmalloc A} (sound : IsSound regions word old) where
  -- none is at the beginning
  pub begun_passing : 0 < old.size → ((x : A) → follows x [] x) → Passing regions word follows frees parts old 0 old.next 0 0 old
  begun_passing some follows_none = go (segments_of word old) refl sound.told
    where
      go : (segments : List Segment) → segments_of word old ≡ segments → AreTold (word old.system) old segments →
          Passing regions word follows frees parts old 0 old.next 0 0 old
      go [] is h = absurd (omega arith)
      go (head ∷ segments) is h = record {
        head = head;
        done = [];
        rest = segments;
        was = is;
        is = is;
        records = h.5;
        linked = inl (refl, refl, refl);
        victim = refl;
        left = record {
          sound = sound;
          used = record { still = λ used is there. there; before = λ used is there. there };
          before = λ one there. there;
          words = λ k inside was out. refl;
          regions_are = refl;
          followed = follows_none old.system;
        };
        index = λ b. (b, λ n. refl);
        bytes_are = refl;
        counted = refl;
        some = some;
        granularity_same = refl;
        rate_same = refl;
        trim_check_same = refl;
      }

  module _ {before payload count released : ℕ} {now : Dlmalloc A} (p : Passing regions word follows frees parts old before payload count released now) where
    -- no more are visited than there are
    pub passed_few : count ≤ length (segments_of word old)
    passed_few = omega (arith, ap length p.was, length-append p.done p.rest)

    module _ (more : payload ≢ 0) where
      abbrev pub ahead : Ahead (word now.system) payload p.rest
      ahead = ahead_of (word now.system) payload p.rest more p.records

      pub bounded : bytes_of p.done + ahead.segment.size < 2 ^ 64
      bounded =
          let all = bytes_few (regions old.system) (word old.system) (segments_of word old) sound.segments sound.apart in
          let sum = ap bytes_of (p.was ∙ ap (λ rest. p.head ∷ (p.done ++ rest)) ahead.is) in
          let both = bytes_append p.done (ahead.segment ∷ ahead.others) in
          omega arith

      ahead_part : IsSegment (regions now.system) (word now.system) ahead.segment
      ahead_part = all_at (IsSegment (regions now.system) (word now.system)) (p.head ∷ remaining frees parts p.done) ahead.segment ahead.others
          (subst (AreSegments (regions now.system) (word now.system)) (p.is
          ∙ ap (λ rest. p.head ∷ (remaining frees parts p.done ++ rest)) ahead.is) p.left.sound.segments)

      -- what reading its record wants
      pub read_high : payload + 32 < 2 ^ 64
      read_high = omega (arith, payload_high ahead_part payload ahead.told.0 ahead.told.4, ahead_part.high)

      pub read_word : (k : ℕ) → payload ≤ k → k < payload + 32 → k % 8 ≡ payload % 8 → IsWordOf (regions now.system) k
      read_word k low high m = payload_word ahead_part payload ahead.told.0 ahead.told.4 k low high
          (omega (arith, payload_whole ahead_part payload ahead.told.0 ahead.told.4))

      -- if one is left, fewer are visited than there are
      pub more_left : count + 1 < length (segments_of word old)
      more_left = omega (arith, ap length p.was, length-append p.done p.rest, ap length ahead.is)

      pub count_fits : count + 1 < 2 ^ 64
      count_fits = omega (arith, more_left, few (regions old.system) (word old.system) (segments_of word old) sound.segments sound.apart)

      module _ {told : SegmentRecord} (read : told ≡ record_read (word now.system) payload) where
        abbrev pub chained : IsChained word now before told
        chained = record {
          head = p.head;
          front = remaining frees parts p.done;
          segment = ahead.segment;
          back = ahead.others;
          payload = payload;
          is = p.is ∙ ap (λ rest. p.head ∷ (remaining frees parts p.done ++ rest)) ahead.is;
          records = ahead.told;
          linked = p.linked;
          read = read;
        }

        pub told_size : told.size ≡ ahead.segment.size
        told_size = ap (λ t. t.size) read ∙ ahead.told.2

        pub sum_fits : released + told.size < 2 ^ 64
        sum_fits = omega (arith, p.bytes_are, bytes_filter (λ segment. frees && may_leave parts segment) p.done, bounded, told_size)

        module _ (follows_on : (x y z : A) (a b c : List Event) → follows x a y → follows y b z → a ++ b ≡ c → follows x c z) {b : Bool}
            (b_is : b ≡ (frees && may_leave parts ahead.segment)) {new : Dlmalloc A}
            (v : IsVisited regions word follows (may_leave parts ahead.segment) b now before told chained new)
            (next : IsReindexed regions word (after_visit frees parts ahead.segment) now new) where
          stay_is : remaining frees parts (p.done ++ ahead.segment ∷ []) ≡ remaining frees parts p.done ++ (if not b then ahead.segment ∷ [] else [])
          stay_is = filter-append (λ segment. not (frees && may_leave parts segment)) p.done (ahead.segment ∷ [])
              ∙ ap (λ t. remaining frees parts p.done ++ cond (not t) (ahead.segment ∷ []) []) (sym b_is)

          gone_is : leaving frees parts (p.done ++ ahead.segment ∷ []) ≡ leaving frees parts p.done ++ (if b then ahead.segment ∷ [] else [])
          gone_is = filter-append (λ segment. frees && may_leave parts segment) p.done (ahead.segment ∷ [])
              ∙ ap (λ t. leaving frees parts p.done ++ cond t (ahead.segment ∷ []) []) (sym b_is)

          joined : (b : Bool) (segments others : List Segment) →
              segments ++ (if b then others else ahead.segment ∷ others) ≡ (segments ++ (if not b then ahead.segment ∷ [] else [])) ++ others
          joined true segments others = ap (λ ss. ss ++ others) (sym (append-nil segments))
          joined false segments others = sym (append_assoc segments (ahead.segment ∷ []) others)

          front_is : (b : Bool) (segments : List Segment) → (if b then segments
              else segments ++ ahead.segment ∷ []) ≡ segments ++ (if not b then ahead.segment ∷ [] else [])
          front_is true segments = sym (append-nil segments)
          front_is false segments = refl

          victim_is : (a m : Bool) → (if m && ahead.segment.base == (if a then 0 else old.victim) then 0 else (if a then 0 else old.victim))
              ≡ (if a || list_any (λ segment. segment.base == old.victim) (cond m (ahead.segment ∷ []) []) then 0 else old.victim)
          victim_is true m = elim (m && ahead.segment.base == 0) as (λ b. ◌≡◌ {A = ℕ} (if b then 0 else 0) 0) [ true ↦ refl | false ↦ refl ]
          victim_is false true = elim (ahead.segment.base == old.victim) as (λ b. (if b then 0 else old.victim) ≡ (if b || false then 0 else old.victim))
              [ true ↦ refl | false ↦ refl ]
          victim_is false false = refl

          bytes_now : (b : Bool) → (if b then released + told.size else released) ≡ bytes_of
              (leaving frees parts p.done ++ (if b then ahead.segment ∷ [] else []))
          bytes_now true = omega (arith, told_size, bytes_append (leaving frees parts p.done) (ahead.segment ∷ []))
          bytes_now false = p.bytes_are ∙ ap bytes_of (sym (append-nil (leaving frees parts p.done)))

          -- one more is
          pub on_passing : Passing regions word follows frees parts old (if b then before else payload) told.next
              (count + 1) (if b then released + told.size else released) new
          on_passing = record {
            head = p.head;
            done = p.done ++ ahead.segment ∷ [];
            rest = ahead.others;
            was = p.was ∙ (ap (λ rest. p.head ∷ (p.done ++ rest)) ahead.is
                ∙ ap (λ segments. p.head ∷ segments) (sym (append_assoc p.done (ahead.segment ∷ []) ahead.others)));
            is = v.segments ∙ ap (λ segments. p.head ∷ segments)
                (joined b (remaining frees parts p.done) ahead.others ∙ ap (λ segments. segments ++ ahead.others) (sym stay_is));
            records = v.records;
            linked = subst (λ front. IsLinked (word new.system) new.next (if b then before else payload) told.next front)
                (front_is b (remaining frees parts p.done) ∙ sym stay_is) v.linked;
            victim = v.victim ∙ (ap (λ victim. if may_leave parts ahead.segment && ahead.segment.base == victim then 0 else victim) p.victim
                ∙ (victim_is (list_any (λ segment. segment.base == old.victim) (filter (may_leave parts) p.done)) (may_leave parts ahead.segment)
                ∙ ap (λ a. if a then 0 else old.victim) (sym (ap (list_any (λ segment. segment.base == old.victim))
                (filter-append (may_leave parts) p.done (ahead.segment ∷ []))
                ∙ list_any-append (λ segment. segment.base == old.victim) (filter (may_leave parts) p.done) (filter (may_leave parts) (ahead.segment ∷ []))))));
            left = subst (λ gone. HaveLeft regions word follows gone old new) (sym gone_is) (left_on regions word follows follows_on p.left v.left);
            index = λ b.
                let was = p.index b in let is = next was.0 in (
                  is.0,
                  λ n. is.1 n ∙ (visit_same frees parts ahead.segment was.0.index
                      (after_visits frees parts p.done b.index) n (was.1 n) ∙ visits_on frees parts p.done ahead.segment
                      b.index n),
                );
            bytes_are = bytes_now b ∙ ap bytes_of (sym gone_is);
            counted = omega (arith, length-append p.done (ahead.segment ∷ []));
            some = omega arith;
            granularity_same = v.granularity_same ∙ p.granularity_same;
            rate_same = v.rate_same ∙ p.rate_same;
            trim_check_same = v.trim_check_same ∙ p.trim_check_same;
          }

    -- all are at the end, and the countdown begins anew
    module _ (none : payload ≡ 0) (countdown : ℕ) (begins : countdown ≡ max count (countdown_from now.rate)) where
      was_all : segments_of word old ≡ p.head ∷ p.done
      was_all = p.was ∙ ap (λ segments. p.head ∷ segments) (ap (λ rest. p.done ++ rest)
          (none_ahead (word now.system) p.rest none p.records) ∙ append-nil p.done)

      is_all : segments_of word now ≡ p.head ∷ remaining frees parts p.done
      is_all = p.is ∙ ap (λ segments. p.head ∷ segments) (ap (λ rest. remaining frees parts p.done ++ rest)
          (none_ahead (word now.system) p.rest none p.records) ∙ append-nil (remaining frees parts p.done))

      segments_are : segments_of word now ≡ (if frees then staying parts (segments_of word old) else segments_of word old)
      segments_are = is_all ∙ (remaining_is frees parts p.head p.done ∙ ap (λ segments. if frees then staying parts segments else segments) (sym was_all))

      victim_now : now.victim ≡ (if list_any (λ segment. segment.base == old.victim) (handed_out parts (segments_of word old)) then 0 else old.victim)
      victim_now = p.victim ∙ ap (λ segments. if list_any (λ segment. segment.base == old.victim)
          (handed_out parts segments) then 0 else old.victim) (sym was_all)

      countdown_is : countdown ≡ max (visited (segments_of word old)) (countdown_from old.rate)
      countdown_is = begins ∙ (λ i. max ((p.counted ∙ ap visited (sym was_all)) i) (countdown_from (p.rate_same i)))

      gone_are : leaving frees parts p.done ≡ taken_back frees (handed_out parts (segments_of word old))
      gone_are = leaving_is frees parts p.head p.done ∙ ap (λ segments. taken_back frees (handed_out parts segments)) (sym was_all)

      pub passed_all : IsPassed regions word follows frees parts old released (record now { countdown = countdown })
      passed_all = record {
        state = λ i. record {
          segments = segments_are i;
          victim = victim_now i;
          granularity = p.granularity_same i;
          rate =
              p.rate_same i;
          countdown = countdown_is i;
          trim_check = p.trim_check_same i;
        };
        bytes_are = p.bytes_are ∙ ap bytes_of gone_are;
        sound = countdown_sound p.left.sound countdown;
        used = record { still = p.left.used.still; before = p.left.used.before };
        kept = blocks_left regions word follows old now sound p.left;
        index = λ b.
            let was = p.index b in
            (same_bins countdown was.0, λ n. was.1 n ∙ sym (ap (λ segments. after_pass frees parts segments b.index n) was_all));
        words = p.left.words;
        regions_are = p.left.regions_are ∙ ap (λ gone. regions_without gone (regions old.system)) gone_are;
        followed = subst (λ gone. follows old.system (releases gone) now.system) gone_are p.left.followed;
      }
