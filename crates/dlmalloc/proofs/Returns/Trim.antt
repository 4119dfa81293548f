-- A trim is a cut of the top, a release pass, and giving up if neither gave bytes back.
use Rattle.dlmalloc.proofs.Names.{◌≡◌, ℕ, ◌+◌, ◌-◌, ◌^◌, ◌<◌, ◌≤◌, ◌⊎◌, inl, inr, Bool, true, false, not, ◌&&◌, ◌||◌, ◌==◌, if◌then◌else◌, List, [], ◌∷◌, ◌++◌, Some, None, IsTrue, refl, sym, ◌∙◌, ap, subst, arith, length, nat_lt, filter, nat_tests, Grant, Event, IsFixed, IsWordOf, is_granted, limit, Extent, Top, Foot, extent_at, Segment, extents_in, handed_out, staying, may_leave, taken_back, releases, regions_without, bytes_of, passed, IsPassed, after_pass, after_trim, IsReindexed, is_cut, after_cut, given_up, is_trimmed, gives_back, regions_cut, IsCutBack, IsTrimmed, IsSegment, AreSegments, segments_of, state_of, AreTold, IsSound, Dlmalloc}
use Rattle.dlmalloc.proofs.Returns.PassOrder.{pass_same}
use Rattle.dlmalloc.proofs.Returns.PassSteps.{after_cut_keeps}
use Rattle.dlmalloc.proofs.Bins.Changes.{same_check}
use Rattle.dlmalloc.specs.Trimmed.{cut_off}
use Rattle.dlmalloc.proofs.Extents.Lookup.{extent, found_more}
use Rattle.dlmalloc.proofs.Segments.Among.{extents_all}
use Rattle.dlmalloc.proofs.Extents.Top.{foot_there}
use Rattle.dlmalloc.proofs.Blocks.WordsKept.{keeps_on, kept_among}
use Rattle.dlmalloc.proofs.Cuts.Chosen.{top_size_is, and_false}
use Rattle.dlmalloc.proofs.Segments.HeadTop.{no_segments}
use Rattle.dlmalloc.proofs.Returns.Segments.{still_granted}

-- ---- the head segment stays

module _ {A : Type 0} {regions : A → List Grant} {word : A → ℕ → ℕ} {heap : Dlmalloc A} (sound : IsSound regions word heap)
    (some : 0 < heap.size) (frees parts : Bool) where
  abbrev left : List Segment
  left = if frees then staying parts (segments_of word heap) else segments_of word heap

  -- so does each of its extents
  in_head : (k : ℕ) (one : Extent) → ((segment : Segment) → IsSegment (regions heap.system) (word heap.system) segment → extent_at heap.top
      segment.extents ≡ Some (extent heap.top heap.top_size Top) → extent_at k segment.extents ≡ Some one) → extent_at k (extents_all left) ≡ Some one
  in_head k one found = go (segments_of word heap) sound.segments sound.told
    where
      go : (segments : List Segment) → AreSegments (regions heap.system) (word heap.system) segments → AreTold (word heap.system) heap segments →
          extent_at k (extents_all (if frees then staying parts segments else segments)) ≡ Some one
      go [] are h = absurd (omega arith)
      go (head ∷ segments) are h = by frees
        where
          here : extent_at k head.extents ≡ Some one
          here = found head are.0 h.4

          by : (b : Bool) → extent_at k (extents_all (if b then staying parts (head ∷ segments) else head ∷ segments)) ≡ Some one
          by true = found_more k head.extents (extents_all (filter (λ segment. not (may_leave parts segment)) segments)) here
          by false = found_more k head.extents (extents_all segments) here

  pub top_left : extent_at heap.top (extents_all left) ≡ Some (extent heap.top heap.top_size Top)
  top_left = in_head heap.top (extent heap.top heap.top_size Top) (λ segment is there. there)

  pub foot_left : extent_at (heap.top + heap.top_size) (extents_all left) ≡ Some (extent (heap.top + heap.top_size) 80 Foot)
  foot_left = in_head (heap.top + heap.top_size) (extent (heap.top + heap.top_size) 80 Foot) (λ segment is there. foot_there is there)

-- ---- whether a trim is made

module _ {A : Type 0} (word : A → ℕ → ℕ) (heap : Dlmalloc A) (pad : ℕ) where
  has_segment : 0 < heap.size → nat_lt 0 (length (segments_of word heap)) ≡ true
  has_segment some = let there : (heap.size == 0) ≡ false = grind (arith, nat_tests) in rw there (grind (arith, nat_tests))

  pub is_made : pad < limit heap.granularity → 0 < heap.size → is_trimmed pad (state_of word heap) ≡ true
  is_made small some = let test : nat_lt pad (limit heap.granularity) ≡ true = grind (arith, nat_tests) in (λ i. test i && has_segment some i)

  pub is_not_made : (limit heap.granularity ≤ pad) ⊎ (heap.size ≡ 0) → is_trimmed pad (state_of word heap) ≡ false
  is_not_made (inl large) = let test : nat_lt pad (limit heap.granularity) ≡ false = grind (arith, nat_tests) in
      (λ i. test i && nat_lt 0 (length (segments_of word heap)))
  is_not_made (inr none) = let there : (heap.size == 0) ≡ true = grind (arith, nat_tests) in rw there (and_false (nat_lt pad (limit heap.granularity)) refl)

  -- then nothing is done
  pub untouched : {regions : A → List Grant} (follows : A → List Event → A → Type 0) (frees parts : Bool) (unit : ℕ) → IsSound regions word heap →
      follows heap.system [] heap.system → is_trimmed pad (state_of word heap) ≡ false →
      IsTrimmed regions word follows frees parts unit heap pad false heap
  untouched {regions} follows frees parts unit sound none isnt = record {
    answer_is = sym (ap (λ b. b && gives_back frees parts unit pad (state_of word heap)) isnt);
    state = sym (ap (λ b. if b then (if gives_back frees parts unit pad (state_of word heap) then passed frees parts (after_cut parts unit pad
        (state_of word heap)) else given_up (passed frees parts (after_cut parts unit pad (state_of word heap)))) else state_of word heap) isnt);
    sound = sound;
    used = record { still = λ used is there. there; before = λ used is there. there };
    kept = record { words = λ block there used k low high m. refl; heads = λ block there used. refl };
    words = λ k inside was own recorded. refl;
    index = λ b. (b, λ n. sym (ap (λ t. (if t then after_pass frees parts (segments_of word heap) b.index else b.index) n) isnt));
    regions_are = sym (ap (λ b. if b then regions_without (taken_back frees (handed_out parts (segments_of word heap)))
        (regions_cut parts unit pad (state_of word heap) (regions heap.system)) else regions heap.system) isnt);
    followed = subst (λ es. follows heap.system es heap.system) (sym (ap (λ b. if b then cut_off parts unit pad (state_of word heap) ++ releases
        (taken_back frees (handed_out parts (segments_of word heap))) else []) isnt)) none;
  }

-- ---- a trim that is made

module _ {A : Type 0} {regions : A → List Grant} {word : A → ℕ → ℕ} {follows : A → List Event → A → Type 0} {frees parts : Bool}
    {unit pad : ℕ} {old middle after : Dlmalloc A} (made : is_trimmed pad (state_of word old) ≡ true)
    (cut : IsCutBack regions word follows parts unit old pad middle) (some : 0 < middle.size) {bytes : ℕ}
    (pass : IsPassed regions word follows frees parts middle bytes after) where
  handed_same : handed_out parts (segments_of word middle) ≡ handed_out parts (segments_of word old)
  handed_same = ap (λ s. handed_out parts s.segments) cut.state
      ∙ after_cut_keeps (handed_out parts) (λ one other rest. refl) parts unit pad (state_of word old)

  -- whether bytes went back
  pub answer : {cut_answer : Bool} → cut_answer ≡ is_cut parts unit pad (state_of word old) →
      (cut_answer || nat_lt 0 bytes) ≡ gives_back frees parts unit pad (state_of word old)
  answer is = λ i. is i || nat_lt 0 ((pass.bytes_are ∙ ap (λ ss. bytes_of (taken_back frees ss)) handed_same) i)

  state_after : state_of word after ≡ passed frees parts (after_cut parts unit pad (state_of word old))
  state_after = pass.state ∙ ap (passed frees parts) cut.state

  -- the top and its foot are found
  top_found : extent_at middle.top (extents_in (state_of word after)) ≡ Some (extent middle.top middle.top_size Top)
  top_found = ap (extent_at middle.top) (ap extents_in pass.state) ∙ top_left cut.stays.sound some frees parts

  foot_found : extent_at (middle.top + middle.top_size) (extents_in (state_of word after)) ≡ Some (extent (middle.top + middle.top_size) 80 Foot)
  foot_found = ap (extent_at (middle.top + middle.top_size)) (ap extents_in pass.state) ∙ foot_left cut.stays.sound some frees parts

  -- a word that is granted still was granted before the pass
  inside_middle : (k : ℕ) → IsWordOf (regions after.system) k → IsWordOf (regions middle.system) k
  inside_middle k inside = record {
    granted = still_granted (taken_back frees (handed_out parts (segments_of word middle))) (regions middle.system) k
        (subst (λ rs. IsTrue (is_granted rs k)) pass.regions_are inside.granted);
    aligned = inside.aligned;
  }

  module _ (check : ℕ) {gives : Bool} (answer_is : gives ≡ gives_back frees parts unit pad (state_of word old))
      (sound : IsSound regions word (record after { trim_check = check }))
      (state : state_of word (record after { trim_check = check }) ≡ (if gives then state_of word after else given_up (state_of word after)))
      (followed : follows old.system (cut_off parts unit pad (state_of word old) ++ releases
      (taken_back frees (handed_out parts (segments_of word middle)))) after.system)
      (index : IsReindexed regions word (after_trim frees parts pad (state_of word old)) old (record after { trim_check = check })) where
    pub is_done : IsTrimmed regions word follows frees parts unit old pad gives (record after { trim_check = check })
    is_done = record {
      answer_is = answer_is ∙ sym (ap (λ b. b && gives_back frees parts unit pad (state_of word old)) made);
      state = state ∙ ((λ i. if answer_is i then state_after i else given_up (state_after i)) ∙ sym
          (ap (λ b. if b then (if gives_back frees parts unit pad (state_of word old) then passed frees parts (after_cut parts unit pad (state_of word old))
          else given_up (passed frees parts (after_cut parts unit pad (state_of word old)))) else state_of word old) made));
      sound = sound;
      used = record {
        still = λ used is there. pass.used.still used is (cut.stays.used.still used is there);
        before = λ used is there. cut.stays.used.before used is (pass.used.before used is there);
      };
      kept = keeps_on cut.stays.kept (kept_among (λ block is there. cut.stays.used.still block is there) pass.kept);
      words = λ k inside was own recorded. pass.words k inside
          (λ f. was (record { at = f.at; size = f.size; free = (cut.stays.free.was f.at f.size f.free (λ none. none)).0; low = f.low; high = f.high })) (λ r.
          recorded (record { extent = r.extent; there = cut.stays.records r.extent r.is r.there; is = r.is; low = r.low; high = r.high })) ∙ cut.stays.words k
          (inside_middle k inside) (λ is. own (inl (record { extent = extent middle.top middle.top_size Top; there = top_found; is = inl is })))
          (λ is. own (inl (record { extent = extent (middle.top + middle.top_size) 80 Foot; there = foot_found; is = inl is })));
      index = index;
      regions_are = pass.regions_are ∙ ((λ i. regions_without (taken_back frees (handed_same i)) (cut.regions_are i))
          ∙ sym (ap (λ b. if b then regions_without (taken_back frees (handed_out parts (segments_of word old)))
          (regions_cut parts unit pad (state_of word old) (regions old.system)) else regions old.system) made));
      followed = subst (λ es. follows old.system es after.system)
          ((λ i. cut_off parts unit pad (state_of word old) ++ releases (taken_back frees (handed_same i))) ∙ sym (ap (λ b. if b then cut_off parts unit pad
          (state_of word old) ++ releases (taken_back frees (handed_out parts (segments_of word old))) else []) made)) followed;
    }

-- ---- giving up

module _ {A : Type 0} {regions : A → List Grant} {word : A → ℕ → ℕ} {heap : Dlmalloc A} (sound : IsSound regions word heap) where
  -- the trim check is in no rule
  pub checked_sound : (check : ℕ) → IsSound regions word (record heap { trim_check = check })
  checked_sound check = record {
    granularity = sound.granularity;
    segments = sound.segments;
    apart = sound.apart;
    told = sound.told;
    none = sound.none;
    no_victim = sound.no_victim;
    victim = sound.victim;
  }

  pub gave_up : 0 < heap.size → state_of word (record heap {
    trim_check =
        if nat_lt heap.trim_check heap.top_size then 2 ^ 64 - 1 else heap.trim_check;
  }) ≡ given_up (state_of word heap)
  gave_up some = go (nat_lt heap.trim_check heap.top_size) ∙ sym
      (ap (λ top. if nat_lt heap.trim_check top then record (state_of word heap) { trim_check = 2 ^ 64 - 1 } else state_of word heap) (top_size_is sound some))
    where
      go : (b : Bool) → state_of word (record heap { trim_check = if b then 2 ^ 64 - 1 else heap.trim_check }) ≡ (if b then record (state_of word heap)
          { trim_check = 2 ^ 64 - 1 } else state_of word heap)
      go true = refl
      go false = refl

-- a request that is not too large leaves room for a foot
pub limit_small : (g : ℕ) → 16 ≤ g → limit g + 119 ≤ 2 ^ 64
unfolding limit
limit_small g least = go (g == 16)
  where
    go : (b : Bool) → (if b then 2 ^ 64 - 135 else 2 ^ 64 - g - 103) + 119 ≤ 2 ^ 64
    go true = omega arith
    go false = omega arith

-- ---- both ends of a trim that is made, of a system whose laws are these

module _ {A : Type 0} {regions : A → List Grant} {word : A → ℕ → ℕ} {follows : A → List Event → A → Type 0} {zeros frees parts : A → Bool}
    {unit : A → ℕ} (fixed : (x y : A) (events : List Event) → follows x events y → IsFixed zeros frees parts unit x y)
    (follows_on : (x y z : A) (a b c : List Event) → follows x a y → follows y b z → a ++ b ≡ c → follows x c z) {pad : ℕ}
    {old middle after : Dlmalloc A} (some_old : 0 < old.size) (small : pad < limit old.granularity)
    (cut : IsCutBack regions word follows (parts old.system) (unit old.system) old pad middle) (some : 0 < middle.size) {bytes : ℕ}
    (given : IsPassed regions word follows (frees middle.system) (parts middle.system) middle bytes after) {is_cut_off : Bool}
    (is : is_cut_off ≡ is_cut (parts old.system) (unit old.system) pad (state_of word old))
    (kept : IsReindexed regions word (λ index. index) old middle) where
  same : IsFixed zeros frees parts unit old.system middle.system
  same = fixed old.system middle.system (cut_off (parts old.system) (unit old.system) pad (state_of word old)) cut.followed

  pass : IsPassed regions word follows (frees old.system) (parts old.system) middle bytes after
  pass = subst (λ b. IsPassed regions word follows b (parts old.system) middle bytes after) same.frees_same
      (subst (λ b. IsPassed regions word follows (frees middle.system) b middle bytes after) same.parts_same given)

  abbrev events : List Event
  events = cut_off (parts old.system) (unit old.system) pad (state_of word old) ++ releases
      (taken_back (frees old.system) (handed_out (parts old.system) (segments_of word middle)))

  joined : follows old.system events after.system
  joined = follows_on old.system middle.system after.system (cut_off (parts old.system) (unit old.system) pad (state_of word old))
      (releases (taken_back (frees old.system) (handed_out (parts old.system) (segments_of word middle)))) events cut.followed pass.followed refl

  -- what the pass makes of the index
  index_now : IsReindexed regions word (after_trim (frees old.system) (parts old.system) pad (state_of word old)) old after
  index_now b =
      let was = kept b in
      let a = pass.index was.0 in (
        a.0,
        λ n. a.1 n ∙ (ap (λ segments. after_pass (frees old.system) (parts old.system) segments was.0.index n) (ap (λ s. s.segments) cut.state)
            ∙ (after_cut_keeps (λ segments. after_pass (frees old.system) (parts old.system) segments was.0.index n) (λ one other rest. refl)
            (parts old.system) (unit old.system) pad (state_of word old)
            ∙ (pass_same (frees old.system) (parts old.system) (segments_of word old) was.0.index b.index was.1 n ∙ sym (ap (λ t. (if t then after_pass
            (frees old.system) (parts old.system) (segments_of word old) b.index else b.index) n) (is_made word old pad small some_old))))),
      )

  pub trim_gave : (is_cut_off || nat_lt 0 bytes) ≡ true → IsTrimmed regions word follows (frees old.system)
      (parts old.system) (unit old.system) old pad true after
  trim_gave was = is_done (is_made word old pad small some_old) cut some pass
      after.trim_check (sym was ∙ (answer (is_made word old pad small some_old) cut some pass is)) pass.sound refl joined index_now

  after_some : 0 < after.size
  after_some = go (after.size == 0) refl
    where
      go : (b : Bool) → (after.size == 0) ≡ b → 0 < after.size
      go true none =
          let top = top_found (is_made word old pad small some_old) cut some pass in
          let isnt : None ≡ Some (extent middle.top middle.top_size Top) = ap (λ ss. extent_at middle.top (extents_all ss))
          (sym (no_segments word after (grind (arith, nat_tests)))) ∙ top in
          absurd (cc)
      go false some = grind (arith, nat_tests)

  pub trim_gave_up : (is_cut_off || nat_lt 0 bytes) ≡ false → IsTrimmed regions word follows (frees old.system) (parts old.system)
      (unit old.system) old pad false (record after { trim_check = if nat_lt after.trim_check after.top_size then 2 ^ 64 - 1 else after.trim_check })
  trim_gave_up isnt = is_done (is_made word old pad small some_old) cut some pass (if nat_lt after.trim_check after.top_size then 2 ^ 64 - 1
      else after.trim_check) (sym isnt ∙ (answer (is_made word old pad small some_old) cut some pass is))
      (checked_sound pass.sound (if nat_lt after.trim_check after.top_size then 2 ^ 64 - 1 else after.trim_check)) (gave_up pass.sound after_some) joined
      (λ b. (let a = index_now b in (same_check (if nat_lt after.trim_check after.top_size then 2 ^ 64 - 1 else after.trim_check) a.0, a.1)))
