-- Segments go back to the system, and those that are apart from them stay as they were.
use Rattle.dlmalloc.proofs.Names.{◌≡◌, ℕ, zero, suc, ◌+◌, ◌-◌, ◌^◌, ◌<◌, ◌≤◌, ◌⊎◌, inl, inr, Bool, true, false, cond, not, ◌&&◌, if◌then◌else◌, List, [], ◌∷◌, ◌++◌, map, IsTrue, refl, sym, ◌∙◌, ap, subst, arith, dec_lt, nat_le, nat_lt, filter, AllByRecursion, nat_tests, map-append, Grant, Event, Released, IsWordOf, IsApart, is_granted, begins_in, up_to, without_run, IsRun, granted_before, granted_without, Segment, releases, regions_without, bytes_of, taken_back, AreGivenBack, IsWithin, IsFlaggedRun, AreSegments, IsApartFrom, AreApart}
use Rattle.heap_memory.specs.Runs.{IsWithin as IsWholeWithin}
use Rattle.dlmalloc.proofs.Segments.WordsKept.{KeepsIts, IsOutside, one_stays}

-- ---- regions without those of some segments

-- nothing is granted that was not
pub still_granted : (segments : List Segment) (regions : List Grant) (k : ℕ) →
    IsTrue (is_granted (regions_without segments regions) k) → IsTrue (is_granted regions k)
still_granted [] regions k granted = granted
still_granted (segment ∷ segments) regions k granted =
    granted_before segment.base (segment.base + segment.size) regions k
    (still_granted segments (without_run segment.base (segment.base + segment.size) regions) k granted)

pub without_append : (front back : List Segment) (regions : List Grant) →
    regions_without (front ++ back) regions ≡ regions_without back (regions_without front regions)
without_append [] back regions = refl
without_append (segment ∷ front) back regions = without_append front back (without_run segment.base (segment.base + segment.size) regions)

-- the bytes of a segment are a run of whole regions
pub whole_run : {regions : List Grant} {base size flags : ℕ} → 0 < size → IsFlaggedRun regions base size flags → IsRun regions base (base + size)
whole_run {regions} {base} {size} {flags} some run = record { some = omega arith; granted = run.covered; whole = go regions run.whole }
  where
    go : (regions : List Grant) → AllByRecursion (λ region. IsApart base (base + size) region ⊎ IsWithin base (base + size) flags region) regions →
        AllByRecursion (λ region. IsApart base (base + size) region ⊎ IsWholeWithin base (base + size) region) regions
    go [] all = tt
    go (region ∷ regions) all = (elim all.0 [ inl apart ↦ inl apart | inr within ↦ inr (within.0, within.1) ], go regions all.1)

module _ (low high : ℕ) where
  -- a region that loses its end is still apart from a run, or one of it
  shorter : (base end flags : ℕ) (region : Grant) → IsApart base end region ⊎ IsWithin base end flags region →
      IsApart base end (up_to low region) ⊎ IsWithin base end flags (up_to low region)
  shorter base end flags region is = go (nat_lt region.base low && nat_lt low (region.base + region.size)) refl
    where
      go : (b : Bool) → (nat_lt region.base low && nat_lt low (region.base + region.size)) ≡ b → IsApart base end (if b then record region
          { size = low - region.base } else region) ⊎ IsWithin base end flags (if b then record region { size = low - region.base } else region)
      go false test = is
      go true test =
          let above : region.base < low = grind (arith, nat_tests) in
          let below : low < region.base + region.size = grind (arith, nat_tests) in
          elim is [
            | inl (inl before) ↦ inl (inl (omega arith))
            | inl (inr behind) ↦ inl (inr behind)
            | inr within ↦ inr (within.0, omega arith, within.2)
          ]

  all_shorter : (base end flags : ℕ) (regions : List Grant) → AllByRecursion (λ region. IsApart base end region ⊎ IsWithin base end flags region)
      regions → AllByRecursion (λ region. IsApart base end region ⊎ IsWithin base end flags region) (without_run low high regions)
  all_shorter base end flags [] all = tt
  all_shorter base end flags (region ∷ regions) all = go (begins_in low high region) (all_shorter base end flags regions all.1)
    where
      go : (b : Bool) → AllByRecursion (λ region. IsApart base end region ⊎ IsWithin base end flags region) (without_run low high regions) →
          AllByRecursion (λ region. IsApart base end region ⊎ IsWithin base end flags region) (map (λ r. up_to low r)
          (cond (not b) (region ∷ filter (λ r. not (begins_in low high r)) regions) (filter (λ r. not (begins_in low high r)) regions)))
      go true rest = rest
      go false rest = (shorter base end flags region all.0, rest)

-- ---- one segment goes back

module _ {regions : List Grant} (gone : Segment) (run : IsFlaggedRun regions gone.base gone.size gone.flags) (some : 0 < gone.size) where
  abbrev pub after : List Grant
  after = without_run gone.base (gone.base + gone.size) regions

  outside_same : (k : ℕ) → IsOutside gone k → is_granted after k ≡ is_granted regions k
  outside_same k out =
      let whole = (whole_run some run).whole in
      let same = granted_without gone.base gone.base (gone.base + gone.size) regions k whole (omega arith) (omega arith) in
      let beside : (nat_le gone.base k && nat_lt k (gone.base + gone.size)) ≡ false =
      elim out [ inl below ↦ grind (arith, nat_tests) | inr above ↦ grind (arith, nat_tests) ] in
      same ∙ (ap (λ b. is_granted regions k && not b) beside ∙ and_true (is_granted regions k))
    where
      and_true : (b : Bool) → (b && true) ≡ b
      and_true true = refl
      and_true false = refl

  -- a word beside it is still granted
  pub word_stays : {k : ℕ} → IsWordOf regions k → IsOutside gone k → IsWordOf after k
  word_stays {k} inside out = record { granted = subst IsTrue (sym (outside_same k out)) inside.granted; aligned = inside.aligned }

  -- a run that is apart stays one
  pub run_stays : (segment : Segment) → IsApartFrom gone segment → IsFlaggedRun regions segment.base segment.size
      segment.flags → IsFlaggedRun after segment.base segment.size segment.flags
  run_stays segment apart other = record {
    covered = λ k low high. subst IsTrue (sym (outside_same k (elim apart
        [ inl before ↦ inr (omega arith) | inr behind ↦ inl (omega arith) ]))) (other.covered k low high);
    whole = all_shorter gone.base (gone.base + gone.size) segment.base (segment.base + segment.size) segment.flags regions other.whole;
  }

  -- segments that are apart are segments still
  pub apart_segments : (old new : ℕ → ℕ) (segments : List Segment) → AreSegments regions old segments → AllByRecursion (IsApartFrom gone) segments →
      AllByRecursion (KeepsIts old new) segments → AreSegments after new segments
  apart_segments old new [] parts apart keeps = tt
  apart_segments old new (segment ∷ segments) parts apart keeps =
      let is = one_stays regions old new parts.0 keeps.0 in (
        record {
          run = run_stays segment apart.0 is.run;
          low = is.low;
          high = is.high;
          long = is.long;
          extents = is.extents;
          tail = is.tail;
        },
        apart_segments old new segments parts.1 apart.1 keeps.1,
      )

  -- they keep their words, if granted words stay
  pub apart_keeps : (old new : ℕ → ℕ) → ((k : ℕ) → IsWordOf after k → new k ≡ old k) → (segments : List Segment) →
      AreSegments regions old segments → AllByRecursion (IsApartFrom gone) segments → AllByRecursion (KeepsIts old new) segments
  apart_keeps old new kept [] parts apart = tt
  apart_keeps old new kept (segment ∷ segments) parts apart = (
    λ k low high m. kept k (word_stays {k = k} (record { granted = parts.0.run.covered k (omega arith) high; aligned = m })
        (elim (apart.0) [ inl before ↦ inr (omega arith) | inr behind ↦ inl (omega arith) ])),
    apart_keeps old new kept segments parts.1 apart.1,
  )

-- ---- how many bytes they have

pub bytes_append : (front back : List Segment) → bytes_of (front ++ back) ≡ bytes_of front + bytes_of back
bytes_append [] back = omega arith
bytes_append (segment ∷ front) back = omega (arith, bytes_append front back)

pub bytes_filter : (is : Segment → Bool) (segments : List Segment) → bytes_of (filter is segments) ≤ bytes_of segments
bytes_filter is [] = omega arith
bytes_filter is (segment ∷ segments) = go (is segment) (bytes_filter is segments)
  where
    go : (b : Bool) → bytes_of (filter is segments) ≤ bytes_of segments →
        bytes_of (cond b (segment ∷ filter is segments) (filter is segments)) ≤ segment.size + bytes_of segments
    go true rest = omega arith
    go false rest = omega arith

-- the bytes of a segment below an address
part_below : ℕ → Segment → ℕ
part_below k segment = if nat_lt k (segment.base + segment.size) then k - segment.base else segment.size

bytes_below : ℕ → List Segment → ℕ
bytes_below k [] = 0
bytes_below k (segment ∷ segments) = part_below k segment + bytes_below k segments

part_same : (k : ℕ) (segment : Segment) → IsOutside segment k → part_below (suc k) segment ≡ part_below k segment
unfolding part_below
part_same k segment out = go (nat_lt (suc k) (segment.base + segment.size)) refl (nat_lt k (segment.base + segment.size)) refl
  where
    go : (b : Bool) → nat_lt (suc k) (segment.base + segment.size) ≡ b → (c : Bool) → nat_lt k (segment.base + segment.size) ≡ c →
        (if b then suc k - segment.base else segment.size) ≡ (if c then k - segment.base else segment.size)
    go true next true here = elim out [
      | inl below ↦ omega arith
      | inr above ↦ absurd
          (let t : k < segment.base + segment.size = grind (arith, nat_tests) in omega arith)
    ]
    go true next false here = absurd (let t : suc k < segment.base + segment.size = grind (arith, nat_tests) in
        let f : segment.base + segment.size ≤ k = grind (arith, nat_tests) in omega arith)
    go false next true here =
        let f : segment.base + segment.size ≤ suc k = grind (arith, nat_tests) in let t : k < segment.base + segment.size = grind (arith, nat_tests) in
        elim out [ inl below ↦ omega arith | inr above ↦ absurd (omega arith) ]
    go false next false here = refl

part_one : (k : ℕ) (segment : Segment) → part_below (suc k) segment ≤ suc (part_below k segment)
unfolding part_below
part_one k segment = go (nat_lt (suc k) (segment.base + segment.size)) refl (nat_lt k (segment.base + segment.size)) refl
  where
    go : (b : Bool) → nat_lt (suc k) (segment.base + segment.size) ≡ b → (c : Bool) → nat_lt k (segment.base + segment.size) ≡ c →
        (if b then suc k - segment.base else segment.size) ≤ suc (if c then k - segment.base else segment.size)
    go true next true here = omega arith
    go true next false here = absurd (let t : suc k < segment.base + segment.size = grind (arith, nat_tests) in
        let f : segment.base + segment.size ≤ k = grind (arith, nat_tests) in omega arith)
    go false next true here = (let f : segment.base + segment.size ≤ suc k = grind (arith, nat_tests) in
        let t : k < segment.base + segment.size = grind (arith, nat_tests) in omega arith)
    go false next false here = omega arith

bytes_same : (k : ℕ) (segment : Segment) (segments : List Segment) → segment.base ≤ k → k < segment.base + segment.size →
    AllByRecursion (IsApartFrom segment) segments → bytes_below (suc k) segments ≡ bytes_below k segments
unfolding bytes_below
bytes_same k segment [] low high apart = refl
bytes_same k segment (other ∷ segments) low high apart =
    let one = part_same k other (elim (apart.0) [ inl before ↦ inl (omega arith) | inr behind ↦ inr (omega arith) ]) in
    let rest = bytes_same k segment segments low high apart.1 in
    λ i. one i + rest i

bytes_one : (k : ℕ) (segments : List Segment) → AreApart segments → bytes_below (suc k) segments ≤ suc (bytes_below k segments)
unfolding bytes_below
bytes_one k [] apart = omega arith
bytes_one k (segment ∷ segments) apart =
    let one = part_one k segment in let rest = bytes_one k segments apart.1 in
    elim (dec_lt k segment.base) [
      | yes below ↦ (let same = part_same k segment (inl below) in omega arith)
      | no low ↦ elim (dec_lt k (segment.base + segment.size)) [
        | yes high ↦ (let others = bytes_same k segment segments (omega arith) high apart.0 in omega arith)
        | no above ↦ (let same = part_same k segment (inr (omega arith)) in omega arith)
      ]
    ]

none_below : (segments : List Segment) → bytes_below zero segments ≡ 0
unfolding bytes_below part_below
none_below [] = refl
none_below (segment ∷ segments) = go (nat_lt zero (segment.base + segment.size)) refl (none_below segments)
  where
    go : (b : Bool) → nat_lt zero (segment.base + segment.size) ≡ b → bytes_below zero segments ≡ 0 →
        (if b then zero - segment.base else segment.size) + bytes_below zero segments ≡ 0
    go true some rest = omega arith
    go false none rest = (let f : segment.base + segment.size ≤ zero = grind (arith, nat_tests) in omega arith)

below_most : (k : ℕ) (segments : List Segment) → AreApart segments → bytes_below k segments ≤ k
below_most zero segments apart = omega (arith, none_below segments)
below_most (suc k) segments apart = (let one = bytes_one k segments apart in let rest = below_most k segments apart in omega arith)

all_below : (k : ℕ) (segments : List Segment) → AllByRecursion (λ segment. segment.base + segment.size ≤ k) segments →
    bytes_below k segments ≡ bytes_of segments
unfolding bytes_below part_below
all_below k [] below = refl
all_below k (segment ∷ segments) below =
    let rest = all_below k segments below.1 in
    let here : nat_lt k (segment.base + segment.size) ≡ false = (let b = below.0 in grind (arith, nat_tests)) in
    rw here (omega arith)

-- all bytes of segments that are apart are fewer than addresses
pub bytes_few : (regions : List Grant) (words : ℕ → ℕ) (segments : List Segment) → AreSegments regions words segments →
    AreApart segments → bytes_of segments < 2 ^ 64
bytes_few regions words segments parts apart =
    let most = below_most (2 ^ 64 - 1) segments apart in
    let all = all_below (2 ^ 64 - 1) segments (ends segments parts) in
    omega arith
  where
    ends : (segments : List Segment) → AreSegments regions words segments → AllByRecursion (λ segment. segment.base + segment.size ≤ 2 ^ 64 - 1) segments
    ends [] parts = tt
    ends (segment ∷ segments) parts = ((let high = parts.0.high in omega arith), ends segments parts.1)

-- ---- one after the other

-- what is taken back of two lists
pub taken_append : (frees : Bool) (front back : List Segment) → taken_back frees (front ++ back) ≡ taken_back frees front ++ taken_back frees back
taken_append true front back = refl
taken_append false front back = refl

pub taken_few : (frees : Bool) (segments : List Segment) → bytes_of (taken_back frees segments) ≤ bytes_of segments
taken_few true segments = omega arith
taken_few false segments = omega arith

module _ {A : Type 0} (regions : A → List Grant) (word : A → ℕ → ℕ) (follows : A → List Event → A → Type 0)
    (follows_on : (x y z : A) (a b c : List Event) → follows x a y → follows y b z → a ++ b ≡ c → follows x c z) where
  pub given_on : {first second : List Segment} {old : A} (middle new : A) {a b : ℕ} → AreGivenBack regions word follows first old a middle →
      AreGivenBack regions word follows second middle b new → AreGivenBack regions word follows (first ++ second) old (a + b) new
  given_on {first} {second} {old} middle new one two = record {
    bytes_are = (λ i. one.bytes_are i + two.bytes_are i) ∙ sym (bytes_append first second);
    words = λ k inside. two.words k inside ∙ one.words k (record {
      granted =
          still_granted second (regions middle) k (subst (λ rs. IsTrue (is_granted rs k)) two.regions_are inside.granted);
      aligned = inside.aligned;
    });
    regions_are = two.regions_are ∙ (ap (regions_without second) one.regions_are ∙ sym (without_append first second (regions old)));
    followed = follows_on old middle new (releases first) (releases second) (releases (first ++ second)) one.followed two.followed
        (sym (map-append (λ segment. Released segment.base segment.size 0) first second));
  }

  -- one that another describes is the same
  pub given_same : (told segment : Segment) (b : Bool) (old new : A) {bytes : ℕ} → told.base ≡ segment.base → told.size ≡ segment.size →
      AreGivenBack regions word follows (if b then told ∷ [] else []) old bytes new →
      AreGivenBack regions word follows (if b then segment ∷ [] else []) old bytes new
  given_same told segment false old new base size given = given
  given_same told segment true old new base size given = record {
    bytes_are = given.bytes_are ∙ (λ i. size i + 0);
    words = given.words;
    regions_are = given.regions_are ∙ (λ i. without_run (base i) (base i + size i) (regions old));
    followed = subst (λ events. follows old events new) (λ i. Released (base i) (size i) 0 ∷ []) given.followed;
  }
