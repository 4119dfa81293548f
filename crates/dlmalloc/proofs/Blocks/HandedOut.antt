-- What holds of each block that is handed out.
use Rattle.dlmalloc.proofs.Names.{◌≡◌, ℕ, ◌+◌, ◌-◌, ◌%◌, ◌^◌, ◌<◌, ◌≤◌, inl, inr, Bool, true, false, ◌==◌, nat_le, nat_lt, if◌then◌else◌, List, [], ◌∷◌, ◌++◌, map, Result, Ok, Err, IfOk, zero, suc, refl, sym, ◌∙◌, ap, subst, arith, pow_mono, list_any, IsPowerOfTwo, dec_lt, nat_tests, Grant, Event, padded, enlarged, limit, Extent, HeapState, Segment, extents_in, size_where, is_behind, is_before, is_put_before, granted, replaced, cut, in_segments, freed, freed_in, exchanged, halves, tail_freed, aligned_place, lead_freed, aligned, state_of, IsTakenFromGrant, IsServed, asked, spans, IsFound, IsHandedOut, IsServedAligned, Dlmalloc}

-- what follows from the answer of a call, if it is one
pub on_ok : {T E : Type 0} (r : Result T E) {P Q : T → Type 0} → ((x : T) → P x → Q x) → IfOk r P → IfOk r Q
on_ok (Ok x) each holds = each x holds
on_ok (Err e) each holds = tt

-- ---- segments stay where they are

pub spans_changed : (change : List Extent → List Extent) (segments : List Segment) → map {B = Segment} (λ segment. record segment { extents = [] })
    (in_segments change segments) ≡ map {B = Segment} (λ segment. record segment { extents = [] }) segments
spans_changed change [] = refl
spans_changed change (segment ∷ segments) = ap (λ l. (record segment { extents = [] }) ∷ l) (spans_changed change segments)

-- Segments stay where they are, and regions are asked for in the same multiples.
abbrev pub HasSameSpans : HeapState → HeapState → Type 0
HasSameSpans old new = (spans new ≡ spans old) × (new.granularity ≡ old.granularity)

-- they do if an extent is halved and one of the two is freed
pub halves_freed : (heap : HeapState) (at n from : ℕ) → HasSameSpans heap (freed (exchanged heap at (halves n)) from)
halves_freed heap at n from =
    (spans_changed (freed_in from) (in_segments (replaced at (halves n)) heap.segments) ∙ spans_changed (replaced at (halves n)) heap.segments, refl)

-- they do if they do in each of two cases
either_kept : (b : Bool) (heap one other : HeapState) → HasSameSpans heap one → HasSameSpans heap other → HasSameSpans heap (if b then one else other)
either_kept true heap one other first second = first
either_kept false heap one other first second = second

-- and so they do if an aligned place in an extent is left in use
aligned_kept : (heap : HeapState) (at align n : ℕ) → HasSameSpans heap (aligned heap at align n)
aligned_kept heap at align n =
    let place = aligned_place at align in let led = lead_freed heap at place in
    let lead = either_kept (place == at) heap heap (freed (exchanged heap at (halves (place - at))) at) (refl, refl) (halves_freed heap at (place - at) at) in
    let tail = either_kept (nat_lt (n + 32) (size_where (λ extent. extent.at == place) (extents_in led))) led (tail_freed led place n) led
    (halves_freed led place n (place + n)) (refl, refl) in
    (tail.0 ∙ lead.0, tail.1 ∙ lead.1)

pub spans_aligned : (heap : HeapState) (at align n : ℕ) → spans (aligned heap at align n) ≡ spans heap
spans_aligned heap at align n = (aligned_kept heap at align n).0

-- ---- and regions are asked for in the same multiples

granularity_granted : (heap : HeapState) (segments : List Segment) (grant : Grant) (n : ℕ) →
    (granted grant n (record heap { segments = segments })).granularity ≡ heap.granularity
granularity_granted heap [] grant n = refl
granularity_granted heap (head ∷ rest) grant n = go (is_behind grant head) refl (list_any (is_before grant) (head ∷ rest)) refl
  where
    go : (b : Bool) → is_behind grant head ≡ b → (c : Bool) → list_any (is_before grant) (head ∷ rest) ≡ c →
        (granted grant n (record heap { segments = head ∷ rest })).granularity ≡ heap.granularity
    go true behind c before = rw behind refl
    go false behind true before = rw (behind, before) refl
    go false behind false before = rw (behind, before) refl

-- ---- a multiple of 16 is one of each lower power of two

low_multiple : (align address : ℕ) → IsPowerOfTwo align → align ≤ 16 → address % 16 ≡ 0 → address % align ≡ 0
low_multiple align address power few whole = subst (λ a. address % a ≡ 0) (sym power.1) (go power.0 low)
  where
    low : power.0 ≤ 4
    low = elim (dec_lt 4 power.0) [
      | yes many ↦ absurd (let five : 5 ≤ power.0 = omega arith in let high : 2 ^ 5 ≤ 2 ^ power.0 = pow_mono five in let is = power.1 in omega arith)
      | no less ↦ omega arith
    ]

    go : (k : ℕ) → k ≤ 4 → address % 2 ^ k ≡ 0
    go zero less = omega arith
    go (suc zero) less = omega arith
    go (suc (suc zero)) less = omega arith
    go (suc (suc (suc zero))) less = omega arith
    go (suc (suc (suc (suc zero)))) less = whole
    go (suc (suc (suc (suc (suc k))))) less = absurd (omega arith)

-- ---- what was asked of the heap

pub asked_low : (size align : ℕ) → align ≤ 16 → size ≡ asked size align
asked_low size align few = let test : nat_le align 16 ≡ true = grind (arith, nat_tests) in rw test refl

pub asked_high : (size align : ℕ) → 16 < align → enlarged size align ≡ asked size align
asked_high size align many = let test : nat_le align 16 ≡ false = grind (arith, nat_tests) in rw test refl

-- A chunk that was found was found still, if segments and regions stay and nothing more is asked of the system.
pub found_on : {A : Type 0} (regions : A → List Grant) (word : A → ℕ → ℕ) {follows : A → List Event → A → Type 0} (old middle new : Dlmalloc A) (n : ℕ) →
    ((x y z : A) (a b c : List Event) → follows x a y → follows y b z → a ++ b ≡ c → follows x c z) →
    IsFound follows regions old.system (state_of word old) n middle.system (state_of word middle) → spans (state_of word new) ≡ spans (state_of word middle) →
    follows middle.system [] new.system → regions new.system ≡ regions middle.system →
    IsFound follows regions old.system (state_of word old) n new.system (state_of word new)
found_on regions word old middle new n on found stay followed same = elim found [
  | inl here ↦ inl (stay ∙ here.0, on _ _ _ [] [] [] here.1 followed refl, same ∙ here.2)
  | inr there ↦ inr (there.0, there.1, there.2, stay ∙ there.3, on _ _ _ _ [] _ there.4 followed refl, same ∙ there.5)
]

-- if a region was granted, they are those that it makes
pub spans_new : {old new : HeapState} {n at : ℕ} {grant : Grant} → IsTakenFromGrant old n at grant new → HasSameSpans (granted grant n old) new
spans_new {old} {new} {n} {grant} is = go (is_put_before grant old.segments) refl
  where
    go : (b : Bool) → is_put_before grant old.segments ≡ b → HasSameSpans (granted grant n old) new
    go true before = let made = (is.of_grant before).1 in (ap spans made, ap (λ h. h.granularity) made)
    go false apart =
        let top = is.of_top apart in
        (ap spans top.state ∙ spans_changed (replaced top.top.at (cut n)) (granted grant n old).segments, ap (λ h. h.granularity) top.state)

module _ {A : Type 0} {regions : A → List Grant} {word : A → ℕ → ℕ} {zeros : A → Bool} {follows : A → List Event → A → Type 0} {old : Dlmalloc A} where
  -- the chunk that serves a request was found
  served_kept : {n at : ℕ} {middle : Dlmalloc A} → IsServed regions word zeros follows old n at middle →
      IsFound follows regions old.system (state_of word old) (padded n) middle.system (state_of word middle) × (middle.granularity ≡ old.granularity)
  served_kept {n} served = elim served.cut [
    | inl here ↦ (
      inl (ap spans here.0.state ∙ spans_changed (replaced here.0.extent.at (cut (padded n))) (state_of word old).segments, here.1, here.2),
      ap (λ h. h.granularity) here.0.state,
    )
    | inr there ↦ (
      inr (there.0, there.1.none_chosen, there.1.full, (spans_new there.1).0, there.2, there.3),
      (spans_new there.1).1 ∙ granularity_granted (state_of word old) (state_of word old).segments there.0 (padded n),
    )
  ]

  pub handed_low : {new : Dlmalloc A} {size align address : ℕ} → IsPowerOfTwo align → align ≤ 16 →
      IsServed regions word zeros follows old size address new → IsHandedOut regions word follows old size align address new
  handed_low {new} {size} {align} {address} power few served = record {
    found = subst (λ n. IsFound follows regions old.system (state_of word old) (padded n) new.system (state_of word new)) (asked_low size align few)
        (served_kept served).0;
    granularity = (served_kept served).1;
    small = subst (λ n. n < limit old.granularity) (asked_low size align few) served.small;
    low = served.low;
    block = served.block;
    multiple = low_multiple align address power few served.aligned;
    aligned = served.aligned;
    granted = served.granted;
    more = served.more;
    kept = served.kept;
    sound = served.sound;
  }

  pub handed_high : {new : Dlmalloc A} {size align address : ℕ} → 16 < align →
      ((x y z : A) (a b c : List Event) → follows x a y → follows y b z → a ++ b ≡ c → follows x c z) →
      IsServedAligned regions word zeros follows old size align address new → IsHandedOut regions word follows old size align address new
  handed_high {new} {size} {align} many on out = record {
    found = subst (λ n. IsFound follows regions old.system (state_of word old) (padded n) new.system (state_of word new)) (asked_high size align many)
        (found_on regions word old out.middle new (padded (enlarged size align)) on (served_kept out.served).0 (ap spans out.state ∙ stay.0)
        out.followed out.regions_same);
    granularity = ap (λ h. h.granularity) out.state ∙ (stay.1 ∙ (served_kept out.served).1);
    small = subst (λ n. n < limit old.granularity) (asked_high size align many) out.served.small;
    low = out.low;
    block = out.block;
    multiple = out.multiple;
    aligned = out.aligned_at_16;
    granted = out.granted;
    more = out.more;
    kept = out.kept;
    sound = out.sound;
  }
    where
      stay : HasSameSpans (state_of word out.middle) (aligned (state_of word out.middle) (out.greater - 16) align (padded size))
      stay = aligned_kept (state_of word out.middle) (out.greater - 16) align (padded size)
