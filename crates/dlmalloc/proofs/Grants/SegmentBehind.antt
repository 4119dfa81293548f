-- The segment that a grant is put before is found, and the two ways in which it is named.
use Rattle.dlmalloc.proofs.Names.{◌≡◌, ◌≢◌, ℕ, ◌+◌, ◌%◌, ◌^◌, ◌<◌, ◌≤◌, Bool, true, false, ◌&&◌, ◌==◌, List, [], ◌∷◌, ◌++◌, refl, sym, ◌∙◌, ap, subst, arith, append_assoc, ⊤, AllByRecursion, list_any, list_any-append, Grant, IsWordOf, Segment, is_behind, is_before, is_put_before, AreSegments, AreRecords, payload_behind, IsToldBehind, segments_of, IsSound, Dlmalloc}
use Rattle.dlmalloc.proofs.Segments.HeadTold.{bare_head}
use Rattle.dlmalloc.proofs.Segments.WordsKept.{KeepsIts}
use Rattle.dlmalloc.proofs.Words.OfRecords.{IsPayloadIn, payload_in, record_stays}
use Rattle.dlmalloc.proofs.Segments.HeadTop.{top_run, head_first, behind_told, grant_behind_head, grant_before_head}
use Rattle.dlmalloc.proofs.Segments.Walk.{PassedSegments, none_told, ahead_segment}

-- the records of some segments are passed, none of which the grant is before
pub record PassedBehind {A : Type 0} (word : A → ℕ → ℕ) (heap : Dlmalloc A) (grant : Grant) (payload : ℕ) : Type 0 where
  pub head : Segment
  pub passed : List Segment
  pub rest : List Segment
  pub is : segments_of word heap ≡ head ∷ (passed ++ rest)
  pub told : AreRecords (word heap.system) payload rest
  pub reached : payload ≡ payload_behind (word heap.system) heap.next passed
  pub none : list_any (is_before grant) (head ∷ passed) ≡ false

abbrev pub as_passed : {A : Type 0} {word : A → ℕ → ℕ} {heap : Dlmalloc A} {grant : Grant} {payload : ℕ} → PassedBehind word heap grant payload →
    PassedSegments word heap payload (λ ss. ⊤)
as_passed p = record { passed = p.head ∷ p.passed; rest = p.rest; is = p.is; some = omega arith; told = p.told; so_far = tt }

-- the payload after one more
pub behind_more : (words : ℕ → ℕ) (payload : ℕ) (front : List Segment) (segment : Segment) →
    payload_behind words payload (front ++ segment ∷ []) ≡ words (payload_behind words payload front + 16)
behind_more words payload [] segment = refl
behind_more words payload (first ∷ front) segment = behind_more words (words (payload + 16)) front segment

any_more : (grant : Grant) (front : List Segment) (segment : Segment) → list_any (is_before grant) front ≡ false → is_before grant segment ≡ false →
    list_any (is_before grant) (front ++ segment ∷ []) ≡ false
any_more grant front segment none other = list_any-append (is_before grant) front (segment ∷ []) ∙ (let a = none in let b = other in rw (a, b) refl)

module _ {A : Type 0} {regions : A → List Grant} {word : A → ℕ → ℕ} {heap : Dlmalloc A} (sound : IsSound regions word heap)
    (some : 0 < heap.size) (grant : Grant) where
  pub put_none : is_behind grant (bare_head heap) ≡ true → is_put_before grant (segments_of word heap) ≡ false
  put_none test = ap (is_put_before grant) (head_first sound some) ∙ (let longer = grant_behind_head sound some grant ∙ test in rw longer refl)

  -- if the grant is not before the head segment, that is passed
  pub begun_behind : is_before grant (bare_head heap) ≡ false → PassedBehind word heap grant heap.next
  begun_behind test = record {
    head = (top_run sound some).segment;
    passed = [];
    rest = (top_run sound some).back;
    is = head_first sound some;
    told = behind_told sound some;
    reached = refl;
    none = (let other = grant_before_head sound some grant ∙ test in rw other refl);
  }

  module _ {payload : ℕ} (p : PassedBehind word heap grant payload) (more : payload ≢ 0) where
    abbrev segment : Segment
    segment = (ahead_segment sound (as_passed p) more).segment

    told_rest : AreRecords (word heap.system) payload (segment ∷ ((ahead_segment sound (as_passed p) more).others))
    told_rest = subst (AreRecords (word heap.system) payload) ((ahead_segment sound (as_passed p) more).is) p.told

    place : IsPayloadIn segment payload
    place = payload_in ((ahead_segment sound (as_passed p) more).part) payload told_rest.0 told_rest.4

    -- the four words of its record
    pub told_word : (k : ℕ) → payload ≤ k → k < payload + 32 → k % 8 ≡ payload % 8 → IsWordOf (regions heap.system) k
    told_word k low high m = record {
      granted = ((ahead_segment sound (as_passed p) more).part).run.covered k (omega (arith, place.low)) (omega (arith, place.high));
      aligned = omega (arith, place.whole);
    }

    pub told_high : payload + 32 < 2 ^ 64
    told_high = omega (arith, place.high, ((ahead_segment sound (as_passed p) more).part).high)

    -- the test on its words is that on the segment
    test_is : {b : Bool} → (word heap.system payload == grant.base + grant.size &&
        (grant.flags % 2 == 0 && grant.flags == word heap.system (payload + 24))) ≡ b → is_before grant segment ≡ b
    test_is test = (λ i. (sym told_rest.1) i == grant.base + grant.size && (grant.flags % 2 == 0 && grant.flags == (sym told_rest.3) i)) ∙ test

    pub found_behind : (word heap.system payload == grant.base + grant.size &&
        (grant.flags % 2 == 0 && grant.flags == word heap.system (payload + 24))) ≡ true → IsToldBehind word heap grant payload
    found_behind test = record {
      head = p.head;
      front = p.passed;
      segment = segment;
      back = (ahead_segment sound (as_passed p) more).others;
      is = p.is ∙ ap (λ ss. p.head ∷ (p.passed ++ ss)) ((ahead_segment sound (as_passed p) more).is);
      joins = test_is test;
      reached = p.reached;
      told = told_rest;
    }

    pub onward_behind : (word heap.system payload == grant.base + grant.size &&
        (grant.flags % 2 == 0 && grant.flags == word heap.system (payload + 24))) ≡ false → PassedBehind word heap grant (word heap.system (payload + 16))
    onward_behind test = record {
      head = p.head;
      passed = p.passed ++ segment ∷ [];
      rest = (ahead_segment sound (as_passed p) more).others;
      is = p.is ∙ (ap (λ ss. p.head ∷ (p.passed ++ ss)) ((ahead_segment sound (as_passed p) more).is)
          ∙ ap (λ ss. p.head ∷ ss) (sym (append_assoc p.passed (segment ∷ []) ((ahead_segment sound (as_passed p) more).others))));
      told = told_rest.5;
      reached = ap (λ k. word heap.system (k + 16)) p.reached ∙ sym (behind_more (word heap.system) heap.next p.passed segment);
      none = any_more grant (p.head ∷ p.passed) segment p.none (test_is test);
    }

  -- if no record is left, the grant is before no segment
  pub none_behind : {payload : ℕ} → PassedBehind word heap grant payload → payload ≡ 0 → list_any (is_before grant) (segments_of word heap) ≡ false
  none_behind {payload} p empty = ap (list_any (is_before grant)) (p.is
      ∙ (ap (λ ss. p.head ∷ (p.passed ++ ss)) (none_told (word heap.system) p.rest p.told empty)))
      ∙ (list_any-append (is_before grant) (p.head ∷ p.passed) [] ∙ (let none = p.none in rw none refl))

-- ---- records that describe segments as before, and others after them

module _ (regions : List Grant) (old new : ℕ → ℕ) (rest now : List Segment) where
  pub told_around : (front : List Segment) {payload : ℕ} (start : ℕ) → payload ≡ payload_behind old start front → AreSegments regions old front →
      AllByRecursion (KeepsIts old new) front → AreRecords old start (front ++ rest) → AreRecords new payload now → AreRecords new start (front ++ now)
  told_around [] start reached parts same h here = subst (λ p. AreRecords new p now) reached here
  told_around (other ∷ front) start reached parts same h here =
      let p = payload_in parts.0 start h.0 h.4 in
      record_stays old new start other (front ++ rest) (front ++ now) p.whole (λ k low high m. same.0 k (omega arith) (omega arith) m) h
      (told_around front (old (start + 16)) reached parts.1 same.1 h.5 here)
