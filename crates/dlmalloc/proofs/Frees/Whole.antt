-- A free, whole: its chunk is given back, and then what a free does further is done.
use Rattle.dlmalloc.proofs.Names.{◌≡◌, ℕ, ◌+◌, ◌-◌, ◌^◌, ◌⊎◌, Bool, true, false, if◌then◌else◌, List, [], ◌∷◌, ◌++◌, IsTrue, inl, inr, refl, sym, ◌∙◌, ap, subst, arith, nat_le, nat_lt, Grant, Event, IsWordOf, is_granted, granted_before, IsFixed, HeapState, Segment, IsInRecord, IsOwn, freed_in, IsFreeAround, handed_out, taken_back, regions_without, passed, is_counted, counted, left_by_count, cut_of, cut_top, is_cut, after_cut, given_up, is_trimmed, gives_back, trimmed, without_end, regions_cut, regions_trimmed, is_above_check, IsSettled, IsFreed, IsDisposed, IsHandedOut, segments_of, state_of, IsSound, HoldsBinned, Dlmalloc}
use Rattle.dlmalloc.specs.Trimmed.{top_bytes}
use Rattle.dlmalloc.specs.AfterFree.{after_free, free_releases, regions_after, IsBehindUsed}
use Rattle.dlmalloc.specs.AfterFree.{index_after}
use Rattle.dlmalloc.proofs.Segments.HeadTop.{some_segment, ends}
use Rattle.dlmalloc.proofs.Returns.Segments.{still_granted}
use Rattle.dlmalloc.proofs.Segments.Head.{first_base, first_size, first_changed, first_counted, beside_top, same_head}
use Rattle.dlmalloc.proofs.Frees.Settled.{top_around}

-- ---- what is granted after a free was granted before it

end_granted : (less : ℕ) (segments : List Segment) (regions : List Grant) (k : ℕ) →
    IsTrue (is_granted (without_end less segments regions) k) → IsTrue (is_granted regions k)
end_granted less [] regions k granted = granted
end_granted less (head ∷ rest) regions k granted = granted_before (head.base + (head.size - less)) (head.base + head.size) regions k granted

-- what is granted of the regions that a test takes was granted, if it was of both
granted_either : (b : Bool) (one other regions : List Grant) (k : ℕ) → (IsTrue (is_granted one k) → IsTrue (is_granted regions k)) →
    (IsTrue (is_granted other k) → IsTrue (is_granted regions k)) → IsTrue (is_granted (if b then one else other) k) → IsTrue (is_granted regions k)
granted_either true one other regions k first second granted = first granted
granted_either false one other regions k first second granted = second granted

trim_granted : (frees parts : Bool) (unit pad : ℕ) (heap : HeapState) (regions : List Grant) (k : ℕ) →
    IsTrue (is_granted (regions_trimmed frees parts unit pad heap regions) k) → IsTrue (is_granted regions k)
trim_granted frees parts unit pad heap regions k =
    let gone = taken_back frees (handed_out parts heap.segments) in let cut = regions_cut parts unit pad heap regions in
    granted_either (is_trimmed pad heap) (regions_without gone cut) regions regions k
    (λ granted. granted_either (is_cut parts unit pad heap) (without_end (cut_of heap pad) heap.segments regions) regions regions k
    (end_granted (cut_of heap pad) heap.segments regions k) (λ granted. granted) (still_granted gone cut k granted)) (λ granted. granted)

pub after_granted : (frees parts : Bool) (unit : ℕ) (heap : HeapState) (at : ℕ) (regions : List Grant) (k : ℕ) →
    IsTrue (is_granted (regions_after frees parts unit heap at regions) k) → IsTrue (is_granted regions k)
after_granted frees parts unit heap at regions k =
    let left = left_by_count frees parts heap at in
    granted_either (is_above_check heap at) (regions_trimmed frees parts unit 0 heap regions) (regions_without left regions) regions k
    (trim_granted frees parts unit 0 heap regions k) (still_granted left regions k)

-- ---- no free changes the granularity

cut_granularity : (less : ℕ) (segments : List Segment) (victim granularity rate countdown trim_check : ℕ) →
    (cut_top less (record {
      segments = segments;
      victim = victim;
      granularity = granularity;
      rate = rate;
      countdown =
          countdown;
      trim_check = trim_check;
    })).granularity ≡ granularity
cut_granularity less [] victim granularity rate countdown trim_check = refl
cut_granularity less (head ∷ rest) victim granularity rate countdown trim_check = refl

-- of two heaps with one granularity a test takes one
either : (b : Bool) (one other : HeapState) {granularity : ℕ} → one.granularity ≡ granularity → other.granularity ≡ granularity →
    (if b then one else other).granularity ≡ granularity
either true one other is was = is
either false one other is was = was

granularity_after : (frees parts : Bool) (unit : ℕ) (heap : HeapState) (at : ℕ) → (after_free frees parts unit heap at).granularity ≡ heap.granularity
granularity_after frees parts unit heap at =
    let left = passed frees parts (after_cut parts unit 0 heap) in
    let cut : left.granularity ≡ heap.granularity = either (is_cut parts unit 0 heap) (cut_top (cut_of heap 0) heap) heap
    (cut_granularity (cut_of heap 0) heap.segments heap.victim heap.granularity heap.rate heap.countdown heap.trim_check) refl in
    let gave = either (gives_back frees parts unit 0 heap) left (given_up left) cut
    (either (nat_lt left.trim_check (top_bytes left)) (record left { trim_check = 2 ^ 64 - 1 }) left cut cut) in
    let count = record heap { countdown = heap.countdown - 1 } in
    either (is_above_check heap at) (trimmed frees parts unit 0 heap) (counted frees parts heap at)
    (either (is_trimmed 0 heap) (if gives_back frees parts unit 0 heap then left else given_up left) heap gave refl)
    (either (is_counted heap at) (if nat_le heap.countdown 1 then passed frees parts heap else count) heap
    (either (nat_le heap.countdown 1) (passed frees parts heap) count refl refl) refl)

-- ---- both steps

module _ {A : Type 0} {regions : A → List Grant} {word : A → ℕ → ℕ} {follows : A → List Event → A → Type 0}
    (on : (x y z : A) (a b c : List Event) → follows x a y → follows y b z → a ++ b ≡ c → follows x c z) {frees parts : Bool} {unit : ℕ}
    {old middle new : Dlmalloc A} {address : ℕ} (sound : IsSound regions word old)
    (disposed : IsDisposed regions word follows old address middle) {from : ℕ} (around : IsFreeAround (state_of word middle) (address - 16) from)
    (settled : IsSettled regions word follows frees parts unit middle (address - 16) new) where
  head_merged : (old.base ≡ middle.base) × (old.size ≡ middle.size)
  head_merged = same_head old disposed.sound sound (some_segment word middle from around.there) (let same = first_changed (freed_in (address - 16)) (segments_of
      word old) in let is = ap (λ heap. heap.segments) disposed.state in (sym same.0 ∙ sym (ap first_base is), sym same.1 ∙ sym (ap first_size is)))

  -- so does the rest, unless it became part of a top above the trim check
  head_left : ((new.base ≡ old.base) × (new.size ≡ old.size)) ⊎ IsBehindUsed old (state_of word new) (address - 16)
  head_left = go (is_above_check (state_of word middle) (address - 16)) refl
    where
      go : (b : Bool) → is_above_check (state_of word middle) (address - 16) ≡ b →
          ((new.base ≡ old.base) × (new.size ≡ old.size)) ⊎ IsBehindUsed old (state_of word new) (address - 16)
      go false under =
          let state : state_of word new ≡ counted frees parts (state_of word middle) (address - 16) = settled.state
          ∙ ap (λ b. if b then trimmed frees parts unit 0 (state_of word middle) else counted frees parts (state_of word middle) (address - 16)) under in
          let same = first_counted frees parts (state_of word middle) (address - 16) in
          let is = ap (λ heap. heap.segments) state in
          let left = same_head new disposed.sound settled.sound (some_segment word middle from around.there)
          (ap first_base is ∙ same.0, ap first_size is ∙ same.1) in
          inl (left.0 ∙ sym head_merged.0, left.1 ∙ sym head_merged.1)
      go true above =
          let place = top_around disposed.sound around above in let low = around.low in
          inr (record {
            within = omega (arith, ends disposed.sound (some_segment word middle from around.there), head_merged.0, head_merged.1);
            behind = λ used is there. elim (beside_top disposed.sound (some_segment word middle from around.there) is (settled.used.before used is there)) [
              | inl before ↦ inl (omega arith)
              | inr beyond ↦ inr (omega (arith, head_merged.0, head_merged.1))
            ];
          })

  inside : (k : ℕ) → IsWordOf (regions new.system) k → IsWordOf (regions old.system) k
  inside k is = record {
    granted = subst (λ rs. IsTrue (is_granted rs k)) disposed.regions_same (after_granted frees parts unit (state_of word middle) (address - 16)
        (regions middle.system) k (subst (λ rs. IsTrue (is_granted rs k)) settled.regions_are is.granted));
    aligned = is.aligned;
  }

  pub freed_whole : IsFreed regions word follows frees parts unit old address new
  freed_whole = record {
    state = settled.state ∙ ap (λ heap. after_free frees parts unit heap (address - 16)) disposed.state;
    less = record {
      kept = λ used is there. disposed.less.kept used is (settled.used.before used is there);
      only = λ used is there other. settled.used.still used is (disposed.less.only used is there other);
      new = λ used is there. disposed.less.new used is (settled.used.before used is there);
    };
    kept = record {
      words = λ block there used k low high m. (let was = settled.used.before block used there in
          settled.kept.words block was used k low high m ∙ disposed.kept.words block was used k low high m);
      heads = λ block there used. (let was = settled.used.before block used there in settled.kept.heads block was used ∙ disposed.kept.heads block was used);
    };
    words = λ k is free first last recorded. settled.words k is (λ f. first (subst (λ heap. IsOwn heap k) disposed.state (inr f))) last
        (λ r. recorded (subst (λ heap. IsInRecord heap k) disposed.state r))
        ∙ disposed.words k (inside k is) free (λ own. first (subst (λ heap. IsOwn heap k) disposed.state own));
    sound = settled.sound;
    granularity = ap (λ heap. heap.granularity) settled.state
        ∙ (granularity_after frees parts unit (state_of word middle) (address - 16) ∙ ap (λ heap. heap.granularity) disposed.state);
    head = head_left;
    regions_are = settled.regions_are ∙ (λ i. regions_after frees parts unit (disposed.state i) (address - 16) (disposed.regions_same i));
    followed = subst (λ heap. follows old.system (free_releases frees parts unit heap (address - 16)) new.system) disposed.state
        (on old.system middle.system new.system [] (free_releases frees parts unit (state_of word middle) (address - 16))
        (free_releases frees parts unit (state_of word middle) (address - 16)) disposed.followed settled.followed refl);
    order = λ b.
        let first = disposed.order b in
        let last = settled.index first.0 in (
          first.0.index,
          subst (λ heap. HoldsBinned heap first.0.index) disposed.state first.0.holds,
          first.1,
          (last.0, λ n. last.1 n ∙ ap (λ heap. index_after frees parts heap (address - 16) first.0.index n) disposed.state),
        );
  }

-- ---- the rules of a system stay

module _ {A : Type 0} (zeros frees parts : A → Bool) (unit : A → ℕ) where
  -- so what holds by its rules holds by those that it had before
  pub by_rules : {old new : A} → IsFixed zeros frees parts unit old new →
      (Holds : Bool → Bool → ℕ → Type 0) → Holds (frees new) (parts new) (unit new) → Holds (frees old) (parts old) (unit old)
  by_rules {old} {new} same Holds holds =
      subst (λ b. Holds b (parts old) (unit old)) same.frees_same
      (subst (λ b. Holds (frees new) b (unit old)) same.parts_same (subst (λ n. Holds (frees new) (parts new) n) same.unit_same holds))

  pub rules_found : {regions : A → List Grant} {word : A → ℕ → ℕ} {follows : A → List Event → A → Type 0} {old new : Dlmalloc A} {size align address : ℕ} →
      ((x y : A) (events : List Event) → follows x events y → IsFixed zeros frees parts unit x y) →
      IsHandedOut regions word follows old size align address new → IsFixed zeros frees parts unit old.system new.system
  rules_found fixed handed = elim handed.found [
    | inl here ↦ fixed _ _ _ here.1
    | inr there ↦ fixed _ _ _ there.4
  ]
