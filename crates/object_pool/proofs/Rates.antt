-- No free changes the rate that the heap's owner set.
use Rattle.std.proofs.Common.{◌≡◌, ℕ, ◌-◌, ◌^◌, Bool, true, false, if◌then◌else◌, List, [], ◌∷◌, refl, ◌∙◌}
use Rattle.std.specs.Prelude.{nat_le, nat_lt}
use Rattle.dlmalloc.specs.State.{HeapState, Segment}
use Rattle.dlmalloc.specs.Released.{passed, is_counted, counted}
use Rattle.dlmalloc.specs.Trimmed.{top_bytes, cut_of, cut_top, is_cut, after_cut, given_up, is_trimmed, gives_back, trimmed}
use Rattle.dlmalloc.specs.AfterFree.{is_above_check, after_free}

rate_cut : (less : ℕ) (segments : List Segment) (victim granularity rate countdown trim_check : ℕ) →
    (cut_top less (record {
      segments = segments;
      victim = victim;
      granularity = granularity;
      rate = rate;
      countdown =
          countdown;
      trim_check = trim_check;
    })).rate ≡ rate
rate_cut less [] victim granularity rate countdown trim_check = refl
rate_cut less (head ∷ rest) victim granularity rate countdown trim_check = refl

pub rate_after : (frees parts : Bool) (unit : ℕ) (heap : HeapState) (at : ℕ) → (after_free frees parts unit heap at).rate ≡ heap.rate
rate_after frees parts unit heap at = above (is_above_check heap at)
  where
    cut : (b : Bool) → (if b then cut_top (cut_of heap 0) heap else heap).rate ≡ heap.rate
    cut true = rate_cut (cut_of heap 0) heap.segments heap.victim heap.granularity heap.rate heap.countdown heap.trim_check
    cut false = refl

    given : (b : Bool) (left : HeapState) → (if b then record left { trim_check = 2 ^ 64 - 1 } else left).rate ≡ left.rate
    given true left = refl
    given false left = refl

    gave : (b : Bool) → (if b then passed frees parts (after_cut parts unit 0 heap) else given_up
        (passed frees parts (after_cut parts unit 0 heap))).rate ≡ heap.rate
    gave true = cut (is_cut parts unit 0 heap)
    gave false =
        let left = passed frees parts (after_cut parts unit 0 heap) in
        given (nat_lt left.trim_check (top_bytes left)) left ∙ cut (is_cut parts unit 0 heap)

    made : (b : Bool) → (if b then (if gives_back frees parts unit 0 heap then passed frees parts
        (after_cut parts unit 0 heap) else given_up (passed frees parts (after_cut parts unit 0 heap)))
        else heap).rate ≡ heap.rate
    made true = gave (gives_back frees parts unit 0 heap)
    made false = refl

    count : (a b : Bool) → (if a then (if b then passed frees parts heap else record heap { countdown = heap.countdown - 1 }) else heap).rate ≡ heap.rate
    count true true = refl
    count true false = refl
    count false b = refl

    above : (b : Bool) → (if b then trimmed frees parts unit 0 heap else counted frees parts heap at).rate ≡ heap.rate
    above true = made (is_trimmed 0 heap)
    above false = count (is_counted heap at) (nat_le heap.countdown 1)
