-- A frame that was free is taken and cleared.
use Rattle.std.proofs.Common.{◌≡◌, ℕ, ◌+◌, ◌<◌, Bool, true, false, List, length, set, ap, ◌∙◌, ◌⊎◌, inl, inr, arith}
use Rattle.std.proofs.lemmas.Bool.{cases_Bool}
use Rattle.paging_core.specs.Memory.{word_at, frame_count, cleared}
use Rattle.paging_core.specs.Pool.{is_frame_free, free_count, FreeBelow}
use Rattle.paging_core.proofs.Words.{length_cleared, word_at_cleared_same, word_at_cleared_other}
use Rattle.paging_core.proofs.Made.{taken_flag, fewer_flags, taken_count}

-- a frame that is free still was free before, if none was given back
pub free_before : (free free' : List Bool) → ((f : ℕ) → is_frame_free free f ≡ false → is_frame_free free' f ≡ false) →
    (f : ℕ) →
    is_frame_free free' f ≡ true → is_frame_free free f ≡ true
free_before free free' fewer f e = go (cases_Bool (is_frame_free free f))
  where
    go : (is_frame_free free f ≡ true) ⊎ (is_frame_free free f ≡ false) → is_frame_free free f ≡ true
    go (inl h) = h
    go (inr h) = let x = fewer f h in absurd (cc)

module _ (old mid : List ℕ) (free free1 : List Bool) (frame : ℕ)
    (known : FreeBelow free (frame_count old))
    (was_free : is_frame_free free frame ≡ true)
    (taken : free1 ≡ set free frame false)
    (blank : mid ≡ cleared old frame) where
  pub fresh_in : frame < frame_count old
  fresh_in = known frame was_free

  pub fresh_size : length mid ≡ length old
  fresh_size = rw blank (length_cleared old frame fresh_in)

  pub fresh_fewer : (f : ℕ) → is_frame_free free f ≡ false → is_frame_free free1 f ≡ false
  fresh_fewer f e = rw taken (fewer_flags free frame f e)

  pub fresh_known : FreeBelow free1 (frame_count mid)
  fresh_known f e = let s = fresh_size in let h = known f (free_before free free1 fresh_fewer f e) in omega arith

  pub fresh_other : (f i : ℕ) → i < 512 → (f ≡ frame → ⊥) → word_at mid f i ≡ word_at old f i
  fresh_other f i li ne = ap (λ w. word_at w f i) blank ∙ word_at_cleared_other old frame f i fresh_in li ne

  pub fresh_zero : (i : ℕ) → i < 512 → word_at mid frame i ≡ 0
  fresh_zero i li = ap (λ w. word_at w frame i) blank ∙ word_at_cleared_same old frame i fresh_in li

  pub fresh_used : is_frame_free free1 frame ≡ false
  fresh_used = rw taken (taken_flag free frame was_free)

  pub fresh_count : free_count free1 + 1 ≡ free_count free
  fresh_count = rw taken (taken_count free frame was_free)
