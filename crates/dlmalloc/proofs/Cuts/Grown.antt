-- A heap that asked its system for a region, before a chunk is cut from it.
use Rattle.dlmalloc.proofs.Names.{◌≡◌, ◌≢◌, ℕ, ◌+◌, ◌%◌, ◌<◌, ◌≤◌, Bool, true, false, List, [], ◌∷◌, AllByRecursion, Grant, Event, Granted, IsApart, with_grant, round_up, is_put_before, granted, HasSameUsed, OnlyOwnOrTagsChange, state_of, IsSound, Dlmalloc}
use Rattle.dlmalloc.specs.Grown.{BeginsTop}

-- A region was granted, with room for a chunk of n bytes at the top. The extents in use are the same.
pub record IsGrown {A : Type 0} (regions : A → List Grant) (word : A → ℕ → ℕ) (zeros : A → Bool) (follows : A → List Event → A → Type 0) (old : Dlmalloc A) (n : ℕ) (new : Dlmalloc A) : Type 0 where
  pub grant : Grant
  pub followed : follows old.system (Granted (round_up (n + 96) old.granularity) grant ∷ []) new.system
  pub apart : is_put_before grant (state_of word old).segments ≡ false
  pub state : state_of word new ≡ granted grant n (state_of word old)
  pub sound : IsSound regions word new
  pub there : 0 < new.size
  pub room : n < new.top_size
  pub long : n + 96 ≤ grant.size
  pub begins : BeginsTop old grant new.top
  pub with_it : regions new.system ≡ with_grant grant (regions old.system)
  pub fresh : AllByRecursion (IsApart grant.base (grant.base + grant.size)) (regions old.system)
  pub used : HasSameUsed (state_of word old) (state_of word new)
  pub words : OnlyOwnOrTagsChange (regions old.system) (state_of word old) (state_of word new) (word old.system) (word new.system)
  -- of the grant only the heads of the top and of its foot are written
  pub new_words : zeros old.system ≡ true → (k : ℕ) → grant.base ≤ k → k < grant.base + grant.size → k % 8 ≡ 0 → k ≢ new.top + 8 → k ≢ new.top + new.top_size + 8 → word new.system k ≡ 0
