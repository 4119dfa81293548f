-- A frame is given back.
use Rattle.std.proofs.Common.{◌≡◌, ℕ, zero, suc, ◌+◌, ◌<◌, ◌≤◌, Bool, true, false, cond, List, [], ◌∷◌, length, set, refl, ◌∙◌, ◌⊎◌, inl, inr, arith}
use Rattle.std.proofs.lemmas.Bool.{cases_lt}
use Rattle.std.proofs.lemmas.List.{get_or-set_same, get_or-set_other, get_or_past}
use Rattle.std.proofs.lemmas.List.Sums.{sum_by-set}
use Rattle.std.specs.Prelude.{slice_index_or}
use Rattle.paging_core.specs.Pool.{is_frame_free, free_count, IsOut}

pub out_below : (free : List Bool) (f : ℕ) → IsOut free f → f < length free
out_below free f e = go (cases_lt f (length free))
  where
    go : (f < length free) ⊎ (length free ≤ f) → f < length free
    go (inl h) = h
    go (inr h) = let k = get_or_past free f true h in absurd (cc)

pub given_count : (free : List Bool) (f : ℕ) → IsOut free f → free_count (set free f true) ≡ free_count free + 1
given_count free f e =
    let h : free_count (set free f true) + cond (slice_index_or free f true) 1 0 ≡ free_count free + 1 =
    sum_by-set (λ (x : Bool). cond x 1 0) free f true true (out_below free f e) in
    let k : cond {A = ℕ} (slice_index_or free f true) 1 0 ≡ 0 = rw e refl in
    omega arith

-- a frame below the flags that is not free is out
pub out_of : (free : List Bool) (f : ℕ) → f < length free → is_frame_free free f ≡ false → IsOut free f
out_of [] f lt e = absurd (omega arith)
out_of (x ∷ xs) zero lt e = e
out_of (x ∷ xs) (suc f) lt e = out_of xs f (omega arith) e

pub given_here : (free : List Bool) (f : ℕ) → IsOut free f → is_frame_free (set free f true) f ≡ true
given_here free f e = get_or-set_same free f true false (out_below free f e)

pub given_other : (free : List Bool) (f g : ℕ) → (g ≡ f → ⊥) → is_frame_free (set free f true) g ≡ is_frame_free free g
given_other free f g ne = get_or-set_other free f g true false ne

pub out_other : (free : List Bool) (f g : ℕ) → (g ≡ f → ⊥) → IsOut free g → IsOut (set free f true) g
out_other free f g ne e = get_or-set_other free f g true true ne ∙ e
