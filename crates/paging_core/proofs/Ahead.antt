-- Frames in a row that are handed out in ascending order.
use Rattle.std.proofs.Common.{◌≡◌, ℕ, zero, suc, ◌+◌, ◌-◌, ◌<◌, ◌≤◌, Bool, true, false, ◌++◌, length, set, replicate, sym, ap, ◌∙◌, ◌⊎◌, inl, inr, arith, append_assoc}
use Rattle.std.proofs.lemmas.Bool.{cases_lt}
use Rattle.std.proofs.lemmas.List.{get_or_append_left, get_or-append_right, get_or-replicate, get_or_past, length-replicate, set-append_right, replicate-append-replicate}
use Rattle.paging_core.specs.Pool.{is_frame_free, free_count}
use Rattle.paging_core.specs.Ahead.{ahead}
use Rattle.paging_core.proofs.Made.{taken_count, none_free}

pub ahead_below : (next end f : ℕ) → f < next → is_frame_free (ahead next end) f ≡ false
unfolding ahead
ahead_below next end f lt =
    let l : length {A = Bool} (replicate next false) ≡ next = length-replicate next false in
    get_or_append_left (replicate next false) (replicate (end - next) true) false f (omega arith) ∙ get_or-replicate next f false false lt

ahead_behind : (next end f : ℕ) → next ≤ f → f < end → is_frame_free (ahead next end) f ≡ true
unfolding ahead
ahead_behind next end f from to =
    get_or-append_right (replicate next false) (replicate (end - next) true) next f false (length-replicate next false) from
    ∙ get_or-replicate (end - next) (f - next) true false (omega arith)

ahead_past : (next end f : ℕ) → next ≤ f → end ≤ f → is_frame_free (ahead next end) f ≡ false
unfolding ahead
ahead_past next end f from past =
    let l : length {A = Bool} (replicate (end - next) true) ≡ end - next = length-replicate (end - next) true in
    get_or-append_right (replicate next false) (replicate (end - next) true) next f false (length-replicate next false) from
    ∙ get_or_past (replicate (end - next) true) (f - next) false (omega arith)

pub ahead_here : (next end : ℕ) → next < end → is_frame_free (ahead next end) next ≡ true
ahead_here next end lt = ahead_behind next end next (omega arith) lt

-- a frame is free from `next` on, and before `end`
pub ahead_in : (next end f : ℕ) → is_frame_free (ahead next end) f ≡ true → (next ≤ f) × (f < end)
ahead_in next end f is = go (cases_lt f next) (cases_lt f end)
  where
    go : (f < next) ⊎ (next ≤ f) → (f < end) ⊎ (end ≤ f) → (next ≤ f) × (f < end)
    go (inl lt) _ = let z = ahead_below next end f lt in absurd (cc)
    go (inr from) (inl to) = (from, to)
    go (inr from) (inr past) = let z = ahead_past next end f from past in absurd (cc)

pub ahead_none : (next end f : ℕ) → next ≡ end → is_frame_free (ahead next end) f ≡ false
ahead_none next end f e = go (cases_lt f next)
  where
    go : (f < next) ⊎ (next ≤ f) → is_frame_free (ahead next end) f ≡ false
    go (inl lt) = ahead_below next end f lt
    go (inr from) = ahead_past next end f from (omega arith)

pub ahead_taken : (next end : ℕ) → next < end → ahead (next + 1) end ≡ set (ahead next end) next false
unfolding ahead
ahead_taken next end lt =
    let m : end - next ≡ suc (end - (next + 1)) = omega arith in
    let z : next - next ≡ 0 = omega arith in
    ap (λ xs. xs ++ replicate (end - (next + 1)) true) (sym (replicate-append-replicate next 1 false))
    ∙ (append_assoc (replicate next false) (replicate 1 false) (replicate (end - (next + 1)) true)
    ∙ (ap (λ k. replicate next false ++ set (replicate k true) 0 false) (sym m)
    ∙ (ap (λ i. replicate next false ++ set (replicate (end - next) true) i false) (sym z)
    ∙ sym (set-append_right (replicate next false) (replicate (end - next) true) next next false (length-replicate next false) (omega arith)))))

pub ahead_count : (next end : ℕ) → next < end → free_count (ahead (next + 1) end) + 1 ≡ free_count (ahead next end)
ahead_count next end lt =
    let t = ap free_count (ahead_taken next end lt) in
    let c = taken_count (ahead next end) next (ahead_here next end lt) in
    omega arith

pub ahead_empty : (next end : ℕ) → next ≡ end → free_count (ahead next end) ≡ 0
ahead_empty next end e = none_free (ahead next end) (λ f. ahead_none next end f e)

-- as many are free as come before `end`
pub ahead_left : (k next end : ℕ) → next + k ≡ end → free_count (ahead next end) ≡ k
ahead_left zero next end e = ahead_empty next end (omega arith)
ahead_left (suc k) next end e =
    let more = ahead_left k (next + 1) end (omega arith) in
    let one = ahead_count next end (omega arith) in
    omega arith
