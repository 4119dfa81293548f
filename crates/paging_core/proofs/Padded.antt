-- The words of an area between zeros.
use Rattle.std.proofs.Common.{◌≡◌, ℕ, ◌+◌, ◌-◌, ◌*◌, ◌<◌, ◌≤◌, List, length, get_or, set, take, drop, replicate, ◌++◌, refl, sym, ap, ◌∙◌, ◌⊎◌, inl, inr, arith, append_assoc, length-append, length-set}
use Rattle.std.proofs.lemmas.Bool.{cases_lt}
use Rattle.std.proofs.lemmas.List.{get_or-append_right, get_or_append_left, get_or-replicate, get_or_past, length-replicate, set-append_left, set-append_right, take-append-le, drop-append-le}
use Rattle.std.proofs.Math.Seq.{take-append-add, drop-append-add}
use Rattle.paging_core.specs.Area.{with_zeros_around}
use Rattle.paging_core.specs.Memory.{frame_count, with_zeros}
use Rattle.paging_core.proofs.Words.{length-with_zeros}

-- a row of zeros past its end reads as 0 too
zeros_read : (n k : ℕ) → ◌≡◌ {A = ℕ} (get_or (replicate n 0) k 0) 0
zeros_read n k = go (cases_lt k n)
  where
    go : (k < n) ⊎ (n ≤ k) → ◌≡◌ {A = ℕ} (get_or (replicate n 0) k 0) 0
    go (inl lt) = get_or-replicate n k 0 0 lt
    go (inr le) = let l : length {A = ℕ} (replicate n 0) ≡ n = length-replicate n 0 in get_or_past (replicate n 0) k 0 (omega arith)

pub length_padded : (words : List ℕ) (first limit : ℕ) → 512 * first + length words ≤ 512 * limit → length (with_zeros_around words first limit) ≡ 512 * limit
unfolding with_zeros_around
length_padded words first limit le = simp (length-append, length-replicate) (omega arith)

pub count_padded : (words : List ℕ) (first limit : ℕ) → 512 * first + length words ≤ 512 * limit → frame_count (with_zeros_around words first limit) ≡ limit
count_padded words first limit le = let l = length_padded words first limit le in omega arith

pub padded_inside : (words : List ℕ) (first limit place at : ℕ) → 512 * first + at ≡ place → at < length words →
    get_or (with_zeros_around words first limit) place 0 ≡ get_or words at 0
unfolding with_zeros_around
padded_inside words first limit place at e lt =
    let i : place - 512 * first ≡ at = omega arith in
    get_or-append_right (replicate (512 * first) 0) (words ++ replicate (512 * limit - (512 * first + length words)) 0)
    (512 * first) place 0 (length-replicate (512 * first) 0) (omega arith)
    ∙ (ap (λ k. get_or (words ++ replicate (512 * limit - (512 * first + length words)) 0) k 0) i
    ∙ get_or_append_left words (replicate (512 * limit - (512 * first + length words)) 0) 0 at lt)

pub padded_below : (words : List ℕ) (first limit place : ℕ) → place < 512 * first → get_or (with_zeros_around words first limit) place 0 ≡ 0
unfolding with_zeros_around
padded_below words first limit place lt =
    let l : length {A = ℕ} (replicate (512 * first) 0) ≡ 512 * first = length-replicate (512 * first) 0 in
    get_or_append_left (replicate (512 * first) 0) (words ++ replicate (512 * limit - (512 * first + length words)) 0) 0 place (omega arith)
    ∙ zeros_read (512 * first) place

pub padded_past : (words : List ℕ) (first limit place : ℕ) → 512 * first + length words ≤ place → get_or (with_zeros_around words first limit) place 0 ≡ 0
unfolding with_zeros_around
padded_past words first limit place le =
    get_or-append_right (replicate (512 * first) 0) (words ++ replicate (512 * limit - (512 * first + length words)) 0)
    (512 * first) place 0 (length-replicate (512 * first) 0) (omega arith)
    ∙ (get_or-append_right words (replicate (512 * limit - (512 * first + length words)) 0) (length words) (place - 512 * first) 0 refl (omega arith)
    ∙ zeros_read (512 * limit - (512 * first + length words)) (place - 512 * first - length words))

-- a write to a word of the area
pub padded_set : (words : List ℕ) (first limit at place v : ℕ) → 512 * first + at ≡ place → at < length words →
    with_zeros_around (set words at v) first limit ≡ set (with_zeros_around words first limit) place v
unfolding with_zeros_around
padded_set words first limit at place v e lt =
    let i : place - 512 * first ≡ at = omega arith in
    ap (λ n. replicate (512 * first) 0 ++ (set words at v ++ replicate (512 * limit - (512 * first + n)) 0)) (length-set words at v)
    ∙ (ap (λ xs. replicate (512 * first) 0 ++ xs) (sym (set-append_left words (replicate (512 * limit - (512 * first + length words)) 0) at v lt))
    ∙ (ap (λ k. replicate (512 * first) 0 ++ set (words ++ replicate (512 * limit - (512 * first + length words)) 0) k v) (sym i)
    ∙ sym (set-append_right (replicate (512 * first) 0) (words ++ replicate (512 * limit - (512 * first + length words)) 0)
    (512 * first) place v (length-replicate (512 * first) 0) (omega arith))))

-- zeros in words that others follow
zeros_before : (words more : List ℕ) (base count : ℕ) → base + count ≤ length words →
    with_zeros words base count ++ more ≡ with_zeros (words ++ more) base count
unfolding with_zeros
zeros_before words more base count le =
    append_assoc (take base words) (replicate count 0 ++ drop (base + count) words) more
    ∙ (ap (λ xs. take base words ++ xs) (append_assoc (replicate count 0) (drop (base + count) words) more)
    ∙ (ap (λ xs. take base words ++ (replicate count 0 ++ xs)) (sym (drop-append-le (base + count) words more le))
    ∙ ap (λ xs. xs ++ (replicate count 0 ++ drop (base + count) (words ++ more))) (sym (take-append-le base words more (omega arith)))))

-- and after others
zeros_behind : (words : List ℕ) (n base place count : ℕ) → n + base ≡ place →
    replicate n 0 ++ with_zeros words base count ≡ with_zeros (replicate n 0 ++ words) place count
unfolding with_zeros
zeros_behind words n base place count e =
    let l : length {A = ℕ} (replicate n 0) ≡ n = length-replicate n 0 in
    let p : place ≡ length {A = ℕ} (replicate n 0) + base = omega arith in
    let q : place + count ≡ length {A = ℕ} (replicate n 0) + (base + count) = omega arith in
    let t : take place (replicate n 0 ++ words) ≡ replicate n 0 ++ take base words =
    ap (λ k. take k (replicate n 0 ++ words)) p ∙ take-append-add (replicate n 0) words base in
    let d : drop (place + count) (replicate n 0 ++ words) ≡ drop (base + count) words =
    ap (λ k. drop k (replicate n 0 ++ words)) q ∙ drop-append-add (replicate n 0) words (base + count) in
    rw (t, d) (sym (append_assoc (replicate n 0) (take base words) (replicate count 0 ++ drop (base + count) words)))

-- a frame of the area is cleared
pub padded_zeros : (words : List ℕ) (first limit base place count : ℕ) → 512 * first + base ≡ place → base + count ≤ length words →
    with_zeros_around (with_zeros words base count) first limit ≡ with_zeros (with_zeros_around words first limit) place
    count
unfolding with_zeros_around
padded_zeros words first limit base place count e le =
    ap (λ n. replicate (512 * first) 0 ++ (with_zeros words base count ++ replicate (512 * limit - (512 * first + n)) 0))
    (length-with_zeros words base count le)
    ∙ (ap (λ xs. replicate (512 * first) 0 ++ xs) (zeros_before words (replicate (512 * limit - (512 * first + length words)) 0) base count le)
    ∙ zeros_behind (words ++ replicate (512 * limit - (512 * first + length words)) 0) (512 * first) base place count e)
