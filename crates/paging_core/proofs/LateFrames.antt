-- The words of the frames that are made, with zeros after them for the frames that are not.
use Rattle.std.proofs.Common.{◌≡◌, ℕ, ◌+◌, ◌-◌, ◌*◌, ◌<◌, ◌≤◌, List, length, get_or, take, drop, replicate, ◌++◌, refl, sym, ap, ◌∙◌, ◌⊎◌, inl, inr, arith, append_assoc, length-append}
use Rattle.std.proofs.lemmas.List.{get_or-append_right, get_or_append_left, get_or-replicate, length-replicate, replicate-append-replicate, take-append-le, drop-append-le, ext_get_or}
use Rattle.std.proofs.lemmas.Bool.{cases_lt}
use Rattle.paging_core.specs.Memory.{word_at, with_zeros, IsFrameCopied}
use Rattle.paging_core.proofs.Words.{pasted, length-with_zeros, get_or-with_zeros_inside, get_or-with_zeros_before, get_or-with_zeros_after}

-- more frames are made
pub zeros_made : (words : List ℕ) (rest more : ℕ) → more ≤ rest → (words ++ replicate more 0) ++ replicate (rest - more) 0 ≡ words ++ replicate rest 0
zeros_made words rest more le =
    let e : more + (rest - more) ≡ rest = omega arith in
    append_assoc words (replicate more 0) (replicate (rest - more) 0)
    ∙ (ap (λ zs. words ++ zs) (replicate-append-replicate more (rest - more) 0) ∙ ap (λ n. words ++ replicate n 0) e)

-- a run is written among the words that are made
pub pasted_made : (words zs : List ℕ) (base : ℕ) (run : List ℕ) → base + length run ≤ length words → pasted (words ++ zs) base run ≡ pasted words base run ++ zs
unfolding pasted
pasted_made words zs base run le =
    let below : base ≤ length words = omega arith in
    ap (λ xs. xs ++ (run ++ drop (base + length run) (words ++ zs))) (take-append-le base words zs below)
    ∙ (ap (λ xs. take base words ++ (run ++ xs)) (drop-append-le (base + length run) words zs le)
    ∙ (ap (λ xs. take base words ++ xs) (sym (append_assoc run (drop (base + length run) words) zs))
    ∙ sym (append_assoc (take base words) (run ++ drop (base + length run) words) zs)))

-- words that are made are cleared
pub cleared_made : (words zs : List ℕ) (base n : ℕ) → base + n ≤ length words → with_zeros (words ++ zs) base n ≡ with_zeros words base n ++ zs
unfolding with_zeros
cleared_made words zs base n le =
    let below : base ≤ length words = omega arith in
    ap (λ xs. xs ++ (replicate n 0 ++ drop (base + n) (words ++ zs))) (take-append-le base words zs below)
    ∙ (ap (λ xs. take base words ++ (replicate n 0 ++ xs)) (drop-append-le (base + n) words zs le)
    ∙ (ap (λ xs. take base words ++ xs) (sym (append_assoc (replicate n 0) (drop (base + n) words) zs))
    ∙ sym (append_assoc (take base words) (replicate n 0 ++ drop (base + n) words) zs)))

unmade_is_zero : (words : List ℕ) (rest k : ℕ) → length words ≤ k → k < length words + rest → get_or (words ++ replicate rest 0) k 0 ≡ 0
unmade_is_zero words rest k from to = get_or-append_right words (replicate rest 0) (length words) k 0 refl from
    ∙ get_or-replicate rest (k - length words) 0 0 (omega arith)

-- words that are not made are clear
pub cleared_unmade : (words : List ℕ) (rest base n : ℕ) → length words ≤ base → base + n ≤ length words + rest →
    with_zeros (words ++ replicate rest 0) base n ≡ words ++ replicate rest 0
cleared_unmade words rest base n from to = ext_get_or 0 (with_zeros all base n) all size (λ k lk. go k (omega arith) (cases_lt k base) (cases_lt k (base + n)))
  where
    all : List ℕ
    all = words ++ replicate rest 0

    long : length all ≡ length words + rest
    long = length-append words (replicate rest 0) ∙ ap (λ m. length words + m) (length-replicate rest 0)

    fits : base + n ≤ length all
    fits = omega (arith, long)

    size : length (with_zeros all base n) ≡ length all
    size = length-with_zeros all base n fits

    go : (k : ℕ) → k < length (with_zeros all base n) → (k < base) ⊎ (base ≤ k) → (k < base + n) ⊎ (base + n ≤ k) →
        get_or (with_zeros all base n) k 0 ≡ get_or all k 0
    go k lk (inl lo) _ = get_or-with_zeros_before all base n k fits lo
    go k lk (inr _) (inr hi) = get_or-with_zeros_after all base n k fits hi
    go k lk (inr lo) (inl hi) = get_or-with_zeros_inside all base n k fits lo hi ∙ sym (unmade_is_zero words rest k (omega arith) (omega arith))

-- a frame that is made is copied to one that is made
pub copied_made : (words new zs : List ℕ) (from to : ℕ) → 512 * from + 512 ≤ length words → 512 * to + 512 ≤ length words →
    IsFrameCopied words new from to → IsFrameCopied (words ++ zs) (new ++ zs) from to
copied_made words new zs from to source target it = record {
  size = length-append new zs ∙ (ap (λ n. n + length zs) it.size ∙ sym (length-append words zs));
  copied = λ i li.
      let a : 512 * to + i < length new = omega (arith, it.size) in
      let b : 512 * from + i < length words = omega arith in
      get_or_append_left new zs 0 (512 * to + i) a ∙ (it.copied i li ∙ sym (get_or_append_left words zs 0 (512 * from + i) b));
  others = λ f i li ne. go f i li ne (cases_lt (512 * f + i) (length words));
}
  where
    go : (f i : ℕ) → i < 512 → (f ≡ to → ⊥) → (512 * f + i < length words) ⊎ (length words ≤ 512 * f + i) → word_at (new ++ zs) f i ≡ word_at (words ++ zs) f i
    go f i li ne (inl lt) =
        let a : 512 * f + i < length new = omega (arith, it.size) in
        get_or_append_left new zs 0 (512 * f + i) a ∙ (it.others f i li ne ∙ sym (get_or_append_left words zs 0 (512 * f + i) lt))
    go f i li ne (inr le) =
        get_or-append_right new zs (length words) (512 * f + i) 0 it.size le ∙ sym (get_or-append_right words zs (length words) (512 * f + i) 0 refl le)

-- The words that stand for a memory of `size` words, of which `made` are made
abbrev pub filled_up : List ℕ → ℕ → ℕ → List ℕ
filled_up words made size = words ++ replicate (size - made) 0

pub length-filled_up : (words : List ℕ) (made size : ℕ) → made ≡ length words → made ≤ size → length (filled_up words made size) ≡ size
length-filled_up words made size e le =
    let r : length {A = ℕ} (replicate (size - made) 0) ≡ size - made = length-replicate (size - made) 0 in
    length-append words (replicate (size - made) 0) ∙ (ap (λ n. length words + n) r ∙ omega arith)

pub length_made : (words new : List ℕ) (more : ℕ) → new ≡ words ++ replicate more 0 → length new ≡ length words + more
length_made words new more e = ap length e ∙ (length-append words (replicate more 0) ∙ ap (λ n. length words + n) (length-replicate more 0))

-- it stays the same as more frames are made
pub filled_up_made : (words new : List ℕ) (made made' size more : ℕ) → made ≡ length words → made' ≡ length new → new ≡ words ++ replicate more 0 →
    made + more ≤ size → filled_up new made' size ≡ filled_up words made size
filled_up_made words new made made' size more e e' grown le =
    let long : length new ≡ length words + more = length_made words new more grown in
    let rest : size - made' ≡ size - made - more = omega arith in
    let some : more ≤ size - made = omega arith in
    ap (λ xs. xs ++ replicate (size - made') 0) grown ∙ (ap (λ n. (words ++ replicate more 0) ++ replicate n 0) rest ∙ zeros_made words (size - made) more some)
