-- Runs of frames, and their counts.
use Rattle.std.proofs.Common.{◌≡◌, ℕ, zero, suc, ◌+◌, ◌-◌, ◌*◌, ◌/◌, ◌%◌, ◌^◌, ◌<◌, ◌≤◌, Bool, true, false, cond, eqb, List, [], ◌∷◌, length, get_or, set, take, drop, replicate, refl, sym, ap, ◌∙◌, ◌⊎◌, inl, inr, arith, length-set}
use Rattle.std.proofs.lemmas.Bool.{cases_eq, cases_lt, eqb-true, eq-eqb, ne_eqb, false≢true}
use Rattle.std.proofs.lemmas.List.{same_lists, get_or-set_same, get_or-set_other, get_or_past, get_or_default, get_or-take, get_or-drop, length-take, length-drop, take-set-le, drop-set-lt, drop-set-add, get_or-replicate, length-replicate, drop-replicate, take-replicate, take_all}
use Rattle.std.proofs.lemmas.List.FromFn.{get_or-map-range_with_len, length-map-range_with_len}
use Rattle.std.proofs.lemmas.List.Sums.{sum_by-set, sum_by-cons, count_by-le-length}
use Rattle.std.proofs.lemmas.List.Folds.{sum_by-replicate}
use Rattle.std.proofs.lemmas.Grind.{get_or_default_zero}
use Rattle.std.proofs.Math.Seq.{take-set-lt}
use Rattle.paging_core.specs.Pool.{is_frame_free, free_count, IsOut}
use Rattle.paging_core.specs.Runs.{free_in, whole_runs, IsRunFree, IsRunOut, IsRunSet, AreRunsCounted}
use Rattle.paging_core.proofs.Made.{free_below, none_free, taken_count}
use Rattle.paging_core.proofs.Given.{out_below, given_count, out_of}

-- ---- how many of a list are free

eqb-lt : (a b : ℕ) → a < b → eqb a b ≡ false
eqb-lt a b lt = ne_eqb a b (λ e. omega arith)

-- all of a number of flags are free if that many are
pub all_of_count : (l : List Bool) (n : ℕ) → length l ≤ n → free_count l ≡ n → (k : ℕ) → k < n → get_or l k false ≡ true
all_of_count [] n le e k lt = absurd (omega arith)
all_of_count (true ∷ xs) n le e zero lt = refl
all_of_count (true ∷ xs) zero le e (suc k) lt = absurd (omega arith)
all_of_count (true ∷ xs) (suc n) le e (suc k) lt =
    let s : free_count (true ∷ xs) ≡ 1 + free_count xs = sum_by-cons (λ (x : Bool). cond x 1 0) true xs in
    all_of_count xs n (omega arith) (omega arith) k (omega arith)
all_of_count (false ∷ xs) n le e k lt =
    let s : free_count (false ∷ xs) ≡ 0 + free_count xs = sum_by-cons (λ (x : Bool). cond x 1 0) false xs in
    let b : free_count xs ≤ length xs = count_by-le-length (λ (x : Bool). x) xs in
    absurd (omega arith)

pub count_of_all : (l : List Bool) (n : ℕ) → length l ≤ n → ((k : ℕ) → k < n → get_or l k false ≡ true) → free_count l ≡ n
count_of_all [] zero le h = refl
count_of_all [] (suc n) le h = absurd (false≢true (h 0 (omega arith)))
count_of_all (x ∷ xs) zero le h = absurd (omega arith)
count_of_all (x ∷ xs) (suc n) le h =
    let s : free_count (x ∷ xs) ≡ cond x 1 0 + free_count xs = sum_by-cons (λ (x : Bool). cond x 1 0) x xs in
    let f : cond {A = ℕ} x 1 0 ≡ 1 = rw (h 0 (omega arith)) refl in
    let r : free_count xs ≡ n = count_of_all xs n (omega arith) (λ k lt. h (suc k) (omega arith)) in
    omega arith

-- ---- a part of a list of flags

part-set_before : (m n : ℕ) (l : List Bool) (i : ℕ) (v : Bool) → i < n → take m (drop n (set l i v)) ≡ take m (drop n l)
part-set_before m n l i v lt = ap (λ x. take m x) (drop-set-lt n l i v lt)

part-set_behind : (m n : ℕ) (l : List Bool) (j : ℕ) (v : Bool) → m ≤ j → take m (drop n (set l (n + j) v)) ≡ take m (drop n l)
part-set_behind m n l j v le = ap (λ x. take m x) (drop-set-add n l j v) ∙ take-set-le m (drop n l) j v le

part-set_within : (m n : ℕ) (l : List Bool) (j : ℕ) (v : Bool) → j < m → take m (drop n (set l (n + j) v)) ≡ set (take m (drop n l)) j v
part-set_within m n l j v lt = ap (λ x. take m x) (drop-set-add n l j v) ∙ take-set-lt m (drop n l) j v lt

get_or-part : (m n : ℕ) (l : List Bool) (j : ℕ) (d : Bool) → j < m → get_or (take m (drop n l)) j d ≡ get_or l (n + j) d
get_or-part m n l j d lt = get_or-take m (drop n l) j d lt ∙ get_or-drop n l j d

length-part : (m n : ℕ) (l : List Bool) → (length (take m (drop n l)) ≤ m) × (length (take m (drop n l)) ≤ length l - n)
length-part m n l = let a = length-take m (drop n l) in let b = length-drop n l in (omega arith, omega arith)

-- ---- how many of a run are free

pub free_in-set_other : (free : List Bool) (frame run : ℕ) (v : Bool) → (run ≡ frame / 512 → ⊥) → free_in (set free frame v) run ≡ free_in free run
unfolding free_in
free_in-set_other free frame run v ne = go (cases_lt frame (512 * run))
  where
    go : (frame < 512 * run) ⊎ (512 * run ≤ frame) →
        free_count (take 512 (drop (512 * run) (set free frame v))) ≡ free_count (take 512 (drop (512 * run) free))
    go (inl lt) = ap free_count (part-set_before 512 (512 * run) free frame v lt)
    go (inr le) =
        let e : frame ≡ 512 * run + (frame - 512 * run) = omega arith in
        ap (λ f. free_count (take 512 (drop (512 * run) (set free f v)))) e
        ∙ ap free_count (part-set_behind 512 (512 * run) free (frame - 512 * run) v (omega arith))

pub free_in-set_same : (free : List Bool) (frame run : ℕ) (v d : Bool) → frame / 512 ≡ run → frame < length free →
    free_in (set free frame v) run + cond (get_or free frame d) 1 0 ≡ free_in free run + cond v 1 0
unfolding free_in
free_in-set_same free frame run v d is lt =
    let j : ℕ = frame - 512 * run in
    let e : frame ≡ 512 * run + j = omega arith in
    let small : j < 512 = omega arith in
    let s : free_count (take 512 (drop (512 * run) (set free frame v))) ≡ free_count (set (take 512 (drop (512 * run) free)) j v) =
    ap (λ f. free_count (take 512 (drop (512 * run) (set free f v)))) e ∙ ap free_count (part-set_within 512 (512 * run) free j v small) in
    let g : get_or (take 512 (drop (512 * run) free)) j d ≡ get_or free frame d =
    get_or-part 512 (512 * run) free j d small ∙ ap (λ f. get_or free f d) (sym e) in
    let in_part : j < length (take 512 (drop (512 * run) free)) =
    let a = length-take 512 (drop (512 * run) free) in let b = length-drop (512 * run) free in omega arith in
    let h : free_count (set (take 512 (drop (512 * run) free)) j v) + cond (get_or (take 512 (drop (512 * run) free)) j d) 1 0
    ≡ free_count (take 512 (drop (512 * run) free)) + cond v 1 0 =
    sum_by-set (λ (x : Bool). cond x 1 0) (take 512 (drop (512 * run) free)) j v d in_part in
    let k : cond {A = ℕ} (get_or (take 512 (drop (512 * run) free)) j d) 1 0 ≡ cond (get_or free frame d) 1 0 = ap (λ x. cond {A = ℕ} x 1 0) g in
    omega arith

pub free_in-bound : (free : List Bool) (run : ℕ) → free_in free run ≤ 512
unfolding free_in
free_in-bound free run =
    let a = count_by-le-length (λ (x : Bool). x) (take 512 (drop (512 * run) free)) in
    let b = (length-part 512 (512 * run) free).0 in
    omega arith

pub free_in-past : (free : List Bool) (run : ℕ) → (length free + 511) / 512 ≤ run → free_in free run ≡ 0
unfolding free_in
free_in-past free run past =
    let a = count_by-le-length (λ (x : Bool). x) (take 512 (drop (512 * run) free)) in
    let b = (length-part 512 (512 * run) free).1 in
    omega arith

-- a run whose 512 frames are free
pub run_free : (free : List Bool) (run : ℕ) → free_in free run ≡ 512 → IsRunFree free run
unfolding free_in
run_free free run e frame is =
    let j : ℕ = frame - 512 * run in
    let at : frame ≡ 512 * run + j = omega arith in
    ap (λ f. get_or free f false) at
    ∙ (sym (get_or-part 512 (512 * run) free j false (omega arith))
    ∙ all_of_count (take 512 (drop (512 * run) free)) 512 (length-part 512 (512 * run) free).0 e j (omega arith))

pub free_run : (free : List Bool) (run : ℕ) → IsRunFree free run → free_in free run ≡ 512
unfolding free_in
free_run free run all =
    count_of_all (take 512 (drop (512 * run) free)) 512 (length-part 512 (512 * run) free).0
    (λ k lt. get_or-part 512 (512 * run) free k false lt ∙ all (512 * run + k) (omega arith))

-- a run of which no frame is free
pub no_free_run : (free : List Bool) (run : ℕ) → ((frame : ℕ) → frame / 512 ≡ run → is_frame_free free frame ≡ false) → free_in free run ≡ 0
unfolding free_in
no_free_run free run none = none_free (take 512 (drop (512 * run) free)) (λ k. go k (cases_lt k 512))
  where
    go : (k : ℕ) → (k < 512) ⊎ (512 ≤ k) → is_frame_free (take 512 (drop (512 * run) free)) k ≡ false
    go k (inl lt) = get_or-part 512 (512 * run) free k false lt ∙ none (512 * run + k) (omega arith)
    go k (inr le) = get_or_past (take 512 (drop (512 * run) free)) k false (let b = (length-part 512 (512 * run) free).0 in omega arith)

-- a run whose flags stay has as many free frames
pub free_in-same : (free free' : List Bool) (run : ℕ) → length free' ≡ length free →
    ((frame : ℕ) → frame / 512 ≡ run → is_frame_free free' frame ≡ is_frame_free free frame) →
    free_in free' run ≡ free_in free run
unfolding free_in
free_in-same free free' run size same =
    ap free_count (same_lists (take 512 (drop (512 * run) free')) (take 512 (drop (512 * run) free)) lengths each)
  where
    lengths : length (take 512 (drop (512 * run) free')) ≡ length (take 512 (drop (512 * run) free))
    lengths =
        let a = length-take 512 (drop (512 * run) free') in let b = length-drop (512 * run) free' in
        let c = length-take 512 (drop (512 * run) free) in let d = length-drop (512 * run) free in
        omega arith

    each : (k : ℕ) (d : Bool) → k < length (take 512 (drop (512 * run) free')) →
        get_or (take 512 (drop (512 * run) free')) k d ≡ get_or (take 512 (drop (512 * run) free)) k d
    each k d lt =
        let b = length-part 512 (512 * run) free' in
        let small : k < 512 = omega arith in
        let inside' : 512 * run + k < length free' = omega arith in
        let inside : 512 * run + k < length free = omega arith in
        get_or-part 512 (512 * run) free' k d small
        ∙ (get_or_default free' (512 * run + k) d false inside'
        ∙ (same (512 * run + k) (omega arith)
        ∙ (get_or_default free (512 * run + k) false d inside
        ∙ sym (get_or-part 512 (512 * run) free k d small))))

-- ---- the flags of the runs

pub length-whole_runs : (free : List Bool) → length (whole_runs free) ≡ (length free + 511) / 512
unfolding whole_runs
length-whole_runs free = length-map-range_with_len (λ (run : ℕ). eqb (free_in free run) 512) 0 ((length free + 511) / 512)

get_or-whole_runs_in : (free : List Bool) (run : ℕ) → run < (length free + 511) / 512 → get_or (whole_runs free) run false ≡ eqb (free_in free run) 512
unfolding whole_runs
get_or-whole_runs_in free run lt = get_or-map-range_with_len (λ (run : ℕ). eqb (free_in free run) 512) 0
    ((length free + 511) / 512) run run false lt (omega arith)

pub get_or-whole_runs : (free : List Bool) (run : ℕ) → get_or (whole_runs free) run false ≡ eqb (free_in free run) 512
get_or-whole_runs free run = go (cases_lt run ((length free + 511) / 512))
  where
    go : (run < (length free + 511) / 512) ⊎ ((length free + 511) / 512 ≤ run) → get_or (whole_runs free) run false ≡ eqb (free_in free run) 512
    go (inl lt) = get_or-whole_runs_in free run lt
    go (inr le) =
        get_or_past (whole_runs free) run false (let a = length-whole_runs free in omega arith)
        ∙ sym (ap (λ n. eqb n 512) (free_in-past free run le))

pub whole_is : (free : List Bool) (run : ℕ) → get_or (whole_runs free) run false ≡ true → IsRunFree free run
whole_is free run e = run_free free run (eqb-true (free_in free run) 512 (sym (get_or-whole_runs free run) ∙ e))

pub whole_of : (free : List Bool) (run : ℕ) → IsRunFree free run → get_or (whole_runs free) run false ≡ true
whole_of free run all = get_or-whole_runs free run ∙ eq-eqb (free_in free run) 512 (free_run free run all)

-- the flags of the runs are these if each is
pub whole_runs_are : (free flags : List Bool) → length flags ≡ (length free + 511) / 512 →
    ((run : ℕ) → run < length flags → get_or flags run false ≡ eqb (free_in free run) 512) → flags ≡ whole_runs free
whole_runs_are free flags size each =
    same_lists flags (whole_runs free) (size ∙ sym (length-whole_runs free))
    (λ k d lt. get_or_default flags k d false lt
    ∙ (each k lt
    ∙ (sym (get_or-whole_runs free k)
    ∙ get_or_default (whole_runs free) k false d (let a = length-whole_runs free in omega arith))))

-- the counts of other runs stay, and this run's flag is this
pub whole-set : (free free' : List Bool) (run : ℕ) (v : Bool) → length free' ≡ length free → run < (length free + 511) / 512 →
    ((other : ℕ) → (other ≡ run → ⊥) → free_in free' other ≡ free_in free other) →
    eqb (free_in free' run) 512 ≡ v → set (whole_runs free) run v ≡ whole_runs free'
whole-set free free' run v size within others here =
    whole_runs_are free' (set (whole_runs free) run v)
    (length-set (whole_runs free) run v ∙ (length-whole_runs free ∙ ap (λ n. (n + 511) / 512) (sym size)))
    (λ k lt. go k (cases_eq k run))
  where
    go : (k : ℕ) → (k ≡ run) ⊎ (k ≡ run → ⊥) → get_or (set (whole_runs free) run v) k false ≡ eqb (free_in free' k) 512
    go k (inl e) = rw e (get_or-set_same (whole_runs free) run v false (let a = length-whole_runs free in omega arith) ∙ sym here)
    go k (inr ne) = get_or-set_other (whole_runs free) run k v false ne ∙ (get_or-whole_runs free k ∙ ap (λ n. eqb n 512) (sym (others k ne)))

pub whole-same : (free free' : List Bool) → length free' ≡ length free →
    ((run : ℕ) → eqb (free_in free' run) 512 ≡ eqb (free_in free run) 512) → whole_runs free ≡ whole_runs free'
whole-same free free' size same =
    whole_runs_are free' (whole_runs free) (length-whole_runs free ∙ ap (λ n. (n + 511) / 512) (sym size))
    (λ k lt. get_or-whole_runs free k ∙ sym (same k))

-- ---- one frame is taken or given back

pub taken_counted : (free whole : List Bool) (counts : List ℕ) (number count : ℕ) → AreRunsCounted free whole counts → is_frame_free free number ≡ true →
    count ≡ get_or counts (number / 512) 0 →
    AreRunsCounted (set free number false) (set whole (number / 512) false) (set counts (number / 512) (count - 1))
taken_counted free whole counts number count c was is =
    let below : number < length free = free_below free number was in
    let s : free_in (set free number false) (number / 512) + cond (is_frame_free free number) 1 0 ≡ free_in free (number / 512) + 0 =
    free_in-set_same free number (number / 512) false false refl below in
    let k : cond {A = ℕ} (is_frame_free free number) 1 0 ≡ 1 = rw was refl in
    let n : get_or counts (number / 512) 0 ≡ free_in free (number / 512) = c.counted (number / 512) in
    let size : length (set free number false) ≡ length free = length-set free number false in
    let less : free_in (set free number false) (number / 512) ≡ count - 1 = omega arith in
    let bound = free_in-bound free (number / 512) in
    record {
      bounded = omega (arith, c.bounded);
      runs = omega (arith, c.runs, length-set counts (number / 512) (count - 1));
      counted = λ run. each run less (cases_eq run (number / 512));
      are_whole = ap (λ w. set w (number / 512) false) c.are_whole
          ∙ whole-set free (set free number false) (number / 512) false size (omega (arith, below))
          (λ other ne. free_in-set_other free number other false ne)
          (eqb-lt (free_in (set free number false) (number / 512)) 512 (omega arith));
    }
  where
    each : (run : ℕ) → free_in (set free number false) (number / 512) ≡ count - 1 → (run ≡ number / 512) ⊎ (run ≡ number / 512 → ⊥) →
        get_or (set counts (number / 512) (count - 1)) run 0 ≡ free_in (set free number false) run
    each run less (inl e) =
        rw e (get_or-set_same counts (number / 512) (count - 1) 0 (let b = free_below free number was in omega (arith, c.runs)) ∙ sym less)
    each run less (inr ne) =
        get_or-set_other counts (number / 512) run (count - 1) 0 ne ∙ (c.counted run ∙ sym (free_in-set_other free number run false ne))

pub given_more : (free whole : List Bool) (counts : List ℕ) (number count : ℕ) → AreRunsCounted free whole counts → IsOut free number →
    count ≡ get_or counts (number / 512) 0 + 1 →
    (count < 512 → AreRunsCounted (set free number true) whole (set counts (number / 512) count))
    × (count ≡ 512 → AreRunsCounted (set free number true) (set whole (number / 512) true)
    (set counts (number / 512) count))
    × (count ≤ 512)
given_more free whole counts number count c was is =
    let below : number < length free = out_below free number was in
    let s : free_in (set free number true) (number / 512) + cond (get_or free number true) 1 0 ≡ free_in free (number / 512) + 1 =
    free_in-set_same free number (number / 512) true true refl below in
    let k : cond {A = ℕ} (get_or free number true) 1 0 ≡ 0 = rw was refl in
    let n : get_or counts (number / 512) 0 ≡ free_in free (number / 512) = c.counted (number / 512) in
    let size : length (set free number true) ≡ length free = length-set free number true in
    let more : free_in (set free number true) (number / 512) ≡ count = omega arith in
    let bound = free_in-bound (set free number true) (number / 512) in (
      λ lt. record {
        bounded = omega (arith, c.bounded);
        runs = omega (arith, c.runs, length-set counts (number / 512) count);
        counted = λ run. each run more (cases_eq run (number / 512));
        are_whole = c.are_whole ∙ whole-same free (set free number true) size
            (λ run. same run (omega arith) (omega arith) (cases_eq run (number / 512)));
      },
      λ full. record {
        bounded = omega (arith, c.bounded);
        runs = omega (arith, c.runs, length-set counts (number / 512) count);
        counted = λ run. each run more (cases_eq run (number / 512));
        are_whole = ap (λ w. set w (number / 512) true) c.are_whole
            ∙ whole-set free (set free number true) (number / 512) true size (omega (arith, below))
            (λ other ne. free_in-set_other free number other true ne)
            (eq-eqb (free_in (set free number true) (number / 512)) 512 (omega arith));
      },
      omega arith,
    )
  where
    each : (run : ℕ) → free_in (set free number true) (number / 512) ≡ count → (run ≡ number / 512) ⊎ (run ≡ number / 512 → ⊥) →
        get_or (set counts (number / 512) count) run 0 ≡ free_in (set free number true) run
    each run more (inl e) =
        rw e (get_or-set_same counts (number / 512) count 0 (let b = out_below free number was in omega (arith, c.runs)) ∙ sym more)
    each run more (inr ne) =
        get_or-set_other counts (number / 512) run count 0 ne ∙ (c.counted run ∙ sym (free_in-set_other free number run true ne))

    same : (run : ℕ) → free_in (set free number true) (number / 512) < 512 → free_in free (number / 512) < 512 →
        (run ≡ number / 512) ⊎ (run ≡ number / 512 → ⊥) → eqb (free_in (set free number true) run) 512 ≡ eqb (free_in free run) 512
    same run a b (inl e) =
        rw e (eqb-lt (free_in (set free number true) (number / 512)) 512 a ∙ sym (eqb-lt (free_in free (number / 512)) 512 b))
    same run a b (inr ne) = ap (λ n. eqb n 512) (free_in-set_other free number run true ne)

-- ---- a run is taken or given back

-- if a run's frames are all free or all out, its number is below that of the runs
pub run_within : (free : List Bool) (run : ℕ) → 512 * run + 511 < length free → run < (length free + 511) / 512
run_within free run lt = omega arith

pub free_run_in : (free : List Bool) (run : ℕ) → IsRunFree free run → 512 * run + 511 < length free
free_run_in free run all = free_below free (512 * run + 511) (all (512 * run + 511) (omega arith))

pub out_run_in : (free : List Bool) (run : ℕ) → IsRunOut free run → 512 * run + 511 < length free
out_run_in free run all = out_below free (512 * run + 511) (all (512 * run + 511) (omega arith))

run_counted : (free free' whole : List Bool) (counts : List ℕ) (run count : ℕ) (v : Bool) →
    AreRunsCounted free whole counts →
    512 * run + 511 < length free → IsRunSet free free' run v → free_in free' run ≡ count → eqb count 512 ≡ v →
    AreRunsCounted free' (set whole run v) (set counts run count)
run_counted free free' whole counts run count v c within s is flag = record {
  bounded = omega (arith, c.bounded, s.size);
  runs = omega (arith, c.runs, s.size, length-set counts run count);
  counted = λ other. each other (cases_eq other run);
  are_whole = ap (λ w. set w run v) c.are_whole
      ∙ whole-set free free' run v s.size (run_within free run within) others (ap (λ n. eqb n 512) is ∙ flag);
}
  where
    others : (other : ℕ) → (other ≡ run → ⊥) → free_in free' other ≡ free_in free other
    others other ne = free_in-same free free' other s.size (λ frame at. s.elsewhere frame (λ e. ne (sym at ∙ e)))

    each : (other : ℕ) → (other ≡ run) ⊎ (other ≡ run → ⊥) → get_or (set counts run count) other 0 ≡ free_in free' other
    each other (inl e) = rw e (get_or-set_same counts run count 0 (omega (arith, c.runs, run_within free run within)) ∙ sym is)
    each other (inr ne) = get_or-set_other counts run other count 0 ne ∙ (c.counted other ∙ sym (others other ne))

pub run_taken : (free free' whole : List Bool) (counts : List ℕ) (run : ℕ) → AreRunsCounted free whole counts →
    IsRunFree free run → IsRunSet free free' run false → AreRunsCounted free' (set whole run false) (set counts run 0)
run_taken free free' whole counts run c was s =
    run_counted free free' whole counts run 0 false c (free_run_in free run was) s (no_free_run free' run s.here) refl

pub run_given : (free free' whole : List Bool) (counts : List ℕ) (run : ℕ) → AreRunsCounted free whole counts →
    IsRunOut free run → IsRunSet free free' run true → AreRunsCounted free' (set whole run true) (set counts run 512)
run_given free free' whole counts run c was s =
    run_counted free free' whole counts run 512 true c (out_run_in free run was) s (free_run free' run s.here) refl

-- ---- a pool in which every frame is free

part_of_replicate : (m n c : ℕ) → (m ≤ c - n → take m (drop n (replicate c true)) ≡ replicate m true)
    × (c - n ≤ m → take m (drop n (replicate c true)) ≡ replicate (c - n) true)
part_of_replicate m n c = (
  λ le. ap (λ l. take m l) (drop-replicate n c true) ∙ take-replicate m (c - n) true le,
  λ le. ap (λ l. take m l) (drop-replicate n c true) ∙ take_all m (replicate (c - n) true) (omega (arith, length-replicate (c - n) true)),
)

count_replicate : (n : ℕ) → free_count (replicate n true) ≡ n
count_replicate n = let e : free_count (replicate n true) ≡ n * 1 = sum_by-replicate (λ (x : Bool). cond x 1 0) n true in omega arith

free_in-new : (count run : ℕ) →
    (512 ≤ count - 512 * run → free_in (replicate count true) run ≡ 512)
    × (count - 512 * run ≤ 512 → free_in (replicate count true) run ≡ count - 512 * run)
unfolding free_in
free_in-new count run = (
  λ le. ap free_count ((part_of_replicate 512 (512 * run) count).0 le) ∙ count_replicate 512,
  λ le. ap free_count ((part_of_replicate 512 (512 * run) count).1 le) ∙ count_replicate (count - 512 * run),
)

-- if the frames are whole runs
pub new_whole : (count : ℕ) → count < 2 ^ 32 → count % 512 ≡ 0 →
    AreRunsCounted (replicate count true) (replicate ((count + 511) / 512) true) (replicate ((count + 511) / 512) 512)
new_whole count lt whole = record {
  bounded = omega (arith, length-replicate count true);
  runs = omega (arith, length-replicate count true, length-replicate {A = ℕ} ((count + 511) / 512) 512);
  counted = λ run. each run (cases_lt run ((count + 511) / 512));
  are_whole = whole_runs_are (replicate count true) (replicate ((count + 511) / 512) true)
      (omega (arith, length-replicate count true, length-replicate ((count + 511) / 512) true))
      (λ run lt. flag run (omega (arith, length-replicate ((count + 511) / 512) true)));
}
  where
    full : (run : ℕ) → run < (count + 511) / 512 → free_in (replicate count true) run ≡ 512
    full run lt = (free_in-new count run).0 (omega arith)

    flag : (run : ℕ) → run < (count + 511) / 512 → get_or (replicate ((count + 511) / 512) true) run false ≡ eqb (free_in (replicate count true) run) 512
    flag run lt = get_or-replicate ((count + 511) / 512) run true false lt ∙ sym (eq-eqb (free_in (replicate count true) run) 512 (full run lt))

    each : (run : ℕ) → (run < (count + 511) / 512) ⊎ ((count + 511) / 512 ≤ run) →
        get_or (replicate ((count + 511) / 512) 512) run 0 ≡ free_in (replicate count true) run
    each run (inl lt) = get_or-replicate ((count + 511) / 512) run 512 0 lt ∙ sym (full run lt)
    each run (inr le) =
        get_or_past (replicate ((count + 511) / 512) 512) run 0 (omega (arith, length-replicate {A = ℕ} ((count + 511) / 512) 512))
        ∙ sym (free_in-past (replicate count true) run (omega (arith, length-replicate count true)))

-- if the last run has fewer frames
pub new_rest : (count : ℕ) → count < 2 ^ 32 → 0 < count % 512 →
    AreRunsCounted (replicate count true) (set (replicate ((count + 511) / 512) true) (count / 512) false)
    (set (replicate ((count + 511) / 512) 512) (count / 512) (count % 512))
new_rest count lt some = record {
  bounded = omega (arith, length-replicate count true);
  runs = omega (
    arith,
    length-replicate count true,
    length-set (replicate ((count + 511) / 512) 512) (count / 512)
        (count % 512),
    length-replicate {A = ℕ} ((count + 511) / 512) 512,
  );
  counted = λ run. each run (cases_lt run (count / 512)) (cases_eq run (count / 512));
  are_whole = whole_runs_are (replicate count true) (set (replicate ((count + 511) / 512) true) (count / 512) false)
      (omega (
        arith,
        length-replicate count true,
        length-set (replicate ((count + 511) / 512) true) (count / 512) false,
        length-replicate ((count + 511) / 512) true,
      ))
      (λ run lt. flag run (omega (
        arith,
        length-set (replicate ((count + 511) / 512) true) (count / 512) false,
        length-replicate ((count + 511) / 512) true,
      )) (cases_eq run (count / 512)));
}
  where
    full : (run : ℕ) → run < count / 512 → free_in (replicate count true) run ≡ 512
    full run lt = (free_in-new count run).0 (omega arith)

    rest : free_in (replicate count true) (count / 512) ≡ count % 512
    rest = let e = (free_in-new count (count / 512)).1 (omega arith) in omega arith

    flag : (run : ℕ) → run < (count + 511) / 512 → (run ≡ count / 512) ⊎ (run ≡ count / 512 → ⊥) →
        get_or (set (replicate ((count + 511) / 512) true) (count / 512) false) run false ≡ eqb (free_in (replicate count true) run) 512
    flag run lt (inl e) =
        rw e (
        get_or-set_same (replicate ((count + 511) / 512) true) (count / 512) false false (omega (arith, length-replicate ((count + 511) / 512) true))
        ∙ sym (eqb-lt (free_in (replicate count true) (count / 512)) 512 (omega (arith, rest)))
        )
    flag run lt (inr ne) =
        get_or-set_other (replicate ((count + 511) / 512) true) (count / 512) run false false ne
        ∙ (get_or-replicate ((count + 511) / 512) run true false lt
        ∙ sym (eq-eqb (free_in (replicate count true) run) 512 (full run (omega arith))))

    each : (run : ℕ) → (run < count / 512) ⊎ (count / 512 ≤ run) → (run ≡ count / 512) ⊎ (run ≡ count / 512 → ⊥) →
        get_or (set (replicate ((count + 511) / 512) 512) (count / 512) (count % 512)) run 0 ≡ free_in (replicate count true) run
    each run _ (inl e) =
        rw e (get_or-set_same (replicate ((count + 511) / 512) 512) (count / 512) (count % 512) 0
        (omega (arith, length-replicate {A = ℕ} ((count + 511) / 512) 512)) ∙ sym rest)
    each run (inl lt) (inr ne) =
        get_or-set_other (replicate ((count + 511) / 512) 512) (count / 512) run (count % 512) 0 ne
        ∙ (get_or-replicate ((count + 511) / 512) run 512 0 (omega arith) ∙ sym (full run lt))
    each run (inr le) (inr ne) =
        get_or_past (set (replicate ((count + 511) / 512) 512) (count / 512) (count % 512)) run 0
        (omega (arith, length-set (replicate ((count + 511) / 512) 512) (count / 512) (count % 512), length-replicate {A = ℕ} ((count + 511) / 512) 512))
        ∙ sym (free_in-past (replicate count true) run (omega (arith, length-replicate count true)))

-- ---- some frames of a run, in a row, have a flag

pub record IsPartSet (free now : List Bool) (first upto : ℕ) (value : Bool) : Type 0 where
  pub size : length now ≡ length free
  pub here : (frame : ℕ) → first ≤ frame → frame < upto → is_frame_free now frame ≡ value
  pub elsewhere : (frame : ℕ) → (first ≤ frame → frame < upto → ⊥) → is_frame_free now frame ≡ is_frame_free free frame

pub part_none : (free : List Bool) (first : ℕ) (value : Bool) → IsPartSet free free first first value
part_none free first value = record { size = refl; here = λ frame a b. absurd (omega arith); elsewhere = λ frame out. refl }

pub part_more : (free now : List Bool) (first upto : ℕ) (value : Bool) → first ≤ upto → upto < length free → IsPartSet free now first upto value →
    IsPartSet free (set now upto value) first (upto + 1) value
part_more free now first upto value le lt p = record {
  size = length-set now upto value ∙ p.size;
  here = λ frame a b. inside frame a b (cases_eq frame upto);
  elsewhere = λ frame out.
      get_or-set_other now upto frame value false (λ e. out (omega arith) (omega arith)) ∙ p.elsewhere frame (λ a b. out a (omega arith));
}
  where
    inside : (frame : ℕ) → first ≤ frame → frame < upto + 1 → (frame ≡ upto) ⊎ (frame ≡ upto → ⊥) → is_frame_free (set now upto value) frame ≡ value
    inside frame a b (inl e) = rw e (get_or-set_same now upto value false (omega (arith, p.size)))
    inside frame a b (inr ne) = get_or-set_other now upto frame value false ne ∙ p.here frame a (omega arith)

pub part_run : (free now : List Bool) (run first upto : ℕ) (value : Bool) → first ≡ run * 512 → upto ≡ first + 512 →
    IsPartSet free now first upto value → IsRunSet free now run value
part_run free now run first upto value f u p = record {
  size = p.size;
  here = λ frame is. p.here frame (omega arith) (omega arith);
  elsewhere = λ frame ne. p.elsewhere frame (λ a b. ne (omega arith));
}

-- ---- what the calls read

-- a count that was read
pub read_count : (free whole : List Bool) (counts : List ℕ) (number count : ℕ) → AreRunsCounted free whole counts → number < length free →
    count ≡ get_or counts (number / 512) count → count ≡ get_or counts (number / 512) 0
read_count free whole counts number count c lt read = read ∙ get_or_default_zero counts (number / 512) count (omega (arith, c.runs))

pub count_some : (free whole : List Bool) (counts : List ℕ) (number count : ℕ) → AreRunsCounted free whole counts → is_frame_free free number ≡ true →
    count ≡ get_or counts (number / 512) 0 → 1 ≤ count
count_some free whole counts number count c was is =
    let below : number < length free = free_below free number was in
    let s : free_in (set free number false) (number / 512) + cond (is_frame_free free number) 1 0 ≡ free_in free (number / 512) + 0 =
    free_in-set_same free number (number / 512) false false refl below in
    let k : cond {A = ℕ} (is_frame_free free number) 1 0 ≡ 1 = rw was refl in
    let n : get_or counts (number / 512) 0 ≡ free_in free (number / 512) = c.counted (number / 512) in
    omega arith

-- the run of a frame is one of those that the set may have
pub run_in : (free whole : List Bool) (counts : List ℕ) (number : ℕ) → AreRunsCounted free whole counts → number < length free → number / 512 < length whole
run_in free whole counts number c lt = let a = ap length c.are_whole in let b = length-whole_runs free in omega arith

pub is_whole : (free whole : List Bool) (counts : List ℕ) (run : ℕ) → AreRunsCounted free whole counts → get_or whole run false ≡ true → IsRunFree free run
is_whole free whole counts run c e = whole_is free run (ap (λ w. get_or w run false) (sym c.are_whole) ∙ e)

pub not_whole : (free whole : List Bool) (counts : List ℕ) (run : ℕ) → AreRunsCounted free whole counts →
    get_or whole run false ≡ false → IsRunFree free run → ⊥
not_whole free whole counts run c e all = false≢true (sym e ∙ (ap (λ w. get_or w run false) c.are_whole ∙ whole_of free run all))

-- a run that is taken or given is one of those that are counted
pub runs_below : (free whole : List Bool) (counts : List ℕ) (run : ℕ) → AreRunsCounted free whole counts → 512 * run + 511 < length free →
    (run < length counts) × (run < length whole) × (run < 2 ^ 23)
runs_below free whole counts run c lt =
    let a : length whole ≡ length (whole_runs free) = ap length c.are_whole in
    let b = length-whole_runs free in
    let r = c.runs in
    let m = c.bounded in
    (omega arith, omega arith, omega arith)

-- what the flags of the runs are after a run was taken
pub whole_taken : (free free' whole : List Bool) (counts : List ℕ) (run : ℕ) → AreRunsCounted free whole counts →
    IsRunFree free run → IsRunSet free free' run false → whole_runs free' ≡ set (whole_runs free) run false
whole_taken free free' whole counts run c was s =
    sym (ap (λ w. set w run false) (sym c.are_whole) ∙ (run_taken free free' whole counts run c was s).are_whole)

-- ---- the frames of a run, one after the other

pub record IsRemoving (free now : List Bool) (first upto : ℕ) : Type 0 where
  pub part : IsPartSet free now first upto false
  pub count : free_count now + (upto - first) ≡ free_count free
  pub above : first ≤ upto
  pub below : upto ≤ first + 512

pub removing_none : (free : List Bool) (first : ℕ) → IsRemoving free free first first
removing_none free first = record { part = part_none free first false; count = omega arith; above = omega arith; below = omega arith }

pub removing_more : (free now : List Bool) (run first upto : ℕ) → first ≡ run * 512 → upto < first + 512 → IsRunFree free run →
    IsRemoving free now first upto → (upto < length now) × IsRemoving free (set now upto false) first (upto + 1)
removing_more free now run first upto f lt all r =
    let was : is_frame_free free upto ≡ true = all upto (let a = r.above in omega arith) in
    let within : upto < length free = free_below free upto was in
    let still : is_frame_free now upto ≡ true = r.part.elsewhere upto (λ a b. omega arith) ∙ was in
    let one : free_count (set now upto false) + 1 ≡ free_count now = taken_count now upto still in (
      omega (arith, r.part.size),
      record {
        part = part_more free now first upto false r.above within r.part;
        count = let a = r.above in let b = r.count in omega arith;
        above = let a = r.above in omega arith;
        below = omega arith;
      },
    )

pub record IsInserting (free now : List Bool) (first upto : ℕ) : Type 0 where
  pub part : IsPartSet free now first upto true
  pub count : free_count now ≡ free_count free + (upto - first)
  pub above : first ≤ upto
  pub below : upto ≤ first + 512

pub inserting_none : (free : List Bool) (first : ℕ) → IsInserting free free first first
inserting_none free first = record { part = part_none free first true; count = omega arith; above = omega arith; below = omega arith }

pub inserting_more : (free now : List Bool) (run first upto : ℕ) → first ≡ run * 512 → upto < first + 512 → IsRunOut free run →
    IsInserting free now first upto → (upto < length now) × IsInserting free (set now upto true) first (upto + 1)
inserting_more free now run first upto f lt all r =
    let was : IsOut free upto = all upto (let a = r.above in omega arith) in
    let within : upto < length free = out_below free upto was in
    let gone : is_frame_free free upto ≡ false = get_or_default free upto false true within ∙ was in
    let still : is_frame_free now upto ≡ false = r.part.elsewhere upto (λ a b. omega arith) ∙ gone in
    let inside : upto < length now = omega (arith, r.part.size) in
    let one : free_count (set now upto true) ≡ free_count now + 1 = given_count now upto (out_of now upto inside still) in (
      inside,
      record {
        part = part_more free now first upto true r.above within r.part;
        count = let a = r.above in let b = r.count in omega arith;
        above = let a = r.above in omega arith;
        below = omega arith;
      },
    )
