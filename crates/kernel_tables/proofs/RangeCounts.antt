-- How many tables a range misses, and how many of its slots have none.
use Rattle.std.proofs.Common.{◌≡◌, ℕ, zero, suc, ◌+◌, ◌-◌, ◌*◌, ◌/◌, ◌%◌, ◌^◌, ◌<◌, ◌≤◌, Bool, true, false, cond, List, Option, Some, None, refl, sym, ap, ◌∙◌, ◌⊎◌, inl, inr, arith}
use Rattle.std.proofs.lemmas.Bool.{cases_Bool, cases_eq, cases_lt}
use Rattle.std.proofs.lemmas.Bool.Decides.{nat_tests}
use Rattle.std.specs.Prelude.{is_none, IsSome, ◌==◌}
use Rattle.paging_core.specs.Address.{IsCanonicalRange}
use Rattle.paging_core.specs.Large.{slot_of}
use Rattle.paging_core.specs.Missing.{missing_of}
use Rattle.paging_core.specs.Prefix.{prefix_of}
use Rattle.paging_core.specs.Tables.{missing_at}
use Rattle.paging_core.specs.Walk.{Place, reach}
use Rattle.paging_core.proofs.Counts.{absent, absent_none, absent_suc, absent_on, absent_for, missing_by_level, missing_one}
use Rattle.paging_core.proofs.PrefixLists.{page_at}
use Rattle.paging_core.proofs.Ranges.{missing_none, page_in, page_canonical, prefix_le}
use Rattle.kernel_tables.specs.Ranges.{large_count}
use Rattle.kernel_tables.specs.TableState.{TableState}

by_level : (words : List ℕ) (root page pages : ℕ) → 0 < pages →
    missing_of words root page pages
    ≡ absent_for words root page (page + pages - 1) 1 + absent_for words root page (page + pages - 1) 2 + absent_for words root page (page + pages - 1) 3
by_level words root page zero pos = absurd (omega arith)
by_level words root page (suc more) pos =
    let e : page + more ≡ page + suc more - 1 = omega arith in
    missing_by_level words root page more ∙ ap (λ last. absent_for words root page last 1 + absent_for words root page last
    2 + absent_for words root page last 3) e

pub piece_range : (page pages p m : ℕ) → IsCanonicalRange page pages → page ≤ p → p + m ≤ page + pages → 0 < m → IsCanonicalRange p m
piece_range page pages p m range lo hi some =
    let half : (page + pages - 1) / 2 ^ 35 ≡ page / 2 ^ 35 = range.one_half in
    let e : page + (p - page) ≡ p = omega arith in
    record { some = some; canonical = rw e at (page_canonical page pages (p - page) range (omega arith)); one_half = omega arith }

-- ---- a range in two parts that meet where a table of the root's begins

boundary : (p q l : ℕ) → q % 2 ^ 36 ≡ p % 2 ^ 36 + 1 → q % 2 ^ 27 ≡ 0 → 0 < l → l < 4 → prefix_of q l ≡ prefix_of p l + 1
boundary p q zero e z pos lt = absurd (omega arith)
boundary p q (suc zero) e z pos lt = omega arith
boundary p q (suc (suc zero)) e z pos lt = omega arith
boundary p q (suc (suc (suc zero))) e z pos lt = omega arith
boundary p q (suc (suc (suc (suc l)))) e z pos lt = absurd (omega arith)

pub missing_parts : (words : List ℕ) (root page a b : ℕ) → IsCanonicalRange page (a + b) → 0 < b → (0 < a → (page + a) % 2 ^ 27 ≡ 0) →
    missing_of words root page (a + b) ≡ missing_of words root page a + missing_of words root (page + a) b
missing_parts words root page zero b range some edge =
    let e : 0 + b ≡ b = omega arith in
    let f : page + 0 ≡ page = omega arith in
    rw (e, f, missing_none words root page) (omega arith)
missing_parts words root page (suc a) b range some edge =
    let x = by_level words root page (suc a + b) (omega arith) in
    let y = by_level words root page (suc a) (omega arith) in
    let z = by_level words root (page + suc a) b some in
    let i = one 1 (omega arith) (omega arith) in
    let j = one 2 (omega arith) (omega arith) in
    let k = one 3 (omega arith) (omega arith) in
    omega arith
  where
    one : (l : ℕ) → 0 < l → l < 4 →
        absent_for words root page (page + (suc a + b) - 1) l
        ≡ absent_for words root page (page + suc a - 1) l + absent_for words root (page + suc a) (page + suc a + b - 1) l
    one l pos lt =
        let h = page_in page (suc a + b) a range (omega arith) in
        let i = page_in page (suc a + b) (suc a) range (omega arith) in
        let j = page_in page (suc a + b) (a + b) range (omega arith) in
        let u : page + suc a - 1 ≡ page + a = omega arith in
        let v : page + (suc a + b) - 1 ≡ page + (a + b) = omega arith in
        let w : page + suc a + b - 1 ≡ page + (a + b) = omega arith in
        let n : prefix_of (page + suc a) l ≡ prefix_of (page + a) l + 1 = boundary (page + a) (page + suc a) l (omega arith) (edge (omega arith)) pos lt in
        let lo : prefix_of page l ≤ prefix_of (page + a) l = prefix_le page (page + a) l (omega arith) lt in
        let hi : prefix_of (page + a) l ≤ prefix_of (page + (a + b)) l = prefix_le (page + a) (page + (a + b)) l (omega arith) lt in
        let hi' : prefix_of (page + suc a) l ≤ prefix_of (page + (a + b)) l = prefix_le (page + suc a) (page + (a + b)) l (omega arith) lt in
        let s = absent_on words root l (prefix_of page l) (prefix_of (page + suc a) l) (prefix_of (page + (a + b)) l + 1) (omega arith) (omega arith) in
        let t : prefix_of (page + suc a) l - prefix_of page l ≡ prefix_of (page + a) l + 1 - prefix_of page l = omega arith in
        rw (u, v, w) (s ∙ ap (λ c. absent words root l (prefix_of page l) c + absent_for words root (page + suc a) (page + (a + b)) l) t)

-- ---- parts of a row of prefixes

parts : (words : List ℕ) (root level a n p m : ℕ) → a ≤ p → p + m ≤ a + n →
    absent words root level a n ≡ absent words root level a (p - a) + absent words root level p m + absent words root level (p + m) (a + n - (p + m))
parts words root level a n p m lo hi =
    let x = absent_on words root level a p (a + n) lo (omega arith) in
    let y = absent_on words root level p (p + m) (a + n) (omega arith) hi in
    let d : a + n - a ≡ n = omega arith in
    let e : p + m - p ≡ m = omega arith in
    let x' : absent words root level a n ≡ absent words root level a (p - a) + absent words root level p (a + n - p) =
    sym (ap (absent words root level a) d) ∙ x in
    let y' : absent words root level p (a + n - p) ≡ absent words root level p m + absent words root level (p + m) (a + n - (p + m)) =
    y ∙ ap (λ k. absent words root level p k + absent words root level (p + m) (a + n - (p + m))) e in
    omega arith

within : (words : List ℕ) (root level a n p m : ℕ) → a ≤ p → p + m ≤ a + n → absent words root level p m ≤ absent words root level a n
within words root level a n p m lo hi = let e = parts words root level a n p m lo hi in omega arith

-- one prefix beside a part
beside : (words : List ℕ) (root level a n p m q : ℕ) → a ≤ p → p + m ≤ a + n → a ≤ q → q < a + n → (p ≤ q → q < p + m → ⊥) →
    absent words root level p m + absent words root level q 1 ≤ absent words root level a n
beside words root level a n p m q lo hi from to out = go (cases_lt q p)
  where
    go : (q < p) ⊎ (p ≤ q) → absent words root level p m + absent words root level q 1 ≤ absent words root level a n
    go (inl lt) =
        let e = parts words root level a n p m lo hi in
        let w = within words root level a (p - a) q 1 from (omega arith) in
        omega arith
    go (inr le) =
        let far : p + m ≤ q = after (cases_lt q (p + m)) in
        let e = parts words root level a n p m lo hi in
        let w = within words root level (p + m) (a + n - (p + m)) q 1 far (omega arith) in
        omega arith
      where
        after : (q < p + m) ⊎ (p + m ≤ q) → p + m ≤ q
        after (inl x) = absurd (out le x)
        after (inr x) = x

pub one_absent : (words : List ℕ) (root level n : ℕ) → absent words root level n 1 ≡ cond (is_none (reach words root level n)) 1 0
one_absent words root level n =
    let z = absent_none words root level (n + 1) in
    absent_suc words root level n 0 ∙ omega arith

-- counts agree if the same prefixes have no table
pub absent_alike : (old new : List ℕ) (root level count from : ℕ) →
    ((n : ℕ) → from ≤ n → n < from + count → is_none (reach new root level n) ≡ is_none (reach old root level n)) →
    absent new root level from count ≡ absent old root level from count
absent_alike old new root level zero from h = absent_none new root level from ∙ sym (absent_none old root level from)
absent_alike old new root level (suc count) from h =
    let e = h from (omega arith) (omega arith) in
    let k = absent_alike old new root level count (from + 1) (λ n lo hi. h n (omega arith) (omega arith)) in
    rw (absent_suc new root level from count, absent_suc old root level from count, e, k) refl

all_there : (words : List ℕ) (root level count from : ℕ) →
    ((n : ℕ) → from ≤ n → n < from + count → is_none (reach words root level n) ≡ false) → absent words root level from count ≡ 0
all_there words root level zero from h = absent_none words root level from
all_there words root level (suc count) from h =
    let e = h from (omega arith) (omega arith) in
    let k = all_there words root level count (from + 1) (λ n lo hi. h n (omega arith) (omega arith)) in
    rw (absent_suc words root level from count, e) (omega arith)

absent_step : (words : List ℕ) (root level from count : ℕ) →
    absent words root level from (count + 1) ≡ absent words root level from count + cond (is_none (reach words root level (from + count))) 1 0
absent_step words root level from count =
    let a = absent_on words root level from (from + count) (from + count + 1) (omega arith) (omega arith) in
    let x : from + count + 1 - from ≡ count + 1 = omega arith in
    let y : from + count - from ≡ count = omega arith in
    let z : from + count + 1 - (from + count) ≡ 1 = omega arith in
    let b : absent words root level from (count + 1) ≡ absent words root level from count + absent words root level (from + count) 1 =
    sym (ap (absent words root level from) x)
    ∙ (a ∙ (ap (λ n. absent words root level from n + absent words root level (from + count) (from + count + 1 - (from + count))) y
    ∙ ap (λ n. absent words root level from count + absent words root level (from + count) n) z)) in
    b ∙ ap (λ n. absent words root level from count + n) (one_absent words root level (from + count))

-- if none has a table, all are counted
absent_more : (words : List ℕ) (root level from count more : ℕ) →
    ((n : ℕ) → from + count ≤ n → n < from + count + more → reach words root level n ≡ None) →
    absent words root level from (count + more) ≡ absent words root level from count + more
absent_more words root level from count zero h =
    let e : count + 0 ≡ count = omega arith in
    rw e (omega arith)
absent_more words root level from count (suc more) h =
    let e : count + suc more ≡ count + more + 1 = omega arith in
    let k = absent_more words root level from count more (λ n lo hi. h n lo (omega arith)) in
    let f : from + (count + more) ≡ from + count + more = omega arith in
    let n : reach words root level (from + (count + more)) ≡ None = ap (reach words root level) f ∙ h (from + count + more) (omega arith) (omega arith) in
    let o : cond {A = ℕ} (is_none (reach words root level (from + (count + more)))) 1 0 ≡ 1 = rw n refl in
    let b = absent_step words root level from (count + more) in
    rw e (omega arith)

-- ---- the slots of a range that may become large, as a row of prefixes

pub record IsSpan (page pages frame p m : ℕ) : Type 0 where
  pub from : prefix_of page 3 ≤ p
  pub to : p + m ≤ prefix_of (page + pages - 1) 3 + 1
  pub inside : (slot : ℕ) → page ≤ 512 * slot → 512 * slot + 512 ≤ page + pages → page % 512 ≡ frame % 512 → (p ≤ slot_of slot) × (slot_of slot < p + m)
  pub each : (n : ℕ) → p ≤ n → n < p + m →
      (slot : ℕ) × (slot_of slot ≡ n) × (page ≤ 512 * slot) × (512 * slot + 512 ≤ page + pages) × (page % 512 ≡ frame % 512)

-- with the count of those that do
pub record Spanned (page pages frame : ℕ) : Type 0 where
  pub p : ℕ
  pub m : ℕ
  pub is : IsSpan page pages frame p m
  pub counts : (state : TableState) → large_count state page pages frame ≡ absent state.words state.root 3 p m

-- the first slot that lies whole in the range, by its place among those that the range meets
pub slot_here : (page pages k : ℕ) → IsCanonicalRange page pages → page ≤ 512 * k → 512 * k + 512 ≤ page + pages →
    slot_of k * 512 ≡ page % 2 ^ 36 + (512 * k - page)
slot_here page pages k range lo hi =
    let e : page + (512 * k - page) ≡ 512 * k = omega arith in
    let h = page_in page pages (512 * k - page) range (omega arith) in
    let s : (512 * k) % 2 ^ 36 ≡ page % 2 ^ 36 + (512 * k - page) = ap (λ n. n % 2 ^ 36) (sym e) ∙ h in
    omega arith

-- the count of the slots that become large, once all that lie whole in the range were gone through
pub large_counted : (state : TableState) (page pages frame slot count : ℕ) → page % 512 ≡ frame % 512 → (page + 511) / 512 ≤ slot →
    ((page + 511) / 512 < (page + pages) / 512 → slot ≤ (page + pages) / 512) → (page + pages) / 512 ≤ slot →
    ((page + pages) / 512 ≤ (page + 511) / 512 → slot ≡ (page + 511) / 512) →
    count ≡ absent state.words state.root 3 (slot_of ((page + 511) / 512)) (slot - (page + 511) / 512) →
    count ≡ large_count state page pages frame
large_counted state page pages frame slot count aligned from to end still counted =
    let e : (page % 512 == frame % 512) ≡ true = grind (arith, nat_tests) in
    rw e (go (cases_lt ((page + 511) / 512) ((page + pages) / 512)))
  where
    go : ((page + 511) / 512 < (page + pages) / 512) ⊎ ((page + pages) / 512 ≤ (page + 511) / 512) →
        count ≡ absent state.words state.root 3 (slot_of ((page + 511) / 512)) ((page + pages) / 512 - (page + 511) / 512)
    go (inl lt) =
        let t = to lt in
        let s : slot - (page + 511) / 512 ≡ (page + pages) / 512 - (page + 511) / 512 = omega arith in
        counted ∙ ap (absent state.words state.root 3 (slot_of ((page + 511) / 512))) s
    go (inr le) =
        let s : slot - (page + 511) / 512 ≡ (page + pages) / 512 - (page + 511) / 512 = let k = still le in omega arith in
        counted ∙ ap (absent state.words state.root 3 (slot_of ((page + 511) / 512))) s

pub there_if : (o : Option Place) → IsSome o → is_none o ≡ false
there_if None h = absurd (cc)
there_if (Some x) h = refl

-- slots of the range in a row have prefixes in a row
slot_on : (page pages first slot : ℕ) → IsCanonicalRange page pages → page ≤ 512 * first → first ≤ slot → 512 * slot + 512 ≤ page + pages →
    slot_of slot ≡ slot_of first + (slot - first)
slot_on page pages first slot range lo on hi =
    let a = slot_here page pages first range lo (omega arith) in
    let b = slot_here page pages slot range (omega arith) hi in
    omega arith

-- a slot that has a table is not counted
pub count_skip : (words : List ℕ) (root page pages first slot : ℕ) → IsCanonicalRange page pages → page ≤ 512 * first →
    first ≤ slot → 512 * slot + 512 ≤ page + pages →
    is_none (reach words root 3 (slot_of slot)) ≡ false → absent words root 3 (slot_of first) (slot + 1 - first) ≡ absent
    words root 3 (slot_of first) (slot - first)
count_skip words root page pages first slot range lo on hi there =
    let e = slot_on page pages first slot range lo on hi in
    let d : slot + 1 - first ≡ slot - first + 1 = omega arith in
    let n : is_none (reach words root 3 (slot_of first + (slot - first))) ≡ false = sym (ap (λ k. is_none (reach words root 3 k)) e) ∙ there in
    let z : cond {A = ℕ} (is_none (reach words root 3 (slot_of first + (slot - first)))) 1 0 ≡ 0 = rw n refl in
    let b = absent_step words root 3 (slot_of first) (slot - first) in
    rw d (omega arith)

-- and of a run of slots that have none each is
pub count_run : (words : List ℕ) (root page pages first slot next : ℕ) → IsCanonicalRange page pages → page ≤ 512 * first → first ≤ slot → slot ≤ next →
    512 * next ≤ page + pages → ((n : ℕ) → slot ≤ n → n < next → reach words root 3 (slot_of n) ≡ None) →
    absent words root 3 (slot_of first) (next - first) ≡ absent words root 3 (slot_of first) (slot - first) + (next - slot)
count_run words root page pages first slot next range lo on more hi none =
    let d : next - first ≡ slot - first + (next - slot) = omega arith in
    rw d (absent_more words root 3 (slot_of first) (slot - first) (next - slot) (λ n from to. at n from to))
  where
    at : (n : ℕ) → slot_of first + (slot - first) ≤ n → n < slot_of first + (slot - first) + (next - slot) → reach words root 3 n ≡ None
    at n from to =
        let e = slot_on page pages first (first + (n - slot_of first)) range lo (omega arith) (omega arith) in
        let f : n ≡ slot_of (first + (n - slot_of first)) = omega arith in
        ap (reach words root 3) f ∙ none (first + (n - slot_of first)) (omega arith) (omega arith)

pub spanned : (page pages frame : ℕ) → IsCanonicalRange page pages → Spanned page pages frame
spanned page pages frame range = go (page % 512 == frame % 512) refl (cases_lt ((page + 511) / 512) ((page + pages) / 512))
  where
    some : 0 < pages
    some = range.some

    last : (page + pages - 1) % 2 ^ 36 ≡ page % 2 ^ 36 + (pages - 1)
    last = let e : page + (pages - 1) ≡ page + pages - 1 = let s = some in omega arith in ap (λ n. n % 2 ^ 36) (sym e)
        ∙ page_in page pages (pages - 1) range (let s = some in omega arith)

    empty : ((slot : ℕ) → page ≤ 512 * slot → 512 * slot + 512 ≤ page + pages → page % 512 ≡ frame % 512 → ⊥) → IsSpan page pages frame (prefix_of page 3) 0
    empty none = record {
      from = omega arith;
      to = let s = some in let l = last in omega arith;
      inside = λ slot lo hi aligned. absurd (none slot lo hi aligned);
      each = λ n lo hi. absurd (omega arith);
    }

    go : (b : Bool) → (page % 512 == frame % 512) ≡ b →
        ((page + 511) / 512 < (page + pages) / 512) ⊎ ((page + pages) / 512 ≤ (page + 511) / 512) → Spanned page pages frame
    go false e _ = record {
      p = prefix_of page 3;
      m = 0;
      is = empty (λ slot lo hi aligned. grind (arith, nat_tests));
      counts = λ state. rw e (sym (absent_none state.words state.root 3 (prefix_of page 3)));
    }
    go true e (inr none) = record {
      p = prefix_of page 3;
      m = 0;
      is = empty (λ slot lo hi aligned. omega arith);
      counts = λ state.
          let z : (page + pages) / 512 - (page + 511) / 512 ≡ 0 = omega arith in
          rw (e, z) (absent_none state.words state.root 3 (slot_of ((page + 511) / 512)) ∙ sym (absent_none state.words state.root 3 (prefix_of page 3)));
    }
    go true e (inl lt) =
        let al : page % 512 ≡ frame % 512 = grind (arith, nat_tests) in
        let f = slot_here page pages ((page + 511) / 512) range (omega arith) (omega arith) in
        let l = last in
        record {
          p = slot_of ((page + 511) / 512);
          m = (page + pages) / 512 - (page + 511) / 512;
          is = record {
            from = omega arith;
            to = omega arith;
            inside = λ slot lo hi aligned. let h = slot_here page pages slot range lo hi in (omega arith, omega arith);
            each = λ n lo hi.
                let i : page ≤ 512 * ((page + 511) / 512 + (n - slot_of ((page + 511) / 512))) = omega arith in
                let j : 512 * ((page + 511) / 512 + (n - slot_of ((page + 511) / 512))) + 512 ≤ page + pages = omega arith in
                let h = slot_here page pages ((page + 511) / 512 + (n - slot_of ((page + 511) / 512))) range i j in
                ((page + 511) / 512 + (n - slot_of ((page + 511) / 512)), omega arith, i, j, al);
          };
          counts = λ state. rw e refl;
        }

-- ---- what one page or one slot of the range misses, beside the slots that become large

module _ (words : List ℕ) (root page pages frame p m : ℕ) (range : IsCanonicalRange page pages) (span : IsSpan page pages frame p m) where
  end : (page + pages - 1) % 2 ^ 36 ≡ page % 2 ^ 36 + (pages - 1)
  end =
      let s : 0 < pages = range.some in
      let e : page + (pages - 1) ≡ page + pages - 1 = omega arith in
      ap (λ n. n % 2 ^ 36) (sym e) ∙ page_in page pages (pages - 1) range (omega arith)

  -- a page's prefix is one of the range
  mine : (k l : ℕ) → k < pages → l < 4 → (prefix_of page l ≤ prefix_of (page + k) l) × (prefix_of (page + k) l ≤ prefix_of (page + pages - 1) l)
  mine k l lk lt =
      let h = page_in page pages k range lk in
      let e = end in
      (prefix_le page (page + k) l (omega arith) lt, prefix_le (page + k) (page + pages - 1) l (omega arith) lt)

  one_less : (k l : ℕ) → k < pages → l < 4 → missing_at words root (page + k) l ≤ absent_for words root page (page + pages - 1) l
  one_less k l lk lt =
      let h = mine k l lk lt in
      let lo = h.0 in
      let hi = h.1 in
      let w = within words root l (prefix_of page l) (prefix_of (page + pages - 1) l + 1 - prefix_of page l) (prefix_of (page + k) l) 1 lo (omega arith) in
      let o = one_absent words root l (prefix_of (page + k) l) in
      omega arith

  row : (absent words root 3 p m ≤ absent_for words root page (page + pages - 1) 3)
  row =
      let f = span.from in
      let t = span.to in
      within words root 3 (prefix_of page 3) (prefix_of (page + pages - 1) 3 + 1 - prefix_of page 3) p m f (omega arith)

  pub row_less : absent words root 3 p m ≤ missing_of words root page pages
  row_less =
      let x = by_level words root page pages range.some in
      let r = row in
      omega arith

  pub room_above : (k : ℕ) → k < pages → missing_at words root (page + k) 1 + missing_at words root (page + k) 2 + absent
      words root 3 p m ≤ missing_of words root page pages
  room_above k lk =
      let x = by_level words root page pages range.some in
      let a = one_less k 1 lk (omega arith) in
      let b = one_less k 2 lk (omega arith) in
      let r = row in
      omega arith

  pub room_page : (k : ℕ) → k < pages → (p ≤ prefix_of (page + k) 3 → prefix_of (page + k) 3 < p + m →
      is_none (reach words root 3 (prefix_of (page + k) 3)) ≡ false) →
      missing_of words root (page + k) 1 + absent words root 3 p m ≤ missing_of words root page pages
  room_page k lk there = go (cases_Bool (is_none (reach words root 3 (prefix_of (page + k) 3))))
    where
      go : (is_none (reach words root 3 (prefix_of (page + k) 3)) ≡ true) ⊎ (is_none (reach words root 3 (prefix_of (page + k) 3)) ≡ false) →
          missing_of words root (page + k) 1 + absent words root 3 p m ≤ missing_of words root page pages
      go (inr has) =
          let o = missing_one words root (page + k) in
          let z : missing_at words root (page + k) 3 ≡ 0 = rw has refl in
          let r = room_above k lk in
          omega arith
      go (inl lacks) =
          let h = mine k 3 lk (omega arith) in
          let lo = h.0 in
          let hi = h.1 in
          let f = span.from in
          let t = span.to in
          let b = beside words root 3 (prefix_of page 3) (prefix_of (page + pages - 1) 3 + 1 - prefix_of page 3) p m
          (prefix_of (page + k) 3) f (omega arith) lo (omega arith)
          (λ from to. let n = there from to in let c : true ≡ false = sym lacks ∙ n in absurd (cc)) in
          let e = one_absent words root 3 (prefix_of (page + k) 3) in
          let o = missing_one words root (page + k) in
          let x = by_level words root page pages range.some in
          let i = one_less k 1 lk (omega arith) in
          let j = one_less k 2 lk (omega arith) in
          omega arith

  -- each prefix of the range is that of a page
  of_page : (n l : ℕ) → 0 < l → l < 4 → prefix_of page l ≤ n → n ≤ prefix_of (page + pages - 1) l → (k : ℕ) × (k < pages) × (n ≡ prefix_of (page + k) l)
  of_page n l pos lt lo hi = go pages refl range (cases_eq (prefix_of page l) n)
    where
      go : (c : ℕ) → pages ≡ c → IsCanonicalRange page c → (prefix_of page l ≡ n) ⊎ (prefix_of page l ≡ n → ⊥) →
          (k : ℕ) × (k < pages) × (n ≡ prefix_of (page + k) l)
      go zero e r _ = absurd (let s : 0 < pages = range.some in omega arith)
      go (suc more) e r (inl x) =
          let z : page ≡ page + 0 = omega arith in
          (0, omega arith, sym x ∙ ap (λ q. prefix_of q l) z)
      go (suc more) e r (inr ne) =
          let z : page + pages - 1 ≡ page + more = omega arith in
          let h : n ≤ prefix_of (page + more) l = rw z at hi in
          let q = page_at page more l n r pos lt ne lo h in
          (q.0, omega (arith, q.1.0), q.1.1)

  -- once all pages are mapped, none is missing but those of the slots that are large
  pub missing_after : ((k l : ℕ) → k < pages → 0 < l → l < 4 → (l ≡ 3 → p ≤ prefix_of (page + k) 3 → prefix_of (page + k) 3 < p + m → ⊥) →
      is_none (reach words root l (prefix_of (page + k) l)) ≡ false) → missing_of words root page pages ≡ absent words root 3 p m
  missing_after there =
      let x = by_level words root page pages range.some in
      let a = all_there words root 1 (prefix_of (page + pages - 1) 1 + 1 - prefix_of page 1) (prefix_of page 1)
      (λ n lo hi. at 1 n (omega arith) (omega arith) lo (omega arith) (λ e. absurd (omega arith))) in
      let b = all_there words root 2 (prefix_of (page + pages - 1) 2 + 1 - prefix_of page 2) (prefix_of page 2)
      (λ n lo hi. at 2 n (omega arith) (omega arith) lo (omega arith) (λ e. absurd (omega arith))) in
      let f = span.from in
      let t = span.to in
      let c = parts words root 3 (prefix_of page 3) (prefix_of (page + pages - 1) 3 + 1 - prefix_of page 3) p m f (omega arith) in
      let d = all_there words root 3 (p - prefix_of page 3) (prefix_of page 3)
      (λ n lo hi. at 3 n (omega arith) (omega arith) lo (omega arith) (λ _ from to. omega arith)) in
      let e = all_there words root 3 (prefix_of page 3 + (prefix_of (page + pages - 1) 3 + 1 - prefix_of page 3) - (p + m)) (p + m)
      (λ n lo hi. at 3 n (omega arith) (omega arith) (omega arith) (omega arith) (λ _ from to. omega arith)) in
      omega arith
    where
      at : (l n : ℕ) → 0 < l → l < 4 → prefix_of page l ≤ n → n ≤ prefix_of (page + pages - 1) l →
          (l ≡ 3 → p ≤ n → n < p + m → ⊥) → is_none (reach words root l n) ≡ false
      at l n pos lt lo hi out =
          let q = of_page n l pos lt lo hi in
          ap (λ z. is_none (reach words root l z)) q.2
          ∙ there q.0 l q.1 pos lt
          (λ three from to.
          let e : n ≡ prefix_of (page + q.0) 3 = q.2 ∙ ap (λ c. prefix_of (page + q.0) c) three in
          out three (omega (arith, from, e)) (omega (arith, to, e)))
