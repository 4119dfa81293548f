-- How many pages of a range are mapped.
use Rattle.std.proofs.Common.{◌≡◌, ◌∙◌, ap, sym, refl, ℕ, zero, suc, ◌+◌, ◌<◌, ◌≤◌, cond, Option, Some, None, arith}
use Rattle.std.specs.Prelude.{IsSome, is_some}
use Rattle.paging_core.specs.declared.page_table.Rights.{Rights}
use Rattle.address_space.specs.PageMap.{mapped_count}

abbrev one_if : Option Rights → ℕ
one_if o = cond (is_some o) 1 0

pub count_zero : (r : ℕ → Option Rights) (first : ℕ) → mapped_count r first 0 ≡ 0
unfolding mapped_count
count_zero r first = refl

pub count_suc : (r : ℕ → Option Rights) (first pages : ℕ) → mapped_count r first (suc pages) ≡ one_if (r first) + mapped_count r (first + 1) pages
unfolding mapped_count
count_suc r first pages = refl

pub count_split : (r : ℕ → Option Rights) (first a b : ℕ) → mapped_count r first (a + b) ≡ mapped_count r first a + mapped_count r (first + a) b
count_split r first zero b =
    let one : mapped_count r first (0 + b) ≡ mapped_count r first b = ap (mapped_count r first) (omega arith) in
    let two : mapped_count r (first + 0) b ≡ mapped_count r first b = ap (λ (p : ℕ). mapped_count r p b) (omega arith) in
    let none = count_zero r first in
    omega (arith, one, two, none)
count_split r first (suc a) b =
    let one : mapped_count r first (suc a + b) ≡ mapped_count r first (suc (a + b)) = ap (mapped_count r first) (omega arith) in
    let two : mapped_count r (first + suc a) b ≡ mapped_count r (first + 1 + a) b = ap (λ (p : ℕ). mapped_count r p b) (omega arith) in
    let three = count_suc r first (a + b) in
    let four = count_suc r first a in
    let five = count_split r (first + 1) a b in
    omega (arith, one, two, three, four, five)

pub count_same : (r s : ℕ → Option Rights) (first pages : ℕ) → ((page : ℕ) → first ≤ page → page < first + pages →
    r page ≡ s page) → mapped_count r first pages ≡ mapped_count s first pages
count_same r s first zero same = count_zero r first ∙ sym (count_zero s first)
count_same r s first (suc pages) same =
    let here : one_if (r first) ≡ one_if (s first) = ap one_if (same first (omega arith) (omega arith)) in
    let one = count_suc r first pages in
    let two = count_suc s first pages in
    let rest = count_same r s (first + 1) pages (λ page h k. same page (omega (arith, h)) (omega (arith, k))) in
    omega (arith, here, one, two, rest)

one_of : (o : Option Rights) → IsSome o → one_if o ≡ 1
one_of None h = absurd (cc)
one_of (Some a) h = refl

none_of : (o : Option Rights) → o ≡ None → one_if o ≡ 0
none_of o h = rw h refl

pub count_full : (r : ℕ → Option Rights) (first pages : ℕ) → ((page : ℕ) → first ≤ page → page < first + pages →
    IsSome (r page)) → mapped_count r first pages ≡ pages
count_full r first zero all = count_zero r first
count_full r first (suc pages) all =
    let here = one_of (r first) (all first (omega arith) (omega arith)) in
    let one = count_suc r first pages in
    let rest = count_full r (first + 1) pages (λ page h k. all page (omega (arith, h)) (omega (arith, k))) in
    omega (arith, here, one, rest)

pub count_free : (r : ℕ → Option Rights) (first pages : ℕ) → ((page : ℕ) → first ≤ page → page < first + pages → r page ≡ None) → mapped_count r first pages ≡ 0
count_free r first zero free = count_zero r first
count_free r first (suc pages) free =
    let here = none_of (r first) (free first (omega arith) (omega arith)) in
    let one = count_suc r first pages in
    let rest = count_free r (first + 1) pages (λ page h k. free page (omega (arith, h)) (omega (arith, k))) in
    omega (arith, here, one, rest)
