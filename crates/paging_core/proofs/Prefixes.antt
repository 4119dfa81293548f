-- The prefixes of one page.
use Rattle.std.proofs.Common.{◌≡◌, ℕ, zero, suc, ◌+◌, ◌*◌, ◌/◌, ◌%◌, ◌^◌, ◌<◌, ◌≤◌, List, Some, None, refl, sym, ap, ◌∙◌, arith}
use Rattle.paging_core.specs.Prefix.{prefix_of}
use Rattle.paging_core.specs.Walk.{Place, step, large_step, reach, large_of, large_from, page_or, next_from, top, walk_of}
use Rattle.paging_core.proofs.Reach.{reach_suc, reach_zero, reach_last, reach_is, large_is, small_slot}

pub prefix_parent : (page level : ℕ) → level < 4 → prefix_of page (level + 1) / 512 ≡ prefix_of page level
prefix_parent page zero lt = omega arith
prefix_parent page (suc zero) lt = omega arith
prefix_parent page (suc (suc zero)) lt = omega arith
prefix_parent page (suc (suc (suc zero))) lt = omega arith
prefix_parent page (suc (suc (suc (suc n)))) lt = absurd (omega arith)

-- a prefix is the one before with one index more
pub prefix_more : (page level : ℕ) → level < 4 → 512 * prefix_of page level + prefix_of page (level + 1) % 512 ≡ prefix_of page (level + 1)
prefix_more page level lt = omega (arith, prefix_parent page level lt)

-- the parent and the last index of a page's prefix
pub prefix_split : (page level n i : ℕ) → level < 4 → i < 512 → 512 * n + i ≡ prefix_of page (level + 1) →
    (n ≡ prefix_of page level) × (i ≡ prefix_of page (level + 1) % 512)
prefix_split page level n i lt li e = let p = prefix_parent page level lt in (omega arith, omega arith)

pub reach_prefix :
    (words : List ℕ) (root page level : ℕ) → level < 3 →
    reach words root (level + 1) (prefix_of page (level + 1)) ≡ next_from words level
    (reach words root level (prefix_of page level)) (prefix_of page (level + 1) % 512)
reach_prefix words root page level lt =
    let e : level + 1 ≡ suc level = omega arith in
    ap (λ k. reach words root k (prefix_of page (level + 1))) e
    ∙ (reach_suc words root level (prefix_of page (level + 1)) lt
    ∙ ap (λ n. next_from words level (reach words root level n) (prefix_of page (level + 1) % 512)) (prefix_parent page level (omega arith)))

-- the page, by an entry of the last table
pub reach_page : (words : List ℕ) (root page : ℕ) (at : Place) → reach words root 3 (prefix_of page 3) ≡ Some at →
    reach words root 4 (prefix_of page 4) ≡ step words 3 at (prefix_of page 4 % 512)
reach_page words root page at e = reach_last words root (prefix_of page 4) at (ap (reach words root 3) (prefix_parent page 3 (omega arith)) ∙ e)

-- a slot of which a page is not mapped has no large page
pub small_page : (words : List ℕ) (root page : ℕ) → reach words root 4 (prefix_of page 4) ≡ None → large_of words root (prefix_of page 3) ≡ None
small_page words root page none = ap (large_of words root) (sym (prefix_parent page 3 (omega arith))) ∙ small_slot words root (prefix_of page 4) none

pub reach_root : (words : List ℕ) (root page : ℕ) → reach words root 0 (prefix_of page 0) ≡ Some (top root)
reach_root words root page =
    let e : prefix_of page 0 ≡ 0 = omega arith in
    rw (reach_zero, e) refl

pub walk_reach : (words : List ℕ) (root page : ℕ) → walk_of words root page ≡ reach words root 4 (prefix_of page 4)
unfolding walk_of
walk_reach words root page = let e : page % 2 ^ 36 ≡ prefix_of page 4 = omega arith in ap (reach words root 4) e

pub none_more : (words : List ℕ) (root page level : ℕ) → level < 3 → reach words root level (prefix_of page level) ≡ None →
    reach words root (level + 1) (prefix_of page (level + 1)) ≡ None
none_more words root page level lt e = reach_prefix words root page level lt ∙ ap (λ o. next_from words level o (prefix_of page (level + 1) % 512)) e

-- a walk that stops at a table meets no table past it
pub none_below :
    (words : List ℕ) (root page level d : ℕ) → level + d ≤ 3 → reach words root level (prefix_of page level) ≡ None →
    reach words root (level + d) (prefix_of page (level + d)) ≡ None
none_below words root page level zero le e = let z : level + 0 ≡ level = omega arith in rw z e
none_below words root page level (suc d) le e =
    let z : level + suc d ≡ (level + d) + 1 = omega arith in
    rw z (none_more words root page (level + d) (omega arith) (none_below words root page level d (omega arith) e))

-- if no table is met, nothing is met past it
pub none_child : (words : List ℕ) (root level number index : ℕ) → level < 3 → index < 512 → reach words root level number ≡ None →
    reach words root (level + 1) (512 * number + index) ≡ None
none_child words root level number index low lt none =
    let e : level + 1 ≡ suc level = omega arith in
    let q : (512 * number + index) / 512 ≡ number = omega arith in
    rw (e, reach_suc words root level (512 * number + index) low, q, none) refl

-- the last steps of a walk, from a table of the third step
pub walk_split : (words : List ℕ) (root page : ℕ) (at : Place) (index last : ℕ) → reach words root 2 (prefix_of page 2) ≡ Some at →
    index ≡ prefix_of page 3 % 512 → last ≡ prefix_of page 4 % 512 →
    walk_of words root page ≡ page_or (large_step words at index) last (next_from words 3 (step words 2 at index) last)
walk_split words root page at index last met ix lx =
    let p : prefix_of page 4 / 512 ≡ prefix_of page 3 = prefix_parent page 3 (omega arith) in
    let q : prefix_of page 3 / 512 ≡ prefix_of page 2 = prefix_parent page 2 (omega arith) in
    let a : large_of words root (prefix_of page 3) ≡ large_step words at index =
    large_is words root (prefix_of page 3)
    ∙ (ap (λ n. large_from words (reach words root 2 n) (prefix_of page 3 % 512)) q
    ∙ (ap (λ o. large_from words o (prefix_of page 3 % 512)) met ∙ ap (large_step words at) (sym ix))) in
    let b : reach words root 3 (prefix_of page 3) ≡ step words 2 at index =
    reach_prefix words root page 2 (omega arith) ∙ (ap (λ o. next_from words 2 o (prefix_of page 3 % 512)) met ∙ ap (step words 2 at) (sym ix)) in
    walk_reach words root page ∙ (reach_is words root (prefix_of page 4) ∙ rw (p, a, b, lx) refl)

pub walk_stops : (words : List ℕ) (root page : ℕ) → reach words root 2 (prefix_of page 2) ≡ None → walk_of words root page ≡ None
walk_stops words root page none =
    let p : prefix_of page 4 / 512 ≡ prefix_of page 3 = prefix_parent page 3 (omega arith) in
    let q : prefix_of page 3 / 512 ≡ prefix_of page 2 = prefix_parent page 2 (omega arith) in
    let a : large_of words root (prefix_of page 3) ≡ None = large_is words root (prefix_of page 3) ∙ rw (q, none) refl in
    let b : reach words root 3 (prefix_of page 3) ≡ None = none_more words root page 2 (omega arith) none in
    walk_reach words root page ∙ (reach_is words root (prefix_of page 4) ∙ rw (p, a, b) refl)
