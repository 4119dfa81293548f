-- What a write to a table's entry does to the walk.
use Rattle.std.proofs.Common.{◌≡◌, ℕ, zero, suc, ◌+◌, ◌*◌, ◌/◌, ◌%◌, ◌<◌, ◌≤◌, Bool, true, false, not, ◌&&◌, cond, eqb, List, length, Option, Some, None, refl, sym, ap, ◌∙◌, ◌⊎◌, inl, inr, arith}
use Rattle.std.proofs.lemmas.Bool.{cases_eq}
use Rattle.std.proofs.lemmas.Bool.Decides.{nat_tests}
use Rattle.paging_core.specs.Entry.{has_bit, frame_of}
use Rattle.paging_core.specs.Memory.{word_at}
use Rattle.paging_core.specs.Walk.{Place, step, large_step, by_entries, large_of, large_from, page_or, page_in, reach, next_from, top, is_present, is_run, ends_walk, named}

-- ---- the definitions as equations

pub entries_zero : (words : List ℕ) (root prefix : ℕ) → by_entries words root 0 prefix ≡ cond (eqb prefix 0) (Some (top root)) None
unfolding by_entries
entries_zero words root prefix = refl

pub entries_suc :
    (words : List ℕ) (root level prefix : ℕ) →
    by_entries words root (suc level) prefix ≡ next_from words level (by_entries words root level (prefix / 512)) (prefix % 512)
unfolding by_entries
entries_suc words root level prefix = refl

-- up to level 3 each index is that of an entry
pub reach_low : (words : List ℕ) (root l n : ℕ) → l < 4 → reach words root l n ≡ by_entries words root l n
unfolding reach
reach_low words root zero n lt = refl
reach_low words root (suc zero) n lt = refl
reach_low words root (suc (suc zero)) n lt = refl
reach_low words root (suc (suc (suc zero))) n lt = refl
reach_low words root (suc (suc (suc (suc l)))) n lt = absurd (omega arith)

not_four : (l : ℕ) → (l ≡ 4 → ⊥) → eqb l 4 ≡ false
not_four l ne = grind (arith, nat_tests)

-- and so it is past level 4, where nothing is met
pub reach_entries : (words : List ℕ) (root l n : ℕ) → (l ≡ 4 → ⊥) → reach words root l n ≡ by_entries words root l n
unfolding reach
reach_entries words root l n ne = let e : eqb l 4 ≡ false = not_four l ne in rw e refl

reach_four : (words : List ℕ) (root n : ℕ) → reach words root 4 n ≡ page_or (large_of words root (n / 512)) (n % 512) (by_entries words root 4 n)
unfolding reach
reach_four words root n = refl

pub large_is : (words : List ℕ) (root n : ℕ) → large_of words root n ≡ large_from words (reach words root 2 (n / 512)) (n % 512)
unfolding large_of
large_is words root n = ap (λ o. large_from words o (n % 512)) (sym (reach_low words root 2 (n / 512) (omega arith)))

pub reach_zero : (words : List ℕ) (root prefix : ℕ) → reach words root 0 prefix ≡ cond (eqb prefix 0) (Some (top root)) None
reach_zero words root prefix = reach_low words root 0 prefix (omega arith) ∙ entries_zero words root prefix

pub reach_suc :
    (words : List ℕ) (root level prefix : ℕ) → level < 3 →
    reach words root (suc level) prefix ≡ next_from words level (reach words root level (prefix / 512)) (prefix % 512)
reach_suc words root level prefix lt =
    reach_low words root (suc level) prefix (omega arith)
    ∙ (entries_suc words root level prefix ∙ ap (λ o. next_from words level o (prefix % 512)) (sym (reach_low words root level (prefix / 512) (omega arith))))

-- an entry leads to a table or maps a large page, and not both
pub large_no_table : (words : List ℕ) (b large : Place) (i : ℕ) → large_step words b i ≡ Some large → step words 2 b i ≡ None
unfolding step large_step
large_no_table words b large i e = go (word_at words b.frame i) e
  where
    go : (w : ℕ) → cond (is_present words w && (has_bit w 7 && is_run words (frame_of w))) (Some (named b w)) None ≡ Some large →
        cond (is_present words w && not (ends_walk 2 w)) (Some (named b w)) None ≡ None
    go w e = bits (is_present words w) (has_bit w 7) (is_run words (frame_of w)) e
      where
        bits : (p h r : Bool) → cond (p && (h && r)) (Some (named b w)) None ≡ Some large → cond (p && not h) (Some (named b w)) None ≡ None
        bits false h r e = refl
        bits true true r e = refl
        bits true false r e = absurd (cc)

-- a slot with a large page has no table
pub large_none : (words : List ℕ) (root n : ℕ) (large : Place) → large_of words root n ≡ Some large → reach words root 3 n ≡ None
large_none words root n large e = reach_suc words root 2 n (omega arith) ∙ go (reach words root 2 (n / 512)) (sym (large_is words root n) ∙ e)
  where
    go : (o : Option Place) → large_from words o (n % 512) ≡ Some large → next_from words 2 o (n % 512) ≡ None
    go None x = absurd (cc)
    go (Some b) x = large_no_table words b large (n % 512) x

-- a slot with a table has no large page
pub table_none : (words : List ℕ) (root n : ℕ) (at : Place) → reach words root 3 n ≡ Some at → large_of words root n ≡ None
table_none words root n at e = go (large_of words root n) refl
  where
    go : (o : Option Place) → large_of words root n ≡ o → large_of words root n ≡ None
    go None x = x
    go (Some b) x = let z = large_none words root n b x in absurd (cc)

-- the page's frame, by an entry of the slot's table
pub reach_last : (words : List ℕ) (root n : ℕ) (at : Place) → reach words root 3 (n / 512) ≡ Some at → reach words root 4 n ≡ step words 3 at (n % 512)
reach_last words root n at e =
    let low : by_entries words root 3 (n / 512) ≡ Some at = sym (reach_low words root 3 (n / 512) (omega arith)) ∙ e in
    reach_four words root n
    ∙ (ap (λ o. page_or o (n % 512) (by_entries words root 4 n)) (table_none words root (n / 512) at e)
    ∙ (entries_suc words root 3 n ∙ ap (λ o. next_from words 3 o (n % 512)) low))

-- the page's frame, in the slot's large page
pub reach_in : (words : List ℕ) (root n : ℕ) (large : Place) → large_of words root (n / 512) ≡ Some large →
    reach words root 4 n ≡ Some (page_in (n % 512) large)
reach_in words root n large e = reach_four words root n ∙ ap (λ o. page_or o (n % 512) (by_entries words root 4 n)) e

-- no page is met in a slot with neither
pub reach_none : (words : List ℕ) (root n : ℕ) → reach words root 3 (n / 512) ≡ None → large_of words root (n / 512) ≡ None → reach words root 4 n ≡ None
reach_none words root n none small =
    let low : by_entries words root 3 (n / 512) ≡ None = sym (reach_low words root 3 (n / 512) (omega arith)) ∙ none in
    reach_four words root n
    ∙ (ap (λ o. page_or o (n % 512) (by_entries words root 4 n)) small
    ∙ (entries_suc words root 3 n ∙ ap (λ o. next_from words 3 o (n % 512)) low))

-- a slot of which no page is met has no large page
pub small_slot : (words : List ℕ) (root n : ℕ) → reach words root 4 n ≡ None → large_of words root (n / 512) ≡ None
small_slot words root n none = go (large_of words root (n / 512)) refl
  where
    go : (o : Option Place) → large_of words root (n / 512) ≡ o → large_of words root (n / 512) ≡ None
    go None x = x
    go (Some b) x = let z = reach_in words root n b x in absurd (cc)

-- level 4 as one equation
pub reach_is : (words : List ℕ) (root n : ℕ) →
    reach words root 4 n ≡ page_or (large_of words root (n / 512)) (n % 512) (next_from words 3 (reach words root 3 (n / 512)) (n % 512))
reach_is words root n =
    reach_four words root n
    ∙ ap (page_or (large_of words root (n / 512)) (n % 512))
    (entries_suc words root 3 n ∙ ap (λ o. next_from words 3 o (n % 512)) (sym (reach_low words root 3 (n / 512) (omega arith))))

-- what is met at level 4 is met in one of the two ways
pub record ByEntry (words : List ℕ) (root n : ℕ) (m : Place) : Type 0 where
  pub table : Place
  pub met : reach words root 3 (n / 512) ≡ Some table
  pub led : step words 3 table (n % 512) ≡ Some m

pub record InLarge (words : List ℕ) (root n : ℕ) (m : Place) : Type 0 where
  pub large : Place
  pub met : large_of words root (n / 512) ≡ Some large
  pub is : m ≡ page_in (n % 512) large

pub either_way : (words : List ℕ) (root n : ℕ) (m : Place) → reach words root 4 n ≡ Some m → ByEntry words root n m ⊎ InLarge words root n m
either_way words root n m e = go (large_of words root (n / 512)) refl (reach words root 3 (n / 512)) refl
  where
    go : (o : Option Place) → large_of words root (n / 512) ≡ o → (t : Option Place) → reach words root 3 (n / 512) ≡ t →
        ByEntry words root n m ⊎ InLarge words root n m
    go (Some b) x t y = let z = reach_in words root n b x in inr (record { large = b; met = x; is = cc })
    go None x (Some at) y = inl (record { table = at; met = y; led = sym (reach_last words root n at y) ∙ e })
    go None x None y = let z = reach_none words root n y x in absurd (cc)

-- ---- steps

pub step_same :
    (old new : List ℕ) (level : ℕ) (b : Place) (j : ℕ) → length new ≡ length old →
    word_at new b.frame j ≡ word_at old b.frame j → step new level b j ≡ step old level b j
unfolding step
step_same old new level b j e f = rw (f, e) refl

pub large_same :
    (old new : List ℕ) (b : Place) (j : ℕ) → length new ≡ length old →
    word_at new b.frame j ≡ word_at old b.frame j → large_step new b j ≡ large_step old b j
unfolding large_step
large_same old new b j e f = rw (f, e) refl

-- an entry of 0 leads nowhere
pub step_zero : (words : List ℕ) (level : ℕ) (b : Place) (j : ℕ) → word_at words b.frame j ≡ 0 → step words level b j ≡ None
unfolding step
step_zero words level b j e = rw e refl

pub large_zero : (words : List ℕ) (b : Place) (j : ℕ) → word_at words b.frame j ≡ 0 → large_step words b j ≡ None
unfolding large_step
large_zero words b j e = rw e refl

pub next_same :
    (old new : List ℕ) (level j : ℕ) (o : Option Place) → ((b : Place) → o ≡ Some b → step new level b j ≡ step old level b j) →
    next_from new level o j ≡ next_from old level o j
next_same old new level j None h = refl
next_same old new level j (Some b) h = h b refl

pub large_next_same :
    (old new : List ℕ) (j : ℕ) (o : Option Place) → ((b : Place) → o ≡ Some b → large_step new b j ≡ large_step old b j) →
    large_from new o j ≡ large_from old o j
large_next_same old new j None h = refl
large_next_same old new j (Some b) h = h b refl

-- ---- entries alone

-- the walk stays if each step from a table that is met stays
entries_same :
    (old new : List ℕ) (root : ℕ) →
    ((l n : ℕ) (b : Place) (j : ℕ) → l < 4 → by_entries old root l n ≡ Some b → j < 512 → step new l b j ≡ step old l b j) →
    (l n : ℕ) → l ≤ 4 → by_entries new root l n ≡ by_entries old root l n
entries_same old new root h zero n le = entries_zero new root n ∙ sym (entries_zero old root n)
entries_same old new root h (suc l) n le =
    let e : by_entries new root l (n / 512) ≡ by_entries old root l (n / 512) = entries_same old new root h l (n / 512) (omega arith) in
    rw (entries_suc new root l n, entries_suc old root l n, e)
    (next_same old new l (n % 512) (by_entries old root l (n / 512)) (λ b is. h l (n / 512) b (n % 512) (omega arith) is (omega arith)))

module _ (old new : List ℕ) (root L N i : ℕ) (at : Place)
    (index : i < 512)
    (here : by_entries old root L N ≡ Some at)
    (elsewhere : (l : ℕ) (b : Place) (j : ℕ) → j < 512 → (b.frame ≡ at.frame → j ≡ i → ⊥) → step new l b j ≡ step old l b j)
    (alone : (l n : ℕ) (b : Place) → l < 4 → by_entries old root l n ≡ Some b → b.frame ≡ at.frame → (l ≡ L) × (n ≡ N))
    (below : L < 3 → (j : ℕ) → j < 512 → next_from new (suc L) (step new L at i) j ≡ next_from old (suc L) (step old L at i) j) where
  -- what the entry leads to, at the old words
  was_there : by_entries old root (suc L) (512 * N + i) ≡ step old L at i
  was_there =
      let q : (512 * N + i) / 512 ≡ N = omega arith in
      let r : (512 * N + i) % 512 ≡ i = omega arith in
      rw (entries_suc, q, r, here) refl

  -- a step from where the walk is not changed
  apart :
      (l n : ℕ) → suc l ≤ 4 → (suc l ≡ suc L → n ≡ 512 * N + i → ⊥) →
      ((n : ℕ) → l ≤ 4 → (l ≡ suc L → n ≡ 512 * N + i → ⊥) → by_entries new root l n ≡ by_entries old root l n) →
      (l ≡ suc L → n / 512 ≡ 512 * N + i → ⊥) →
      next_from new l (by_entries new root l (n / 512)) (n % 512) ≡ next_from old l (by_entries old root l (n / 512)) (n % 512)
  apart l n le ne same away =
      let f : by_entries new root l (n / 512) ≡ by_entries old root l (n / 512) = same (n / 512) (omega arith) away in
      rw f (next_same old new l (n % 512) (by_entries old root l (n / 512))
      (λ b is. elsewhere l b (n % 512) (omega arith)
      (λ x y. let p : (l ≡ L) × (n / 512 ≡ N) = alone l (n / 512) b (omega arith) is x in ne (omega arith) (omega arith))))

  -- a step from where the walk of one index fewer arrives
  others :
      (l n : ℕ) → suc l ≤ 4 → (suc l ≡ suc L → n ≡ 512 * N + i → ⊥) →
      ((n : ℕ) → l ≤ 4 → (l ≡ suc L → n ≡ 512 * N + i → ⊥) → by_entries new root l n ≡ by_entries old root l n) →
      (l ≤ 4 → l ≡ suc L → by_entries new root l (512 * N + i) ≡ step new L at i) →
      (l ≡ suc L) ⊎ (l ≡ suc L → ⊥) → (n / 512 ≡ 512 * N + i) ⊎ (n / 512 ≡ 512 * N + i → ⊥) →
      next_from new l (by_entries new root l (n / 512)) (n % 512) ≡ next_from old l (by_entries old root l (n / 512)) (n % 512)
  others l n le ne same arrives (inl c) (inl d) =
      let f : by_entries new root l (n / 512) ≡ step new L at i = ap (by_entries new root l) d ∙ arrives (omega arith) c in
      let g : by_entries old root l (n / 512) ≡ step old L at i = ap (by_entries old root l) d
      ∙ (ap (λ k. by_entries old root k (512 * N + i)) c ∙ was_there) in
      rw (f, g, c) (below (omega arith) (n % 512) (omega arith))
  others l n le ne same arrives (inl c) (inr d) = apart l n le ne same (λ x y. d y)
  others l n le ne same arrives (inr c) _ = apart l n le ne same (λ x y. c x)

  both :
      (l : ℕ) →
      ((n : ℕ) → l ≤ 4 → (l ≡ suc L → n ≡ 512 * N + i → ⊥) → by_entries new root l n ≡ by_entries old root l n)
      × (l ≤ 4 → l ≡ suc L → by_entries new root l (512 * N + i) ≡ step new L at i)
  both zero = ((λ n le ne. entries_zero new root n ∙ sym (entries_zero old root n)), (λ le e. absurd (cc)))
  both (suc l) = (
    (λ n le ne. rw (entries_suc new root l n, entries_suc old root l n)
        (others l n le ne (both l).0 (both l).1 (cases_eq l (suc L)) (cases_eq (n / 512) (512 * N + i)))),
    (λ le e.
        let q : (512 * N + i) / 512 ≡ N = omega arith in
        let r : (512 * N + i) % 512 ≡ i = omega arith in
        let lL : l ≡ L = omega arith in
        let stays : by_entries new root l N ≡ by_entries old root l N = (both l).0 N (omega arith) (λ x _. absurd (omega arith)) in
        let arrives : by_entries new root l N ≡ Some at = stays ∙ (ap (λ k. by_entries old root k N) lL ∙ here) in
        rw (entries_suc, q, r, arrives, lL) refl),
  )

  -- the entry leads where its new word says
  entries_there : suc L ≤ 4 → by_entries new root (suc L) (512 * N + i) ≡ step new L at i
  entries_there le = (both (suc L)).1 le refl

  -- and every other place of the walk stays
  entries_others : (l n : ℕ) → l ≤ 4 → (l ≡ suc L → n ≡ 512 * N + i → ⊥) → by_entries new root l n ≡ by_entries old root l n
  entries_others l n le ne = (both l).0 n le ne

-- ---- the walk

-- the walk stays if the words of the tables that are met do
module _ (old new : List ℕ) (root : ℕ)
    (size : length new ≡ length old)
    (same : (l n : ℕ) (b : Place) (j : ℕ) → l < 4 → reach old root l n ≡ Some b → j < 512 → word_at new b.frame j ≡ word_at old b.frame j) where
  entries_stay : (l n : ℕ) → l ≤ 4 → by_entries new root l n ≡ by_entries old root l n
  entries_stay = entries_same old new root
      (λ l n b j lt is lj. step_same old new l b j size (same l n b j lt (reach_low old root l n lt ∙ is) lj))

  low_same : (l n : ℕ) → l < 4 → reach new root l n ≡ reach old root l n
  low_same l n lt = reach_low new root l n lt ∙ (entries_stay l n (omega arith) ∙ sym (reach_low old root l n lt))

  pub larges_same : (n : ℕ) → large_of new root n ≡ large_of old root n
  larges_same n =
      large_is new root n
      ∙ (ap (λ o. large_from new o (n % 512)) (low_same 2 (n / 512) (omega arith))
      ∙ (large_next_same old new (n % 512) (reach old root 2 (n / 512))
      (λ b is. large_same old new b (n % 512) size (same 2 (n / 512) b (n % 512) (omega arith) is (omega arith)))
      ∙ sym (large_is old root n)))

  pub reach_same : (l n : ℕ) → l ≤ 4 → reach new root l n ≡ reach old root l n
  reach_same l n le = go (cases_eq l 4)
    where
      go : (l ≡ 4) ⊎ (l ≡ 4 → ⊥) → reach new root l n ≡ reach old root l n
      go (inr ne) = low_same l n (omega arith)
      go (inl e) =
          let s = larges_same (n / 512) in
          let f = entries_stay 4 n (omega arith) in
          rw (e, reach_four new root n, reach_four old root n, s, f) refl

-- one entry of a table is written
module _ (old new : List ℕ) (root L N i : ℕ) (at : Place)
    (size : length new ≡ length old)
    (index : i < 512)
    (within : L ≤ 3)
    (here : reach old root L N ≡ Some at)
    (elsewhere : (f j : ℕ) → j < 512 → (f ≡ at.frame → j ≡ i → ⊥) → word_at new f j ≡ word_at old f j)
    (alone : (l n : ℕ) (b : Place) → l < 4 → reach old root l n ≡ Some b → b.frame ≡ at.frame → (l ≡ L) × (n ≡ N))
    (below : L < 3 → (j : ℕ) → j < 512 → next_from new (suc L) (step new L at i) j ≡ next_from old (suc L) (step old L at i) j)
    (below_large : L ≡ 1 → (j : ℕ) → j < 512 → large_from new (step new L at i) j ≡ large_from old (step old L at i) j)
    (large : L ≡ 2 → large_step new at i ≡ large_step old at i) where
  steps : (l : ℕ) (b : Place) (j : ℕ) → j < 512 → (b.frame ≡ at.frame → j ≡ i → ⊥) → step new l b j ≡ step old l b j
  steps l b j lj ne = step_same old new l b j size (elsewhere b.frame j lj ne)

  here_low : by_entries old root L N ≡ Some at
  here_low = sym (reach_low old root L N (omega arith)) ∙ here

  alone_low : (l n : ℕ) (b : Place) → l < 4 → by_entries old root l n ≡ Some b → b.frame ≡ at.frame → (l ≡ L) × (n ≡ N)
  alone_low l n b lt is = alone l n b lt (reach_low old root l n lt ∙ is)

  low_there : by_entries new root (suc L) (512 * N + i) ≡ step new L at i
  low_there = entries_there old new root L N i at index here_low steps alone_low below (omega arith)

  low_others : (l n : ℕ) → l ≤ 4 → (l ≡ suc L → n ≡ 512 * N + i → ⊥) → by_entries new root l n ≡ by_entries old root l n
  low_others = entries_others old new root L N i at index here_low steps alone_low below

  old_there : L < 3 → reach old root (suc L) (512 * N + i) ≡ step old L at i
  old_there lt =
      let q : (512 * N + i) / 512 ≡ N = omega arith in
      let r : (512 * N + i) % 512 ≡ i = omega arith in
      rw (reach_suc old root L (512 * N + i) lt, q, r, here) refl

  -- each large page stays
  pub larges_others : (n : ℕ) → large_of new root n ≡ large_of old root n
  larges_others n = large_is new root n ∙ (go (cases_eq 2 (suc L)) (cases_eq (n / 512) (512 * N + i)) ∙ sym (large_is old root n))
    where
      away : (2 ≡ suc L → n / 512 ≡ 512 * N + i → ⊥) → large_from new (reach new root 2 (n / 512)) (n % 512) ≡ large_from
          old (reach old root 2 (n / 512)) (n % 512)
      away ne =
          let e : reach new root 2 (n / 512) ≡ reach old root 2 (n / 512) =
          reach_low new root 2 (n / 512) (omega arith) ∙ (low_others 2 (n / 512) (omega arith) ne ∙ sym (reach_low old root 2 (n / 512) (omega arith))) in
          ap (λ o. large_from new o (n % 512)) e
          ∙ large_next_same old new (n % 512) (reach old root 2 (n / 512)) (λ b is. one b is (cases_eq b.frame at.frame) (cases_eq (n % 512) i))
        where
          one : (b : Place) → reach old root 2 (n / 512) ≡ Some b → (b.frame ≡ at.frame) ⊎ (b.frame ≡ at.frame → ⊥) → (n % 512 ≡ i) ⊎ (n % 512 ≡ i → ⊥) →
              large_step new b (n % 512) ≡ large_step old b (n % 512)
          one b is (inl x) (inl y) =
              let p : (2 ≡ L) × (n / 512 ≡ N) = alone 2 (n / 512) b (omega arith) is x in
              let q : Some b ≡ Some at = sym is ∙ (ap (λ l. reach old root l (n / 512)) p.0 ∙ (ap (reach old root L) p.1 ∙ here)) in
              let r : b ≡ at = cc in
              rw (r, y) (large (sym p.0))
          one b is (inr x) _ = large_same old new b (n % 512) size (elsewhere b.frame (n % 512) (omega arith) (λ e _. x e))
          one b is _ (inr y) = large_same old new b (n % 512) size (elsewhere b.frame (n % 512) (omega arith) (λ _ e. y e))

      go : (2 ≡ suc L) ⊎ (2 ≡ suc L → ⊥) → (n / 512 ≡ 512 * N + i) ⊎ (n / 512 ≡ 512 * N + i → ⊥) →
          large_from new (reach new root 2 (n / 512)) (n % 512) ≡ large_from old (reach old root 2 (n / 512)) (n % 512)
      go (inl x) (inl y) =
          let one : L ≡ 1 = omega arith in
          let f : reach new root 2 (n / 512) ≡ step new L at i =
          ap (λ l. reach new root l (n / 512)) x ∙ (ap (reach new root (suc L)) y ∙ (reach_low new root (suc L) (512 * N + i) (omega arith) ∙ low_there)) in
          let g : reach old root 2 (n / 512) ≡ step old L at i =
          ap (λ l. reach old root l (n / 512)) x ∙ (ap (reach old root (suc L)) y ∙ old_there (omega arith)) in
          rw (f, g) (below_large one (n % 512) (omega arith))
      go (inr x) _ = away (λ e _. x e)
      go _ (inr y) = away (λ _ e. y e)

  -- every other place of the walk stays
  pub reach_others : (l n : ℕ) → l ≤ 4 → (l ≡ suc L → n ≡ 512 * N + i → ⊥) → reach new root l n ≡ reach old root l n
  reach_others l n le ne = go (cases_eq l 4)
    where
      go : (l ≡ 4) ⊎ (l ≡ 4 → ⊥) → reach new root l n ≡ reach old root l n
      go (inr x) = reach_low new root l n (omega arith) ∙ (low_others l n le ne ∙ sym (reach_low old root l n (omega arith)))
      go (inl x) =
          let s = larges_others (n / 512) in
          let f : by_entries new root 4 n ≡ by_entries old root 4 n = low_others 4 n (omega arith) (λ e y. ne (x ∙ e) y) in
          rw (x, reach_four new root n, reach_four old root n, s, f) refl

  -- the entry leads where its new word says
  pub reach_there : reach new root (suc L) (512 * N + i) ≡ step new L at i
  reach_there = go (cases_eq L 3)
    where
      go : (L ≡ 3) ⊎ (L ≡ 3 → ⊥) → reach new root (suc L) (512 * N + i) ≡ step new L at i
      go (inr x) = reach_low new root (suc L) (512 * N + i) (omega arith) ∙ low_there
      go (inl x) =
          let q : (512 * N + i) / 512 ≡ N = omega arith in
          let r : (512 * N + i) % 512 ≡ i = omega arith in
          let now : reach new root 3 ((512 * N + i) / 512) ≡ Some at =
          ap (reach new root 3) q ∙ (reach_others 3 N (omega arith) (λ e. absurd (omega arith)) ∙ (ap (λ l. reach old root l N) (sym x) ∙ here)) in
          ap (λ l. reach new root (suc l) (512 * N + i)) x
          ∙ (reach_last new root (512 * N + i) at now ∙ (ap (step new 3 at) r ∙ ap (λ l. step new l at i) (sym x)))
