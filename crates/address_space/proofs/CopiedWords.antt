-- The words of memory if pages get the rights and the bytes of others.
use Rattle.std.proofs.Common.{◌≡◌, ◌∙◌, ap, sym, refl, ℕ, ◌+◌, ◌*◌, ◌<◌, ◌≤◌, ◌&&◌, not, Bool, true, false, Option, Some, None, List, arith, ◌⊎◌, inl, inr}
use Rattle.std.proofs.lemmas.Bool.{cases_lt}
use Rattle.std.proofs.lemmas.Bool.Decides.{nat_tests}
use Rattle.std.specs.Prelude.{nat_lt, IsTrue, IfSome}
use Rattle.paging_core.specs.Address.{IsCanonicalRange, is_canonical}
use Rattle.paging_core.specs.Entry.{page_entry}
use Rattle.paging_core.specs.Memory.{word_at, IsFrameCopied}
use Rattle.paging_core.specs.PageChanges.{ArePagesChanged, regrant, among, only}
use Rattle.paging_core.specs.Prefix.{prefix_of}
use Rattle.paging_core.specs.Tree.{IsTree}
use Rattle.paging_core.specs.Walk.{Place, reach, walk_of, place_with, top}
use Rattle.paging_core.specs.PageBits.{bits_at}
use Rattle.paging_core.specs.declared.page_table.PageBits.{PageBits}
use Rattle.paging_core.proofs.Prefixes.{walk_reach}
use Rattle.paging_core.proofs.Ranges.{same_number}
use Rattle.address_space.specs.PageCopies.{ArePagesCopied}
use Rattle.address_space.proofs.Mapped.{canonical_in}

-- no table is at the frame of a page
pub no_table : (words : List ℕ) (root : ℕ) (free : List Bool) (l n m f : ℕ) (place : Place) → IsTree words root free →
    l < 4 → reach words root l n ≡ Some (top f) → reach words root 4 m ≡ Some place → place.frame ≡ f → ⊥
no_table words root free l n m f place tree less table at same =
    let d = tree.distinct l n 4 m (top f) place (omega (arith, less)) (omega arith) table at (sym same) in
    let four = d.0 in
    omega (arith, four, less)

-- a table is met at one prefix
pub one_table : (words : List ℕ) (root : ℕ) (free : List Bool) (l n k m f : ℕ) → IsTree words root free → l < 4 → k < 4 →
    reach words root l n ≡ Some (top f) → reach words root k m ≡ Some (top f) → (l ≡ k) × (n ≡ m)
one_table words root free l n k m f tree less few table at = tree.distinct l n k m (top f) (top f) (omega (arith, less))
    (omega (arith, few)) table at refl

-- two pages have two frames
pub page_apart : (words : List ℕ) (root : ℕ) (free : List Bool) (a b : ℕ) (p q : Place) → IsTree words root free →
    IsTrue (is_canonical (a * 4096)) → IsTrue (is_canonical (b * 4096)) → (a ≡ b → ⊥) →
    walk_of words root a ≡ Some p → walk_of words root b ≡ Some q → p.frame ≡ q.frame → ⊥
page_apart words root free a b p q tree ca cb apart at_a at_b same =
    let d = tree.distinct 4 (prefix_of a 4) 4 (prefix_of b 4) p q (omega arith) (omega arith)
    (sym (walk_reach words root a) ∙ at_a) (sym (walk_reach words root b) ∙ at_b) same in
    let number = d.1 in
    apart (same_number a b ca cb (omega (arith, number)))

-- ---- one page

from_some : Option Place → Place → Place
from_some None other = other
from_some (Some place) other = place

-- a page leads to one place
pub same_place : (o : Option Place) (a b : Place) → o ≡ Some a → o ≡ Some b → a ≡ b
unfolding from_some
same_place o a b h k = ap (λ (p : Option Place). from_some p a) (sym h ∙ k)

frames_of : (old one : List ℕ) (o p : Option Place) (s t : Place) → o ≡ Some s → p ≡ Some t →
    IfSome o (λ source. IfSome p (λ target. IsFrameCopied old one source.frame target.frame)) →
    IsFrameCopied old one s.frame t.frame
frames_of old one o p s t a b h = rw b at (rw a at h)

only_in : (page n : ℕ) → among page 1 n ≡ true → only page n ≡ true
only_in page n h = grind (arith, nat_tests, h)

not_only : (page n : ℕ) → among page 1 n ≡ false → only page n ≡ false
not_only page n h = grind (arith, nat_tests, h)

entry_is : (q p : Place) (rights : PageBits) → Some (place_with q.frame rights) ≡ Some p → page_entry q.frame rights ≡ page_entry p.frame (bits_at p)
unfolding from_some
entry_is q p rights h = ap (λ (o : Option Place). page_entry (from_some o p).frame (bits_at (from_some o p))) h

module _ (old one new : List ℕ) (root source target : ℕ) (rights : PageBits) (free : List Bool)
    (tree : IsTree one root free)
    (walks : (level number : ℕ) → level ≤ 4 → reach one root level number ≡ reach old root level number)
    (copy : IfSome (walk_of old root source) (λ s. IfSome (walk_of old root target) (λ t. IsFrameCopied old one s.frame t.frame)))
    (s : Place)
    (at_s : walk_of old root source ≡ Some s)
    (t : Place)
    (at_t : walk_of old root target ≡ Some t)
    (changed : ArePagesChanged one new root (regrant rights) (only target)) where
  copied : IsFrameCopied old one s.frame t.frame
  copied = frames_of old one (walk_of old root source) (walk_of old root target) s t at_s at_t copy

  met : reach one root 4 (prefix_of target 4) ≡ Some t
  met = walks 4 (prefix_of target 4) (omega arith) ∙ (sym (walk_reach old root target) ∙ at_t)

  pub one_words : (k i : ℕ) (s' t' : Place) → k < 1 → i < 512 → walk_of old root (source + k) ≡ Some s' →
      walk_of old root (target + k) ≡ Some t' → word_at new t'.frame i ≡ word_at old s'.frame i
  one_words k i s' t' less small at at' =
      let from : source ≡ source + k = omega (arith, less) in
      let to : target ≡ target + k = omega (arith, less) in
      let is_s : s ≡ s' = same_place (walk_of old root source) s s' at_s (ap (walk_of old root) from ∙ at) in
      let is_t : t ≡ t' = same_place (walk_of old root target) t t' at_t (ap (walk_of old root) to ∙ at') in
      ap (λ (p : Place). word_at new p.frame i) (sym is_t)
      ∙ (changed.words t.frame i small (λ n table. absurd (no_table one root free 3 n (prefix_of target 4) t.frame t tree (omega arith) table met refl))
      ∙ (copied.copied i small ∙ ap (λ (p : Place). word_at old p.frame i) is_s))

  pub one_entries : (n i f : ℕ) (place : Place) → i < 512 → among target 1 (512 * n + i) ≡ true →
      reach old root 3 n ≡ Some (top f) → reach new root 4 (512 * n + i) ≡ Some place →
      word_at new f i ≡ page_entry place.frame (bits_at place)
  one_entries n i f place small g table at =
      let here = only_in target (512 * n + i) g in
      let q = changed.mapped (512 * n + i) here in
      changed.entries n i f q.0 small here (walks 3 n (omega arith) ∙ table) q.1
      ∙ entry_is q.0 place rights (sym (changed.changed (512 * n + i) q.0 here q.1) ∙ at)

  pub one_others : (f i : ℕ) → i < 512 → ((k : ℕ) (target' : Place) → k < 1 → walk_of old root (target + k) ≡ Some target' → target'.frame ≡ f → ⊥) →
      ((n : ℕ) → reach old root 3 n ≡ Some (top f) → among target 1 (512 * n + i) ≡ false) → word_at new f i ≡ word_at old f i
  one_others f i small away apart =
      let first : target + 0 ≡ target = omega arith in
      changed.words f i small (λ n table. not_only target (512 * n + i) (apart n (sym (walks 3 n (omega arith)) ∙ table)))
      ∙ copied.others f i small (λ same. away 0 t (omega arith) (ap (walk_of old root) first ∙ at_t) (sym same))

-- ---- numbers of a run from `a` on, and that which follows

run_after : (a p b n : ℕ) → b ≡ a + p → (not (nat_lt n a) && nat_lt n (a + p)) ≡ true → (not (nat_lt n b) && nat_lt n (b + 1)) ≡ false
run_after a p b n is h =
    let high : n < a + p = grind (arith, nat_tests, h) in
    let less : nat_lt n b ≡ true = grind (arith, nat_tests, high, is) in
    ap (λ (x : Bool). not x && nat_lt n (b + 1)) less

run_either : (a p b n : ℕ) → b ≡ a + p → (not (nat_lt n a) && nat_lt n (a + (p + 1))) ≡ true →
    (not (nat_lt n a) && nat_lt n (a + p)) ≡ false → (not (nat_lt n b) && nat_lt n (b + 1)) ≡ true
run_either a p b n is h k =
    let low : a ≤ n = grind (arith, nat_tests, h) in
    let high : n < a + (p + 1) = grind (arith, nat_tests, h) in
    let past : a + p ≤ n = grind (arith, nat_tests, k, low) in
    let above : nat_lt n b ≡ false = grind (arith, nat_tests, past, is) in
    let below : nat_lt n (b + 1) ≡ true = grind (arith, nat_tests, high, is) in
    ap (λ (x : Bool). not x && nat_lt n (b + 1)) above ∙ below

run_neither : (a p b n : ℕ) → b ≡ a + p → (not (nat_lt n a) && nat_lt n (a + (p + 1))) ≡ false →
    ((not (nat_lt n a) && nat_lt n (a + p)) ≡ false) × ((not (nat_lt n b) && nat_lt n (b + 1)) ≡ false)
run_neither a p b n is h = go (nat_lt n a) refl where
  go : (u : Bool) → nat_lt n a ≡ u → ((not (nat_lt n a) && nat_lt n (a + p)) ≡ false) × ((not (nat_lt n b) && nat_lt n (b + 1)) ≡ false)
  go true u =
      let less : n < a = grind (arith, nat_tests, u) in
      let below : nat_lt n b ≡ true = grind (arith, nat_tests, less, is) in
      (ap (λ (x : Bool). not x && nat_lt n (a + p)) u, ap (λ (x : Bool). not x && nat_lt n (b + 1)) below)
  go false u =
      let far : nat_lt n (a + (p + 1)) ≡ false = sym (ap (λ (x : Bool). not x && nat_lt n (a + (p + 1))) u) ∙ h in
      let past : a + (p + 1) ≤ n = grind (arith, nat_tests, far) in
      let out : nat_lt n (a + p) ≡ false = grind (arith, nat_tests, past) in
      let above : nat_lt n b ≡ false = grind (arith, nat_tests, past, is) in
      let over : nat_lt n (b + 1) ≡ false = grind (arith, nat_tests, past, is) in
      (ap (λ (x : Bool). not x && nat_lt n (a + p)) u ∙ out, ap (λ (x : Bool). not x && nat_lt n (b + 1)) above ∙ over)

-- a number of a run
pub run_has : (a p n k : ℕ) → n ≡ a + k → k < p → (not (nat_lt n a) && nat_lt n (a + p)) ≡ true
run_has a p n k is less =
    let from : nat_lt n a ≡ false = grind (arith, nat_tests, is) in
    let to : nat_lt n (a + p) ≡ true = grind (arith, nat_tests, is, less) in
    ap (λ (x : Bool). not x && nat_lt n (a + p)) from ∙ to

-- ---- page after page

module _ (old one new : List ℕ) (root from pages to source target : ℕ) (free : List Bool)
    (was : IsTree old root free)
    (range : IsCanonicalRange to (pages + 1))
    (canonical_source : IsTrue (is_canonical ((from + pages) * 4096)))
    (apart : (k : ℕ) → k < pages → from + pages ≡ to + k → ⊥)
    (s : source ≡ from + pages)
    (t : target ≡ to + pages)
    (c : ArePagesCopied old one root from pages to)
    (d : ArePagesCopied one new root source 1 target) where
  tree : IsTree one root free
  tree = c.tree free was

  canonical_to : (k : ℕ) → k ≤ pages → IsTrue (is_canonical ((to + k) * 4096))
  canonical_to k le = canonical_in to (pages + 1) (to + k) range (omega arith) (omega (arith, le))

  next : prefix_of target 4 ≡ prefix_of to 4 + pages
  next = (let one = range.one_half in omega (arith, one, t))

  tables : (n f : ℕ) → reach old root 3 n ≡ Some (top f) → reach one root 3 n ≡ Some (top f)
  tables n f at = c.tables 3 n (omega arith) ∙ at

  last_walk : walk_of one root (to + pages) ≡ walk_of old root (to + pages)
  last_walk = c.elsewhere (to + pages) (canonical_to pages (omega arith)) (λ k less is. omega (arith, less, is))

  here : (j : ℕ) → j < 1 → to + pages ≡ target + j
  here j few = omega (arith, few, t)

  pub more_words : (k i : ℕ) (source' target' : Place) → k < pages + 1 → i < 512 →
      walk_of old root (from + k) ≡ Some source' → walk_of old root (to + k) ≡ Some target' →
      word_at new target'.frame i ≡ word_at old source'.frame i
  more_words k i p q less small at_p at_q = go (cases_lt k pages) where
    go : (k < pages) ⊎ (pages ≤ k) → word_at new q.frame i ≡ word_at old p.frame i
    go (inl h) =
        let now = c.frames (prefix_of (to + k) 4) q (sym (walk_reach old root (to + k)) ∙ at_q) in
        let found : walk_of one root (to + k) ≡ Some now.0 = walk_reach one root (to + k) ∙ now.1 in
        d.others q.frame i small
        (λ j r few at same. page_apart one root free (to + k) (to + pages) now.0 r tree (canonical_to k (omega (arith, h)))
        (canonical_to pages (omega arith)) (λ is. omega (arith, h, is)) found
        (ap (walk_of one root) (here j few) ∙ at) (now.2 ∙ sym same))
        (λ n table. absurd (no_table one root free 3 n (prefix_of (to + k) 4) q.frame now.0 tree (omega arith) table now.1 now.2))
        ∙ c.words k i p q h small at_p at_q
    go (inr h) =
        let first : source + 0 ≡ from + pages = omega (arith, s) in
        let from_is : from + pages ≡ from + k = omega (arith, h, less) in
        let to_is : to + pages ≡ to + k = omega (arith, h, less) in
        let found_p : walk_of one root (source + 0) ≡ Some p =
        ap (walk_of one root) first ∙ (c.elsewhere (from + pages) canonical_source (λ j few is. apart j few is) ∙ (ap (walk_of old root) from_is ∙ at_p)) in
        let found_q : walk_of one root (target + 0) ≡ Some q = ap (walk_of one root) (sym (here 0 (omega arith)))
        ∙ (last_walk ∙ (ap (walk_of old root) to_is ∙ at_q)) in
        d.words 0 i p q (omega arith) small found_p found_q
        ∙ c.others p.frame i small
        (λ j r few at same. page_apart old root free (from + pages) (to + j) p r was canonical_source
        (canonical_to j (omega (arith, few))) (λ is. apart j few is) (ap (walk_of old root) from_is ∙ at_p) at
        (sym same))
        (λ n table. absurd (no_table old root free 3 n (prefix_of (from + k) 4) p.frame p was (omega arith) table
        (sym (walk_reach old root (from + k)) ∙ at_p) refl))

  after : (n : ℕ) → among to pages n ≡ true → among target 1 n ≡ false
  after n h = run_after (prefix_of to 4) pages (prefix_of target 4) n next h

  either : (n : ℕ) → among to (pages + 1) n ≡ true → among to pages n ≡ false → among target 1 n ≡ true
  either n h k = run_either (prefix_of to 4) pages (prefix_of target 4) n next h k

  neither : (n : ℕ) → among to (pages + 1) n ≡ false → (among to pages n ≡ false) × (among target 1 n ≡ false)
  neither n h = run_neither (prefix_of to 4) pages (prefix_of target 4) n next h

  pub more_entries : (n i f : ℕ) (place : Place) → i < 512 → among to (pages + 1) (512 * n + i) ≡ true →
      reach old root 3 n ≡ Some (top f) → reach new root 4 (512 * n + i) ≡ Some place →
      word_at new f i ≡ page_entry place.frame (bits_at place)
  more_entries n i f place small g table at = go (among to pages (512 * n + i)) refl where
    go : (b : Bool) → among to pages (512 * n + i) ≡ b → word_at new f i ≡ page_entry place.frame (bits_at place)
    go true h =
        let out = after (512 * n + i) h in
        d.others f i small
        (λ j r few found same. no_table one root free 3 n (prefix_of (target + j) 4) f r tree (omega arith)
        (tables n f table) (sym (walk_reach one root (target + j)) ∙ found) same)
        (λ m other. (let is = (one_table one root free 3 m 3 n f tree (omega arith) (omega arith) other
        (tables n f table)).1 in ap (λ (x : ℕ). among target 1 (512 * x + i)) is ∙ out))
        ∙ c.entries n i f place small h table (sym (d.outside (512 * n + i) out) ∙ at)
    go false h = d.entries n i f place small (either (512 * n + i) g h) (tables n f table) at

  pub more_others : (f i : ℕ) → i < 512 → ((k : ℕ) (target' : Place) → k < pages + 1 → walk_of old root (to + k) ≡ Some target' → target'.frame ≡ f → ⊥) →
      ((n : ℕ) → reach old root 3 n ≡ Some (top f) → among to (pages + 1) (512 * n + i) ≡ false) → word_at new f i ≡ word_at old f i
  more_others f i small away apart_from =
      d.others f i small
      (λ j r few at same. away pages r (omega arith) (sym last_walk ∙ (ap (walk_of one root) (here j few) ∙ at)) same)
      (λ n table. (neither (512 * n + i) (apart_from n (sym (c.tables 3 n (omega arith)) ∙ table))).1)
      ∙ c.others f i small (λ j r few at same. away j r (omega (arith, few)) at same) (λ n table. (neither (512 * n + i) (apart_from n table)).0)
