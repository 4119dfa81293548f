-- Pages leave, and their frames are given back.
use Rattle.std.proofs.Common.{◌≡◌, ℕ, ◌<◌, ◌≤◌, Bool, true, false, ◌||◌, List, length, Some, None, refl, sym, ap, subst, ◌∙◌, ◌⊎◌, inl, inr, arith, length-set}
use Rattle.std.proofs.lemmas.Bool.{cases_lt, cases_Bool}
use Rattle.std.proofs.lemmas.Bool.Decides.{nat_tests}
use Rattle.paging_core.specs.Memory.{frame_count}
use Rattle.paging_core.specs.Prefix.{prefix_of}
use Rattle.paging_core.specs.Pool.{is_frame_free, FreeBelow, IsOut, IsFrameGiven}
use Rattle.paging_core.specs.Walk.{Place, reach, walk_of}
use Rattle.paging_core.specs.Tree.{IsTree}
use Rattle.paging_core.specs.PageChanges.{removal, IsPageChanged, ArePagesFreed, only}
use Rattle.paging_core.proofs.Prefixes.{walk_reach}
use Rattle.paging_core.proofs.PageChanged.{removal_keeps, met_before, changed_tree, changed_more, none_changed, page_removed}
use Rattle.paging_core.proofs.Given.{given_here, given_other, out_of}
use Rattle.paging_core.proofs.Made.{reach_below}

-- a page that was removed is met no more
freed_none : (old new : List ℕ) (free free' : List Bool) (root : ℕ) (gone : ℕ → Bool) → ArePagesFreed old new free free' root gone →
    (n : ℕ) → gone n ≡ true → reach new root 4 n ≡ None
freed_none old new free free' root gone freed n g = let m = freed.removed.mapped n g in freed.removed.changed n m.0 g m.1

-- the frames of the pages are not met any more, so the rule holds for the flags too
pub freed_tree : (old new : List ℕ) (free free' : List Bool) (root : ℕ) (gone : ℕ → Bool) →
    ArePagesFreed old new free free' root gone → IsTree old root free → IsTree new root free'
freed_tree old new free free' root gone freed tree =
    let t = changed_tree old new root removal gone freed.removed removal_keeps free tree in
    record {
      rights = t.rights;
      distinct = t.distinct;
      plain = t.plain;
      inside = λ _ _ _ _ _. refl;
      used = λ l n b le is.
          let p = met_before old new root removal gone freed.removed removal_keeps l n b le is in
          freed.kept b.frame (λ m place g at e.
          let d = tree.distinct 4 m l n place p.0 (omega arith) le at p.1 (e ∙ sym p.2) in
          let u : reach new root 4 n ≡ None = freed_none old new free free' root gone freed n (rw d.1 at g) in
          let v : reach new root 4 n ≡ Some b = rw (← d.0) at is in
          absurd (cc))
          ∙ rw (← p.2) (tree.used l n p.0 le p.1);
    }

module _ (old mid new : List ℕ) (free free1 free' : List Bool) (root : ℕ) (a b c : ℕ → Bool)
    (tree : IsTree old root free)
    (one : ArePagesFreed old mid free free1 root a)
    (two : ArePagesFreed mid new free1 free' root b)
    (both : (n : ℕ) → c n ≡ (a n || b n))
    (apart : (n : ℕ) → a n ≡ true → b n ≡ false) where
  -- a page that leaves later was there before, and has the same place
  later : (n : ℕ) (p : Place) → b n ≡ true → reach mid root 4 n ≡ Some p → reach old root 4 n ≡ Some p
  later n p g at = go (cases_Bool (a n))
    where
      go : (a n ≡ true) ⊎ (a n ≡ false) → reach old root 4 n ≡ Some p
      go (inl x) = let h = apart n x in absurd (cc)
      go (inr x) = sym (one.removed.stayed 4 n (omega arith) (λ _. x)) ∙ at

  given_of : (n : ℕ) (place : Place) → c n ≡ true → reach old root 4 n ≡ Some place → (a n ≡ true) ⊎ (a n ≡ false) → is_frame_free free' place.frame ≡ true
  given_of n place g at (inl x) =
      two.kept place.frame (λ m p gm here e.
      let d = tree.distinct 4 m 4 n p place (omega arith) (omega arith) (later m p gm here) at e in
      let u : a m ≡ true = ap a d.1 ∙ x in
      let v = apart m u in
      absurd (cc))
      ∙ one.given n place x at
  given_of n place g at (inr x) =
      let gb : b n ≡ true = (let h : c n ≡ b n = both n ∙ ap (λ t. t || b n) x in sym h ∙ g) in
      two.given n place gb (one.removed.stayed 4 n (omega arith) (λ _. x) ∙ at)

  in_a : (n : ℕ) → a n ≡ true → c n ≡ true
  in_a n x = both n ∙ ap (λ t. t || b n) x

  in_b : (n : ℕ) → b n ≡ true → c n ≡ true
  in_b n x = go (cases_Bool (a n))
    where
      go : (a n ≡ true) ⊎ (a n ≡ false) → c n ≡ true
      go (inl y) = in_a n y
      go (inr y) = both n ∙ (ap (λ t. t || b n) y ∙ x)

  pub freed_more : ArePagesFreed old new free free' root c
  freed_more = record {
    removed = changed_more old mid new root removal a b c one.removed two.removed both free tree apart;
    flags = two.flags ∙ one.flags;
    given = λ n place g at. given_of n place g at (cases_Bool (a n));
    kept = λ f ne.
        two.kept f (λ n p g at e. ne n p (in_b n g) (later n p g at) e)
        ∙ one.kept f (λ n p g at e. ne n p (in_a n g) at e);
  }

-- one page, whose frame is given back
pub freed_one : (old new : List ℕ) (free free' : List Bool) (root page frame : ℕ) → root < frame_count old → IsTree old root free →
    (one : IsPageChanged old new root page removal) → one.place.frame ≡ frame → IsOut free frame → IsFrameGiven free free' frame →
    ArePagesFreed old new free free' root (only page)
freed_one old new free free' root page frame root_in tree one is out given =
    let was : reach old root 4 (prefix_of page 4) ≡ Some one.place = sym (walk_reach old root page) ∙ one.was in
    record {
      removed = page_removed old new root page free root_in one tree;
      flags = ap length given ∙ length-set free frame true;
      given = λ n place g at.
          let e : n ≡ prefix_of page 4 = grind (arith, nat_tests) in
          let q : Some place ≡ Some one.place = sym at ∙ (ap (reach old root 4) e ∙ was) in
          let r : place ≡ one.place = cc in
          let s : place.frame ≡ frame = ap (λ p. p.frame) r ∙ is in
          rw (s, given) (given_here free frame out);
      kept = λ f apart. rw given (given_other free frame f (λ e. apart (prefix_of page 4) one.place (grind (arith, nat_tests)) was (is ∙ sym e)));
    }

pub none_freed : (words : List ℕ) (free : List Bool) (root : ℕ) (gone : ℕ → Bool) → ((n : ℕ) → gone n ≡ false) → ArePagesFreed words words free free root gone
none_freed words free root gone none = record {
  removed = none_changed words root removal gone none;
  flags = refl;
  given = λ n place g at. let e = none n in absurd (cc);
  kept = λ f apart. refl;
}

-- a frame is free below the count still
pub freed_known : (old new : List ℕ) (free free' : List Bool) (root : ℕ) (gone : ℕ → Bool) → root < frame_count old →
    ArePagesFreed old new free free' root gone → FreeBelow free (frame_count old) → FreeBelow free' (frame_count new)
freed_known old new free free' root gone root_in freed known f is = go (cases_lt f (frame_count old))
  where
    go : (f < frame_count old) ⊎ (frame_count old ≤ f) → f < frame_count new
    go (inl x) = let s = freed.removed.size in omega arith
    go (inr x) =
        let k = freed.kept f (λ n p g at e. let b = reach_below old root 4 n p (omega arith) root_in at in absurd (omega arith)) in
        let h = known f (sym k ∙ is) in absurd (omega arith)

-- the frame that a page reaches is out
pub reached_out : (words : List ℕ) (free : List Bool) (root page : ℕ) (place : Place) → root < frame_count words → frame_count words ≤ length free →
    IsTree words root free → walk_of words root page ≡ Some place → IsOut free place.frame
reached_out words free root page place root_in flags tree at =
    let was : reach words root 4 (prefix_of page 4) ≡ Some place = sym (walk_reach words root page) ∙ at in
    let b = reach_below words root 4 (prefix_of page 4) place (omega arith) root_in was in
    out_of free place.frame (omega arith) (tree.used 4 (prefix_of page 4) place (omega arith) was)

-- a page of a range leaves after some of it
module _ (old mid : List ℕ) (free free1 : List Bool) (root page frame : ℕ) (gone : ℕ → Bool) (place : Place)
    (root_in : root < frame_count old)
    (flags : frame_count old ≤ length free)
    (tree : IsTree old root free)
    (freed : ArePagesFreed old mid free free1 root gone)
    (was : walk_of mid root page ≡ Some place)
    (is : frame ≡ place.frame) where
  pub next_root : root < frame_count mid
  next_root = let s = freed.removed.size in omega arith

  pub next_tree : IsTree mid root free1
  next_tree = freed_tree old mid free free1 root gone freed tree

  pub next_out : IsOut free1 frame
  next_out =
      let s = freed.removed.size in
      let g = freed.flags in
      let P : ℕ → Type 0 = λ f. IsOut free1 f in
      subst P (sym is) (reached_out mid free1 root page place next_root (omega arith) next_tree was)
