-- Words of one page's frame are written.
use Rattle.std.proofs.Common.{◌≡◌, ℕ, ◌+◌, ◌-◌, ◌*◌, ◌/◌, ◌%◌, ◌^◌, ◌<◌, ◌≤◌, Bool, List, length, get_or, Some, None, refl, sym, ap, ◌∙◌, ◌⊎◌, inl, inr, arith}
use Rattle.std.proofs.lemmas.Bool.{cases_eq}
use Rattle.std.specs.Prelude.{IsTrue}
use Rattle.paging_core.specs.Address.{is_canonical}
use Rattle.paging_core.specs.Memory.{word_at, byte_of, AreWordsWritten, IsFrameCopied}
use Rattle.paging_core.specs.Prefix.{prefix_of}
use Rattle.paging_core.specs.Walk.{Place, reach, large_of, walk_of, reached}
use Rattle.paging_core.specs.Tree.{IsTree}
use Rattle.paging_core.specs.Stores.{KeepsTables}
use Rattle.paging_core.proofs.LastEntry.{some_or_none}
use Rattle.paging_core.proofs.Prefixes.{walk_reach}
use Rattle.paging_core.proofs.Ranges.{same_number}
use Rattle.paging_core.proofs.Reached.{reach_data, tree_data, larges_data}

-- the byte at an address of a page
pub reached_at : (words : List ℕ) (root address : ℕ) (place : Place) → walk_of words root (address / 4096) ≡ Some place →
    reached words root address ≡ Some (byte_of (word_at words place.frame (address % 4096 / 8)) (address % 8))
reached_at words root address place at = rw at refl

-- a byte stays if its page keeps the frame, and the frame the word
pub same_byte : (old new : List ℕ) (root address : ℕ) (was now : Place) → walk_of old root (address / 4096) ≡ Some was →
    walk_of new root (address / 4096) ≡ Some now → now.frame ≡ was.frame →
    word_at new was.frame (address % 4096 / 8) ≡ word_at old was.frame (address % 4096 / 8) → reached new root address ≡ reached old root address
same_byte old new root address was now a b e w =
    reached_at new root address now b
    ∙ (ap (λ f. Some (byte_of (word_at new f (address % 4096 / 8)) (address % 8))) e
    ∙ (ap (λ v. Some (byte_of v (address % 8))) w ∙ sym (reached_at old root address was a)))

module _ (old new : List ℕ) (root page : ℕ) (place : Place) (free : List Bool)
    (at : walk_of old root page ≡ Some place)
    (size : length new ≡ length old)
    (elsewhere : (f i : ℕ) → i < 512 → (f ≡ place.frame → ⊥) → word_at new f i ≡ word_at old f i)
    (tree : IsTree old root free) where
  here : reach old root 4 (prefix_of page 4) ≡ Some place
  here = sym (walk_reach old root page) ∙ at

  pub written_walks : (l n : ℕ) → l ≤ 4 → reach new root l n ≡ reach old root l n
  written_walks = reach_data old new root place.frame (prefix_of page 4) free place tree here refl size elsewhere

  pub written_larges : (n : ℕ) → large_of new root n ≡ large_of old root n
  written_larges = larges_data old new root place.frame (prefix_of page 4) free place tree here refl size elsewhere

  pub written_tree : IsTree new root free
  written_tree = tree_data old new root place.frame (prefix_of page 4) free place tree here refl size elsewhere

  pub written_walk : (other : ℕ) → walk_of new root other ≡ walk_of old root other
  written_walk other = walk_reach new root other ∙ (written_walks 4 (prefix_of other 4) (omega arith) ∙ sym (walk_reach old root other))

  -- a byte stays if the word of the page at its place stays
  pub written_others : IsTrue (is_canonical (page * 4096)) → (address : ℕ) → IsTrue (is_canonical address) →
      (address / 4096 ≡ page → word_at new place.frame (address % 4096 / 8) ≡ word_at old place.frame (address % 4096 / 8)) →
      reached new root address ≡ reached old root address
  written_others canonical address co same = go (some_or_none (walk_of old root (address / 4096)))
    where
      its_page : IsTrue (is_canonical (address / 4096 * 4096))
      its_page = let e : address / 4096 * 4096 / 2 ^ 47 ≡ address / 2 ^ 47 = omega arith in rw e co

      word : (p : Place) → walk_of old root (address / 4096) ≡ Some p → (p.frame ≡ place.frame) ⊎ (p.frame ≡ place.frame → ⊥) →
          word_at new p.frame (address % 4096 / 8) ≡ word_at old p.frame (address % 4096 / 8)
      word p is (inr ne) = elsewhere p.frame (address % 4096 / 8) (omega arith) ne
      word p is (inl e) =
          let d : prefix_of (address / 4096) 4 ≡ prefix_of page 4 =
          (tree.distinct 4 (prefix_of (address / 4096) 4) 4 (prefix_of page 4) p place (omega arith) (omega arith)
          (sym (walk_reach old root (address / 4096)) ∙ is) here e).1 in
          rw e (same (same_number (address / 4096) page its_page canonical (omega arith)))

      go : ((p : Place) × (walk_of old root (address / 4096) ≡ Some p)) ⊎ (walk_of old root (address / 4096) ≡ None) →
          reached new root address ≡ reached old root address
      go (inl p) =
          reached_at new root address p.0 (written_walk (address / 4096) ∙ p.1)
          ∙ (ap (λ w. Some (byte_of w (address % 8))) (word p.0 p.1 (cases_eq p.0.frame place.frame)) ∙ sym (reached_at old root address p.0 p.1))
      go (inr none) = let e = written_walk (address / 4096) ∙ none in rw (e, none) refl

-- words of the page's frame alone were written
pub page_kept : (old new : List ℕ) (root page : ℕ) (place : Place) → walk_of old root page ≡ Some place →
    length new ≡ length old →
    ((free : List Bool) → IsTree old root free → (f i : ℕ) → i < 512 → (f ≡ place.frame → ⊥) → word_at new f i ≡ word_at old f i) →
    KeepsTables old new root
page_kept old new root page place at size elsewhere = record {
  size = size;
  walks = λ free tree. written_walks old new root page place free at size (elsewhere free tree) tree;
  larges = λ free tree. written_larges old new root page place free at size (elsewhere free tree) tree;
  tree = λ free tree. written_tree old new root page place free at size (elsewhere free tree) tree;
}

-- a run of words was written to the page
module _ (old new : List ℕ) (root page index : ℕ) (run : List ℕ) (place : Place) (free : List Bool)
    (at : walk_of old root page ≡ Some place)
    (fits : index + length run ≤ 512)
    (put : AreWordsWritten old new place.frame index run)
    (tree : IsTree old root free) where
  pub run_elsewhere : (f i : ℕ) → i < 512 → (f ≡ place.frame → ⊥) → word_at new f i ≡ word_at old f i
  run_elsewhere f i li ne = put.others f i li (λ e _ _. ne e)

  pub run_bytes : (address : ℕ) → address / 4096 ≡ page → index ≤ address % 4096 / 8 → address % 4096 / 8 < index + length run →
      reached new root address ≡ Some (byte_of (get_or run (address % 4096 / 8 - index) 0) (address % 8))
  run_bytes address e lo hi =
      let z : index + (address % 4096 / 8 - index) ≡ address % 4096 / 8 = omega arith in
      let w : word_at new place.frame (address % 4096 / 8) ≡ get_or run (address % 4096 / 8 - index) 0 =
      ap (word_at new place.frame) (sym z) ∙ put.written (address % 4096 / 8 - index) (omega arith) in
      reached_at new root address place (written_walk old new root page place free at put.size run_elsewhere tree
      (address / 4096) ∙ (ap (walk_of old root) e ∙ at))
      ∙ ap (λ v. Some (byte_of v (address % 8))) w

  pub run_others : IsTrue (is_canonical (page * 4096)) → (address : ℕ) → IsTrue (is_canonical address) →
      (address / 4096 ≡ page → index ≤ address % 4096 / 8 → address % 4096 / 8 < index + length run → ⊥) → reached new root address ≡ reached old root address
  run_others canonical address co apart =
      written_others old new root page place free at put.size run_elsewhere tree canonical address co
      (λ e. put.others place.frame (address % 4096 / 8) (omega arith) (λ _ lo hi. apart e lo hi))

-- a page was copied to the page
module _ (old new : List ℕ) (root from to : ℕ) (source target : Place) (free : List Bool)
    (found : walk_of old root from ≡ Some source)
    (at : walk_of old root to ≡ Some target)
    (copied : IsFrameCopied old new source.frame target.frame)
    (tree : IsTree old root free) where
  pub copy_bytes : (k : ℕ) → k < 4096 → reached new root (4096 * to + k) ≡ reached old root (4096 * from + k)
  copy_bytes k lt =
      let pt : (4096 * to + k) / 4096 ≡ to = omega arith in
      let pf : (4096 * from + k) / 4096 ≡ from = omega arith in
      let it : (4096 * to + k) % 4096 / 8 ≡ (4096 * from + k) % 4096 / 8 = omega arith in
      let bt : (4096 * to + k) % 8 ≡ (4096 * from + k) % 8 = omega arith in
      reached_at new root (4096 * to + k) target
      (written_walk old new root to target free at copied.size copied.others tree ((4096 * to + k) / 4096) ∙ (ap (walk_of old root) pt ∙ at))
      ∙ (ap (λ w. Some (byte_of w ((4096 * to + k) % 8))) (copied.copied ((4096 * to + k) % 4096 / 8) (omega arith))
      ∙ (rw (it, bt) refl ∙ sym (reached_at old root (4096 * from + k) source (ap (walk_of old root) pf ∙ found))))

  pub copy_others : IsTrue (is_canonical (to * 4096)) → (address : ℕ) → IsTrue (is_canonical address) → (address / 4096 ≡ to → ⊥) →
      reached new root address ≡ reached old root address
  copy_others canonical address co apart =
      written_others old new root to target free at copied.size copied.others tree canonical address co (λ e. absurd (apart e))
