-- What the walk to an address reaches, and what a write there keeps.
use Rattle.std.proofs.Common.{◌≡◌, ℕ, ◌+◌, ◌*◌, ◌/◌, ◌%◌, ◌^◌, ◌<◌, ◌≤◌, Bool, List, length, set, Option, Some, None, refl, sym, ap, ◌∙◌, arith, length-set}
use Rattle.std.specs.Prelude.{IsTrue, IsSome, IfSome}
use Rattle.std.specs.Option.{option_map}
use Rattle.std.proofs.lemmas.Bool.Decides.{nat_tests}
use Rattle.paging_core.specs.Address.{is_canonical}
use Rattle.paging_core.specs.Memory.{word_at, frame_count, byte_of}
use Rattle.paging_core.specs.Prefix.{prefix_of}
use Rattle.paging_core.specs.Walk.{Place, reach, large_of, walk_of, reached}
use Rattle.paging_core.specs.Tree.{IsTree}
use Rattle.paging_core.specs.Stores.{KeepsTables, IsWordPut}
use Rattle.paging_core.proofs.Reach.{reach_same, larges_same}
use Rattle.paging_core.proofs.Words.{word_at_set_same, word_at_set_other}
use Rattle.paging_core.proofs.Prefixes.{walk_reach}
use Rattle.paging_core.proofs.Made.{tree_same, reach_below}

-- words of a page's frame may be written
pub reach_data : (old new : List ℕ) (root frame page : ℕ) (free : List Bool) (met : Place) → IsTree old root free →
    reach old root 4 page ≡ Some met → met.frame ≡ frame → length new ≡ length old →
    ((f i : ℕ) → i < 512 → (f ≡ frame → ⊥) → word_at new f i ≡ word_at old f i) →
    (l n : ℕ) → l ≤ 4 → reach new root l n ≡ reach old root l n
reach_data old new root frame page free met tree here is size others =
    reach_same old new root size
    (λ l n b j lt at lj. others b.frame j lj
    (λ e. let p : (l ≡ 4) × (n ≡ page) = tree.distinct l n 4 page b met (omega arith) (omega arith) at here (e ∙ sym is) in absurd (omega arith)))

pub tree_data : (old new : List ℕ) (root frame page : ℕ) (free : List Bool) (met : Place) → IsTree old root free →
    reach old root 4 page ≡ Some met → met.frame ≡ frame → length new ≡ length old →
    ((f i : ℕ) → i < 512 → (f ≡ frame → ⊥) → word_at new f i ≡ word_at old f i) → IsTree new root free
tree_data old new root frame page free met tree here is size others =
    tree_same old new root free size
    (λ l n b j lt at lj. others b.frame j lj
    (λ e. let p : (l ≡ 4) × (n ≡ page) = tree.distinct l n 4 page b met (omega arith) (omega arith) at here (e ∙ sym is) in absurd (omega arith)))
    tree

pub larges_data : (old new : List ℕ) (root frame page : ℕ) (free : List Bool) (met : Place) → IsTree old root free →
    reach old root 4 page ≡ Some met → met.frame ≡ frame → length new ≡ length old →
    ((f i : ℕ) → i < 512 → (f ≡ frame → ⊥) → word_at new f i ≡ word_at old f i) →
    (n : ℕ) → large_of new root n ≡ large_of old root n
larges_data old new root frame page free met tree here is size others =
    larges_same old new root size
    (λ l n b j lt at lj. others b.frame j lj
    (λ e. let p : (l ≡ 4) × (n ≡ page) = tree.distinct l n 4 page b met (omega arith) (omega arith) at here (e ∙ sym is) in absurd (omega arith)))

-- the eight bytes from a multiple of 8 on are those of one word
pub reached_word : (words : List ℕ) (root address k : ℕ) (place : Place) → address % 8 ≡ 0 → k < 8 → walk_of words root (address / 4096) ≡ Some place →
    reached words root (address + k) ≡ Some (byte_of (word_at words place.frame (address % 4096 / 8)) k)
reached_word words root address k place aligned lt at =
    let page : (address + k) / 4096 ≡ address / 4096 = omega arith in
    let index : (address + k) % 4096 / 8 ≡ address % 4096 / 8 = omega arith in
    let byte : (address + k) % 8 ≡ k = omega arith in
    rw (page, index, byte, at) refl

-- canonical addresses are distinguished by their low 48 bits
same_page : (a b : ℕ) → IsTrue (is_canonical a) → IsTrue (is_canonical b) → a / 4096 % 2 ^ 36 ≡ b / 4096 % 2 ^ 36 → a / 4096 ≡ b / 4096
same_page a b ca cb e = grind (arith, nat_tests)

module _ (old new : List ℕ) (root address value : ℕ) (place : Place) (free : List Bool)
    (root_in : root < frame_count old)
    (aligned : address % 8 ≡ 0)
    (canonical : IsTrue (is_canonical address))
    (at : walk_of old root (address / 4096) ≡ Some place)
    (written : new ≡ set old (512 * place.frame + address % 4096 / 8) value)
    (tree : IsTree old root free) where
  at_reach : reach old root 4 (prefix_of (address / 4096) 4) ≡ Some place
  at_reach = sym (walk_reach old root (address / 4096)) ∙ at

  pub stored_walks : (l n : ℕ) → l ≤ 4 → reach new root l n ≡ reach old root l n
  stored_walks =
      reach_data old new root place.frame (prefix_of (address / 4096) 4) free place tree at_reach refl
      (rw written (length-set old (512 * place.frame + address % 4096 / 8) value))
      (λ f i li ne. ap (λ w. word_at w f i) written ∙ word_at_set_other old place.frame (address % 4096 / 8) value f i (omega arith) li (λ e _. ne e))

  pub stored_larges : (n : ℕ) → large_of new root n ≡ large_of old root n
  stored_larges =
      larges_data old new root place.frame (prefix_of (address / 4096) 4) free place tree at_reach refl
      (rw written (length-set old (512 * place.frame + address % 4096 / 8) value))
      (λ f i li ne. ap (λ w. word_at w f i) written ∙ word_at_set_other old place.frame (address % 4096 / 8) value f i (omega arith) li (λ e _. ne e))

  pub stored_tree : IsTree new root free
  stored_tree =
      tree_data old new root place.frame (prefix_of (address / 4096) 4) free place tree at_reach refl
      (rw written (length-set old (512 * place.frame + address % 4096 / 8) value))
      (λ f i li ne. ap (λ w. word_at w f i) written ∙ word_at_set_other old place.frame (address % 4096 / 8) value f i (omega arith) li (λ e _. ne e))

  walks_stay : (page : ℕ) → walk_of new root page ≡ walk_of old root page
  walks_stay page = walk_reach new root page ∙ (stored_walks 4 (prefix_of page 4) (omega arith) ∙ sym (walk_reach old root page))

  pub stored_word : word_at new place.frame (address % 4096 / 8) ≡ value
  stored_word =
      let below : place.frame < frame_count old = reach_below old root 4 (prefix_of (address / 4096) 4) place (omega arith) root_in at_reach in
      ap (λ w. word_at w place.frame (address % 4096 / 8)) written ∙ word_at_set_same old place.frame (address % 4096 / 8) value below (omega arith)

  pub stored_bytes : (k : ℕ) → k < 8 → reached new root (address + k) ≡ Some (byte_of value k)
  stored_bytes k lt = reached_word new root address k place aligned lt (walks_stay (address / 4096) ∙ at) ∙ ap (λ w. Some (byte_of w k)) stored_word

  -- every other word that a walk reaches stays
  pub other_words : (other : ℕ) (p : Place) → IsTrue (is_canonical other) → (other / 8 ≡ address / 8 → ⊥) → walk_of old root (other / 4096) ≡ Some p →
      word_at new p.frame (other % 4096 / 8) ≡ word_at old p.frame (other % 4096 / 8)
  other_words other p co ne is =
      ap (λ w. word_at w p.frame (other % 4096 / 8)) written
      ∙ word_at_set_other old place.frame (address % 4096 / 8) value p.frame (other % 4096 / 8) (omega arith) (omega arith) apart
    where
      apart : p.frame ≡ place.frame → other % 4096 / 8 ≡ address % 4096 / 8 → ⊥
      apart e i =
          let d : prefix_of (other / 4096) 4 ≡ prefix_of (address / 4096) 4 =
          (tree.distinct 4 (prefix_of (other / 4096) 4) 4 (prefix_of (address / 4096) 4) p place (omega arith) (omega arith)
          (sym (walk_reach old root (other / 4096)) ∙ is) at_reach e).1 in
          let s : other / 4096 ≡ address / 4096 = same_page other address co canonical (omega arith) in
          ne (omega arith)

  pub stored_others : (other : ℕ) → IsTrue (is_canonical other) → (other / 8 ≡ address / 8 → ⊥) → reached new root other ≡ reached old root other
  stored_others other co ne =
      ap (option_map (λ p. byte_of (word_at new p.frame (other % 4096 / 8)) (other % 8))) (walks_stay (other / 4096))
      ∙ go (walk_of old root (other / 4096)) refl
    where
      go : (o : Option Place) → walk_of old root (other / 4096) ≡ o →
          option_map (λ p. byte_of (word_at new p.frame (other % 4096 / 8)) (other % 8)) o
          ≡ option_map (λ p. byte_of (word_at old p.frame (other % 4096 / 8)) (other % 8)) o
      go None is = refl
      go (Some p) is = ap (λ w. Some (byte_of w (other % 8))) (other_words other p co ne is)

module _ (old new : List ℕ) (root address value : ℕ) (place : Place)
    (root_in : root < frame_count old)
    (aligned : address % 8 ≡ 0)
    (canonical : IsTrue (is_canonical address))
    (at : walk_of old root (address / 4096) ≡ Some place)
    (written : new ≡ set old (512 * place.frame + address % 4096 / 8) value) where
  pub word_kept : KeepsTables old new root
  word_kept = record {
    size = rw written (length-set old (512 * place.frame + address % 4096 / 8) value);
    walks = λ free tree. stored_walks old new root address value place free root_in aligned canonical at written tree;
    larges = λ free tree. stored_larges old new root address value place free root_in aligned canonical at written tree;
    tree = λ free tree. stored_tree old new root address value place free root_in aligned canonical at written tree;
  }

  pub word_put : IsWordPut old new root address value
  word_put = record {
    stored = λ free tree. rw at (stored_word old new root address value place free root_in aligned canonical at written tree);
    other_words = λ free tree other co ne. go free tree other co ne (walk_of old root (other / 4096)) refl;
    bytes = λ free tree. stored_bytes old new root address value place free root_in aligned canonical at written tree;
    others = λ free tree. stored_others old new root address value place free root_in aligned canonical at written tree;
  }
    where
      go : (free : List Bool) → IsTree old root free → (other : ℕ) → IsTrue (is_canonical other) →
          (other / 8 ≡ address / 8 → ⊥) → (o : Option Place) → walk_of old root (other / 4096) ≡ o →
          IfSome o (λ p. word_at new p.frame (other % 4096 / 8) ≡ word_at old p.frame (other % 4096 / 8))
      go free tree other co ne None is = tt
      go free tree other co ne (Some p) is =
          other_words old new root address value place free root_in aligned canonical at written tree other p co ne is

-- a page that no walk finds is not mapped
pub some_not_none : (o : Option Place) → IsSome o → o ≡ None → ⊥
some_not_none o h e = let k = rw e at h in absurd (cc)

pub not_mapped : (words : List ℕ) (root page : ℕ) → IsSome (walk_of words root page) → walk_of words root page ≡ None → ⊥
not_mapped words root page h e = let k = rw e at h in absurd (cc)
