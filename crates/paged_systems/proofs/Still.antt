-- A word of a page of the heap is stored: what a system keeps stays, and so does every other word.
use Rattle.std.proofs.Common.{◌≡◌, ◌≢◌, ℕ, ◌+◌, ◌*◌, ◌/◌, ◌%◌, ◌^◌, ◌<◌, ◌≤◌, Bool, true, List, length, refl, sym, ap, ◌∙◌, subst, arith, Option, Some, None, IsTrue, IsSome}
use Rattle.std.specs.Prelude.{IfSome, slice_set}
use Rattle.std.proofs.lemmas.List.{get_or-set_other}
use Rattle.std.specs.List.{list_any}
use Rattle.paging_core.specs.Address.{is_canonical}
use Rattle.paging_core.specs.Memory.{word_at}
use Rattle.paging_core.specs.Walk.{Place, reach, large_of, walk_of, reached}
use Rattle.paging_core.specs.Tree.{IsTree}
use Rattle.heap_memory.specs.Regions.{IsWordOf, is_granted}
use Rattle.heap_memory.specs.Words.{IsStored}
use Rattle.machine_model.specs.State.{is_within}
use Rattle.machine_model.specs.Machine.{Paged, OnlyHeapBytesChange, is_of_user}
use Rattle.paged_systems.specs.Layout.{IsPagedKept}
use Rattle.paged_systems.specs.Words.{heap_regions, grants_of}
use Rattle.mapped_regions.specs.Mapped.{IsMappedWord, walked_word, word_reached}
use Rattle.mapped_regions.proofs.Looked.{mapped_at}
use Rattle.mapped_regions.proofs.Mapped.{stored_mapped}
use Rattle.paged_systems.proofs.HeapRegions.{granted_same, heap_any, user_any, kind_some, within_canonical, not_of_user}

-- a byte is granted where a region of the heap has it
pub granted_within : (p : Paged) (address : ℕ) → IsTrue (is_granted (grants_of p) address) → list_any (is_within address) (heap_regions p.regions) ≡ true
granted_within p address granted = sym (granted_same (heap_regions p.regions) address) ∙ granted

-- its address is canonical, and its page is mapped
pub granted_canonical : (p : Paged) (address : ℕ) → IsPagedKept p → IsTrue (is_granted (grants_of p) address) → IsTrue (is_canonical address)
granted_canonical p address kept granted =
    within_canonical p.base p.pages address p.regions kept.mapped.regions (heap_any (is_within address) p.regions (granted_within p address granted))

pub granted_mapped : (p : Paged) (address a : ℕ) → IsPagedKept p → IsTrue (is_granted (grants_of p) address) → a ≡ address →
    IsSome (walk_of p.words p.root (a / 4096))
granted_mapped p address a kept granted same =
    subst (λ b. IsSome (walk_of p.words p.root (b / 4096))) (sym same)
    (mapped_at p address kept.mapped (granted_canonical p address kept granted)
    (kind_some address p.regions (heap_any (is_within address) p.regions (granted_within p address granted))))

pub mapped_word : (p : Paged) (at : ℕ) → IsPagedKept p → IsWordOf (grants_of p) at → IsMappedWord p at
mapped_word p at kept word = record {
  aligned = word.aligned;
  canonical = granted_canonical p at kept word.granted;
  mapped = granted_mapped p at at kept word.granted refl;
}

-- what a system keeps, it keeps while nothing is granted
pub kept_still : (old new : Paged) → IsPagedKept old → OnlyHeapBytesChange old new → IsPagedKept new
kept_still old new kept still = subst IsPagedKept (sym still.others) (record {
  window = kept.window;
  mapped = stored_mapped old new.words kept.mapped still.size (still.tree kept.mapped.tree) still.walks still.larges;
  laid = kept.laid;
})

-- the word at an address whose page is mapped
pub word_at_place : (p : Paged) (at : ℕ) (place : Place) → walk_of p.words p.root (at / 4096) ≡ Some place →
    word_reached p at ≡ word_at p.words place.frame (at % 4096 / 8)
word_at_place p at place is = ap (walked_word p.words at) is

-- the place of a page that is mapped
pub place_at : (p : Paged) (at : ℕ) → IsSome (walk_of p.words p.root (at / 4096)) → (place : Place) × (walk_of p.words p.root (at / 4096) ≡ Some place)
place_at p at some = go (walk_of p.words p.root (at / 4096)) some
  where
    go : (o : Option Place) → IsSome o → (place : Place) × (o ≡ Some place)
    go None some = absurd (cc)
    go (Some place) some = (place, refl)

-- words of one page of the regions were put, and no other: that page is no table
pub still_beside : (p : Paged) (words : List ℕ) (at : ℕ) (place : Place) → IsPagedKept p →
    walk_of p.words p.root (at / 4096) ≡ Some place → length words ≡ length p.words →
    ((free : List Bool) → IsTree p.words p.root free → (level number : ℕ) → level ≤ 4 → reach words p.root level number ≡ reach p.words p.root level number) →
    ((free : List Bool) → IsTree p.words p.root free → (number : ℕ) → large_of words p.root number ≡ large_of p.words p.root number) →
    ((free : List Bool) → IsTree p.words p.root free → IsTree words p.root free) →
    ((frame index : ℕ) → index < 512 → frame ≢ place.frame → word_at words frame index ≡ word_at p.words frame index) →
    ((address : ℕ) → IsTrue (is_of_user p.regions address) → reached words p.root address ≡ reached p.words p.root
    address) → OnlyHeapBytesChange p (record p { words = words })
unfolding walk_of
still_beside p words at place kept found size walks larges tree others users = record {
  others = refl;
  size = size;
  tree = tree p.free;
  walks = walks p.free kept.mapped.tree;
  larges = larges p.free kept.mapped.tree;
  tables = tables;
  users = users;
}
  where
    tables : (level number index : ℕ) (met : Place) → level < 4 → index < 512 →
        reach p.words p.root level number ≡ Some met → word_at words met.frame index ≡ word_at p.words met.frame index
    tables level number index met low small is =
        others met.frame index small (λ same. (let both = kept.mapped.tree.distinct level number 4 (at / 4096 % 2 ^ 36) met
        place (omega arith) (omega arith) is found same in omega (arith, both.0)))

-- A word was stored in a page of the regions, at the address that a is.
module _ (p : Paged) (words : List ℕ) (at value a : ℕ)
    (kept : IsPagedKept p) (word : IsWordOf (grants_of p) at) (at_is : a ≡ at)
    (size : length words ≡ length p.words)
    (set : IfSome (walk_of p.words p.root (a / 4096)) (λ place. words ≡ slice_set p.words (512 * place.frame + a % 4096 / 8) value))
    (walks : (free : List Bool) → IsTree p.words p.root free → (level number : ℕ) → level ≤ 4 →
    reach words p.root level number ≡ reach p.words p.root level number)
    (larges : (free : List Bool) → IsTree p.words p.root free → (number : ℕ) → large_of words p.root number ≡ large_of p.words p.root number)
    (tree : (free : List Bool) → IsTree p.words p.root free → IsTree words p.root free)
    (stored : (free : List Bool) → IsTree p.words p.root free → IfSome (walk_of p.words p.root (a / 4096))
    (λ place. word_at words place.frame (a % 4096 / 8) ≡ value))
    (others : (free : List Bool) → IsTree p.words p.root free → (other : ℕ) → IsTrue (is_canonical other) → (other / 8 ≡ a / 8 → ⊥) →
    IfSome (walk_of p.words p.root (other / 4096)) (λ place. word_at words place.frame (other % 4096 / 8) ≡ word_at p.words place.frame (other % 4096 / 8)))
    (bytes : (free : List Bool) → IsTree p.words p.root free → (other : ℕ) → IsTrue (is_canonical other) →
    (other / 8 ≡ a / 8 → ⊥) → reached words p.root other ≡ reached p.words p.root other) where
  tree_is : IsTree p.words p.root p.free
  tree_is = kept.mapped.tree

  pub still_stored : OnlyHeapBytesChange p (record p { words = words })
  still_stored =
      let place = place_at p a (granted_mapped p at a kept word.granted at_is) in
      let is_set : words ≡ slice_set p.words (512 * place.0.frame + a % 4096 / 8) value =
      subst (λ o. IfSome o (λ q. words ≡ slice_set p.words (512 * q.frame + a % 4096 / 8) value)) place.1 set in
      still_beside p words a place.0 kept place.1 size walks larges tree
      (λ frame index small apart. ap (λ ws. word_at ws frame index) is_set
      ∙ get_or-set_other p.words (512 * place.0.frame + a % 4096 / 8) (512 * frame + index) value 0
      (λ e. apart (omega arith))) users
    where
      -- and in that of a page of the heap
      users : (address : ℕ) → IsTrue (is_of_user p.regions address) → reached words p.root address ≡ reached p.words p.root address
      users address user = bytes p.free tree_is address (within_canonical p.base p.pages address p.regions
          kept.mapped.regions (user_any address p.regions user))
          (λ same. not_of_user 0 (2 ^ 64) at address p.regions kept.laid (omega (arith, same, at_is)) (granted_within p at word.granted) user)

  pub kept_stored : IsPagedKept (record p { words = words })
  kept_stored = kept_still p (record p { words = words }) kept still_stored

  -- the place of a page of the regions, before and after
  found : (other : ℕ) → IsTrue (is_granted (grants_of p) other) → (place : Place) × (walk_of p.words p.root (other / 4096) ≡ Some place)
  found other granted = place_at p other (granted_mapped p other other kept granted refl)

  stays : (page : ℕ) → walk_of words p.root page ≡ walk_of p.words p.root page
  unfolding walk_of
  stays page = walks p.free tree_is 4 (page % 2 ^ 36) (omega arith)

  word_stored : word_reached (record p { words = words }) at ≡ value
  word_stored =
      let place = found at word.granted in
      let here : IfSome (walk_of p.words p.root (at / 4096)) (λ q. word_at words q.frame (at % 4096 / 8) ≡ value) =
      subst (λ b. IfSome (walk_of p.words p.root (b / 4096)) (λ q. word_at words q.frame (b % 4096 / 8) ≡ value)) at_is (stored p.free tree_is) in
      word_at_place (record p { words = words }) at place.0 (stays (at / 4096) ∙ place.1)
      ∙ subst (λ o. IfSome o (λ q. word_at words q.frame (at % 4096 / 8) ≡ value)) place.1 here

  words_stay : (other : ℕ) → IsWordOf (grants_of p) other → other ≢ at → word_reached (record p { words = words }) other ≡ word_reached p other
  words_stay other is apart =
      let place = found other is.granted in
      let one : other % 8 ≡ 0 = is.aligned in
      let two : at % 8 ≡ 0 = word.aligned in
      let same = others p.free tree_is other (granted_canonical p other kept is.granted) (λ e. apart (omega arith)) in
      word_at_place (record p { words = words }) other place.0 (stays (other / 4096) ∙ place.1)
      ∙ (subst (λ o. IfSome o (λ q. word_at words q.frame (other % 4096 / 8) ≡ word_at p.words q.frame (other % 4096 / 8))) place.1 same
      ∙ sym (word_at_place p other place.0 place.1))

  pub is_stored : IsStored (grants_of p) (word_reached p) at value (word_reached (record p { words = words }))
  is_stored = record { here = word_stored; elsewhere = words_stay }
