-- Words of a page of the heap are put in a row: what a system keeps stays, and so does every other word.
use Rattle.std.proofs.Common.{◌≡◌, ℕ, ◌+◌, ◌*◌, ◌/◌, ◌%◌, ◌^◌, ◌<◌, ◌≤◌, ◌⊎◌, inl, inr, Bool, List, length, get_or, refl, sym, ap, ◌∙◌, subst, arith, Some, IsTrue}
use Rattle.std.specs.Prelude.{IfSome}
use Rattle.std.proofs.lemmas.Bool.Decides.{nat_tests}
use Rattle.paging_core.specs.Address.{is_canonical}
use Rattle.paging_core.specs.Memory.{word_at, AreWordsWritten}
use Rattle.paging_core.specs.Walk.{Place, reach, large_of, walk_of, reached}
use Rattle.paging_core.specs.Tree.{IsTree}
use Rattle.heap_memory.specs.Regions.{is_granted, IsWordOf}
use Rattle.heap_memory.specs.Words.{IsBeside, AreWordsOf}
use Rattle.machine_model.specs.Machine.{Paged, OnlyHeapBytesChange, is_of_user}
use Rattle.paged_systems.specs.Layout.{IsPagedKept}
use Rattle.paged_systems.specs.Words.{grants_of}
use Rattle.paged_systems.specs.Written.{AreInPage, ArePut}
use Rattle.mapped_regions.specs.Mapped.{IsMappedWord, word_reached}
use Rattle.paged_systems.proofs.Numbers.{lt_or_le}
use Rattle.paged_systems.proofs.HeapRegions.{user_any, within_canonical, not_of_user}
use Rattle.paged_systems.proofs.Still.{still_beside, granted_within, granted_canonical, granted_mapped, mapped_word, kept_still, word_at_place, place_at}

-- a part of words that stand in the regions stands there still
pub in_page : (old mid : Paged) (at count done run : ℕ) → OnlyHeapBytesChange old mid →
    AreWordsOf (grants_of old) at count → done + run ≤ count → 0 < run → (at + 8 * done) % 4096 / 8 + run ≤ 512 →
    AreInPage mid (at + 8 * done) run
in_page old mid at count done run still words few some page = record {
  words = record {
    granted = λ k from before. subst (λ (p : Paged). IsTrue (is_granted (grants_of p) k)) (sym still.others)
        (words.granted k (omega arith) (omega (arith, few, before)));
    aligned = (let whole = words.aligned in omega (arith, whole));
    small = (let small = words.small in omega (arith, small, few));
  };
  some = some;
  page = page;
}

pub first_word : (p : Paged) (at count : ℕ) → AreInPage p at count → IsWordOf (grants_of p) at
first_word p at count there = record {
  granted = (let some = there.some in there.words.granted at (omega arith) (omega arith));
  aligned = there.words.aligned;
}

pub first_mapped : (p : Paged) (at count : ℕ) → IsPagedKept p → AreInPage p at count → IsMappedWord p at
first_mapped p at count kept there = mapped_word p at kept (first_word p at count there)

-- canonical addresses are told apart by the indices of their walks
same_page : (a b : ℕ) → IsTrue (is_canonical a) → IsTrue (is_canonical b) → a / 4096 % 2 ^ 36 ≡ b / 4096 % 2 ^ 36 → a / 4096 ≡ b / 4096
same_page a b one two same = grind (arith, nat_tests)

-- Words were put into a page of the regions.
module _ (p : Paged) (words run : List ℕ) (at : ℕ) (kept : IsPagedKept p) (there : AreInPage p at (length run))
    (size : length words ≡ length p.words)
    (set : IfSome (walk_of p.words p.root (at / 4096)) (λ place. AreWordsWritten p.words words place.frame (at % 4096 / 8) run))
    (walks : (free : List Bool) → IsTree p.words p.root free → (level number : ℕ) → level ≤ 4 →
    reach words p.root level number ≡ reach p.words p.root level number)
    (larges : (free : List Bool) → IsTree p.words p.root free → (number : ℕ) → large_of words p.root number ≡ large_of p.words p.root number)
    (tree : (free : List Bool) → IsTree p.words p.root free → IsTree words p.root free)
    (bytes : (free : List Bool) → IsTree p.words p.root free → (other : ℕ) → IsTrue (is_canonical other) →
    (other < at) ⊎ (at + 8 * length run ≤ other) → reached words p.root other ≡ reached p.words p.root other) where
  tree_is : IsTree p.words p.root p.free
  tree_is = kept.mapped.tree

  first : IsWordOf (grants_of p) at
  first = first_word p at (length run) there

  place : (q : Place) × (walk_of p.words p.root (at / 4096) ≡ Some q)
  place = place_at p at (granted_mapped p at at kept first.granted refl)

  written : AreWordsWritten p.words words place.0.frame (at % 4096 / 8) run
  written = subst (λ o. IfSome o (λ q. AreWordsWritten p.words words q.frame (at % 4096 / 8) run)) place.1 set

  stays : (page : ℕ) → walk_of words p.root page ≡ walk_of p.words p.root page
  unfolding walk_of
  stays page = walks p.free tree_is 4 (page % 2 ^ 36) (omega arith)

  pub still_put : OnlyHeapBytesChange p (record p { words = words })
  still_put = still_beside p words at place.0 kept place.1 size walks larges tree
      (λ frame index small apart. written.others frame index small (λ same from to. absurd (apart same))) users
    where
      -- and in that of a page of the heap
      beside : (address : ℕ) → IsTrue (is_of_user p.regions address) → (address < at) ⊎ (at + 8 * length run ≤ address)
      beside address user = elim (lt_or_le address at) [
        | inl below ↦ inl below
        | inr from ↦ elim (lt_or_le address (at + 8 * length run)) [
          | inl before ↦ absurd (
              let whole : at % 8 ≡ 0 = there.words.aligned in
              let fits = there.page in
              not_of_user 0 (2 ^ 64) at address p.regions kept.laid (omega arith) (granted_within p at first.granted) user)
          | inr above ↦ inr above
        ]
      ]

      users : (address : ℕ) → IsTrue (is_of_user p.regions address) → reached words p.root address ≡ reached p.words p.root address
      users address user = bytes p.free tree_is address (within_canonical p.base p.pages address p.regions
          kept.mapped.regions (user_any address p.regions user)) (beside address user)

  pub kept_put : IsPagedKept (record p { words = words })
  kept_put = kept_still p (record p { words = words }) kept still_put

  here : (k : ℕ) → k < length run → word_reached (record p { words = words }) (at + 8 * k) ≡ get_or run k 0
  here k less =
      let whole : at % 8 ≡ 0 = there.words.aligned in
      let fits = there.page in
      let page : (at + 8 * k) / 4096 ≡ at / 4096 = omega arith in
      let index : (at + 8 * k) % 4096 / 8 ≡ at % 4096 / 8 + k = omega arith in
      word_at_place (record p { words = words }) (at + 8 * k) place.0 (stays ((at + 8 * k) / 4096) ∙ (ap (walk_of p.words p.root) page ∙ place.1))
      ∙ (ap (word_at words place.0.frame) index ∙ written.written k less)

  -- a word beside the run is at another place
  apart : (other : ℕ) (found : Place) → IsWordOf (grants_of p) other → IsBeside at (length run) other → walk_of p.words p.root (other / 4096) ≡ Some found →
      found.frame ≡ place.0.frame → at % 4096 / 8 ≤ other % 4096 / 8 → other % 4096 / 8 < at % 4096 / 8 + length run → ⊥
  unfolding walk_of
  apart other found is beside walked same from to =
      let both = tree_is.distinct 4 (other / 4096 % 2 ^ 36) 4 (at / 4096 % 2 ^ 36) found place.0 (omega arith) (omega arith)
      walked place.1 same in
      let page = same_page other at (granted_canonical p other kept is.granted) (granted_canonical p at kept first.granted) both.1 in
      let one : other % 8 ≡ 0 = is.aligned in
      let two : at % 8 ≡ 0 = first.aligned in
      elim beside [ inl low ↦ absurd (omega arith) | inr high ↦ absurd (omega arith) ]

  elsewhere : (other : ℕ) → IsWordOf (grants_of p) other → IsBeside at (length run) other →
      word_reached (record p { words = words }) other ≡ word_reached p other
  elsewhere other is beside =
      let found = place_at p other (granted_mapped p other other kept is.granted refl) in
      word_at_place (record p { words = words }) other found.0 (stays (other / 4096) ∙ found.1)
      ∙ (written.others found.0.frame (other % 4096 / 8) (omega arith) (apart other found.0 is beside found.1)
      ∙ sym (word_at_place p other found.0 found.1))

  pub run_put : ArePut (grants_of p) (word_reached p) at run (word_reached (record p { words = words }))
  run_put = record { here = here; elsewhere = elsewhere }
