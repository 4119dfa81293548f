-- Marks stay where blocks begin, as blocks come and go.
use Rattle.std.specs.Prelude.{◌≡◌, ◌≢◌, ℕ, ◌-◌, ◌≤◌, ◌⊎◌, true, false, List, Some, length, ◌^◌, Bool}
use Rattle.std.proofs.Common.{◌∙◌, ap, sym, subst, inl, inr, arith, refl}
use Rattle.std.proofs.lemmas.Bool.{cases_eq}
use Rattle.dlmalloc.specs.Extents.{extent_at}
use Rattle.dlmalloc.specs.State.{HeapState, extents_in}
use Rattle.dlmalloc.specs.Requested.{IsHandedOut}
use Rattle.dlmalloc.specs.AfterFree.{IsFreed}
use Rattle.dlmalloc.specs.Moved.{IsGivenSize}
use Rattle.dlmalloc.specs.Shortened.{IsTrimmed}
use Rattle.dlmalloc.specs.declared.heap.Dlmalloc.{Dlmalloc}
use Rattle.dlmalloc.proofs.Extents.Lookup.{found}
use Rattle.heap_arena.specs.declared.arena.Arena.{Arena}
use Rattle.heap_arena.specs.Arena.{regions_of, word_of, IsSameArena}
use Rattle.sound_heap.specs.declared.heap_error.HeapError.{HeapError}
use Rattle.sound_heap.specs.declared.heap_error.HeapError.TheVariants.{BadAlign, NoBlock, Refused}
use Rattle.checked_heap.specs.Library.{IsResizeRefused}
use Rattle.sound_heap.specs.Heap.{HasBlock, IsRequestRefused}
use Rattle.checked_heap.specs.Marks.{is_marked}
use Rattle.checked_heap.specs.Counted.{count_below}
use Rattle.checked_heap.specs.Checked.{arena_follows, arena_refuses, arena_denies, arena_heap_state, IsMarked}

-- ---- blocks

at_place : (heap : HeapState) (a : ℕ) (block : HasBlock heap a) → block.1.extent.at ≡ a - 16
at_place heap a block = (found (a - 16) block.1.extent (extents_in heap) block.1.there).place

-- a block of one heap is one of another that has its extent
carried : (old new : HeapState) (a : ℕ) (block : HasBlock old a) → (extent_at block.1.extent.at (extents_in old) ≡ Some
    block.1.extent → extent_at block.1.extent.at (extents_in new) ≡ Some block.1.extent) → HasBlock new a
carried old new a block moves =
    let place = at_place old a block in
    let was = ap (λ (k : ℕ). extent_at k (extents_in old)) place ∙ block.1.there in (
      block.0,
      record {
        extent = block.1.extent;
        there = ap (λ (k : ℕ). extent_at k (extents_in new)) (sym place) ∙ moves was;
        low = block.1.low;
        used = block.1.used;
        holds = block.1.holds;
        little = block.1.little;
      },
    )

-- a block of one heap is one of another that has the same extents
pub same_blocks : (old new : HeapState) → extents_in new ≡ extents_in old → (a : ℕ) → HasBlock old a → HasBlock new a
same_blocks old new same a block = carried old new a block (λ there. ap (extent_at block.1.extent.at) same ∙ there)

-- two blocks whose extents begin at one address are one
apart : (heap : HeapState) (a address : ℕ) (block : HasBlock heap a) → 16 ≤ address → a ≢ address → block.1.extent.at ≢ address - 16
apart heap a address block low differ = λ same. differ (omega (arith, same, at_place heap a block, block.1.low, low))

-- ---- what the arena keeps

found_same : (old new : Dlmalloc Arena) (size align address : ℕ) → IsHandedOut regions_of word_of arena_follows old size
    align
    address new → IsSameArena old.system new.system
found_same old new size align address out = elim out.found [ inl same ↦ same.1.same | inr fresh ↦ fresh.4.same ]

pub resized_same : (old new : Dlmalloc Arena) (from held size to : ℕ) →
    IsGivenSize regions_of word_of arena_follows true true 1 old from held 16 size to new →
    IsSameArena old.system new.system
resized_same old new from held size to given = go (cases_eq to from)
  where
    before : IsSameArena old.system given.middle.system
    before = elim given.found [ inl same ↦ same.1.same | inr fresh ↦ fresh.4.same ]

    go : (to ≡ from) ⊎ (to ≡ from → ⊥) → IsSameArena old.system new.system
    go (inl same) = (given.here same).1.same
    go (inr differ) = let after = (given.elsewhere differ).followed.same in
        record { base = after.base ∙ before.base; len = after.len ∙ before.len; table = after.table ∙ before.table }

-- ---- marks

module _ {base : ℕ} {marks : List ℕ} {count : ℕ} {old : Dlmalloc Arena} (new : Dlmalloc Arena) (is : IsMarked base marks count old) where
  -- a heap with the same blocks
  pub kept_marked : IsSameArena old.system new.system → ((a : ℕ) → HasBlock (arena_heap_state old) a → HasBlock (arena_heap_state new) a) →
      ((a : ℕ) → HasBlock (arena_heap_state new) a → HasBlock (arena_heap_state old) a) → IsMarked base marks count new
  kept_marked same to from = record {
    some = is.some;
    count_is = is.count_is;
    base_is = same.base ∙ is.base_is;
    room = omega (arith, same.len, is.room);
    blocks = λ a marked. to a (is.blocks a marked);
    marked = λ a block. is.marked a (from a block);
  }

  pub same_marked : IsSameArena old.system new.system → arena_heap_state new ≡ arena_heap_state old →
      IsMarked base marks count new
  same_marked same state = kept_marked same (λ a block. subst (λ (heap : HeapState). HasBlock heap a) (sym state) block)
      (λ a block. subst (λ (heap : HeapState). HasBlock heap a) state block)

  pub unserved_marked : (size align : ℕ) (error : HeapError) → IsRequestRefused regions_of word_of arena_follows
      arena_refuses arena_denies
      old size align error new → IsMarked base marks count new
  unserved_marked size align BadAlign refused = subst (IsMarked base marks count) (sym refused.1) is
  unserved_marked size align NoBlock refused = absurd refused
  unserved_marked size align (Refused error) refused = same_marked refused.1.same.followed.same refused.1.same.state

  pub unresized_marked : (address size : ℕ) (error : HeapError) → IsResizeRefused regions_of word_of arena_follows
      arena_refuses arena_denies
      old address size error new → IsMarked base marks count new
  unresized_marked address size BadAlign refused = absurd refused
  unresized_marked address size NoBlock refused = subst (IsMarked base marks count) (sym refused.1) is
  unresized_marked address size (Refused error) refused = same_marked refused.1.same.followed.same refused.1.same.state

  pub trimmed_marked : (pad : ℕ) (answer : _) → IsTrimmed regions_of word_of arena_follows true true 1 old pad answer new → IsMarked base marks count new
  trimmed_marked pad answer trimmed =
      kept_marked trimmed.followed.same (λ a block. carried (arena_heap_state old) (arena_heap_state new) a block
      (trimmed.used.still block.1.extent block.1.used))
      (λ a block. carried (arena_heap_state new) (arena_heap_state old) a block
      (trimmed.used.before block.1.extent block.1.used))

  -- where a block comes there was no mark
  pub made_unmarked : (size align address : ℕ) → IsHandedOut regions_of word_of arena_follows old size align address new → is_marked base marks address ≡ false
  made_unmarked size align address out = go (is_marked base marks address) refl
    where
      go : (b : Bool) → is_marked base marks address ≡ b → is_marked base marks address ≡ false
      go false none = none
      go true marked =
          let block = is.blocks address marked in
          let place = at_place (arena_heap_state old) address block in
          absurd (out.more.new block.1.extent block.1.used (ap (λ (k : ℕ). extent_at k (extents_in (arena_heap_state old))) place ∙ block.1.there) place)

  pub moved_unmarked : (from held size to : ℕ) (between : ℕ) (cleared : List ℕ) → HasBlock (arena_heap_state old) from →
      IsGivenSize regions_of word_of arena_follows true true 1 old from held 16 size to new →
      is_marked between cleared from ≡ false → ((a : ℕ) → a ≢ from → is_marked between cleared a ≡ is_marked base marks a) →
      is_marked between cleared to ≡ false
  moved_unmarked from held size to between cleared was given gone stay = elim (cases_eq to from) [
    | inl same ↦ ap (is_marked between cleared) same ∙ gone
    | inr differ ↦ go differ (is_marked between cleared to) refl
  ]
    where
      go : to ≢ from → (b : Bool) → is_marked between cleared to ≡ b → is_marked between cleared to ≡ false
      go differ false none = none
      go differ true marked =
          let block = is.blocks to (sym (stay to differ) ∙ marked) in
          let place = at_place (arena_heap_state old) to block in
          absurd (given.moved.apart block.1.extent block.1.used (apart (arena_heap_state old) to from block was.1.low
          differ)
          (ap (λ (k : ℕ). extent_at k (extents_in (arena_heap_state old))) place ∙ block.1.there) place)

  module _ (base' : ℕ) (marks' : List ℕ) (count' : ℕ) (base_same : base' ≡ base) (len_same : length marks' ≡ length marks)
      (counted_now : count' ≡ count_below (is_marked base' marks') (2 ^ 64)) where
    -- a block more, and its mark
    pub made_marked : (size align address : ℕ) → IsHandedOut regions_of word_of arena_follows old size align address new →
        is_marked base' marks' address ≡ true →
        ((a : ℕ) → a ≢ address → is_marked base' marks' a ≡ is_marked base marks a) → IsMarked base' marks' count' new
    made_marked size align address out here others = record {
      some = omega (arith, base_same, is.some);
      count_is = counted_now;
      base_is = (found_same old new size align address out).base ∙ (is.base_is ∙ sym base_same);
      room = omega (arith, (found_same old new size align address out).len, is.room, len_same);
      blocks = λ a marked. elim (cases_eq a address) [
        | inl same ↦ subst (HasBlock (arena_heap_state new)) (sym same) (size, out.block)
        | inr differ ↦ (let block = is.blocks a (sym (others a differ) ∙ marked) in
            carried (arena_heap_state old) (arena_heap_state new) a block (out.more.kept block.1.extent block.1.used))
      ];
      marked = λ a block. elim (cases_eq a address) [
        | inl same ↦ ap (is_marked base' marks') same ∙ here
        | inr differ ↦ others a differ ∙ is.marked a (carried (arena_heap_state new) (arena_heap_state old) a block
            (λ there. out.more.only block.1.extent block.1.used there (apart (arena_heap_state new) a address block out.low
            differ)))
      ];
    }

    -- a block less, and its mark
    pub freed_marked : (address : ℕ) → HasBlock (arena_heap_state old) address →
        IsFreed regions_of word_of arena_follows true true 1 old address new → is_marked base' marks' address ≡ false →
        ((a : ℕ) → a ≢ address → is_marked base' marks' a ≡ is_marked base marks a) → IsMarked base' marks' count' new
    freed_marked address was freed here others = record {
      some = omega (arith, base_same, is.some);
      count_is = counted_now;
      base_is = freed.followed.same.base ∙ (is.base_is ∙ sym base_same);
      room = omega (arith, freed.followed.same.len, is.room, len_same);
      blocks = λ a marked. elim (cases_eq a address) [
        | inl same ↦ absurd (let none : is_marked base' marks' a ≡ false = ap (is_marked base' marks') same ∙ here in cc)
        | inr differ ↦ (let block = is.blocks a (sym (others a differ) ∙ marked) in
            carried (arena_heap_state old) (arena_heap_state new) a block (λ there.
            freed.less.only block.1.extent block.1.used there
            (apart (arena_heap_state old) a address block was.1.low differ)))
      ];
      marked = λ a block.
          let place = at_place (arena_heap_state new) a block in
          let there = ap (λ (k : ℕ). extent_at k (extents_in (arena_heap_state new))) place ∙ block.1.there in
          let differ : a ≢ address = λ same. freed.less.new block.1.extent block.1.used there (place ∙ ap (λ (k : ℕ). k - 16) same) in
          others a differ ∙ is.marked a (carried (arena_heap_state new) (arena_heap_state old) a block (freed.less.kept block.1.extent block.1.used));
    }

    -- a block of another size, and its mark
    pub moved_marked : (from held size to : ℕ) (between : ℕ) (cleared : List ℕ) → HasBlock (arena_heap_state old) from →
        IsGivenSize regions_of word_of arena_follows true true 1 old from held 16 size to new →
        is_marked between cleared from ≡ false → ((a : ℕ) → a ≢ from → is_marked between cleared a ≡ is_marked base marks a) →
        is_marked base' marks' to ≡ true → ((a : ℕ) → a ≢ to → is_marked base' marks' a ≡ is_marked between cleared a) → IsMarked base' marks' count' new
    moved_marked from held size to between cleared was given gone stay here others = record {
      some = omega (arith, base_same, is.some);
      count_is = counted_now;
      base_is = (resized_same old new from held size to given).base ∙ (is.base_is ∙ sym base_same);
      room = omega (arith, (resized_same old new from held size to given).len, is.room, len_same);
      blocks = λ a marked. elim (cases_eq a to) [
        | inl same ↦ subst (HasBlock (arena_heap_state new)) (sym same) (size, given.block)
        | inr differ ↦
            (let left : is_marked between cleared a ≡ true = sym (others a differ) ∙ marked in
            let other : a ≢ from = λ same. (let none : is_marked between cleared a ≡ false = ap (is_marked between cleared) same ∙ gone in cc) in
            let block = is.blocks a (sym (stay a other) ∙ left) in
            carried (arena_heap_state old) (arena_heap_state new) a block (given.moved.kept block.1.extent block.1.used
            (apart (arena_heap_state old) a from block was.1.low other)))
      ];
      marked = λ a block. elim (cases_eq a to) [
        | inl same ↦ ap (is_marked base' marks') same ∙ here
        | inr differ ↦
            (let place = at_place (arena_heap_state new) a block in
            let there = ap (λ (k : ℕ). extent_at k (extents_in (arena_heap_state new))) place ∙ block.1.there in
            let beside = apart (arena_heap_state new) a to block given.low differ in
            let other : a ≢ from = λ same. given.moved.gone block.1.extent block.1.used beside there (place ∙ ap (λ (k : ℕ). k - 16) same) in
            others a differ ∙ (stay a other ∙ is.marked a (carried (arena_heap_state new) (arena_heap_state old) a block
            (given.moved.only block.1.extent block.1.used beside))))
      ];
    }
