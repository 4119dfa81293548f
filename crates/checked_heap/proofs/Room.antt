-- A heap over an arena refuses where it has to, and there alone.
use Rattle.std.specs.Prelude.{◌≡◌, ℕ, zero, suc, ◌+◌, ◌<◌, ◌≤◌, true, false, nat_le, List, [], ◌∷◌, IsTrue, length}
use Rattle.std.proofs.Common.{◌∙◌, ap, sym, subst, refl, inl, inr, arith, length-append}
use Rattle.std.proofs.lemmas.Bool.Decides.{nat_tests}
use Rattle.std.specs.Int.{IsPowerOfTwo}
use Rattle.heap_memory.specs.declared.grant.Grant.{Grant}
use Rattle.heap_memory.specs.Events.{Granted}
use Rattle.heap_memory.specs.Regions.{with_grant}
use Rattle.heap_memory.specs.Runs.{begins_in}
use Rattle.dlmalloc_chunks.specs.Request.{padded, enlarged, limit, round_up}
use Rattle.dlmalloc.specs.Served.{IsServed}
use Rattle.dlmalloc.specs.Requested.{asked, IsServedAt}
use Rattle.dlmalloc.specs.Moved.{IsResized}
use Rattle.dlmalloc.specs.declared.heap.Dlmalloc.{Dlmalloc}
use Rattle.dlmalloc.specs.declared.malloc_error.MallocError.TheVariants.{TooLarge, System}
use Rattle.heap_arena.specs.Grants.{grant_at, grants, are_between}
use Rattle.heap_arena.specs.Arena.{regions_of, word_of, end_of, has_room, IsArenaAfter}
use Rattle.heap_arena.specs.declared.arena.Arena.{Arena}
use Rattle.sound_heap.specs.declared.heap_error.HeapError.{HeapError}
use Rattle.sound_heap.specs.declared.heap_error.HeapError.TheVariants.{BadAlign, NoBlock, Refused}
use Rattle.checked_heap.specs.Library.{IsResizeRefused}
use Rattle.sound_heap.specs.Heap.{HasBlock, IsRequestRefused}
use Rattle.checked_heap.specs.Checked.{arena_zeros, arena_follows, arena_refuses, arena_denies, arena_heap_state}
use Rattle.checked_heap.specs.Room.{HasNoRoom, IsRefused, IsRefusedResize}

-- ---- what is refused had to be

pub refused_for : (old new : Dlmalloc Arena) (size align : ℕ) (error : HeapError) →
    IsRequestRefused regions_of word_of arena_follows arena_refuses arena_denies old size align error new →
    IsRefused old size align
refused_for old new size align BadAlign is = inl is.0
refused_for old new size align NoBlock is = absurd is
refused_for old new size align (Refused TooLarge) is = inr (inl is.1.refused)
refused_for old new size align (Refused (System fault)) is =
    let why = is.1.refused.1 in inr (inr (record { none_chosen = why.none_chosen; arena_full = why.denied.1 }))

pub resize_refused_for : (old new : Dlmalloc Arena) (address size : ℕ) (error : HeapError) →
    IsResizeRefused regions_of word_of arena_follows arena_refuses arena_denies old address size error new →
    IsRefusedResize old address size
resize_refused_for old new address size BadAlign is = absurd is
resize_refused_for old new address size NoBlock is = inl is.0
resize_refused_for old new address size (Refused TooLarge) is = inr (inl is.1.refused)
resize_refused_for old new address size (Refused (System fault)) is =
    let why = is.1.refused.1 in inr (inr (is.2 (λ same. cc), record { none_chosen = why.none_chosen; arena_full = why.denied.1 }))

-- ---- what was granted had room

-- a table has as many grants as it counts
grants_length : (words : List ℕ) (count : ℕ) → length (grants words count) ≡ count
unfolding grants
grants_length words zero = refl
grants_length words (suc count) = length-append (grants words count) (grant_at words count ∷ []) ∙ omega (arith, grants_length words count)

with_length : (grant : Grant) (regions : List Grant) → length (with_grant grant regions) ≡ length regions + 1
with_length grant [] = refl
with_length grant (region ∷ regions) = grind (arith, nat_tests, with_length grant regions)

-- a grant is between the addresses between which it and others are
with_between : (low high : ℕ) (grant : Grant) (regions : List Grant) →
    IsTrue (are_between low high (with_grant grant regions)) → (low ≤ grant.base) × (grant.base + grant.size ≤ high)
with_between low high grant [] between = grind (arith, nat_tests)
with_between low high grant (region ∷ regions) between = grind (arith, nat_tests, with_between low high grant regions)

module _ (old new : Arena) (size : ℕ) (grant : Grant) (after : IsArenaAfter old (Granted size grant ∷ []) new)
    (regions : regions_of new ≡ with_grant grant (regions_of old)) (some : 0 < grant.size) where
  granted_room : has_room old size ≡ true
  granted_room =
      let within = with_between new.base new.top grant (regions_of old)
      (subst (λ (rs : List Grant). IsTrue (are_between new.base new.top rs)) regions new.between) in
      let base = after.same.base in
      let len = after.same.len in
      let table = after.same.table in
      let risen = new.risen in
      let ends = new.ends in
      let own : begins_in old.base (end_of old) grant ≡ true = grind (arith, nat_tests, within, base, len, risen, ends, some) in
      let place = after.placed.0 own in
      let count : new.table.count ≡ old.table.count + 1 =
      sym (grants_length new.table.words.now new.table.count) ∙ (ap length regions
      ∙ (with_length grant (regions_of old) ∙ ap (λ (n : ℕ). n + 1) (grants_length old.table.words.now
      old.table.count))) in
      let room = new.table.room in
      grind (arith, nat_tests, within, base, len, table, risen, ends, place, count, room)

-- ---- what is served was not to be refused

served_room : (old new : Dlmalloc Arena) (size address : ℕ) → IsServed regions_of word_of arena_zeros arena_follows old size
    address new → HasNoRoom old (padded size) → ⊥
served_room old new size address served none = elim served.cut [
  | inl found ↦ (let is = found.0.is_chosen.is in let not_so = none.none_chosen in cc)
  | inr fresh ↦
      (let long = fresh.1.room in
      let room = granted_room old.system new.system (round_up (padded size + 96) old.granularity) fresh.0 fresh.2 fresh.3 (omega (arith, long)) in
      let not_so = none.arena_full in
      cc)
]

asked_low : (size align : ℕ) → align ≤ 16 → asked size align ≡ size
asked_low size align low = let few : nat_le align 16 ≡ true = grind (arith, nat_tests) in rw few refl

asked_high : (size align : ℕ) → 16 < align → asked size align ≡ enlarged size align
asked_high size align high = let many : nat_le align 16 ≡ false = grind (arith, nat_tests) in rw many refl

served_at_room : (old new : Dlmalloc Arena) (size align address : ℕ) →
    IsServedAt regions_of word_of arena_zeros arena_follows old size align address new →
    HasNoRoom old (padded (asked size align)) → ⊥
served_at_room old new size align address served none = elim served [
  | inl low ↦ served_room old new size address low.1 (subst (λ (n : ℕ). HasNoRoom old (padded n)) (asked_low size align low.0) none)
  | inr high ↦ served_room old high.1.middle (enlarged size align) high.1.greater high.1.served
      (subst (λ (n : ℕ). HasNoRoom old (padded n)) (asked_high size align high.0) none)
]

pub not_refused : (old middle : Dlmalloc Arena) (size align address : ℕ) → IsPowerOfTwo align → asked size align < limit old.granularity →
    IsServedAt regions_of word_of arena_zeros arena_follows old size align address middle → IsRefused old size align → ⊥
not_refused old middle size align address power small served refused = elim refused [
  | inl no_power ↦ no_power power
  | inr others ↦ elim others [ inl large ↦ omega (arith, small, large) | inr none ↦ served_at_room old middle size align address served none ]
]

pub resize_not_refused : (old new : Dlmalloc Arena) (from held size to : ℕ) → HasBlock (arena_heap_state old) from → size < limit old.granularity →
    IsResized regions_of word_of arena_zeros arena_follows true true 1 old from held 16 size to new →
    IsRefusedResize old from size → ⊥
resize_not_refused old new from held size to block small resized refused = elim refused [
  | inl none ↦ none block
  | inr others ↦
      elim others [
        | inl large ↦ omega (arith, small, large)
        | inr full ↦
            elim resized [
              | inl here ↦ (let stays = here.2.state in let not_so = full.0 in cc)
              | inr moved ↦ served_at_room old moved.1.middle size 16 to moved.1.served full.1
            ]
      ]
]
