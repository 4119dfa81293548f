-- What lies on stacks, as blocks come and go.
use Rattle.std.proofs.Common.{◌≡◌, ℕ, ◌+◌, ◌-◌, ◌*◌, ◌/◌, ◌<◌, ◌≤◌, ◌⊎◌, List, Some, inl, inr, arith, subst, sym, refl, ap, ◌∙◌, Bool, false, Result, Ok, Err, IfOk}
use Rattle.std.proofs.lemmas.Bool.{cases_eq}
use Rattle.std.specs.Prelude.{slice_index, IfErr}
use Rattle.heap_memory.specs.declared.grant.Grant.{Grant}
use Rattle.heap_memory.specs.declared.grant.GrantFault.{GrantFault}
use Rattle.heap_memory.specs.Events.{Event}
use Rattle.dlmalloc.specs.Extents.{extent_at}
use Rattle.dlmalloc.specs.State.{HeapState, extents_in}
use Rattle.dlmalloc.specs.Heap.{state_of}
use Rattle.dlmalloc.specs.Blocks.{IsBlock, HasBlock, HasOneMore, usable}
use Rattle.dlmalloc.specs.declared.heap.Dlmalloc.{Dlmalloc}
use Rattle.dlmalloc.proofs.Extents.Lookup.{found}
use Rattle.dlmalloc.proofs.Resizing.InPlaceOrElsewhere.{size_at}
use Rattle.sound_heap.specs.Heap.{IsRequestRefused, IsBlockHandedOut}
use Rattle.sound_heap.specs.declared.heap_error.HeapError.{HeapError}
use Rattle.sound_heap.specs.declared.heap_error.HeapError.TheVariants.{BadAlign, NoBlock, Refused}
use Rattle.heap_cache.specs.Stacks.{height, AreWithin, LiesOn, IsPushed, IsPopped}
use Rattle.heap_cache.specs.Held.{IsHeld, IsOfClass, AreHeld, HasNoneFor, IsGiven}

-- ---- an address leaves a stack

module _ {rows rows' : List ℕ} {class address : ℕ} (within : AreWithin rows) (low : class < 66) (popped : IsPopped rows class address rows') where
  height_less : (c : ℕ) → height rows' c ≤ height rows c
  height_less c = go (cases_eq c class)
    where
      go : (c ≡ class) ⊎ (c ≡ class → ⊥) → height rows' c ≤ height rows c
      go (inl same) = subst (λ (k : ℕ). height rows' k ≤ height rows k) (sym same) (omega (arith, popped.less))
      go (inr differ) = let is = popped.others (c * 16) (λ same. differ (omega (arith, same))) in omega (arith, is)

  pub popped_within : AreWithin rows'
  unfolding height_less
  popped_within c c_low = let few = within c c_low in let less = height_less c in omega (arith, few, less)

  before : (c a : ℕ) → c < 66 → LiesOn rows' c a → LiesOn rows c a
  before c a c_low on =
      let few = within c c_low in
      let less = height_less c in
      let same = popped.others (c * 16 + on.place) (λ same. omega (arith, same, on.some, on.low, few, less)) in
      record { place = on.place; some = on.some; low = omega (arith, on.low, less); is = sym same ∙ on.is }

  was_on : LiesOn rows class address
  was_on = record { place = height rows class; some = omega (arith, popped.less); low = omega arith; is = popped.was }

  pub popped_held : (heap : HeapState) → AreHeld heap rows → AreHeld heap rows'
  unfolding before
  popped_held heap held = record {
    blocks = λ c a c_low on. held.blocks c a c_low (before c a c_low on);
    once = λ one other a one_low other_low x y. held.once one other a one_low other_low (before one a one_low x) (before other a other_low y);
  }

  -- what lies on a stack then lay there before, and what lay there before still does but for the address
  pub popped_before : (a : ℕ) → IsHeld rows' a → IsHeld rows a
  unfolding before
  popped_before a on = (on.0, on.1, before on.0 a on.1 on.2)

  pub popped_after : (a : ℕ) → IsHeld rows a → IsHeld rows' a ⊎ (a ≡ address)
  popped_after a on = go (cases_eq on.0 class)
    where
      few : on.2.place ≤ 15
      few = let most = within on.0 on.1 in omega (arith, most, on.2.low)

      slot : slice_index rows' (on.0 * 16 + on.2.place) ≡ slice_index rows (on.0 * 16 + on.2.place)
      slot = popped.others (on.0 * 16 + on.2.place) (λ same. omega (arith, same, few, on.2.some))

      go : (on.0 ≡ class) ⊎ (on.0 ≡ class → ⊥) → IsHeld rows' a ⊎ (a ≡ address)
      go (inr differ) =
          let is = popped.others (on.0 * 16) (λ same. differ (omega (arith, same))) in
          inl (on.0, on.1, record { place = on.2.place; some = on.2.some; low = omega (arith, on.2.low, is); is = slot ∙ on.2.is })
      go (inl same) = at (cases_eq on.2.place (height rows class))
        where
          at : (on.2.place ≡ height rows class) ⊎ (on.2.place ≡ height rows class → ⊥) → IsHeld rows' a ⊎ (a ≡ address)
          at (inl top) = inr (sym on.2.is ∙ (ap (slice_index rows) (omega (arith, same, top)) ∙ popped.was))
          at (inr under) =
              let below : on.2.place ≤ height rows class = subst (λ (k : ℕ). on.2.place ≤ height rows k) same on.2.low in
              let there : on.2.place ≤ height rows' class = omega (arith, below, under, popped.less) in
              inl (on.0, on.1, record { place = on.2.place; some = on.2.some; low = subst (λ (k : ℕ). on.2.place ≤ height rows' k) (sym same) there; is = slot ∙ on.2.is })

  pub popped_was : IsHeld rows address
  popped_was = (class, low, was_on)

  pub popped_block : (heap : HeapState) → AreHeld heap rows → IsOfClass heap class address
  popped_block heap held = held.blocks class address low was_on

  pub popped_gone : (heap : HeapState) → AreHeld heap rows → IsHeld rows' address → ⊥
  unfolding before was_on
  popped_gone heap held on =
      let both = held.once on.0 class address on.1 low (before on.0 address on.1 on.2) was_on in
      let place = on.2.place in
      let there : place ≤ height rows' class = subst (λ (k : ℕ). place ≤ height rows' k) both.0 on.2.low in
      let is : place ≡ height rows class = both.1 in
      omega (arith, there, is, popped.less)

-- a block of a class is a block
pub is_block : (heap : HeapState) (class address : ℕ) → IsOfClass heap class address → HasBlock heap address
is_block heap class address block = (
  block.extent.size - 8,
  record {
    extent = block.extent;
    there = block.there;
    low = block.low;
    used = block.used;
    holds = omega (arith, block.head);
    little = omega arith;
  },
)

-- a block of a class serves each request of the class
pub serves : (heap : HeapState) (class address size : ℕ) → size + 8 ≤ class * 16 → class * 16 ≤ size + 32 → IsOfClass heap class address → IsBlock heap address size
serves heap class address size holds near block = record {
  extent = block.extent;
  there = block.there;
  low = block.low;
  used = block.used;
  holds = omega (arith, holds, block.holds);
  little = omega (arith, near, block.little);
}

-- ---- a block comes onto a stack

module _ {rows rows' : List ℕ} {class address : ℕ} (within : AreWithin rows) (within' : AreWithin rows') (low : class < 66) (pushed : IsPushed rows class address rows') where
  -- what lies there lay there, or is the block
  abbrev Either : (c a : ℕ) → LiesOn rows' c a → Type 0
  Either c a on = ((was : LiesOn rows c a) × (was.place ≡ on.place)) ⊎ ((c ≡ class) × (a ≡ address) × (on.place ≡ height rows class + 1))

  room : height rows class + 1 ≤ 15
  room = let few = within' class low in let more = pushed.more in omega (arith, few, more)

  split : (c a : ℕ) → c < 66 → (on : LiesOn rows' c a) → Either c a on
  split c a c_low on = go (cases_eq c class)
    where
      few : on.place ≤ 15
      few = let most = within' c c_low in omega (arith, most, on.low)

      go : (c ≡ class) ⊎ (c ≡ class → ⊥) → Either c a on
      go (inr differ) =
          let is = pushed.others (c * 16) (λ same. differ (omega (arith, same))) (λ same. omega (arith, same, room)) in
          let slot = pushed.others (c * 16 + on.place) (λ same. omega (arith, same, few, on.some)) (λ same. differ (omega (arith, same, few, on.some, room))) in
          inl (record { place = on.place; some = on.some; low = omega (arith, on.low, is); is = sym slot ∙ on.is }, refl)
      go (inl same) = at_top (cases_eq on.place (height rows class + 1))
        where
          below : on.place ≤ height rows' class
          below = let place = on.place in subst (λ (k : ℕ). place ≤ height rows' k) same on.low

          at_top : (on.place ≡ height rows class + 1) ⊎ (on.place ≡ height rows class + 1 → ⊥) → Either c a on
          at_top (inl top) =
              let here : c * 16 + on.place ≡ class * 16 + (height rows class + 1) = omega (arith, same, top) in
              inr (same, sym on.is ∙ (ap (slice_index rows') here ∙ pushed.here), top)
          at_top (inr under) =
              let place = on.place in
              let less : place ≤ height rows class = let more = pushed.more in omega (arith, below, under, more) in
              let slot = pushed.others (c * 16 + on.place) (λ same. omega (arith, same, few, on.some)) (λ there. under (omega (arith, there, same))) in
              inl (record { place = on.place; some = on.some; low = subst (λ (k : ℕ). place ≤ height rows k) (sym same) less; is = sym slot ∙ on.is }, refl)

  pub pushed_held : (heap : HeapState) → IsOfClass heap class address → (IsHeld rows address → ⊥) → AreHeld heap rows → AreHeld heap rows'
  pushed_held heap block live held = record {
    blocks = λ c a c_low on. elim (split c a c_low on) [
      | inl was ↦ held.blocks c a c_low was.0
      | inr top ↦ subst (λ (k : ℕ). IsOfClass heap k a) (sym top.0) (subst (λ (k : ℕ). IsOfClass heap class k) (sym top.1) block)
    ];
    once = λ one other a one_low other_low x y. both one other a one_low other_low x y (split one a one_low x) (split other a other_low y);
  }
    where
      both : (one other a : ℕ) → one < 66 → other < 66 → (x : LiesOn rows' one a) → (y : LiesOn rows' other a) → Either one a x → Either other a y → (one ≡ other) × (x.place ≡ y.place)
      both one other a one_low other_low x y (inl was) (inl is) = let same = held.once one other a one_low other_low was.0 is.0 in (same.0, sym was.1 ∙ (same.1 ∙ is.1))
      both one other a one_low other_low x y (inl was) (inr top) = absurd (live (subst (λ (k : ℕ). IsHeld rows k) top.1 (one, one_low, was.0)))
      both one other a one_low other_low x y (inr top) (inl was) = absurd (live (subst (λ (k : ℕ). IsHeld rows k) top.1 (other, other_low, was.0)))
      both one other a one_low other_low x y (inr top) (inr is) = (top.0 ∙ sym is.0, top.2 ∙ sym is.2)

  -- what lies on a stack then lay there before or is the address, which does
  pub pushed_before : (a : ℕ) → IsHeld rows' a → IsHeld rows a ⊎ (a ≡ address)
  unfolding split
  pushed_before a on = elim (split on.0 a on.1 on.2) [
    | inl was ↦ inl (on.0, on.1, was.0)
    | inr top ↦ inr top.1
  ]

  pub pushed_here : IsHeld rows' address
  pushed_here = (class, low, record { place = height rows class + 1; some = omega arith; low = omega (arith, pushed.more); is = pushed.here })

  pub pushed_after : (a : ℕ) → IsHeld rows a → IsHeld rows' a
  unfolding room
  pushed_after a on = (on.0, on.1, record { place = on.2.place; some = on.2.some; low = high (cases_eq on.0 class); is = slot ∙ on.2.is })
    where
      few : on.2.place ≤ 15
      few = let most = within on.0 on.1 in omega (arith, most, on.2.low)

      slot : slice_index rows' (on.0 * 16 + on.2.place) ≡ slice_index rows (on.0 * 16 + on.2.place)
      slot = pushed.others (on.0 * 16 + on.2.place) (λ same. omega (arith, same, few, on.2.some)) (λ same. apart (cases_eq on.0 class) same)
        where
          apart : (on.0 ≡ class) ⊎ (on.0 ≡ class → ⊥) → on.0 * 16 + on.2.place ≡ class * 16 + (height rows class + 1) → ⊥
          apart (inl is) same = let under : on.2.place ≤ height rows class = subst (λ (k : ℕ). on.2.place ≤ height rows k) is on.2.low in omega (arith, same, is, under)
          apart (inr differ) same = differ (omega (arith, same, few, on.2.some, room))

      high : (on.0 ≡ class) ⊎ (on.0 ≡ class → ⊥) → on.2.place ≤ height rows' on.0
      high (inl is) = let under : on.2.place ≤ height rows class = subst (λ (k : ℕ). on.2.place ≤ height rows k) is on.2.low in
          subst (λ (k : ℕ). on.2.place ≤ height rows' k) (sym is) (omega (arith, under, pushed.more))
      high (inr differ) = let is = pushed.others (on.0 * 16) (λ same. differ (omega (arith, same))) (λ same. omega (arith, same, room)) in omega (arith, is, on.2.low)

-- the class of a block
pub class_of : (heap : HeapState) (address held : ℕ) → HasBlock heap address → held ≡ usable heap address → IsOfClass heap ((held + 8) / 16) address
class_of heap address held block is =
    let size = size_at heap (address - 16) block.1.extent block.1.there in
    record {
      extent = block.1.extent;
      there = block.1.there;
      low = block.1.low;
      used = block.1.used;
      head = omega (arith, block.1.holds);
      holds = omega (arith, is, size, block.1.holds);
      little = omega (arith, is, size, block.1.holds);
    }

-- ---- the heap hands out a block, or takes one back

place_of : (heap : HeapState) (class address : ℕ) (block : IsOfClass heap class address) → block.extent.at ≡ address - 16
place_of heap class address block = (found (address - 16) block.extent (extents_in heap) block.there).place

carried : (old new : HeapState) (class address : ℕ) (block : IsOfClass old class address) →
    (extent_at block.extent.at (extents_in old) ≡ Some block.extent → extent_at block.extent.at (extents_in new) ≡ Some block.extent) → IsOfClass new class address
carried old new class address block moves =
    let place = place_of old class address block in
    let was = ap (λ (k : ℕ). extent_at k (extents_in old)) place ∙ block.there in
    record {
      extent = block.extent;
      there = ap (λ (k : ℕ). extent_at k (extents_in new)) (sym place) ∙ moves was;
      low = block.low;
      used = block.used;
      head = block.head;
      holds = block.holds;
      little = block.little;
    }

module _ {rows : List ℕ} {old : HeapState} (new : HeapState) (address : ℕ) (held : AreHeld old rows) where
  pub more_held : HasOneMore old new (address - 16) → AreHeld new rows
  more_held more = record {
    blocks = λ c a c_low on. let block = held.blocks c a c_low on in carried old new c a block (more.kept block.extent block.used);
    once = held.once;
  }

  pub more_fresh : HasOneMore old new (address - 16) → IsHeld rows address → ⊥
  more_fresh more on =
      let block = held.blocks on.0 address on.1 on.2 in
      let place = place_of old on.0 address block in
      more.new block.extent block.used (ap (λ (k : ℕ). extent_at k (extents_in old)) place ∙ block.there) place

  pub less_held : 16 ≤ address → (IsHeld rows address → ⊥) → HasOneMore new old (address - 16) → AreHeld new rows
  less_held high live less = record {
    blocks = λ c a c_low on.
        let block = held.blocks c a c_low on in
        let place = place_of old c a block in
        carried old new c a block (λ there. less.only block.extent block.used there
        (λ same. let is : a ≡ address = omega (arith, same, place, block.low, high) in live (subst (λ (k : ℕ). IsHeld rows k) is (c, c_low, on))));
    once = held.once;
  }

-- after a request what lies on stacks is held, and what is handed out is none of it
module _ {A : Type 0} (regions : A → List Grant) (word : A → ℕ → ℕ) (zeros : A → Bool) (follows : A → List Event → A → Type 0) (refuses : A → A → Type 0) (denies : A → ℕ → GrantFault → Type 0)
    (old new : Dlmalloc A) (rows : List ℕ) (held : AreHeld (state_of word old) rows) (size align : ℕ) where
  refused_held : (error : HeapError) → IsRequestRefused regions word follows refuses denies old size align error new → AreHeld (state_of word new) rows
  refused_held BadAlign refused = subst (λ (heap : Dlmalloc A). AreHeld (state_of word heap) rows) (sym refused.1) held
  refused_held NoBlock refused = absurd refused
  refused_held (Refused error) refused = subst (λ (heap : HeapState). AreHeld heap rows) (sym refused.1.same.state) held

  pub requested_held : (answer : Result ℕ HeapError) → IfOk answer (λ address. IsBlockHandedOut regions word zeros follows old size align false address new) →
      IfErr answer (λ error. IsRequestRefused regions word follows refuses denies old size align error new) → AreHeld (state_of word new) rows
  requested_held (Ok address) ok err = more_held (state_of word new) address held ok.handed.more
  requested_held (Err error) ok err = refused_held error err

  pub requested_given : HasNoneFor rows size → (answer : Result ℕ HeapError) → IfOk answer (λ address. IsBlockHandedOut regions word zeros follows old size 16 false address new) →
      IfOk answer (λ address. IsGiven regions word zeros follows old rows size address new rows)
  requested_given none (Ok address) ok = inr (none, ok, refl, more_fresh (state_of word new) address held ok.handed.more)
  requested_given none (Err error) ok = tt

  pub requested_fresh : (answer : Result ℕ HeapError) → IfOk answer (λ address. IsBlockHandedOut regions word zeros follows old size align false address new) → IfOk answer (λ address. IsHeld rows address → ⊥)
  requested_fresh (Ok address) ok = more_fresh (state_of word new) address held ok.handed.more
  requested_fresh (Err error) ok = tt
