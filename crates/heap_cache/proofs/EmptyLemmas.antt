-- Emptying the stacks, one address after the other.
use Rattle.std.proofs.Common.{◌≡◌, ℕ, ◌+◌, ◌-◌, ◌*◌, ◌/◌, ◌<◌, ◌≤◌, ◌⊎◌, List, [], ◌∷◌, Bool, true, false, inl, inr, arith, subst, sym, refl, ◌∙◌}
use Rattle.std.proofs.lemmas.Bool.{cases_eq}
use Rattle.heap_memory.specs.declared.grant.Grant.{Grant}
use Rattle.heap_memory.specs.Events.{Event}
use Rattle.dlmalloc.specs.State.{extents_in}
use Rattle.dlmalloc.specs.Heap.{state_of}
use Rattle.dlmalloc.specs.Blocks.{HasBlock, HasOneMore, KeepsBlocks}
use Rattle.dlmalloc.specs.AfterFree.{IsFreed}
use Rattle.dlmalloc.specs.declared.heap.Dlmalloc.{Dlmalloc}
use Rattle.heap_cache.specs.Stacks.{height, AreWithin, IsPopped}
use Rattle.heap_cache.specs.Held.{IsHeld}
use Rattle.heap_cache.specs.Emptied.{AreEmpty, KeepsLive, HasLetGo}
use Rattle.heap_cache.proofs.HeldLemmas.{popped_was, popped_before, popped_after, popped_within}

-- after so many turns, of which each row has 16, a row is empty or will be at the end of its own
abbrev pub Emptying : ℕ → List ℕ → Type 0
Emptying turn rows = (class : ℕ) → class < 66 → (height rows class ≡ 0) ⊎ (turn + height rows class ≤ class * 16 + 15)

pub emptying_begins : (rows : List ℕ) → AreWithin rows → Emptying 0 rows
emptying_begins rows within class low = let few = within class low in inr (omega (arith, few))

pub emptied : (rows : List ℕ) → Emptying 1056 rows → AreEmpty rows
emptied rows emptying class low = go (emptying class low)
  where
    go : (height rows class ≡ 0) ⊎ (1056 + height rows class ≤ class * 16 + 15) → height rows class ≡ 0
    go (inl none) = none
    go (inr more) = absurd (omega (arith, more, low))

pub turned_none : (turn : ℕ) (rows : List ℕ) → AreWithin rows → height rows (turn / 16) ≡ 0 → Emptying turn rows → Emptying (turn + 1) rows
turned_none turn rows within none emptying class low = go (cases_eq class (turn / 16)) (emptying class low)
  where
    go : (class ≡ turn / 16) ⊎ (class ≡ turn / 16 → ⊥) → (height rows class ≡ 0) ⊎ (turn + height rows class ≤ class * 16 + 15) → (height rows class ≡ 0) ⊎ (turn + 1 + height rows class ≤ class * 16 + 15)
    go (inl same) was = inl (subst (λ (k : ℕ). height rows k ≡ 0) (sym same) none)
    go (inr differ) (inl is) = inl is
    go (inr differ) (inr more) = let few = within class low in inr (omega (arith, few, more, differ))

pub turned_one : (turn : ℕ) (rows rows' : List ℕ) (address : ℕ) → AreWithin rows → IsPopped rows (turn / 16) address rows' → Emptying turn rows → Emptying (turn + 1) rows'
turned_one turn rows rows' address within popped emptying class low = go (cases_eq class (turn / 16)) (emptying class low)
  where
    go : (class ≡ turn / 16) ⊎ (class ≡ turn / 16 → ⊥) → (height rows class ≡ 0) ⊎ (turn + height rows class ≤ class * 16 + 15) → (height rows' class ≡ 0) ⊎ (turn + 1 + height rows' class ≤ class * 16 + 15)
    go (inl same) was = at was
      where
        less : height rows' class + 1 ≡ height rows class
        less = subst (λ (k : ℕ). height rows' k + 1 ≡ height rows k) (sym same) popped.less

        at : (height rows class ≡ 0) ⊎ (turn + height rows class ≤ class * 16 + 15) → (height rows' class ≡ 0) ⊎ (turn + 1 + height rows' class ≤ class * 16 + 15)
        at (inl none) = absurd (omega (arith, none, less))
        at (inr more) = inr (omega (arith, more, less))
    go (inr differ) was = at was
      where
        is : height rows' class ≡ height rows class
        is = popped.others (class * 16) (λ same. differ (omega (arith, same)))

        at : (height rows class ≡ 0) ⊎ (turn + height rows class ≤ class * 16 + 15) → (height rows' class ≡ 0) ⊎ (turn + 1 + height rows' class ≤ class * 16 + 15)
        at (inl none) = inl (is ∙ none)
        at (inr more) = let few = within class low in inr (omega (arith, more, few, is, differ))

-- ---- what callers have stays

module _ {A : Type 0} (word : A → ℕ → ℕ) where
  pub live_same : (heap : Dlmalloc A) (rows : List ℕ) → KeepsLive word heap rows heap rows
  live_same heap rows = record {
    stays = λ used is there live. there;
    were = λ used is there. there;
    only = λ used is there live. live;
    held = λ address on. on;
    bytes = record { words = λ block there is k low high whole. refl; heads = λ block there is. refl };
  }

  pub live_then : (old : Dlmalloc A) (rows : List ℕ) (middle : Dlmalloc A) (rows' : List ℕ) (new : Dlmalloc A) (rows'' : List ℕ) → KeepsLive word old rows middle rows' → KeepsLive word middle rows' new rows'' → KeepsLive word old rows new rows''
  live_then old rows middle rows' new rows'' one two = record {
    stays = λ used is there live. two.stays used is (one.stays used is there live) (λ on. live (one.held (used.at + 16) on));
    were = λ used is there. one.were used is (two.were used is there);
    only = λ used is there live. one.only used is (two.were used is there) (two.only used is there live);
    held = λ address on. one.held address (two.held address on);
    bytes = record {
      words = λ block there is k low high whole. two.bytes.words block there is k low high whole ∙ one.bytes.words block (two.were block is there) is k low high whole;
      heads = λ block there is. two.bytes.heads block there is ∙ one.bytes.heads block (two.were block is there) is;
    };
  }

  pub live_freed : (old new : Dlmalloc A) (rows rows' : List ℕ) (class address : ℕ) → AreWithin rows → class < 66 → 16 ≤ address → IsPopped rows class address rows' →
      HasOneMore (state_of word new) (state_of word old) (address - 16) → KeepsBlocks (extents_in (state_of word new)) (word old.system) (word new.system) → KeepsLive word old rows new rows'
  live_freed old new rows rows' class address within low high popped less kept = record {
    stays = λ used is there live. less.only used is there
        (λ same. live (subst (λ (k : ℕ). IsHeld rows k) (omega (arith, same, high)) (popped_was within low popped)));
    were = λ used is there. less.kept used is there;
    only = λ used is there live on. elim (popped_after within low popped (used.at + 16) on) [
      | inl still ↦ live still
      | inr same ↦ less.new used is there (omega (arith, same))
    ];
    held = λ other on. popped_before within low popped other on;
    bytes = kept;
  }

-- ---- what was freed

module _ {A : Type 0} (regions : A → List Grant) (word : A → ℕ → ℕ) (follows : A → List Event → A → Type 0) (frees parts : A → Bool) (unit : A → ℕ) where
  pub gone_none : (heap : Dlmalloc A) (rows : List ℕ) → HasLetGo regions word follows frees parts unit heap rows heap rows
  gone_none heap rows = record { addresses = []; freed = refl; live = live_same word heap rows }

  pub gone_more : (old : Dlmalloc A) (rows : List ℕ) (middle : Dlmalloc A) (rows' : List ℕ) (new : Dlmalloc A) (rows'' : List ℕ) (class address : ℕ) → AreWithin rows' → class < 66 → 16 ≤ address →
      HasLetGo regions word follows frees parts unit old rows middle rows' → IsPopped rows' class address rows'' → IsFreed regions word follows (frees middle.system) (parts middle.system) (unit middle.system) middle address new →
      HasLetGo regions word follows frees parts unit old rows new rows''
  gone_more old rows middle rows' new rows'' class address within low high gone popped is = record {
    addresses = address ∷ gone.addresses;
    freed = (middle, gone.freed, gone.live.held address (popped_was within low popped), is);
    live = live_then word old rows middle rows' new rows'' gone.live (live_freed word middle new rows' rows'' class address within low high popped is.less is.kept);
  }

  -- what a loop keeps that lets go of a row's highest address in each turn
  abbrev pub Passing : Dlmalloc A → List ℕ → ℕ → Dlmalloc A → List ℕ → Type 0
  Passing old rows turn new rows' = HasLetGo regions word follows frees parts unit old rows new rows' × AreWithin rows' × Emptying turn rows'

  pub passed : (old : Dlmalloc A) (rows : List ℕ) (turn : ℕ) → turn < 1056 → (middle new : Dlmalloc A × List ℕ) → (result : Bool) →
      (result ≡ true → (address : ℕ) × HasBlock (state_of word middle.0) address × IsPopped middle.1 (turn / 16) address new.1 × IsFreed regions word follows (frees middle.0.system) (parts middle.0.system) (unit middle.0.system) middle.0 address new.0) →
      (result ≡ false → height middle.1 (turn / 16) ≡ 0) → (result ≡ false → new ≡ middle) → Passing old rows turn middle.0 middle.1 → Passing old rows (turn + 1) new.0 new.1
  passed old rows turn more middle new true freed none same was =
      let one = freed refl in
      let low : turn / 16 < 66 = omega (arith, more) in (
        gone_more old rows middle.0 middle.1 new.0 new.1 (turn / 16) one.0 was.1 low one.1.1.low was.0 one.2 one.3,
        popped_within was.1 low one.2,
        turned_one turn middle.1 new.1 one.0 was.1 one.2 was.2,
      )
  passed old rows turn more middle new false freed none same was =
      subst (λ (now : Dlmalloc A × List ℕ). Passing old rows (turn + 1) now.0 now.1) (sym (same refl)) (was.0, was.1, turned_none turn middle.1 was.1 (none refl) was.2)
