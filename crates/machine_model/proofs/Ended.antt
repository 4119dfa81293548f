-- A block ends: the state without it is good, and the memory holds what is known of the others.
use Rattle.std.proofs.Common.{◌≡◌, ◌≢◌, ℕ, zero, suc, List, [], ◌∷◌, map, get_or, slice_set, refl, ap, arith, Option, Some, None, option_map}
use Rattle.machine_model.specs.State.{State, Block, block_at}
use Rattle.machine_model.specs.Memory.{HoldsBytes}
use Rattle.machine_model.specs.Answer.{without_block, all_ended}
use Rattle.machine_model.specs.Machine.{outline}
use Rattle.machine_model.specs.Run.{IsGood}

-- ---- lists by number

-- what is left was there, under another number
pub left_at : {A : Type 0} (blocks : List (Option A)) (number i : ℕ) (block : A) →
    get_or (slice_set blocks number None) i None ≡ Some block → (i ≢ number) × (get_or blocks i None ≡ Some block)
left_at [] number i block is = cc
left_at (first ∷ rest) zero zero block is = cc
left_at (first ∷ rest) zero (suc i) block is = ((λ e. absurd (omega arith)), is)
left_at (first ∷ rest) (suc number) zero block is = ((λ e. absurd (omega arith)), is)
left_at (first ∷ rest) (suc number) (suc i) block is = let later = left_at rest number i block is in ((λ e. later.0 (omega arith)), later.1)

pub outline_left : (blocks : List (Option Block)) (number : ℕ) → map (option_map outline)
    (without_block blocks number) ≡ slice_set (map (option_map outline) blocks) number None
outline_left [] number = refl
outline_left (first ∷ rest) zero = refl
outline_left (first ∷ rest) (suc number) = ap (λ xs. option_map outline first ∷ xs) (outline_left rest number)

-- ---- the state

pub good_ended : (s : State) (number : ℕ) → IsGood s → IsGood (record s { blocks = without_block s.blocks number })
good_ended s number good = record {
  each = λ i block is. (let was = left_at s.blocks number i block is in good.each i block was.1);
  apart = λ i j a b is_a is_b differ. good.apart i j a b (left_at s.blocks number i a is_a).1 (left_at s.blocks number j b is_b).1 differ;
  heap_order = good.heap_order;
  user_order = good.user_order;
  heap = good.heap;
  users = good.users;
  frames = good.frames;
  slots = good.slots;
  are_slots = good.are_slots;
  no_slot_twice = good.no_slot_twice;
}

pub holds_ended : (reached : ℕ → Option ℕ) (blocks : List (Option Block)) (number : ℕ) → HoldsBytes reached blocks →
    HoldsBytes reached (without_block blocks number)
holds_ended reached blocks number holds = record { known = λ i k byte block is cell. holds.known i k byte block (left_at blocks number i block is).1 cell }

-- ---- all blocks end

pub none_live : (blocks : List (Option Block)) (number : ℕ) (block : Block) → block_at (all_ended blocks) number ≡ Some block → ⊥
none_live [] number block is = cc
none_live (first ∷ rest) zero block is = cc
none_live (first ∷ rest) (suc number) block is = none_live rest number block is

pub good_none : (s : State) → IsGood s → IsGood (record s { blocks = all_ended s.blocks })
good_none s good = record {
  each = λ number block is. absurd (none_live s.blocks number block is);
  apart = λ i j a b is_a is_b differ. absurd (none_live s.blocks i a is_a);
  heap_order = good.heap_order;
  user_order = good.user_order;
  heap = good.heap;
  users = good.users;
  frames = good.frames;
  slots = good.slots;
  are_slots = good.are_slots;
  no_slot_twice = good.no_slot_twice;
}

pub holds_ended_all : (reached : ℕ → Option ℕ) (blocks : List (Option Block)) → HoldsBytes reached (all_ended blocks)
holds_ended_all reached blocks = record { known = λ number k byte block is cell. absurd (none_live blocks number block is) }
