-- A block gets another size, where it is or elsewhere: the state stays good, and the memory holds what is known of all blocks.
use Rattle.std.proofs.Common.{◌≡◌, ◌≢◌, ℕ, zero, suc, ◌+◌, ◌<◌, ◌⊎◌, inl, inr, List, [], ◌∷◌, length, map, get_or, slice_set, refl, sym, ap, ◌∙◌, subst, arith, Option, Some, None, option_map}
use Rattle.machine_model.specs.State.{State, Cell, Known, Block, block_at, cell_at, cover}
use Rattle.machine_model.specs.Room.{AreBytesApart}
use Rattle.machine_model.specs.Memory.{HoldsBytes}
use Rattle.machine_model.specs.Machine.{outline}
use Rattle.machine_model.specs.Answer.{with_block, without_block, resized_cells, resized_block}
use Rattle.machine_model.specs.Run.{IsGood, IsGoodBlock}
use Rattle.machine_model.proofs.Known.{changed_at}
use Rattle.machine_model.proofs.Placed.{turned}

-- ---- cells

pub length-resized : (n : ℕ) (cells : List Cell) → length (resized_cells n cells) ≡ n
length-resized zero cells = refl
length-resized (suc n) [] = ap suc (length-resized n [])
length-resized (suc n) (cell ∷ cells) = ap suc (length-resized n cells)

-- what is known of the cells was known before, of one of the first
pub resized_known : (n : ℕ) (cells : List Cell) (k byte : ℕ) → cell_at (resized_cells n cells) k ≡ Known byte → (k < n) × (cell_at cells k ≡ Known byte)
resized_known zero cells k byte is = cc
resized_known (suc n) [] zero byte is = cc
resized_known (suc n) [] (suc k) byte is = let later = resized_known n [] k byte is in (omega (arith, later.0), later.1)
resized_known (suc n) (cell ∷ cells) zero byte is = (omega arith, is)
resized_known (suc n) (cell ∷ cells) (suc k) byte is = let later = resized_known n cells k byte is in (omega (arith, later.0), later.1)

-- ---- lists by number

-- a block after another took the place of one is that one, or was there
pub replaced_at : {A : Type 0} (blocks : List (Option A)) (number : ℕ) (new : A) (i : ℕ) (block : A) →
    get_or (slice_set blocks number (Some new)) i None ≡ Some block →
    ((i ≡ number) × (new ≡ block)) ⊎ ((i ≢ number) × (get_or blocks i None ≡ Some block))
replaced_at [] number new i block is = cc
replaced_at (first ∷ rest) zero new zero block is = inl (refl, cc)
replaced_at (first ∷ rest) zero new (suc i) block is = inr ((λ e. absurd (omega arith)), is)
replaced_at (first ∷ rest) (suc number) new zero block is = inr ((λ e. absurd (omega arith)), is)
replaced_at (first ∷ rest) (suc number) new (suc i) block is = elim (replaced_at rest number new i block is) [
  | inl same ↦ inl (ap suc same.0, same.1)
  | inr other ↦ inr ((λ e. other.0 (omega arith)), other.1)
]

pub replaced_stays : {A : Type 0} (blocks : List (Option A)) (number i : ℕ) (block : A) (new : Option A) → i ≢ number →
    get_or blocks i None ≡ Some block → get_or (slice_set blocks number new) i None ≡ Some block
replaced_stays [] number i block new other is = cc
replaced_stays (first ∷ rest) zero zero block new other is = absurd (other refl)
replaced_stays (first ∷ rest) zero (suc i) block new other is = is
replaced_stays (first ∷ rest) (suc number) zero block new other is = is
replaced_stays (first ∷ rest) (suc number) (suc i) block new other is = replaced_stays rest number i block new (λ e. other (ap suc e)) is

pub replaced_here : {A : Type 0} (blocks : List (Option A)) (number : ℕ) (old new : A) →
    get_or blocks number None ≡ Some old → get_or (slice_set blocks number (Some new)) number None ≡ Some new
replaced_here [] number old new is = cc
replaced_here (first ∷ rest) zero old new is = refl
replaced_here (first ∷ rest) (suc number) old new is = replaced_here rest number old new is

-- the outline of a changed block takes the place of the old one
pub outline_changed : (blocks : List (Option Block)) (number : ℕ) (change : Block → Block) (block : Block) → block_at blocks number ≡ Some block →
    map (option_map outline) (with_block blocks number change) ≡ slice_set (map (option_map outline) blocks) number (Some (outline (change block)))
outline_changed [] number change block is = cc
outline_changed (first ∷ rest) zero change block is = ap (λ (found : Option Block).
    option_map outline (option_map change found) ∷ map (option_map outline) rest) is
outline_changed (first ∷ rest) (suc number) change block is = ap (λ xs. option_map outline first ∷ xs) (outline_changed rest number change block is)

-- ---- the state

-- The state is good if it is so without the block, and that is good at its place and lies beside all others there.
pub good_resized : (s : State) (number : ℕ) (change : Block → Block) (block : Block) →
    IsGood (record s { blocks = without_block s.blocks number }) → block_at s.blocks number ≡ Some block →
    IsGoodBlock s.heap (change block) →
    ((i : ℕ) (other : Block) → i ≢ number → block_at s.blocks i ≡ Some other →
    AreBytesApart other.address (cover other) (change block).address (cover (change block))) →
    IsGood (record s { blocks = with_block s.blocks number change })
good_resized s number change block good is here apart = record {
  each = λ i it at. elim (changed_at s.blocks number change i it at) [
    | inl same ↦ (let one : same.1.0 ≡ block = cc (same.1.1, is) in
        subst (λ b. IsGoodBlock s.heap b) (ap change (sym one) ∙ same.1.2)
        (record { aligned = here.aligned; aligned_16 = here.aligned_16; cells = here.cells; granted = here.granted }))
    | inr other ↦ good.each i it (replaced_stays s.blocks number i it None other.0 other.1)
  ];
  apart = λ i j a b is_a is_b differ. elim (changed_at s.blocks number change i a is_a) [
    | inl same_a ↦ elim (changed_at s.blocks number change j b is_b) [
      | inl same_b ↦ absurd (differ (same_a.0 ∙ sym same_b.0))
      | inr other_b ↦ (let one : same_a.1.0 ≡ block = cc (same_a.1.1, is) in
          subst (λ x. AreBytesApart x.address (cover x) b.address (cover b)) (ap change (sym one) ∙ same_a.1.2)
          (turned b.address (cover b) (change block).address (cover (change block)) (apart j b other_b.0 other_b.1)))
    ]
    | inr other_a ↦ elim (changed_at s.blocks number change j b is_b) [
      | inl same_b ↦ (let one : same_b.1.0 ≡ block = cc (same_b.1.1, is) in
          subst (λ x. AreBytesApart a.address (cover a) x.address (cover x)) (ap change (sym one) ∙ same_b.1.2) (apart i a other_a.0 other_a.1))
      | inr other_b ↦ good.apart i j a b (replaced_stays s.blocks number i a None other_a.0 other_a.1)
          (replaced_stays s.blocks number j b None other_b.0 other_b.1) differ
    ]
  ];
  heap_order = good.heap_order;
  user_order = good.user_order;
  heap = good.heap;
  users = good.users;
  frames = good.frames;
  slots = good.slots;
  are_slots = good.are_slots;
  no_slot_twice = good.no_slot_twice;
}

-- A memory holds what is known of all, if it has the bytes of the other blocks, and those of the block that both sizes
-- have.
pub holds_resized : (reached : ℕ → Option ℕ) (blocks : List (Option Block)) (number address size : ℕ) (align : Block → ℕ)
    (block : Block) → block_at blocks number ≡ Some block →
    ((i k byte : ℕ) (other : Block) → i ≢ number → block_at blocks i ≡ Some other → cell_at other.cells k ≡ Known byte →
    reached (other.address + k) ≡ Some byte) →
    ((k byte : ℕ) → k < size → cell_at block.cells k ≡ Known byte → reached (address + k) ≡ Some byte) →
    HoldsBytes reached (with_block blocks number (resized_block address size align))
holds_resized reached blocks number address size align block is others here = record {
  known = λ i k byte it at cell. elim (changed_at blocks number (resized_block address size align) i it at) [
    | inl same ↦ (
        let one : same.1.0 ≡ block = cc (same.1.1, is) in
        let place : address ≡ it.address = ap (λ b. b.address) same.1.2 in
        let cells : resized_cells size block.cells ≡ it.cells = ap (λ b. resized_cells size b.cells) (sym one) ∙ ap (λ b. b.cells) same.1.2 in
        let was = resized_known size block.cells k byte (ap (λ cs. cell_at cs k) cells ∙ cell) in
        ap (λ a. reached (a + k)) (sym place) ∙ here k byte was.0 was.1)
    | inr other ↦ others i k byte it other.0 other.1 cell
  ];
}
