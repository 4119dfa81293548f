-- Bytes of a block become known: the state stays good, and the memory that has them holds them.
use Rattle.std.proofs.Common.{sym, ◌≡◌, ◌≢◌, ℕ, zero, suc, ◌+◌, ◌<◌, ◌≤◌, ◌⊎◌, inl, inr, List, [], ◌∷◌, length, map, get_or, refl, ap, ◌∙◌, subst, arith, Option, Some, None, option_map}
use Rattle.machine_model.specs.State.{State, Cell, Known, Block, block_at, cell_at, with_bytes}
use Rattle.machine_model.specs.Memory.{HoldsBytes, IsPut}
use Rattle.machine_model.specs.Machine.{outline}
use Rattle.machine_model.specs.Answer.{with_block, known_block}
use Rattle.machine_model.specs.Run.{IsGood, IsGoodBlock}

-- ---- a block that changed

-- a block of the changed list is the changed one, or another one of the old list
pub changed_at : (blocks : List (Option Block)) (number : ℕ) (change : Block → Block) (i : ℕ) (block : Block) →
    block_at (with_block blocks number change) i ≡ Some block
    → ((i ≡ number) × ((old : Block) × (block_at blocks number ≡ Some old) × (change old ≡ block))) ⊎ ((i ≢ number) × (block_at blocks i ≡ Some block))
changed_at [] number change i block is = cc
changed_at (None ∷ rest) zero change zero block is = cc
changed_at (Some old ∷ rest) zero change zero block is = inl (refl, (old, refl, cc))
changed_at (first ∷ rest) zero change (suc i) block is = inr ((λ e. absurd (omega arith)), is)
changed_at (first ∷ rest) (suc number) change zero block is = inr ((λ e. absurd (omega arith)), is)
changed_at (first ∷ rest) (suc number) change (suc i) block is = elim (changed_at rest number change i block is) [
  | inl same ↦ inl (ap suc same.0, same.1)
  | inr other ↦ inr ((λ e. other.0 (omega arith)), other.1)
]

-- the outlines say nothing of cells
pub outline_known : (blocks : List (Option Block)) (number offset : ℕ) (bytes : List ℕ) →
    map (option_map outline) (with_block blocks number (known_block offset bytes)) ≡ map (option_map outline) blocks
outline_known [] number offset bytes = refl
outline_known (None ∷ rest) zero offset bytes = refl
outline_known (Some block ∷ rest) zero offset bytes = refl
outline_known (first ∷ rest) (suc number) offset bytes = ap (λ xs. option_map outline first ∷ xs) (outline_known rest number offset bytes)

-- ---- cells

-- they stay as many
pub length-with_bytes : (cells : List Cell) (offset : ℕ) (bytes : List ℕ) → length (with_bytes cells offset bytes) ≡ length cells
length-with_bytes [] offset bytes = refl
length-with_bytes (cell ∷ cells) (suc offset) bytes = ap suc (length-with_bytes cells offset bytes)
length-with_bytes (cell ∷ cells) zero [] = refl
length-with_bytes (cell ∷ cells) zero (byte ∷ bytes) = ap suc (length-with_bytes cells zero bytes)

-- what is known afterwards: a byte of the range, or what was known outside it
pub known_cases : (cells : List Cell) (offset : ℕ) (bytes : List ℕ) (k byte : ℕ) → cell_at (with_bytes cells offset bytes) k ≡ Known byte
    → ((i : ℕ) × (i < length bytes) × (k ≡ offset + i) × (get_or bytes i
    0 ≡ byte)) ⊎ (((k < offset) ⊎ (offset + length bytes ≤ k)) × (cell_at cells k ≡ Known byte))
known_cases [] offset bytes k byte is = cc
known_cases (cell ∷ cells) (suc offset) bytes zero byte is = inr (inl (omega arith), is)
known_cases (cell ∷ cells) (suc offset) bytes (suc k) byte is = elim (known_cases cells offset bytes k byte is) [
  | inl here ↦ inl (here.0, here.1, omega (arith, here.2), here.3)
  | inr there ↦ inr (elim there.0 [ inl below ↦ inl (omega arith) | inr above ↦ inr (omega arith) ], there.1)
]
known_cases (cell ∷ cells) zero [] k byte is = inr (inr (omega arith), is)
known_cases (cell ∷ cells) zero (first ∷ bytes) zero byte is = inl (0, omega arith, omega arith, cc)
known_cases (cell ∷ cells) zero (first ∷ bytes) (suc k) byte is = elim (known_cases cells zero bytes k byte is) [
  | inl here ↦ inl (suc here.0, omega (arith, here.1), omega (arith, here.2), here.3)
  | inr there ↦ inr (elim there.0 [ inl below ↦ absurd (omega arith) | inr above ↦ inr (omega arith) ], there.1)
]

-- a byte that is known is one of the block's
pub known_within : (cells : List Cell) (k byte : ℕ) → cell_at cells k ≡ Known byte → k < length cells
known_within [] k byte is = cc
known_within (first ∷ rest) zero byte is = omega arith
known_within (first ∷ rest) (suc k) byte is = let less : k < length rest = known_within rest k byte is in omega arith

-- ---- the state with known bytes

-- the block of which more is known keeps its place
was_at : (blocks : List (Option Block)) (number offset : ℕ) (bytes : List ℕ) (i : ℕ) (block : Block) →
    block_at (with_block blocks number (known_block offset bytes)) i ≡ Some block
    → (old : Block) × (block_at blocks i ≡ Some old) × (old.address ≡ block.address) × (old.size ≡ block.size)
was_at blocks number offset bytes i block is = elim (changed_at blocks number (known_block offset bytes) i block is) [
  | inl same ↦ (same.1.0, ap (λ n. block_at blocks n) same.0 ∙ same.1.1, ap (λ b. b.address) same.1.2, ap (λ b. b.size) same.1.2)
  | inr other ↦ (block, other.1, refl, refl)
]

-- the state of a block of which these bytes are known
abbrev pub known : State → ℕ → ℕ → List ℕ → State
known s number offset bytes = record s { blocks = with_block s.blocks number (known_block offset bytes) }

pub good_known : (s : State) (number offset : ℕ) (bytes : List ℕ) → IsGood s → IsGood (known s number offset bytes)
good_known s number offset bytes good = record {
  each = λ i block is. elim (changed_at s.blocks number (known_block offset bytes) i block is) [
    | inl same ↦ (let was : IsGoodBlock s.heap same.1.0 = good.each number same.1.0 same.1.1 in
        subst (λ b. IsGoodBlock s.heap b) same.1.2
        (record {
          aligned = was.aligned;
          aligned_16 = was.aligned_16;
          cells = length-with_bytes same.1.0.cells offset bytes
              ∙ was.cells;
          granted = was.granted;
        }))
    | inr other ↦ good.each i block other.1
  ];
  apart = λ i j a b is_a is_b differ. (
      let old_a : (old : Block) × (block_at s.blocks i ≡ Some old) × (old.address ≡ a.address) × (old.size ≡ a.size) =
      was_at s.blocks number offset bytes i a is_a in
      let old_b : (old : Block) × (block_at s.blocks j ≡ Some old) × (old.address ≡ b.address) × (old.size ≡ b.size) =
      was_at s.blocks number offset bytes j b is_b in
      elim (good.apart i j old_a.0 old_b.0 old_a.1 old_b.1 differ) [
        | inl before ↦ inl
            (omega (arith, old_a.2, old_a.3, old_b.2, old_b.3))
        | inr after ↦ inr
            (omega (arith, old_a.2, old_a.3, old_b.2, old_b.3))
      ]);
  heap_order = good.heap_order;
  user_order = good.user_order;
  heap = good.heap;
  users = good.users;
  frames = good.frames;
  slots = good.slots;
  are_slots = good.are_slots;
  no_slot_twice = good.no_slot_twice;
}

-- ---- the memory that has them

-- the memory holds what was put at the block's bytes
pub holds_known : (s : State) (old new : ℕ → Option ℕ) (number offset : ℕ) (bytes : List ℕ) (block : Block) → IsGood s →
    block_at s.blocks number ≡ Some block → offset + length bytes ≤ block.size
    → IsPut s.heap old new (block.address + offset) bytes → HoldsBytes old s.blocks → HoldsBytes new (with_block s.blocks number (known_block offset bytes))
holds_known s old new number offset bytes block good is inside put holds = record {
  known = λ i k byte it at cell. elim (changed_at s.blocks number (known_block offset bytes) i it at) [
    | inl same ↦ (
        let one : same.1.0 ≡ block = cc (same.1.1, is) in
        let address : it.address ≡ block.address = ap (λ b. b.address) (sym same.1.2) ∙ ap (λ b. b.address) one in
        let cells : with_bytes block.cells offset bytes ≡ it.cells = ap (λ b. with_bytes b.cells offset bytes) (sym one) ∙ ap (λ b. b.cells) same.1.2 in
        elim (known_cases block.cells offset bytes k byte (ap (λ cs. cell_at cs k) cells ∙ cell)) [
          | inl written ↦ (
              let place : it.address + k ≡ block.address + offset + written.0 = omega (arith, written.2) in
              ap new place ∙ put.here written.0 written.1 ∙ ap Some written.3)
          | inr kept ↦ ap new (ap (λ a. a + k) address) ∙ stays number block k byte is kept.1
              (elim kept.0 [ inl below ↦ inl (omega arith) | inr above ↦ inr (omega arith) ])
        ])
    | inr other ↦ (
        let many : length it.cells ≡ it.size = (good.each i it other.1).cells in
        let less : k < length it.cells = known_within it.cells k byte cell in
        stays i it k byte other.1 cell (elim (good.apart i number it block other.1 is other.0)
        [ inl before ↦ inl (omega arith) | inr behind ↦ inr (omega arith) ]))
  ];
}
  where
    stays : (i : ℕ) (it : Block) (k byte : ℕ) → block_at s.blocks i ≡ Some it → cell_at it.cells k ≡ Known byte →
        (it.address + k < block.address + offset) ⊎ (block.address + offset + length bytes ≤ it.address + k) →
        new (it.address + k) ≡ Some byte
    stays i it k byte at cell beside =
        let many : length it.cells ≡ it.size = (good.each i it at).cells in
        let less : k < length it.cells = known_within it.cells k byte cell in
        put.elsewhere (it.address + k) ((good.each i it at).granted k (omega arith)) beside ∙ holds.known i k byte it at cell
