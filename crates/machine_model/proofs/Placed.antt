-- A block is handed out: lists of blocks by number, and the state with one block more.
use Rattle.std.proofs.Common.{◌≡◌, ℕ, zero, suc, ◌+◌, ◌<◌, ◌⊎◌, inl, inr, List, [], ◌∷◌, ◌++◌, length, map, get_or, replicate, refl, sym, ap, ◌∙◌, subst, arith, Option, Some, None, option_map}
use Rattle.machine_model.specs.declared.live.Live.{Live}
use Rattle.machine_model.specs.State.{State, Cell, Known, Block, block_at, cell_at, cover}
use Rattle.machine_model.specs.Room.{AreBytesApart}
use Rattle.machine_model.specs.Run.{IsGood, IsGoodBlock}
use Rattle.machine_model.specs.Memory.{HoldsBytes}
use Rattle.machine_model.specs.Machine.{outline}

-- ---- lists by number

-- a block of the longer list is one of the shorter, or the new one
pub appended : {A : Type 0} (blocks : List (Option A)) (last : Option A) (number : ℕ) (block : A) → get_or (blocks ++ last ∷ []) number None ≡ Some block
    → (get_or blocks number None ≡ Some block) ⊎ ((number ≡ length blocks) × (last ≡ Some block))
appended [] last zero block is = inr (refl, is)
appended [] last (suc number) block is = cc
appended (first ∷ rest) last zero block is = inl is
appended {A} (first ∷ rest) last (suc number) block is =
    elim (appended rest last number block is) [ inl old ↦ inl old | inr new ↦ inr (ap (λ n. suc n) new.0, new.1) ]

-- a block of the shorter list is one of the longer
pub stays : {A : Type 0} (blocks : List (Option A)) (last : Option A) (number : ℕ) (block : A) →
    get_or blocks number None ≡ Some block → get_or (blocks ++ last ∷ []) number None ≡ Some block
stays [] last number block is = cc
stays (first ∷ rest) last zero block is = is
stays (first ∷ rest) last (suc number) block is = stays rest last number block is

-- the last one
pub last_at : {A : Type 0} (blocks : List (Option A)) (last : Option A) → get_or (blocks ++ last ∷ []) (length blocks) None ≡ last
last_at [] last = refl
last_at (first ∷ rest) last = last_at rest last

-- ---- outlines

pub outline_at : (blocks : List (Option Block)) (number : ℕ) → get_or (map (option_map outline) blocks) number
    None ≡ option_map outline (block_at blocks number)
outline_at [] number = refl
outline_at (first ∷ rest) zero = refl
outline_at (first ∷ rest) (suc number) = outline_at rest number

-- a block of the state is one that the machine keeps
pub outline_of : (blocks : List (Option Block)) (lives : List (Option Live)) → map (option_map outline) blocks ≡ lives →
    (number : ℕ) (block : Block) → block_at blocks number ≡ Some block → get_or lives number None ≡ Some (outline block)
outline_of blocks lives same number block is = rw (← same, outline_at blocks number, is) refl

-- the block behind an outline
pub behind_outline : (found : Option Block) (live : Live) → option_map outline found ≡ Some live →
    (block : Block) × (found ≡ Some block) × (outline block ≡ live)
behind_outline None live is = cc
behind_outline (Some block) live is = (block, refl, cc)

pub length_outline : (blocks : List (Option Block)) → length (map (option_map outline) blocks) ≡ length blocks
length_outline [] = refl
length_outline (first ∷ rest) = ap suc (length_outline rest)

pub outline_push : (blocks : List (Option Block)) (last : Option Block) →
    map (option_map outline) (blocks ++ last ∷ []) ≡ map (option_map outline) blocks ++ option_map outline last ∷ []
outline_push [] last = refl
outline_push (first ∷ rest) last = ap (λ xs. option_map outline first ∷ xs) (outline_push rest last)

-- ---- one block more

-- what is known of one of equal cells is what each of them is
pub known_alike : (n k byte : ℕ) (cell : Cell) → cell_at (replicate n cell) k ≡ Known byte → (k < n) × (cell ≡ Known byte)
known_alike zero k byte cell is = cc
known_alike (suc n) zero byte cell is = (omega arith, is)
known_alike (suc n) (suc k) byte cell is = let later = known_alike n k byte cell is in (omega (arith, later.0), later.1)

-- if a memory has what is known of a new block, it holds what is known of all
pub holds_pushed : (reached : ℕ → Option ℕ) (blocks : List (Option Block)) (new : Block) → HoldsBytes reached blocks
    → ((k byte : ℕ) → cell_at new.cells k ≡ Known byte → reached (new.address + k) ≡ Some byte) → HoldsBytes reached (blocks ++ Some new ∷ [])
holds_pushed reached blocks new holds here = record {
  known = λ number k byte block is cell. elim (appended blocks (Some new) number block is) [
    | inl old ↦ holds.known number k byte block old cell
    | inr last ↦ (let same : new ≡ block = cc in
        subst (λ (b : Block). reached (b.address + k) ≡ Some byte) same (here k byte (ap (λ (b : Block). cell_at b.cells k) same ∙ cell)))
  ];
}

pub turned : (a m b n : ℕ) → AreBytesApart a m b n → AreBytesApart b n a m
turned a m b n apart = elim apart [ inl less ↦ inr less | inr more ↦ inl more ]

-- the state with one block more
abbrev pub placed : State → Block → State
placed s block = record s { blocks = s.blocks ++ Some block ∷ [] }

-- it is good if the block is good and lies beside all others
pub good_placed : (s : State) (block : Block) → IsGood s → IsGoodBlock s.heap block
    → ((number : ℕ) (old : Block) → block_at s.blocks number ≡ Some old →
    AreBytesApart old.address (cover old) block.address (cover block)) → IsGood (placed s block)
good_placed s block good here apart = record {
  each = λ number other is. elim (appended s.blocks (Some block) number other is) [
    | inl old ↦ good.each number other old
    | inr new ↦ (let same : block ≡ other = cc in
        subst (λ b. IsGoodBlock s.heap b) same (record { aligned = here.aligned; aligned_16 = here.aligned_16; cells = here.cells; granted = here.granted }))
  ];
  apart = λ i j a b is_a is_b differ. elim (appended s.blocks (Some block) i a is_a) [
    | inl old_a ↦ elim (appended s.blocks (Some block) j b is_b) [
      | inl old_b ↦ good.apart i j a b old_a old_b differ
      | inr new_b ↦ (let same : block ≡ b = cc in subst (λ x. AreBytesApart a.address (cover a) x.address (cover x)) same (apart i a old_a))
    ]
    | inr new_a ↦ elim (appended s.blocks (Some block) j b is_b) [
      | inl old_b ↦ (let same : block ≡ a = cc in
          subst (λ x. AreBytesApart x.address (cover x) b.address (cover b)) same (turned b.address (cover b) block.address (cover block) (apart j b old_b)))
      | inr new_b ↦ absurd (differ (new_a.0 ∙ sym new_b.0))
    ]
  ];
  heap_order = good.heap_order;
  user_order = good.user_order;
  heap = good.heap;
  users = good.users;
  frames = good.frames;
  slots = good.slots;
  are_slots = good.are_slots;
  no_slot_twice = good.no_slot_twice;
}
