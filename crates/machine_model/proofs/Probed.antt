-- A byte is looked at, or the access to it is a page fault: what a machine answers then is allowed.
use Rattle.std.proofs.Common.{◌≡◌, ℕ, zero, suc, ◌+◌, ◌-◌, ◌*◌, ◌/◌, ◌^◌, ◌<◌, ◌≤◌, ◌||◌, inl, inr, nat_le, nat_eq, List, [], ◌∷◌, length, map, get_or, refl, sym, ap, ◌∙◌, subst, arith, Bool, true, false, if◌then◌else◌, Option, Some, None, option_map, is_some, IsTrue}
use Rattle.std.proofs.lemmas.Bool.Decides.{nat_tests}
use Rattle.paging_core.specs.Address.{is_canonical}
use Rattle.paging_core.specs.Walk.{walk_of, reached}
use Rattle.x86_flags.specs.PageFaultErrorCode.{page_fault_bits}
use Rattle.x86_flags.specs.declared.page_fault_error_code.PageFaultErrorCode.{PageFaultErrorCode}
use Rattle.machine_model.specs.declared.region.Region.{Region}
use Rattle.paging_core.specs.declared.processor_access.AccessKind.{AccessKind}
use Rattle.machine_model.specs.declared.call.Call.TheVariants.{Probe}
use Rattle.machine_model.specs.declared.answer.Reply.TheVariants.{Byte, Fault}
use Rattle.machine_model.specs.State.{State, Known, Block, block_at, cell_at, region_at}
use Rattle.machine_model.specs.Memory.{HoldsBytes}
use Rattle.paging_core.specs.ProcessorAccess.{fault_code}
use Rattle.machine_model.specs.Probe.{rights_at, is_access_granted}
use Rattle.machine_model.specs.Answer.{known_block, seen_block}
use Rattle.machine_model.specs.Run.{IsGood, IsGoodBlock}
use Rattle.machine_model.specs.Machine.{Seen, Stands, IsStep, outline, rights_of}
use Rattle.machine_model.proofs.Found.{rights_alike}
use Rattle.machine_model.proofs.Known.{length-with_bytes, known_cases}

-- ---- a block of which a byte was seen

-- the blocks, with the byte at an address known
abbrev pub seen_blocks : ℕ → ℕ → List (Option Block) → List (Option Block)
seen_blocks address byte blocks = map (option_map (seen_block address byte)) blocks

was_there : (address byte : ℕ) (blocks : List (Option Block)) (i : ℕ) (block : Block) → block_at (seen_blocks address byte blocks) i ≡ Some block →
    (old : Block) × (block_at blocks i ≡ Some old) × (seen_block address byte old ≡ block)
was_there address byte [] i block is = cc
was_there address byte (None ∷ rest) zero block is = cc
was_there address byte (Some old ∷ rest) zero block is = (old, refl, cc)
was_there address byte (first ∷ rest) (suc i) block is = was_there address byte rest i block is

same_outline : (address byte : ℕ) (block : Block) → outline (seen_block address byte block) ≡ outline block
same_outline address byte block = go (nat_le block.address address)
  where
    go : (b : Bool) → outline (if b then known_block (address - block.address) (byte ∷ []) block else block) ≡ outline block
    go true = refl
    go false = refl

same_length : (address byte : ℕ) (block : Block) → length (seen_block address byte block).cells ≡ length block.cells
same_length address byte block = go (nat_le block.address address)
  where
    go : (b : Bool) → length (if b then known_block (address - block.address) (byte ∷ []) block else block).cells ≡ length block.cells
    go true = length-with_bytes block.cells (address - block.address) (byte ∷ [])
    go false = refl

same_outlines : (address byte : ℕ) (blocks : List (Option Block)) → map (option_map outline) (seen_blocks address byte blocks) ≡ map (option_map outline) blocks
same_outlines address byte [] = refl
same_outlines address byte (None ∷ rest) = ap (λ xs. None ∷ xs) (same_outlines address byte rest)
same_outlines address byte (Some block ∷ rest) = (λ i. Some (same_outline address byte block i) ∷ same_outlines address byte rest i)

good_block : (heap : List Region) (address byte : ℕ) (block : Block) → IsGoodBlock heap block → IsGoodBlock heap (seen_block address byte block)
good_block heap address byte block good = go (nat_le block.address address) (same_length address byte block)
  where
    go : (b : Bool) → length (seen_block address byte block).cells ≡ length block.cells →
        IsGoodBlock heap (if b then known_block (address - block.address) (byte ∷ []) block else block)
    go true many = record {
      aligned = good.aligned;
      aligned_16 = good.aligned_16;
      cells =
          length-with_bytes block.cells (address - block.address) (byte ∷ []) ∙ good.cells;
      granted = good.granted;
    }
    go false many = good

-- ---- the state

-- the state in which the byte at an address is known
abbrev pub seen_state : State → ℕ → ℕ → State
seen_state s address byte = record s { blocks = seen_blocks address byte s.blocks }

good_seen : (s : State) (address byte : ℕ) → IsGood s → IsGood (seen_state s address byte)
good_seen s address byte good = record {
  each = λ i block is. (
      let was = was_there address byte s.blocks i block is in
      subst (λ b. IsGoodBlock s.heap b) was.2 (good_block s.heap address byte was.0 (good.each i was.0 was.1)));
  apart = λ i j a b is_a is_b differ. (
      let old_a = was_there address byte s.blocks i a is_a in
      let old_b = was_there address byte s.blocks j b is_b in
      let out_a = sym (same_outline address byte old_a.0) ∙ ap outline old_a.2 in
      let out_b = sym (same_outline address byte old_b.0) ∙ ap outline old_b.2 in
      let at_a : old_a.0.address ≡ a.address = ap (λ l. l.address) out_a in
      let at_b : old_b.0.address ≡ b.address = ap (λ l. l.address) out_b in
      let size_a : old_a.0.size ≡ a.size = ap (λ l. l.size) out_a in
      let size_b : old_b.0.size ≡ b.size = ap (λ l. l.size) out_b in
      elim (good.apart i j old_a.0 old_b.0 old_a.1 old_b.1 differ) [ inl before ↦ inl (omega arith) | inr after ↦ inr (omega arith) ]);
  heap_order = good.heap_order;
  user_order = good.user_order;
  heap = good.heap;
  users = good.users;
  frames = good.frames;
  slots = good.slots;
  are_slots = good.are_slots;
  no_slot_twice = good.no_slot_twice;
}

-- the memory from which the byte was read holds it
holds_seen : (reached : ℕ → Option ℕ) (address byte : ℕ) (blocks : List (Option Block)) → reached address ≡ Some byte → HoldsBytes reached blocks →
    HoldsBytes reached (seen_blocks address byte blocks)
holds_seen reached address byte blocks here holds = record {
  known = λ i k other block is cell. (let was = was_there address byte blocks i block is in
      go i k other was.0 was.1 block cell (nat_le was.0.address address) refl was.2);
}
  where
    go : (i k other : ℕ) (old : Block) → block_at blocks i ≡ Some old → (block : Block) →
        cell_at block.cells k ≡ Known other → (b : Bool) → nat_le old.address address ≡ b →
        (if b then known_block (address - old.address) (byte ∷ []) old else old) ≡ block → reached (block.address + k) ≡ Some other
    go i k other old was block cell false above same = (
        let at : old.address ≡ block.address = ap (λ x. x.address) same in
        ap (λ a. reached (a + k)) (sym at) ∙ holds.known i k other old was (ap (λ x. cell_at x.cells k) same ∙ cell))
    go i k other old was block cell true below same = (
        let at : old.address ≡ block.address = ap (λ x. x.address) same in
        let low : old.address ≤ address = grind (arith, nat_tests) in
        elim (known_cases old.cells (address - old.address) (byte ∷ []) k other (ap (λ x. cell_at x.cells k) same ∙ cell)) [
          | inl seen ↦ (
              let first : seen.0 < 1 = seen.1 in
              let zeroth : seen.0 ≡ 0 = omega (arith, first) in
              let place : block.address + k ≡ address = omega (arith, seen.2, first) in
              let same_byte : byte ≡ other = ap (λ n. get_or (byte ∷ []) n 0) (sym zeroth) ∙ seen.3 in
              ap reached place ∙ here ∙ ap Some same_byte)
          | inr kept ↦ ap (λ a. reached (a + k)) (sym at) ∙ holds.known i k other old was kept.1
        ])

-- ---- the machine

stands_seen : (m : Seen) (s : State) (address byte : ℕ) → Stands m s →
    reached m.paged.words m.paged.root address ≡ Some byte → Stands m (seen_state s address byte)
stands_seen m s address byte stands here = record {
  root = stands.root;
  tree = stands.tree;
  free_frames = stands.free_frames;
  table_count = stands.table_count;
  pages_found = stands.pages_found;
  tables_met = stands.tables_met;
  larges_met = stands.larges_met;
  regions = stands.regions;
  blocks = stands.blocks ∙ sym (same_outlines address byte s.blocks);
  base = stands.base;
  pages = stands.pages;
  granularity = stands.granularity;
  frames = stands.frames;
  bytes = holds_seen (reached m.paged.words m.paged.root) address byte s.blocks here stands.bytes;
  zeros = stands.zeros;
}

first_canonical : (at : ℕ) → IsTrue (is_canonical at) → IsTrue (is_canonical (4096 * (at / 4096)))
first_canonical at canonical =
    let same : 4096 * (at / 4096) / 2 ^ 47 ≡ at / 2 ^ 47 = omega arith in
    ap (λ q. nat_eq q 0 || nat_eq q (2 ^ 17 - 1)) same ∙ canonical

-- the walk finds at an address the rights of its page
rights_found : (m : Seen) (s : State) (at : ℕ) → Stands m s → IsTrue (is_canonical at) →
    option_map rights_of (walk_of m.paged.words m.paged.root (at / 4096)) ≡ rights_at s at
rights_found m s at stands canonical =
    rights_alike (λ region. region.rights) (walk_of m.paged.words m.paged.root (at / 4096)) (region_at s (4096 * (at / 4096)))
    (stands.pages_found (at / 4096) (first_canonical at canonical))

-- the access is granted, and the byte is the one reached
pub step_byte : (m : Seen) (s : State) (at : ℕ) (access : AccessKind) (user : Bool) (byte : ℕ) → IsGood s → Stands m s → IsTrue (is_canonical at) →
    is_access_granted (option_map rights_of (walk_of m.paged.words m.paged.root (at / 4096))) access user ≡ true →
    reached m.paged.words m.paged.root at ≡ Some byte → byte < 2 ^ 8 →
    IsStep s (Probe at access user) (record { reply = Byte byte; regions = None; large = None }) m
step_byte m s at access user byte good stands canonical granted here small = record {
  allowed = record {
    reply = (
      rw canonical refl,
      (
        refl,
        ap (λ rights. is_access_granted rights access user) (sym (rights_found m s at stands canonical)) ∙ granted,
        record {
          small = small;
          known = λ number k other block is place cell. cc (sym here ∙ (ap (reached m.paged.words m.paged.root) (sym place)
              ∙ stands.bytes.known number k other block is cell));
          user = λ of_user. cc (sym here ∙ stands.zeros at of_user);
        },
      ),
    );
    listed = tt;
    large = tt;
  };
  good = good_seen s at byte good;
  stands = stands_seen m s at byte stands here;
}

-- the access is not granted, and the code says why
pub step_fault : (m : Seen) (s : State) (at : ℕ) (access : AccessKind) (user : Bool) (code : PageFaultErrorCode) → IsGood s →
    Stands m s → IsTrue (is_canonical at) →
    is_access_granted (option_map rights_of (walk_of m.paged.words m.paged.root (at / 4096))) access user ≡ false →
    page_fault_bits code ≡ fault_code (is_some (option_map rights_of (walk_of m.paged.words m.paged.root (at / 4096)))) false access user →
    IsStep s (Probe at access user) (record { reply = Fault code; regions = None; large = None }) m
step_fault m s at access user code good stands canonical denied is = record {
  allowed = record {
    reply = (
      rw canonical refl,
      (
        refl,
        ap (λ rights. is_access_granted rights access user) (sym (rights_found m s at stands canonical)) ∙ denied,
        is ∙ ap (λ rights. fault_code (is_some rights) false access user) (rights_found m s at stands canonical),
      ),
    );
    listed = tt;
    large = tt;
  };
  good = good;
  stands = stands;
}
