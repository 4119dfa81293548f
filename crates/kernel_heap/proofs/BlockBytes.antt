-- Bytes of live blocks are written and read.
use Rattle.std.proofs.Common.{◌≡◌, ℕ, suc, ◌+◌, ◌/◌, ◌%◌, ◌^◌, ◌<◌, ◌≤◌, inl, inr, nat_lt, true, false, List, [], ◌∷◌, length, refl, sym, ap, ◌∙◌, subst, arith, Option, Some, None, option_map}
use Rattle.std.specs.Prelude.{slice_index}
use Rattle.std.specs.List.{list_any}
use Rattle.paging_core.specs.Memory.{word_at, byte_of}
use Rattle.paging_core.specs.Walk.{Place, walk_of, reached}
use Rattle.dlmalloc.specs.declared.heap.Dlmalloc.{Dlmalloc}
use Rattle.dlmalloc.specs.Blocks.{ArePlaced}
use Rattle.dlmalloc.specs.Served.{OnlyBlocksChange}
use Rattle.sound_heap.specs.Heap.{AreInBlock}
use Rattle.machine_model.specs.declared.live.Live.{Live}
use Rattle.machine_model.specs.declared.call.Call.TheVariants.{Write, Read}
use Rattle.machine_model.specs.declared.answer.Reply.TheVariants.{Done, Bytes}
use Rattle.machine_model.specs.State.{State, Block, block_at, cell_at, is_within, Known}
use Rattle.machine_model.specs.Memory.{IsPut}
use Rattle.machine_model.specs.Answer.{AreBytes}
use Rattle.machine_model.specs.Refusal.{refuse_bytes}
use Rattle.machine_model.specs.Run.{IsGood}
use Rattle.machine_model.specs.Machine.{Paged, Seen, Stands, IsStep, outline}
use Rattle.machine_model.proofs.Placed.{outline_at}
use Rattle.machine_model.proofs.Known.{good_known}
use Rattle.machine_model.proofs.Written.{stands_written}
use Rattle.paged_systems.specs.Follows.{still_none}
use Rattle.paged_systems.specs.Words.{heap_regions}
use Rattle.paged_systems.specs.System.{paged}
use Rattle.kernel_heap.specs.Heap.{regions, word, heap_state}
use Rattle.kernel_heap.specs.Machine.{seen_of}
use Rattle.kernel_heap.specs.Numbered.{live_at, refuse_live, HasBytes}
use Rattle.kernel_heap.specs.LaidOut.{IsLaidOut}
use Rattle.paged_systems.specs.Written.{AreHeapBytes, AreRead, AreBytesWritten}
use Rattle.paged_systems.specs.declared.paged_system.PagedSystem.{PagedSystem}
use Rattle.kernel_heap.proofs.BlockPlaces.{bytes_within}
use Rattle.kernel_heap.proofs.Full.{behind}
use Rattle.paged_systems.proofs.HeapRegions.{granted_same}
use Rattle.kernel_heap.proofs.Laid.{block_place, block_there}
use Rattle.paged_systems.proofs.Numbers.{not_less}
use Rattle.kernel_heap.proofs.Refused.{regions_are}

-- both the machine and the state refuse bytes alike, and blocks
pub refuse_same : (m : Seen) (s : State) (number offset count : ℕ) → Stands m s →
    refuse_bytes (block_at s.blocks number) offset count ≡ refuse_live (live_at m.blocks number) offset count
refuse_same m s number offset count stands =
    alike (block_at s.blocks number) ∙ ap (λ live. refuse_live live offset count)
    (sym (ap (λ bs. live_at bs number) stands.blocks ∙ outline_at s.blocks number))
  where
    alike : (found : Option Block) → refuse_bytes found offset count ≡ refuse_live (option_map outline found) offset count
    alike None = refl
    alike (Some block) = refl

-- a number that no live block of the machine has, none of the state has
pub unknown_same : (m : Seen) (s : State) (number : ℕ) → Stands m s → live_at m.blocks number ≡ None → block_at s.blocks number ≡ None
unknown_same m s number stands none = gone (block_at s.blocks number) (sym (ap (λ bs. live_at bs number) stands.blocks ∙ outline_at s.blocks number) ∙ none)
  where
    gone : (found : Option Block) → option_map outline found ≡ None → found ≡ None
    gone None is = refl
    gone (Some block) is = cc

-- a byte that is reached is one
reached_byte : (words : List ℕ) (root address byte : ℕ) → reached words root address ≡ Some byte → byte < 2 ^ 8
reached_byte words root address byte = small (walk_of words root (address / 4096))
  where
    small : (place : Option Place) → option_map (λ p. byte_of (word_at words p.frame (address % 4096 / 8)) (address % 8)) place ≡ Some byte → byte < 2 ^ 8
    small None is = absurd (cc is)
    small (Some p) is =
        let same : byte_of (word_at words p.frame (address % 4096 / 8)) (address % 8) ≡ byte = cc is in
        subst (λ b. b < 2 ^ 8) same (omega arith)

all_bytes : (bytes : List ℕ) → ((k : ℕ) → k < length bytes → slice_index bytes k < 2 ^ 8) → AreBytes bytes
all_bytes [] each = tt
all_bytes (byte ∷ bytes) each = (each 0 (omega arith), all_bytes bytes (λ k less. each (suc k) (omega arith)))

read_bytes : (p : Paged) (address count : ℕ) (bytes : List ℕ) → AreRead p address count bytes → AreBytes bytes
read_bytes p address count bytes read =
    all_bytes bytes (λ k less. reached_byte p.words p.root (address + k) (slice_index bytes k) (read.each k (let n = read.many in omega arith)))

-- bytes of a block
module _ (heap : Dlmalloc PagedSystem) (placed : ArePlaced (regions heap.system) (heap_state heap)) (address count : ℕ)
    (inside : AreInBlock (heap_state heap) address count) where
  -- they lie in the regions
  pub block_inside : AreHeapBytes (paged heap.system) address count
  block_inside =
      let low = inside.low in
      let within = inside.within in
      λ k above below. bytes_within heap placed inside.block inside.size inside.is k (omega (arith, above, low))
      (omega (arith, below, within)) k (omega arith) (omega arith)

  -- where they are put, words of blocks alone change
  pub only_blocks : (system : PagedSystem) (bytes : List ℕ) → length bytes ≡ count →
      AreBytesWritten (paged heap.system) (paged system) address bytes (length bytes) →
      OnlyBlocksChange (regions heap.system) (heap_state heap) (word heap.system) (word system)
  only_blocks system bytes many written k granted there beside =
      let b = inside.is in
      let place = block_place (heap_state heap) inside.block inside.size b in
      let aligned = (placed inside.block inside.size b).aligned in
      let holds = b.holds in
      let low = inside.low in
      let within = inside.within in
      let multiple = granted.aligned in
      written.words k granted (elim (beside b.extent b.used (block_there (heap_state heap) inside.block inside.size b)) [
        | inl below ↦ inl (omega arith)
        | inr above ↦ inr (omega arith)
      ])

module _ (heap : Dlmalloc PagedSystem) (blocks : List (Option Live)) (number offset count address : ℕ)
    (laid : IsLaidOut heap blocks) (has : HasBytes blocks number offset count address) where
  -- bytes of a live block lie in one
  pub in_block : AreInBlock (heap_state heap) address count
  in_block =
      let at = has.place in
      let within = has.within in
      record { block = has.live.address; size = has.live.size; is = (laid.lives number has.live has.is).block; low = omega arith; within = omega arith }

  -- ---- the steps

  module _ {top : ℕ} (s : State) (good : IsGood s) (stands : Stands (seen_of top heap blocks) s) where
    abbrev m : Seen
    m = seen_of top heap blocks

    block : (block : Block) × (block_at s.blocks number ≡ Some block) × (outline block ≡ has.live)
    block = behind heap blocks laid s good stands number has.live has.is

    place : address ≡ block.0.address + offset
    place = has.place ∙ ap (λ l. l.address + offset) (sym block.2)

    within : offset + count ≤ block.0.size
    within = let size = ap (λ l. l.size) block.2 in let w = has.within in omega arith

    reachable : refuse_bytes (block_at s.blocks number) offset count ≡ None
    reachable = refuse_same m s number offset count stands ∙ (ap (λ l. refuse_live l offset count) has.is
        ∙ (let small : nat_lt has.live.size (offset + count) ≡ false = not_less has.live.size (offset + count) has.within in
        rw small refl))

    -- bytes of the state's heap are bytes of the regions
    in_regions : (other : ℕ) → list_any (is_within other) s.heap ≡ true → AreHeapBytes (paged heap.system) other 1
    in_regions other is =
        let same : s.heap ≡ heap_regions (paged heap.system).regions = regions_are heap.system m refl s good stands in
        λ k above below.
        let one : other ≡ k = omega arith in
        granted_same (heap_regions (paged heap.system).regions) k ∙ (ap (list_any (is_within k)) (sym same)
        ∙ subst (λ a. list_any (is_within a) s.heap ≡ true) one is)

    pub step_written : (new : Paged) (bytes : List ℕ) → length bytes ≡ count → AreBytesWritten (paged heap.system) new address bytes (length bytes) →
        IsStep s (Write number offset bytes) (record { reply = Done; regions = None; large = None }) (record m { paged = new })
    step_written new bytes many written = record {
      allowed = record { reply = (ap (refuse_bytes (block_at s.blocks number) offset) many ∙ reachable, refl); listed = tt; large = tt };
      good = good_known s number offset bytes good;
      stands = stands_written m s new number offset bytes block.0 good stands block.1 (let w = within in omega arith) written.still put;
    }
      where
        root : new.root ≡ (paged heap.system).root
        root = ap (λ p. p.root) written.still.others

        put : IsPut s.heap (reached (paged heap.system).words (paged heap.system).root)
            (reached new.words (paged heap.system).root) (block.0.address + offset) bytes
        put = record {
          here = λ k less. ap (λ a. reached new.words (paged heap.system).root (a + k)) (sym place)
              ∙ (ap (λ r. reached new.words r (address + k)) (sym root) ∙ written.here k less);
          elsewhere = λ other is beside. ap (λ r. reached new.words r other) (sym root)
              ∙ written.elsewhere other (in_regions other is) (let p = place in elim beside [ inl below ↦ inl (omega arith) | inr above ↦ inr (omega arith) ]);
        }

    pub step_read : (bytes : List ℕ) → AreRead (paged heap.system) address count bytes →
        IsStep s (Read number offset count) (record { reply = Bytes bytes; regions = None; large = None }) m
    step_read bytes read = record {
      allowed = record { reply = (reachable, (refl, read.many, read_bytes (paged heap.system) address count bytes read, agree)); listed = tt; large = tt };
      good = good_known s number offset bytes good;
      stands = stands_written m s (paged heap.system) number offset bytes block.0 good stands block.1
          (let w = within in let n = read.many in omega arith) (still_none (paged heap.system)) put;
    }
      where
        each : (k : ℕ) → k < length bytes → reached (paged heap.system).words (paged heap.system).root
            (block.0.address + offset + k) ≡ Some (slice_index bytes k)
        each k less = ap (λ a. reached (paged heap.system).words (paged heap.system).root (a + k)) (sym place) ∙ read.each k (let n = read.many in omega arith)

        put : IsPut s.heap (reached (paged heap.system).words (paged heap.system).root)
            (reached (paged heap.system).words (paged heap.system).root) (block.0.address + offset) bytes
        put = record { here = each; elsewhere = λ other is beside. refl }

        agree : (b : Block) → block_at s.blocks number ≡ Some b → (k byte : ℕ) → k < length bytes →
            cell_at b.cells (offset + k) ≡ Known byte → slice_index bytes k ≡ byte
        agree b is k byte less known =
            let one : block.0 ≡ b = cc (block.1, is) in
            let at : reached (paged heap.system).words (paged heap.system).root (b.address + (offset + k)) ≡ Some byte =
            stands.bytes.known number (offset + k) byte b is known in
            let place_is : block.0.address + offset + k ≡ b.address + (offset + k) = (let a = ap (λ x. x.address) one in omega arith) in
            let same = sym (each k less) ∙ (ap (reached (paged heap.system).words (paged heap.system).root) place_is ∙ at) in
            cc same
