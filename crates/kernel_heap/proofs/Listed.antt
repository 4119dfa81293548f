-- The extents of the heap tile the regions of the state.
use Rattle.std.proofs.Common.{◌≡◌, ℕ, ◌+◌, ◌≤◌, Bool, true, false, if◌then◌else◌, List, refl, sym, ap, ◌∙◌, subst, arith, Option, Some, None, option_map}
use Rattle.std.specs.List.{list_any}
use Rattle.dlmalloc_chunks.specs.declared.extent.Extent.{Extent}
use Rattle.dlmalloc_chunks.specs.declared.extent.Kind.TheVariants.{Used, Victim}
use Rattle.dlmalloc_chunks.specs.Tiling.{extent_at}
use Rattle.dlmalloc.specs.Extents.{is_used}
use Rattle.dlmalloc.specs.State.{HeapState, extents_in, is_free_below_top, is_victim, shown}
use Rattle.dlmalloc.specs.declared.heap.Dlmalloc.{Dlmalloc}
use Rattle.machine_model.specs.declared.live.Live.{Live}
use Rattle.machine_model.specs.declared.region.Region.{Region}
use Rattle.machine_model.specs.declared.call.Call.TheVariants.{Extents}
use Rattle.machine_model.specs.declared.answer.Reply.TheVariants.{Extents as Listed}
use Rattle.machine_model.specs.State.{State, Block, block_at, is_within}
use Rattle.machine_model.specs.Extents.{AreRuns, HasExtent, IsExtentOfBlock, IsTiling}
use Rattle.machine_model.specs.Run.{IsGood}
use Rattle.machine_model.specs.Machine.{Seen, Stands, IsStep, outline}
use Rattle.machine_model.proofs.Placed.{outline_of}
use Rattle.kernel_heap.specs.Heap.{regions, word, heap_state}
use Rattle.dlmalloc.specs.Heap.{IsSound}
use Rattle.dlmalloc.specs.Served.{IsListed}
use Rattle.kernel_heap.specs.Machine.{seen_of}
use Rattle.kernel_heap.specs.LaidOut.{IsLaidOut}
use Rattle.paged_systems.specs.declared.paged_system.PagedSystem.{PagedSystem}
use Rattle.kernel_heap.proofs.Full.{behind}
use Rattle.kernel_heap.proofs.Laid.{block_place, block_there, block_is}
use Rattle.kernel_heap.proofs.Refused.{regions_are}
use Rattle.kernel_heap.proofs.WholeRegions.{segment_bytes, heap_runs}

-- an extent in use is shown as it is, and what is shown as one in use is one
shown_used : (heap : HeapState) (extent : Extent) → extent.kind ≡ Used → shown heap extent ≡ extent
shown_used heap extent used = let plain : is_free_below_top extent.kind ≡ false = ap is_free_below_top used in rw plain refl

used_shown : (heap : HeapState) (found : Option Extent) (extent : Extent) → option_map (shown heap) found ≡ Some extent →
    extent.kind ≡ Used → found ≡ Some extent
used_shown heap None extent is used = cc
used_shown heap (Some one) extent is used = go (is_victim heap one) (let same : shown heap one ≡ extent = cc is in same)
  where
    go : (b : Bool) → (if b then record one { kind = Victim } else one) ≡ extent → Some one ≡ Some extent
    go true same = absurd (let k : Victim ≡ extent.kind = ap (λ (e : Extent). e.kind) same in let u = ap is_used (k ∙ used) in cc)
    go false same = ap Some same

module _ {top : ℕ} (heap : Dlmalloc PagedSystem) (sound : IsSound regions word heap) (blocks : List (Option Live))
    (laid : IsLaidOut heap blocks) (s : State) (good : IsGood s)
    (stands : Stands (seen_of top heap blocks) s)
    (list : List Extent) (listed : IsListed word heap list) where
  abbrev m : Seen
  m = seen_of top heap blocks

  block_has : (number : ℕ) (block : Block) → block_at s.blocks number ≡ Some block → HasExtent list block
  block_has number block is =
      let b = (laid.lives number (outline block) (outline_of s.blocks blocks (sym stands.blocks) number block is)).block in
      let there = block_there (heap_state heap) block.address block.size b in
      record {
        extent = b.extent;
        there = listed.found b.extent.at ∙ (ap (option_map (shown (heap_state heap))) there ∙ ap Some (shown_used (heap_state heap) b.extent b.used));
        is = record { used = b.used; place = block_place (heap_state heap) block.address block.size b; holds = b.holds; little = b.little };
      }

  extent_has : (extent : Extent) → extent_at extent.at list ≡ Some extent → extent.kind ≡ Used → IsExtentOfBlock s extent
  extent_has extent there used =
      let found = used_shown (heap_state heap) (extent_at extent.at (extents_in (heap_state heap))) extent (sym (listed.found extent.at) ∙ there) used in
      let hit = laid.used extent used found in
      let b = (laid.lives hit.number hit.live hit.is).block in
      let same = block_is (heap_state heap) hit.live.address hit.live.size b extent hit.place found in
      let old = behind heap blocks laid s good stands hit.number hit.live hit.is in
      let address : old.0.address ≡ hit.live.address = ap (λ (l : Live). l.address) old.2 in
      let size : old.0.size ≡ hit.live.size = ap (λ (l : Live). l.size) old.2 in
      let holds : hit.live.size + 8 ≤ extent.size = subst (λ (e : Extent). hit.live.size + 8 ≤ e.size) same b.holds in
      let little : extent.size ≤ hit.live.size + 79 = subst (λ (e : Extent). e.size ≤ hit.live.size + 79) same b.little in
      record {
        number = hit.number;
        block = old.0;
        there = old.1;
        is = record { used = used; place = address ∙ hit.place; holds = omega arith; little = omega arith };
      }

  -- each segment is a run of whole regions
  runs : AreRuns s.heap true list
  runs = subst (λ (regions : List Region). AreRuns regions true list) (sym (regions_are heap.system m refl s good stands))
      (heap_runs heap sound list listed.spans)

  pub tiling : IsTiling s list
  tiling = record {
    extents_are = listed.tiled;
    bytes = λ address. listed.bytes address ∙ (segment_bytes heap sound laid.has address
        ∙ sym (ap (list_any (is_within address)) (regions_are heap.system m refl s good stands)));
    runs = runs;
    blocks = block_has;
    used = extent_has;
  }

  pub step_listed : IsStep s Extents (record { reply = Listed list; regions = None; large = None }) m
  step_listed = record {
    allowed = record { reply = (refl, (refl, tiling)); listed = tt; large = tt };
    good = good;
    stands = stands;
  }
