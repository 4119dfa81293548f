-- Where nothing is chosen for a request, no region of the state has room for it.
use Rattle.std.proofs.Common.{◌≡◌, ℕ, zero, suc, ◌+◌, ◌<◌, ◌≤◌, inl, inr, true, List, [], ◌∷◌, length, get_or, map, sym, ap, ◌∙◌, subst, arith, Contains, Option, Some, IsTrue}
use Rattle.std.specs.List.{list_any, AllByRecursion}
use Rattle.heap_memory.specs.declared.grant.Grant.{Grant}
use Rattle.dlmalloc_chunks.specs.declared.extent.Extent.{Extent}
use Rattle.dlmalloc.specs.State.{Segment}
use Rattle.dlmalloc.specs.Blocks.{IsMet, IsFull}
use Rattle.dlmalloc.specs.declared.heap.Dlmalloc.{Dlmalloc}
use Rattle.machine_model.specs.declared.live.Live.{Live}
use Rattle.machine_model.specs.declared.region.Region.{Region}
use Rattle.machine_model.specs.State.{State, Block, block_at}
use Rattle.machine_model.specs.Room.{HasRoom}
use Rattle.machine_model.specs.Run.{IsGood}
use Rattle.machine_model.specs.Machine.{Stands, outline}
use Rattle.machine_model.proofs.Booleans.{or_cases}
use Rattle.machine_model.proofs.Placed.{behind_outline, outline_at}
use Rattle.paged_systems.specs.Words.{heap_regions, grant_of}
use Rattle.paged_systems.specs.System.{paged}
use Rattle.kernel_heap.specs.Heap.{heap_state}
use Rattle.kernel_heap.specs.Machine.{seen_of}
use Rattle.kernel_heap.specs.Numbered.{live_at}
use Rattle.kernel_heap.specs.LaidOut.{has_region, IsLaidOut}
use Rattle.paged_systems.specs.declared.paged_system.PagedSystem.{PagedSystem}
use Rattle.paged_systems.proofs.HeapRegions.{heap_of_all}
use Rattle.kernel_heap.proofs.SegmentRegions.{has_bounds}
use Rattle.kernel_heap.proofs.Laid.{block_is}

-- what holds of all grants holds of that of a region
contained : (P : Grant → Type 0) (list : List Region) (region : Region) → AllByRecursion P (map grant_of list) → Contains list region → P (grant_of region)
contained P [] region all has = absurd (omega (arith, has.1))
contained P (first ∷ rest) region all has =
    elim has.0 as (λ k. k < length (first ∷ rest) → get_or (first ∷ rest) k region ≡ region → P (grant_of region)) [
      | zero ↦ λ less is. subst (λ r. P (grant_of r)) is all.0
      | suc k ↦ λ less is. contained P rest region all.1 (k, omega arith, is)
    ] has.1 has.2

module _ {top : ℕ} (heap : Dlmalloc PagedSystem) (blocks : List (Option Live)) (laid : IsLaidOut heap blocks) (s : State) (good : IsGood s)
    (stands : Stands (seen_of top heap blocks) s) where
  -- the block of the state behind a live one
  pub behind : (number : ℕ) (live : Live) → live_at blocks number ≡ Some live →
      (block : Block) × (block_at s.blocks number ≡ Some block) × (outline block ≡ live)
  behind number live is = behind_outline (block_at s.blocks number) live
      (sym (outline_at s.blocks number) ∙ (ap (λ list. live_at list number) (sym stands.blocks) ∙ is))

  pub no_room : (n : ℕ) → IsFull (heap_state heap) (n + 256) → HasRoom s n → ⊥
  no_room n full room =
      let same : s.heap ≡ heap_regions (paged heap.system).regions = sym (ap heap_regions stands.regions ∙ heap_of_all s good) in
      let has : Contains (heap_regions (paged heap.system).regions) room.region = subst (λ (list : List Region). Contains list room.region) same room.listed in
      let inside = contained (λ region. IsTrue (list_any (has_region region) (heap_state heap).segments))
      (heap_regions (paged heap.system).regions) room.region laid.has has in
      let met = meets (heap_state heap).segments full inside in
      let hit = laid.used met.used met.is met.there in
      let b = (laid.lives hit.number hit.live hit.is).block in
      let old = behind hit.number hit.live hit.is in
      let address : old.0.address ≡ hit.live.address = ap (λ (l : Live). l.address) old.2 in
      let size : old.0.size ≡ hit.live.size = ap (λ (l : Live). l.size) old.2 in
      let place = hit.place in
      let one : b.extent ≡ met.used = block_is (heap_state heap) hit.live.address hit.live.size b met.used hit.place met.there in
      let little : met.used.size ≤ hit.live.size + 79 = subst (λ (e : Extent). e.size ≤ hit.live.size + 79) one b.little in
      let begins = met.begins in
      let ends = met.ends in
      elim (room.clear hit.number old.0 old.1) [ inl before ↦ omega arith | inr after ↦ omega arith ]
    where
      -- a segment that has the region has the room
      meets : (segments : List Segment) → AllByRecursion (λ (segment : Segment). (from : ℕ) → segment.base ≤ from →
          from + (n + 256) ≤ segment.base + segment.size → IsMet (heap_state heap) from (from + (n + 256))) segments →
          list_any (has_region (grant_of room.region)) segments ≡ true → IsMet (heap_state heap) room.address (room.address + (n + 256))
      meets [] full has = absurd (cc)
      meets (segment ∷ segments) full has = elim (or_cases (has_region (grant_of room.region) segment)
          (list_any (has_region (grant_of room.region)) segments) has) [
            | inl here ↦ (let both = has_bounds (grant_of room.region) segment here in
                full.0 room.address (omega (arith, both.0, room.from)) (omega (arith, both.1, room.within)))
            | inr later ↦ meets segments full.1 later
          ]
