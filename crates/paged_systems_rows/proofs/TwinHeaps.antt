-- Blocks of a heap over a twin system, as its extents show them.
use Rattle.std.proofs.Common.{◌≡◌, ℕ, ◌-◌, ◌≤◌, List, Option, Some, None, Bool, true, false, if◌then◌else◌, refl, ap, ◌∙◌, subst, arith}
use Rattle.std.specs.Prelude.{option_map, unwrap_or}
use Rattle.heap_memory.specs.declared.grant.Grant.{Grant}
use Rattle.dlmalloc_chunks.specs.declared.extent.Extent.{Extent}
use Rattle.dlmalloc_chunks.specs.declared.extent.Kind.{Kind}
use Rattle.dlmalloc_chunks.specs.declared.extent.Kind.TheVariants.{Used, Victim}
use Rattle.dlmalloc.specs.Extents.{extent_at}
use Rattle.dlmalloc.specs.State.{HeapState, extents_in, is_victim, shown}
use Rattle.dlmalloc.specs.Blocks.{IsBlock, HasBlock}
use Rattle.dlmalloc.proofs.Extents.Lookup.{extent, found}
use Rattle.paged_systems.specs.TwinSystem.{paged_of}
use Rattle.paged_systems.specs.Words.{grants_of}
use Rattle.paged_systems.specs.declared.twin_system.TwinSystem.{TwinSystem}
use Rattle.mapped_regions.specs.Mapped.{word_reached}

-- a twin system, as a heap over it sees it
abbrev pub regions : TwinSystem → List Grant
regions system = grants_of (paged_of system)

abbrev pub word : TwinSystem → ℕ → ℕ
word system at = word_reached (paged_of system) at

abbrev pub told : Extent → Kind × ℕ
told extent = (extent.kind, extent.size)

-- an extent that is listed as in use is one
pub listed : (heap : HeapState) (at size : ℕ) → option_map told (option_map (shown heap)
    (extent_at at (extents_in heap))) ≡ Some (Used, size) → extent_at at (extents_in heap) ≡ Some (extent at size Used)
listed heap at size is = go (extent_at at (extents_in heap)) refl is
  where
    as_used : (one : Extent) → extent_at at (extents_in heap) ≡ Some one → (victim : Bool) → is_victim heap one ≡ victim →
        Some (told (shown heap one)) ≡ Some (Used, size) → extent_at at (extents_in heap) ≡ Some (extent at size Used)
    as_used one there true test is =
        let other : Some (Victim, one.size) ≡ Some (Used, size) = subst (λ (b : Bool).
        Some (told (if b then record one { kind = Victim } else one)) ≡ Some (Used, size)) test is in
        let kinds : Victim ≡ Used = ap (λ (o : Option (Kind × ℕ)). (unwrap_or o (Used, size)).0) other in
        absurd (cc)
    as_used one there false test is =
        let same : Some (told one) ≡ Some (Used, size) = subst (λ (b : Bool).
        Some (told (if b then record one { kind = Victim } else one)) ≡ Some (Used, size)) test is in
        let kinds : one.kind ≡ Used = ap (λ (o : Option (Kind × ℕ)). (unwrap_or o (Used, size)).0) same in
        let sizes : one.size ≡ size = ap (λ (o : Option (Kind × ℕ)). (unwrap_or o (Used, size)).1) same in
        let place : one.at ≡ at = (found at one (extents_in heap) there).place in
        there ∙ (λ i. Some (extent (place i) (sizes i) (kinds i)))

    go : (one : Option Extent) → extent_at at (extents_in heap) ≡ one →
        option_map told (option_map (shown heap) one) ≡ Some (Used, size) →
        extent_at at (extents_in heap) ≡ Some (extent at size Used)
    go None there is = absurd (cc)
    go (Some one) there is = as_used one there (is_victim heap one) refl is

-- a chunk in use is one of a block, which has all of its bytes but the head
pub block_of : (heap : HeapState) (address size : ℕ) → (16 ≤ address) × (32 ≤ size) × (extent_at (address - 16)
    (extents_in heap) ≡ Some (extent (address - 16) size Used)) → IsBlock heap address (size - 8)
block_of heap address size told =
    let long = told.1 in
    record { extent = extent (address - 16) size Used; there = told.2; low = told.0; used = refl; holds = omega arith; little = omega arith }

pub has_block : (heap : HeapState) (address size : ℕ) → (16 ≤ address) × (32 ≤ size) × (extent_at (address - 16)
    (extents_in heap) ≡ Some (extent (address - 16) size Used)) → HasBlock heap address
has_block heap address size told = (size - 8, block_of heap address size told)
