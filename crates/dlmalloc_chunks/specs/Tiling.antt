-- The extents of a heap by address: its segments, one after the other, and the extents that tile each of them.
use Rattle.std.specs.Prelude.{◌≡◌, ℕ, ◌+◌, ◌%◌, ◌≤◌, ◌⊎◌, ⊤, Bool, ◌&&◌, ◌==◌, nat_le, nat_lt, List, [], ◌∷◌, find, count_by, Option, IsTrue, IsFalse}
use Rattle.std.specs.List.{AllByRecursion}
use Rattle.dlmalloc_chunks.specs.declared.extent.Extent.{Extent}
use Rattle.dlmalloc_chunks.specs.declared.extent.Kind.{Kind}
use Rattle.dlmalloc_chunks.specs.declared.extent.Kind.TheVariants.{Used, Free, Victim, Top, Record, Foot}
use Rattle.dlmalloc_chunks.specs.Kinds.{is_free, is_named_victim, is_top, is_foot, ends_segment}

-- the bytes that an extent may have
abbrev pub IsSize : Kind → ℕ → Type 0
IsSize Used size = (size % 16 ≡ 0) × (32 ≤ size)
IsSize Free size = (size % 16 ≡ 0) × (32 ≤ size)
IsSize Victim size = (size % 16 ≡ 0) × (32 ≤ size)
IsSize Top size = (size % 16 ≡ 0) × (16 ≤ size)
IsSize Record size = (size ≡ 80) ⊎ (size ≡ 96)
IsSize Foot size = size ≡ 80

-- The second is the next extent of a segment: it begins where the first ends, one of the two is in use, and it is the
-- foot exactly if the first is the top.
pub record IsNext (first second : Extent) : Type 0 where
  pub place : second.at ≡ first.at + first.size
  pub apart : IsFalse (is_free first.kind && is_free second.kind)
  pub foot : is_foot second.kind ≡ is_top first.kind

-- after the last extent of a segment begins another segment, and after every other extent is the next extent
abbrev pub IsBehind : Extent → Extent → Type 0
IsBehind first second =
    (IsTrue (ends_segment first.kind) × IsFalse (is_foot second.kind) × (first.at + first.size ≤ second.at))
    ⊎ (IsFalse (ends_segment first.kind) × IsNext first second)

-- each extent is after the one before it, and the last ends a segment
abbrev pub AreInSegments : List Extent → Type 0
AreInSegments [] = ⊤
AreInSegments (extent ∷ []) = IsTrue (ends_segment extent.kind)
AreInSegments (first ∷ second ∷ extents) = IsBehind first second × AreInSegments (second ∷ extents)

-- 1 if there is an extent
abbrev pub heads : List Extent → ℕ
heads [] = 0
heads (extent ∷ extents) = 1

-- The extents of a heap by address. The head segment ends with the one top and its foot, and every other segment with a
-- record; there is at most one victim.
pub record AreExtents (extents : List Extent) : Type 0 where
  pub sizes : AllByRecursion (λ extent. IsSize extent.kind extent.size) extents
  pub segments : AreInSegments extents
  pub victims : count_by (λ extent. is_named_victim extent.kind) extents ≤ 1
  pub tops : count_by (λ extent. is_top extent.kind) extents ≡ heads extents
  pub feet : count_by (λ extent. is_foot extent.kind) extents ≡ heads extents

-- whether an extent has the byte at an address
abbrev pub has_byte : ℕ → Extent → Bool
has_byte address extent = nat_le extent.at address && nat_lt address (extent.at + extent.size)

-- the extent that begins at an address
abbrev pub extent_at : ℕ → List Extent → Option Extent
extent_at at extents = find (λ extent. extent.at == at) extents
