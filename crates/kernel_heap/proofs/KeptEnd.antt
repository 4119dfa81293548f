-- Where the first event of a trim keeps a part of a run, that part is the head segment that is left: so a slot that was cut has
-- a byte of it still.
use Rattle.std.proofs.Common.{◌≡◌, ℕ, ◌+◌, ◌-◌, ◌^◌, ◌<◌, ◌≤◌, inl, inr, refl, Bool, true, false, if◌then◌else◌, List, [], ◌∷◌, ◌++◌, sym, ◌∙◌, subst, arith, IsTrue, Some}
use Rattle.std.specs.List.{list_any}
use Rattle.heap_memory.specs.Events.{Event, Released}
use Rattle.dlmalloc.specs.State.{HeapState, Segment}
use Rattle.dlmalloc.specs.Heap.{IsSound}
use Rattle.dlmalloc.specs.Segments.{AreSegments}
use Rattle.dlmalloc.specs.Released.{handed_out, taken_back, releases, left_by_count}
use Rattle.dlmalloc.specs.Trimmed.{cut_of, shortened, takes_end, is_trimmed, trimmed, trim_releases}
use Rattle.dlmalloc.specs.AfterFree.{is_above_check, after_free, free_releases}
use Rattle.dlmalloc.specs.declared.heap.Dlmalloc.{Dlmalloc}
use Rattle.machine_model.specs.declared.region.Region.{Region}
use Rattle.machine_model.specs.State.{is_within}
use Rattle.machine_model.specs.Place.{meets, meets_any}
use Rattle.machine_model.specs.Machine.{Paged}
use Rattle.machine_model.proofs.Booleans.{or_left, or_right, or_cases}
use Rattle.machine_model.proofs.Regions.{within_bounds, meets_true}
use Rattle.paged_systems.specs.System.{paged}
use Rattle.paged_systems.specs.Words.{heap_regions}
use Rattle.kernel_heap.specs.Heap.{regions, word, heap_state}
use Rattle.paged_systems.specs.declared.paged_system.PagedSystem.{PagedSystem}
use Rattle.paged_systems.proofs.HeapRegions.{granted_same, heap_any}
use Rattle.kernel_heap.proofs.ReleasedRegions.{IsShortenedBy}

-- the head segment of a heap has these bytes
pub record IsHeadAt (heap : HeapState) (base size : ℕ) : Type 0 where
  pub head : Segment
  pub rest : List Segment
  pub is : heap.segments ≡ head ∷ rest
  pub base_is : head.base ≡ base
  pub size_is : head.size ≡ size

-- whole segments keep no part
none_kept : (segments : List Segment) (at size left : ℕ) (more : List Event) → releases segments ≡ Released at size left ∷ more → 0 < left → ⊥
none_kept [] at size left more is some = cc
none_kept (segment ∷ rest) at size left more is some =
    let same : Released segment.base segment.size 0 ≡ Released at size left = cc in
    let none : 0 ≡ left = cc in
    omega (arith, none, some)

module _ (pad : ℕ) (heap : HeapState) (at size left : ℕ) (more : List Event) (some : 0 < left) where
  part_of : (segments : List Segment) → trim_releases true true 4096 pad (record heap { segments = segments }) ≡ Released at size left ∷ more →
      IsHeadAt (trimmed true true 4096 pad (record heap { segments = segments })) at left
  part_of [] is = go (is_trimmed pad (record heap { segments = [] })) is
    where
      go : (b : Bool) → (if b then [] else []) ≡ Released at size left ∷ more → IsHeadAt (trimmed true true 4096 pad (record heap { segments = [] })) at left
      go true e = absurd (let no : [] ≡ Released at size left ∷ more = e in cc)
      go false e = absurd (let no : [] ≡ Released at size left ∷ more = e in cc)
  part_of (head ∷ rest) is = go (is_trimmed pad h) refl (takes_end true 4096 (cut_of h pad) head) refl is
    where
      h : HeapState
      h = record heap { segments = head ∷ rest }

      less : ℕ
      less = cut_of (record heap { segments = head ∷ rest }) pad

      go : (b : Bool) → is_trimmed pad (record heap { segments = head ∷ rest }) ≡ b → (d : Bool) →
          takes_end true 4096 (cut_of (record heap { segments = head ∷ rest }) pad) head ≡ d →
          (if b then (if d then Released head.base head.size (head.size - cut_of (record heap { segments = head ∷ rest })
          pad) ∷ [] else []) ++ releases (taken_back true (handed_out true (head ∷ rest))) else []) ≡ Released at size
          left ∷ more →
          IsHeadAt (trimmed true true 4096 pad (record heap { segments = head ∷ rest })) at left
      go false eb d ed e = absurd (let no : [] ≡ Released at size left ∷ more = e in cc)
      go true eb false ed e = absurd (none_kept (handed_out true (head ∷ rest)) at size left more e some)
      go true eb true ed e =
          let same : Released head.base head.size (head.size - cut_of (record heap { segments = head ∷ rest }) pad) ≡ Released at size left = cc in
          let base_is : head.base ≡ at = cc in
          let size_is : head.size - cut_of (record heap { segments = head ∷ rest }) pad ≡ left = cc in
          rw (eb, ed) (record {
            head = shortened (cut_of (record heap { segments = head ∷ rest }) pad) head;
            rest = _;
            is =
                refl;
            base_is = base_is;
            size_is = size_is;
          })

  -- the part that a trim keeps
  pub trim_part : trim_releases true true 4096 pad heap ≡ Released at size left ∷ more → IsHeadAt (trimmed true true 4096 pad heap) at left
  trim_part is = part_of heap.segments is

-- and that which a free keeps
pub free_part : (heap : HeapState) (place at size left : ℕ) (more : List Event) → 0 < left →
    free_releases true true 4096 heap place ≡ Released at size left ∷ more →
    IsHeadAt (after_free true true 4096 heap place) at left
free_part heap place at size left more some is = go (is_above_check heap place) refl is
  where
    go : (b : Bool) → is_above_check heap place ≡ b → (if b then trim_releases true true 4096 0 heap else releases
        (left_by_count true true heap place)) ≡ Released at size left ∷ more →
        IsHeadAt (after_free true true 4096 heap place) at left
    go true above e = rw above (trim_part 0 heap at size left more some e)
    go false below e = absurd (none_kept (left_by_count true true heap place) at size left more e some)

-- ---- the slot that was cut

-- a region of the heap that has a byte of a slot meets the slot
byte_meets : (at slot : ℕ) (list : List Region) → slot ≤ at → at < slot + 2 ^ 21 → list_any (is_within at) list ≡ true → meets_any slot 512 list ≡ true
byte_meets at slot [] from to is = absurd (let no : false ≡ true = is in cc)
byte_meets at slot (region ∷ rest) from to is = elim (or_cases (is_within at region) (list_any (is_within at) rest) is) [
  | inl here ↦ (let bounds = within_bounds at region here in or_left (meets slot 512 region) (meets_any slot 512 rest)
      (meets_true slot 512 region (omega (arith, bounds.1, from)) (omega (arith, bounds.0, to))))
  | inr later ↦ or_right (meets slot 512 region) (meets_any slot 512 rest) (byte_meets at slot rest from to later)
]

-- regions have a part of it still, where the first event's part is the head segment of a sound heap
pub part_stays : (old : Paged) (new : Dlmalloc PagedSystem) (events : List Event) → IsSound regions word new →
    (by : IsShortenedBy old (paged new.system) events) →
    ((at size left : ℕ) (more : List Event) → events ≡ Released at size left ∷ more → 0 < left → IsHeadAt (heap_state new) at left) →
    (one : ℕ) → by.slot ≡ Some one → IsTrue (meets_any one 512 (paged new.system).regions)
part_stays old new events sound by head one cut =
    let part = by.cut one cut in
    let segment = head part.0 part.1 part.2 part.3 part.4 part.5 in
    let all = subst (λ (segments : List Segment). AreSegments (regions new.system) (word new.system) segments) segment.is sound.segments in
    let run = all.0.run in
    let granted = run.covered (part.0 + part.2 - 1) (let b = segment.base_is in let s = segment.size_is in let some = part.5
    in omega (arith, b, s, some)) (let b = segment.base_is in let s = segment.size_is in let some = part.5 in
    omega (arith, b, s, some)) in
    byte_meets (part.0 + part.2 - 1) one (paged new.system).regions (let from = part.7 in let some = part.5 in
    omega (arith, from, some)) (let to = part.8 in let some = part.5 in omega (arith, to, some))
    (heap_any (is_within (part.0 + part.2 - 1)) (paged new.system).regions
    (sym (granted_same (heap_regions (paged new.system).regions) (part.0 + part.2 - 1)) ∙ granted))
