-- A request is refused.
use Rattle.std.proofs.Common.{◌≡◌, ℕ, ◌+◌, ◌-◌, ◌*◌, ◌/◌, ◌%◌, ◌<◌, ◌≤◌, inl, inr, Bool, nat_le, if◌then◌else◌, refl, sym, ap, ◌∙◌, subst, arith, List, Option, Some, None, true, false}
use Rattle.std.proofs.lemmas.Bool.Decides.{nat_tests}
use Rattle.heap_memory.specs.declared.grant.GrantFault.TheVariants.{NoSpace as SystemNoSpace, NoFrames as SystemNoFrames, OutOfMemory as SystemOutOfMemory}
use Rattle.std.specs.Int.{is_power_of_two}
use Rattle.dlmalloc_chunks.specs.Request.{round_up, padded, enlarged, wanted, limit}
use Rattle.dlmalloc_chunks.proofs.PowersOfTwo.{power_from_test}
use Rattle.dlmalloc_chunks.proofs.Wanted.{wanted_few, wanted_many}
use Rattle.dlmalloc.specs.Heap.{IsGranularity}
use Rattle.dlmalloc.specs.Requested.{asked}
use Rattle.dlmalloc.specs.Served.{IsDenied, IsMallocRefused, IsRefusedWith}
use Rattle.dlmalloc.specs.declared.malloc_error.MallocError.{MallocError}
use Rattle.dlmalloc.specs.declared.malloc_error.MallocError.TheVariants.{TooLarge as MallocTooLarge, System}
use Rattle.dlmalloc.specs.declared.heap.Dlmalloc.{Dlmalloc}
use Rattle.machine_model.specs.declared.live.Live.{Live}
use Rattle.machine_model.specs.declared.region.Region.{Region}
use Rattle.machine_model.specs.declared.answer.Refusal.{Refusal}
use Rattle.machine_model.specs.declared.answer.Refusal.TheVariants.{BadAlign, TooLarge, NoSpace, NoFrames}
use Rattle.machine_model.specs.declared.answer.Reply.TheVariants.{Refused}
use Rattle.machine_model.specs.declared.answer.Answer.{Answer}
use Rattle.machine_model.specs.declared.call.Call.{Call}
use Rattle.machine_model.specs.declared.call.Call.TheVariants.{Malloc, Calloc, Realloc, CRealloc, Free, Write, Read, Map, Unmap, Probe, Trim, SetRate, SetGranularity, Reset, Extents}
use Rattle.machine_model.specs.Request.{pages_in, pages_for}
use Rattle.machine_model.specs.State.{State, Block}
use Rattle.machine_model.specs.Tables.{missing, free_frames}
use Rattle.machine_model.specs.Place.{all_regions, IsPlace, HasNoPlace}
use Rattle.machine_model.specs.Refusal.{is_too_large, refuse_request, refuse_resizing, must_refuse, wanted_by, MayRefuse}
use Rattle.machine_model.specs.Answer.{after}
use Rattle.machine_model.specs.Run.{IsGood}
use Rattle.machine_model.specs.Machine.{Seen, Stands, IsStep}
use Rattle.machine_model.proofs.Added.{missing_same}
use Rattle.paged_systems.specs.Words.{heap_regions}
use Rattle.paged_systems.specs.System.{paged}
use Rattle.kernel_heap.specs.Heap.{regions, word, follows, refuses, denies, heap_state}
use Rattle.kernel_heap.specs.Machine.{seen_of}
use Rattle.kernel_heap.specs.LaidOut.{IsLaidOut}
use Rattle.kernel_heap.specs.Refusing.{refusal_of}
use Rattle.kernel_heap.specs.Blocks.{request}
use Rattle.paged_systems.specs.declared.paged_system.PagedSystem.{PagedSystem}
use Rattle.paged_systems.proofs.HeapRegions.{heap_of_all}
use Rattle.kernel_heap.proofs.Full.{no_room}
use Rattle.paged_systems.proofs.Pages.{pages_some}
use Rattle.paged_systems.proofs.Places.{range_within}
use Rattle.kernel_heap.proofs.Laid.{seen_denied}
use Rattle.std.proofs.lemmas.Nat.{div-add-mod'}
use Rattle.std.proofs.Math.Nat.{mod-lt}

-- what is asked for with a chunk of n bytes
asked_some : (n granularity : ℕ) → IsGranularity granularity → 0 < round_up (n + 96) granularity
asked_some n granularity is =
    let least : 16 ≤ granularity = is.1 in
    let parts : (n + 96 + (granularity - 1)) / granularity * granularity + (n + 96 + (granularity - 1)) % granularity ≡ n + 96 + (granularity - 1) = div-add-mod' (n + 96 + (granularity - 1)) granularity in
    let less : (n + 96 + (granularity - 1)) % granularity < granularity = mod-lt (n + 96 + (granularity - 1)) (omega arith) in
    omega arith

abbrev pub refused_with : Refusal → Answer
refused_with refusal = record { reply = Refused refusal; regions = None; large = None }

-- a refusal changes nothing
after_refused : (s : State) (call : Call) (refusal : Refusal) → after s call (refused_with refusal) ≡ s
after_refused s (Malloc size align) refusal = refl
after_refused s (Calloc size align) refusal = refl
after_refused s (Realloc number size) refusal = refl
after_refused s (CRealloc number size) refusal = refl
after_refused s (Free number) refusal = refl
after_refused s (Write number offset bytes) refusal = refl
after_refused s (Read number offset count) refusal = refl
after_refused s (Map start pages rights) refusal = refl
after_refused s (Unmap start pages) refusal = refl
after_refused s (Probe at access user) refusal = refl
after_refused s (Trim pad) refusal = refl
after_refused s (SetRate rate) refusal = refl
after_refused s (SetGranularity granularity) refusal = refl
after_refused s Reset refusal = refl
after_refused s Extents refusal = refl

-- the refusal that must come
pub step_refused : (m : Seen) (s : State) (call : Call) (refusal : Refusal) → must_refuse s call ≡ Some refusal → IsGood s →
    Stands m s → IsStep s call (refused_with refusal) m
step_refused m s call refusal must good stands = record {
  allowed = record { reply = (refl, inl must); listed = tt; large = tt };
  good = subst IsGood (sym (after_refused s call refusal)) good;
  stands = subst (Stands m) (sym (after_refused s call refusal)) stands;
}

-- a request for a block is refused by its size and alignment alone
pub request_refused : (cleared : Bool) (s : State) (size align : ℕ) → must_refuse s (request cleared size align) ≡ refuse_request s.granularity size align
request_refused false s size align = refl
request_refused true s size align = refl

pub request_wants : (cleared : Bool) (s : State) (size align : ℕ) → wanted_by s (request cleared size align) ≡ Some (wanted size align)
request_wants false s size align = refl
request_wants true s size align = refl

-- an alignment that is no power of two
pub refused_align : (granularity size align : ℕ) → is_power_of_two align ≡ false → refuse_request granularity size align ≡ Some BadAlign
refused_align granularity size align test = rw test refl

-- what is asked of the heap is from the limit on
is_large : (granularity size align : ℕ) → limit granularity ≤ asked size align →
    (if is_too_large granularity size align then Some TooLarge else None) ≡ Some TooLarge
is_large granularity size align most = go (nat_le align 16) refl
  where
    go : (few : Bool) → nat_le align 16 ≡ few → (if is_too_large granularity size align then Some TooLarge else None) ≡ Some TooLarge
    go true is = (let large : nat_le (limit granularity) size ≡ true =
        (let asked_is : asked size align ≡ size = rw is refl in grind (arith, nat_tests)) in rw (is, large) refl)
    go false is = (let large : nat_le (limit granularity) (enlarged size align) ≡ true =
        (let asked_is : asked size align ≡ enlarged size align = rw is refl in grind (arith, nat_tests)) in
        rw (is, large) refl)

-- it is below
not_large : (granularity size align : ℕ) → asked size align < limit granularity → (if is_too_large granularity size align then Some TooLarge else None) ≡ None
not_large granularity size align less = go (nat_le align 16) refl
  where
    go : (few : Bool) → nat_le align 16 ≡ few → (if is_too_large granularity size align then Some TooLarge else None) ≡ None
    go true is = (let small : nat_le (limit granularity) size ≡ false =
        (let asked_is : asked size align ≡ size = rw is refl in grind (arith, nat_tests)) in rw (is, small) refl)
    go false is = (let small : nat_le (limit granularity) (enlarged size align) ≡ false =
        (let asked_is : asked size align ≡ enlarged size align = rw is refl in grind (arith, nat_tests)) in
        rw (is, small) refl)

-- so a request is refused at once, or is not
pub refused_large : (granularity size align : ℕ) → is_power_of_two align ≡ true → limit granularity ≤ asked size align →
    refuse_request granularity size align ≡ Some TooLarge
refused_large granularity size align power most = rw power (is_large granularity size align most)

pub not_refused : (granularity size align : ℕ) → is_power_of_two align ≡ true → asked size align < limit granularity →
    refuse_request granularity size align ≡ None
not_refused granularity size align power less = rw power (not_large granularity size align less)

-- and a block may get this size
pub not_refused_resizing : (granularity size : ℕ) (align : Block → ℕ) (block : Block) →
    asked size (align block) < limit granularity → refuse_resizing granularity size align (Some block) ≡ None
not_refused_resizing granularity size align block less = not_large granularity size (align block) less

pub large_resizing : (granularity size : ℕ) (align : Block → ℕ) (block : Block) →
    limit granularity ≤ asked size (align block) → refuse_resizing granularity size align (Some block) ≡ Some TooLarge
large_resizing granularity size align block most = is_large granularity size (align block) most

-- the chunk of what is asked of the heap is the one that is wanted
pub wanted_asked : (size align : ℕ) → is_power_of_two align ≡ true → padded (asked size align) ≡ wanted size align
wanted_asked size align power = go (nat_le align 16) refl
  where
    go : (few : Bool) → nat_le align 16 ≡ few → padded (if few then size else enlarged size align) ≡ wanted size align
    go true is = sym (wanted_few size align (grind (arith, nat_tests)))
    go false is = wanted_many size align (power_from_test align power) (grind (arith, nat_tests))

-- what a state has of the regions of a machine
module _ (system : PagedSystem) (m : Seen) (same : m.paged ≡ paged system) (s : State) (good : IsGood s) (stands : Stands m s) where
  regions_same : (paged system).regions ≡ all_regions s
  regions_same = sym (ap (λ p. p.regions) same) ∙ stands.regions

  pub regions_are : s.heap ≡ heap_regions (paged system).regions
  regions_are = sym (ap heap_regions regions_same ∙ heap_of_all s good)

  -- what is said of a place in the machine's window among its regions, holds in the state's
  placed : (P : ℕ → ℕ → List Region → Type 0) → P (paged system).base (paged system).pages (paged system).regions → P s.base s.pages (all_regions s)
  placed P is =
      subst (λ (regions : List Region). P s.base s.pages regions) regions_same
      (subst (λ (pages : ℕ). P s.base pages (paged system).regions) (sym (ap (λ p. p.pages) same) ∙ stands.pages)
      (subst (λ (base : ℕ). P base (paged system).pages (paged system).regions) (sym (ap (λ p. p.base) same) ∙ stands.base) is))

  pub place_same : (pages address : ℕ) → IsPlace (paged system).base (paged system).pages (paged system).regions pages
      address → IsPlace s.base s.pages (all_regions s) pages address
  place_same pages address = placed (λ base window regions. IsPlace base window regions pages address)

  no_place_same : (pages : ℕ) → HasNoPlace (paged system).base (paged system).pages (paged system).regions pages →
      HasNoPlace s.base s.pages (all_regions s) pages
  no_place_same pages = placed (λ base window regions. HasNoPlace base window regions pages)

module _ {top : ℕ} (heap : Dlmalloc PagedSystem) (blocks : List (Option Live)) (laid : IsLaidOut heap blocks) (s : State) (good : IsGood s)
    (stands : Stands (seen_of top heap blocks) s)
    (call : Call) (n : ℕ) (must : must_refuse s call ≡ None) (wants : wanted_by s call ≡ Some n) where
  abbrev m : Seen
  m = seen_of top heap blocks

  abbrev asked_pages : ℕ
  asked_pages = pages_in (round_up (n + 96) heap.granularity)

  pages_same : pages_for n s.granularity ≡ asked_pages
  unfolding pages_for
  pages_same = ap (λ g. pages_in (round_up (n + 96) g)) (sym stands.granularity)

  -- a refusal that may come, comes
  step_may : (refusal : Refusal) → MayRefuse s (Some n) refusal → IsStep s call (refused_with refusal) m
  step_may refusal may = record {
    allowed = record { reply = (refl, inr (must, subst (λ w. MayRefuse s w refusal) (sym wants) may)); listed = tt; large = tt };
    good = subst IsGood (sym (after_refused s call refusal)) good;
    stands = subst (Stands m) (sym (after_refused s call refusal)) stands;
  }

  -- the pages have no place
  step_no_space : IsDenied denies heap.system (heap_state heap) n SystemNoSpace → IsStep s call (refused_with NoSpace) m
  step_no_space is =
      let none_fits : HasNoPlace s.base s.pages (all_regions s) asked_pages =
      no_place_same heap.system m refl s good stands asked_pages (is.denied (λ e. absurd (cc))) in
      step_may NoSpace (no_room heap blocks laid s good stands n is.full, subst (HasNoPlace s.base s.pages (all_regions s)) (sym pages_same) none_fits)

  -- they have one, but too few frames
  step_no_frames : IsGranularity heap.granularity → IsDenied denies heap.system (heap_state heap) n SystemNoFrames → IsStep s call (refused_with NoFrames) m
  step_no_frames granularity is =
      let some = pages_some (round_up (n + 96) heap.granularity) (asked_some n heap.granularity granularity) in
      let f = stands.free_frames in
      let lacks = is.denied (λ e. absurd (cc)) in
      let few = lacks.2 in
      let range = range_within (paged heap.system) asked_pages lacks.0 heap.system.kept.window some lacks.1.fit in
      let place : IsPlace s.base s.pages (all_regions s) asked_pages lacks.0 = place_same heap.system m refl s good stands asked_pages lacks.0 lacks.1 in
      let same = missing_same m s lacks.0 asked_pages stands range in
      let less : free_frames s < asked_pages + missing s.tables lacks.0 asked_pages = omega arith in
      step_may NoFrames (
        no_room heap blocks laid s good stands n is.full,
        (
          lacks.0,
          subst (λ k. IsPlace s.base s.pages (all_regions s) k lacks.0) (sym pages_same) place,
          subst (λ k. free_frames s < k + missing s.tables lacks.0 k) (sym pages_same) less,
        ),
      )

-- What the heap refuses, is refused for the same cause.
pub step_denied : {top : ℕ} → (heap new : Dlmalloc PagedSystem) → IsGranularity heap.granularity →
    (blocks : List (Option Live)) (laid : IsLaidOut heap blocks) (s : State) (good : IsGood s)
    (stands : Stands (seen_of top heap blocks) s) (call : Call) (asked n : ℕ) → padded asked ≡ n →
    (limit s.granularity ≤ asked → must_refuse s call ≡ Some TooLarge) →
    (asked < limit s.granularity → must_refuse s call ≡ None) →
    wanted_by s call ≡ Some n → (error : MallocError) → IsRefusedWith regions word follows refuses denies heap asked error
    new → (refusal : Refusal) → refusal_of error ≡ Some refusal → IsStep s call (refused_with refusal) (seen_of top new blocks)
step_denied {top = top} heap new granularity blocks laid s good stands call asked n same large small wants error denied refusal is =
    subst (λ (m : Seen). IsStep s call (refused_with refusal) m) (sym (seen_denied heap new blocks asked error denied top)) (go error refusal is denied.refused)
  where
    go : (error : MallocError) (refusal : Refusal) → refusal_of error ≡ Some refusal →
        IsMallocRefused denies heap.system (heap_state heap) asked error →
        IsStep s call (refused_with refusal) (seen_of top heap blocks)
    go MallocTooLarge refusal is most =
        let one : TooLarge ≡ refusal = cc in
        subst (λ r. IsStep s call (refused_with r) (seen_of top heap blocks)) one
        (step_refused (seen_of top heap blocks) s call TooLarge (large
        (subst (λ g. limit g ≤ asked) stands.granularity most)) good stands)
    go (System SystemNoSpace) refusal is why =
        let one : NoSpace ≡ refusal = cc in
        subst (λ r. IsStep s call (refused_with r) (seen_of top heap blocks)) one
        (step_no_space heap blocks laid s good stands call n (small (subst (λ g. asked < limit g) stands.granularity why.0)) wants
        (subst (λ k. IsDenied denies heap.system (heap_state heap) k SystemNoSpace) same why.1))
    go (System SystemNoFrames) refusal is why =
        let one : NoFrames ≡ refusal = cc in
        subst (λ r. IsStep s call (refused_with r) (seen_of top heap blocks)) one
        (step_no_frames heap blocks laid s good stands call n (small (subst (λ g. asked < limit g) stands.granularity why.0)) wants granularity
        (subst (λ k. IsDenied denies heap.system (heap_state heap) k SystemNoFrames) same why.1))
    go (System SystemOutOfMemory) refusal is why = absurd (cc)
