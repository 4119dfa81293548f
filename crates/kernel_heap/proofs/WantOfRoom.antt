-- Calls that are refused: where room is wanting the heap has none, and what is seen of the machine stays.
use Rattle.std.proofs.Common.{◌≡◌, ◌≢◌, ℕ, ◌-◌, ◌≤◌, Bool, true, false, List, Option, None, Some, refl, subst}
use Rattle.std.specs.Prelude.{IsTrue}
use Rattle.heap_memory.specs.declared.grant.GrantFault.TheVariants.{NoSpace, NoFrames, OutOfMemory}
use Rattle.dlmalloc_chunks.specs.Request.{padded}
use Rattle.dlmalloc.specs.Requested.{asked}
use Rattle.dlmalloc.specs.Resized.{in_place}
use Rattle.dlmalloc.specs.Served.{IsMallocRefused, IsRefusedWith}
use Rattle.dlmalloc.specs.declared.heap.Dlmalloc.{Dlmalloc}
use Rattle.dlmalloc.specs.declared.malloc_error.MallocError.{MallocError}
use Rattle.dlmalloc.specs.declared.malloc_error.MallocError.TheVariants.{TooLarge, System}
use Rattle.machine_model.specs.declared.live.Live.{Live}
use Rattle.machine_model.specs.declared.answer.Refusal.{Refusal}
use Rattle.machine_model.specs.declared.answer.Refusal.TheVariants.{TooLarge as IsTooLarge, NoSpace as HasNoSpace, NoFrames as HasNoFrames}
use Rattle.machine_model.specs.declared.answer.Reply.{Reply}
use Rattle.machine_model.specs.declared.answer.Reply.TheVariants.{Refused}
use Rattle.kernel_heap.specs.Heap.{regions, word, follows, refuses, denies, heap_state}
use Rattle.kernel_heap.specs.Machine.{heap_of}
use Rattle.kernel_heap.specs.Numbered.{live_at}
use Rattle.kernel_heap.specs.Refusing.{refusal_of, error_of, is_for_room, HasNoneFor, HasNoneBeside}
use Rattle.kernel_heap.specs.Blocks.{request, resizing, align_kept}
use Rattle.kernel_heap.specs.Kept.{leaves_all, IsSeenAsBefore}
use Rattle.kernel_heap.specs.Moves.{IsLeftByRefusal, HeapMoves}
use Rattle.paged_systems.specs.declared.paged_system.PagedSystem.{PagedSystem}
use Rattle.kernel_heap.specs.declared.numbered_heap.NumberedHeap.{NumberedHeap}

-- a size that is too large wants no room
not_for_room : (refusal : Refusal) → refusal_of TooLarge ≡ Some refusal → is_for_room refusal ≡ false
not_for_room refusal is = (let one : IsTooLarge ≡ refusal = cc in subst (λ (r : Refusal). is_for_room r ≡ false) one refl)

module _ (heap : Dlmalloc PagedSystem) (size align : ℕ) where
  pub none_for : (error : MallocError) (refusal : Refusal) → refusal_of error ≡ Some refusal →
      IsMallocRefused denies heap.system (heap_state heap) (asked size align) error →
      HasNoneFor (heap_state heap) size align refusal
  none_for TooLarge refusal is why room = (let no = not_for_room refusal is in absurd (cc))
  none_for (System NoSpace) refusal is why room = why.1.none_chosen
  none_for (System NoFrames) refusal is why room = why.1.none_chosen
  none_for (System OutOfMemory) refusal is why room = absurd (cc)

  pub none_beside : (from : ℕ) (error : MallocError) (refusal : Refusal) → refusal_of error ≡ Some refusal →
      IsMallocRefused denies heap.system (heap_state heap) (asked size align) error →
      (error ≢ TooLarge → align ≤ 16 → in_place (heap_state heap) (from - 16) (padded size) ≡ None) → HasNoneBeside (heap_state heap) from size align refusal
  none_beside from error refusal is why tried = (none_for error refusal is why, beside error is tried)
    where
      beside : (error : MallocError) → refusal_of error ≡ Some refusal →
          (error ≢ TooLarge → align ≤ 16 → in_place (heap_state heap) (from - 16) (padded size) ≡ None) →
          IsTrue (is_for_room refusal) → align ≤ 16 → in_place (heap_state heap) (from - 16) (padded size) ≡ None
      beside TooLarge is tried room few = (let no = not_for_room refusal is in absurd (cc))
      beside (System fault) is tried room few = tried (λ e. absurd (cc)) few

-- the error is the one that the refusal tells of
tells : (error : MallocError) (refusal : Refusal) → refusal_of error ≡ Some refusal → error_of refusal ≡ Some error
tells TooLarge refusal is = (let one : IsTooLarge ≡ refusal = cc in subst (λ (r : Refusal). error_of r ≡ Some TooLarge) one refl)
tells (System NoSpace) refusal is = (let one : HasNoSpace ≡ refusal = cc in subst (λ (r : Refusal). error_of r ≡ Some (System NoSpace)) one refl)
tells (System NoFrames) refusal is = (let one : HasNoFrames ≡ refusal = cc in subst (λ (r : Refusal). error_of r ≡ Some (System NoFrames)) one refl)
tells (System OutOfMemory) refusal is = absurd (cc)

pub left_refused : (old new : Dlmalloc PagedSystem) (size : ℕ) (error : MallocError) (refusal : Refusal) → refusal_of error ≡ Some refusal →
    IsRefusedWith regions word follows refuses denies old size error new → IsLeftByRefusal old size refusal new
left_refused old new size error refusal is out = rw (tells error refusal is) out

-- a request that is refused moves nothing
pub request_refused_moves : (cleared : Bool) (old : NumberedHeap) (size align : ℕ) (refusal : Refusal)
    (large : Option (List ℕ)) (new : NumberedHeap) → IsLeftByRefusal old.heap (asked size align) refusal new.heap →
    HasNoneFor (heap_of old) size align refusal →
    HeapMoves old (request cleared size align) (Refused refusal) large new
request_refused_moves false old size align refusal large new same none = (same, none)
request_refused_moves true old size align refusal large new same none = (same, none)

-- and so does another size that is refused, of a block or of none
pub resizing_refused_moves : (keeps : Bool) (old : NumberedHeap) (number size : ℕ) (refusal : Refusal)
    (large : Option (List ℕ)) (new : NumberedHeap) (live : Live) → live_at old.blocks.items number ≡ Some live →
    IsLeftByRefusal old.heap (asked size (align_kept keeps live)) refusal new.heap →
    HasNoneBeside (heap_of old) live.address size (align_kept keeps live) refusal → HeapMoves old (resizing keeps number size) (Refused refusal) large new
resizing_refused_moves true old number size refusal large new live is same none = rw is (same, none)
resizing_refused_moves false old number size refusal large new live is same none = rw is (same, none)

pub unknown_moves : (keeps : Bool) (old : NumberedHeap) (number size : ℕ) (refusal : Refusal) (large : Option (List ℕ))
    (new : NumberedHeap) → live_at old.blocks.items number ≡ None → new.heap ≡ old.heap →
    HeapMoves old (resizing keeps number size) (Refused refusal) large new
unknown_moves true old number size refusal large new none same = rw none same
unknown_moves false old number size refusal large new none same = rw none same

-- any other reply may tell of a change
pub other_reply : (reply : Reply) (old new : NumberedHeap) → leaves_all reply ≡ false → IsSeenAsBefore reply old new
other_reply reply old new other told top = absurd (cc)
