-- What a numbered heap does when it serves a call.
use Rattle.std.specs.Prelude.{◌≡◌, ℕ, Result, IfOk, OnErr}
use Rattle.std.specs.declared.alloc.AllocError.{AllocError}
use Rattle.machine_model.specs.declared.answer.Answer.{Answer}
use Rattle.machine_model.specs.declared.call.Call.{Call}
use Rattle.machine_model.specs.Machine.{Stands, IsStep}
use Rattle.machine_model.specs.Run.{IsGood}
use Rattle.machine_model.specs.State.{State}
use Rattle.kernel_heap.specs.declared.numbered_heap.NumberedHeap.{NumberedHeap}
use Rattle.kernel_heap.specs.Kept.{lasting_pages, AreRunsUsedFor, IsSeenAsBefore, IsReachedByte}
use Rattle.kernel_heap.specs.Machine.{seen_with, system_of}
use Rattle.kernel_heap.specs.Moves.{HeapMoves, KeepsStateAndBins}
use Rattle.paged_systems.specs.System.{paged}

-- A numbered heap answered a call, whatever frame is in CR3.
pub record HasServedCall (old : NumberedHeap) (call : Call) (answer : Answer) (new : NumberedHeap) : Type 0 where
  -- The answer is allowed in each good state for which it stood, and it stands for the state that the answer leaves.
  pub allowed : (top : ℕ) (s : State) → IsGood s → Stands (seen_with top old) s → IsStep s call answer (seen_with top new)
  -- The heap moved as the answer tells.
  pub heap : HeapMoves old call answer.reply answer.large new
  -- Where the reply tells that nothing was changed, the same is seen as before.
  pub kept : IsSeenAsBefore answer.reply old new
  -- Each slot that lies whole among new pages that last, and had no table, is mapped by one entry, or no run of frames is free.
  pub runs :
      (top : ℕ) (s : State) → IsGood s → Stands (seen_with top old) s →
      AreRunsUsedFor (paged (system_of old)) (paged (system_of new)) (lasting_pages s call answer)
  -- A byte that a probe shows is the one that the walk reaches.
  pub reached : IsReachedByte (paged (system_of new)) call answer.reply

-- Memory was wanting for an answer: the same is seen as before, and the heap stays in its state, with the order of its bins.
pub record HasNotServed (old new : NumberedHeap) : Type 0 where
  pub same : (top : ℕ) → seen_with top new ≡ seen_with top old
  pub still : KeepsStateAndBins old.heap new.heap

-- A call was answered, or memory was wanting.
pub record IsServedOrNot (old : NumberedHeap) (call : Call) (result : Result Answer AllocError) (new : NumberedHeap) : Type 0 where
  pub ok : IfOk result (λ answer. HasServedCall old call answer new)
  pub err : OnErr result (HasNotServed old new)
