-- Calls that are served: those that ask for no page, those that are refused, and those for which memory is wanting.
use Rattle.std.proofs.Common.{◌≡◌, ℕ, None, Some, Result, Ok, Err, refl, sym, subst}
use Rattle.std.specs.Prelude.{OnErr}
use Rattle.std.specs.Result.{IsErrAnd}
use Rattle.std.specs.declared.alloc.AllocError.{AllocError}
use Rattle.machine_model.specs.declared.answer.Answer.{Answer}
use Rattle.machine_model.specs.declared.answer.Refusal.{Refusal}
use Rattle.machine_model.specs.declared.answer.Reply.TheVariants.{Refused}
use Rattle.machine_model.specs.declared.call.Call.{Call}
use Rattle.machine_model.specs.Machine.{Stands, IsStep}
use Rattle.machine_model.specs.Run.{IsGood}
use Rattle.machine_model.specs.State.{State}
use Rattle.kernel_heap.specs.declared.numbered_heap.NumberedHeap.{NumberedHeap}
use Rattle.kernel_heap.specs.Kept.{IsSeenAsBefore, IsReachedByte}
use Rattle.kernel_heap.specs.Machine.{seen_of, seen_with, system_of}
use Rattle.kernel_heap.specs.Moves.{HeapMoves, KeepsStateAndBins}
use Rattle.kernel_heap.specs.Served.{HasServedCall, HasNotServed, IsServedOrNot}
use Rattle.paged_systems.specs.System.{paged}
use Rattle.kernel_heap.proofs.Laid.{still_none}
use Rattle.kernel_heap.proofs.LastingPages.{AsksForNone, runs_none, runs_refused}
use Rattle.kernel_heap.proofs.Refused.{refused_with}

module _ {old new : NumberedHeap} {call : Call} {answer : Answer} where
  -- no page is new where the call asks for none
  pub served : AsksForNone call → IsReachedByte (paged (system_of new)) call answer.reply →
      ((top : ℕ) (s : State) → IsGood s → Stands (seen_with top old) s → IsStep s call answer (seen_with top new)) →
      HeapMoves old call answer.reply answer.large new → IsSeenAsBefore answer.reply old new → HasServedCall old call answer new
  served asks reached allowed heap kept = record {
    allowed = allowed;
    heap = heap;
    kept = kept;
    runs = λ top s good stands. runs_none (paged (system_of old)) (paged (system_of new)) s call answer asks;
    reached = reached;
  }

  -- a refused call leaves all that is seen
  pub served_refused : (why : Refusal) → answer ≡ refused_with why →
      ((top : ℕ) (s : State) → IsGood s → Stands (seen_with top old) s → IsStep s call (refused_with why) (seen_with top new)) →
      HeapMoves old call (Refused why) None new → ((top : ℕ) → seen_with top new ≡ seen_with top old) → HasServedCall old call answer new
  served_refused why is allowed heap same =
      subst (λ (a : Answer). HasServedCall old call a new) (sym is)
      (record {
        allowed = allowed;
        heap = heap;
        kept = λ told. same;
        runs = λ top s good stands. runs_refused (paged (system_of old)) (paged (system_of new)) s call (Some why) (refused_with why) (why, refl, refl);
        reached = tt;
      })

-- memory was wanting before the heap and its blocks changed
pub not_served : {T E : Type 0} (old new : NumberedHeap) (result : Result T E) → new.heap ≡ old.heap →
    new.blocks.items ≡ old.blocks.items → OnErr result (HasNotServed old new)
not_served old new (Ok value) heap blocks = tt
not_served old new (Err error) heap blocks = record {
  same = λ top i. seen_of top (heap i) (blocks i);
  still = subst (KeepsStateAndBins old.heap) (sym heap) (still_none old.heap);
}

pub unserved : {old new : NumberedHeap} {call : Call} (result : Result Answer AllocError) (Q : AllocError → Type 0) → IsErrAnd result Q →
    new.heap ≡ old.heap → new.blocks.items ≡ old.blocks.items → IsServedOrNot old call result new
unserved (Ok answer) Q is heap blocks = absurd is
unserved {old = old} {new = new} (Err error) Q is heap blocks = record { ok = tt; err = not_served {T = Answer} old new (Err error) heap blocks }

-- the call was answered
pub answered : {old new : NumberedHeap} {call : Call} {answer : Answer} → HasServedCall old call answer new → IsServedOrNot old call (Ok answer) new
answered is = record { ok = is; err = tt }
