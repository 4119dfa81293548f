-- The slots of the region that joined last are told: nothing that a state has is different then.
use Rattle.std.proofs.Common.{◌≡◌, ℕ, inl, inr, List, [], Option, Some, None, refl, sym, ap, ◌∙◌, subst}
use Rattle.machine_model.specs.declared.call.Call.{Call}
use Rattle.machine_model.specs.declared.answer.Answer.{Answer}
use Rattle.machine_model.specs.State.{State}
use Rattle.machine_model.specs.Answer.{NewPages}
use Rattle.machine_model.specs.Machine.{Paged, IsStep}
use Rattle.machine_model.proofs.Moved.{stands_taken}
use Rattle.paged_systems.specs.System.{paged}
use Rattle.kernel_heap.specs.Machine.{system_of, seen_with}
use Rattle.kernel_heap.specs.Kept.{AreRunsUsedFor}
use Rattle.kernel_heap.specs.Moves.{marks_of, AreSlotsTold, HasToldSlots, IsToldFrom}
use Rattle.dlmalloc.specs.declared.heap.Dlmalloc.{Dlmalloc}
use Rattle.paged_systems.specs.declared.paged_system.PagedSystem.{PagedSystem}
use Rattle.kernel_heap.specs.declared.numbered_heap.Marks.{Marks}
use Rattle.kernel_heap.specs.declared.numbered_heap.NumberedHeap.{NumberedHeap}
use Rattle.paged_systems.proofs.Numbers.{same_or_other}

module _ {before : Marks} {large : Option (List ℕ)} (old new : NumberedHeap) (told : HasToldSlots old before large new) where
  pub step_told : (top : ℕ) (s : State) (call : Call) (answer : Answer) → IsStep s call answer (seen_with top old) → IsStep s call answer (seen_with top new)
  step_told top s call answer step = elim (same_or_other (paged (system_of old)).joins before.joins) [
    | inl same ↦ subst (λ (n : NumberedHeap). IsStep s call answer (seen_with top n)) (sym (told.none same).1) step
    | inr differ ↦ subst (IsStep s call answer) (sym (seen_is differ))
        (record { allowed = step.allowed; good = step.good; stands = stands_taken (seen_with top old) _ [] step.stands })
  ]
    where
      seen_is : ((paged (system_of old)).joins ≡ before.joins → ⊥) → seen_with top
          new ≡ record (seen_with top old) { paged = record (paged (system_of old)) { slots = [] } }
      seen_is differ = λ i. record { paged = told.taken differ i; granularity = (told.rest i).granularity; blocks = (told.blocks i).items; top = top }

  pub runs_told : (p : Paged) (pages : Option NewPages) → AreRunsUsedFor p (paged (system_of old)) pages → AreRunsUsedFor p (paged (system_of new)) pages
  runs_told p pages used = elim (same_or_other (paged (system_of old)).joins before.joins) [
    | inl same ↦ subst (λ (n : NumberedHeap). AreRunsUsedFor p (paged (system_of n)) pages) (sym (told.none same).1) used
    | inr differ ↦ subst (λ (q : Paged). AreRunsUsedFor p q pages) (sym (told.taken differ)) (of pages used)
  ]
    where
      of : (pages : Option NewPages) → AreRunsUsedFor p (paged (system_of old)) pages → AreRunsUsedFor p (record (paged (system_of old)) { slots = [] }) pages
      of None used = tt
      of (Some new) used = used

  -- those are what a call tells, whose marks were made at its start
  pub slots_told : (start heap : Dlmalloc PagedSystem) → before ≡ marks_of (paged start.system) → old.heap ≡ heap → AreSlotsTold start heap large
  slots_told start heap marks is =
      let joins = ap (λ (m : Marks). m.joins) marks in
      subst (λ (h : Dlmalloc PagedSystem). AreSlotsTold start h large) is
      (record { none = λ same. (told.none (same ∙ sym joins)).0; joined = λ other. told.slots (λ same. other (same ∙ joins)) })

  pub told_from : (heap : Dlmalloc PagedSystem) → old.heap ≡ heap → IsToldFrom heap new.heap
  told_from heap is = subst (λ (h : Dlmalloc PagedSystem). IsToldFrom h new.heap) is (record { system = system_is; rest = told.rest })
    where
      system_is : paged (system_of new) ≡ record (paged (system_of old)) { slots = (paged (system_of new)).slots }
      system_is = elim (same_or_other (paged (system_of old)).joins before.joins) [
        | inl same ↦ subst (λ (n : NumberedHeap). paged (system_of n) ≡ record (paged (system_of old)) {
          slots =
              (paged (system_of n)).slots;
        }) (sym (told.none same).1) refl
        | inr differ ↦ told.taken differ ∙ ap (λ (slots : List ℕ). record (paged (system_of old)) { slots = slots })
            (sym (ap (λ (p : Paged). p.slots) (told.taken differ)))
      ]
