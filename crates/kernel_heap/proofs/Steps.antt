-- Steps of a machine, one after another.
use Rattle.std.proofs.Common.{◌≡◌, ℕ, List, [], ◌∷◌, ◌++◌, map, Option, Some, IfOk, Result, Ok, Err, refl, sym, ◌∙◌, ap, subst}
use Rattle.std.proofs.lemmas.List.{map-append}
use Rattle.std.specs.Prelude.{OnErr}
use Rattle.std.specs.declared.alloc.AllocError.{AllocError}
use Rattle.machine_model.specs.declared.answer.Answer.{Answer}
use Rattle.machine_model.specs.declared.call.Call.{Call}
use Rattle.machine_model.specs.Machine.{IsStep}
use Rattle.x86_registers.specs.Cr3.{root_of}
use Rattle.x86_registers.specs.declared.cpu.Cpu.{Cpu}
use Rattle.sound_heap.specs.Heap.{IsIntact}
use Rattle.kernel_heap.specs.Heap.{regions, word}
use Rattle.kernel_heap.specs.Machine.{seen_with}
use Rattle.kernel_heap.specs.Served.{HasServedCall, HasNotServed}
use Rattle.kernel_heap.specs.Parts.{Parts}
use Rattle.kernel_heap.specs.Registers.{cpu_after}
use Rattle.kernel_heap.specs.Steps.{HasStepped, HasNotStepped, StepsTo}

module _ (old new : Parts) (call : Call) where
  -- a numbered heap that served a call over the root in CR3
  pub stepped : (result : Result Answer AllocError) → new.cpu.cr3 ≡ old.cpu.cr3 → IsIntact regions word new.heap.heap →
      IfOk result (λ answer. HasServedCall old.heap call answer new.heap) → IfOk result (λ answer. new.cpu ≡ cpu_after old.cpu call answer.reply) →
      IfOk result (λ answer. HasStepped old call answer new)
  stepped (Ok answer) root intact served registers =
      let top : root_of new.cpu.cr3 ≡ root_of old.cpu.cr3 = ap root_of root in
      record {
        allowed = λ s good stands. subst (λ (top : ℕ). IsStep s call answer (seen_with top new.heap)) (sym top) (served.allowed (root_of old.cpu.cr3) s good stands);
        heap = served.heap;
        intact = intact;
        kept = λ told. ap (λ (top : ℕ). seen_with top new.heap) top ∙ served.kept told (root_of old.cpu.cr3);
        runs = served.runs (root_of old.cpu.cr3);
        registers = registers;
        reached = served.reached;
      }
  stepped (Err error) root intact served registers = tt

  -- and one that could not
  pub not_stepped : (result : Result Answer AllocError) → new.cpu ≡ old.cpu → OnErr result (HasNotServed old.heap new.heap) → OnErr result (HasNotStepped old new)
  not_stepped (Ok answer) registers served = tt
  not_stepped (Err error) registers served = record {
    same = ap (λ (top : ℕ). seen_with top new.heap) (ap (λ (cpu : Cpu). root_of cpu.cr3) registers) ∙ served.same (root_of old.cpu.cr3);
    still = served.still;
    registers = registers;
  }

-- steps, and then others from the last machine
pub steps_on : (x y z : Parts) (a b : List (Option Call)) (t u : List (Option Answer)) → StepsTo x a t y → StepsTo y b u z → StepsTo x (a ++ b) (t ++ u) z
steps_on x y z [] b [] u one two = subst (λ (m : Parts). StepsTo m b u z) one two
steps_on x y z (item ∷ a) b (answer ∷ t) u one two = (one.0, one.1, steps_on one.0 y z a b t u one.2 two)
steps_on x y z [] b (answer ∷ t) u one two = absurd one
steps_on x y z (item ∷ a) b [] u one two = absurd one

-- where every item is a call
pub calls_steps_on : (x y z : Parts) (a b : List Call) (t u : List Answer) → StepsTo x (map Some a) (map Some t) y →
    StepsTo y (map Some b) (map Some u) z → StepsTo x (map Some (a ++ b)) (map Some (t ++ u)) z
calls_steps_on x y z a b t u one two =
    subst (λ (items : List (Option Call)). StepsTo x items (map Some (t ++ u)) z) (sym (map-append Some a b))
    (subst (λ (answers : List (Option Answer)). StepsTo x (map Some a ++ map Some b) answers z)
    (sym (map-append Some t u)) (steps_on x y z (map Some a) (map Some b) (map Some t) (map Some u) one two))

-- one step
pub step_one : (x y : Parts) (call : Call) (answer : Answer) → HasStepped x call answer y → StepsTo x (Some call ∷ []) (Some answer ∷ []) y
step_one x y call answer step = (y, step, refl)
