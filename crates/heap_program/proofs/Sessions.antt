-- A session, piece after piece.
use Rattle.std.proofs.Common.{◌≡◌, ℕ, List, [], ◌++◌, Option, string_bytes, refl, sym, subst, ◌∙◌, ap, append_assoc}
use Rattle.std.proofs.lemmas.List.{append-nil}
use Rattle.machine_model.specs.declared.call.Call.{Call}
use Rattle.machine_model.specs.State.{State}
use Rattle.kernel_heap.specs.declared.machine.Machine.{Machine}
use Rattle.heap_program.specs.declared.session.Session.{Session}
use Rattle.heap_program.specs.Advanced.{Advanced}
use Rattle.heap_program.specs.Progress.{IsAt}
use Rattle.heap_program.proofs.Runs.{responded_part, responded_more}

-- a session with a machine that stands for a good state
pub begun : (s : State) (session : Session Machine) (machine : Machine) → session.responder ≡ machine → IsAt machine s → IsAt session.responder s
begun s session machine is at = subst (λ (m : Machine). IsAt m s) (sym is) at

module _ {R : Type 0} (responds : R → List (Option Call) → List ℕ → R → Type 0) where
  pub advanced_none : (session : Session R) → responds session.responder [] [] session.responder → Advanced responds session session []
  advanced_none session none = record {
    told = [];
    output = sym (append-nil (string_bytes session.output));
    responded =
        responded_part responds session.responder session.line session.line [] (λ rest. refl) none;
  }

  pub advanced_more :
      ((x y z : R) (a b : List (Option Call)) (t u : List ℕ) → responds x a t y → responds y b u z → responds x (a ++ b) (t ++ u) z) →
      (old mid new : Session R) (xs ys : List ℕ) → Advanced responds old mid xs → Advanced responds mid new ys → Advanced responds old new (xs ++ ys)
  advanced_more on old mid new xs ys a b = record {
    told = a.told ++ b.told;
    output = b.output ∙ ap (λ (l : List ℕ). l ++ b.told) a.output ∙ append_assoc (string_bytes old.output) a.told b.told;
    responded = responded_more responds on old.responder mid.responder new.responder old.line mid.line new.line xs ys a.told b.told a.responded b.responded;
  }
