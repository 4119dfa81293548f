-- Laws of traces, one after another.
use Rattle.std.proofs.Common.{ℕ, List, [], ◌∷◌, ◌++◌, Option, refl, sym, ◌∙◌, ap, subst, append_assoc}
use Rattle.machine_model.specs.declared.call.Call.{Call}
use Rattle.kernel_heap.specs.declared.machine.Machine.{Machine}
use Rattle.memory_image.specs.declared.tracing.Traced.{Traced}
use Rattle.memory_image.specs.Traced.{IsTracing, AreTraced}

pub tracing_none : (x : Traced) → IsTracing x [] [] x
tracing_none x = (refl, refl)

traced_on : (x y z : Machine) (a b : List (Option Call)) (t u : List ℕ) → AreTraced x a t y → AreTraced y b u z → AreTraced x (a ++ b) (t ++ u) z
traced_on x y z [] b t u h k =
    subst (λ (m : Machine). AreTraced m b (t ++ u) z) h.1 (subst (λ (l : List ℕ). AreTraced y b (l ++ u) z) (sym h.0) k)
traced_on x y z (item ∷ a) b t u h k =
    (h.0, h.1, h.2 ++ u, ap (λ (l : List ℕ). l ++ u) h.3 ∙ append_assoc h.1 h.2 u, h.4, traced_on h.0 y z a b h.2 u h.5 k)

pub tracing_on : (x y z : Traced) (a b : List (Option Call)) (t u : List ℕ) → IsTracing x a t y → IsTracing y b u z → IsTracing x (a ++ b) (t ++ u) z
tracing_on x y z a b t u h k = traced_on x.machine y.machine z.machine a b t u h k
