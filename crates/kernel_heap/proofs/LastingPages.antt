-- The pages that an answer maps and that last: none where the call is refused, and none by a call that asks for no page.
use Rattle.std.proofs.Common.{◌≡◌, List, refl, sym, ap, ◌∙◌, subst, Option, Some, None}
use Rattle.std.specs.Prelude.{⊤}
use Rattle.machine_model.specs.declared.region.Region.{Region}
use Rattle.machine_model.specs.declared.call.Call.{Call}
use Rattle.machine_model.specs.declared.call.Call.TheVariants.{Malloc, Calloc, Realloc, CRealloc, Free, Write, Read, Map, Unmap, Probe, Trim, SetRate, SetGranularity, Reset, Extents}
use Rattle.machine_model.specs.declared.answer.Answer.{Answer}
use Rattle.machine_model.specs.declared.answer.Refusal.{Refusal}
use Rattle.machine_model.specs.State.{State}
use Rattle.machine_model.specs.Answer.{new_pages}
use Rattle.machine_model.specs.Machine.{Paged}
use Rattle.kernel_heap.specs.Refusing.{IsRefusal}
use Rattle.kernel_heap.specs.Kept.{lasting_pages, AreRunsUsedFor}
use Rattle.kernel_heap.proofs.Refused.{refused_with}

-- the call asks for no page
abbrev pub AsksForNone : Call → Type 0
AsksForNone (Malloc size align) = ⊥
AsksForNone (Calloc size align) = ⊥
AsksForNone (Map start pages rights) = ⊥
AsksForNone call = ⊤

-- no page is new, whether regions are listed or not
unlisted : (old new : Paged) (s : State) (call : Call) (answer : Answer) →
    ((list : List Region) → new_pages s call answer.reply (Some list) ≡ None) → new_pages s call answer.reply None ≡ None →
    (regions : Option (List Region)) → AreRunsUsedFor old new (new_pages s call answer.reply regions)
unlisted old new s call answer some none None = subst (AreRunsUsedFor old new) (sym none) tt
unlisted old new s call answer some none (Some list) = subst (AreRunsUsedFor old new) (sym (some list)) tt

pub runs_none : (old new : Paged) (s : State) (call : Call) (answer : Answer) → AsksForNone call → AreRunsUsedFor old new (lasting_pages s call answer)
runs_none old new s (Malloc size align) answer asks = absurd asks
runs_none old new s (Calloc size align) answer asks = absurd asks
runs_none old new s (Map start pages rights) answer asks = absurd asks
runs_none old new s (Realloc number size) answer asks = tt
runs_none old new s (CRealloc number size) answer asks = tt
runs_none old new s (Free number) answer asks = unlisted old new s (Free number) answer (λ list. refl) refl answer.regions
runs_none old new s (Write number offset bytes) answer asks = unlisted old new s (Write number offset bytes) answer (λ list. refl) refl answer.regions
runs_none old new s (Read number offset count) answer asks = unlisted old new s (Read number offset count) answer (λ list. refl) refl answer.regions
runs_none old new s (Unmap start pages) answer asks = unlisted old new s (Unmap start pages) answer (λ list. refl) refl answer.regions
runs_none old new s (Probe at access user) answer asks = unlisted old new s (Probe at access user) answer (λ list. refl) refl answer.regions
runs_none old new s (Trim pad) answer asks = unlisted old new s (Trim pad) answer (λ list. refl) refl answer.regions
runs_none old new s (SetRate rate) answer asks = unlisted old new s (SetRate rate) answer (λ list. refl) refl answer.regions
runs_none old new s (SetGranularity granularity) answer asks = unlisted old new s (SetGranularity granularity) answer (λ list. refl) refl answer.regions
runs_none old new s Reset answer asks = unlisted old new s Reset answer (λ list. refl) refl answer.regions
runs_none old new s Extents answer asks = unlisted old new s Extents answer (λ list. refl) refl answer.regions

-- a refused call maps none
refused_none : (s : State) (call : Call) (refusal : Refusal) → lasting_pages s call (refused_with refusal) ≡ None
refused_none s (Malloc size align) refusal = refl
refused_none s (Calloc size align) refusal = refl
refused_none s (Realloc number size) refusal = refl
refused_none s (CRealloc number size) refusal = refl
refused_none s (Map start pages rights) refusal = refl
refused_none s (Free number) refusal = refl
refused_none s (Write number offset bytes) refusal = refl
refused_none s (Read number offset count) refusal = refl
refused_none s (Unmap start pages) refusal = refl
refused_none s (Probe at access user) refusal = refl
refused_none s (Trim pad) refusal = refl
refused_none s (SetRate rate) refusal = refl
refused_none s (SetGranularity granularity) refusal = refl
refused_none s Reset refusal = refl
refused_none s Extents refusal = refl

pub runs_refused : (old new : Paged) (s : State) (call : Call) (why : Option Refusal) (answer : Answer) →
    IsRefusal why answer → AreRunsUsedFor old new (lasting_pages s call answer)
runs_refused old new s call why answer is = subst (AreRunsUsedFor old new) (sym (ap (lasting_pages s call) is.2 ∙ refused_none s call is.0)) tt
