-- A heap whose system got more memory: it is as it was.
use Rattle.std.proofs.Common.{◌≡◌, ℕ, List, Result, Ok, Err, IfErr, OnOk, OnErr, ap, subst}
use Rattle.heap_memory.specs.Regions.{IsWordOf}
use Rattle.dlmalloc.specs.Heap.{state_of}
use Rattle.dlmalloc.specs.Served.{RestsOutside}
use Rattle.dlmalloc.specs.declared.heap.Dlmalloc.{Dlmalloc}
use Rattle.dlmalloc.proofs.Laws.{same_regions}
use Rattle.heap_arena.specs.declared.arena.Arena.{Arena}
use Rattle.heap_arena.specs.declared.add_fault.AddFault.{AddFault}
use Rattle.heap_arena.specs.Arenas.{regions_of_all, word_among, IsAdded, IsNotAdded}
use Rattle.sound_heap.specs.Heap.{IsIntact}
use Rattle.checked_heap.specs.Calls.{IsArenaRefused}

-- whether the arena was taken or not, what was granted is granted, and has its words
kept_either : {T E : Type 0} (answer : Result T E) (old new : List Arena) (arena : Arena) → OnOk answer (IsAdded old arena new) → OnErr answer (new ≡ old) →
    (regions_of_all new ≡ regions_of_all old) × ((at : ℕ) → IsWordOf (regions_of_all old) at → word_among new at ≡ word_among old at)
kept_either (Ok value) old new arena added same = (added.regions, added.words)
kept_either (Err error) old new arena added same = (ap regions_of_all same, λ at is. ap (λ (arenas : List Arena). word_among arenas at) same)

-- A heap keeps its state where its system, of whose arenas items tells, was asked to take a further one.
pub added_intact : {A T E : Type 0} (items : A → List Arena) (heap : Dlmalloc A) (lent system : A) (answer : Result T E) (arena : Arena) →
    RestsOutside (λ a. regions_of_all (items a)) (λ a. word_among (items a)) heap →
    IsIntact (λ a. regions_of_all (items a)) (λ a. word_among (items a)) heap → lent ≡ heap.system →
    OnOk answer (IsAdded (items lent) arena (items system)) → OnErr answer (items system ≡ items lent) →
    IsIntact (λ a. regions_of_all (items a)) (λ a. word_among (items a)) (record heap { system = system })
    × (state_of (λ a. word_among (items a)) (record heap { system = system }) ≡ state_of (λ a. word_among (items a)) heap)
added_intact items heap lent system answer arena rests intact is added same =
    let kept = subst (λ a. (regions_of_all (items system) ≡ regions_of_all (items a)) × ((at : ℕ) →
    IsWordOf (regions_of_all (items a)) at → word_among (items system) at ≡ word_among (items a) at)) is
    (kept_either answer (items lent) (items system) arena added same) in
    let still = rests intact.sound system (same_regions (λ a. regions_of_all (items a)) (λ a. word_among (items a)) heap
    intact.sound system kept.0) (λ k is there apart. kept.1 k is) in
    (record { sound = still.0; linked = still.2 intact.linked }, still.1)

-- an arena that comes back is refused
pub refused_arena : {T : Type 0} (old new : List Arena) (most : ℕ) (arena : Arena)
    (answer : Result T (AddFault × Arena)) → IfErr answer (λ refusal. IsNotAdded old most arena refusal.0) →
    IfErr answer (λ refusal. refusal.1 ≡ arena) → OnErr answer (new ≡ old) →
    IfErr answer (λ refusal. IsArenaRefused old most arena refusal.0 refusal.1 new)
refused_arena old new most arena (Ok value) not_added back same = tt
refused_arena old new most arena (Err refusal) not_added back same = record {
  not_added = not_added;
  back_is = back;
  same = same;
}
