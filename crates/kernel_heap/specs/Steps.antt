-- What a machine is when it is new, what a call does to it, and what calls do one after another.
use Rattle.std.specs.Prelude.{◌≡◌, IsTrue, List, [], ◌∷◌, Option, Some, None}
use Rattle.machine_model.specs.declared.answer.Answer.{Answer}
use Rattle.machine_model.specs.declared.call.Call.{Call}
use Rattle.machine_model.specs.declared.config.Config.{Config}
use Rattle.machine_model.specs.Machine.{Stands, IsStep}
use Rattle.machine_model.specs.Run.{IsGood}
use Rattle.machine_model.specs.State.{State, start}
use Rattle.sound_heap.specs.Heap.{fresh_heap, IsIntact}
use Rattle.kernel_heap.specs.Heap.{regions, word}
use Rattle.kernel_heap.specs.Kept.{lasting_pages, leaves_all, AreRunsUsedFor, IsReachedByte}
use Rattle.kernel_heap.specs.Machine.{seen, system_of, heap_of}
use Rattle.kernel_heap.specs.Moves.{HeapMoves, KeepsStateAndBins}
use Rattle.kernel_heap.specs.Parts.{Parts}
use Rattle.kernel_heap.specs.Registers.{machine_cpu, cpu_after}
use Rattle.paged_systems.specs.System.{paged}

-- A machine to which no call came yet: it stands for the first state, which is good, its heap has nothing, and its CR3 names its root
-- table.
pub record IsNewMachine (config : Config) (machine : Parts) : Type 0 where
  pub good : IsGood (start config)
  pub stands : Stands (seen machine) (start config)
  pub heap : heap_of machine.heap ≡ fresh_heap config.granularity config.rate
  pub intact : IsIntact regions word machine.heap.heap
  pub registers : machine.cpu ≡ machine_cpu (paged (system_of machine.heap)).root

-- The machine answered a call.
pub record HasStepped (old : Parts) (call : Call) (answer : Answer) (new : Parts) : Type 0 where
  -- The answer is allowed in each good state for which the machine stood, and the machine stands for the state that it leaves.
  pub allowed : (s : State) → IsGood s → Stands (seen old) s → IsStep s call answer (seen new)
  -- The heap moved as the answer tells: this chunk serves, these slots became large, there is no room, these are the extents.
  pub heap : HeapMoves old.heap call answer.reply answer.large new.heap
  -- It is sound, and its bins hold its free extents: what the order of its free chunks begins with.
  pub intact : IsIntact regions word new.heap.heap
  -- A refused call, one that only looks, a fault and a setting that is not accepted leave each byte, block and region as it was.
  pub kept : IsTrue (leaves_all answer.reply) → seen new ≡ seen old
  -- After a map, or a block that was granted new pages, each slot that lies whole among the new pages and had no table is mapped by
  -- one entry, or no run of frames is free.
  pub runs :
      (s : State) → IsGood s → Stands (seen old) s →
      AreRunsUsedFor (paged (system_of old.heap)) (paged (system_of new.heap)) (lasting_pages s call answer)
  -- A fault writes CR2, and nothing else changes a register.
  pub registers : new.cpu ≡ cpu_after old.cpu call answer.reply
  -- A byte that a probe shows is the one that the walk reaches.
  pub reached : IsReachedByte (paged (system_of new.heap)) call answer.reply

-- Memory was wanting for an answer: each byte, block, region and register is as it was, and so is the order of the free chunks.
pub record HasNotStepped (old new : Parts) : Type 0 where
  pub same : seen new ≡ seen old
  pub still : KeepsStateAndBins old.heap.heap new.heap.heap
  pub registers : new.cpu ≡ old.cpu

-- one item of a run: a call that the machine answered, or a bad line (None), which leaves the machine as it is
abbrev pub IsItemStep : Parts → Option Call → Option Answer → Parts → Type 0
IsItemStep old (Some call) (Some answer) new = HasStepped old call answer new
IsItemStep old None None new = new ≡ old
IsItemStep old (Some call) None new = ⊥
IsItemStep old None (Some answer) new = ⊥

-- From one machine to another it took these items, one after another, and answered them so.
abbrev pub StepsTo : Parts → List (Option Call) → List (Option Answer) → Parts → Type 0
StepsTo old [] [] new = new ≡ old
StepsTo old (item ∷ items) (answer ∷ answers) new = (next : Parts) × IsItemStep old item answer next × StepsTo next items answers new
StepsTo old [] (answer ∷ answers) new = ⊥
StepsTo old (item ∷ items) [] new = ⊥
