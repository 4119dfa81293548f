-- What a traced machine answers to the items of an input.
use Rattle.std.specs.Prelude.{◌≡◌, ℕ, List, [], ◌∷◌, ◌++◌, Option, Some, None}
use Rattle.machine_model.specs.declared.call.Call.{Call}
use Rattle.machine_model.specs.declared.call.Call.TheVariants.{Probe}
use Rattle.kernel_heap.specs.declared.machine.Machine.{Machine}
use Rattle.heap_program.specs.Answering.{IsAnswering}
use Rattle.memory_image.specs.declared.tracing.Traced.{Traced}
use Rattle.memory_image.specs.Walks.{cr2_line}

-- the address that an item probes, if it is a probe
abbrev pub probed_address : Option Call → Option ℕ
probed_address (Some (Probe at access user)) = Some at
probed_address item = None

-- after the answer to a probe, where its walk arrives
abbrev pub behind : Option ℕ → Machine → List ℕ
behind (Some at) machine = cr2_line machine at
behind None machine = []

-- An item is answered as by a machine, and the walk of a probe stands after the answer.
pub record IsTraced (old : Machine) (item : Option Call) (told : List ℕ) (new : Machine) : Type 0 where
  pub answer : List ℕ
  pub answered : IsAnswering old (item ∷ []) answer new
  pub text : told ≡ answer ++ behind (probed_address item) new

-- the same for each of some items, one after another
abbrev pub AreTraced : Machine → List (Option Call) → List ℕ → Machine → Type 0
AreTraced old [] told new = (told ≡ []) × (new ≡ old)
AreTraced old (item ∷ items) told new =
    (middle : Machine) × (first : List ℕ) × (rest : List ℕ) × (told ≡ first ++ rest) × IsTraced old item first middle × AreTraced middle items rest new

-- the items were answered by the machine's steps, with this text of registers and memory
abbrev pub IsTracing : Traced → List (Option Call) → List ℕ → Traced → Type 0
IsTracing old items told new = AreTraced old.machine items told new.machine
