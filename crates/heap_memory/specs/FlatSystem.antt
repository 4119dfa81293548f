-- What a flat system shows: its regions, its words, what it denies, and the steps of its script that requests took (own).
use Rattle.std.specs.Prelude.{◌≡◌, ℕ, Bool, true, if◌then◌else◌, List, [], ◌++◌, Err, refl}
use Rattle.std.proofs.Common.{◌∙◌, ap}
use Rattle.heap_memory.specs.declared.grant.Grant.{Grant}
use Rattle.heap_memory.specs.declared.flat_system.FlatSystem.{FlatSystem}
use Rattle.heap_memory.specs.declared.grant.GrantFault.{GrantFault}
use Rattle.heap_memory.specs.Allocator.{IsFixed}
use Rattle.heap_memory.specs.Events.{Event}
use Rattle.heap_memory.specs.Script.{taken_of, left_of}
use Rattle.heap_memory.specs.FlatScript.{next_answer, IsAnswered, answered_on}
use Rattle.heap_memory.specs.FlatWords.{word_in}

-- the regions that a system granted and still has
abbrev pub regions_of : FlatSystem → List Grant
regions_of system = system.regions.items

-- the word at an address
abbrev pub word_of : FlatSystem → ℕ → ℕ
word_of system at = word_in system.words.stretches.items system.words.words.items at

-- what no call changes
pub record IsSameKind (old new : FlatSystem) : Type 0 where
  pub frees : new.frees ≡ old.frees
  pub parts : new.parts ≡ old.parts
  pub page : new.page ≡ old.page

pub same_none : (system : FlatSystem) → IsSameKind system system
same_none system = record { frees = refl; parts = refl; page = refl }

pub same_on : (x y z : FlatSystem) → IsSameKind x y → IsSameKind y z → IsSameKind x z
same_on x y z first second = record {
  frees = second.frees ∙ first.frees;
  parts = second.parts ∙ first.parts;
  page = second.page ∙ first.page;
}

-- a system that takes regions back takes parts of any size
abbrev pub unit_of : FlatSystem → ℕ
unit_of system = if system.frees then 1 else 0

pub same_fixed : (x y : FlatSystem) → IsSameKind x y → IsFixed (λ system. true) (λ system. system.frees) (λ system. system.parts) unit_of x y
same_fixed x y same = record {
  zeros_same = refl;
  frees_same = same.frees;
  parts_same = same.parts;
  unit_same = ap (λ (b : Bool). if b then 1 else 0) same.frees;
}

-- what stays if a request was refused: all but the place in the script
pub record IsStepRefused (old new : FlatSystem) : Type 0 where
  pub regions : regions_of new ≡ regions_of old
  pub words : (at : ℕ) → word_of new at ≡ word_of old at
  pub kind : IsSameKind old new

pub refused_none : (system : FlatSystem) → IsStepRefused system system
refused_none system = record { regions = refl; words = λ at. refl; kind = same_none system }

-- a request for a number of bytes is denied with the fault that the next step answers
abbrev pub DeniesNext : FlatSystem → ℕ → GrantFault → Type 0
DeniesNext system asked fault = next_answer (taken_of system.script) (left_of system.script) asked ≡ Err fault

-- what the events of a time left: each request, granted or refused, took the next step of the script, and nothing else did
pub record IsAfter (old : FlatSystem) (events : List Event) (new : FlatSystem) : Type 0 where
  pub kind : IsSameKind old new
  pub script : IsAnswered (taken_of old.script) (left_of old.script) events (taken_of new.script) (left_of new.script)

pub after_none : (system : FlatSystem) → IsAfter system [] system
after_none system = record { kind = same_none system; script = (refl, refl) }

pub after_on : (x y z : FlatSystem) (a b c : List Event) → IsAfter x a y → IsAfter y b z → a ++ b ≡ c → IsAfter x c z
after_on x y z a b c first second is = record {
  kind = same_on x y z first.kind second.kind;
  script = answered_on (taken_of x.script) (left_of x.script) (taken_of y.script) (left_of y.script) (taken_of z.script) (left_of z.script) a b c first.script second.script is;
}
