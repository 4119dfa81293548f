-- The words of a command, and the status at which it ends.
use Rattle.std.proofs.Common.{◌≡◌, ◌≢◌, ◌≤◌, ◌<◌, ◌+◌, ◌^◌, ◌⊎◌, ℕ, List, [], ◌∷◌, length, map, refl, subst, arith, Option, Some, None, Ok, Err}
use Rattle.std.specs.Prelude.{String, string_bytes, ◌↔◌, IfSome, IsErrOf, unwrap_or}
use Rattle.std.specs.declared.alloc.Global.{Global}
use Rattle.machine_model.specs.declared.config.Config.{Config}
use Rattle.kernel_heap.specs.Config.{IsGoodConfig}
use Rattle.kernel_heap.specs.declared.machine.Machine.{Machine}
use Rattle.heap_program.specs.declared.arguments.Command.{Command}
use Rattle.heap_program.specs.declared.arguments.Command.TheVariants.{Run, Generate}
use Rattle.heap_program.specs.Command.{config_of}
use Rattle.heap_program.specs.Status.{TellsRefusal}
use Rattle.heap_program.specs.Stop.{status_of}
use Rattle.heap_program.specs.declared.run.Stop.{Stop}
use Rattle.heap_program.specs.declared.run.Stop.TheVariants.{Memory, ReadFault, WriteFault, TooLong}

-- other numbers of words than none and five are no configuration
pub other_words : (words : List (String Global)) → (0 ≡ length words → ⊥) → (5 ≡ length words → ⊥) → config_of (map string_bytes words) ≡ None
other_words [] some others = absurd (some refl)
other_words (v ∷ []) some others = refl
other_words (v ∷ w ∷ []) some others = refl
other_words (v ∷ w ∷ x ∷ []) some others = refl
other_words (v ∷ w ∷ x ∷ y ∷ []) some others = refl
other_words (v ∷ w ∷ x ∷ y ∷ z ∷ []) some others = absurd (others refl)
other_words (v ∷ w ∷ x ∷ y ∷ z ∷ more ∷ words) some others = refl

-- a command has one configuration
pub same_run : (command : Option Command) (a b : Config) → command ≡ Some (Run a) → command ≡ Some (Run b) → (P : Config → Type 0) → P a → P b
same_run command a b first second P holds = let same : a ≡ b = cc in subst P same holds

pub same_generate :
    (command : Option Command) (i m : ℕ) (a : Config) (j n : ℕ) (b : Config) → command ≡ Some (Generate i m a) → command ≡ Some (Generate j n b) →
    (P : ℕ → ℕ → Config → Type 0) → P i m a → P j n b
same_generate command i m a j n b first second P holds =
    let seed : i ≡ j = cc in
    let count : m ≡ n = cc in
    let config : a ≡ b = cc in
    subst (λ (k : ℕ). P k n b) seed (subst (λ (k : ℕ). P i k b) count (subst (λ (k : Config). P i m k) config holds))

-- it is of one kind
pub one_kind : (command : Option Command) (a : Config) (j n : ℕ) (b : Config) → command ≡ Some (Run a) → command ≡ Some (Generate j n b) → ⊥
one_kind command a j n b first second = cc

-- the statuses that are left of those up to 8
statuses_left : (n : ℕ) → n ≤ 8 → n ≢ 1 → n ≢ 2 → n ≢ 3 → n ≢ 4 → n ≢ 6 → n ≢ 7 → (n ≡ 0) ⊎ (n ≡ 5) ⊎ (n ≡ 8)
statuses_left n most one two three four six seven = grind arith

-- where a machine can be made and nothing failed, a run ends well, or for want of memory, or since the input is too long
pub complete_status : (config : Config) (status : ℕ) → status ≤ 8 → status ≢ 1 → TellsRefusal config status →
    IsGoodConfig config → status ≢ 6 → status ≢ 7 → (status ≡ 0) ⊎ (status ≡ 5) ⊎ (status ≡ 8)
complete_status config status most one tells good six seven =
    statuses_left status most one (λ is. tells.window.0 is good.window) (λ is. (tells.granularity.0 is).1 good.granularity)
    (λ is. none (tells.frames.0 is).2 good.frames) six seven
  where
    none : config.frames ≡ 0 → 0 < config.frames → ⊥
    none is some = absurd (omega (arith, is, some))

-- a machine was made, so no status tells that there is none
pub made_status : (config : Config) → IsGoodConfig config → TellsRefusal config 0
made_status config good = record {
  window = (λ is. absurd (omega (arith, is)), λ bad. absurd (bad good.window));
  granularity = (λ is. absurd (omega (arith, is)), λ bad. absurd (bad.1 good.granularity));
  frames = (λ is. absurd (omega (arith, is)), λ bad. absurd (let none = bad.2 in let some = good.frames in omega (arith, none, some)));
  good = λ which. good;
}

-- a run that ended well was not too long
pub ok_status : (left : Option (List ℕ)) (machine : Machine) (Q : List ℕ → Type 0) →
    IfSome left (λ input. IsErrOf {E = Stop} (Ok machine) TooLong ↔ Q input) →
    IfSome left (λ input. ◌≡◌ {A = ℕ} 0 8 ↔ Q input)
ok_status None machine Q long = tt
ok_status (Some input) machine Q long = (λ is. absurd (omega (arith, is)), λ more. let none = long.1 more in absurd (cc))

-- status 8 says that a run was too long
pub stop_status : (left : Option (List ℕ)) (stop : Stop) (status : ℕ) (Q : List ℕ → Type 0) → status ≡ status_of stop →
    IfSome left (λ input. IsErrOf {T = Machine} (Err stop) TooLong ↔ Q input) → IfSome left (λ input. status ≡ 8 ↔ Q input)
stop_status None stop status Q is long = tt
stop_status (Some input) TooLong status Q is long = (λ eight. long.0 refl, λ more. is)
stop_status (Some input) Memory status Q is long = (λ eight. absurd (omega (arith, is, eight)), λ more. let other = long.1 more in absurd (cc))
stop_status (Some input) ReadFault status Q is long = (λ eight. absurd (omega (arith, is, eight)), λ more. let other = long.1 more in absurd (cc))
stop_status (Some input) WriteFault status Q is long = (λ eight. absurd (omega (arith, is, eight)), λ more. let other = long.1 more in absurd (cc))

-- a source of which nothing was read was not too long
pub unread_long : (left : Option (List ℕ)) (status : ℕ) → status ≤ 7 → IfSome left (λ input. status ≡ 8 ↔ (2 ^ 30 + length (unwrap_or left []) < length input))
unread_long None status few = tt
unread_long (Some input) status few = (λ eight. absurd (omega (arith, few, eight)), λ more. absurd (omega (arith, more)))
