-- What C is told of a change of pages.
use Rattle.std.proofs.Common.{◌≡◌, ℕ, Bool, refl}
use Rattle.kernel_tables.specs.Changes.{ChangesOnly}
use Rattle.kernel_tables.specs.TableState.{TableState}
use Rattle.limzhur_c.specs.TablesAnswers.{IsChangeTold}

-- 0
pub made : {pages : ℕ → Bool} {code : ℕ} {old new : TableState} → 0 ≡ code → ChangesOnly pages old new → IsChangeTold pages code old 0 new
made e only = record { answer_is = e; only = only; same = λ not. absurd (not refl) }

-- a number, and the tables are as they were
pub refused : {pages : ℕ → Bool} {code answer : ℕ} {old new : TableState} → answer ≡ code → new ≡ old → IsChangeTold pages code old answer new
refused e same = record { answer_is = e; only = rw same (record { place = record { root = refl; area = refl; size = refl; shared = refl }; tables = λ l n met lt is. is; elsewhere = λ other canonical not. refl }); same = λ _. same }
