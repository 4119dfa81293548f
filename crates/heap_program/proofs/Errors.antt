-- What is left of a clause at the exit of a `?`.
use Rattle.std.proofs.Common.{Result, Ok, Err, IfErr, OnErr}
use Rattle.std.specs.Prelude.{IsErrAnd}

-- what holds of each error that may be made holds of the one that is returned
pub if_err : {T E : Type 0} (r : Result T E) (Q : E → Type 0) {P : E → Type 0} → IsErrAnd r Q → ((e : E) → Q e → P e) → IfErr r P
if_err (Ok x) Q made holds = absurd made
if_err (Err e) Q made holds = holds e made

pub on_err : {T E : Type 0} (r : Result T E) {P : Type 0} → P → OnErr r P
on_err (Ok x) holds = tt
on_err (Err e) holds = holds
