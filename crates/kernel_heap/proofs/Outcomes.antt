-- Two facts of one outcome.
use Rattle.std.proofs.Common.{Result, Ok, Err, IfErr}
use Rattle.std.specs.Prelude.{OnOk, OnErr}

pub both_ok : {T E : Type 0} (result : Result T E) (P Q R : Type 0) → OnOk result P → OnOk result Q → (P → Q → R) → OnOk result R
both_ok (Ok value) P Q R p q both = both p q
both_ok (Err error) P Q R p q both = tt

pub both_err : {T E : Type 0} (result : Result T E) (P : Type 0) (Q R : E → Type 0) → OnErr result P → IfErr result Q →
    ((error : E) → P → Q error → R error) → IfErr result R
both_err (Ok value) P Q R p q both = tt
both_err (Err error) P Q R p q both = both error p q
