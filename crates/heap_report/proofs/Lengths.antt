-- How long the input was, by what was left of it.
use Rattle.std.proofs.Common.{◌≡◌, ◌≤◌, ◌<◌, ◌+◌, ◌^◌, ◌⊎◌, inl, inr, ◌↔◌, ℕ, List, [], length, length-append, Option, Some, None, IfSome, Result, Ok, Err, IsErrOf, refl, sym, ◌∙◌, ap, arith}
use Rattle.std.specs.Prelude.{unwrap_or, IsErrAnd}
use Rattle.std.specs.Io.KnownBytes.{Consumes}
use Rattle.heap_program.specs.declared.run.Stop.{Stop}
use Rattle.heap_program.specs.declared.run.Stop.TheVariants.{Memory, ReadFault, WriteFault, TooLong}
use Rattle.heap_program.specs.Stop.{status_of}
use Rattle.heap_report.specs.declared.listed.Listed.{Listed}

-- the input had more than 2 ^ 30 bytes where this is so
abbrev pub IsLong : Option (List ℕ) → Option (List ℕ) → Type 0 → Type 0
IsLong l l1 P = IfSome l (λ input. P ↔ (2 ^ 30 + length (unwrap_or l1 []) < length input))

where_long : (l l1 : Option (List ℕ)) (bytes : List ℕ) (P : Type 0) → Consumes l l1 bytes → P ↔ (2 ^ 30 < length bytes) → IsLong l l1 P
where_long None l1 bytes P consumed k = tt
where_long (Some xs) None bytes P consumed k = absurd consumed
where_long (Some xs) (Some ys) bytes P consumed k =
    let len : length xs ≡ length bytes + length ys = ap length consumed ∙ length-append bytes ys in
    (λ p. let long = k.0 p in omega (arith, long, len), λ more. k.1 (omega (arith, more, len)))

err_is : (e other : Stop) → IsErrOf {T = Listed} (Err e) other → e ≡ other
err_is e other is = cc

-- of a run that stopped as it read
pub stopped_long : (r : Result Listed Stop) (stop : Stop) (l l1 : Option (List ℕ)) (bytes : List ℕ) →
    IsErrAnd r (λ e. e ≡ stop) → Consumes l l1 bytes → stop ≡ TooLong ↔ (2 ^ 30 < length bytes) →
    IsLong l l1 (IsErrOf r TooLong)
stopped_long (Ok listed) stop l l1 bytes made consumed k = absurd made
stopped_long (Err e) stop l l1 bytes made consumed k =
    where_long l l1 bytes (IsErrOf {T = Listed} (Err e) TooLong) consumed
    (λ is. k.0 (sym made ∙ err_is e TooLong is), λ long. ap (λ (x : Stop). Err x) (made ∙ k.1 long))

-- of one that read all: the input was not too long
pub read_long : (r : Result Listed Stop) (l l1 : Option (List ℕ)) (bytes : List ℕ) (n : ℕ) → (IsErrOf r TooLong → ⊥) →
    Consumes l l1 bytes → length bytes ≡ n → n ≤ 2 ^ 30 → IsLong l l1 (IsErrOf r TooLong)
read_long r l l1 bytes n isnt consumed counted short = where_long l l1 bytes (IsErrOf r TooLong) consumed
    (λ is. absurd (isnt is), λ long. absurd (omega (arith, long, counted, short)))

-- which stop a result is
pub stop_is : (r : Result Listed Stop) (stop other : Stop) → IsErrAnd r (λ e. e ≡ stop) → IsErrOf r other → stop ≡ other
stop_is (Ok listed) stop other made is = absurd made
stop_is (Err e) stop other made is = sym made ∙ err_is e other is

-- a stop that the source is not the cause of
abbrev pub IsOfHost : Stop → Type 0
IsOfHost stop = (stop ≡ Memory) ⊎ (stop ≡ WriteFault)

pub not_long : (r : Result Listed Stop) (stop : Stop) → IsErrAnd r (λ e. e ≡ stop) → IsOfHost stop → IsErrOf r TooLong → ⊥
not_long r stop made (inl is) long = let same = stop_is r stop TooLong made long in absurd (cc)
not_long r stop made (inr is) long = let same = stop_is r stop TooLong made long in absurd (cc)

pub not_read : (r : Result Listed Stop) (stop : Stop) → IsErrAnd r (λ e. e ≡ stop) → IsOfHost stop → IsErrOf r ReadFault → ⊥
not_read r stop made (inl is) read = let same = stop_is r stop ReadFault made read in absurd (cc)
not_read r stop made (inr is) read = let same = stop_is r stop ReadFault made read in absurd (cc)

-- status 8 says that a run was too long
pub ok_status : (left : Option (List ℕ)) (listed : Listed) (Q : List ℕ → Type 0) →
    IfSome left (λ input. IsErrOf {E = Stop} (Ok listed) TooLong ↔ Q input) →
    IfSome left (λ input. ◌≡◌ {A = ℕ} 0 8 ↔ Q input)
ok_status None listed Q long = tt
ok_status (Some input) listed Q long = (λ is. absurd (omega (arith, is)), λ more. let none = long.1 more in absurd (cc))

pub stop_status : (left : Option (List ℕ)) (stop : Stop) (status : ℕ) (Q : List ℕ → Type 0) → status ≡ status_of stop →
    IfSome left (λ input. IsErrOf {T = Listed} (Err stop) TooLong ↔ Q input) → IfSome left (λ input. status ≡ 8 ↔ Q input)
stop_status None stop status Q is long = tt
stop_status (Some input) TooLong status Q is long = (λ eight. long.0 refl, λ more. is)
stop_status (Some input) Memory status Q is long = (λ eight. absurd (omega (arith, is, eight)), λ more. let other = long.1 more in absurd (cc))
stop_status (Some input) ReadFault status Q is long = (λ eight. absurd (omega (arith, is, eight)), λ more. let other = long.1 more in absurd (cc))
stop_status (Some input) WriteFault status Q is long = (λ eight. absurd (omega (arith, is, eight)), λ more. let other = long.1 more in absurd (cc))
