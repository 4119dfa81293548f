-- Shares of bytes, rounded up.
use Rattle.std.proofs.Common.{◌≡◌, ℕ, ◌+◌, ◌-◌, ◌*◌, min, ap, arith, div-add-mod'}
use Rattle.std.proofs.lemmas.Nat.{div_below, mod_below}
use Rattle.heap_cells.specs.Shades.{ShadesAreShares}

pub shares : ShadesAreShares
shares shades used bytes some few =
    let all : min used bytes ≡ used = omega (arith, few) in
    let same : shades * min used bytes ≡ shades * used = ap (λ (n : ℕ). shades * n) all in
    let number = shades * min used bytes + (bytes - 1) in
    let parts = div-add-mod' number bytes in
    let rest = mod_below number bytes some in
    record {
      enough = omega (arith, parts, rest, same, some);
      least = λ shade fits. (let below = div_below number bytes (shade + 1) some (omega (arith, fits, same, some)) in omega (arith, below));
    }
