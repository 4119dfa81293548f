-- Products that fit.
use Rattle.std.proofs.Common.{◌≤◌, ◌<◌, ℕ, ◌+◌, ◌*◌, ◌/◌, ◌^◌, arith}
use Rattle.std.proofs.Math.Nat.{mul-le-mul_left, mul-div-le}

-- so many bytes, times the height of a band
pub few_pixels : (bytes height : ℕ) → bytes ≤ 2 ^ 64 → height ≤ 336 → bytes * height ≤ 336 * 2 ^ 64
few_pixels bytes height few low =
    let one = mul-le-mul_left bytes low in
    omega (arith, one, few)

-- and times the units of an edge
pub few_units : (part units : ℕ) → part ≤ 2 ^ 64 → units ≤ 2 ^ 16 → part * units ≤ 2 ^ 16 * 2 ^ 64
few_units part units few low =
    let one = mul-le-mul_left part low in
    omega (arith, one, few)

-- the multiple of a step at or below an address
pub multiple_fits : (low step : ℕ) → low / step * step ≤ low
multiple_fits low step = let fits = mul-div-le low step in omega (arith, fits)

-- some steps above it
pub tick_fits : (low step tick : ℕ) → tick < 8 → (low / step + tick) * step ≤ low + 8 * step
tick_fits low step tick few =
    let fits = mul-div-le low step in
    let more = mul-le-mul_left step (let less : tick ≤ 8 = omega (arith, few) in less) in
    omega (arith, fits, more)
