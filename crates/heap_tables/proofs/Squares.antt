-- How many frames a square stands for.
use Rattle.std.proofs.Common.{◌≡◌, ◌≤◌, ◌<◌, ℕ, zero, suc, ◌+◌, ◌-◌, ◌*◌, nat_lt, refl, ap, arith}
use Rattle.std.specs.Prelude.{if◌then◌else◌}
use Rattle.heap_tables.specs.Tables.{square_grown, square_frames}

pub grown_step : (times of frames : ℕ) → times < 22 → square_grown (22 - times) of frames ≡ square_grown (22 - (times + 1))
    (if nat_lt (1024 * of) frames then 2 * of else of) frames
grown_step times of frames few =
    let left : 22 - times ≡ suc (22 - (times + 1)) = omega (arith, few) in
    ap (λ (n : ℕ). square_grown n of frames) left

pub grown_last : (times of frames : ℕ) → 22 ≤ times → square_grown (22 - times) of frames ≡ of
grown_last times of frames all =
    let left : 22 - times ≡ zero = omega (arith, all) in
    ap (λ (n : ℕ). square_grown n of frames) left

pub grown_begin : (frames : ℕ) → square_grown (22 - 0) 1 frames ≡ square_frames frames
unfolding square_frames
grown_begin frames = refl
