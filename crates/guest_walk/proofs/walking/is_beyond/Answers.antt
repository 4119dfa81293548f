use Rattle.std.proofs.Common.{◌≡◌, ◌*◌, ◌/◌, ◌^◌, ◌≤◌, false, nat_lt, refl, arith}
use Rattle.std.proofs.Math.Nat.{div-eq_of_lt, pow-le-pow_right}
use Rattle.std.proofs.lemmas.Bool.Decides.{nat_tests}
use Rattle.guest_walk.proofs.walking.is_beyond.Goals as goal

-- a frame's address has no bit beyond 51
pub returns-else-width-lt52 : goal.returns-else-width-lt52
returns-else-width-lt52 c =
    let wide : 52 ≤ c.args.width = grind (arith, nat_tests) in
    let reaches : 2 ^ 52 ≤ 2 ^ c.args.width = pow-le-pow_right (omega arith) wide in
    let none : c.args.frame * 4096 / 2 ^ c.args.width ≡ 0 = div-eq_of_lt (omega arith) in
    let narrow : nat_lt c.args.width 52 ≡ false = grind (arith, nat_tests) in
    rw (narrow, none) refl
