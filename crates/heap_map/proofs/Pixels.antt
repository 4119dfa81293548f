-- Cells whose bytes are all of one class.
use Rattle.std.proofs.Common.{◌≡◌, ◌≢◌, ◌<◌, ◌≤◌, ℕ, zero, suc, ◌+◌, ◌-◌, ◌*◌, ◌/◌, min, List, refl, sym, ◌∙◌, ap, arith}
use Rattle.std.proofs.lemmas.Nat.{div_below}
use Rattle.std.proofs.lemmas.Bool.Decides.{nat_tests}
use Rattle.std.proofs.Math.Nat.{le-div_iff_mul-le}
use Rattle.heap_map.specs.declared.classes.Class.{Class}
use Rattle.heap_map.specs.declared.classes.Class.TheVariants.{Block, Binned, Victim, Top, Own}
use Rattle.heap_map.specs.declared.pieces.Piece.{Piece}
use Rattle.heap_map.specs.Cells.{held_in, pixels, most_of, drawn_cell}
use Rattle.heap_map.specs.Pixels.{IsOfOne, HasOneColour, CellsAreTheirBytes}

pixels_none : (bytes cell : ℕ) → 0 < cell → bytes ≡ 0 → pixels bytes cell ≡ 0
pixels_none bytes cell some none =
    let less = div_below (18 * bytes + (cell - 1)) cell 1 some (omega (arith, none, some)) in
    omega (arith, less)

pixels_all : (bytes cell : ℕ) → 0 < cell → bytes ≡ cell → pixels bytes cell ≡ 18
pixels_all bytes cell some all =
    let most : 18 ≤ (18 * bytes + (cell - 1)) / cell = (le-div_iff_mul-le some).1 (omega (arith, all)) in
    omega (arith, most)

most_binned : (b v t o : ℕ) → v ≡ 0 → t ≡ 0 → o ≡ 0 → most_of b v t o ≡ Binned
most_binned b v t o no_v no_t no_o = grind (arith, nat_tests, no_v, no_t, no_o)

most_victim : (b v t o : ℕ) → 0 < v → b ≡ 0 → t ≡ 0 → o ≡ 0 → most_of b v t o ≡ Victim
most_victim b v t o some no_b no_t no_o = grind (arith, nat_tests, some, no_b, no_t, no_o)

most_top : (b v t o : ℕ) → 0 < t → b ≡ 0 → v ≡ 0 → o ≡ 0 → most_of b v t o ≡ Top
most_top b v t o some no_b no_v no_o = grind (arith, nat_tests, some, no_b, no_v, no_o)

most_own : (b v t o : ℕ) → 0 < o → b ≡ 0 → v ≡ 0 → t ≡ 0 → most_of b v t o ≡ Own
most_own b v t o some no_b no_v no_t = grind (arith, nat_tests, some, no_b, no_v, no_t)

pub cells_are : CellsAreTheirBytes
unfolding drawn_cell
cells_are Block cell low line some one =
    let binned = one.none Binned (λ same. omega (arith, same)) in
    let victim = one.none Victim (λ same. omega (arith, same)) in
    let top = one.none Top (λ same. omega (arith, same)) in
    let own = one.none Own (λ same. omega (arith, same)) in
    let all = one.all in
    (pixels_all _ cell some all, pixels_all _ cell some (omega (arith, all, binned, victim, top, own)))
cells_are Binned cell low line some one =
    let block = one.none Block (λ same. omega (arith, same)) in
    let victim = one.none Victim (λ same. omega (arith, same)) in
    let top = one.none Top (λ same. omega (arith, same)) in
    let own = one.none Own (λ same. omega (arith, same)) in
    let all = one.all in
    (pixels_none _ cell some block, pixels_all _ cell some (omega (arith, all, block, victim, top, own)), most_binned _ _ _ _ victim top own)
cells_are Victim cell low line some one =
    let block = one.none Block (λ same. omega (arith, same)) in
    let binned = one.none Binned (λ same. omega (arith, same)) in
    let top = one.none Top (λ same. omega (arith, same)) in
    let own = one.none Own (λ same. omega (arith, same)) in
    let all = one.all in (
      pixels_none _ cell some block,
      pixels_all _ cell some (omega (arith, all, block, binned, top, own)),
      most_victim _ _ _ _ (omega (arith, all, some)) binned top own,
    )
cells_are Top cell low line some one =
    let block = one.none Block (λ same. omega (arith, same)) in
    let binned = one.none Binned (λ same. omega (arith, same)) in
    let victim = one.none Victim (λ same. omega (arith, same)) in
    let own = one.none Own (λ same. omega (arith, same)) in
    let all = one.all in (
      pixels_none _ cell some block,
      pixels_all _ cell some (omega (arith, all, block, binned, victim, own)),
      most_top _ _ _ _ (omega (arith, all, some)) binned victim own,
    )
cells_are Own cell low line some one =
    let block = one.none Block (λ same. omega (arith, same)) in
    let binned = one.none Binned (λ same. omega (arith, same)) in
    let victim = one.none Victim (λ same. omega (arith, same)) in
    let top = one.none Top (λ same. omega (arith, same)) in
    let all = one.all in (
      pixels_none _ cell some block,
      pixels_all _ cell some (omega (arith, all, block, binned, victim, top)),
      most_own _ _ _ _ (omega (arith, all, some)) binned victim top,
    )
