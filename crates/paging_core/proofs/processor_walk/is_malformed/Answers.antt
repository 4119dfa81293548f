use Rattle.std.proofs.Common.{◌≡◌, ◌/◌, ◌%◌, ◌^◌, ◌∙◌, false, not, ◌&&◌, ◌||◌, eqb, refl, sym, arith}
use Rattle.std.proofs.Math.Bool.{or-false}
use Rattle.paging_core.specs.Entry.{has_bit}
use Rattle.paging_core.proofs.processor_walk.is_malformed.Goals as goal

pub returns-in-0 : goal.returns-in-0
returns-in-0 c =
    let b = has_bit c.args.entry 7 || has_bit c.args.entry 8 in
    rw (c.in-0.is, c.is_huge.ensures, c.is_global.ensures) (sym (or-false (b || false) ∙ or-false b))

pub returns-in-1 : goal.returns-in-1
returns-in-1 c =
    let field : c.get_bits.result ≡ c.args.entry % 2 ^ 30 / 2 ^ 13 = rw (c.get_bits.ensures.value, c.bits.ensures) (omega arith) in
    rw (c.in-1.is, c.is_huge-in-1.ensures, field) (sym (or-false (has_bit c.args.entry 7 && not (eqb (c.args.entry % 2 ^ 30 / 2 ^ 13) 0))))

pub returns-in-2 : goal.returns-in-2
returns-in-2 c =
    let field : c.get_bits-in-2.result ≡ c.args.entry % 2 ^ 21 / 2 ^ 13 = rw (c.get_bits-in-2.ensures.value, c.bits-in-2.ensures) (omega arith) in
    rw (c.in-2.is, c.is_huge-in-2.ensures, field) refl
