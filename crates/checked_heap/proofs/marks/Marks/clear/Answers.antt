use Rattle.std.proofs.Common.{◌-◌, ◌/◌, ◌%◌, get_or, refl, rules, arith}
use Rattle.checked_heap.proofs.MarkLemmas.{clear_counted, bit_cleared, marked_here, marked_other}
use Rattle.checked_heap.proofs.marks.Marks.clear.Goals as goal

pub overflow_sub-self : goal.overflow_sub-self
overflow_sub-self c =
    let marks = c.args.self.now in
    let n = (c.args.address - marks.base) / 16 in
    let small = c.ranges.address.fits in
    let less = clear_counted marks.base marks.words.now c.args.address _ (omega (arith, small)) c.requires.place
    c.requires.marked (bit_cleared (get_or marks.words.now (n / 64) 0) (n % 64) (omega arith)) in
    let is = c.requires.counted in
    omega (arith, is, less)

pub returns : goal.returns
returns c =
    let words = c.args.self.now.words.now in
    let marks = c.args.self.now in
    let n = (c.args.address - marks.base) / 16 in
    let small = c.ranges.address.fits in
    let less = clear_counted marks.base marks.words.now c.args.address _ (omega (arith, small)) c.requires.place
    c.requires.marked (bit_cleared (get_or marks.words.now (n / 64) 0) (n % 64) (omega arith)) in
    let is = c.requires.counted in
    record {
      here = marked_here c.args.self.now.base words c.args.address _ 0 c.requires.place (bit_cleared (get_or words (n / 64) 0) (n % 64) (omega arith));
      others = λ a differ. marked_other c.args.self.now.base words c.args.address _ 0 a c.requires.place (bit_cleared (get_or words (n / 64) 0) (n % 64) (omega arith)) differ;
      base = refl;
      len = search rules;
      counted = omega (arith, is, less);
    }
