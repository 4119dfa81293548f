use Rattle.std.proofs.Common.{◌-◌, ◌/◌, ◌%◌, get_or, refl, rules, arith}
use Rattle.checked_heap.proofs.MarkLemmas.{set_counted, bit_set, marked_here, marked_other}
use Rattle.checked_heap.proofs.marks.Marks.set.Goals as goal

pub overflow_add-self : goal.overflow_add-self
overflow_add-self c =
    let marks = c.args.self.now in
    let n = (c.args.address - marks.base) / 16 in
    let small = c.ranges.address.fits in
    let told = set_counted marks.base marks.words.now c.args.address _ (omega (arith, small)) c.requires.some
    c.requires.place c.requires.unmarked (bit_set (get_or marks.words.now (n / 64) 0) (n % 64) (omega arith)) in
    let is = c.requires.counted in
    let more = told.0 in
    let below = told.1 in
    omega (arith, is, more, below)

pub returns : goal.returns
returns c =
    let words = c.args.self.now.words.now in
    let marks = c.args.self.now in
    let n = (c.args.address - marks.base) / 16 in
    let small = c.ranges.address.fits in
    let told = set_counted marks.base marks.words.now c.args.address _ (omega (arith, small)) c.requires.some
    c.requires.place c.requires.unmarked (bit_set (get_or marks.words.now (n / 64) 0) (n % 64) (omega arith)) in
    let is = c.requires.counted in
    let more = told.0 in
    record {
      here = marked_here c.args.self.now.base words c.args.address _ 1 c.requires.place (bit_set (get_or words (n / 64) 0) (n % 64) (omega arith));
      others = λ a differ. marked_other c.args.self.now.base words c.args.address _ 1 a c.requires.place (bit_set (get_or words (n / 64) 0) (n % 64) (omega arith)) differ;
      base = refl;
      len = search rules;
      counted = omega (arith, is, more);
    }
