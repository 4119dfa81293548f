use Rattle.std.proofs.Common.{◌≡◌, ◌+◌, get_or, vec_len, arith, refl}
use Rattle.std.proofs.lemmas.Grind.{common_steps}
use Rattle.heap_memory.proofs.FlatWordsLemmas.{counted_more, filled_zero}
use Rattle.heap_memory.proofs.flat_words.FlatWords.new.Goals as goal

pub loop-stretch-preserved : goal.loop-stretch-preserved
loop-stretch-preserved c =
    let is : c.in_ok-ok_or.field-0 ≡ c.len-len.result + (get_or c.deref-stretch-items.result.now c.loop-stretch.stretch-index (record { base = 0; count = 0 })).count
    = grind (arith, common_steps, c.checked_add.ensures, c.in_ok-ok_or.ensures.ok_part) in
    record {
      counted = grind (arith, counted_more c.deref-stretch-items.result.now c.loop-stretch.stretch-index (record { base = 0; count = 0 }), c.in_ok-resize.ensures.len);
      zero = filled_zero c.loop-stretch.words.items c.resize.new.self.items (vec_len c.loop-stretch.words) c.in_ok-ok_or.field-0 (omega (arith, c.in_ok-resize.ensures.len)) c.loop-stretch.invariant.zero
          (λ k less in_old. c.in_ok-resize.ensures.by_index.0 k 0 less in_old) (λ k past less. c.in_ok-resize.ensures.by_index.1 k 0 refl past less);
    }
