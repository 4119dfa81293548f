-- One memory is cut into the words for blocks, those for the table, and those for the marks.
use Rattle.std.specs.Prelude.{◌≡◌, ℕ, ◌-◌, ◌≤◌, min, List, ◌++◌, length, take, drop}
use Rattle.std.proofs.Common.{◌∙◌, ap, sym, arith}
use Rattle.std.proofs.Math.Seq.{take-append_seam, drop-append_seam, take-length}
use Rattle.std.proofs.lemmas.List.{take-append-le}
use Rattle.checked_heap.specs.Checked.{left_beside_marks, left_for_words, table_in, words_for_blocks, words_for_table}

-- the words in front of the marks
module _ (granularity : ℕ) (memory front marks words : List ℕ) where
  pub blocks_of_front : words ≡ take (length front - table_in granularity (length front)) front → memory ≡ front ++ marks →
      length front ≡ left_beside_marks (length memory) → words ≡ words_for_blocks granularity memory
  blocks_of_front first parts place =
      first ∙ sym (take-append-le (length front - table_in granularity (length front)) front marks (omega arith))
      ∙ ap (take (length front - table_in granularity (length front))) (sym parts) ∙ ap (λ (k : ℕ). take (k - table_in granularity k) memory) place

  pub table_of_front : words ≡ drop (length front - table_in granularity (length front)) front → memory ≡ front ++ marks →
      length front ≡ left_beside_marks (length memory) → words ≡ words_for_table granularity memory
  table_of_front last parts place =
      let front_is : front ≡ take (left_beside_marks (length memory)) memory =
      sym (take-append_seam front marks) ∙ ap (take (length front)) (sym parts) ∙ ap (λ (k : ℕ). take k memory) place in
      last ∙ ap (λ (k : ℕ). drop (k - table_in granularity k) front) place ∙ ap (drop (left_for_words granularity (length memory))) front_is

-- of these, the words in front of the table, for which there are marks enough
module _ (granularity : ℕ) (front words table given : List ℕ) where
  pub blocks_of_parts : (most : ℕ) → given ≡ take (min (length words) most) words → front ≡ words ++ table →
      length words ≡ length front - table_in granularity (length front) → length words ≤ most →
      given ≡ take (length front - table_in granularity (length front)) front
  blocks_of_parts most first parts place enough =
      let all : min (length words) most ≡ length words = omega (arith, enough) in
      first ∙ ap (λ (k : ℕ). take k words) all ∙ take-length words
      ∙ sym (take-append_seam words table) ∙ ap (take (length words)) (sym parts) ∙ ap (λ (k : ℕ). take k front) place

  pub table_of_parts : given ≡ table → front ≡ words ++ table → length words ≡ length front - table_in granularity (length front) →
      given ≡ drop (length front - table_in granularity (length front)) front
  table_of_parts is parts place =
      is ∙ sym (drop-append_seam words table) ∙ ap (drop (length words)) (sym parts) ∙ ap (λ (k : ℕ). drop k front) place
