-- The bytes of a task state segment, as they are written one part after the other.
use Rattle.std.proofs.Common.{◌≡◌, ℕ, ◌+◌, List, [], ◌∷◌, ◌++◌, length, take, drop, replicate, get_or, ap, sym, ◌∙◌, refl, arith}
use Rattle.std.specs.Int.{to_le_bytes, w64}
use Rattle.x86_tables.specs.TaskStateSegment.{address_bytes}
use Rattle.std.proofs.lemmas.List.{places, same_lists, append_assoc}

-- `put` of a part from a place on
abbrev pub written : ℕ → List ℕ → List ℕ → List ℕ
written at part bytes = take at bytes ++ (part ++ drop (at + length part) bytes)

-- what was in the place of the part gives way to it
written_over : (at : ℕ) (before old after part : List ℕ) → length before ≡ at → length old ≡ length part →
    written at part (before ++ (old ++ after)) ≡ before ++ (part ++ after)
written_over at before old after part first same = same_lists _ _ (grind (arith, places)) (λ k d h. grind (arith, places))

module _ (stacks interrupt_stacks map_at : List ℕ) (three : length stacks ≡ 24) (seven : length interrupt_stacks ≡ 56) (two : length map_at ≡ 2) where
  -- the reserved bytes around the parts
  low : List ℕ
  low = replicate 4 0 ++ (stacks ++ replicate 8 0)

  high : List ℕ
  high = replicate 4 0 ++ stacks ++ replicate 8 0 ++ interrupt_stacks ++ replicate 10 0

  first : written 4 stacks (replicate 104 0) ≡ low ++ (replicate 56 0 ++ replicate 12 0)
  unfolding low
  first =
      written_over 4 (replicate 4 0) (replicate 24 0) (replicate 76 0) stacks refl (sym three)
      ∙ ap (λ rest. replicate 4 0 ++ rest) (sym (append_assoc stacks (replicate 8 0) (replicate 68 0)))

  second : written 36 interrupt_stacks (low ++ (replicate 56 0 ++ replicate 12 0)) ≡ high ++ (replicate 2 0 ++ [])
  unfolding low high
  second =
      written_over 36 low (replicate 56 0) (replicate 12 0) interrupt_stacks (grind (arith, places)) (sym seven)
      ∙ same_lists _ _ (grind (arith, places)) (λ k d h. grind (arith, places))

  third : written 102 map_at (high ++ (replicate 2 0 ++ [])) ≡ high ++ map_at
  unfolding high
  third =
      written_over 102 high (replicate 2 0) [] map_at (grind (arith, places)) (sym two)
      ∙ same_lists _ _ (grind (arith, places)) (λ k d h. grind (arith, places))

  pub laid_out :
      written 102 map_at (written 36 interrupt_stacks (written 4 stacks (replicate 104 0)))
      ≡ replicate 4 0 ++ stacks ++ replicate 8 0 ++ interrupt_stacks ++ replicate 10 0 ++ map_at
  unfolding high
  laid_out =
      ap (λ bytes. written 102 map_at (written 36 interrupt_stacks bytes)) first
      ∙ (ap (λ bytes. written 102 map_at bytes) second ∙ third)

-- the bytes of three and of seven addresses, one address after the other
pub three_addresses : (xs : List ℕ) (i j k : ℕ) (a b c : List ℕ) → length xs ≡ 3 →
    a ≡ to_le_bytes w64 (get_or xs 0 i) → b ≡ to_le_bytes w64 (get_or xs 1 j) → c ≡ to_le_bytes w64 (get_or xs 2 k) →
    a ++ (b ++ (c ++ [])) ≡ address_bytes xs
three_addresses xs i j k a b c long p q r =
    let listed : get_or xs 0 i ∷ get_or xs 1 j ∷ get_or xs 2 k ∷ [] ≡ xs = same_lists _ _ (grind (arith, places)) (λ n d h. grind (arith, places)) in
    rw (p, q, r) (ap address_bytes listed)

pub seven_addresses : (xs : List ℕ) (i₁ i₂ i₃ i₄ i₅ i₆ i₇ : ℕ) (a₁ a₂ a₃ a₄ a₅ a₆ a₇ : List ℕ) → length xs ≡ 7 →
    a₁ ≡ to_le_bytes w64 (get_or xs 0 i₁) → a₂ ≡ to_le_bytes w64 (get_or xs 1 i₂) → a₃ ≡ to_le_bytes w64 (get_or xs 2 i₃) →
    a₄ ≡ to_le_bytes w64 (get_or xs 3 i₄) → a₅ ≡ to_le_bytes w64 (get_or xs 4 i₅) → a₆ ≡ to_le_bytes w64 (get_or xs 5 i₆) →
    a₇ ≡ to_le_bytes w64 (get_or xs 6 i₇) →
    a₁ ++ (a₂ ++ (a₃ ++ (a₄ ++ (a₅ ++ (a₆ ++ (a₇ ++ [])))))) ≡ address_bytes xs
seven_addresses xs i₁ i₂ i₃ i₄ i₅ i₆ i₇ a₁ a₂ a₃ a₄ a₅ a₆ a₇ long e₁ e₂ e₃ e₄ e₅ e₆ e₇ =
    let listed : get_or xs 0 i₁ ∷ get_or xs 1 i₂ ∷ get_or xs 2 i₃ ∷ get_or xs 3 i₄ ∷ get_or xs 4 i₅ ∷ get_or xs 5 i₆ ∷ get_or xs 6 i₇ ∷ [] ≡ xs =
    same_lists _ _ (grind (arith, places)) (λ n d h. grind (arith, places)) in
    rw (e₁, e₂, e₃, e₄, e₅, e₆, e₇) (ap address_bytes listed)
