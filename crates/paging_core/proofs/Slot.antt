-- What a write to an entry of the third step does to the walk: to the slot of that entry, and to nothing else.
use Rattle.std.proofs.Common.{◌≡◌, ℕ, zero, suc, ◌+◌, ◌*◌, ◌/◌, ◌%◌, ◌<◌, ◌≤◌, List, length, Some, refl, sym, ap, ◌∙◌, ◌⊎◌, inl, inr, arith}
use Rattle.std.proofs.lemmas.Bool.{cases_eq}
use Rattle.paging_core.specs.Memory.{word_at}
use Rattle.paging_core.specs.Walk.{Place, step, large_step, reach, large_of, large_from, page_or, next_from}
use Rattle.paging_core.proofs.Reach.{reach_zero, reach_suc, reach_is, large_is, step_same, large_same, next_same, large_next_same}

module _ (old new : List ℕ) (root N i : ℕ) (at : Place)
    (index : i < 512)
    (size : length new ≡ length old)
    (here : reach old root 2 N ≡ Some at)
    (same : (l n : ℕ) (b : Place) (j : ℕ) → l < 4 → reach old root l n ≡ Some b → j < 512 → (b.frame ≡ at.frame → j ≡ i → ⊥) →
    word_at new b.frame j ≡ word_at old b.frame j)
    (alone : (l n : ℕ) (b : Place) → l < 4 → reach old root l n ≡ Some b → b.frame ≡ at.frame → (l ≡ 2) × (n ≡ N)) where
  slot_above : (l n : ℕ) → l ≤ 2 → reach new root l n ≡ reach old root l n
  slot_above zero n le = reach_zero new root n ∙ sym (reach_zero old root n)
  slot_above (suc l) n le =
      let e : reach new root l (n / 512) ≡ reach old root l (n / 512) = slot_above l (n / 512) (omega arith) in
      reach_suc new root l n (omega arith)
      ∙ (ap (λ o. next_from new l o (n % 512)) e
      ∙ (next_same old new l (n % 512) (reach old root l (n / 512))
      (λ b is. step_same old new l b (n % 512) size
      (same l (n / 512) b (n % 512) (omega arith) is (omega arith) (λ x _. let p = alone l (n / 512) b (omega arith) is x in absurd (omega (arith, p.0)))))
      ∙ sym (reach_suc old root l n (omega arith))))

  quotient : (512 * N + i) / 512 ≡ N
  quotient = omega arith

  rest : (512 * N + i) % 512 ≡ i
  rest = omega arith

  -- the entry leads where its new word says
  pub slot_there : reach new root 3 (512 * N + i) ≡ step new 2 at i
  slot_there =
      let e : reach new root 2 N ≡ Some at = slot_above 2 N (omega arith) ∙ here in
      reach_suc new root 2 (512 * N + i) (omega arith) ∙ rw (quotient, rest, e) refl

  pub slot_large : large_of new root (512 * N + i) ≡ large_step new at i
  slot_large =
      let e : reach new root 2 N ≡ Some at = slot_above 2 N (omega arith) ∙ here in
      large_is new root (512 * N + i) ∙ rw (quotient, rest, e) refl

  -- another entry of a table of the third step
  other_entry : (n : ℕ) (b : Place) → (n ≡ 512 * N + i → ⊥) → reach old root 2 (n / 512) ≡ Some b →
      word_at new b.frame (n % 512) ≡ word_at old b.frame (n % 512)
  other_entry n b ne is =
      same 2 (n / 512) b (n % 512) (omega arith) is (omega arith)
      (λ x y. let p = alone 2 (n / 512) b (omega arith) is x in ne (let q : n / 512 ≡ N = p.1 in omega arith))

  slot_tables : (n : ℕ) → (n ≡ 512 * N + i → ⊥) → reach new root 3 n ≡ reach old root 3 n
  slot_tables n ne =
      reach_suc new root 2 n (omega arith)
      ∙ (ap (λ o. next_from new 2 o (n % 512)) (slot_above 2 (n / 512) (omega arith))
      ∙ (next_same old new 2 (n % 512) (reach old root 2 (n / 512)) (λ b is. step_same old new 2 b (n % 512) size (other_entry n b ne is))
      ∙ sym (reach_suc old root 2 n (omega arith))))

  pub slot_larges : (n : ℕ) → (n ≡ 512 * N + i → ⊥) → large_of new root n ≡ large_of old root n
  slot_larges n ne =
      large_is new root n
      ∙ (ap (λ o. large_from new o (n % 512)) (slot_above 2 (n / 512) (omega arith))
      ∙ (large_next_same old new (n % 512) (reach old root 2 (n / 512)) (λ b is. large_same old new b (n % 512) size (other_entry n b ne is))
      ∙ sym (large_is old root n)))

  slot_pages : (n : ℕ) → (n / 512 ≡ 512 * N + i → ⊥) → reach new root 4 n ≡ reach old root 4 n
  slot_pages n ne =
      let t : reach new root 3 (n / 512) ≡ reach old root 3 (n / 512) = slot_tables (n / 512) ne in
      let g : large_of new root (n / 512) ≡ large_of old root (n / 512) = slot_larges (n / 512) ne in
      let s : next_from new 3 (reach old root 3 (n / 512)) (n % 512) ≡ next_from old 3 (reach old root 3 (n / 512)) (n % 512) =
      next_same old new 3 (n % 512) (reach old root 3 (n / 512))
      (λ b is. step_same old new 3 b (n % 512) size
      (same 3 (n / 512) b (n % 512) (omega arith) is (omega arith) (λ x _. let p = alone 3 (n / 512) b (omega arith) is x in absurd (omega (arith, p.0))))) in
      reach_is new root n
      ∙ (ap (λ o. page_or o (n % 512) (next_from new 3 (reach new root 3 (n / 512)) (n % 512))) g
      ∙ (ap (λ o. page_or (large_of old root (n / 512)) (n % 512) (next_from new 3 o (n % 512))) t
      ∙ (ap (page_or (large_of old root (n / 512)) (n % 512)) s ∙ sym (reach_is old root n))))

  -- every place outside the slot stays
  pub slot_others : (l n : ℕ) → l ≤ 4 → (l ≡ 3 → n ≡ 512 * N + i → ⊥) → (l ≡ 4 → n / 512 ≡ 512 * N + i → ⊥) → reach new root l n ≡ reach old root l n
  slot_others l n le table page = go (cases_eq l 3) (cases_eq l 4)
    where
      go : (l ≡ 3) ⊎ (l ≡ 3 → ⊥) → (l ≡ 4) ⊎ (l ≡ 4 → ⊥) → reach new root l n ≡ reach old root l n
      go (inl x) _ = rw x (slot_tables n (table x))
      go _ (inl x) = rw x (slot_pages n (page x))
      go (inr x) (inr y) = slot_above l n (omega arith)
