-- A processor's walk over tables in an area reads no word outside it that matters.
use Rattle.std.proofs.Common.{◌≡◌, ℕ, ◌*◌, ◌/◌, ◌%◌, ◌^◌, ◌<◌, ◌≤◌, Bool, true, false, cond, List, Some, refl, sym, ap, ◌∙◌, arith}
use Rattle.paging_core.specs.Area.{Area, in_area}
use Rattle.paging_core.specs.Entry.{has_bit}
use Rattle.paging_core.specs.Laws.{AreaWalksAlike}
use Rattle.paging_core.specs.Memory.{word_at, frame_count}
use Rattle.paging_core.specs.ProcessorWalk.{Outcome, AtPage, processor_walk, page_of, is_refused, past, within}
use Rattle.paging_core.specs.Tree.{IsTreeIn}
use Rattle.paging_core.specs.Walk.{Place, top, named, reach}
use Rattle.paging_core.proofs.ProcessorWalk.{first, second, third_entry, to_first, to_second, to_third, root_met, first_met, second_met, third_met, walks_alike}

-- what comes after an entry matters if the entry is present
past_same : (width step entry : ℕ) (x y : Outcome) → (has_bit entry 0 ≡ true → x ≡ y) → past width step entry x ≡ past width step entry y
past_same width step entry x y same = go (has_bit entry 0) refl
  where
    go : (b : Bool) → has_bit entry 0 ≡ b → past width step entry x ≡ past width step entry y
    go true e = ap (past width step entry) (same e)
    go false e = rw e refl

-- and if it maps no page itself
onward_same : (b : Bool) (page x y : Outcome) → (b ≡ false → x ≡ y) → cond b page x ≡ cond b page y
onward_same true page x y same = refl
onward_same false page x y same = same refl

-- the steps of a walk from a place, the last one first
abbrev walk_four : ℕ → ℕ → List ℕ → Place → Outcome
walk_four width page m at = past width 3 (word_at m at.frame (page % 512)) (AtPage (named at (word_at m at.frame (page % 512))))

abbrev past_three : ℕ → ℕ → List ℕ → Place → ℕ → Outcome
past_three width page m at w = cond (has_bit w 7) (AtPage (within (2 ^ 9) page (named at w))) (walk_four width page m (named at w))

abbrev walk_three : ℕ → ℕ → List ℕ → Place → Outcome
walk_three width page m at = past width 2 (word_at m at.frame (page / 2 ^ 9 % 512)) (past_three width page m at (word_at m at.frame (page / 2 ^ 9 % 512)))

abbrev past_two : ℕ → ℕ → List ℕ → Place → ℕ → Outcome
past_two width page m at w = cond (has_bit w 7) (AtPage (within (2 ^ 18) page (named at w))) (walk_three width page m (named at w))

abbrev walk_two : ℕ → ℕ → List ℕ → Place → Outcome
walk_two width page m at = past width 1 (word_at m at.frame (page / 2 ^ 18 % 512)) (past_two width page m at (word_at m at.frame (page / 2 ^ 18 % 512)))

abbrev walk_one : ℕ → ℕ → List ℕ → Place → Outcome
walk_one width page m at = past width 0 (word_at m at.frame (page / 2 ^ 27 % 512)) (walk_two width page m (named at (word_at m at.frame (page / 2 ^ 27 % 512))))

in_steps : (width : ℕ) (m : List ℕ) (root page : ℕ) → processor_walk width m root page ≡ walk_one width page m (top root)
unfolding processor_walk
in_steps width m root page = refl

module _ (area : Area) (words real : List ℕ) (root page width : ℕ) (free : List Bool)
    (tree : IsTreeIn area words root free)
    (alike : (f i : ℕ) → i < 512 → in_area area f ≡ true → word_at real f i ≡ word_at words f i)
    (reaches : 4096 * frame_count words ≤ 2 ^ width) where
  abbrev entry_one : ℕ
  entry_one = first words root page width tree.plain reaches

  abbrev at_one : Place
  at_one = to_first words root page width tree.plain reaches

  abbrev entry_two : ℕ
  entry_two = second words root page width tree.plain reaches

  abbrev at_two : Place
  at_two = to_second words root page width tree.plain reaches

  abbrev entry_three : ℕ
  entry_three = third_entry words root page width tree.plain reaches

  abbrev at_three : Place
  at_three = to_third words root page width tree.plain reaches

  -- the words of a table that is met
  same : (l n : ℕ) (b : Place) (i : ℕ) → l < 4 → reach words root l n ≡ Some b → i < 512 → word_at real b.frame i ≡ word_at words b.frame i
  same l n b i lt is li = alike b.frame i li (tree.inside l n b lt is)

  four : has_bit entry_one 0 ≡ true → has_bit entry_two 0 ≡ true → has_bit entry_three 0 ≡ true → has_bit entry_three 7 ≡ false →
      walk_four width page real at_three ≡ walk_four width page words at_three
  four e f g h =
      ap (λ w. past width 3 w (AtPage (named at_three w)))
      (same 3 (page / 2 ^ 9 % 2 ^ 27) at_three (page % 512) (omega arith) (third_met words root page width tree.plain reaches e f g h) (omega arith))

  three : has_bit entry_one 0 ≡ true → has_bit entry_two 0 ≡ true → walk_three width page real at_two ≡ walk_three width page words at_two
  three e f =
      ap (λ w. past width 2 w (past_three width page real at_two w))
      (same 2 (page / 2 ^ 18 % 2 ^ 18) at_two (page / 2 ^ 9 % 512) (omega arith) (second_met words root page width tree.plain reaches e f) (omega arith))
      ∙ past_same width 2 entry_three (past_three width page real at_two entry_three) (past_three width page words at_two entry_three)
      (λ g. onward_same (has_bit entry_three 7) (AtPage (within (2 ^ 9) page at_three)) (walk_four width page real at_three)
      (walk_four width page words at_three) (four e f g))

  two : has_bit entry_one 0 ≡ true → walk_two width page real at_one ≡ walk_two width page words at_one
  two e =
      ap (λ w. past width 1 w (past_two width page real at_one w))
      (same 1 (page / 2 ^ 27 % 512) at_one (page / 2 ^ 18 % 512) (omega arith) (first_met words root page width tree.plain reaches e) (omega arith))
      ∙ past_same width 1 entry_two (past_two width page real at_one entry_two) (past_two width page words at_one entry_two)
      (λ f. onward_same (has_bit entry_two 7) (AtPage (within (2 ^ 18) page at_two)) (walk_three width page real at_two)
      (walk_three width page words at_two) (λ _. three e f))

  one : walk_one width page real (top root) ≡ walk_one width page words (top root)
  one =
      ap (λ w. past width 0 w (walk_two width page real (named (top root) w)))
      (same 0 0 (top root) (page / 2 ^ 27 % 512) (omega arith) (root_met words root page width tree.plain reaches) (omega arith))
      ∙ past_same width 0 entry_one (walk_two width page real at_one) (walk_two width page words at_one) two

  alike_walk : processor_walk width real root page ≡ processor_walk width words root page
  alike_walk = in_steps width real root page ∙ (one ∙ sym (in_steps width words root page))

pub area_walks : AreaWalksAlike
area_walks area words real root page width free tree alike reaches =
    let e = alike_walk area words real root page width free tree alike reaches in
    let w = walks_alike words root page width tree.plain reaches in
    (ap page_of e ∙ w.0, ap is_refused e ∙ w.1, λ place ends. w.2 place (sym e ∙ ends))
