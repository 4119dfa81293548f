-- A page that is in no line is not mapped.
use Rattle.std.proofs.Common.{◌≡◌, ◌<◌, ◌≤◌, ℕ, zero, suc, ◌+◌, ◌-◌, ◌*◌, ◌/◌, ◌%◌, ◌^◌, Bool, true, false, ◌||◌, ◌&&◌, List, ◌++◌, Option, Some, None, nat_le, nat_lt, refl, sym, ◌∙◌, ap, subst, arith}
use Rattle.std.specs.List.{list_any}
use Rattle.std.proofs.lemmas.Bool.Decides.{nat_tests}
use Rattle.std.proofs.lemmas.List.Folds.{list_any-append}
use Rattle.std.proofs.lemmas.Nat.{mod_below}
use Rattle.paging_core.specs.Prefix.{prefix_of}
use Rattle.paging_core.specs.Walk.{Place, step, large_step, large_of, reach, walk_of}
use Rattle.paging_core.proofs.Reach.{reach_none}
use Rattle.paging_core.proofs.Prefixes.{prefix_parent, prefix_more, walk_reach, walk_stops, none_more}
use Rattle.heap_tables.specs.declared.lines.Line.{Line}
use Rattle.heap_tables.specs.declared.owners.Owned.{Owned}
use Rattle.heap_tables.specs.Lines.{line_of, large_lines, lines_below, large_entry_of, entry_lines, entries_lines, lowest_page_below, lines_under}
use Rattle.heap_tables.specs.Walked.{line_has_page}
use Rattle.heap_tables.proofs.Walks.{step_met, large_met}

left_false : (a b : Bool) → (a || b) ≡ false → a ≡ false
left_false false b none = refl
left_false true b none = none

right_false : (a b : Bool) → (a || b) ≡ false → b ≡ false
right_false false b none = none
right_false true b none = absurd (let wrong : true ≡ false = none in cc)

pub none_left : {X : Type 0} (p : X → Bool) (xs ys : List X) → list_any p (xs ++ ys) ≡ false → list_any p xs ≡ false
none_left p xs ys none = left_false (list_any p xs) (list_any p ys) (sym (list_any-append p xs ys) ∙ none)

pub none_right : {X : Type 0} (p : X → Bool) (xs ys : List X) → list_any p (xs ++ ys) ≡ false → list_any p ys ≡ false
none_right p xs ys none = right_false (list_any p xs) (list_any p ys) (sym (list_any-append p xs ys) ∙ none)

-- what is in nothing that the entries lead to is in nothing that one of them leads to
pub entries_none : (p : Line → Bool) (words : List ℕ) (regions : List Owned) (below : ℕ → Place → List Line)
    (level number : ℕ) (table : Place) (count index : ℕ) → index < count →
    list_any p (entries_lines words regions below level number table count) ≡ false →
    list_any p (entry_lines words regions below level number table index) ≡ false
entries_none p words regions below level number table zero index less none = absurd (omega (arith, less))
entries_none p words regions below level number table (suc count) index less none =
    let front = entries_lines words regions below level number table count in
    let back = entry_lines words regions below level number table count in
    go (nat_lt index count) refl (λ before. entries_none p words regions below level number table count index before
    (none_left p front back none)) (none_right p front back none)
  where
    go : (b : Bool) → nat_lt index count ≡ b → (index < count → list_any p (entry_lines words regions below level number table index) ≡ false) →
        list_any p (entry_lines words regions below level number table count) ≡ false →
        list_any p (entry_lines words regions below level number table index) ≡ false
    go true before earlier last = earlier (grind (arith, nat_tests, before))
    go false behind earlier last =
        let same : index ≡ count = grind (arith, nat_tests, less, behind) in
        ap (λ (i : ℕ). list_any p (entry_lines words regions below level number table i)) same ∙ last

-- a walk that does not go on finds nothing, unless in a large page
none_walk : (words : List ℕ) (root page l : ℕ) → l ≤ 3 → reach words root (4 - l) (prefix_of page (4 - l)) ≡ None →
    (l ≡ 1 → large_of words root (prefix_of page 3) ≡ None) → walk_of words root page ≡ None
none_walk words root page zero low none small = walk_reach words root page ∙ none
none_walk words root page (suc zero) low none small =
    let p : prefix_of page 4 / 512 ≡ prefix_of page 3 = prefix_parent page 3 (omega arith) in
    walk_reach words root page ∙ reach_none words root (prefix_of page 4) (ap (reach words root 3) p ∙ none) (ap (large_of words root) p ∙ small refl)
none_walk words root page (suc (suc zero)) low none small = walk_stops words root page none
none_walk words root page (suc (suc (suc zero))) low none small = walk_stops words root page (none_more words root page 1 (omega arith) none)
none_walk words root page (suc (suc (suc (suc l)))) low none small = absurd (omega (arith, low))

-- the prefix of a page with one index more
pub prefix_next : (page l : ℕ) → l ≤ 3 → 512 * prefix_of page (3 - l) + prefix_of page (4 - l) % 512 ≡ prefix_of page (4 - l)
prefix_next page zero low = prefix_more page 3 (omega arith)
prefix_next page (suc zero) low = prefix_more page 2 (omega arith)
prefix_next page (suc (suc zero)) low = prefix_more page 1 (omega arith)
prefix_next page (suc (suc (suc zero))) low = prefix_more page 0 (omega arith)
prefix_next page (suc (suc (suc (suc l)))) low = absurd (omega (arith, low))

in_page : (number page : ℕ) → page ≡ number → (nat_le number page && nat_lt page (number + 1)) ≡ true
in_page number page same = grind (arith, nat_tests, same)

in_slot : (number page : ℕ) → page / 512 ≡ number → (nat_le (512 * number) page && nat_lt page (512 * number + 512)) ≡ true
in_slot number page same =
    let from : 512 * number ≤ page = omega (arith, same) in
    let to : page < 512 * number + 512 = omega (arith, same) in
    grind (arith, nat_tests, from, to)

not_both : {A : Type 0} (b : Bool) → b ≡ true → (b || false) ≡ false → A
not_both true is none = absurd (let wrong : true ≡ false = none in cc)
not_both false is none = absurd (let wrong : false ≡ true = is in cc)

-- a page that is in no large page of a list is in none
larges_none : (regions : List Owned) (page number : ℕ) (o : Option Place) → page / 512 ≡ number →
    list_any (line_has_page page) (large_lines regions number o) ≡ false → o ≡ None
larges_none regions page number None here none = refl
larges_none regions page number (Some large) here none = not_both (nat_le (512 * number) page && nat_lt page
    (512 * number + 512)) (in_slot number page here) none

-- the slot of a page is in no large page
entry_none : (words : List ℕ) (regions : List Owned) (root page l number index : ℕ) (table : Place) → l ≤ 3 →
    page < 2 ^ 36 → index < 512 → 512 * number + index ≡ prefix_of page (4 - l) →
    reach words root (3 - l) number ≡ Some table →
    list_any (line_has_page page) (large_lines regions (512 * number + index)
    (large_entry_of words (3 - l) table index)) ≡ false → l ≡ 1 → large_of words root (prefix_of page 3) ≡ None
entry_none words regions root page zero number index table low few within whole met none one = absurd (omega (arith, one))
entry_none words regions root page (suc zero) number index table low few within whole met none one =
    let here : page / 512 ≡ 512 * number + index = omega (arith, whole, few) in
    ap (large_of words root) (sym whole)
    ∙ large_met words root number index table within met
    ∙ larges_none regions page (512 * number + index) (large_step words table index) here none
entry_none words regions root page (suc (suc l)) number index table low few within whole met none one = absurd (omega (arith, one))

-- a page that is in nothing that its entry leads to is not mapped, if that holds of what is below the entry
under_entry : (words : List ℕ) (regions : List Owned) (root left page number index : ℕ) (place : Place) → left ≤ 3 →
    page < 2 ^ 36 → index < 512 → 512 * number + index ≡ prefix_of page (4 - left) →
    reach words root (3 - left) number ≡ Some place →
    list_any (line_has_page page) (entry_lines words regions (lines_under words regions left) (3 - left) number place index) ≡ false →
    ((next : Place) → reach words root (4 - left) (512 * number + index) ≡ Some next →
    list_any (line_has_page page) (lines_under words regions left (512 * number + index) next) ≡ false →
    walk_of words root page ≡ None) →
    walk_of words root page ≡ None
under_entry words regions root left page number index place low few within whole met entry more =
    let larges = large_lines regions (512 * number + index) (large_entry_of words (3 - left) place index) in
    let below = lines_below (lines_under words regions left) (512 * number + index) (step words (3 - left) place index) in
    go (step words (3 - left) place index) (step_met words root left number index place low within met)
    (entry_none words regions root page left number index place low few within whole met (none_left (line_has_page page) larges below entry))
    (none_right (line_has_page page) larges below entry)
  where
    go : (o : Option Place) → reach words root (4 - left) (512 * number + index) ≡ o → (left ≡ 1 → large_of words root (prefix_of page 3) ≡ None) →
        list_any (line_has_page page) (lines_below (lines_under words regions left) (512 * number + index) o) ≡ false → walk_of words root page ≡ None
    go None stops small none = none_walk words root page left low (ap (reach words root (4 - left)) (sym whole) ∙ stops) small
    go (Some next) leads small none = more next leads none

-- A page that is in nothing below a place that its walk meets is not mapped.
pub under_none : (words : List ℕ) (regions : List Owned) (root left page number : ℕ) (place : Place) → left ≤ 4 →
    page < 2 ^ 36 → number ≡ prefix_of page (4 - left) → reach words root (4 - left) number ≡ Some place →
    list_any (line_has_page page) (lines_under words regions left number place) ≡ false → walk_of words root page ≡ None
unfolding lines_under
under_none words regions root zero page number place low few is met none =
    let here : page ≡ number = omega (arith, few, is) in
    not_both (nat_le number page && nat_lt page (number + 1)) (in_page number page here) none
under_none words regions root (suc left) page number place low few is met none =
    let fewer : 4 - suc left ≡ 3 - left = omega arith in
    let low' : left ≤ 3 = omega (arith, low) in
    let is' : number ≡ prefix_of page (3 - left) = is ∙ ap (prefix_of page) fewer in
    let met' : reach words root (3 - left) number ≡ Some place = subst (λ (n : ℕ). reach words root n number ≡ Some place) fewer met in
    let whole : 512 * number + prefix_of page (4 - left) % 512 ≡ prefix_of page (4 - left) =
    ap (λ (n : ℕ). 512 * n + prefix_of page (4 - left) % 512) is' ∙ prefix_next page left low' in
    let within : prefix_of page (4 - left) % 512 < 512 = mod_below (prefix_of page (4 - left)) 512 (omega arith) in
    under_entry words regions root left page number (prefix_of page (4 - left) % 512) place low' few within whole met'
    (entries_none (line_has_page page) words regions (lines_under words regions left) (3 - left) number place 512 (prefix_of page (4 - left) % 512) within
    (right_false (line_has_page page (line_of regions (3 - left) (number % 512) (lowest_page_below (suc left) number)
    (lowest_page_below (suc left) number) place))
    (list_any (line_has_page page) (entries_lines words regions (lines_under words regions left) (3 - left) number place 512)) none))
    (λ next. under_none words regions root left page (512 * number + prefix_of page (4 - left) % 512) next (omega (arith, low)) few whole)
