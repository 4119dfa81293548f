-- Regions, neighbours joined.
use Rattle.std.proofs.Common.{◌≡◌, ◌<◌, ◌≤◌, ℕ, ◌+◌, ◌*◌, Bool, true, false, ◌&&◌, ◌||◌, List, [], ◌∷◌, length, get_or, drop, nat_eq, nat_lt, nat_le, max, refl, sym, ◌∙◌, ap, arith, add-one, drop-cons}
use Rattle.std.specs.Prelude.{if◌then◌else◌}
use Rattle.std.specs.List.{list_any}
use Rattle.std.proofs.lemmas.Bool.Decides.{nat_tests}
use Rattle.std.proofs.lemmas.List.{drop_all}
use Rattle.machine_model.specs.declared.region.Region.{Region}
use Rattle.machine_model.specs.State.{is_within, end_of_region, total_pages}
use Rattle.heap_picture.specs.Lines.{same, same_rights, adjoins, with_adjoining, region_lines_from, region_lines, most_pages, EachIsInOneLine}

-- what is taken for a region where there is none
abbrev pub none : Region
none = record { start = 0; pages = 0; heap = false; rights = record { write = false; user = false; fetch = false } }

pub rest_at : (regions : List Region) (i : ℕ) (d : Region) → i < length regions → drop i regions ≡ get_or regions i d ∷ drop (i + 1) regions
rest_at regions i d within = drop-cons regions i d within ∙ ap (λ (n : ℕ). get_or regions i d ∷ drop n regions) (sym (add-one i))

-- how the lines go on at a region
pub lines_step : (line : Region) (regions : List Region) (i : ℕ) → i < length regions →
    region_lines_from line (drop i regions) ≡ (if adjoins line (get_or regions i
    (record { start = 0; pages = 0; heap = false; rights = record { write = false; user = false; fetch = false } }))
    then region_lines_from (with_adjoining line (get_or regions i (record {
      start = 0;
      pages = 0;
      heap = false;
      rights =
          record { write = false; user = false; fetch = false };
    }))) (drop (i + 1) regions)
    else line ∷ region_lines_from (get_or regions i (record {
      start = 0;
      pages = 0;
      heap = false;
      rights =
          record { write = false; user = false; fetch = false };
    })) (drop (i + 1) regions))
lines_step line regions i within = ap (region_lines_from line) (rest_at regions i none within)

-- none is behind the last
pub lines_last : (line : Region) (regions : List Region) (i : ℕ) → length regions ≤ i → region_lines_from line (drop i regions) ≡ line ∷ []
lines_last line regions i all = ap (region_lines_from line) (drop_all i regions all)

-- and the first begins with the first region
pub lines_first : (regions : List Region) (d : Region) → 0 < length regions → region_lines_from (get_or regions 0 d) (drop 1 regions) ≡ region_lines regions
lines_first [] d some = absurd (omega (arith, some))
lines_first (r ∷ rs) d some = refl

pub pages_more : (regions : List Region) (i : ℕ) (d : Region) → i < length regions →
    total_pages (drop i regions) ≡ (get_or regions i d).pages + total_pages (drop (i + 1) regions)
pages_more regions i d within = ap total_pages (rest_at regions i d within)

-- and the pages of those that are left
pub pages_step : (regions : List Region) (i : ℕ) → i < length regions →
    total_pages (drop i regions) ≡ (get_or regions i (record {
      start = 0;
      pages = 0;
      heap = false;
      rights =
          record { write = false; user = false; fetch = false };
    })).pages + total_pages (drop (i + 1) regions)
pages_step regions i within = pages_more regions i none within

pub pages_first : (regions : List Region) (d : Region) → 0 < length regions → (get_or regions 0 d).pages + total_pages (drop 1 regions) ≡ total_pages regions
pages_first [] d some = absurd (omega (arith, some))
pages_first (r ∷ rs) d some = refl

pub most_more : (lines : List Region) (i : ℕ) (d : Region) → i < length lines →
    most_pages (drop i lines) ≡ max (get_or lines i d).pages (most_pages (drop (i + 1) lines))
most_more lines i d within = ap most_pages (rest_at lines i d within)

pub most_none : (lines : List Region) (i : ℕ) → length lines ≤ i → most_pages (drop i lines) ≡ 0
most_none lines i all = ap most_pages (drop_all i lines all)

-- the pages of the lines are those of the regions
pages_from : (line : Region) (rs : List Region) → total_pages (region_lines_from line rs) ≡ line.pages + total_pages rs
pages_from line [] = refl
pages_from line (next ∷ rs) = go (adjoins line next) (pages_from (with_adjoining line next) rs) (pages_from next rs)
  where
    go : (b : Bool) → total_pages (region_lines_from (with_adjoining line next)
        rs) ≡ (line.pages + next.pages) + total_pages rs →
        total_pages (region_lines_from next rs) ≡ next.pages + total_pages rs →
        total_pages (if b then region_lines_from (with_adjoining line next) rs else line ∷ region_lines_from next
        rs) ≡ line.pages + (next.pages + total_pages rs)
    go true joined other = joined ∙ omega arith
    go false joined other = ap (λ (n : ℕ). line.pages + n) other

pub pages_are : (regions : List Region) → total_pages (region_lines regions) ≡ total_pages regions
pages_are [] = refl
pages_are (r ∷ rs) = pages_from r rs

left_true : (a b : Bool) → (a && b) ≡ true → a ≡ true
left_true true b both = refl
left_true false b both = both

one_of_three : (a b c : Bool) → ((a || b) || c) ≡ (a || (b || c))
one_of_three true b c = refl
one_of_three false b c = refl

same_number : (m n : ℕ) → nat_eq m n ≡ true → m ≡ n
same_number m n same = grind (arith, nat_tests, same)

-- what lies in a region and the next lies in both as one
joined_within : (a s p t q : ℕ) → s + 4096 * p ≡ t → (nat_le s a && nat_lt a
    (s + 4096 * (p + q))) ≡ ((nat_le s a && nat_lt a (s + 4096 * p)) || (nat_le t a && nat_lt a (t + 4096 * q)))
joined_within a s p t q next = grind (arith, nat_tests, next)

covered_from : (a : ℕ) (line : Region) (rs : List Region) → list_any (is_within a) (region_lines_from line rs) ≡ (is_within a line || list_any (is_within a) rs)
covered_from a line [] = refl
covered_from a line (next ∷ rs) = go (adjoins line next) refl (covered_from a (with_adjoining line next) rs) (covered_from a next rs)
  where
    go : (b : Bool) → adjoins line next ≡ b → list_any (is_within a) (region_lines_from (with_adjoining line next)
        rs) ≡ (is_within a
        (with_adjoining line next) || list_any (is_within a) rs) →
        list_any (is_within a) (region_lines_from next rs) ≡ (is_within a next || list_any (is_within a) rs) →
        list_any (is_within a) (if b then region_lines_from (with_adjoining line next) rs else line ∷ region_lines_from next
        rs) ≡ (is_within a
        line || (is_within a next || list_any (is_within a) rs))
    go true is joined other =
        let at_end = same_number (end_of_region line) next.start (left_true (nat_eq (end_of_region line) next.start)
        (same line.heap next.heap && same_rights line.rights next.rights) is) in
        joined
        ∙ ap (λ (b : Bool). b || list_any (is_within a) rs) (joined_within a line.start line.pages next.start next.pages at_end)
        ∙ one_of_three (is_within a line) (is_within a next) (list_any (is_within a) rs)
    go false is joined other = ap (λ (b : Bool). is_within a line || b) other

covered_are : (a : ℕ) (regions : List Region) → list_any (is_within a) (region_lines regions) ≡ list_any (is_within a) regions
covered_are a [] = refl
covered_are a (r ∷ rs) = covered_from a r rs

pub each_is_in_one : EachIsInOneLine
each_is_in_one regions = record { pages = pages_are regions; covered = λ a. covered_are a regions }
