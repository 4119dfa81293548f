-- Lines, in which those that go on are one.
use Rattle.std.proofs.Common.{◌≡◌, ◌<◌, ◌≤◌, ℕ, ◌+◌, ◌-◌, Bool, true, false, ◌&&◌, ◌||◌, List, [], ◌∷◌, Some, nat_eq, nat_le, nat_lt, length, get_or, drop, refl, sym, ◌∙◌, ap, arith, add-one, drop-cons}
use Rattle.std.specs.Prelude.{if◌then◌else◌}
use Rattle.std.specs.List.{list_any, AllByRecursion}
use Rattle.std.proofs.lemmas.Bool.Decides.{nat_tests}
use Rattle.std.proofs.lemmas.List.{drop_all}
use Rattle.paging_core.specs.Walk.{walk_of, place_with}
use Rattle.paging_core.specs.declared.page_table.PageBits.{PageBits}
use Rattle.heap_tables.specs.declared.lines.Line.{Line}
use Rattle.heap_tables.specs.declared.owners.Owned.{Owned}
use Rattle.heap_tables.specs.declared.owners.Owner.{Owner}
use Rattle.heap_tables.specs.declared.owners.Owner.TheVariants.{Heap, User}
use Rattle.heap_tables.specs.Owners.{owner_of, same_owner}
use Rattle.heap_tables.specs.Joining.{same, same_bits, goes_on, with_next, lines_from, joined_lines}
use Rattle.heap_tables.specs.Walked.{place_in, IsWalked, IsOwned, line_has_page, AreGreatest}

-- what is taken for a line if there is none
abbrev pub none : Line
none = record { steps = 0; index = 0; page = 0; end = 0; frame = 0; owner = Heap; rights = record { write = false; user = false; fetch = false; through = false; uncached = false; global = false } }

pub rest_at : (lines : List Line) (i : ℕ) (d : Line) → i < length lines → drop i lines ≡ get_or lines i d ∷ drop (i + 1) lines
rest_at lines i d within = drop-cons lines i d within ∙ ap (λ (n : ℕ). get_or lines i d ∷ drop n lines) (sym (add-one i))

-- how the lines go on at one
pub lines_step : (line : Line) (lines : List Line) (i : ℕ) → i < length lines →
    lines_from line (drop i lines) ≡ (if goes_on line (get_or lines i (record {
      steps = 0;
      index = 0;
      page = 0;
      end = 0;
      frame = 0;
      owner = Heap;
      rights = record { write = false; user = false; fetch = false; through = false; uncached = false; global = false };
    }))
    then lines_from (with_next line (get_or lines i (record {
      steps = 0;
      index = 0;
      page = 0;
      end = 0;
      frame = 0;
      owner =
          Heap;
      rights = record { write = false; user = false; fetch = false; through = false; uncached = false; global = false };
    }))) (drop (i + 1) lines)
    else line ∷ lines_from (get_or lines i (record {
      steps = 0;
      index = 0;
      page = 0;
      end = 0;
      frame = 0;
      owner = Heap;
      rights = record { write = false; user = false; fetch = false; through = false; uncached = false; global = false };
    })) (drop (i + 1) lines))
lines_step line lines i within = ap (lines_from line) (rest_at lines i none within)

-- none is after the last
pub lines_last : (line : Line) (lines : List Line) (i : ℕ) → length lines ≤ i → lines_from line (drop i lines) ≡ line ∷ []
lines_last line lines i all = ap (lines_from line) (drop_all i lines all)

-- and the first begins with the first
pub lines_first : (lines : List Line) (d : Line) → 0 < length lines → lines_from (get_or lines 0 d) (drop 1 lines) ≡ joined_lines lines
lines_first [] d some = absurd (omega (arith, some))
lines_first (r ∷ rs) d some = refl

left_true : (a b : Bool) → (a && b) ≡ true → a ≡ true
left_true true b both = refl
left_true false b both = both

right_true : (a b : Bool) → (a && b) ≡ true → b ≡ true
right_true true b both = both
right_true false b both = absurd (let wrong : false ≡ true = both in cc)

one_of_three : (a b c : Bool) → ((a || b) || c) ≡ (a || (b || c))
one_of_three true b c = refl
one_of_three false b c = refl

same_number : (m n : ℕ) → nat_eq m n ≡ true → m ≡ n
same_number m n same = grind (arith, nat_tests, same)

less_number : (m n : ℕ) → nat_lt m n ≡ true → m < n
less_number m n less = grind (arith, nat_tests, less)

same_is : (a b : Bool) → same a b ≡ true → a ≡ b
same_is true true is = refl
same_is true false is = absurd (let wrong : false ≡ true = is in cc)
same_is false true is = absurd (let wrong : false ≡ true = is in cc)
same_is false false is = refl

same_owner_is : (one other : Owner) → same_owner one other ≡ true → one ≡ other
same_owner_is Heap Heap is = refl
same_owner_is Heap User is = absurd (let wrong : false ≡ true = is in cc)
same_owner_is User Heap is = absurd (let wrong : false ≡ true = is in cc)
same_owner_is User User is = refl

same_bits_is : (one other : PageBits) → same_bits one other ≡ true → one ≡ other
same_bits_is one other is =
    let w = same one.write other.write in
    let u = same one.user other.user in
    let f = same one.fetch other.fetch in
    let t = same one.through other.through in
    let c = same one.uncached other.uncached in
    let g = same one.global other.global in
    let is1 = right_true w (u && (f && (t && (c && g)))) is in
    let is2 = right_true u (f && (t && (c && g))) is1 in
    let is3 = right_true f (t && (c && g)) is2 in
    let is4 = right_true t (c && g) is3 in
    bits_is (same_is one.write other.write (left_true w (u && (f && (t && (c && g)))) is))
    (same_is one.user other.user (left_true u (f && (t && (c && g))) is1))
    (same_is one.fetch other.fetch (left_true f (t && (c && g)) is2))
    (same_is one.through other.through (left_true t (c && g) is3))
    (same_is one.uncached other.uncached (left_true c g is4)) (same_is one.global other.global (right_true c g is4))
  where
    bits_is : one.write ≡ other.write → one.user ≡ other.user → one.fetch ≡ other.fetch → one.through ≡ other.through →
        one.uncached ≡ other.uncached → one.global ≡ other.global → one ≡ other
    bits_is write user fetch through uncached global =
        ap (λ (b : Bool). record one { write = b }) write
        ∙ (ap (λ (b : Bool). record one { write = other.write; user = b }) user
        ∙ (ap (λ (b : Bool). record one { write = other.write; user = other.user; fetch = b }) fetch
        ∙ (ap (λ (b : Bool). record other { through = b; uncached = one.uncached; global = one.global }) through
        ∙ (ap (λ (b : Bool). record other { uncached = b; global = one.global }) uncached
        ∙ ap (λ (b : Bool). record other { global = b }) global))))

-- what it is that a line goes on
record GoesOn (line next : Line) : Type 0 where
  pub some : line.page < line.end
  pub more : next.page < next.end
  pub behind : line.end ≡ next.page
  pub frames : line.frame + (line.end - line.page) ≡ next.frame
  pub owner : line.owner ≡ next.owner
  pub rights : line.rights ≡ next.rights

goes : (line next : Line) → goes_on line next ≡ true → GoesOn line next
goes line next is =
    let a = nat_lt line.page line.end in
    let b = nat_lt next.page next.end in
    let c = nat_eq line.end next.page in
    let d = nat_eq (line.frame + (line.end - line.page)) next.frame in
    let e = nat_eq line.steps next.steps in
    let s = same_bits line.rights next.rights in
    let o = same_owner line.owner next.owner in
    let r = o && s in
    let is1 = right_true a (b && (c && (d && (e && r)))) is in
    let is2 = right_true b (c && (d && (e && r))) is1 in
    let is3 = right_true c (d && (e && r)) is2 in
    let is4 = right_true d (e && r) is3 in
    let is5 = right_true e r is4 in
    record {
      some = less_number line.page line.end (left_true a (b && (c && (d && (e && r)))) is);
      more = less_number next.page next.end (left_true b (c && (d && (e && r))) is1);
      behind = same_number line.end next.page (left_true c (d && (e && r)) is2);
      frames = same_number (line.frame + (line.end - line.page)) next.frame (left_true d (e && r) is3);
      owner = same_owner_is line.owner next.owner (left_true o s is5);
      rights = same_bits_is line.rights next.rights (right_true o s is5);
    }

-- what a line says with the pages of the next one is what both say
joined_walked : (words : List ℕ) (root : ℕ) (line next : Line) → GoesOn line next → IsWalked words root line →
    IsWalked words root next → IsWalked words root (with_next line next)
joined_walked words root line next on first second page from to = go (nat_lt page line.end) refl
  where
    go : (b : Bool) → nat_lt page line.end ≡ b → walk_of words root page ≡ Some (place_in (with_next line next) page)
    go true before = first page from (less_number page line.end before)
    go false behind =
        let some = on.some in
        let next_is = on.behind in
        let frames = on.frames in
        let at : next.page ≤ page = grind (arith, nat_tests, behind, next_is) in
        let frame : next.frame + (page - next.page) ≡ line.frame + (page - line.page) = omega (arith, at, some, next_is, frames) in
        second page at to
        ∙ ap (λ (f : ℕ). Some (place_with f next.rights)) frame
        ∙ ap (λ (b : PageBits). Some (place_with (line.frame + (page - line.page)) b)) (sym on.rights)

-- the owner of both is that of the pages of both
joined_owned : (regions : List Owned) (line next : Line) → GoesOn line next → IsOwned regions line → IsOwned regions next →
    IsOwned regions (with_next line next)
joined_owned regions line next on first second page from to = go (nat_lt page line.end) refl
  where
    go : (b : Bool) → nat_lt page line.end ≡ b → owner_of regions page ≡ line.owner
    go true before = first page from (less_number page line.end before)
    go false behind =
        let next_is = on.behind in
        let at : next.page ≤ page = grind (arith, nat_tests, behind, next_is) in
        second page at to ∙ sym on.owner

-- what holds of two lines as one if it holds of both, holds of all that are joined
all_from : (P : Line → Type 0) (line : Line) (lines : List Line) → ((a b : Line) → GoesOn a b → P a → P b →
    P (with_next a b)) → P line → AllByRecursion P lines → AllByRecursion P (lines_from line lines)
all_from P line [] both first rest = (first, tt)
all_from P line (next ∷ lines) both first rest =
    go (goes_on line next) refl (λ joined. all_from P (with_next line next) lines both joined rest.1) (all_from P next lines both rest.0 rest.1)
  where
    go : (b : Bool) → goes_on line next ≡ b → (P (with_next line next) →
        AllByRecursion P (lines_from (with_next line next) lines)) → AllByRecursion P (lines_from next lines) →
        AllByRecursion P (if b then lines_from (with_next line next) lines else line ∷ lines_from next lines)
    go true is joined other = joined (both line next (goes line next is) first rest.0)
    go false is joined other = (first, other)

all_joined : (P : Line → Type 0) (lines : List Line) → ((a b : Line) → GoesOn a b → P a → P b → P (with_next a b)) →
    AllByRecursion P lines → AllByRecursion P (joined_lines lines)
all_joined P [] both all = tt
all_joined P (line ∷ lines) both all = all_from P line lines both all.0 all.1

pub walked_joined : (words : List ℕ) (root : ℕ) (lines : List Line) → AllByRecursion (IsWalked words root) lines →
    AllByRecursion (IsWalked words root) (joined_lines lines)
walked_joined words root lines all = all_joined (IsWalked words root) lines (joined_walked words root) all

pub owned_joined : (regions : List Owned) (lines : List Line) → AllByRecursion (IsOwned regions) lines → AllByRecursion (IsOwned regions) (joined_lines lines)
owned_joined regions lines all = all_joined (IsOwned regions) lines (joined_owned regions) all

-- what lies in a line and the next lies in both as one
joined_has : (page a b c d : ℕ) → a < b → b ≡ c → c < d → (nat_le a page && nat_lt page
    d) ≡ ((nat_le a page && nat_lt page b) || (nat_le c page && nat_lt page d))
joined_has page a b c d some next more = grind (arith, nat_tests, some, next, more)

has_from : (page : ℕ) (line : Line) (lines : List Line) → list_any (line_has_page page)
    (lines_from line lines) ≡ (line_has_page page line || list_any (line_has_page page) lines)
has_from page line [] = refl
has_from page line (next ∷ lines) = go (goes_on line next) refl (has_from page (with_next line next) lines) (has_from page next lines)
  where
    go : (b : Bool) → goes_on line next ≡ b → list_any (line_has_page page)
        (lines_from (with_next line next) lines) ≡ (line_has_page page (with_next line next) || list_any
        (line_has_page page) lines) →
        list_any (line_has_page page) (lines_from next lines) ≡ (line_has_page page next || list_any (line_has_page page)
        lines) →
        list_any (line_has_page page) (if b then lines_from (with_next line next) lines else line ∷ lines_from next
        lines) ≡ (line_has_page page line || (line_has_page page next || list_any (line_has_page page) lines))
    go true is joined other =
        let on = goes line next is in
        joined
        ∙ ap (λ (b : Bool). b || list_any (line_has_page page) lines) (joined_has page line.page line.end next.page next.end on.some on.behind on.more)
        ∙ one_of_three (line_has_page page line) (line_has_page page next) (list_any (line_has_page page) lines)
    go false is joined other = ap (λ (b : Bool). line_has_page page line || b) other

pub has_joined : (page : ℕ) (lines : List Line) → list_any (line_has_page page) (joined_lines lines) ≡ list_any
    (line_has_page page) lines
has_joined page [] = refl
has_joined page (line ∷ lines) = has_from page line lines

-- what goes on in a line with the pages of the next one is what goes on in the line
begins_alike : (x line next : Line) → GoesOn line next → goes_on x (with_next line next) ≡ goes_on x line
begins_alike x line next on =
    let some = on.some in
    let behind = on.behind in
    let more = on.more in
    let same : nat_lt line.page next.end ≡ nat_lt line.page line.end = grind (arith, nat_tests, some, behind, more) in
    ap (λ (b : Bool). nat_lt x.page x.end && (b && (nat_eq x.end line.page &&
    (nat_eq (x.frame + (x.end - x.page)) line.frame && (nat_eq x.steps line.steps &&
    (same_owner x.owner line.owner && same_bits x.rights line.rights)))))) same

-- no line is left that goes on the one before it
record AreEnded (line : Line) (lines : List Line) : Type 0 where
  pub all : AreGreatest (lines_from line lines)
  pub behind : (x : Line) → goes_on x line ≡ false → AreGreatest (x ∷ lines_from line lines)

ended : (line : Line) (lines : List Line) → AreEnded line lines
ended line [] = record { all = tt; behind = λ x no. (no, tt) }
ended line (next ∷ lines) =
    let both = go (goes_on line next) refl (ended (with_next line next) lines) (ended next lines) in
    record { all = both.0; behind = both.1 }
  where
    go : (b : Bool) → goes_on line next ≡ b → AreEnded (with_next line next) lines → AreEnded next lines →
        AreGreatest (if b then lines_from (with_next line next) lines else line ∷ lines_from next lines)
        × ((x : Line) → goes_on x line ≡ false → AreGreatest (x ∷ (if b then lines_from (with_next line next) lines else line ∷ lines_from next lines)))
    go true is joined other = (joined.all, λ x no. joined.behind x (begins_alike x line next (goes line next is) ∙ no))
    go false is joined other = (other.behind line is, λ x no. (no, other.behind line is))

pub greatest_joined : (lines : List Line) → AreGreatest (joined_lines lines)
greatest_joined [] = tt
greatest_joined (line ∷ lines) = (ended line lines).all
