-- Two runs that meet are made one.
use Rattle.std.proofs.Common.{◌≡◌, ◌∙◌, ap, sym, refl, ℕ, ◌+◌, ◌^◌, ◌<◌, Bool, true, false, cond, ◌||◌, Some, None, List, [], ◌∷◌, ◌++◌, map, arith, subst, append_assoc, ◌==◌}
use Rattle.std.proofs.lemmas.Bool.Decides.{nat_tests}
use Rattle.std.specs.Ordering.{nat_cmp}
use Rattle.meminterval.specs.declared.interval.Interval.{Interval}
use Rattle.meminterval.specs.Entries.{AllItems, first, or_else, without_key}
use Rattle.meminterval.specs.Interval.{by_ends, with_end, starts_from, HasOwnStart}
use Rattle.paging_core.specs.declared.page_table.Rights.{Rights}
use Rattle.address_space.specs.Runs.{RunsFollow, rights_in, has_run_at}
use Rattle.address_space.specs.Joining.{AreMeeting, IsMeeting, AreRunsJoined}
use Rattle.address_space.proofs.Splits.{follow_append, IsLast, past_front, head_is, none_is, all_before}
use Rattle.address_space.proofs.Changes.{rights_append, begins_append, none_above, none_below, none_begins_above, none_begins_below, without_between, end_between, own_between, begins_mapped, holds_inside}
use Rattle.address_space.proofs.Clear.{last_holds, or_none, or_first}

-- ---- the changes of the tree

-- without the second run
pub without_second : (runs : List (Interval ℕ × Rights)) (start page end : ℕ) (m : AreMeeting runs start page end) →
    without_key (by_ends nat_cmp) (record { start = page; end = end }) runs ≡ m.front ++ (record { start = start; end = page }, m.rights) ∷ m.back
without_second runs start page end m =
    let l : Interval ℕ × Rights = (record { start = start; end = page }, m.rights) in
    let r : Interval ℕ × Rights = (record { start = page; end = end }, m.rights) in
    ap (without_key (by_ends nat_cmp) r.0) (m.whole ∙ sym (append_assoc m.front (l ∷ []) (r ∷ m.back)))
    ∙ (without_between r 0 (m.front ++ l ∷ []) m.back (follow_append 0 start m.front (l ∷ []) page m.before (omega arith, m.first, omega arith))
    ∙ append_assoc m.front (l ∷ []) m.back)

pub own_first : (runs rest : List (Interval ℕ × Rights)) (start page end : ℕ) (m : AreMeeting runs start page end) →
    rest ≡ m.front ++ (record { start = start; end = page }, m.rights) ∷ m.back →
    AllItems (HasOwnStart nat_cmp (record { start = start; end = page })) rest
own_first runs rest start page end m is =
    subst (λ (es : List (Interval ℕ × Rights)). AllItems (HasOwnStart nat_cmp (record { start = start; end = page })) es) (sym is)
    (own_between (record { start = start; end = page }, m.rights) 0 m.front m.back end (2 ^ 52) m.before (omega (arith, m.first, m.second)) m.behind)

pub with_first : (runs rest : List (Interval ℕ × Rights)) (start page end : ℕ) (m : AreMeeting runs start page end) →
    rest ≡ m.front ++ (record { start = start; end = page }, m.rights) ∷ m.back →
    map (with_end nat_cmp (record { start = start; end = page }) end) rest ≡ m.front ++ (record { start = start; end = end }, m.rights) ∷ m.back
with_first runs rest start page end m is =
    ap (map (with_end nat_cmp (record { start = start; end = page }) end)) is
    ∙ end_between (record { start = start; end = page }, m.rights) end 0 m.front m.back end (2 ^ 52) m.before (omega (arith, m.first, m.second)) m.behind

-- ---- what the one run is

same_rights : (start page end any : ℕ) (rights : Rights) (back : List (Interval ℕ × Rights)) → start < page → page < end →
    rights_in ((record { start = start; end = end }, rights) ∷ back) any ≡ rights_in
    ((record { start = start; end = page }, rights) ∷ (record { start = page; end = end }, rights) ∷ back) any
same_rights start page end any rights back h k = grind (arith, nat_tests)

fewer_begin : (front back : List (Interval ℕ × Rights)) (start page end any : ℕ) (rights : Rights) →
    has_run_at (front ++ (record { start = start; end = end }, rights) ∷ back) any ≡ true →
    has_run_at (front ++ (record { start = start; end = page }, rights) ∷ (record { start = page; end = end }, rights) ∷ back) any ≡ true
fewer_begin front back start page end any rights h =
    begins_append front ((record { start = start; end = page }, rights) ∷ (record { start = page; end = end }, rights) ∷ back) any
    ∙ go (has_run_at front any) (start == any) (page == any) (has_run_at back any)
    (sym (begins_append front ((record { start = start; end = end }, rights) ∷ back) any) ∙ h) where
      go : (a b c d : Bool) → (a || (cond b true d)) ≡ true → (a || cond b true (cond c true d)) ≡ true
      go true b c d k = refl
      go false true c d k = refl
      go false false true d k = refl
      go false false false d k = k

-- no run begins at the page
none_begins : (front back : List (Interval ℕ × Rights)) (e : Interval ℕ × Rights) (page : ℕ) →
    has_run_at front page ≡ false → e.0.start < page → has_run_at back page ≡ false →
    has_run_at (front ++ e ∷ back) page ≡ false
none_begins front back e page h k l =
    let t : (e.0.start == page) ≡ false = grind (arith, nat_tests, k) in
    begins_append front (e ∷ back) page ∙ rw h (rw t l)

pub joined : (runs new : List (Interval ℕ × Rights)) (start page end : ℕ) (m : AreMeeting runs start page end) →
    new ≡ m.front ++ (record { start = start; end = end }, m.rights) ∷ m.back → AreRunsJoined runs new page
joined runs new start page end m is =
    subst (λ (es : List (Interval ℕ × Rights)). AreRunsJoined runs es page) (sym is)
    (record {
      follow = follow_append 0 start m.front ((record { start = start; end = end }, m.rights) ∷ m.back) (2 ^ 52) m.before
          (omega arith, omega (arith, m.first, m.second), m.behind);
      rights = λ any. rights_append m.front ((record { start = start; end = end }, m.rights) ∷ m.back) any
          ∙ (ap (or_else (rights_in m.front any)) (same_rights start page end any m.rights m.back m.first m.second)
          ∙ (sym (rights_append m.front ((record { start = start; end = page }, m.rights) ∷ (record { start = page; end = end }, m.rights) ∷ m.back) any)
          ∙ ap (λ (es : List (Interval ℕ × Rights)). rights_in es any) (sym m.whole)));
      begins = λ any h. ap (λ (es : List (Interval ℕ × Rights)). has_run_at es any) m.whole ∙ fewer_begin m.front m.back start page end any m.rights h;
      joined = λ before at h same.
          (let none = none_begins m.front m.back (record { start = start; end = end }, m.rights) (before + 1)
          (none_begins_above 0 m.front start (before + 1) m.before (omega (arith, at, m.first))) (omega (arith, at, m.first))
          (none_begins_below end m.back (2 ^ 52) (before + 1) m.behind (omega (arith, at, m.second))) in
          let no : false ≡ true = sym none ∙ h in absurd (cc));
    })

-- ---- if no two runs meet

pub longest_first : (runs : List (Interval ℕ × Rights)) (page : ℕ) → RunsFollow 0 runs (2 ^ 52) → RunsFollow page runs (2 ^ 52) → IsMeeting runs page None
longest_first runs page f g before at h same =
    begins_mapped 0 runs (2 ^ 52) (before + 1) f h (sym same ∙ none_below page runs (2 ^ 52) before g (omega (arith, at)))

-- no run begins at a page
pub longest_none : (runs : List (Interval ℕ × Rights)) (page : ℕ) → has_run_at runs page ≡ false → IsMeeting runs page None
longest_none runs page none before at h same =
    let n : has_run_at runs (before + 1) ≡ false = subst (λ p. has_run_at runs p ≡ false) (sym at) none in
    let no : true ≡ false = sym h ∙ n in absurd (cc)

-- no run begins at the page after the last one before it
pub none_at : (page : ℕ) (runs : List (Interval ℕ × Rights)) (e : Interval ℕ × Rights) (i : IsLast page 0 runs (2 ^ 52) e) →
    has_run_at i.back page ≡ false → has_run_at runs page ≡ false
none_at page runs e i none =
    ap (λ (es : List (Interval ℕ × Rights)). has_run_at es page) i.whole
    ∙ none_begins i.front i.back e page (none_begins_above 0 i.front e.0.start page i.before (omega (arith, i.starts))) i.starts none

all_with : (at : ℕ) (front : List (Interval ℕ × Rights)) (e : Interval ℕ × Rights) → AllItems (λ e. e.0.start < at) front →
    e.0.start < at → AllItems (λ e. e.0.start < at) (front ++ e ∷ [])
all_with at [] e h k = (k, tt)
all_with at (x ∷ front) e h k = (h.0, all_with at front e h.1 k)

-- the first run from the page on, after the last one before it
pub next_is : (page : ℕ) (runs : List (Interval ℕ × Rights)) (e : Interval ℕ × Rights) (i : IsLast page 0 runs (2 ^ 52) e) →
    first (starts_from nat_cmp page) runs ≡ first (starts_from nat_cmp page) i.back
next_is page runs e i =
    ap (first (starts_from nat_cmp page)) (i.whole ∙ sym (append_assoc i.front (e ∷ []) i.back))
    ∙ past_front page (i.front ++ e ∷ []) i.back (all_with page i.front e (all_before 0 i.front e.0.start page i.before (omega (arith, i.starts))) i.starts)

pub none_next : (page : ℕ) (runs : List (Interval ℕ × Rights)) (e : Interval ℕ × Rights)
    (i : IsLast page 0 runs (2 ^ 52) e) → first (starts_from nat_cmp page) runs ≡ None → has_run_at runs page ≡ false
none_next page runs e i h =
    none_at page runs e i (ap (λ (es : List (Interval ℕ × Rights)). has_run_at es page)
    (none_is page i.back (2 ^ 52) i.behind (sym (next_is page runs e i) ∙ h)))

-- the last run before the page goes on after it
pub none_over : (page : ℕ) (runs : List (Interval ℕ × Rights)) (e : Interval ℕ × Rights)
    (i : IsLast page 0 runs (2 ^ 52) e) → page < e.0.end → has_run_at runs page ≡ false
none_over page runs e i h = none_at page runs e i (none_begins_below e.0.end i.back (2 ^ 52) page i.next h)

-- or ends before it
pub longest_gap : (page : ℕ) (runs : List (Interval ℕ × Rights)) (e : Interval ℕ × Rights) → RunsFollow 0 runs (2 ^ 52) →
    (i : IsLast page 0 runs (2 ^ 52) e) → e.0.end < page → IsMeeting runs page None
longest_gap page runs e f i h before at begins same =
    let whole : runs ≡ (i.front ++ e ∷ []) ++ i.back = i.whole ∙ sym (append_assoc i.front (e ∷ []) i.back) in
    let follow : RunsFollow 0 (i.front ++ e ∷ []) e.0.end = follow_append 0 e.0.start i.front (e ∷ []) e.0.end i.before (omega arith, i.some, omega arith) in
    let gone : rights_in runs before ≡ None = ap (λ (es : List (Interval ℕ × Rights)). rights_in es before) whole
    ∙ (rights_append (i.front ++ e ∷ []) i.back before ∙ or_none (rights_in (i.front ++ e ∷ []) before)
    (rights_in i.back before) (none_above 0 (i.front ++ e ∷ []) e.0.end before follow (omega (arith, h, at)))
    (none_below page i.back (2 ^ 52) before i.behind (omega (arith, at)))) in
    begins_mapped 0 runs (2 ^ 52) (before + 1) f begins (sym same ∙ gone)

-- the next run begins after it
pub none_later : (page : ℕ) (runs : List (Interval ℕ × Rights)) (e next : Interval ℕ × Rights)
    (i : IsLast page 0 runs (2 ^ 52) e) → first (starts_from nat_cmp page) runs ≡ Some next → (next.0.start ≡ page → ⊥) →
    has_run_at runs page ≡ false
none_later page runs e next i h other =
    let head = head_is page i.back (2 ^ 52) next i.behind (sym (next_is page runs e i) ∙ h) in
    let f : RunsFollow page (next ∷ head.0) (2 ^ 52) = subst (λ (es : List (Interval ℕ × Rights)). RunsFollow page es (2 ^ 52)) head.1 i.behind in
    let above : page < next.0.start = omega (arith, f.0, other) in
    let g : RunsFollow next.0.start (next ∷ head.0) (2 ^ 52) = (omega arith, f.1, f.2) in
    none_at page runs e i (ap (λ (es : List (Interval ℕ × Rights)). has_run_at es page) head.1
    ∙ none_begins_below next.0.start (next ∷ head.0) (2 ^ 52) page g above)

-- if both meet at the page
pub record AreBeside (page : ℕ) (runs : List (Interval ℕ × Rights)) (e next : Interval ℕ × Rights) : Type 0 where
  pub rest : List (Interval ℕ × Rights)
  pub front : List (Interval ℕ × Rights)
  pub whole : runs ≡ front ++ e ∷ next ∷ rest
  pub before : RunsFollow 0 front e.0.start
  pub first : e.0.start < page
  pub second : page < next.0.end
  pub behind : RunsFollow next.0.end rest (2 ^ 52)

pub beside : (page : ℕ) (runs : List (Interval ℕ × Rights)) (e next : Interval ℕ × Rights)
    (i : IsLast page 0 runs (2 ^ 52) e) → first (starts_from nat_cmp page) runs ≡ Some next → AreBeside page runs e next
beside page runs e next i h =
    let head = head_is page i.back (2 ^ 52) next i.behind (sym (next_is page runs e i) ∙ h) in
    let f : RunsFollow page (next ∷ head.0) (2 ^ 52) = subst (λ (es : List (Interval ℕ × Rights)). RunsFollow page es (2 ^ 52)) head.1 i.behind in
    record {
      rest = head.0;
      front = i.front;
      whole = i.whole ∙ ap (λ es. i.front ++ e ∷ es) head.1;
      before = i.before;
      first = i.starts;
      second = omega (arith, f.0, f.1);
      behind = f.2;
    }

-- with equal rights they are a meeting
pub meeting : (page : ℕ) (runs : List (Interval ℕ × Rights)) (e next : Interval ℕ × Rights) → AreBeside page runs e next →
    e.0.end ≡ page → next.0.start ≡ page → e.1 ≡ next.1 → AreMeeting runs e.0.start page next.0.end
meeting page runs e next b left right same = record {
  front = b.front;
  back = b.rest;
  rights = e.1;
  whole = b.whole
      ∙ (ap (λ (p : ℕ). b.front ++ (record { start = e.0.start; end = p }, e.1) ∷ next ∷ b.rest) left
      ∙ (ap (λ (p : ℕ). b.front ++ (record { start = e.0.start; end = page }, e.1) ∷ (record { start = p; end = next.0.end }, next.1) ∷ b.rest) right
      ∙ ap (λ (r : Rights). b.front ++ (record { start = e.0.start; end = page }, e.1) ∷ (record { start = page; end = next.0.end }, r) ∷ b.rest) (sym same)));
  before = b.before;
  first = b.first;
  second = b.second;
  behind = b.behind;
}

-- with others they are not
pub longest_beside : (page : ℕ) (runs : List (Interval ℕ × Rights)) (e next : Interval ℕ × Rights) →
    RunsFollow 0 runs (2 ^ 52) → IsLast page 0 runs (2 ^ 52) e → AreBeside page runs e next → e.0.end ≡ page →
    next.0.start ≡ page → (e.1 ≡ next.1 → ⊥) → IsMeeting runs page None
longest_beside page runs e next f i b left right other before at begins same =
    let first_rights : rights_in runs before ≡ Some e.1 = last_holds page runs (2 ^ 52) e before i (omega (arith, at, i.starts)) (omega (arith, at, left)) in
    let whole : runs ≡ (b.front ++ e ∷ []) ++ next ∷ b.rest = b.whole ∙ sym (append_assoc b.front (e ∷ []) (next ∷ b.rest)) in
    let follow : RunsFollow 0 (b.front ++ e ∷ []) e.0.end = follow_append 0 e.0.start b.front (e ∷ []) e.0.end b.before (omega arith, i.some, omega arith) in
    let here : rights_in (next ∷ b.rest) (before + 1) ≡ Some next.1 = (let t =
    holds_inside (before + 1) next (omega (arith, at, right)) (omega (arith, at, b.second)) in rw t refl) in
    let second_rights : rights_in runs (before + 1) ≡ Some next.1 = ap (λ (es : List (Interval ℕ × Rights)). rights_in es (before + 1)) whole
    ∙ (rights_append (b.front ++ e ∷ []) (next ∷ b.rest) (before + 1) ∙ or_first
    (rights_in (b.front ++ e ∷ []) (before + 1)) (rights_in (next ∷ b.rest) (before + 1)) next.1
    (none_above 0 (b.front ++ e ∷ []) e.0.end (before + 1) follow (omega (arith, at, left))) here) in
    let both : Some e.1 ≡ Some next.1 = sym first_rights ∙ (same ∙ second_rights) in
    other (cc)
