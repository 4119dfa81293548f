-- The areas, listed one after the other.
use Rattle.std.proofs.Common.{◌≡◌, ◌∙◌, ap, sym, refl, ℕ, ◌<◌, ◌≤◌, List, [], ◌∷◌, ◌++◌, Some, None, subst, arith, append_assoc, append-nil}
use Rattle.std.specs.Ordering.{nat_cmp}
use Rattle.meminterval.specs.declared.interval.Interval.{Interval}
use Rattle.meminterval.specs.Entries.{AllItems, first}
use Rattle.meminterval.specs.Interval.{starts_from}
use Rattle.paging_core.specs.declared.page_table.Rights.{Rights}
use Rattle.address_space.specs.declared.area.Area.{Area}
use Rattle.address_space.specs.Runs.{RunsFollow, area_of, areas_of}
use Rattle.address_space.proofs.Splits.{past_front, head_is, none_is, follow_to}

-- the runs before a page were listed
pub record Listed (at : ℕ) (es : List (Interval ℕ × Rights)) (items : List Area) (to : ℕ) : Type 0 where
  pub front : List (Interval ℕ × Rights)
  pub back : List (Interval ℕ × Rights)
  pub whole : es ≡ front ++ back
  pub before : AllItems (λ e. e.0.start < at) front
  pub follow : RunsFollow at back to
  pub items_are : items ≡ areas_of front

all_later : (at later : ℕ) (front : List (Interval ℕ × Rights)) (e : Interval ℕ × Rights) → at ≤ later → e.0.start < later →
    AllItems (λ e. e.0.start < at) front → AllItems (λ e. e.0.start < later) (front ++ e ∷ [])
all_later at later [] e h k a = (k, tt)
all_later at later (x ∷ front) e h k a = (omega (arith, h, a.0), all_later at later front e h k a.1)

areas_more : (front : List (Interval ℕ × Rights)) (e : Interval ℕ × Rights) → areas_of (front ++ e ∷ []) ≡ areas_of front ++ area_of e ∷ []
areas_more [] e = refl
areas_more (x ∷ front) e = ap (λ rs. area_of x ∷ rs) (areas_more front e)

pub listed_none : (es : List (Interval ℕ × Rights)) (items : List Area) (to : ℕ) → RunsFollow 0 es to → items ≡ [] → Listed 0 es items to
listed_none es items to f h = record { front = []; back = es; whole = refl; before = tt; follow = f; items_are = h }

pub listed_all : (at : ℕ) (es : List (Interval ℕ × Rights)) (items : List Area) (to : ℕ) → Listed at es items to →
    first (starts_from nat_cmp at) es ≡ None → items ≡ areas_of es
listed_all at es items to l h =
    let gone = none_is at l.back to l.follow (sym (past_front at l.front l.back l.before) ∙ (sym (ap (first (starts_from nat_cmp at)) l.whole) ∙ h)) in
    l.items_are ∙ ap areas_of (sym (append-nil l.front) ∙ (ap (λ b. l.front ++ b) (sym gone) ∙ sym l.whole))

pub record IsListedOn (at : ℕ) (es : List (Interval ℕ × Rights)) (items : List Area) (to : ℕ) (next : Interval ℕ × Rights) : Type 0 where
  pub more : Listed next.0.end es (items ++ area_of next ∷ []) to
  pub starts : at ≤ next.0.start
  pub some : next.0.start < next.0.end
  pub within : next.0.end ≤ to

pub listed_on : (at : ℕ) (es : List (Interval ℕ × Rights)) (items : List Area) (to : ℕ) (next : Interval ℕ × Rights) →
    Listed at es items to → first (starts_from nat_cmp at) es ≡ Some next → IsListedOn at es items to next
listed_on at es items to next l h =
    let head = head_is at l.back to next l.follow (sym (past_front at l.front l.back l.before) ∙ (sym (ap (first (starts_from nat_cmp at)) l.whole) ∙ h)) in
    let rest = head.0 in
    let f : RunsFollow at (next ∷ rest) to = subst (λ (b : List (Interval ℕ × Rights)). RunsFollow at b to) head.1 l.follow in
    let whole : es ≡ l.front ++ next ∷ rest = l.whole ∙ ap (λ b. l.front ++ b) head.1 in
    record {
      more = record {
        front = l.front ++ next ∷ [];
        back = rest;
        whole = whole ∙ sym (append_assoc l.front (next ∷ []) rest);
        before = all_later at next.0.end l.front next (omega (arith, f.0, f.1)) f.1 l.before;
        follow = f.2;
        items_are = ap (λ rs. rs ++ area_of next ∷ []) l.items_are ∙ sym (areas_more l.front next);
      };
      starts = f.0;
      some = f.1;
      within = follow_to next.0.end rest to f.2;
    }
