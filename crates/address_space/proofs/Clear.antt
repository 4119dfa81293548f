-- Runs around pages that none of them holds.
use Rattle.std.proofs.Common.{◌≡◌, ◌∙◌, ap, sym, refl, ℕ, ◌<◌, ◌≤◌, Option, Some, None, List, [], ◌∷◌, ◌++◌, arith, ◌⊎◌, inl, inr, append_assoc}
use Rattle.std.proofs.lemmas.Bool.{cases_lt}
use Rattle.std.specs.Ordering.{nat_cmp}
use Rattle.meminterval.specs.declared.interval.Interval.{Interval}
use Rattle.meminterval.specs.Entries.{last, or_else}
use Rattle.meminterval.specs.Interval.{starts_below}
use Rattle.paging_core.specs.declared.page_table.Rights.{Rights}
use Rattle.address_space.specs.Runs.{RunsFollow, rights_in}
use Rattle.address_space.proofs.Splits.{follow_append, IsLast, none_last, last_is}
use Rattle.address_space.proofs.Changes.{rights_append, none_above, none_below, holds_inside}

abbrev pub AreClear : List (Interval ℕ × Rights) → ℕ → ℕ → Type 0
AreClear es first end = (page : ℕ) → first ≤ page → page < end → rights_in es page ≡ None

pub record IsSplit (first end : ℕ) (es : List (Interval ℕ × Rights)) (to : ℕ) : Type 0 where
  pub front : List (Interval ℕ × Rights)
  pub back : List (Interval ℕ × Rights)
  pub whole : es ≡ front ++ back
  pub before : RunsFollow 0 front first
  pub behind : RunsFollow end back to

pub or_none : {A : Type 0} (a b : Option A) → a ≡ None → b ≡ None → or_else a b ≡ None
or_none {A} a b h k = rw h k

pub or_first : {A : Type 0} (a b : Option A) (x : A) → a ≡ None → b ≡ Some x → or_else a b ≡ Some x
or_first {A} a b x h k = rw h k

pub split_clear : (first end : ℕ) (es : List (Interval ℕ × Rights)) (to : ℕ) → IsSplit first end es to → AreClear es first end
split_clear first end es to s page h k =
    ap (λ (x : List (Interval ℕ × Rights)). rights_in x page) s.whole
    ∙ (rights_append s.front s.back page ∙ or_none (rights_in s.front page) (rights_in s.back page)
    (none_above 0 s.front first page s.before h) (none_below end s.back to page s.behind k))

-- if the last run that begins before the end reaches no further than the first page
pub split_last : (first end : ℕ) (es : List (Interval ℕ × Rights)) (to : ℕ) (e : Interval ℕ × Rights) →
    IsLast end 0 es to e → e.0.end ≤ first → IsSplit first end es to
split_last first end es to e i h = record {
  front = i.front ++ e ∷ [];
  back = i.back;
  whole = i.whole ∙ sym (append_assoc i.front (e ∷ []) i.back);
  before = follow_append 0 e.0.start i.front (e ∷ []) first i.before (omega arith, i.some, h);
  behind = i.behind;
}

pub split_none : (first end : ℕ) (es : List (Interval ℕ × Rights)) (to : ℕ) → RunsFollow end es to → IsSplit first end es to
split_none first end es to f = record { front = []; back = es; whole = refl; before = omega arith; behind = f }

-- a page of the last run
pub last_holds : (at : ℕ) (es : List (Interval ℕ × Rights)) (to : ℕ) (e : Interval ℕ × Rights) (page : ℕ) →
    IsLast at 0 es to e → e.0.start ≤ page → page < e.0.end → rights_in es page ≡ Some e.1
last_holds at es to e page i h k =
    let here : rights_in (e ∷ i.back) page ≡ Some e.1 = (let t = holds_inside page e h k in rw t refl) in
    ap (λ (x : List (Interval ℕ × Rights)). rights_in x page) i.whole
    ∙ (rights_append i.front (e ∷ i.back) page ∙ or_first (rights_in i.front page) (rights_in (e ∷ i.back) page) e.1
    (none_above 0 i.front e.0.start page i.before h) here)

-- clear pages leave the last run before them
pub clear_last : (first end : ℕ) (es : List (Interval ℕ × Rights)) (to : ℕ) (e : Interval ℕ × Rights) → first < end →
    IsLast end 0 es to e → AreClear es first end → e.0.end ≤ first
clear_last first end es to e some i clear = go (cases_lt first e.0.end) (cases_lt first e.0.start) where
  at : (page : ℕ) → first ≤ page → page < end → e.0.start ≤ page → page < e.0.end → ⊥
  at page a b c d = let no : None ≡ Some e.1 = sym (clear page a b) ∙ last_holds end es to e page i c d in absurd (cc)

  go : (first < e.0.end) ⊎ (e.0.end ≤ first) → (first < e.0.start) ⊎ (e.0.start ≤ first) → e.0.end ≤ first
  go (inr h) side = h
  go (inl h) (inl k) = absurd (at e.0.start (omega (arith, k)) i.starts (omega arith) i.some)
  go (inl h) (inr k) = absurd (at first (omega arith) some k h)

pub clear_split : (first end : ℕ) (es : List (Interval ℕ × Rights)) (to : ℕ) → first < end → end ≤ to → RunsFollow 0 es to →
    AreClear es first end → IsSplit first end es to
clear_split first end es to some within f clear = go (last (starts_below nat_cmp end) es) refl where
  go : (o : Option (Interval ℕ × Rights)) → last (starts_below nat_cmp end) es ≡ o → IsSplit first end es to
  go None is = split_none first end es to (none_last end 0 es to f within is)
  go (Some e) is = let i = last_is end 0 es to e f within is in split_last first end es to e i (clear_last first end es to e some i clear)
