-- Pages that leave all runs, step by step.
use Rattle.std.proofs.Common.{◌≡◌, ◌∙◌, ap, sym, refl, ℕ, ◌+◌, ◌^◌, ◌<◌, ◌≤◌, ◌&&◌, true, false, cond, Option, Some, None, List, arith, ◌⊎◌, inl, inr}
use Rattle.std.proofs.lemmas.Bool.{cases_lt}
use Rattle.std.specs.Prelude.{nat_lt, nat_le}
use Rattle.meminterval.specs.declared.interval.Interval.{Interval}
use Rattle.paging_core.specs.declared.page_table.Rights.{Rights}
use Rattle.address_space.specs.Runs.{RunsFollow, AreLongest, HasRun, rights_in, has_run_at, crosses}
use Rattle.address_space.specs.RunChanges.{IsCut, AreTaken, IsParted, AreFree}
use Rattle.address_space.proofs.Changes.{begins_mapped}
use Rattle.address_space.proofs.OneRun.{crosses_free, run_apart}
use Rattle.address_space.proofs.Cutting.{side_of, then_in, else_out}

-- ---- the loop

pub record AreTakenTo (old new : List (Interval ℕ × Rights)) (first at end : ℕ) : Type 0 where
  pub cut : IsCut old new at end
  pub from : first ≤ at
  pub to : at ≤ end
  pub apart : crosses new at ≡ false

pub none_taken : (es : List (Interval ℕ × Rights)) (first end : ℕ) → RunsFollow 0 es (2 ^ 52) → first ≤ end →
    crosses es end ≡ false → AreTakenTo es es first end end
none_taken es first end f order apart = record {
  cut = record {
    follow = f;
    pages = λ any. sym (else_out end end any None (rights_in es any) (out any (cases_lt any end)));
    begins = λ any b. b;
    apart = λ any a. a;
  };
  from = order;
  to = omega arith;
  apart = apart;
} where
  out : (any : ℕ) → (any < end) ⊎ (end ≤ any) → (any < end) ⊎ (end ≤ any)
  out any h = h

-- pages below those that left, which are free anyway
pub taken_below : (old new : List (Interval ℕ × Rights)) (first at end : ℕ) → IsCut old new at end → first ≤ at → at ≤ end →
    AreFree new first at → IsCut old new first end
taken_below old new first at end c from to free = record {
  follow = c.follow;
  pages = λ any. by_side any (side_of first end any) (cases_lt any at);
  begins = c.begins;
  apart = c.apart;
} where
  by_side : (any : ℕ) → ((first ≤ any) × (any < end)) ⊎ ((any < first) ⊎ (end ≤ any)) → (any < at) ⊎ (at ≤ any) →
      rights_in new any ≡ cond (nat_le first any && nat_lt any end) None (rights_in old any)
  by_side any (inl k) (inl l) = free any k.0 l ∙ sym (then_in first end any None (rights_in old any) k.0 k.1)
  by_side any (inl k) (inr l) = c.pages any ∙ (then_in at end any None (rights_in old any) l k.1 ∙ sym (then_in first end any None (rights_in old any) k.0 k.1))
  by_side any (inr (inl k)) l = c.pages any ∙ (else_out at end any None (rights_in old any) (inl (omega (arith, k, from)))
      ∙ sym (else_out first end any None (rights_in old any) (inl k)))
  by_side any (inr (inr k)) l = c.pages any ∙ (else_out at end any None (rights_in old any) (inr k)
      ∙ sym (else_out first end any None (rights_in old any) (inr k)))

-- one more cut, below those that left
pub cut_on : (old one new : List (Interval ℕ × Rights)) (from stop at end : ℕ) → IsCut old one at end →
    IsCut one new from stop → from < stop → stop ≤ at → at ≤ end → AreFree one stop at → IsCut old new from end
cut_on old one new from stop at end c d some order to free = record {
  follow = d.follow;
  pages = λ any. by_side any (side_of from stop any) (side_of stop at any) (side_of at end any);
  begins = λ any b. c.begins any (d.begins any b);
  apart = λ any a. d.apart any (c.apart any a);
} where
  by_side : (any : ℕ) → ((from ≤ any) × (any < stop)) ⊎ ((any < from) ⊎ (stop ≤ any)) →
      ((stop ≤ any) × (any < at)) ⊎ ((any < stop) ⊎ (at ≤ any)) → ((at ≤ any) × (any < end)) ⊎ ((any < at) ⊎ (end ≤ any)) →
      rights_in new any ≡ cond (nat_le from any && nat_lt any end) None (rights_in old any)
  by_side any (inl k) l m =
      d.pages any ∙ (then_in from stop any None (rights_in one any) k.0 k.1
      ∙ sym (then_in from end any None (rights_in old any) k.0 (omega (arith, k.1, order, to))))
  by_side any (inr (inl k)) l m =
      d.pages any ∙ (else_out from stop any None (rights_in one any) (inl k)
      ∙ (c.pages any ∙ (else_out at end any None (rights_in old any) (inl (omega (arith, k, some, order)))
      ∙ sym (else_out from end any None (rights_in old any) (inl k)))))
  by_side any (inr (inr k)) (inl l) m =
      d.pages any ∙ (else_out from stop any None (rights_in one any) (inr k)
      ∙ (free any l.0 l.1 ∙ sym (then_in from end any None (rights_in old any) (omega (arith, k, some)) (omega (arith, l.1, to)))))
  by_side any (inr (inr k)) (inr (inl l)) m = absurd (omega (arith, k, l))
  by_side any (inr (inr k)) (inr (inr l)) (inl m) =
      d.pages any ∙ (else_out from stop any None (rights_in one any) (inr k)
      ∙ (c.pages any ∙ (then_in at end any None (rights_in old any) m.0 m.1
      ∙ sym (then_in from end any None (rights_in old any) (omega (arith, k, some)) m.1))))
  by_side any (inr (inr k)) (inr (inr l)) (inr (inl m)) = absurd (omega (arith, l, m))
  by_side any (inr (inr k)) (inr (inr l)) (inr (inr m)) =
      d.pages any ∙ (else_out from stop any None (rights_in one any) (inr k)
      ∙ (c.pages any ∙ (else_out at end any None (rights_in old any) (inr m) ∙ sym (else_out from end any None (rights_in old any) (inr m)))))

pub taken_on : (old one new : List (Interval ℕ × Rights)) (first at end start stop from : ℕ) (rights : Rights) →
    AreTakenTo old one first at end → HasRun one start stop rights → start < at → first < stop → AreFree one stop at →
    first ≤ from → start ≤ from → from < stop → IsCut one new from stop → AreTakenTo old new first from end
taken_on old one new first at end start stop from rights t h below over free lo mid hi d =
    let order = run_apart one start stop rights at h t.apart below in
    record {
      cut = cut_on old one new from stop at end t.cut d hi order t.to free;
      from = lo;
      to = (let k = t.to in omega (arith, hi, order, k));
      apart = crosses_free new from (d.pages from ∙ then_in from stop from None (rights_in one from) (omega arith) hi);
    }

-- ---- the runs stay as long as they can be

some_none : {A : Type 0} (o : Option A) (a : A) → o ≡ Some a → o ≡ None → ⊥
some_none {A} o a h k = let no : Some a ≡ None = sym h ∙ k in absurd (cc)

pub taken_longest : (old new : List (Interval ℕ × Rights)) (first end : ℕ) → AreLongest old → RunsFollow 0 new (2 ^ 52) → first < end →
    ((any : ℕ) → rights_in new any ≡ cond (nat_le first any && nat_lt any end) None (rights_in old any)) →
    ((any : ℕ) → has_run_at new any ≡ true → (any ≡ end) ⊎ (has_run_at old any ≡ true)) → AreLongest new
taken_longest old new first end longest f some pages begins page b same =
    go (side_of first end page) (side_of first end (page + 1)) (begins (page + 1) b) where
      mapped : rights_in new (page + 1) ≡ None → ⊥
      mapped n = begins_mapped 0 new (2 ^ 52) (page + 1) f b n

      go : ((first ≤ page) × (page < end)) ⊎ ((page < first) ⊎ (end ≤ page)) →
          ((first ≤ page + 1) × (page + 1 < end)) ⊎ ((page + 1 < first) ⊎ (end ≤ page + 1)) →
          (page + 1 ≡ end) ⊎ (has_run_at old (page + 1) ≡ true) → ⊥
      go (inl k) l o = mapped (sym same ∙ (pages page ∙ then_in first end page None (rights_in old page) k.0 k.1))
      go (inr k) (inl l) o = mapped (pages (page + 1) ∙ then_in first end (page + 1) None (rights_in old (page + 1)) l.0 l.1)
      go (inr (inl k)) (inr l) (inl at) = absurd (omega (arith, k, at, some))
      go (inr (inr k)) (inr l) (inl at) = absurd (omega (arith, k, at))
      go (inr k) (inr l) (inr o) =
          longest page o (sym (pages page ∙ else_out first end page None (rights_in old page) k)
          ∙ (same ∙ (pages (page + 1) ∙ else_out first end (page + 1) None (rights_in old (page + 1)) l)))

pub cut_longest : (old new : List (Interval ℕ × Rights)) (first end : ℕ) → AreLongest old → IsCut old new first end → first < end → AreTaken old new first end
cut_longest old new first end longest c some = record {
  follow = c.follow;
  longest = taken_longest old new first end longest c.follow some c.pages (λ any b. inr (c.begins any b));
  pages = c.pages;
}

pub taken : (old one new : List (Interval ℕ × Rights)) (first end : ℕ) → AreLongest old → IsParted old one end →
    IsCut one new first end → first < end → AreTaken old new first end
taken old one new first end longest p c some =
    let pages : (any : ℕ) → rights_in new any ≡ cond (nat_le first any && nat_lt any end) None (rights_in old any) =
    λ any. c.pages any ∙ ap (λ (o : Option Rights). cond (nat_le first any && nat_lt any end) None o) (p.pages any) in
    record {
      follow = c.follow;
      longest = taken_longest old new first end longest c.follow some pages (λ any b. p.begins any (c.begins any b));
      pages = pages;
    }

pub parted_itself : (es : List (Interval ℕ × Rights)) (page : ℕ) → RunsFollow 0 es (2 ^ 52) → crosses es page ≡ false → IsParted es es page
parted_itself es page f apart = record { follow = f; pages = λ any. refl; begins = λ any b. inr b; apart = apart }
