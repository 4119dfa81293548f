-- Runs of pages that are copied, run by run.
use Rattle.std.proofs.Common.{◌≡◌, ◌∙◌, sym, ℕ, ◌+◌, ◌-◌, ◌^◌, ◌<◌, ◌≤◌, ◌&&◌, cond, Option, Some, None, List, arith, ◌⊎◌, inl, inr}
use Rattle.std.specs.Prelude.{nat_lt, nat_le, IsSome}
use Rattle.meminterval.specs.declared.interval.Interval.{Interval}
use Rattle.paging_core.specs.declared.page_table.Rights.{Rights}
use Rattle.address_space.specs.Runs.{RunsFollow, AreLongest, rights_in, is_among}
use Rattle.address_space.specs.Joining.{IsRunAdded}
use Rattle.address_space.specs.RunChanges.{IsCut, AreRightsCopied, AreInRuns, AreFree}
use Rattle.address_space.proofs.Changes.{begins_mapped}
use Rattle.address_space.proofs.Cutting.{side_of, then_in, else_out}
use Rattle.address_space.proofs.Unique.{runs_same}

pub record AreCopiedTo (old new : List (Interval ℕ × Rights)) (from pages to done : ℕ) : Type 0 where
  pub copied : AreRightsCopied old new from done to
  pub within : done ≤ pages

pub none_copied : (es : List (Interval ℕ × Rights)) (from pages to : ℕ) → RunsFollow 0 es (2 ^ 52) → AreLongest es → AreCopiedTo es es from pages to 0
none_copied es from pages to f longest = record {
  copied = record {
    follow = f;
    longest = longest;
    pages_are = λ any. sym
        (else_out to (to + 0) any (rights_in es (any - to + from)) (rights_in es any) (out any (side_of to (to + 0) any)));
  };
  within = omega arith;
} where
  out : (any : ℕ) → ((to ≤ any) × (any < to + 0)) ⊎ ((any < to) ⊎ (to + 0 ≤ any)) → (any < to) ⊎ (to + 0 ≤ any)
  out any (inl h) = absurd (omega (arith, h.0, h.1))
  out any (inr h) = h

none_some : {A : Type 0} (o : Option A) → o ≡ None → IsSome o → ⊥
none_some {A} None h some = absurd (cc)
none_some {A} (Some a) h some = let no : Some a ≡ None = h in absurd (cc)

-- the source is as it was
pub source_kept : (old new : List (Interval ℕ × Rights)) (from pages to done any : ℕ) → AreInRuns old from (from + pages) →
    AreFree old to (to + pages) → AreCopiedTo old new from pages to done → from ≤ any → any < from + pages →
    rights_in new any ≡ rights_in old any
source_kept old new from pages to done any held free c h k = c.copied.pages_are any ∙ go (side_of to (to + done) any) where
  go : ((to ≤ any) × (any < to + done)) ⊎ ((any < to) ⊎ (to + done ≤ any)) →
      cond (is_among to done any) (rights_in old (any - to + from)) (rights_in old any) ≡ rights_in old any
  go (inl l) = absurd (none_some (rights_in old any) (free any l.0 (let w = c.within in omega (arith, l.1, w))) (held any h k))
  go (inr l) = else_out to (to + done) any (rights_in old (any - to + from)) (rights_in old any) l

-- and so is what is left of the target
pub target_free : (old new : List (Interval ℕ × Rights)) (from pages to done any : ℕ) → AreFree old to (to + pages) →
    AreCopiedTo old new from pages to done → to + done ≤ any → any < to + pages → rights_in new any ≡ None
target_free old new from pages to done any free c h k =
    c.copied.pages_are any ∙ (else_out to (to + done) any (rights_in old (any - to + from)) (rights_in old any) (inr h) ∙ free any (omega (arith, h)) k)

pub copied_on : (old one new : List (Interval ℕ × Rights)) (from pages to done count first end : ℕ) (rights : Rights) →
    AreInRuns old from (from + pages) → AreFree old to (to + pages) → AreCopiedTo old one from pages to done →
    done + count ≤ pages →
    ((any : ℕ) → from + done ≤ any → any < from + done + count → rights_in one any ≡ Some rights) → first ≡ to + done →
    end ≡ to + (done + count) → IsRunAdded one new first end rights → AreCopiedTo old new from pages to (done + count)
copied_on old one new from pages to done count first end rights held free c few run first_is end_is a = record {
  copied = record {
    follow = a.follow;
    longest = a.longest;
    pages_are = λ any. a.pages any ∙ go any (side_of first end any) (side_of to (to + done) any);
  };
  within = few;
} where
  go : (any : ℕ) → ((first ≤ any) × (any < end)) ⊎ ((any < first) ⊎ (end ≤ any)) → ((to ≤ any) × (any < to + done)) ⊎ ((any < to) ⊎ (to + done ≤ any)) →
      cond (nat_le first any && nat_lt any end) (Some rights) (rights_in one any) ≡ cond (is_among to (done + count) any)
      (rights_in old (any - to + from)) (rights_in old any)
  go any (inl h) k =
      let low : from + done ≤ any - to + from = omega (arith, h.0, first_is) in
      let high : any - to + from < from + done + count = omega (arith, h.0, h.1, first_is, end_is) in
      then_in first end any (Some rights) (rights_in one any) h.0 h.1
      ∙ (sym (run (any - to + from) low high)
      ∙ (source_kept old one from pages to done (any - to + from) held free c (omega (arith, low)) (omega (arith, high, few))
      ∙ sym (then_in to (to + (done + count)) any (rights_in old (any - to + from)) (rights_in old any)
      (omega (arith, h.0, first_is)) (omega (arith, h.1, end_is)))))
  go any (inr h) (inl k) =
      else_out first end any (Some rights) (rights_in one any) h
      ∙ (c.copied.pages_are any
      ∙ (then_in to (to + done) any (rights_in old (any - to + from)) (rights_in old any) k.0 k.1
      ∙ sym (then_in to (to + (done + count)) any (rights_in old (any - to + from)) (rights_in old any) k.0 (omega (arith, k.1)))))
  go any (inr h) (inr k) =
      else_out first end any (Some rights) (rights_in one any) h
      ∙ (c.copied.pages_are any
      ∙ (else_out to (to + done) any (rights_in old (any - to + from)) (rights_in old any) k
      ∙ sym (else_out to (to + (done + count)) any (rights_in old (any - to + from)) (rights_in old any) (out h k)))) where
        out : (any < first) ⊎ (end ≤ any) → (any < to) ⊎ (to + done ≤ any) → (any < to) ⊎ (to + (done + count) ≤ any)
        out h (inl k) = inl k
        out (inl h) (inr k) = absurd (omega (arith, h, k, first_is))
        out (inr h) (inr k) = inr (omega (arith, h, end_is))

-- pages that were copied, and left again
pub copied_undone : (old one new : List (Interval ℕ × Rights)) (from pages to done : ℕ) → RunsFollow 0 old (2 ^ 52) →
    AreLongest old → AreFree old to (to + pages) → AreCopiedTo old one from pages to done → IsCut one new to (to + done) →
    new ≡ old
copied_undone old one new from pages to done f longest free c d = runs_same 0 new old (2 ^ 52) d.follow is_longest f longest same where
  same : (any : ℕ) → rights_in new any ≡ rights_in old any
  same any = d.pages any ∙ go (side_of to (to + done) any) where
    go : ((to ≤ any) × (any < to + done)) ⊎ ((any < to) ⊎ (to + done ≤ any)) →
        cond (nat_le to any && nat_lt any (to + done)) None (rights_in one any) ≡ rights_in old any
    go (inl h) = then_in to (to + done) any None (rights_in one any) h.0 h.1 ∙ sym (free any h.0 (let w = c.within in omega (arith, h.1, w)))
    go (inr h) = else_out to (to + done) any None (rights_in one any) h
        ∙ (c.copied.pages_are any ∙ else_out to (to + done) any (rights_in old (any - to + from)) (rights_in old any) h)

  is_longest : AreLongest new
  is_longest page b is = go (side_of to (to + done) page) (side_of to (to + done) (page + 1)) where
    mapped : rights_in new (page + 1) ≡ None → ⊥
    mapped n = begins_mapped 0 new (2 ^ 52) (page + 1) d.follow b n

    go : ((to ≤ page) × (page < to + done)) ⊎ ((page < to) ⊎ (to + done ≤ page)) →
        ((to ≤ page + 1) × (page + 1 < to + done)) ⊎ ((page + 1 < to) ⊎ (to + done ≤ page + 1)) → ⊥
    go (inl k) l = mapped (sym is ∙ (d.pages page ∙ then_in to (to + done) page None (rights_in one page) k.0 k.1))
    go (inr k) (inl l) = mapped (d.pages (page + 1) ∙ then_in to (to + done) (page + 1) None (rights_in one (page + 1)) l.0 l.1)
    go (inr k) (inr l) =
        c.copied.longest page (d.begins (page + 1) b)
        (sym (d.pages page ∙ else_out to (to + done) page None (rights_in one page) k)
        ∙ (is ∙ (d.pages (page + 1) ∙ else_out to (to + done) (page + 1) None (rights_in one (page + 1)) l)))
