use Rattle.std.proofs.Common.{◌≡◌, ◌∙◌, ℕ, map, sym, ap, subst}
use Rattle.std.specs.Ordering.{nat_cmp}
use Rattle.meminterval.specs.declared.interval.Interval.{Interval}
use Rattle.meminterval.specs.Tree.{entries}
use Rattle.meminterval.specs.Entries.{AllItems, without_key}
use Rattle.meminterval.specs.Interval.{by_ends, with_end, HasOwnStart}
use Rattle.address_space.proofs.Joining.{without_second, own_first, with_first, joined}
use Rattle.address_space.proofs.runs.join.Goals as goal

ends_are : (i : Interval ℕ) (start end : ℕ) → i.start ≡ start → i.end ≡ end → i ≡ record { start = start; end = end }
ends_are i start end s e = ap (λ (p : ℕ). record { start = p; end = i.end }) s ∙ ap (λ (p : ℕ). record { start = start; end = p }) e

pub shorten-requires-clause-alone : goal.shorten-requires-clause-alone
shorten-requires-clause-alone c =
    let es = entries c.args.runs.now in
    let page = c.args.page in
    let rest = c.delete.ensures ∙ (ap (λ (i : Interval ℕ). without_key (by_ends nat_cmp) i es)
    (ends_are c.new.result page c.in-Some.last c.new.ensures.start c.new.ensures.end)
    ∙ without_second es c.in-Some.start page c.in-Some.last c.in-Some.ensures) in
    subst (λ (i : Interval ℕ). AllItems (HasOwnStart nat_cmp i) (entries c.delete.new.self))
    (sym (ends_are c.new-2.result c.in-Some.start page c.new-2.ensures.start c.new-2.ensures.end))
    (own_first es (entries c.delete.new.self) c.in-Some.start page c.in-Some.last c.in-Some.ensures rest)

pub returns : goal.returns
returns c =
    let es = entries c.args.runs.now in
    let page = c.args.page in
    let rest = c.delete.ensures ∙ (ap (λ (i : Interval ℕ). without_key (by_ends nat_cmp) i es)
    (ends_are c.new.result page c.in-Some.last c.new.ensures.start c.new.ensures.end)
    ∙ without_second es c.in-Some.start page c.in-Some.last c.in-Some.ensures) in
    joined es (entries c.shorten.new.self) c.in-Some.start page c.in-Some.last c.in-Some.ensures
    (c.shorten.ensures.pairs ∙ (ap (λ (i : Interval ℕ). map (with_end nat_cmp i c.in-Some.last) (entries c.delete.new.self))
    (ends_are c.new-2.result c.in-Some.start page c.new-2.ensures.start c.new-2.ensures.end)
    ∙ with_first es (entries c.delete.new.self) c.in-Some.start page c.in-Some.last c.in-Some.ensures rest))
