use Rattle.std.proofs.Common.{◌≡◌, ◌∙◌, ℕ, ◌*◌, ◌/◌, sym, subst, ap, arith}
use Rattle.meminterval.specs.Tree.{entries}
use Rattle.address_space.specs.Runs.{rights_in}
use Rattle.address_space.specs.PageMap.{IsPagePlace, HasNoPagePlace}
use Rattle.address_space.proofs.space.Space.lowest_place.Goals as goal

pub returns-in_default-clause-none : goal.returns-in_default-clause-none
returns-in_default-clause-none c =
    subst (λ (n : ℕ). HasNoPagePlace (rights_in (entries c.args.self.now.runs)) n c.args.end c.args.pages) c.number.ensures.value c.in_default.ensures.none

whole : (n : ℕ) → n * 4096 / 4096 ≡ n
whole n = omega arith

pub returns-clause-place : goal.returns-clause-place
returns-clause-place c =
    let rights = rights_in (entries c.args.self.now.runs) in
    let at : c.containing_address.result ≡ c.in-Some.number = c.containing_address.ensures
    ∙ (ap (λ (a : ℕ). a / 4096) c.new.ensures ∙ whole c.in-Some.number) in
    subst (λ (n : ℕ). IsPagePlace rights c.args.base c.args.end c.args.pages n) (sym at)
    (subst (λ (n : ℕ). IsPagePlace rights n c.args.end c.args.pages c.in-Some.number) c.number.ensures.value c.in-Some.ensures.place)
