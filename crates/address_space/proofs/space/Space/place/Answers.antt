use Rattle.std.proofs.Common.{◌≡◌, ◌∙◌, ℕ, ◌<◌, ◌*◌, ◌/◌, sym, subst, ap, arith}
use Rattle.address_space.specs.PageMap.{HasNoPagePlace}
use Rattle.address_space.specs.Space.{page_map_of}
use Rattle.address_space.specs.Seen.{tables_of}
use Rattle.address_space.specs.Mapping.{ArePagesMapped}
use Rattle.address_space.proofs.space.Space.place.Goals as goal

pub returns-in_default-lowest_place-clause-causes : goal.returns-in_default-lowest_place-clause-causes
returns-in_default-lowest_place-clause-causes c =
    let zero = c.if-pages-eq0.false in
    let some : 0 < c.args.pages = omega (arith, zero) in (
      c.in-Some.ensures.good,
      some,
      subst (λ (n : ℕ). HasNoPagePlace (page_map_of (tables_of c.args.self.now)).rights n (c.args.high / 4096) c.args.pages)
          c.in-Some.ensures.first c.in_default-lowest_place.ensures.none,
    )

whole : (n : ℕ) → n * 4096 / 4096 ≡ n
whole n = omega arith

pub returns-in-Ok-clause-ok : goal.returns-in-Ok-clause-ok
returns-in-Ok-clause-ok c =
    let at : c.as_u64.result / 4096 ≡ c.in-Some-lowest_place.first = ap (λ (a : ℕ). a / 4096)
    (c.as_u64.ensures.value ∙ c.start_address.ensures) ∙ whole c.in-Some-lowest_place.first in
    subst (λ (n : ℕ). ArePagesMapped (tables_of c.args.self.now) (tables_of c.map_clear.new.self) n c.args.pages c.args.rights) (sym at) c.in-Ok.ensures.ok
