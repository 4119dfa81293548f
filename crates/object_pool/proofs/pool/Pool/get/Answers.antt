use Rattle.std.proofs.Common.{◌≡◌, ℕ, List, ◌++◌, length, take, drop, sym, subst, ap, ◌∙◌, Some, arith, append-nil, drop_of_length-le, take_all}
use Rattle.object_pool.specs.Pool.{StandsForLists}
use Rattle.object_pool.proofs.Standing.{on_err, is_some_by, stands_object, stands_nothing}
use Rattle.object_pool.proofs.pool.Pool.get.Goals as goal

pub returns-then-not-has-clause-ok : goal.returns-then-not-has-clause-ok
returns-then-not-has-clause-ok g c = λ lists stands.
    let p = c.self.inside in
    sym (stands_nothing g.A.Links.word p.slabs.heap p.slabs.size p.slabs.places.items p.slots.slots.items
    p.slots.freed.items lists (subst (λ pool. StandsForLists g.A.Links.word pool lists) (sym c.self.view_is) stands)
    c.args.key
    (λ is. absurd (let yes = c.has.ensures.1 is in let no = c.if-not-has.true in cc)))

pub returns-in_err-bytes-clause-err : goal.returns-in_err-bytes-clause-err
returns-in_err-bytes-clause-err g c = λ lists stands.
    let p = c.self.inside in
    on_err c.from_residual.result _ (is_some_by _ _
    (stands_object g.A.Links.word p.slabs.heap p.slabs.size p.slabs.places.items p.slots.slots.items p.slots.freed.items
    lists (subst (λ pool. StandsForLists g.A.Links.word pool lists) (sym c.self.view_is) stands) c.args.key
    (c.has.ensures.0 c.if-not-has.false)))

-- a vector whose slice was written
refilled : (olds news : List ℕ) (n : ℕ) → n ≡ length olds → length news ≡ length olds → take n (news ++ drop (length news) olds) ≡ news
refilled olds news n whole same =
    ap (λ (zs : List ℕ). take n (news ++ zs)) (drop_of_length-le olds (omega (arith, same)))
    ∙ (ap (λ (zs : List ℕ). take n zs) (append-nil news) ∙ take_all n news (omega (arith, whole, same)))

pub returns-clause-ok : goal.returns-clause-ok
returns-clause-ok g c = λ lists stands.
    let p = c.self.inside in
    let vec = c.in_ok-bytes.bytes in
    let whole : vec.len ≡ length vec.items = vec.ok.0 in
    let same : length c.read.new.bytes ≡ length vec.items = c.read.auto.bytes ∙ ap length c.as_mut_slice.ensures.value in
    ap Some (c.from_vec.ensures ∙ (refilled vec.items c.read.new.bytes vec.len whole same ∙ c.read.ensures))
    ∙ sym (stands_object g.A.Links.word p.slabs.heap p.slabs.size p.slabs.places.items p.slots.slots.items
    p.slots.freed.items lists (subst (λ pool. StandsForLists g.A.Links.word pool lists) (sym c.self.view_is) stands)
    c.args.key
    (c.has.ensures.0 c.if-not-has.false))
