use Rattle.std.proofs.Common.{◌≡◌, ℕ, true, List, Vec, Global, sym, ap, ◌∙◌, rules}
use Rattle.heap_memory.specs.declared.grant.Grant.{Grant}
use Rattle.std.specs.List.{list_all}
use Rattle.dlmalloc_rows.specs.Plain.{index_of, is_apart, HasPlace}
use Rattle.dlmalloc_rows.proofs.Beside.{still_linked, is_fresh, beside_more, linked_at, fresh_at, beside_at}
use Rattle.dlmalloc_rows.proofs.plain_list.insert.Goals as goal

pub insert-requires : goal.insert-requires
insert-requires g c =
    let kept = ap (λ (regions : Vec Grant Global). regions.items) c.store.ensures.regions in
    let place : HasPlace c.args.size c.args.at = c.if-not-has_place.ensures (search rules) in
    let free : list_all (λ entry. is_apart c.args.size c.args.at entry) c.args.list.now.items ≡ true =
    ap (λ (es : List (ℕ × ℕ)). list_all (λ entry. is_apart c.args.size c.args.at entry) es) (sym c.deref.ensures.value)
    ∙ sym c.if-not-is_free.ensures in
    record {
      linked = (
        index_of c.args.list.now.items,
        linked_at _ _ _ _ _ kept (still_linked _ _ _ _ _ _ _ c.requires place free c.store.ensures.stored),
        fresh_at _ _ _ _ _ _ kept (is_fresh _ _ _ _ _ _ _ c.requires place free c.store.ensures.stored),
      );
    }

pub returns : goal.returns
returns g c =
    let kept = ap (λ (regions : Vec Grant Global). regions.items) c.store.ensures.regions in
    let place : HasPlace c.args.size c.args.at = c.if-not-has_place.ensures (search rules) in
    let free : list_all (λ entry. is_apart c.args.size c.args.at entry) c.args.list.now.items ≡ true =
    ap (λ (es : List (ℕ × ℕ)). list_all (λ entry. is_apart c.args.size c.args.at entry) es) (sym c.deref.ensures.value)
    ∙ sym c.if-not-is_free.ensures in
    let same = c.insert.ensures.inserted.regions ∙ kept in
    let done = c.insert.ensures.inserted.linked (index_of c.args.list.now.items)
    (linked_at _ _ _ _ _ kept (still_linked _ _ _ _ _ _ _ c.requires place free c.store.ensures.stored))
    (fresh_at _ _ _ _ _ _ kept (is_fresh _ _ _ _ _ _ _ c.requires place free c.store.ensures.stored)) in
    beside_at _ _ _ _ _ _ same c.in_ok-push.ensures.items (beside_more _ _ _ _ _ _ _ c.requires place free
    c.store.ensures.stored _ _ (linked_at _ _ _ _ _ (sym same) done))
