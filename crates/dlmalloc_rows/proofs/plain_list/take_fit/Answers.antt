use Rattle.std.proofs.Common.{◌≡◌, ℕ, ◌<◌, List, length, get_or, sym, ap, ◌∙◌, rules}
use Rattle.heap_memory.specs.FlatSystem.{regions_of, word_of}
use Rattle.dlmalloc_rows.specs.Plain.{index_of}
use Rattle.dlmalloc_rows.proofs.Beside.{entry_in, beside_less, linked_at, beside_at, fit_oldest}
use Rattle.dlmalloc_rows.proofs.plain_list.take_fit.Goals as goal

pub unlink_fit-requires : goal.unlink_fit-requires
unlink_fit-requires g c =
    let items = c.args.list.now.items in
    let entry = c.remove-entry.result in
    let place = c.in-Some-place_of.place in
    let within : place < length items = search rules in
    let at : (get_or items place entry).1 ≡ c.in-Some.chunk = ap (λ (es : List (ℕ × ℕ)). (get_or es place entry).1)
    (sym c.deref.ensures.value) ∙ c.in-Some-place_of.ensures.is entry in
    let fit = c.in-Some.ensures.fit (index_of items) c.requires.linked in
    record {
      linked = (
        index_of items,
        c.requires.linked,
        entry_in items place entry entry within c.remove-entry.ensures.value,
        fit_oldest (regions_of c.args.memory.now) (word_of c.args.memory.now) c.args.bins.now items place entry c.requires
            within c.remove-entry.ensures.value c.args.size c.in-Some.chunk
            (ap (λ (e : ℕ × ℕ). e.1) c.remove-entry.ensures.value ∙ at) fit,
      );
    }

pub returns : goal.returns
returns g c =
    let items = c.args.list.now.items in
    let entry = c.remove-entry.result in
    let place = c.in-Some-place_of.place in
    let within : place < length items = search rules in
    let done = c.unlink_fit.ensures.unlinked.linked (index_of items) c.requires.linked (entry_in items place entry entry within c.remove-entry.ensures.value) in
    beside_at _ _ _ _ _ _ c.unlink_fit.ensures.unlinked.regions c.remove-entry.ensures.items
    (beside_less _ _ _ items place entry c.requires within c.remove-entry.ensures.value _ _ (linked_at _ _ _ _ _ (sym c.unlink_fit.ensures.unlinked.regions) done))
