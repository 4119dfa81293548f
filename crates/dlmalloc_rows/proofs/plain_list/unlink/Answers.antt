use Rattle.std.proofs.Common.{◌<◌, length, sym, rules}
use Rattle.dlmalloc_rows.specs.Plain.{index_of}
use Rattle.dlmalloc_rows.proofs.Beside.{entry_in, beside_less, linked_at, beside_at}
use Rattle.dlmalloc_rows.proofs.plain_list.unlink.Goals as goal

pub unlink-requires : goal.unlink-requires
unlink-requires g c =
    let within : c.args.place < length c.args.list.now.items = search rules in
    record {
      linked = (
        index_of c.args.list.now.items,
        c.requires.beside.linked,
        entry_in c.args.list.now.items c.args.place c.remove-entry.result c.remove-entry.result within
            c.remove-entry.ensures.value,
      );
    }

pub returns : goal.returns
returns g c =
    let within : c.args.place < length c.args.list.now.items = search rules in
    let done = c.unlink.ensures.unlinked.linked (index_of c.args.list.now.items) c.requires.beside.linked
    (entry_in c.args.list.now.items c.args.place c.remove-entry.result c.remove-entry.result within
    c.remove-entry.ensures.value) in
    beside_at _ _ _ _ _ _ c.unlink.ensures.unlinked.regions c.remove-entry.ensures.items
    (beside_less _ _ _ c.args.list.now.items c.args.place c.remove-entry.result c.requires.beside within
    c.remove-entry.ensures.value _ _ (linked_at _ _ _ _ _ (sym c.unlink.ensures.unlinked.regions) done))
