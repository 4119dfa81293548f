use Rattle.std.proofs.Common.{◌≡◌, ◌∙◌, ℕ, ◌+◌, ◌*◌, ◌<◌, ◌^◌, ap, sym, set, subst, Some}
use Rattle.paging_core.specs.Entry.{page_entry}
use Rattle.paging_core.specs.PageChanges.{regrant, only}
use Rattle.paging_core.proofs.Areas.{tree_moved, bytes_moved}
use Rattle.paging_core.proofs.EntryAt.{as_last_entry}
use Rattle.paging_core.proofs.Ranges.{same_number}
use Rattle.paging_core.proofs.PageChanged.{regrant_keeps, page_regranted, changed_tree, page_leads, other_walk, entry_written, regranted_bytes}
use Rattle.paging_core.proofs.protecting.protect_at.Goals as goal

pub set_word-requires-clause-seen : goal.set_word-requires-clause-seen
set_word-requires-clause-seen g c =
    subst (λ entry. g.M.PhysicalMemory.allows (set (g.M.PhysicalMemory.words c.args.frames.now)
    (512 * c.args.table + c.args.index) entry)) (sym (c.bits.ensures ∙ c.to_page-entry.ensures.value))
    c.requires.seen

pub returns : goal.returns
returns g c =
    let old = g.M.PhysicalMemory.words c.args.frames.now in
    let new = g.M.PhysicalMemory.words c.set_word.new.self in
    let leads = c.requires.frame in
    let e = as_last_entry (g.M.PhysicalMemory.words c.args.frames.now) c.args.root c.args.page c.args.table c.args.index
    c.args.frame c.requires.place.entry c.requires.frame in
    let r = entry_written (g.M.PhysicalMemory.words c.args.frames.now) (g.M.PhysicalMemory.words c.set_word.new.self) c.args.root c.args.page (regrant c.args.rights)
    c.args.table c.args.index c.args.frame e
    (c.set_word.ensures.words
    ∙ ap (set (g.M.PhysicalMemory.words c.args.frames.now) (512 * c.args.table + c.args.index))
    (c.bits.ensures ∙ (c.to_page-entry.ensures.value ∙ ap (λ f. page_entry f c.args.rights) (sym e.to_frame)))) in
    record {
      granted = record {
        same_area = c.set_word.ensures.area;
        changed = r;
        granted = λ free tree.
            let q : Some r.place ≡ Some leads.place = sym r.was ∙ leads.found in
            let p : r.place ≡ leads.place = cc in
            let P : ℕ → Type 0 = λ f. f < 2 ^ 40 in
            let pages = page_regranted old new c.args.root c.args.page c.args.rights free c.requires.place.rooted r
            (subst P (sym (ap (λ p. p.frame) p ∙ leads.to_frame)) c.to_page-entry.ensures.fits) tree in
            record {
              tree = tree_moved (g.M.PhysicalMemory.area c.args.frames.now) (g.M.PhysicalMemory.area c.set_word.new.self) new c.args.root
                  free c.set_word.ensures.area
                  (changed_tree old new c.args.root (regrant c.args.rights) (only c.args.page) pages (regrant_keeps c.args.rights) free tree);
              pages = pages;
              granted = rw r.was (page_leads old new c.args.root c.args.page (regrant c.args.rights) pages r.place r.was);
              elsewhere = λ other canonical ne. other_walk old new c.args.root c.args.page (regrant c.args.rights) pages other
                  (λ e. ne (same_number other c.args.page canonical (rw c.number-canonical.ensures.value at c.number-canonical.ensures.canonical) e));
              bytes = bytes_moved (g.M.PhysicalMemory.area c.args.frames.now) (g.M.PhysicalMemory.area c.set_word.new.self) old new c.args.root
                  c.set_word.ensures.area (regranted_bytes old new c.args.root c.args.rights (only c.args.page) free pages tree);
            };
      };
    }
