use Rattle.std.proofs.Common.{◌≡◌, Bool, List, Some, ap, sym, ◌∙◌, ◌+◌, ◌*◌, set, arith, length-set, subst}
use Rattle.paging_core.specs.Entry.{page_entry}
use Rattle.paging_core.specs.Memory.{frame_count}
use Rattle.paging_core.specs.Prefix.{prefix_of}
use Rattle.paging_core.specs.Tree.{IsTreeIn}
use Rattle.paging_core.specs.Walk.{reach, top}
use Rattle.paging_core.proofs.Areas.{unmet_at, tree_moved, known_moved, free_stays}
use Rattle.paging_core.proofs.EntryAt.{none_missing, prepared_all}
use Rattle.paging_core.proofs.LastEntry.{mapped_tree, mapped_page}
use Rattle.paging_core.proofs.PageMissing.{page_missing}
use Rattle.paging_core.proofs.Ranges.{same_number}
use Rattle.paging_core.proofs.mapping.map_at.Given.{Over}
use Rattle.paging_core.proofs.mapping.map_at.Goals as goal

pub returns-clause-words : goal.returns-clause-words
returns-clause-words g c =
    c.set_word.ensures.words
    ∙ ap (set (g.M.PhysicalMemory.words c.args.frames.now) (512 * c.args.table + c.args.index)) (c.bits.ensures ∙ c.to_page-entry.ensures.value)

pub returns-clause-known : goal.returns-clause-known
returns-clause-known g c = λ free known.
    let s = length-set (g.M.PhysicalMemory.words c.args.frames.now) (512 * c.args.table + c.args.index) (page_entry c.args.frame c.args.rights) in
    let e : frame_count (g.M.PhysicalMemory.words c.set_word.new.self) ≡ frame_count (g.M.PhysicalMemory.words c.args.frames.now) =
    ap frame_count (returns-clause-words g c) ∙ (let n = s in omega arith) in
    known_moved (g.M.PhysicalMemory.area c.args.frames.now) (g.M.PhysicalMemory.area c.set_word.new.self) free
    (frame_count (g.M.PhysicalMemory.words c.set_word.new.self)) c.set_word.ensures.area
    (free_stays (g.M.PhysicalMemory.area c.args.frames.now) free free (frame_count
    (g.M.PhysicalMemory.words c.args.frames.now)) (frame_count (g.M.PhysicalMemory.words c.set_word.new.self)) known e
    (λ f x. x))

-- the table, as a tree meets it
met : (g : Over) (c : goal.After-set_word g) (free : List Bool) → IsTreeIn (g.M.PhysicalMemory.area c.args.frames.now)
    (g.M.PhysicalMemory.words c.args.frames.now) c.args.root free →
    reach (g.M.PhysicalMemory.words c.args.frames.now) c.args.root 3 (prefix_of c.args.page 3) ≡ Some (top c.args.table)
met g c free tree =
    let e = c.requires.place.entry in
    let full : e.met ≡ top e.met.frame = tree.rights 3 (prefix_of c.args.page 3) e.met (omega arith) e.reached in
    e.reached ∙ ap Some (full ∙ ap top e.in_table)

pub returns-clause-mapped : goal.returns-clause-mapped
returns-clause-mapped g c = λ free tree used.
    let old = g.M.PhysicalMemory.words c.args.frames.now in
    let new = g.M.PhysicalMemory.words c.set_word.new.self in
    let unmet = unmet_at (g.M.PhysicalMemory.area c.args.frames.now) old c.args.root c.args.frame c.requires.mappable.unmet in
    let all = prepared_all old free c.args.root c.args.page (top c.args.table) (met g c free tree) in
    let added = mapped_page old old new free free c.args.root c.args.page c.args.table c.args.index c.args.frame c.args.rights
    c.requires.place.rooted c.requires.mappable.unmapped c.to_page-entry.ensures.fits c.requires.mappable.below used unmet c.requires.place.entry.at_index
    tree (met g c free tree) all (returns-clause-words g c) in
    record {
      tree = tree_moved (g.M.PhysicalMemory.area c.args.frames.now) (g.M.PhysicalMemory.area c.set_word.new.self) new c.args.root
          free c.set_word.ensures.area
          (mapped_tree old old new free free c.args.root c.args.page c.args.table c.args.index c.args.frame c.args.rights
          c.requires.place.rooted c.requires.mappable.unmapped c.to_page-entry.ensures.fits c.requires.mappable.below used unmet c.requires.place.entry.at_index
          tree (met g c free tree) all (returns-clause-words g c));
      added = added;
      elsewhere = λ other canonical ne. added.pages other
          (λ e. ne (same_number other c.args.page canonical (rw c.number-canonical.ensures.value at c.number-canonical.ensures.canonical) e));
      missing = λ first pages range lo hi.
          let m = page_missing old new free free c.args.root c.args.page c.args.frame c.args.rights added first pages range lo hi in
          let z = none_missing old c.args.root c.args.page (top c.args.table) (met g c free tree) in
          omega arith;
    }

pub set_word-requires-clause-seen : goal.set_word-requires-clause-seen
set_word-requires-clause-seen g c =
    subst (λ entry. g.M.PhysicalMemory.allows (set (g.M.PhysicalMemory.words c.args.frames.now)
    (512 * c.args.table + c.args.index) entry)) (sym (c.bits.ensures ∙ c.to_page-entry.ensures.value))
    (c.requires.seen c.to_page-entry.ensures.fits)
