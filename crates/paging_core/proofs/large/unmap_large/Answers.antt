use Rattle.std.proofs.Common.{◌≡◌, ◌∙◌, ◌+◌, ◌*◌, ◌/◌, ◌%◌, ◌^◌, ℕ, length, arith, length-set, ap, set, refl}
use Rattle.paging_core.specs.Walk.{mapped_place, walk_of}
use Rattle.paging_core.specs.Large.{slot_of, IsLargeCleared}
use Rattle.paging_core.proofs.Areas.{tree_moved, bytes_of_moved}
use Rattle.paging_core.proofs.Made.{large_below}
use Rattle.paging_core.proofs.LargeAdded.{same_slot}
use Rattle.paging_core.proofs.LargeGone.{large_cleared, gone_tree, large_removed, gone_bytes, gone_elsewhere}
use Rattle.paging_core.proofs.large.unmap_large.Given.{Over}
use Rattle.paging_core.proofs.large.unmap_large.Goals as goal
use Rattle.std.specs.Prelude.{IsSome}

-- the run of frames that begins at the frame
run_number : (f a r : ℕ) → f % 512 ≡ 0 → a ≡ f * 4096 → r ≡ a / 2 ^ 21 → 512 * r ≡ f
run_number f a r aligned e is = omega arith

cleared : (g : Over) (c : goal.After-containing_address g) → IsLargeCleared (g.M.PhysicalMemory.words c.args.frames.now)
    (g.M.PhysicalMemory.words c.set_word.new.self) c.args.root c.args.page
cleared g c =
    large_cleared (g.M.PhysicalMemory.words c.args.frames.now) (g.M.PhysicalMemory.words c.set_word.new.self) c.args.root
    c.args.page c.large_entry-table.result.table c.large_entry-table.result.index
    (mapped_place c.large_entry-table.result.large) c.large_entry-table.ensures.entry c.set_word.ensures.words

run : (g : Over) (c : goal.After-containing_address g) → 512 * c.containing_address.result ≡ c.large_entry-table.result.large.frame
run g c =
    let b = large_below (g.M.PhysicalMemory.words c.args.frames.now) c.args.root (slot_of c.args.page)
    (mapped_place c.large_entry-table.result.large) c.large_entry-table.ensures.entry.found in
    run_number c.large_entry-table.result.large.frame c.start_address.result c.containing_address.result b.0
    c.start_address.ensures c.containing_address.ensures

pub returns-clause-frame : goal.returns-clause-frame
returns-clause-frame g c = rw c.large_entry-table.ensures.entry.found (run g c)

pub returns-clause-below : goal.returns-clause-below
returns-clause-below g c =
    let b = large_below (g.M.PhysicalMemory.words c.args.frames.now) c.args.root (slot_of c.args.page)
    (mapped_place c.large_entry-table.result.large) c.large_entry-table.ensures.entry.found in
    let r = run g c in
    let s : length (g.M.PhysicalMemory.words c.set_word.new.self) ≡ length (g.M.PhysicalMemory.words c.args.frames.now) =
    ap length c.set_word.ensures.words
    ∙ length-set (g.M.PhysicalMemory.words c.args.frames.now) (512 * c.large_entry-table.result.table + c.large_entry-table.result.index) 0 in
    omega (arith, b.1)

pub returns-clause-cleared : goal.returns-clause-cleared
returns-clause-cleared g c =
    let old = g.M.PhysicalMemory.words c.args.frames.now in
    let new = g.M.PhysicalMemory.words c.set_word.new.self in
    record {
      same_area = c.set_word.ensures.area;
      cleared = cleared g c;
      gone = λ free tree.
          record {
            tree = tree_moved (g.M.PhysicalMemory.area c.args.frames.now) (g.M.PhysicalMemory.area c.set_word.new.self) new c.args.root
                free c.set_word.ensures.area (gone_tree old new c.args.root c.args.page c.requires.page.rooted (cleared g c) free tree);
            bytes = bytes_of_moved (g.M.PhysicalMemory.area c.args.frames.now) (g.M.PhysicalMemory.area c.set_word.new.self)
                (λ at. IsSome (walk_of new c.args.root at)) old new c.args.root c.set_word.ensures.area
                (gone_bytes old new c.args.root c.args.page c.requires.page.rooted (cleared g c) free tree);
            removed = large_removed old new c.args.root c.args.page c.requires.page.rooted (cleared g c) free tree;
            elsewhere = λ other canonical ne. gone_elsewhere old new c.args.root c.args.page c.requires.page.rooted (cleared g c) free tree other
                (λ e. ne (same_slot other c.args.page canonical c.large_entry-table.ensures.canonical e));
          };
    }

pub set_word-requires-clause-seen : goal.set_word-requires-clause-seen
set_word-requires-clause-seen g c =
    c.requires.seen (set (g.M.PhysicalMemory.words c.args.frames.now) (512 * c.large_entry-table.result.table + c.large_entry-table.result.index) 0)
    (large_cleared (g.M.PhysicalMemory.words c.args.frames.now) (set (g.M.PhysicalMemory.words c.args.frames.now)
    (512 * c.large_entry-table.result.table + c.large_entry-table.result.index) 0) c.args.root c.args.page
    c.large_entry-table.result.table c.large_entry-table.result.index (mapped_place c.large_entry-table.result.large) c.large_entry-table.ensures.entry refl)
