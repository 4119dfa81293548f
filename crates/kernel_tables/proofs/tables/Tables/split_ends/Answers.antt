use Rattle.std.proofs.Common.{◌≡◌, ◌+◌, ◌-◌, ◌*◌, ◌/◌, ◌<◌, ℕ, cond, false, refl, arith}
use Rattle.std.specs.Prelude.{IsTrue}
use Rattle.paging_core.specs.Address.{is_canonical}
use Rattle.paging_core.proofs.Ranges.{page_canonical}
use Rattle.std.proofs.lemmas.Bool.{cases_eq}
use Rattle.paging_core.specs.Large.{slot_of}
use Rattle.kernel_tables.specs.Ranges.{is_cut, is_split}
use Rattle.kernel_tables.proofs.RangeMapped.{slots_apart}
use Rattle.kernel_tables.proofs.Changed.{none_none}
use Rattle.kernel_tables.proofs.RangeChanged.{last_split, first_still, all_within, split_parts}
use Rattle.kernel_tables.proofs.SlotChanges.{not_large_then, is_cut_at, end_not_large, cut_at_ends}
use Rattle.kernel_tables.proofs.KeptWords.{words_then, alone_within}
use Rattle.kernel_tables.proofs.tables.Tables.split_ends.Goals as goal

pub split_beside-requires-clause-room : goal.split_beside-requires-clause-room
split_beside-requires-clause-room c = λ e.
    let s = split_parts c.args.self.now c.args.page c.args.pages c.requires.range in
    let o : cond {A = ℕ} (is_split c.args.self.now c.args.page c.args.pages (c.args.page / 512)) 1 0 ≡ 1 = rw e refl in
    omega (arith, s, o, c.requires.room)

pub split_beside-requires-2-clause-room : goal.split_beside-requires-2-clause-room
split_beside-requires-2-clause-room c = λ e.
    let s = split_parts c.args.self.now c.args.page c.args.pages c.requires.range in
    let l = last_split c.args.self.now c.split_beside.new.self c.args.page c.args.pages c.requires.range
    c.split_beside.ensures.whole c.split_beside.ensures.larges in
    let e' = rw c.after-last.ensures at e in
    let o : cond {A = ℕ} (is_split c.split_beside.new.self c.args.page c.args.pages ((c.args.page + (c.args.pages - 1)) / 512)) 1 0 ≡ 1 = rw e' refl in
    let f = c.split_beside.ensures.free in
    omega (arith, s, l, o, f, c.requires.room)

pub returns-clause-free : goal.returns-clause-free
returns-clause-free c =
    let s = split_parts c.args.self.now c.args.page c.args.pages c.requires.range in
    let l = last_split c.args.self.now c.split_beside.new.self c.args.page c.args.pages c.requires.range
    c.split_beside.ensures.whole c.split_beside.ensures.larges in
    let f = c.split_beside.ensures.free in
    let g = rw c.after-last.ensures at c.split_beside-2.ensures.free in
    omega (arith, s, l, f, g)

pub returns-clause-within : goal.returns-clause-within
returns-clause-within c =
    let some : 0 < c.args.pages = c.requires.range.some in
    let a = c.after-last.ensures in
    let w : is_split c.split_beside-2.new.self c.args.page c.args.pages ((c.args.page + (c.args.pages - 1)) / 512) ≡ false =
    rw a at c.split_beside-2.ensures.whole in
    all_within c.split_beside-2.new.self c.args.page c.args.pages some
    (first_still c.split_beside.new.self c.split_beside-2.new.self c.args.page c.args.pages (c.args.page + (c.args.pages - 1)) c.split_beside.ensures.whole w
    (rw a at c.split_beside-2.ensures.larges) (cases_eq (slot_of (c.args.page / 512)) (slot_of ((c.args.page + (c.args.pages - 1)) / 512)))
    (λ e. slots_apart c.args.page c.args.pages (c.args.page / 512) ((c.args.page + (c.args.pages - 1)) / 512)
    c.requires.range (omega arith) (omega arith) (omega arith) (omega arith) e))
    w

pub returns-clause-large : goal.returns-clause-large
returns-clause-large c =
    let some : 0 < c.args.pages = c.requires.range.some in
    let a = c.after-last.ensures in
    let last : IsTrue (is_canonical ((c.args.page + (c.args.pages - 1)) * 4096)) =
    page_canonical c.args.page c.args.pages (c.args.pages - 1) c.requires.range (omega arith) in
    not_large_then c.args.self.now c.split_beside.new.self c.split_beside-2.new.self (is_cut_at c.args.page c.args.pages c.args.page)
    (is_cut_at c.args.page c.args.pages (c.args.page + (c.args.pages - 1)))
    (is_cut c.args.page c.args.pages) (λ slot. cut_at_ends c.args.page c.args.pages slot some)
    (end_not_large c.args.self.now c.split_beside.new.self c.args.page c.args.pages c.args.page c.requires.range.canonical
    c.split_beside.ensures.here c.split_beside.ensures.larges)
    (end_not_large c.split_beside.new.self c.split_beside-2.new.self c.args.page c.args.pages (c.args.page + (c.args.pages - 1)) last
    (rw a at c.split_beside-2.ensures.here) (rw a at c.split_beside-2.ensures.larges))

pub returns-clause-none : goal.returns-clause-none
returns-clause-none c = none_none c.split_beside.ensures.none c.split_beside-2.ensures.none

pub returns-clause-words : goal.returns-clause-words
returns-clause-words c =
    let some : 0 < c.args.pages = c.requires.range.some in
    let a = c.after-last.ensures in
    words_then c.split_beside.ensures.words c.split_beside-2.ensures.words c.split_beside.ensures.none.tables c.split_beside-2.ensures.none.tables
    (alone_within c.args.page c.args.pages c.args.page (omega arith) (omega arith))
    (alone_within c.args.page c.args.pages c.after-last.result (omega arith) (omega arith))
