use Rattle.std.proofs.Common.{◌≡◌, ◌/◌, not, ap, ◌∙◌, refl, arith}
use Rattle.paging_core.specs.Large.{slot_of}
use Rattle.paging_core.specs.Prefix.{prefix_of}
use Rattle.paging_core.specs.Walk.{large_of}
use Rattle.kernel_tables.proofs.RangeTests.{found_there, found_none}
use Rattle.kernel_tables.proofs.RangeChanged.{entry_ok, not_split, is_one, is_hole, table_there}
use Rattle.kernel_tables.specs.Flush.{page_alone}
use Rattle.kernel_tables.proofs.KeptWords.{words_same, split_words, alone_is}
use Rattle.kernel_tables.proofs.tables.Tables.own_entry.Goals as goal

pub returns-then-is_none-clause-free : goal.returns-then-is_none-clause-free
returns-then-is_none-clause-free c =
    let none = rw c.slot_at-slot.ensures at (found_none c.large_page.result
    (large_of c.args.self.now.words c.args.self.now.root (slot_of c.slot_at-slot.result)) c.large_page.ensures
    (c.is_none.ensures ∙ ap not c.if-is_none.true)) in
    let z = not_split c.args.self.now c.args.page none in
    omega (arith, z)

pub returns-then-is_none-clause-small : goal.returns-then-is_none-clause-small
returns-then-is_none-clause-small c =
    let none = rw c.slot_at-slot.ensures at (found_none c.large_page.result
    (large_of c.args.self.now.words c.args.self.now.root (slot_of c.slot_at-slot.result)) c.large_page.ensures
    (c.is_none.ensures ∙ ap not c.if-is_none.true)) in
    table_there c.args.self.now.words c.args.self.now.root c.args.page (entry_ok c.args.self.now c.args.page c.requires).mapped
    (λ some. is_hole (large_of c.args.self.now.words c.args.self.now.root (slot_of (c.args.page / 512))) none some)

pub split_slot-requires-clause-large : goal.split_slot-requires-clause-large
split_slot-requires-clause-large c =
    found_there c.large_page.result (large_of c.args.self.now.words c.args.self.now.root (slot_of c.slot_at-slot.result))
    c.large_page.ensures (c.is_none.ensures ∙ ap not c.if-is_none.false)

pub split_slot-requires-clause-room : goal.split_slot-requires-clause-room
split_slot-requires-clause-room c =
    let some = rw c.slot_at-slot.ensures at (found_there c.large_page.result
    (large_of c.args.self.now.words c.args.self.now.root (slot_of c.slot_at-slot.result)) c.large_page.ensures
    (c.is_none.ensures ∙ ap not c.if-is_none.false)) in
    let o = is_one c.args.self.now c.args.page some in
    let r = (entry_ok c.args.self.now c.args.page c.requires).room in
    omega (arith, o, r)

pub returns-clause-free : goal.returns-clause-free
returns-clause-free c =
    let some = rw c.slot_at-slot.ensures at (found_there c.large_page.result
    (large_of c.args.self.now.words c.args.self.now.root (slot_of c.slot_at-slot.result)) c.large_page.ensures
    (c.is_none.ensures ∙ ap not c.if-is_none.false)) in
    let o = is_one c.args.self.now c.args.page some in
    let split = c.split_slot.ensures.split in
    let n = split.count in
    omega (arith, o, n)

pub returns-clause-small : goal.returns-clause-small
returns-clause-small c =
    let split = c.split_slot.ensures.split in
    let s = c.slot_at-slot.ensures in
    let e : prefix_of c.args.page 3 ≡ slot_of c.slot_at-slot.result = omega (arith, s) in
    rw (e, c.split_slot.ensures.none.place.root, split.table) refl

pub returns-clause-larges : goal.returns-clause-larges
returns-clause-larges c = λ n ne.
    let split = c.split_slot.ensures.split in
    let root = c.split_slot.ensures.none.place.root in
    ap (λ r. large_of c.split_slot.new.self.words r n) root ∙ split.larges n (rw c.slot_at-slot.ensures ne)

pub returns-clause-same : goal.returns-clause-same
returns-clause-same c = λ zero.
    let some = rw c.slot_at-slot.ensures at (found_there c.large_page.result
    (large_of c.args.self.now.words c.args.self.now.root (slot_of c.slot_at-slot.result)) c.large_page.ensures
    (c.is_none.ensures ∙ ap not c.if-is_none.false)) in
    let o = is_one c.args.self.now c.args.page some in
    absurd (omega (arith, o, zero))

pub returns-then-is_none-clause-words : goal.returns-then-is_none-clause-words
returns-then-is_none-clause-words c = words_same (page_alone c.args.page) c.args.self.now

pub returns-clause-words : goal.returns-clause-words
returns-clause-words c = split_words (page_alone c.args.page) c.args.self.now c.split_slot.new.self c.args.page c.slot_at-slot.result
    (alone_is c.args.page) c.slot_at-slot.ensures c.split_slot.ensures.none.place.root c.split_slot.ensures.split
