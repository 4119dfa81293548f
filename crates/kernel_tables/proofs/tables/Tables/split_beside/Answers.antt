use Rattle.std.proofs.Common.{◌≡◌, ◌/◌, None, refl, sym, ap, ◌∙◌, arith}
use Rattle.paging_core.specs.Large.{slot_of}
use Rattle.paging_core.specs.Walk.{large_of}
use Rattle.kernel_tables.proofs.RangeChanged.{split_some, unsplit_large, split_not_whole}
use Rattle.kernel_tables.specs.Flush.{page_alone}
use Rattle.kernel_tables.proofs.KeptWords.{words_same, split_words, alone_is}
use Rattle.kernel_tables.proofs.tables.Tables.split_beside.Goals as goal

pub returns-then-not-is_split-clause-free : goal.returns-then-not-is_split-clause-free
returns-then-not-is_split-clause-free c = let e = sym c.is_split.ensures ∙ c.if-not-is_split.true in rw e (omega arith)

pub returns-then-not-is_split-clause-whole : goal.returns-then-not-is_split-clause-whole
returns-then-not-is_split-clause-whole c = sym c.is_split.ensures ∙ c.if-not-is_split.true

pub split_slot-requires-clause-large : goal.split_slot-requires-clause-large
split_slot-requires-clause-large c = rw c.slot_at.ensures (split_some c.args.self.now c.args.page c.args.pages
    (c.args.at / 512) (sym c.is_split.ensures ∙ c.if-not-is_split.false))

pub split_slot-requires-clause-room : goal.split_slot-requires-clause-room
split_slot-requires-clause-room c = c.requires.room (sym c.is_split.ensures ∙ c.if-not-is_split.false)

pub returns-clause-free : goal.returns-clause-free
returns-clause-free c =
    let e = sym c.is_split.ensures ∙ c.if-not-is_split.false in
    let split = c.split_slot.ensures.split in
    rw e split.count

pub returns-then-not-is_split-clause-here : goal.returns-then-not-is_split-clause-here
returns-then-not-is_split-clause-here c = unsplit_large c.args.self.now c.args.page c.args.pages (c.args.at / 512)
    (sym c.is_split.ensures ∙ c.if-not-is_split.true)

pub returns-clause-here : goal.returns-clause-here
returns-clause-here c =
    let split = c.split_slot.ensures.split in
    let root = c.split_slot.ensures.none.place.root in
    let cut = split_not_whole c.args.self.now c.args.page c.args.pages (c.args.at / 512) (sym c.is_split.ensures ∙ c.if-not-is_split.false) in
    rw cut
    (ap (λ r. large_of c.split_slot.new.self.words r (slot_of (c.args.at / 512))) root
    ∙ (ap (λ s. large_of c.split_slot.new.self.words c.args.self.now.root (slot_of s)) (sym c.slot_at.ensures) ∙ split.no_large))

pub returns-clause-larges : goal.returns-clause-larges
returns-clause-larges c = λ n ne.
    let split = c.split_slot.ensures.split in
    let root = c.split_slot.ensures.none.place.root in
    ap (λ r. large_of c.split_slot.new.self.words r n) root ∙ split.larges n (rw c.slot_at.ensures ne)

pub returns-clause-whole : goal.returns-clause-whole
returns-clause-whole c =
    let split = c.split_slot.ensures.split in
    let root = c.split_slot.ensures.none.place.root in
    let none : large_of c.split_slot.new.self.words c.split_slot.new.self.root (slot_of (c.args.at / 512)) ≡ None =
    ap (λ r. large_of c.split_slot.new.self.words r (slot_of (c.args.at / 512))) root
    ∙ (ap (λ s. large_of c.split_slot.new.self.words c.args.self.now.root (slot_of s)) (sym c.slot_at.ensures) ∙ split.no_large) in
    rw none refl

pub returns-then-not-is_split-clause-words : goal.returns-then-not-is_split-clause-words
returns-then-not-is_split-clause-words c = words_same (page_alone c.args.at) c.args.self.now

pub returns-clause-words : goal.returns-clause-words
returns-clause-words c = split_words (page_alone c.args.at) c.args.self.now c.split_slot.new.self c.args.at c.slot_at.result (alone_is c.args.at)
    c.slot_at.ensures c.split_slot.ensures.none.place.root c.split_slot.ensures.split
