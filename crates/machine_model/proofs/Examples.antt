-- Worked values: the definitions computed on the numbers of a few runs.
use Rattle.std.proofs.Common.{◌≡◌, ◌-◌, ◌^◌, ◌<◌, ◌≤◌, inr, List, [], ◌∷◌, length, refl, ap, ◌*◌, true, false, Some, None, arith, lit<}
use Rattle.paging_core.specs.declared.page_table.Rights.{Rights}
use Rattle.machine_model.specs.declared.region.Region.{Region}
use Rattle.machine_model.specs.declared.config.Config.{Config}
use Rattle.machine_model.specs.declared.call.Call.TheVariants.{Malloc, Calloc, Free as Freeing, Read, Map, Unmap, Probe, Trim, SetGranularity, Reset}
use Rattle.paging_core.specs.declared.processor_access.AccessKind.TheVariants.{Read as Reading, Write as Writing, Fetch}
use Rattle.machine_model.specs.declared.answer.Reply.TheVariants.{Block as Placed, Done, Bytes, Trimmed, Accepted, Released}
use Rattle.machine_model.specs.declared.answer.Refusal.TheVariants.{BadAlign, TooLarge, BadRange, HeapRegion, Overlap, UnknownRegion, NotCanonical}
use Rattle.machine_model.specs.declared.answer.Answer.{Answer}
use Rattle.dlmalloc_chunks.specs.declared.extent.Extent.{Extent}
use Rattle.dlmalloc_chunks.specs.declared.extent.Kind.TheVariants.{Free, Top, Record, Foot}
use Rattle.paging_core.specs.Prefix.{prefix_of, prefixes_from, prefixes_of}
use Rattle.dlmalloc_chunks.specs.Request.{padded, enlarged, wanted, limit}
use Rattle.machine_model.specs.Request.{pages_in, pages_for}
use Rattle.machine_model.specs.State.{State, start, block_at, total_pages}
use Rattle.machine_model.specs.Tables.{missing, with_tables, free_frames}
use Rattle.machine_model.specs.Place.{place, all_regions}
use Rattle.machine_model.specs.Room.{heap_region}
use Rattle.machine_model.specs.Extents.{AreRuns, IsTiling}
use Rattle.paging_core.specs.ProcessorAccess.{fault_code}
use Rattle.machine_model.specs.Probe.{rights_at, is_access_granted}
use Rattle.machine_model.specs.Refusal.{is_too_large, must_refuse}
use Rattle.machine_model.specs.Answer.{after, IsAllowed}

-- chunks

padded-0 : padded 0 ≡ 32
unfolding padded
padded-0 = refl

padded-24 : padded 24 ≡ 32
unfolding padded
padded-24 = refl

padded-25 : padded 25 ≡ 48
unfolding padded
padded-25 = refl

padded-232 : padded 232 ≡ 240
unfolding padded
padded-232 = refl

padded-233 : padded 233 ≡ 256
unfolding padded
padded-233 = refl

wanted-aligned : wanted 100 4096 ≡ 4240
unfolding wanted padded
wanted-aligned = refl

enlarged-aligned : enlarged 100 4096 ≡ 4232
unfolding enlarged padded
enlarged-aligned = refl

limit-65536 : limit 65536 ≡ 0xFFFFFFFFFFFEFF99
unfolding limit
limit-65536 = refl

limit-16 : limit 16 ≡ 2 ^ 64 - 135
unfolding limit
limit-16 = refl

-- pages

pages-small : pages_for (padded 1) 65536 ≡ 16
unfolding pages_for padded pages_in
pages-small = refl

pages-65440 : pages_for (padded 65432) 65536 ≡ 16
unfolding pages_for padded pages_in
pages-65440 = refl

pages-65456 : pages_for (padded 65433) 65536 ≡ 32
unfolding pages_for padded pages_in
pages-65456 = refl

pages-large : pages_for (padded 3000000) 65536 ≡ 736
unfolding pages_for padded pages_in
pages-large = refl

pages-odd : pages_for (padded 20000) 4096 ≡ 5
unfolding pages_for padded pages_in
pages-odd = refl

-- index prefixes and tables

prefix-last : prefix_of 0x400 4 ≡ 0x400
prefix-last = refl

prefix-third : prefix_of 0x5ff 3 ≡ 2
prefix-third = refl

prefix-high : prefix_of 0xfffffffffffff 1 ≡ 511
prefix-high = refl

missing-16 : missing [] 0x400000 16 ≡ 3
unfolding prefixes_of prefixes_from
missing-16 = refl

missing-736 : missing [] 0x400000 736 ≡ 4
unfolding prefixes_of prefixes_from
missing-736 = refl

missing-1024 : missing [] 0x400000 1024 ≡ 4
unfolding prefixes_of prefixes_from
missing-1024 = refl

missing-3088 : missing (with_tables [] 0x400000 16 []) 0x410000 3088 ≡ 6
unfolding prefixes_of prefixes_from
missing-3088 = refl

-- the first call of a run from the usual configuration

config : Config
config = record { base = 0x400000; pages = 1024; granularity = 65536; frames = 1024; rate = 4095 }

first : Answer
first = record { reply = Placed 0 0x400010; regions = Some (heap_region 0x400000 16 ∷ []); large = None }

one : State
one = after (start config) (Malloc 0 16) first

no-frames-used : free_frames (start config) ≡ 1023
unfolding config
no-frames-used = refl

one-frames : free_frames one ≡ 1004
unfolding one first config prefixes_of prefixes_from pages_for wanted padded pages_in
one-frames = refl

one-tables : length one.tables ≡ 3
unfolding one first config prefixes_of prefixes_from pages_for wanted padded pages_in
one-tables = refl

one-block : block_at one.blocks 0 ≡ Some (record { address = 0x400010; size = 0; align = 16; cells = [] })
unfolding one first config
one-block = refl

place-first : place config.base config.pages [] 16 ≡ Some 0x400000
unfolding place config
place-first = refl

place-next : place config.base config.pages (all_regions one) 16 ≡ Some 0x410000
unfolding place one first config
place-next = refl

place-whole : place config.base config.pages [] 1024 ≡ Some 0x400000
unfolding place config
place-whole = refl

place-none : place config.base config.pages [] 1025 ≡ None
unfolding place config
place-none = refl

-- its block ends: the heap is all top and foot, and no record ends a segment in the middle of the region

freed : State
freed = after one (Freeing 0) (record { reply = Done; regions = None; large = None })

whole-region : List Extent
whole-region = record { at = 0x400000; size = 65456; kind = Top } ∷ record { at = 0x40ffb0; size = 80; kind = Foot } ∷ []

with-record : List Extent
with-record =
    record { at = 0x400000; size = 32; kind = Free } ∷ record { at = 0x400020; size = 80; kind = Record }
    ∷ record { at = 0x400070; size = 65344; kind = Top } ∷ record { at = 0x40ffb0; size = 80; kind = Foot } ∷ []

runs-whole : AreRuns freed.heap true whole-region
unfolding freed one first config whole-region
runs-whole = ((λ begins. refl), (λ ends. ends), ((λ begins. begins), (λ ends. refl), tt))

no-runs-with-record : AreRuns freed.heap true with-record → ⊥
unfolding freed one first config with-record
no-runs-with-record runs = let inside : false ≡ true = runs.2.1 refl in cc

no-tiling-with-record : IsTiling freed with-record → ⊥
no-tiling-with-record tiling = no-runs-with-record tiling.runs

-- a gap of two pages between a heap region and a user region serves two pages, and three go after the user region

between : List Region
between =
    heap_region (4096 * 1024) 16 ∷ record { start = 4096 * 1042; pages = 1; heap = false; rights = record { write = true; user = true; fetch = false } } ∷ []

place-between : place (4096 * 1024) 30 between 2 ≡ Some (4096 * 1040)
unfolding place between
place-between = refl

place-behind : place (4096 * 1024) 30 between 3 ≡ Some (4096 * 1043)
unfolding place between
place-behind = refl

no-place-behind : place (4096 * 1024) 19 between 3 ≡ None
unfolding place between
no-place-behind = refl

-- refusals

refused-large : must_refuse (start config) (Malloc 0xFFFFFFFFFFFEFF99 16) ≡ Some TooLarge
unfolding config limit lib.Count.ones
refused-large = refl

not-refused : must_refuse (start config) (Malloc 0xFFFFFFFFFFFEFF98 16) ≡ None
unfolding config limit lib.Count.ones
not-refused = refl

-- above 16 the alignment counts too, with no sum that wraps
too-large-aligned : is_too_large 65536 0x7FFFFFFFFFFFFFFF 0x8000000000000000 ≡ true
unfolding limit enlarged padded
too-large-aligned = refl

bad-align-0 : must_refuse (start config) (Calloc 8 0) ≡ Some BadAlign
unfolding config lib.Count.ones
bad-align-0 = refl

-- before the size is looked at
bad-align-24 : must_refuse (start config) (Malloc 0xFFFFFFFFFFFFFFFF 24) ≡ Some BadAlign
unfolding config lib.Count.ones
bad-align-24 = refl

-- the heap's page, at its first block: a read is granted, and neither a fetch nor the user's access
probed-rights : rights_at one 0x400010 ≡ Some (record { write = true; user = false; fetch = false })
unfolding one config first
probed-rights = refl

probed-read : is_access_granted (rights_at one 0x400010) Reading false ≡ true
unfolding one config first
probed-read = refl

probed-fetch : is_access_granted (rights_at one 0x400010) Fetch false ≡ false
unfolding one config first
probed-fetch = refl

code-fetch : fault_code true false Fetch false ≡ 0x11
code-fetch = refl

code-user : fault_code true false Reading true ≡ 0x5
code-user = refl

-- no page is mapped there
code-unmapped : fault_code false false Writing true ≡ 0x6
code-unmapped = refl

not-canonical : must_refuse (start config) (Probe 0x800000000000 Reading false) ≡ Some NotCanonical
unfolding config
not-canonical = refl

last-canonical : must_refuse (start config) (Probe 0x7fffffffffff Reading false) ≡ None
unfolding config
last-canonical = refl

-- a page of the user after the heap's region, which `one` has
abbrev reading : Rights
reading = record { write = false; user = true; fetch = false }

map-user : must_refuse one (Map 0x410000 1 reading) ≡ None
unfolding one first config prefixes_of prefixes_from pages_for wanted padded pages_in
map-user = refl

map-heap : must_refuse one (Map 0x40f000 2 reading) ≡ Some HeapRegion
unfolding one config first
map-heap = refl

-- no page, a start off a page, and pages over the end of a canonical half
map-no_pages : must_refuse one (Map 0x410000 0 reading) ≡ Some BadRange
unfolding one config first
map-no_pages = refl

map-off_page : must_refuse one (Map 0x410001 1 reading) ≡ Some BadRange
unfolding one config first
map-off_page = refl

map-gap : must_refuse one (Map 0x7ffffffff000 2 reading) ≡ Some BadRange
unfolding one config first
map-gap = refl

map-last : must_refuse (start config) (Map 0xfffffffffffff000 1 reading) ≡ None
unfolding config prefixes_of prefixes_from
map-last = refl

map-behind_last : must_refuse (start config) (Map 0xfffffffffffff000 2 reading) ≡ Some BadRange
unfolding config
map-behind_last = refl

-- with writing too
abbrev writing : Rights
writing = record { write = true; user = true; fetch = false }

-- the state after the map of two pages
abbrev mapped : State
mapped = after one (Map 0x410000 2 reading) (record { reply = Done; regions = None; large = None })

mapped-met : must_refuse mapped (Map 0x411000 1 reading) ≡ Some Overlap
unfolding one config first
mapped-met = refl

unmap-part : must_refuse mapped (Unmap 0x410000 1) ≡ Some UnknownRegion
unfolding one config first
unmap-part = refl

unmap-heap : must_refuse mapped (Unmap 0x400000 16) ≡ Some HeapRegion
unfolding one config first
unmap-heap = refl

unmap-whole : must_refuse mapped (Unmap 0x410000 2) ≡ None
unfolding one config first
unmap-whole = refl

unmapped-regions : all_regions (after mapped (Unmap 0x410000 2) (record { reply = Done; regions = None; large = None })) ≡ all_regions one
unfolding one config first
unmapped-regions = refl

-- a trim may leave the first page of a region; if it says that bytes went back, it lists the regions
trim-front : IsAllowed one (Trim 0) (record { reply = Trimmed true; regions = Some (heap_region 0x400000 1 ∷ []); large = None })
unfolding one first config
trim-front = record {
  reply = (refl, (inr (heap_region 0x400000 1, [], inr (lit< tt, lit< tt, refl), refl, refl), refl));
  listed = λ same. (let pages : 1 ≡ 16 = ap total_pages same in absurd (omega (arith, pages)));
  large = tt;
}

trim-unlisted : IsAllowed one (Trim 0) (record { reply = Trimmed true; regions = None; large = None }) → ⊥
trim-unlisted allowed = let listed : true ≡ false = allowed.reply.1.1 in cc

-- another granularity
set-granularity : (after one (SetGranularity 32) (record { reply = Accepted true; regions = None; large = None })).granularity ≡ 32
set-granularity = refl

set-not_accepted : (after one (SetGranularity 8) (record { reply = Accepted false; regions = None; large = None })).granularity ≡ 65536
unfolding one first config
set-not_accepted = refl

set-too_small : IsAllowed one (SetGranularity 8) (record { reply = Accepted true; regions = None; large = None }) → ⊥
set-too_small allowed = let least : 16 ≤ 8 = (allowed.reply.1.1.0 refl).1 in omega (arith, least)

-- a reset ends the block, whose number stays, and the heap has no region; the granularity and the tables stay
abbrev empty : State
empty = after one Reset (record { reply = Released 65536; regions = Some []; large = None })

reset-blocks : empty.blocks ≡ None ∷ []
unfolding one first config
reset-blocks = refl

reset-regions : all_regions empty ≡ []
unfolding one first config
reset-regions = refl

reset-tables : length empty.tables ≡ 3
unfolding one first config prefixes_of prefixes_from pages_for wanted padded pages_in
reset-tables = refl

reset-granularity : empty.granularity ≡ 65536
unfolding one first config
reset-granularity = refl

-- no state allows a read that answers a number that is no byte
no-byte : (s : State) → IsAllowed s (Read 0 0 1) (record { reply = Bytes (300 ∷ []); regions = None; large = None }) → ⊥
no-byte s allowed = let byte = allowed.reply.1.2.0 in omega arith

-- a map of one slot: one entry maps it, so the tables are those of one and two indices
slot-map : must_refuse (start config) (Map 0x800000 512 writing) ≡ None
unfolding config prefixes_of prefixes_from
slot-map = refl

abbrev with_slot : State
with_slot = after (start config) (Map 0x800000 512 writing) (record { reply = Done; regions = None; large = Some (0x800000 ∷ []) })

slot-large : with_slot.large ≡ 0x800000 ∷ []
unfolding config
slot-large = refl

slot-tables : with_slot.tables ≡ record { level = 1; number = 0 } ∷ record { level = 2; number = 0 } ∷ []
unfolding config prefixes_of prefixes_from
slot-tables = refl

slot-frames : free_frames with_slot ≡ 509
unfolding config prefixes_of prefixes_from
slot-frames = refl

slot-probed : rights_at with_slot 0x9fffff ≡ Some writing
unfolding config
slot-probed = refl

-- the answer lists the slot, which lies whole in the new pages and had no table
slot-allowed : IsAllowed (start config) (Map 0x800000 512 writing) (record { reply = Done; regions = None; large = Some (0x800000 ∷ []) })
unfolding config prefixes_of prefixes_from
slot-allowed = record {
  reply = (refl, refl);
  listed = tt;
  large = record {
    some = λ none. absurd (cc);
    ascending = (tt, tt);
    within = (record { is_slot = record { aligned = refl; canonical = refl }; from = lit< tt; within = lit< tt }, tt);
    no_table = (refl, tt);
  };
}

-- if no run of frames was free, the slot has a table
slot-small : free_frames (after (start config) (Map 0x800000 512 writing) (record { reply = Done; regions = None; large = None })) ≡ 508
unfolding config prefixes_of prefixes_from
slot-small = refl

-- an answer lists no slot that is not whole in the new pages, and none twice
no-part_slot : IsAllowed (start config) (Map 0x801000 512 writing) (record { reply = Done; regions = None; large = Some (0x800000 ∷ []) }) → ⊥
no-part_slot allowed = let from : 0x801000 ≤ 0x800000 = allowed.large.within.0.from in omega (arith, from)

no-slot_twice : IsAllowed (start config) (Map 0x800000 512 writing) (record { reply = Done; regions = None; large = Some (0x800000 ∷ 0x800000 ∷ []) }) → ⊥
no-slot_twice allowed = let later : 0x800000 < 0x800000 = allowed.large.ascending.0.0 in omega (arith, later)

-- the region leaves, and no slot is large; no table leaves and none is made
abbrev slot_left : State
slot_left = after with_slot (Unmap 0x800000 512) (record { reply = Done; regions = None; large = None })

left-large : slot_left.large ≡ []
unfolding config
left-large = refl

left-frames : free_frames slot_left ≡ 1021
unfolding config prefixes_of prefixes_from
left-frames = refl

left-tables : length slot_left.tables ≡ 2
unfolding config prefixes_of prefixes_from
left-tables = refl

-- a grant of 512 pages is one slot; a trim cuts it, and its first page has a table then
fine : Config
fine = record { base = 0x400000; pages = 2048; granularity = 4096; frames = 2048; rate = 4095 }

abbrev grown : State
grown = after (start fine) (Malloc 2097000 16) (record {
  reply = Placed 0 0x400010;
  regions =
      Some (heap_region 0x400000 512 ∷ []);
  large = Some (0x400000 ∷ []);
})

grown-large : grown.large ≡ 0x400000 ∷ []
unfolding fine pages_for wanted padded pages_in
grown-large = refl

grown-frames : free_frames grown ≡ 1533
unfolding fine prefixes_of prefixes_from pages_for wanted padded pages_in
grown-frames = refl

abbrev trimmed : State
trimmed = after grown (Trim 0) (record { reply = Trimmed true; regions = Some (heap_region 0x400000 1 ∷ []); large = None })

trimmed-large : trimmed.large ≡ []
unfolding fine
trimmed-large = refl

trimmed-tables : trimmed.tables ≡ record { level = 1; number = 0 } ∷ record { level = 2; number = 0 } ∷ record { level = 3; number = 2 } ∷ []
unfolding fine prefixes_of prefixes_from pages_for wanted padded pages_in
trimmed-tables = refl

trimmed-frames : free_frames trimmed ≡ 2043
unfolding fine prefixes_of prefixes_from pages_for wanted padded pages_in
trimmed-frames = refl

-- a slot of which one call maps all and keeps a page is listed, and has a table after it
abbrev cut_again : State
cut_again = after (start fine) (Malloc 2097000 16) (record {
  reply = Placed 0 0x400010;
  regions =
      Some (heap_region 0x400000 1 ∷ []);
  large = Some (0x400000 ∷ []);
})

cut-again_large : cut_again.large ≡ []
unfolding fine
cut-again_large = refl

cut-again_tables : length cut_again.tables ≡ 3
unfolding fine prefixes_of prefixes_from pages_for wanted padded pages_in
cut-again_tables = refl
