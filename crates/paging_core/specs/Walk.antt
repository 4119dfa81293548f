-- The walk of four levels (AMD64 volume 2, "4-Kbyte Page Translation in Long Mode" and "2-Mbyte Page Translation in Long Mode").
use Rattle.std.specs.Prelude.{ℕ, zero, suc, ◌+◌, ◌/◌, ◌%◌, ◌^◌, Bool, true, false, not, ◌==◌, nat_lt, ◌&&◌, if◌then◌else◌, List, Option, Some, None}
use Rattle.std.specs.Option.{option_map}
use Rattle.paging_core.specs.Memory.{word_at, frame_count, byte_of}
use Rattle.paging_core.specs.Entry.{has_bit, frame_of}
use Rattle.paging_core.specs.declared.page_table.PageBits.{PageBits}
use Rattle.paging_core.specs.declared.page_walk.Mapped.{Mapped}

-- where a walk arrives, a table or a page's frame: with the rights that all entries on the way grant, the type that the
-- last one gives, and whether that one is global
pub record Place : Type 0 where
  pub frame : ℕ
  pub write : Bool
  pub user : Bool
  pub fetch : Bool
  -- of the last entry alone: bits 3, 4 and 8
  pub through : Bool
  pub uncached : Bool
  pub global : Bool

-- an entry is present if bit 0 is set and its frame exists
abbrev pub is_present : List ℕ → ℕ → Bool
is_present words entry = has_bit entry 0 && nat_lt (frame_of entry) (frame_count words)

-- where an entry leads, from a place
abbrev pub named : Place → ℕ → Place
named from entry = record {
  frame = frame_of entry;
  write = from.write && has_bit entry 1;
  user = from.user && has_bit entry 2;
  fetch = from.fetch && not (has_bit entry 63);
  through = has_bit entry 3;
  uncached = has_bit entry 4;
  global = has_bit entry 8;
}

-- an entry of the third step ends the walk if it has bit 7: it maps a large page, which is 512 pages
abbrev pub ends_walk : ℕ → ℕ → Bool
ends_walk level entry = level == 2 && has_bit entry 7

-- one step, through entry `index` of a table that was met after `level` steps: to the next table, or to a page's frame
unfoldable pub step : List ℕ → ℕ → Place → ℕ → Option Place
step words level from index =
    let entry = word_at words from.frame index in
    (if is_present words entry && not (ends_walk level entry) then Some (named from entry) else None)

abbrev pub next_from : List ℕ → ℕ → Option Place → ℕ → Option Place
next_from words level None index = None
next_from words level (Some from) index = step words level from index

-- the frames of a large page: 512 in a row that all exist, the first a multiple of 512
abbrev pub is_run : List ℕ → ℕ → Bool
is_run words frame = frame % 512 == 0 && nat_lt (frame + 511) (frame_count words)

-- the large page that entry `index` of a table of the third step maps: its first frame
unfoldable pub large_step : List ℕ → Place → ℕ → Option Place
large_step words from index =
    let entry = word_at words from.frame index in
    (if is_present words entry && (has_bit entry 7 && is_run words (frame_of entry)) then Some (named from entry) else None)

abbrev pub large_from : List ℕ → Option Place → ℕ → Option Place
large_from words None index = None
large_from words (Some from) index = large_step words from index

-- page `index` of a large page
abbrev pub page_in : ℕ → Place → Place
page_in index large = record { frame = large.frame + index; write = large.write; user = large.user; fetch = large.fetch; through = large.through; uncached = large.uncached; global = large.global }

-- a frame with all rights, as each table is met
abbrev pub top : ℕ → Place
top frame = record { frame = frame; write = true; user = true; fetch = true; through = false; uncached = false; global = false }

-- where the walk along a prefix of `level` indices arrives if it takes one entry for each index: at level 0 the root,
-- at level 4 a page's frame
unfoldable pub by_entries : List ℕ → ℕ → ℕ → ℕ → Option Place
by_entries words root zero number = (if number == 0 then Some (top root) else None)
by_entries words root (suc level) number = next_from words level (by_entries words root level (number / 512)) (number % 512)

-- the large page at which the walk along three indices ends: its first frame, and the rights of the three entries
unfoldable pub large_of : List ℕ → ℕ → ℕ → Option Place
large_of words root slot = large_from words (by_entries words root 2 (slot / 512)) (slot % 512)

-- a page of the large page, if there is one
abbrev pub page_or : Option Place → ℕ → Option Place → Option Place
page_or None index other = other
page_or (Some large) index other = Some (page_in index large)

-- where the walk along a prefix of `level` indices arrives: at level 0 the root, up to level 3 a table, at level 4 a page's frame
unfoldable pub reach : List ℕ → ℕ → ℕ → ℕ → Option Place
reach words root level number =
    (if level == 4 then page_or (large_of words root (number / 512)) (number % 512) (by_entries words root 4 number) else by_entries words root level number)

-- where the page is mapped
unfoldable pub walk_of : List ℕ → ℕ → ℕ → Option Place
walk_of words root page = reach words root 4 (page % 2 ^ 36)

-- the byte that the walk to the address reaches
abbrev pub reached : List ℕ → ℕ → ℕ → Option ℕ
reached words root address =
    option_map (λ place. byte_of (word_at words place.frame (address % 4096 / 8)) (address % 8)) (walk_of words root (address / 4096))

-- a frame with these rights
abbrev pub place_with : ℕ → PageBits → Place
place_with frame rights = record { frame = frame; write = rights.write; user = rights.user; fetch = rights.fetch; through = rights.through; uncached = rights.uncached; global = rights.global }

-- the place of an answer of `walk`
abbrev pub mapped_place : Mapped → Place
mapped_place mapped = record { frame = mapped.frame; write = mapped.write; user = mapped.user; fetch = mapped.fetch; through = mapped.through; uncached = mapped.uncached; global = mapped.global }
