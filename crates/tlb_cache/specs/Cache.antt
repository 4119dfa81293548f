-- What is kept of walks (AMD64 manual, volume 2, section 5.5; that the oldest entry leaves first is the crate's own).
use Rattle.std.specs.Prelude.{◌≡◌, ℕ, ◌*◌, ◌<◌, Bool, not, ◌==◌, IsTrue, IsFalse, List, [], ◌∷◌, ◌++◌, length, map, filter, slice_index, Option, Some, None, option_map}
use Rattle.std.specs.List.{list_any, AllByRecursion, AllByRecursion-prop}
use Rattle.std.proofs.Props.{props}
use Rattle.paging_core.specs.Address.{is_canonical}
use Rattle.paging_core.specs.Memory.{frame_count}
use Rattle.paging_core.specs.declared.page_walk.Mapped.{Mapped}
use Rattle.paging_core.specs.Walk.{walk_of, mapped_place}
use Rattle.circular_buffer.specs.Buffer.{keep_last}
use Rattle.x86_instructions.specs.declared.tlb.FlushCommand.{FlushCommand}
use Rattle.tlb_cache.specs.Covered.{covers}
use Rattle.tlb_cache.specs.declared.entry.TlbEntry.{TlbEntry}

-- the translations that are kept, the oldest first, and how many there may be
pub record Cache : Type 0 where
  pub entries : List TlbEntry
  pub capacity : ℕ

-- the pages of entries
abbrev pub cached_pages : List TlbEntry → List ℕ
cached_pages entries = map (λ (entry : TlbEntry). entry.page) entries

-- whether a page has an entry
abbrev pub has_page : List TlbEntry → ℕ → Bool
has_page entries page = list_any (λ (entry : TlbEntry). entry.page == page) entries

-- the entry with an age is of a page
pub record IsAgeOf (entries : List TlbEntry) (page age : ℕ) : Type 0 where
  pub there : age < length entries
  pub of_page : slice_index (cached_pages entries) age ≡ page

-- no two entries are of one page
abbrev pub AreOfDistinctPages : List TlbEntry → Type 0
AreOfDistinctPages [] = Unit {0}
AreOfDistinctPages (entry ∷ rest) = IsFalse (has_page rest entry.page) × AreOfDistinctPages rest

-- An entry is what the walk finds of its page, at a frame that exists.
pub record IsEntryFound (words : List ℕ) (root : ℕ) (entry : TlbEntry) : Type 0 where
  pub canonical : IsTrue (is_canonical (entry.page * 4096))
  pub walked : walk_of words root entry.page ≡ Some (mapped_place entry.mapped)
  pub frame : entry.mapped.frame < frame_count words

-- each entry is
abbrev pub AgreesWithTables : List ℕ → ℕ → List TlbEntry → Type 0
AgreesWithTables words root entries = AllByRecursion (IsEntryFound words root) entries

pub AgreesWithTables-prop : (words : List ℕ) (root : ℕ) (entries : List TlbEntry) → IsProp (AgreesWithTables words root entries)
AgreesWithTables-prop words root entries = AllByRecursion-prop (IsEntryFound words root) (IsFound-prop words root) entries where
  IsFound-prop : (words : List ℕ) (root : ℕ) (entry : TlbEntry) → IsProp (IsEntryFound words root entry)
  IsFound-prop words root entry = hlevel props

-- the entries after a look-up that missed: what the walk found of the page is the newest, and the oldest leaves if
-- there were as many as there may be
abbrev pub kept : Cache → ℕ → Option Mapped → Cache
kept cache page None = cache
kept cache page (Some mapped) = record cache { entries = keep_last cache.capacity (cache.entries ++ record { page = page; mapped = mapped } ∷ []) }

-- The cache after a page was looked up: as it was if the page had an entry, and else with what the walk found.
pub record IsLookedUp (words : List ℕ) (root page : ℕ) (old new : Cache) : Type 0 where
  pub hit : IsTrue (has_page old.entries page) → new ≡ old
  pub missed : IsFalse (has_page old.entries page) → (found : Option Mapped) × (option_map mapped_place found ≡ walk_of words root page) × (new ≡ kept old page found)

-- those that a command leaves, in order
abbrev pub left_by : FlushCommand → List TlbEntry → List TlbEntry
left_by command entries = filter (λ (entry : TlbEntry). not (covers command entry.page)) entries

-- the entries that commands leave, in order
abbrev pub left_by_all : List FlushCommand → List TlbEntry → List TlbEntry
left_by_all list entries = filter (λ (entry : TlbEntry). not (list_any (λ (command : FlushCommand). covers command entry.page) list)) entries
