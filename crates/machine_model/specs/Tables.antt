-- The page tables of a state, and the frames that are left.
use Rattle.std.specs.Prelude.{ℕ, ◌+◌, ◌-◌, ◌/◌, Bool, not, ◌&&◌, ◌==◌, List, ◌++◌, length, map, filter, count_by}
use Rattle.std.specs.List.{list_any}
use Rattle.paging_core.specs.Prefix.{Prefix, prefixes_of}
use Rattle.machine_model.specs.State.{State, total_pages}
use Rattle.machine_model.specs.Slots.{slot_prefix}

abbrev pub is_same : Prefix → Prefix → Bool
is_same p q = p.level == q.level && p.number == q.number

-- whether an index prefix has a table
abbrev pub has_table : List Prefix → Prefix → Bool
has_table tables prefix = list_any (is_same prefix) tables

-- how many tables `pages` pages from an address lack, as if none of them were in a large page
abbrev pub missing : List Prefix → ℕ → ℕ → ℕ
missing tables address pages = count_by (λ p. not (has_table tables p)) (prefixes_of (address / 4096) pages)

-- the tables, and those that these pages lack; slots that are mapped by one entry have none
abbrev pub with_tables : List Prefix → ℕ → ℕ → List ℕ → List Prefix
with_tables tables address pages slots = tables ++ filter (λ p. not (has_table tables p) && not (has_table (map slot_prefix slots) p)) (prefixes_of (address / 4096) pages)

-- the frames in use: the root, the other tables, and the pages of each region
abbrev pub used_frames : State → ℕ
used_frames s = 1 + length s.tables + total_pages s.heap + total_pages s.users

abbrev pub free_frames : State → ℕ
free_frames s = s.frames - used_frames s
