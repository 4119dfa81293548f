-- The regions as a picture lists them: neighbours of one owner and equal rights are one line.
use Rattle.std.specs.Prelude.{◌≡◌, ℕ, ◌+◌, max, Bool, true, false, not, ◌&&◌, nat_eq, List, [], ◌∷◌, if◌then◌else◌}
use Rattle.std.specs.List.{list_any}
use Rattle.machine_model.specs.declared.region.Region.{Region}
use Rattle.machine_model.specs.State.{end_of_region, is_within, total_pages}
use Rattle.paging_core.specs.declared.page_table.Rights.{Rights}

abbrev pub same : Bool → Bool → Bool
same true other = other
same false other = not other

abbrev pub same_rights : Rights → Rights → Bool
same_rights one other = same one.write other.write && (same one.user other.user && same one.fetch other.fetch)

-- whether a region begins where another ends, and has its owner and its rights
abbrev pub adjoins : Region → Region → Bool
adjoins region next = nat_eq (end_of_region region) next.start && (same region.heap next.heap && same_rights region.rights next.rights)

-- a region with the pages of the next one
abbrev pub with_adjoining : Region → Region → Region
with_adjoining region next = record { start = region.start; pages = region.pages + next.pages; heap = region.heap; rights = region.rights }

-- the lines from one on that has begun
abbrev pub region_lines_from : Region → List Region → List Region
region_lines_from line [] = line ∷ []
region_lines_from line (next ∷ regions) = if adjoins line next then region_lines_from (with_adjoining line next) regions else line ∷ region_lines_from next regions

-- all lines
abbrev pub region_lines : List Region → List Region
region_lines [] = []
region_lines (region ∷ regions) = region_lines_from region regions

-- the pages of the line that has most
abbrev pub most_pages : List Region → ℕ
most_pages [] = 0
most_pages (line ∷ lines) = max line.pages (most_pages lines)

-- Lines have the pages of the regions together, and the same addresses: so each page of a region is in one line.
pub record AreLinesOf (regions lines : List Region) : Type 0 where
  pub pages : total_pages lines ≡ total_pages regions
  pub covered : (address : ℕ) → list_any (is_within address) lines ≡ list_any (is_within address) regions

-- the lines of regions cover the addresses of the regions, each once, for all lists of regions
abbrev pub EachIsInOneLine : Type 0
EachIsInOneLine = (regions : List Region) → AreLinesOf regions (region_lines regions)
