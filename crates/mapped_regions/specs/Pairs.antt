-- What the pairs of a tree are, from left to right: intervals of page numbers, each with the kind of its region.
use Rattle.std.specs.Prelude.{◌≡◌, ℕ, ◌+◌, ◌-◌, ◌*◌, ◌^◌, ◌<◌, ◌≤◌, List, [], ◌∷◌, map}
use Rattle.machine_model.specs.declared.region.Region.{Region}
use Rattle.meminterval.specs.declared.interval.Interval.{Interval}
use Rattle.mapped_regions.specs.Regions.{AreHeld}
use Rattle.mapped_regions.specs.declared.region_tree.Kind.{Kind}

-- the region of the pages in an interval, with the kind at it
abbrev pub region_of : Interval ℕ × Kind → Region
region_of e = record { start = 4096 * e.0.start; pages = e.0.end - e.0.start; heap = e.1.heap; rights = e.1.rights }

-- the regions of a tree's intervals, in their order
abbrev pub pair_regions : List (Interval ℕ × Kind) → List Region
pair_regions es = map region_of es

-- an interval that begins at a page of the address space and ends in it
pub record ArePages (pages : Interval ℕ) : Type 0 where
  pub some : pages.start ≤ pages.end
  pub within : pages.end ≤ 2 ^ 52
  pub below : pages.start < 2 ^ 52

-- the pages of a region
pub record ArePagesOf (region : Region) (interval : Interval ℕ) : Type 0 where
  pub start : 4096 * interval.start ≡ region.start
  pub pages : interval.end ≡ interval.start + region.pages
  pub within : interval.end ≤ 2 ^ 52

-- intervals one after the other between two pages, each of at least one page
abbrev pub Follow : ℕ → List (Interval ℕ × Kind) → ℕ → Type 0
Follow from [] to = from ≤ to
Follow from (e ∷ es) to = (from ≤ e.0.start) × (e.0.start < e.0.end) × Follow e.0.end es to

-- What a tree keeps for a window from the page base on: its intervals follow each other, and the pages of the window
-- before the page hint are in regions.
pub record IsTreeKept (base hint : ℕ) (es : List (Interval ℕ × Kind)) : Type 0 where
  pub follow : Follow 0 es (2 ^ 52)
  pub above : base ≤ hint
  pub held : AreHeld (4096 * base) (4096 * hint) (pair_regions es)
