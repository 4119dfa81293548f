-- The regions of the heap, as calls change them.
use Rattle.std.specs.Prelude.{ℕ, Bool, false, ◌&&◌, nat_eq, nat_lt, if◌then◌else◌, List, [], ◌∷◌, ◌++◌, map}
use Rattle.heap_history.specs.declared.history.Held.{Held}
use Rattle.machine_model.specs.declared.region.Region.{Region}

-- the regions that the heap has, by address, with no end yet, and those that it had, in the order in which they ended
pub record RegionNotes : Type 0 where
  pub now : List Held
  pub gone : List Held

-- whether the heap has just these pages
abbrev pub has_same_pages : Held → Region → Bool
has_same_pages held region = nat_eq held.start region.start && nat_eq held.pages region.pages

-- a region that the heap has from a call on
abbrev pub new_held : ℕ → Region → Held
new_held call region = record { start = region.start; pages = region.pages; born = call; end = 0 }

-- one that it has no more
abbrev pub ended : ℕ → Held → Held
ended call held = record { start = held.start; pages = held.pages; born = held.born; end = call }

-- those that do not begin before an address
abbrev pub held_from : ℕ → List Held → List Held
held_from start [] = []
held_from start (held ∷ more) = if nat_lt held.start start then held_from start more else held ∷ more

abbrev pub regions_from : ℕ → List Region → List Region
regions_from start [] = []
regions_from start (region ∷ more) = if nat_lt region.start start then regions_from start more else region ∷ more

-- a region goes on if the first of those that the heap had is the same one; else it begins
abbrev pub going : ℕ → Region → List Held → Held
going call region [] = new_held call region
going call region (held ∷ more) = if has_same_pages held region then held else new_held call region

-- the regions after a call that lists them, by address
abbrev pub now_after : ℕ → List Held → List Region → List Held
now_after call held [] = []
now_after call held (region ∷ list) = going call region (held_from region.start held) ∷ now_after call (held_from region.start held) list

-- whether one goes on
abbrev pub stays_on : Held → List Region → Bool
stays_on held [] = false
stays_on held (region ∷ more) = has_same_pages held region

-- the regions that end at that call
abbrev pub gone_after : ℕ → List Held → List Region → List Held
gone_after call [] list = []
gone_after call (held ∷ more) list =
    if stays_on held (regions_from held.start list) then gone_after call more (regions_from held.start list)
    else ended call held ∷ gone_after call more (regions_from held.start list)

-- the regions, after a call that lists those that the heap has then
abbrev pub regions_noted : ℕ → List Region → RegionNotes → RegionNotes
regions_noted call list notes = record { now = now_after call notes.now list; gone = notes.gone ++ gone_after call notes.now list }

-- all regions of a run of `calls` calls: those that ended, and those that the heap has at the end
abbrev pub regions_at_end : ℕ → RegionNotes → List Held
regions_at_end calls notes = notes.gone ++ map (ended calls) notes.now
