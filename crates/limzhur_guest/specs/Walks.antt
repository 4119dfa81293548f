-- A walk whose entries C reads.
use Rattle.std.specs.Prelude.{◌≡◌, ℕ, ◌+◌, ◌*◌, ◌/◌, ◌%◌, ◌^◌, ◌<◌, Bool, true, false, IsTrue, ◌==◌, if◌then◌else◌, List}
use Rattle.paging_core.specs.Address.{is_canonical}
use Rattle.paging_core.specs.Walk.{Place}
use Rattle.guest_walk.specs.Mode.{entry_seen}
use Rattle.guest_walk.specs.GuestWalk.{Ending, NotPresent, Reserved, AtPage, Finding, read_at, by_entry}
use Rattle.limzhur_guest.specs.Words.{mode_of}
use Rattle.limzhur_guest.specs.Told.{access_told}
use Rattle.limzhur_guest.specs.declared.steps.GuestWalk.{GuestWalk}

-- the table that the walk is at, or at its end the page
abbrev pub found_so_far : GuestWalk → Finding
found_so_far walk = record {
  place = record {
    frame = walk.frame;
    write = walk.write;
    user = walk.user;
    fetch = walk.fetch;
    through = walk.through;
    uncached = walk.uncached;
    global = walk.global;
  };
  accessed = walk.accessed;
  dirty = walk.dirty;
}

-- a walk as these calls leave it
pub record IsWalk (walk : GuestWalk) : Type 0 where
  pub frame : walk.frame < 2 ^ 40
  pub told : walk.told < 5
  pub canonical : walk.told ≡ 0 → IsTrue (is_canonical walk.address)

-- how the walk ends, if this is its next entry, and those after it are these words
abbrev pub onward_from : List ℕ → GuestWalk → ℕ → Ending
onward_from words walk entry =
    by_entry (mode_of walk.mode) walk.width words (walk.address / 4096) walk.step (found_so_far walk)
    (entry_seen (mode_of walk.mode) walk.step entry)

-- how it ended, by what C is told
abbrev pub ended : GuestWalk → Ending
ended walk =
    if walk.told == 1 then AtPage walk.step (found_so_far walk) else if walk.told == 2 then NotPresent walk.step else Reserved walk.step

-- how it ends: as C is told, or if it goes on, as it does if its next entry and those after it are these words
abbrev pub onward : List ℕ → GuestWalk → Ending
onward words walk =
    if walk.told == 0
    then by_entry (mode_of walk.mode) walk.width words (walk.address / 4096) walk.step (found_so_far walk)
    (read_at (mode_of walk.mode) words walk.step walk.frame (walk.address / 4096))
    else ended walk

-- the answer to an access at the end of a walk: bit 30 if it did not begin, and bit 29 if it has not ended
abbrev pub walk_access_told : GuestWalk → ℕ → ℕ
walk_access_told walk access =
    if walk.told == 0 then 2 ^ 29 else if walk.told == 4 then 2 ^ 30 else access_told (ended walk) walk.mode access
