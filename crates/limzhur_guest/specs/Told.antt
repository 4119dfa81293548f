-- What C is told of an access.
use Rattle.std.specs.Prelude.{ℕ, ◌+◌, ◌*◌, ◌/◌, ◌%◌, ◌^◌, Bool, not, ◌==◌, ◌&&◌, if◌then◌else◌, List, Option, Some, None}
use Rattle.paging_core.specs.Address.{is_canonical}
use Rattle.paging_core.specs.Entry.{has_bit}
use Rattle.guest_walk.specs.GuestWalk.{Ending, NotPresent, Reserved, AtPage, Finding, page_bytes, guest_walk}
use Rattle.guest_walk.specs.GuestAccess.{fault_in}
use Rattle.limzhur_guest.specs.Words.{mode_of, kind_of, by_user, root_of}
use Rattle.limzhur_guest.specs.declared.access.GuestPlace.{GuestPlace}

-- 0 if the access is granted, or bit 31 and the code of the page fault
abbrev pub answer_told : Option ℕ → ℕ
answer_told None = 0
answer_told (Some code) = 2 ^ 31 + code

-- the answer to an access if the walk ended like this
abbrev pub access_told : Ending → ℕ → ℕ → ℕ
access_told ending flags access = answer_told (fault_in (mode_of flags) ending (kind_of access) (by_user access))

-- The place of the byte at an address, whose page an entry of this step maps: its physical address, the page's bytes, the
-- rights and the type that the walk found, and whether the access sets an accessed bit, or the page's dirty bit.
abbrev pub place_of : ℕ → Finding → ℕ → ℕ → GuestPlace
place_of step found address access = record {
  physical = 4096 * found.place.frame + address % 4096;
  size = page_bytes step;
  write = found.place.write;
  user = found.place.user;
  fetch = found.place.fetch;
  through = found.place.through;
  uncached = found.place.uncached;
  global = found.place.global;
  sets_accessed = not found.accessed;
  sets_dirty = has_bit access 1 && not found.dirty;
}

-- the place after an access that is granted if the walk ended like this
abbrev pub place_told : Ending → ℕ → ℕ → GuestPlace → GuestPlace
place_told (NotPresent step) address access old = old
place_told (Reserved step) address access old = old
place_told (AtPage step found) address access old = place_of step found address access

-- how the walk of an address over these words ends
abbrev pub ending_at : List ℕ → ℕ → ℕ → ℕ → ℕ → Ending
ending_at words cr3 address width flags = guest_walk (mode_of flags) width words (root_of cr3) (address / 4096)

-- the answer to an access over these words; bit 30 if the address is not canonical
abbrev pub translate_told : List ℕ → ℕ → ℕ → ℕ → ℕ → ℕ → ℕ
translate_told words cr3 address width flags access =
    if is_canonical address then access_told (ending_at words cr3 address width flags) flags access else 2 ^ 30
