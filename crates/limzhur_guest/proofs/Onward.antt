-- A walk before and after an entry, by the entries that words have.
use Rattle.std.proofs.Common.{◌≡◌, ℕ, ◌+◌, ◌/◌, List, refl}
use Rattle.guest_walk.specs.declared.mode.Mode.{Mode}
use Rattle.guest_walk.specs.Mode.{entry_seen}
use Rattle.guest_walk.specs.GuestWalk.{Finding, by_entry}
use Rattle.guest_walk.proofs.GuestSteps.{from_table}
use Rattle.limzhur_guest.specs.Words.{mode_of}
use Rattle.limzhur_guest.specs.Walks.{found_so_far, onward_from, onward}
use Rattle.limzhur_guest.specs.declared.steps.GuestWalk.{GuestWalk}

-- before the entry, in terms of what the code made of the walk
pub taken : (words : List ℕ) (walk : GuestWalk) (entry : ℕ) (mode : Mode) (page : ℕ) (from : Finding) →
    mode ≡ mode_of walk.mode → page ≡ walk.address / 4096 → from ≡ found_so_far walk →
    onward_from words walk entry ≡ by_entry mode walk.width words page walk.step from (entry_seen mode walk.step entry)
taken words walk entry mode page from a b d = rw (a, b, d) refl

-- after it, at another table
pub goes_on : (words : List ℕ) (walk : GuestWalk) (mode : Mode) (width page step : ℕ) (found : Finding) →
    mode ≡ mode_of walk.mode → width ≡ walk.width → page ≡ walk.address / 4096 → step ≡ walk.step → found ≡ found_so_far walk → walk.told ≡ 0 →
    from_table mode width words page step found ≡ onward words walk
goes_on words walk mode width page step found a b d e f told = rw (told, a, b, d, e, f) refl
