-- The slots that an answer lists, and the pages that it maps.
use Rattle.std.proofs.Common.{◌≡◌, ℕ, ◌/◌, ◌%◌, List, [], ◌∷◌, find, refl, arith, Option, Some, None, IsFalse}
use Rattle.std.specs.Prelude.{⊤, MatchOption}
use Rattle.std.specs.List.{AllByRecursion}
use Rattle.paging_core.specs.Address.{IsCanonicalRange}
use Rattle.paging_core.specs.Walk.{reach}
use Rattle.paging_core.specs.declared.page_table.Rights.{Rights}
use Rattle.machine_model.specs.declared.region.Region.{Region}
use Rattle.machine_model.specs.declared.call.Call.{Call}
use Rattle.machine_model.specs.declared.call.Call.TheVariants.{Malloc, Calloc, Realloc, CRealloc, Free, Write, Read, Map, Unmap, Probe, Trim, SetRate, SetGranularity, Reset, Extents}
use Rattle.machine_model.specs.declared.answer.Reply.{Reply}
use Rattle.machine_model.specs.declared.answer.Reply.TheVariants.{Block as Placed}
use Rattle.machine_model.specs.State.{State}
use Rattle.machine_model.specs.Tables.{has_table}
use Rattle.machine_model.specs.Slots.{slot_number, slot_prefix, listed_slots, AreAscending, IsSlotOf}
use Rattle.machine_model.specs.Refusal.{wanted_by}
use Rattle.machine_model.specs.Answer.{is_new, NewPages, granted_pages, new_pages, slots_of, AreNewSlots}
use Rattle.machine_model.specs.Machine.{Paged, HasGotPages, Seen, Stands}
use Rattle.machine_model.proofs.Added.{not_had, slot_was_bare}
use Rattle.machine_model.proofs.Slots.{all_slots}

pub slots_listed : (slots : List ℕ) → slots_of (listed_slots slots) ≡ slots
slots_listed [] = refl
slots_listed (slot ∷ rest) = refl

-- an answer may list ascending slots of its new pages that had no table
pub allowed_slots : (s : State) (call : Call) (reply : Reply) (regions : Option (List Region)) (new : NewPages)
    (slots : List ℕ) → new_pages s call reply regions ≡ Some new →
    AreAscending slots → AllByRecursion (IsSlotOf new.start new.pages) slots → AllByRecursion (λ slot. IsFalse (has_table s.tables (slot_prefix slot))) slots →
    MatchOption (listed_slots slots) ⊤ (λ listed. MatchOption (new_pages s call reply regions) ⊥ (λ pages. AreNewSlots s pages listed))
allowed_slots s call reply regions new [] is ascending within bare = tt
allowed_slots s call reply regions new (slot ∷ rest) is ascending within bare =
    rw is (record { some = λ none. absurd (cc); ascending = ascending; within = within; no_table = bare })

-- the slots that a machine maps by one entry had no table in the state for which it stands
pub slots_bare : (m : Seen) (new : Paged) (s : State) (address pages : ℕ) (rights : Rights) → Stands m s →
    IsCanonicalRange (address / 4096) pages → address % 4096 ≡ 0 →
    HasGotPages m.paged new address pages rights → AllByRecursion (λ slot. IsFalse (has_table s.tables (slot_prefix slot))) new.slots
slots_bare m new s address pages rights stands range whole added = all_slots (λ slot. IsFalse (has_table s.tables (slot_prefix slot))) new.slots (λ slot listed.
    not_had (reach m.paged.words m.paged.root 3 (slot_number slot)) (slot_was_bare m.paged new address pages rights range whole stands.tree added slot listed)
    (has_table s.tables (slot_prefix slot)) (stands.tables_met 3 (slot_number slot) (omega arith) (omega arith)))

-- a block is handed out: pages are new only if the heap regions are listed
pub placed_none : (s : State) (call : Call) (number address : ℕ) → new_pages s call (Placed number address) None ≡ None
placed_none s (Malloc size align) number address = refl
placed_none s (Calloc size align) number address = refl
placed_none s (Realloc old size) number address = refl
placed_none s (CRealloc old size) number address = refl
placed_none s (Free old) number address = refl
placed_none s (Write old offset bytes) number address = refl
placed_none s (Read old offset count) number address = refl
placed_none s (Map start pages rights) number address = refl
placed_none s (Unmap start pages) number address = refl
placed_none s (Probe at access user) number address = refl
placed_none s (Trim pad) number address = refl
placed_none s (SetRate rate) number address = refl
placed_none s (SetGranularity granularity) number address = refl
placed_none s Reset number address = refl
placed_none s Extents number address = refl

pub placed_some : (s : State) (call : Call) (number address : ℕ) (list : List Region) →
    new_pages s call (Placed number address) (Some list) ≡ granted_pages s (wanted_by s call) (find (is_new s.heap) list)
placed_some s (Malloc size align) number address list = refl
placed_some s (Calloc size align) number address list = refl
placed_some s (Realloc old size) number address list = refl
placed_some s (CRealloc old size) number address list = refl
placed_some s (Free old) number address list = refl
placed_some s (Write old offset bytes) number address list = refl
placed_some s (Read old offset count) number address list = refl
placed_some s (Map start pages rights) number address list = refl
placed_some s (Unmap start pages) number address list = refl
placed_some s (Probe at access user) number address list = refl
placed_some s (Trim pad) number address list = refl
placed_some s (SetRate rate) number address list = refl
placed_some s (SetGranularity granularity) number address list = refl
placed_some s Reset number address list = refl
placed_some s Extents number address list = refl
