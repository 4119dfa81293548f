-- The slots that are free again, by a pool's slots and by its lists.
use Rattle.std.proofs.Common.{◌≡◌, ℕ, ◌+◌, ◌-◌, ◌^◌, Bool, true, false, not, ◌&&◌, ◌==◌, if◌then◌else◌, List, [], ◌∷◌, ◌++◌, length, length-append, is_some, refl, sym, ap, ◌∙◌, arith, Some}
use Rattle.std.specs.Prelude.{nat_lt}
use Rattle.std.proofs.lemmas.List.Elements.{filter-append}
use Rattle.object_pool.specs.declared.slots.Slot.{Slot}
use Rattle.object_pool.specs.Lists.{Entry, Lists, object_count, AreFreeAgain}
use Rattle.object_pool.specs.Slots.{slot_at, is_reusable, AreFreed}
use Rattle.object_pool.specs.Pool.{past_entries, present, Holds}
use Rattle.object_pool.proofs.Entries.{entry_at, history, length_past}
use Rattle.object_pool.proofs.KeyLists.{objects, none_past}
use Rattle.object_pool.proofs.SlotLists.{times}

abbrev one : Bool → ℕ
one b = if b then 1 else 0

-- the history of a slot has the one object that is in it
objects_in : (index : ℕ) (slot : Slot) (bytes : List ℕ) → object_count (history index slot bytes) ≡ one slot.used
objects_in index slot bytes =
    ap length (filter-append (λ (entry : Entry). is_some entry.bytes) (past_entries index slot.generation)
    (present index slot bytes) ∙ ap (λ (list : List Entry). list ++ objects (present index slot bytes))
    (none_past index slot.generation))
    ∙ go slot.used
  where
    go : (b : Bool) → length (objects (if b then entry_at index slot.generation (Some bytes) ∷ [] else [])) ≡ one b
    go true = refl
    go false = refl

entries_in : (index : ℕ) (slot : Slot) (bytes : List ℕ) → length (history index slot bytes) ≡ slot.generation + one slot.used
entries_in index slot bytes =
    length-append (past_entries index slot.generation) (present index slot bytes)
    ∙ (ap (λ n. n + length (present index slot bytes)) (length_past index slot.generation)
    ∙ ap (λ n. slot.generation + n) (go slot.used))
  where
    go : (b : Bool) → length {A = Entry} (if b then entry_at index slot.generation (Some bytes) ∷ [] else []) ≡ one b
    go true = refl
    go false = refl

-- whether a slot may be used again, by the number of its objects and that of its entries
abbrev again : ℕ → ℕ → Bool
again count entries = count == 0 && nat_lt 0 entries && nat_lt entries (2 ^ 32 - 1)

again_is : (slot : Slot) → again (one slot.used) (slot.generation + one slot.used) ≡ is_reusable slot
again_is slot = go slot.used
  where
    go : (b : Bool) → again (one b) (slot.generation + one b) ≡ (not b && nat_lt 0 slot.generation && nat_lt slot.generation (2 ^ 32 - 1))
    go true = refl
    go false = ap (again 0) (let same : slot.generation + 0 ≡ slot.generation = omega arith in same)

-- Slots that hold the entries, with the freed ones in the list, make it so.
pub free_again : (slots : List Slot) (freed : List ℕ) (bytes : ℕ → List ℕ) (lists : Lists) → Holds slots freed bytes lists →
    AreFreed slots freed → AreFreeAgain lists
free_again slots freed bytes lists holds are index =
    let slot = slot_at slots index in
    ap (times index) holds.freed_are
    ∙ (are index
    ∙ sym (ap one (ap (λ (list : List Entry). again (object_count list) (length list)) (holds.entries index)
    ∙ (ap (λ n. again n (length (history index slot (bytes index)))) (objects_in index slot (bytes index))
    ∙ (ap (again (one slot.used)) (entries_in index slot (bytes index)) ∙ again_is slot)))))
