-- What maps pages, and the pages of slots, and for which of them this is kept: a slot goes by the first three indices
-- of its pages, as one number in base 512 (own).
use Rattle.std.specs.Prelude.{◌≡◌, ℕ, ◌^◌, ◌<◌, List, Option, Some, IfSome, IsSome}
use Rattle.std.specs.Option.{option_map}
use Rattle.std.specs.List.{All}
use Rattle.std.proofs.Props.{props}
use Rattle.paging_core.specs.Memory.{frame_count}
use Rattle.paging_core.specs.Walk.{Place, reach, large_of, walk_of}
use Rattle.mapped_regions.specs.declared.met_slots.SlotMap.{SlotMap}
use Rattle.mapped_regions.specs.declared.met_slots.SlotMap.TheVariants as Map
use Rattle.mapped_regions.specs.declared.met_slots.Met.{Met}
use Rattle.mapped_regions.specs.declared.met_slots.MetSlots.{MetSlots}

-- the walk to the page arrives at the frame
abbrev pub IsPage : List ℕ → ℕ → ℕ → ℕ → Type 0
IsPage words root page frame = option_map (λ (place : Place). place.frame) (walk_of words root page) ≡ Some frame

-- three steps of the walk arrive at the table
abbrev pub IsTable : List ℕ → ℕ → ℕ → ℕ → Type 0
IsTable words root number table = option_map (λ (place : Place). place.frame) (reach words root 3 number) ≡ Some table

-- the walk ends after three steps, in the large page that begins at the frame
abbrev pub IsLargePage : List ℕ → ℕ → ℕ → ℕ → Type 0
IsLargePage words root number first = option_map (λ (place : Place). place.frame) (large_of words root number) ≡ Some first

-- this maps the pages of the slot
abbrev pub IsMapOf : List ℕ → ℕ → ℕ → SlotMap → Type 0
IsMapOf words root number (Map.Table table) = IsTable words root number table
IsMapOf words root number (Map.LargePage first) = IsLargePage words root number first

-- each page that is kept has this frame; 52 bits have the numbers of pages
abbrev pub ArePagesMet : List ℕ → ℕ → List Met → Type 0
ArePagesMet words root pages = All (λ (met : Met). met.number < 2 ^ 52 → IsPage words root met.number met.frame) pages

-- each slot that is kept has this table, or this large page; 27 bits have the numbers of slots
abbrev pub AreTablesMet : List ℕ → ℕ → List Met → Type 0
AreTablesMet words root slots = All (λ (met : Met). met.number < 2 ^ 27 → IsTable words root met.number met.frame) slots

abbrev pub AreLargePagesMet : List ℕ → ℕ → List Met → Type 0
AreLargePagesMet words root slots = All (λ (met : Met). met.number < 2 ^ 27 → IsLargePage words root met.number met.frame) slots

abbrev pub AreMet : List ℕ → ℕ → MetSlots → Type 0
AreMet words root slots = AreTablesMet words root slots.tables × AreLargePagesMet words root slots.large_pages × ArePagesMet words root slots.pages

-- the same, with the place, which is one of the memory
pub record LeadsTo (words : List ℕ) (root page frame : ℕ) : Type 0 where
  pub place : Place
  pub found : walk_of words root page ≡ Some place
  pub to_frame : place.frame ≡ frame
  pub below : frame < frame_count words

-- the root is a frame of the memory, and the page is mapped
pub record HasPage (words : List ℕ) (root page : ℕ) : Type 0 where
  pub below : root < frame_count words
  pub mapped : IsSome (walk_of words root page)

-- nothing is kept, so all that is kept is right
pub record KeepsNone (kept : List Met) : Type 0 where
  pub pages : (words : List ℕ) (root : ℕ) → ArePagesMet words root kept
  pub tables : (words : List ℕ) (root : ℕ) → AreTablesMet words root kept
  pub large_pages : (words : List ℕ) (root : ℕ) → AreLargePagesMet words root kept

-- the frame that is kept for a number, if one is; it is right if all that is kept is
pub record IsKept (kept : List Met) (number : ℕ) (frame : Option ℕ) : Type 0 where
  pub pages : (words : List ℕ) (root : ℕ) → ArePagesMet words root kept → IfSome frame (IsPage words root number)
  pub tables : number < 2 ^ 27 → (words : List ℕ) (root : ℕ) → AreTablesMet words root kept → IfSome frame (IsTable words root number)
  pub large_pages : number < 2 ^ 27 → (words : List ℕ) (root : ℕ) → AreLargePagesMet words root kept → IfSome frame (IsLargePage words root number)

-- all that is kept stays right if a frame that is right is kept for a number
pub record KeepsToo (old : List Met) (number frame : ℕ) (new : List Met) : Type 0 where
  pub pages : (words : List ℕ) (root : ℕ) → IsPage words root number frame → ArePagesMet words root old → ArePagesMet words root new
  pub tables : (words : List ℕ) (root : ℕ) → IsTable words root number frame → AreTablesMet words root old → AreTablesMet words root new
  pub large_pages : (words : List ℕ) (root : ℕ) → IsLargePage words root number frame → AreLargePagesMet words root old → AreLargePagesMet words root new

-- ---- this is kept in one way

pub AreMet-prop : (words : List ℕ) (root : ℕ) (slots : MetSlots) → IsProp (AreMet words root slots)
AreMet-prop words root slots = hlevel props
