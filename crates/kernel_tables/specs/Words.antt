-- Which words of the memory a call on pages may change.
use Rattle.std.specs.Prelude.{◌≡◌, ℕ, ◌+◌, ◌%◌, ◌<◌, Bool, true, false, Some, None}
use Rattle.paging_core.specs.Memory.{word_at}
use Rattle.paging_core.specs.Pool.{is_frame_free}
use Rattle.paging_core.specs.Prefix.{prefix_of}
use Rattle.paging_core.specs.Walk.{Place, reach}
use Rattle.kernel_tables.specs.TableState.{TableState}

-- The walk to one of these pages meets a table in the frame, and goes on from it by this entry.
pub record IsOnTheWay (pages : ℕ → Bool) (state : TableState) (frame index : ℕ) : Type 0 where
  pub page : ℕ
  pub level : ℕ
  pub table : Place
  pub named : pages page ≡ true
  pub of_table : level < 4
  pub met : reach state.words state.root level (prefix_of page level) ≡ Some table
  pub here : table.frame ≡ frame
  pub by_index : index ≡ prefix_of page (level + 1) % 512

-- No frame becomes free, and each new table lies in a frame that was free and is no longer. No word is changed but the entries on
-- the way to these pages and those of the frames that were taken: what lies in a frame that stays free stays, too.
pub record KeepsOtherWords (pages : ℕ → Bool) (old new : TableState) : Type 0 where
  pub fewer : (frame : ℕ) → is_frame_free old.free frame ≡ false → is_frame_free new.free frame ≡ false
  pub made :
      (level number : ℕ) (met : Place) → level < 4 → reach old.words old.root level number ≡ None → reach new.words new.root level number ≡ Some met →
      (is_frame_free old.free met.frame ≡ true) × (is_frame_free new.free met.frame ≡ false)
  pub words :
      (frame index : ℕ) → index < 512 → (is_frame_free old.free frame ≡ true → is_frame_free new.free frame ≡ true) →
      (IsOnTheWay pages old frame index → ⊥) → word_at new.words frame index ≡ word_at old.words frame index
