-- What a memory holds between two stores of a call, when another processor may walk its tables.
use Rattle.std.specs.Prelude.{◌≡◌, ℕ, ◌<◌, List, length}
use Rattle.paging_core.specs.Area.{Area}
use Rattle.paging_core.specs.Memory.{word_at}
use Rattle.paging_core.specs.Tree.{HasTreeIn}
use Rattle.paging_core.specs.Walk.{walk_of}

-- no word is changed but in the frame
pub record IsChangedIn (old now : List ℕ) (frame : ℕ) : Type 0 where
  pub size : length now ≡ length old
  pub others : (f i : ℕ) → i < 512 → (f ≡ frame → ⊥) → word_at now f i ≡ word_at old f i

-- The tables are a tree of plain entries, and every page leads where it led.
pub record IsStill (area : Area) (old : List ℕ) (root : ℕ) (now : List ℕ) : Type 0 where
  pub tree : HasTreeIn area now root
  pub leads : (page : ℕ) → walk_of now root page ≡ walk_of old root page
