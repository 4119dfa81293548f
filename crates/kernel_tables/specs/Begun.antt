-- How page tables begin.
use Rattle.std.specs.Prelude.{◌≡◌, ℕ, ◌+◌, ◌/◌, ◌%◌, ◌^◌, ◌<◌, ◌≤◌, false, List, None}
use Rattle.paging_core.specs.Area.{Part, with_zeros_around}
use Rattle.paging_core.specs.Memory.{word_at}
use Rattle.paging_core.specs.Pool.{free_count}
use Rattle.kernel_tables.specs.TableState.{TableState, leads, limit_of}

-- The words of whole frames, 512 each, make an area from the first frame on. It ends at the limit or before, and an entry can name
-- each frame below the limit.
pub record IsAreaGiven (count first limit : ℕ) : Type 0 where
  pub whole : count % 512 ≡ 0
  pub some : 0 < count
  pub below : first + count / 512 ≤ limit
  pub limit_fits : limit < 2 ^ 40

-- Tables in an area of `count` words: no page is mapped, the first frame is the root, and all others are left for
-- tables.
pub record AreBegun (count first limit : ℕ) (tables : TableState) : Type 0 where
  pub empty : (page : ℕ) → leads tables page ≡ None
  pub root : tables.root ≡ first
  pub area : tables.area ≡ Part first (first + count / 512)
  pub left : free_count tables.free + 1 ≡ count / 512
  pub limit_is : limit_of tables ≡ limit
  pub hidden : tables.shared ≡ false

-- Of the words that were lent only those of the first frame may have changed.
abbrev pub AreOthersAsLent : (lent : List ℕ) → (first limit : ℕ) → (tables : TableState) → Type 0
AreOthersAsLent lent first limit tables =
    (frame index : ℕ) → index < 512 → (frame ≡ first → ⊥) → word_at tables.words frame index ≡ word_at (with_zeros_around lent first limit) frame index
