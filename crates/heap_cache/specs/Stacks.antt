-- Stacks of addresses, in rows of 16 words: a row's first word says how many of the others are in use (own).
use Rattle.std.specs.Prelude.{◌≡◌, ◌≢◌, ℕ, ◌+◌, ◌*◌, ◌<◌, ◌≤◌, List, slice_index}

-- how many addresses are on a stack
abbrev pub height : List ℕ → ℕ → ℕ
height rows class = slice_index rows (class * 16)

-- each row has no more than it has words for
abbrev pub AreWithin : List ℕ → Type 0
AreWithin rows = (class : ℕ) → class < 66 → height rows class ≤ 15

-- an address lies on a stack, at a place
pub record LiesOn (rows : List ℕ) (class address : ℕ) : Type 0 where
  pub place : ℕ
  pub some : 0 < place
  pub low : place ≤ height rows class
  pub is : slice_index rows (class * 16 + place) ≡ address

-- An address came onto a stack, above all others. No other word changed.
pub record IsPushed (old : List ℕ) (class address : ℕ) (new : List ℕ) : Type 0 where
  pub more : height new class ≡ height old class + 1
  pub here : slice_index new (class * 16 + (height old class + 1)) ≡ address
  pub others : (i : ℕ) → i ≢ class * 16 → i ≢ class * 16 + (height old class + 1) → slice_index new i ≡ slice_index old i

-- The highest address left a stack. No other word changed but the row's first.
pub record IsPopped (old : List ℕ) (class address : ℕ) (new : List ℕ) : Type 0 where
  pub less : height new class + 1 ≡ height old class
  pub was : slice_index old (class * 16 + height old class) ≡ address
  pub others : (i : ℕ) → i ≢ class * 16 → slice_index new i ≡ slice_index old i
