-- Flat words from an address on (own).
use Rattle.std.specs.Prelude.{◌≡◌, ℕ, ◌+◌, ◌-◌, ◌*◌, ◌/◌, ◌%◌, ◌^◌, ◌<◌, ◌≤◌, length, slice_index}
use Rattle.heap_memory.specs.Words.{IsBeside}
use Rattle.paged_systems.specs.declared.flat_window.FlatWindow.{FlatWindow}

-- an address lies among the words
abbrev pub IsCovered : FlatWindow → ℕ → Type 0
IsCovered flat at = (flat.base ≤ at) × (at < flat.base + 8 * length flat.words.items)

-- the word there
abbrev pub flat_word : FlatWindow → ℕ → ℕ
flat_word flat at = slice_index flat.words.items ((at - flat.base) / 8)

-- `count` words stand from a multiple of 8 on, below 2^64
pub record AreCovered (flat : FlatWindow) (at count : ℕ) : Type 0 where
  pub covered : (k : ℕ) → k % 8 ≡ 0 → at ≤ k → k < at + 8 * count → IsCovered flat k
  pub aligned : at % 8 ≡ 0
  pub small : at + 8 * count ≤ 2 ^ 64

-- other words that begin at the same address: no fewer
pub record IsLonger (old new : FlatWindow) : Type 0 where
  pub base : new.base ≡ old.base
  pub covered : (at : ℕ) → IsCovered old at → IsCovered new at

-- `count` words from an address on are now those that are told of their places, and every other word stays
pub record ArePutAt (old new : FlatWindow) (at count : ℕ) (told : ℕ → ℕ) : Type 0 where
  pub longer : IsLonger old new
  pub here : (k : ℕ) → k % 8 ≡ 0 → at ≤ k → k < at + 8 * count → flat_word new k ≡ told k
  pub elsewhere : (k : ℕ) → k % 8 ≡ 0 → IsCovered old k → IsBeside at count k → flat_word new k ≡ flat_word old k
