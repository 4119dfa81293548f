-- The children of a node.
use Rattle.std.specs.Prelude.{◌≡◌, ℕ, ◌+◌, ◌<◌, Bool, true, false}
use Rattle.bins.specs.declared.leaf.Child.{Child}
use Rattle.bins.specs.Tries.{slot}

-- a child of a node, on a side
pub record IsChildOf (words : ℕ → ℕ) (at : ℕ) (side : Bool) (child : ℕ) : Type 0 where
  pub some : 0 < at
  pub real : 0 < child
  pub named : child ≡ words (at + slot side)

-- the left child of a node, or its right child if it has no left one
pub record IsFirstChild (words : ℕ → ℕ) (at : ℕ) (child : Child) : Type 0 where
  pub is : child.at ≡ words (at + slot child.is_upper)
  pub lower : child.is_upper ≡ false → 0 < child.at
  pub upper : child.is_upper ≡ true → words (at + 32) ≡ 0
  pub left : child.at ≡ 0 → words (at + 32) ≡ 0
  pub right : child.at ≡ 0 → words (at + 40) ≡ 0
