-- Frames in a row that are handed out in ascending order.
use Rattle.std.specs.Prelude.{ℕ, ◌-◌, Bool, true, false, List, ◌++◌, replicate}

-- the frames from `next` up to `end`, `end` excluded, are free
unfoldable pub ahead : ℕ → ℕ → List Bool
ahead next end = replicate next false ++ replicate (end - next) true
