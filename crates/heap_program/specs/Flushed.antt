-- What of the bytes taken is flushed.
use Rattle.std.specs.Prelude.{◌≡◌, ◌⊎◌, ⊤, ℕ, List, Option, None, Some, length}

-- all bytes that were taken are flushed, if both are told
abbrev pub IsAllFlushed : Option (List ℕ) → Option ℕ → Type 0
IsAllFlushed (Some taken) (Some flushed) = flushed ≡ length taken
IsAllFlushed None flushed = ⊤
IsAllFlushed (Some taken) None = ⊤

-- a sink was not called, or all that it has taken is flushed
abbrev pub IsUpToDate : {K : Type 0} → (K → Option (List ℕ)) → (K → Option ℕ) → K → K → Type 0
IsUpToDate taken flushed old new = (new ≡ old) ⊎ IsAllFlushed (taken new) (flushed new)
