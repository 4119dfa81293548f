-- Sources and sinks in memory, of which chosen calls fail.
use Rattle.std.specs.Prelude.{ℕ, ◌+◌, ◌-◌, ◌^◌, min, Bool, ◌&&◌, ◌==◌, nat_lt, List, if◌then◌else◌}
use Rattle.std.specs.List.{list_any}

-- the calls of a source or a sink
pub record Calls : Type 0 where
  -- how many came; the count stays at 2 ^ 64 - 1 once it is there
  pub made : ℕ
  -- the numbers of those that fail, the first call being number 0
  pub failing : List ℕ
  -- how many failed; this count stays at 2 ^ 64 - 1 too
  pub faults : ℕ

-- whether the next call fails; from number 2 ^ 64 - 1 on none does
abbrev pub fails_next : Calls → Bool
fails_next calls = nat_lt calls.made (2 ^ 64 - 1) && list_any (λ number. number == calls.made) calls.failing

-- one more came
abbrev pub after_call : Calls → Calls
after_call calls = record {
  made = min (calls.made + 1) (2 ^ 64 - 1);
  failing = calls.failing;
  faults = if fails_next calls then min (calls.faults + 1) (2 ^ 64 - 1) else calls.faults;
}

-- no call came yet
abbrev pub planned : List ℕ → Calls
planned failing = record { made = 0; failing = failing; faults = 0 }

-- a source: the bytes that are left, of which a read gives no more than the given number
pub record PiecewiseSource : Type 0 where
  pub left : List ℕ
  pub piece : ℕ
  pub calls : Calls

-- a sink: the bytes taken, of which a write takes no more than the given number, and how many of them are flushed
pub record PiecewiseSink : Type 0 where
  pub taken : List ℕ
  pub flushed : ℕ
  pub piece : ℕ
  pub calls : Calls
