-- Bytes that are there for a part of a run.
use Rattle.std.specs.Prelude.{ℕ, ◌+◌, ◌-◌, ◌*◌, ◌^◌, min, max, Bool, ◌&&◌, nat_lt, nat_le, List, map, if◌then◌else◌}
use Rattle.std.specs.List.{sum_by, filter}
use Rattle.heap_history.specs.declared.history.Stay.{Stay}
use Rattle.heap_history.specs.declared.history.Held.{Held}
use Rattle.heap_cells.specs.declared.spans.Span.{Span}

-- what a block covers while it stays: one byte at least
abbrev pub stay_span : Stay → Span
stay_span stay = record { start = stay.address; bytes = max 1 stay.size; born = stay.born; end = stay.end }

-- the spans of all stays of blocks, in their order
abbrev pub stay_spans : List Stay → List Span
stay_spans stays = map stay_span stays

-- the bytes of pages while the heap has them; no region has 2 ^ 64 bytes
abbrev pub held_span : Held → Span
held_span held = record { start = held.start; bytes = min (4096 * held.pages) (2 ^ 64 - 1); born = held.born; end = held.end }

-- the spans of all that the heap held, in their order
abbrev pub held_spans : List Held → List Span
held_spans heap = map held_span heap

-- Whether a span shows after `calls` calls: the call with which it comes has been made, and the one that ends it has not. Calls count
-- from 0, so it shows after call k if born ≤ k < end.
abbrev pub shows : ℕ → Span → Bool
shows calls span = nat_lt span.born calls && nat_le calls span.end

-- the bytes from one address to another that a span has
abbrev pub overlap : ℕ → ℕ → Span → ℕ
overlap low high span = min (span.start + span.bytes) high - max span.start low

-- the spans that have a byte from one address to another
abbrev pub spans_in : ℕ → ℕ → List Span → List Span
spans_in low high spans = filter (λ span. nat_lt 0 (overlap low high span)) spans

-- the bytes from one address to another in the spans that show after `calls` calls
abbrev pub used_in : ℕ → ℕ → ℕ → List Span → ℕ
used_in low high calls spans = sum_by (λ span. if shows calls span then overlap low high span else 0) spans
