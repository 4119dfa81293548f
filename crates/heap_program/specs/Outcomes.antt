-- What holds after a call that writes, reads or runs, whether it succeeds or fails.
use Rattle.std.specs.Prelude.{◌≡◌, ◌≤◌, ◌⊎◌, ◌^◌, ℕ, List, [], Option, Result, IfOk, IfErr, OnOk, OnErr, IsErrOf}
use Rattle.std.specs.Io.KnownBytes.{IsAtEnd}
use Rattle.machine_model.specs.State.{State}
use Rattle.kernel_heap.specs.declared.machine.Machine.{Machine}
use Rattle.heap_program.specs.declared.run.Stop.{Stop}
use Rattle.heap_program.specs.declared.run.Stop.TheVariants.{Memory, ReadFault, WriteFault, TooLong}
use Rattle.heap_program.specs.declared.sink.SinkFault.{SinkFault}
use Rattle.heap_program.specs.declared.sink.SinkFault.TheVariants.{Failed, OutOfMemory}
use Rattle.heap_program.specs.Faults.{HasRisen}
use Rattle.heap_program.specs.Flushed.{IsUpToDate}
use Rattle.heap_program.specs.Headline.{IsInterrupted, IsStopped, IsKeptUp}
use Rattle.heap_program.specs.Progress.{IsAt}

-- What a write to a sink tells of its faults. The sink's count is `before`, and then `now`.
pub record TellsSinkFaults {T K : Type 0} (needs_memory : K → Type 0) (result : Result T SinkFault) (before now : ℕ) : Type 0 where
  -- the count does not go down
  pub later : before ≤ now
  -- the sink failed only if the count rose
  pub cause : IsErrOf result Failed → HasRisen before now
  -- a sink that wants no memory never fails for want of it
  pub memory : ((k : K) → needs_memory k → ⊥) → IsErrOf result OutOfMemory → ⊥

-- What a call that writes, and reads nothing, tells of why it stopped. The sink's count of faults is `before`, and then `now`.
pub record TellsSinkStop {T : Type 0} (result : Result T Stop) (before now : ℕ) : Type 0 where
  -- it was for want of memory, or because the sink failed
  pub which : IfErr result (λ stop. (stop ≡ Memory) ⊎ (stop ≡ WriteFault))
  -- the count does not go down
  pub later : before ≤ now
  -- the sink failed only if the count rose
  pub cause : IsErrOf result WriteFault → HasRisen before now

-- What a run tells of its faults. The source's count is `reads`, and then `reads'`; the sink's is `writes`, and then `writes'`.
pub record TellsRunFaults {T : Type 0} (result : Result T Stop) (reads reads' writes writes' : ℕ) : Type 0 where
  -- the counts do not go down
  pub read_later : reads ≤ reads'
  pub write_later : writes ≤ writes'
  -- the source or the sink failed only if its count rose
  pub read_cause : IsErrOf result ReadFault → HasRisen reads reads'
  pub write_cause : IsErrOf result WriteFault → HasRisen writes writes'

-- A run that stopped because the source failed, or because the input is too long, has flushed all that it has written.
pub record HasFlushed {T K : Type 0} (taken : K → Option (List ℕ)) (flushed : K → Option ℕ) (result : Result T Stop) (sink sink' : K) : Type 0 where
  pub flushed_fault : IsErrOf result ReadFault → IsUpToDate taken flushed sink sink'
  pub flushed_long : IsErrOf result TooLong → IsUpToDate taken flushed sink sink'

-- If a reading ends well, at most 2 ^ 30 bytes came, the source is at its end, and no text waits in the output.
pub record IsReadToEnd (result : Result ℕ Stop) (left : Option (List ℕ)) (output : List ℕ) : Type 0 where
  pub short : IfOk result (λ count. count ≤ 2 ^ 30)
  pub end : OnOk result (IsAtEnd left)
  pub empty : OnOk result (output ≡ [])

-- A run of a machine that stops early has read and answered a part, from each state for which the machine stood. Where the source
-- failed, or the input is too long, all lines that ended before the last piece are answered.
pub record HasRunInPart {T : Type 0} (machine : Machine) (result : Result T Stop) (had left before after : Option (List ℕ)) : Type 0 where
  pub stopped : OnErr result ((s : State) → IsAt machine s → IsStopped machine s had left before after)
  pub at_fault : IsErrOf result ReadFault → (s : State) → IsAt machine s → IsInterrupted machine s 0 had left before after
  pub at_length : IsErrOf result TooLong → (s : State) → IsAt machine s → IsInterrupted machine s 4096 had left before after
  pub kept_up : OnErr result ((s : State) → IsAt machine s → IsKeptUp machine s had left before after)
