-- What a machine is made of.
use Rattle.std.specs.Prelude.{refl}
use Rattle.std.specs.Coded.{Coded, code_by, coded×}
use Rattle.x86_registers.specs.declared.cpu.Cpu.{Cpu}
use Rattle.kernel_heap.specs.declared.numbered_heap.NumberedHeap.{NumberedHeap}

-- a numbered heap, and the registers of the processor
pub record Parts : Type 0 where
  pub heap : NumberedHeap
  pub cpu : Cpu

-- as a pair
abbrev pub coded_parts : Coded NumberedHeap → Coded Cpu → Coded Parts
coded_parts heap cpu = code_by (NumberedHeap × Cpu) (coded× heap cpu) (λ parts. (parts.heap, parts.cpu)) (λ pair. record { heap = pair.0; cpu = pair.1 }) (λ _. refl)
