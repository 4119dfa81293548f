use Rattle.std.proofs.Common.{rules}
use Rattle.kernel_heap.proofs.machine.Machine.new.Goals as goal

pub returns-clause-new : goal.returns-clause-new
returns-clause-new c = record {
  good = search rules;
  stands = search rules;
  heap = search rules;
  intact = search rules;
  registers = search rules;
}
