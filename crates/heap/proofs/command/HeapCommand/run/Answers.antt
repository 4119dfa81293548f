use Rattle.std.proofs.Common.{refl}
use Rattle.heap.proofs.command.HeapCommand.run.Goals as goal

pub returns-clause-comes : goal.returns-clause-comes
returns-clause-comes g c =
    let run = c.heap_main.ensures in
    record {
      ended = c.heap_main.result;
      with_status = refl;
      machine = run.machine;
      run = run.run;
      generated =
          run.generated;
      steps = run.steps;
      statuses = run.status;
    }
