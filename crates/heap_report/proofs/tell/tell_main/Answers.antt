use Rattle.std.proofs.Common.{rules}
use Rattle.heap_report.proofs.tell.tell_main.Goals as goal

pub returns-in-Some-clause-tells : goal.returns-in-Some-clause-tells
returns-in-Some-clause-tells g c = record {
  statuses = c.tell_new.ensures.statuses.1;
  usage = search rules;
  nothing = λ one. absurd (c.tell_new.ensures.statuses.0 one);
  run = λ config is. search rules;
}

pub returns-in-None-clause-tells : goal.returns-in-None-clause-tells
returns-in-None-clause-tells g c = record {
  statuses = search rules;
  usage = search rules;
  nothing = search rules;
  run = search rules;
}
