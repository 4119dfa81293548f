use Rattle.std.proofs.Common.{rules}
use Rattle.memory_image.proofs.command.image_main.Goals as goal

pub returns-in-Some-clause-images : goal.returns-in-Some-clause-images
returns-in-Some-clause-images g c = record {
  statuses = c.image_new.ensures.statuses.1;
  usage = search rules;
  nothing = λ one. absurd (c.image_new.ensures.statuses.0 one);
  run = λ config is. search rules;
}

pub returns-in-None-clause-images : goal.returns-in-None-clause-images
returns-in-None-clause-images g c = record {
  statuses = search rules;
  usage = search rules;
  nothing = search rules;
  run = search rules;
}
