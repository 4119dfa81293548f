use Rattle.std.proofs.Common.{refl}
use Rattle.memory_image.proofs.command.MemoryImageCommand.run.Goals as goal

pub returns-clause-few : goal.returns-clause-few
returns-clause-few g c = c.image_main.ensures.images.statuses

pub returns-clause-comes : goal.returns-clause-comes
returns-clause-comes g c = (c.image_main.result, refl, c.image_main.ensures.images)
