use Rattle.std.proofs.Common.{refl}
use Rattle.heap_picture.proofs.picture.PictureCommand.run.Goals as goal

pub returns-clause-few : goal.returns-clause-few
returns-clause-few g c = c.picture_main.ensures.tells.statuses

pub returns-clause-comes : goal.returns-clause-comes
returns-clause-comes g c = (c.picture_main.result, refl, c.picture_main.ensures.tells)
