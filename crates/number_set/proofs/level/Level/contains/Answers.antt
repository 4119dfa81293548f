use Rattle.number_set.proofs.Levels.{number_within}
use Rattle.number_set.proofs.level.Level.contains.Goals as goal

pub contains-requires : goal.contains-requires
contains-requires c =
    number_within c.self.inside.bits.words.items c.self.inside.bits.bound c.args.number c.args.self.now c.self.view_is c.requires
