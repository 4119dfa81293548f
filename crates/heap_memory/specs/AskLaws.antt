-- Calls that ask the system for nothing, one after another.
use Rattle.std.proofs.Common.{[], ◌∙◌, refl}
use Rattle.heap_memory.specs.declared.links.Links.{Ghosts as Links}
use Rattle.heap_memory.specs.Asks.{AsksNothing}

-- two times without a request make one: the second is right after the first
pub asks_on : {A : Type 0} {links : Links A} {x y z : A} → AsksNothing links x y → AsksNothing links y z → AsksNothing links x z
asks_on {links = links} first second = record {
  regions = second.regions ∙ first.regions;
  follows = links.follows_on _ _ _ [] [] [] first.follows second.follows refl;
}
