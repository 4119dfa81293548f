use Rattle.heap_picture.proofs.Joins.{each_is_in_one}
use Rattle.heap_picture.proofs.laws.each_region_is_in_one_line.Goals as goal

pub returns : goal.returns
returns c = each_is_in_one
