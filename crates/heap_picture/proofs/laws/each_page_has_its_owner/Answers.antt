use Rattle.heap_picture.proofs.Whose.{each_has_its_owner}
use Rattle.heap_picture.proofs.laws.each_page_has_its_owner.Goals as goal

pub returns : goal.returns
returns c = each_has_its_owner c.each_page_is_in_its_line.ensures
