use Rattle.std.proofs.Common.{ap, ◌∙◌}
use Rattle.paging_core.specs.Pool.{is_frame_free}
use Rattle.paging_core.proofs.Given.{given_other}
use Rattle.paging_core.proofs.laws.giving_keeps_the_tree.Goals as goal

pub returns : goal.returns
returns c = λ words root free free' frame tree given unmet. record {
  rights = tree.rights;
  distinct = tree.distinct;
  plain = tree.plain;
  inside = tree.inside;
  used = λ l n b le is. ap (λ flags. is_frame_free flags b.frame) given ∙ (given_other free frame b.frame (unmet l n b le is) ∙ tree.used l n b le is);
}
