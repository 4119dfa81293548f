use Rattle.std.proofs.Common.{◌≡◌, ◌+◌, ◌∙◌, sym, true}
use Rattle.std.proofs.lemmas.Bool.{false≢true}
use Rattle.paged_systems.specs.System.{paged}
use Rattle.paged_systems.proofs.Twins.{twin_released, in_units}
use Rattle.paged_systems.proofs.twin_system.TwinSystemAllocator.free_part.Goals as goal

pub invariant_of-self : goal.invariant_of-self
invariant_of-self c =
    let taken : c.free_part.result ≡ true = c.free_part.ensures.answer ∙ in_units c.args.new_size c.if-new_size-ne0.false in
    record {
      twin = twin_released (paged c.args.self.now.mapped) (paged c.free_part.new.self) c.args.self.now.flat c.args.at
          c.args.old_size c.args.new_size (c.args.at + c.args.new_size) (c.args.at + c.args.old_size) c.args.self.now.twin
          (c.free_part.ensures.follows taken) (c.free_part.ensures.regions taken) c.free_part.ensures.words;
    }

pub returns-clause-same : goal.returns-clause-same
returns-clause-same c = λ kept.
    let taken : c.free_part.result ≡ true = c.free_part.ensures.answer ∙ in_units c.args.new_size c.if-new_size-ne0.false in
    absurd (false≢true (sym kept ∙ taken))
