use Rattle.std.proofs.Common.{ℕ, [], Option, sym, ◌∙◌, ap, string_bytes}
use Rattle.std.proofs.lemmas.List.{append-nil}
use Rattle.std.proofs.lemmas.Result.{on_ok_weaker}
use Rattle.memory_image.specs.Traced.{behind}
use Rattle.memory_image.specs.Walks.{cr2_line}
use Rattle.memory_image.proofs.Imaging.{traced_one}
use Rattle.memory_image.proofs.tracing.TracedRespond.respond.Goals as goal

-- after the answer to a probe stands its walk
pub returns-in-Some : goal.returns-in-Some
returns-in-Some c = on_ok_weaker c.push_walk.result (λ written.
    traced_one c.args.self.now (record c.args.self.now { machine = c.respond.new.self }) c.args.item _ _ _
    (cr2_line c.respond.new.self c.in-Some.at) c.in_ok-respond.ensures
    (ap (λ (probed : Option ℕ). behind probed c.respond.new.self) (sym c.probed_address-probed.ensures ∙ c.in-Some.is)) written) c.push_walk.ensures

-- and nothing after another
pub returns-in-None : goal.returns-in-None
returns-in-None c =
    traced_one c.args.self.now (record c.args.self.now { machine = c.respond.new.self }) c.args.item _ _ _ [] c.in_ok-respond.ensures
    (ap (λ (probed : Option ℕ). behind probed c.respond.new.self) (sym c.probed_address-probed.ensures ∙ c.in-None.is))
    (sym (append-nil (string_bytes c.respond.new.output)))
