use Rattle.std.proofs.Common.{◌≡◌, ◌∙◌, ◌/◌, ◌^◌, ap, arith}
use Rattle.limzhur_c.proofs.tables_calls.map_slot.Goals as goal
use Rattle.limzhur_c.proofs.tables_calls.map_slot.Goals.{After-map_large_with}

page_is : (c : goal.After-map_large_with) → c.in-Ok-page.page ≡ c.args.address / 2 ^ 21
page_is c = c.in-Ok-page.ensures.ok ∙ ap (λ a. a / 2 ^ 21) c.in-Ok.ensures.ok

run_is : (c : goal.After-map_large_with) → c.containing_address-run.result ≡ c.args.frame / 512
run_is c = omega (arith, c.containing_address-run.ensures, c.new.ensures)

pub returns-in-Ok-map_large_with-clause-mapped : goal.returns-in-Ok-map_large_with-clause-mapped
returns-in-Ok-map_large_with-clause-mapped c =
    let at = (goal.at.returns-in-Ok-map_large_with-clause-mapped c).After-map_large_with in
    λ _. rw (c.open.ensures.tables, page_is at, run_is at) at c.in-Ok-map_large_with.ensures.mapped
