use Rattle.std.proofs.Common.{◌≡◌, ◌/◌, sym, refl, ap, ◌∙◌}
use Rattle.kernel_tables.specs.Grants.{user_of}
use Rattle.kernel_tables.specs.Ranges.{protect_range_fault}
use Rattle.limzhur_c.specs.TablesCodes.{range_code, fault_detail, grant_range_cause}
use Rattle.limzhur_c.proofs.Told.{made, refused}
use Rattle.limzhur_c.proofs.RangeCauses.{grant_off_half, grant_asked}
use Rattle.limzhur_c.proofs.tables_calls.grant_pages.Goals as goal
use Rattle.limzhur_c.proofs.tables_calls.grant_pages.Goals.{After-grant_range}

-- ---- what the tables were asked

page_is : (c : goal.After-grant_range) → c.containing_address.result ≡ c.args.address / 4096
page_is c = c.containing_address.ensures ∙ ap (λ a. a / 4096) c.in-Ok.ensures.ok

cause_is : (c : goal.After-grant_range) →
    protect_range_fault c.open.result.now c.containing_address.result c.args.pages (user_of c.args.grant)
    ≡ grant_range_cause c.args.handle.now.tables c.args.address c.args.pages (user_of c.args.grant)
cause_is c =
    sym (grant_asked c.args.handle.now.tables c.open.result.now c.args.address c.args.pages c.containing_address.result (user_of c.args.grant)
    (c.in-Ok.ensures.canonical.0 refl) c.open.ensures.tables (page_is c))

pub returns-in-Ok-grant_range-clause-granted : goal.returns-in-Ok-grant_range-clause-granted
returns-in-Ok-grant_range-clause-granted c =
    λ _. rw (c.open.ensures.tables, page_is (goal.at.returns-in-Ok-grant_range-clause-granted c).After-grant_range) at c.in-Ok-grant_range.ensures.granted

pub returns-in_default-clause-change : goal.returns-in_default-clause-change
returns-in_default-clause-change c =
    let off = grant_off_half c.args.handle.now.tables c.args.address c.args.pages (user_of c.args.grant) (λ is. let k = c.in_default.ensures.canonical.1 is in absurd (cc)) in
    record { change = refused (ap range_code (sym off)) refl; detail = ap (λ cause. fault_detail cause c.args.told.now) (sym off) }

pub returns-in-Ok-grant_range-clause-change : goal.returns-in-Ok-grant_range-clause-change
returns-in-Ok-grant_range-clause-change c =
    let at = (goal.at.returns-in-Ok-grant_range-clause-change c).After-grant_range in
    let change = c.in-Ok-grant_range.ensures.change in
    let cause = change.refused ∙ cause_is at in
    record {
      change = made (ap range_code cause) (rw (c.open.ensures.tables, page_is at) at change.only);
      detail = ap (λ cause. fault_detail cause c.args.told.now) cause;
    }

pub returns-in-Err-clause-change : goal.returns-in-Err-clause-change
returns-in-Err-clause-change c =
    let change = c.in-Err.ensures.change in
    let cause = change.refused ∙ cause_is (goal.at.returns-in-Err-clause-change c).After-grant_range in
    record {
      change = refused (c.refuse.ensures.code ∙ ap range_code cause) (change.same ∙ c.open.ensures.tables);
      detail = c.refuse.ensures.told ∙ ap (λ cause. fault_detail cause c.args.told.now) cause;
    }
