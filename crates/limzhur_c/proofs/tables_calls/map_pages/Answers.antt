use Rattle.std.proofs.Common.{◌≡◌, ◌/◌, sym, refl, ap, ◌∙◌, arith}
use Rattle.kernel_tables.specs.Ranges.{map_range_fault}
use Rattle.limzhur_c.specs.TablesCodes.{range_code, fault_detail, map_range_cause}
use Rattle.limzhur_c.proofs.Told.{made, refused}
use Rattle.limzhur_c.proofs.RangeCauses.{map_off_half, map_far, map_asked}
use Rattle.limzhur_c.proofs.tables_calls.map_pages.Goals as goal
use Rattle.limzhur_c.proofs.tables_calls.map_pages.Goals.{After-map_range_with}

-- ---- what the tables were asked

page_is : (c : goal.After-map_range_with) → c.containing_address.result ≡ c.args.address / 4096
page_is c = c.containing_address.ensures ∙ ap (λ a. a / 4096) c.in-Ok.ensures.ok

frame_is : (c : goal.After-map_range_with) → c.containing_address-frame.result ≡ c.args.frame
frame_is c = omega (arith, c.containing_address-frame.ensures, c.new.ensures)

cause_is : (c : goal.After-map_range_with) →
    map_range_fault c.open.result.now c.containing_address.result c.args.pages c.containing_address-frame.result c.args.bits.user
    ≡ map_range_cause c.args.handle.now.tables c.args.address c.args.pages c.args.frame c.args.bits.user
cause_is c =
    sym (map_asked c.args.handle.now.tables c.open.result.now c.args.address c.args.pages c.args.frame
    c.containing_address.result c.containing_address-frame.result c.args.bits.user
    (c.in-Ok.ensures.canonical.0 refl) (omega (arith, c.if-frame.false)) c.open.ensures.tables (page_is c) (frame_is c))

pub returns-in-Ok-map_range_with-clause-mapped : goal.returns-in-Ok-map_range_with-clause-mapped
returns-in-Ok-map_range_with-clause-mapped c =
    let at = (goal.at.returns-in-Ok-map_range_with-clause-mapped c).After-map_range_with in
    λ _. rw (c.open.ensures.tables, page_is at, frame_is at) at c.in-Ok-map_range_with.ensures.mapped

pub returns-in_default-clause-change : goal.returns-in_default-clause-change
returns-in_default-clause-change c =
    let off = map_off_half c.args.handle.now.tables c.args.address c.args.pages c.args.frame c.args.bits.user (λ is. let k = c.in_default.ensures.canonical.1 is in absurd (cc)) in
    record { change = refused (ap range_code (sym off)) refl; detail = ap (λ cause. fault_detail cause c.args.told.now) (sym off) }

pub returns-then-frame-clause-change : goal.returns-then-frame-clause-change
returns-then-frame-clause-change c =
    let far = map_far c.args.handle.now.tables c.args.address c.args.pages c.args.frame c.args.bits.user (c.in-Ok.ensures.canonical.0 refl) (omega (arith, c.if-frame.true)) in
    record { change = refused (ap range_code (sym far)) refl; detail = ap (λ cause. fault_detail cause c.args.told.now) (sym far) }

pub returns-in-Ok-map_range_with-clause-change : goal.returns-in-Ok-map_range_with-clause-change
returns-in-Ok-map_range_with-clause-change c =
    let at = (goal.at.returns-in-Ok-map_range_with-clause-change c).After-map_range_with in
    let change = c.in-Ok-map_range_with.ensures.change in
    let cause = change.refused ∙ cause_is at in
    record {
      change = made (ap range_code cause) (rw (c.open.ensures.tables, page_is at) at change.only);
      detail = ap (λ cause. fault_detail cause c.args.told.now) cause;
    }

pub returns-in-Err-clause-change : goal.returns-in-Err-clause-change
returns-in-Err-clause-change c =
    let change = c.in-Err.ensures.change in
    let cause = change.refused ∙ cause_is (goal.at.returns-in-Err-clause-change c).After-map_range_with in
    record {
      change = refused (c.refuse.ensures.code ∙ ap range_code cause) (change.same ∙ c.open.ensures.tables);
      detail = c.refuse.ensures.told ∙ ap (λ cause. fault_detail cause c.args.told.now) cause;
    }
