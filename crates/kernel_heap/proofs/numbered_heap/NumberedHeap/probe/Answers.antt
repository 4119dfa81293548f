use Rattle.std.proofs.Common.{rules, ◌≡◌, ◌∙◌, ◌/◌, ap, sym, true, false, is_some, option_map}
use Rattle.paging_core.specs.Address.{is_canonical}
use Rattle.paging_core.specs.Walk.{walk_of, reached}
use Rattle.machine_model.specs.Machine.{rights_of}
use Rattle.paging_core.specs.ProcessorAccess.{fault_code}
use Rattle.machine_model.specs.Probe.{is_access_granted}
use Rattle.x86_flags.specs.PageFaultErrorCode.{page_fault_bits}
use Rattle.machine_model.proofs.Probed.{step_byte, step_fault}
use Rattle.paged_systems.specs.System.{paged}
use Rattle.kernel_heap.specs.Machine.{seen_with}
use Rattle.kernel_heap.proofs.numbered_heap.NumberedHeap.probe.Goals as goal

pub returns-clause-ok : goal.returns-clause-ok
returns-clause-ok c = λ top s good stands.
    let at = c.args.at in
    let canonical : is_canonical at ≡ true = search rules in
    let walk = c.rights_at-rights.ensures.walk ∙ ap (λ system. option_map rights_of
    (walk_of (paged system).words (paged system).root (at / 4096))) c.system-system.ensures in
    let granted = ap (λ rights. is_access_granted rights c.args.access c.args.user) (sym walk) ∙ (sym c.is_granted.ensures ∙ c.if-not-is_granted.false) in
    let here = ap (λ system. reached (paged system).words (paged system).root at) (sym c.system-system.ensures) ∙ c.byte.ensures in
    step_byte (seen_with top c.args.self.now) s at c.args.access c.args.user c.byte.result good stands canonical granted here c.byte.type_inv

pub returns-then-not-is_granted-clause-ok : goal.returns-then-not-is_granted-clause-ok
returns-then-not-is_granted-clause-ok c = λ top s good stands.
    let at = c.args.at in
    let canonical : is_canonical at ≡ true = search rules in
    let walk = c.rights_at-rights.ensures.walk ∙ ap (λ system. option_map rights_of
    (walk_of (paged system).words (paged system).root (at / 4096))) c.system-system.ensures in
    let granted : is_access_granted c.rights_at-rights.result c.args.access c.args.user ≡ false = search rules in
    let code : page_fault_bits c.fault_code.result ≡ fault_code (is_some c.rights_at-rights.result) false c.args.access c.args.user = search rules in
    step_fault (seen_with top c.args.self.now) s at c.args.access c.args.user c.fault_code.result good stands canonical
    (ap (λ rights. is_access_granted rights c.args.access c.args.user) (sym walk) ∙ granted)
    (code ∙ ap (λ rights. fault_code (is_some rights) false c.args.access c.args.user) walk)
