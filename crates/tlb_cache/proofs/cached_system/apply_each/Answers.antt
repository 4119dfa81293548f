use Rattle.std.proofs.Common.{◌≡◌, ◌+◌, ◌++◌, ◌∷◌, [], List, take, get_or, ap, sym, ◌∙◌}
use Rattle.std.proofs.lemmas.List.{take_more, take_all, get_or_read}
use Rattle.x86_instructions.specs.declared.tlb.FlushCommand.{FlushCommand}
use Rattle.x86_instructions.specs.declared.tlb.FlushCommand.TheVariants.{Invlpg}
use Rattle.tlb_cache.specs.Cache.{Cache, left_by, left_by_all}
use Rattle.tlb_cache.specs.declared.entry.TlbEntry.{TlbEntry}
use Rattle.tlb_cache.proofs.Left.{left_none, left_more}
use Rattle.tlb_cache.proofs.cached_system.apply_each.Goals as goal

pub loop-command-init : goal.loop-command-init
loop-command-init c = let s = c.args.tlb.now in sym (ap (λ (entries : List TlbEntry). record s { entries = entries }) (left_none s.entries))

pub loop-command-preserved : goal.loop-command-preserved
loop-command-preserved c =
    let s = c.args.tlb.now in
    let items = c.as_slice-command-items.result.now in
    let i = c.loop-command.command-index in
    let command = c.command-item.result in
    let is : command ≡ get_or items i (Invlpg 0) = get_or_read items i command c.loop-command-test.true c.command-item.is (Invlpg 0) in
    let more : take (i + 1) items ≡ take i items ++ command ∷ [] = take_more items i (Invlpg 0) c.loop-command-test.true
    ∙ ap (λ (command : FlushCommand). take i items ++ command ∷ []) (sym is) in
    c.apply.ensures
    ∙ (ap (λ (cache : Cache). record cache { entries = left_by command cache.entries }) c.loop-command.invariant
    ∙ ap (λ (entries : List TlbEntry). record s { entries = entries })
    (left_more (take i items) command s.entries ∙ ap (λ (list : List FlushCommand). left_by_all list s.entries) (sym more)))

pub returns : goal.returns
returns c =
    let s = c.args.tlb.now in
    let items = c.as_slice-command-items.result.now in
    c.loop-command.invariant
    ∙ ap (λ (list : List FlushCommand). record s { entries = left_by_all list s.entries })
    (take_all c.loop-command.command-index items c.loop-command-test.false ∙ c.as_slice-command-items.ensures)
