use Rattle.std.proofs.Common.{◌<◌, ◌≤◌, List, not, length, map, ap, ◌∙◌, rules}
use Rattle.std.proofs.lemmas.Fn.{filter_same}
use Rattle.std.proofs.lemmas.List.Edits.{map_over_more}
use Rattle.std.proofs.lemmas.List.{take_all, drop_all, append-nil}
use Rattle.heap_memory.specs.declared.grant.Grant.{Grant}
use Rattle.heap_memory.specs.Runs.{begins_in, up_to}
use Rattle.heap_memory.proofs.flat_release.give_back.Goals as goal

pub loop-i-preserved : goal.loop-i-preserved
loop-i-preserved c =
    let less : c.loop-i.i < length c.retain.new.self.items = search rules in
    record {
      items = rw c.up_to.ensures (map_over_more (λ (region : Grant). up_to c.args.low region) c.retain.new.self.items c.loop-i.regions.items c.loop-i.i c.index.result.now less c.loop-i.invariant.items c.index.ensures);
      len = search rules;
      capacity = search rules;
    }

pub returns-clause-items : goal.returns-clause-items
returns-clause-items c =
    let kept = filter_same _ (λ region. not (begins_in c.args.low c.args.high region)) _ (λ region b f k. search rules) _ _ c.retain.ensures.filtered in
    let past : length c.retain.new.self.items ≤ c.loop-i.i = search rules in
    c.loop-i.invariant.items
    ∙ (rw (take_all c.loop-i.i c.retain.new.self.items past, drop_all c.loop-i.i c.retain.new.self.items past, append-nil) (ap (λ (rs : List Grant). map (λ (region : Grant). up_to c.args.low region) rs) kept))
