use Rattle.std.proofs.Common.{rules, ◌≡◌, ◌∙◌, ap, sym, true, false, arith}
use Rattle.heap_memory.specs.declared.grant.Grant.{Grant}
use Rattle.heap_memory.specs.Runs.{begins_in, up_to}
use Rattle.heap_arena.specs.Grants.{grant_at}
use Rattle.heap_arena.proofs.GrantLemmas.{kept_front, kept_more, left_more}
use Rattle.heap_arena.proofs.table.Table.give_back.Goals as goal
use Rattle.heap_arena.proofs.table.Table.give_back.Goals.{then-not-begins_in, else-not-begins_in}

pub loop-i-init : goal.loop-i-init
loop-i-init c = record {
  kept = search rules;
  count = search rules;
  len = search rules;
  looked = sym (kept_front c.args.low c.args.high c.args.self.now.words.now c.args.self.now.count c.before-first.result
      c.before-first.ensures.few c.requires c.before-first.ensures.ends);
  ahead = λ k less. search rules;
}

pub loop-i-preserved : goal.loop-i-preserved
loop-i-preserved c =
    let low = c.args.low in
    let high = c.args.high in
    let initial = c.args.self.now.words.now in
    let old = c.loop-i.self.words.now in
    let i = c.loop-i.i in
    let here : c.get-grant.result ≡ grant_at initial i = c.get-grant.ensures ∙ c.loop-i.invariant.ahead i (omega arith) in
    let kept = c.loop-i.invariant.kept in
    elim c.if-not-begins_in.branch [
      | then-not-begins_in w ↦
          (let stays : begins_in low high (grant_at initial i) ≡ false = ap (λ (g : Grant). begins_in low high g) (sym here)
          ∙ (sym c.begins_in.ensures ∙ w.if-not-begins_in.true) in
          let next : grant_at w.set.new.self.words.now c.loop-i.kept ≡ up_to low (grant_at initial i) = w.set.ensures.here
          ∙ (w.up_to.ensures ∙ ap (λ (g : Grant). up_to low g) here) in
          let told = w.kept-is in
          record {
            kept = omega (arith, told, kept);
            count = search rules;
            len = search rules;
            looked = rw (w.self-is, w.kept-is) (kept_more low high initial old w.set.new.self.words.now i c.loop-i.kept
                c.loop-i.invariant.looked w.set.ensures.others next stays);
            ahead = λ k less. rw w.self-is (w.set.ensures.others k (λ same. omega (arith, same, less, kept))
                ∙ c.loop-i.invariant.ahead k (omega (arith, less)));
          })
      | else-not-begins_in w ↦
          (let leaves : begins_in low high (grant_at initial i) ≡ true = ap (λ (g : Grant). begins_in low high g) (sym here)
          ∙ (sym c.begins_in.ensures ∙ w.if-not-begins_in.false) in
          let told = w.kept-is in
          record {
            kept = omega (arith, told, kept);
            count = search rules;
            len = search rules;
            looked = rw (w.self-is, w.kept-is) (c.loop-i.invariant.looked ∙ sym (left_more low high initial i leaves));
            ahead = λ k less. rw w.self-is (c.loop-i.invariant.ahead k (omega (arith, less)));
          })
    ]
