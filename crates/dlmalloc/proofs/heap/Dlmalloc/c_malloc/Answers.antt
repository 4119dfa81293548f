use Rattle.dlmalloc.proofs.Names.{◌<◌, refl, arith, rules, limit}
use Rattle.dlmalloc.proofs.Bins.Members.{member_behind}
use Rattle.dlmalloc.proofs.Requests.Plain.{request_small}
use Rattle.dlmalloc.proofs.Cuts.OneStepOrTwo.{served}
use Rattle.dlmalloc.proofs.Bins.Order.{order_same}
use Rattle.dlmalloc.proofs.heap.Dlmalloc.c_malloc.Goals as goal

pub cut-requires-clause-small : goal.cut-requires-clause-small
cut-requires-clause-small g c =
    let granularity = c.requires.intact.sound.granularity in let e = c.request2size.ensures in
    let less : c.args.size < limit c.args.self.now.granularity = (let not = c.if-size-max_request.false in let is = c.max_request.ensures.is in omega arith) in
    request_small c.args.self.now.granularity c.args.size granularity.0 granularity.1 less e.whole e.near e.is

pub returns-in-Ok-clause-served : goal.returns-in-Ok-clause-served
returns-in-Ok-clause-served g c =
    let e = c.request2size.ensures in
    let less : c.args.size < limit c.args.self.now.granularity = (let not = c.if-size-max_request.false in let is = c.max_request.ensures.is in omega arith) in
    served c.args.size e.is (omega arith) (omega arith) less c.in-Ok.ensures.cut c.cut.ensures.bins.order

pub returns-in-Ok-clause-member : goal.returns-in-Ok-clause-member
returns-in-Ok-clause-member g c = member_behind g.A.Links.regions g.A.Links.word c.args.self.now c.args.size c.in-Ok.chunk
    c.request2size.ensures.is c.in-Ok.ensures.member

pub returns-then-size-max_request-clause-order : goal.returns-then-size-max_request-clause-order
returns-then-size-max_request-clause-order g c = λ b. (b, order_same b.index)

pub returns-then-size-max_request-clause-refused : goal.returns-then-size-max_request-clause-refused
returns-then-size-max_request-clause-refused g c = record {
  refused = (let is = c.max_request.ensures.is in let more = c.if-size-max_request.true in omega arith);
  same = record {
    followed = search rules;
    refused = search rules;
    state = refl;
    sound = c.requires.intact.sound;
    regions_same = refl;
    words = λ k is. refl;
    index = λ b. (b, λ n. refl);
  };
  untouched = λ large. refl;
}
