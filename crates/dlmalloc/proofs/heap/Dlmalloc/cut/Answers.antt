use Rattle.dlmalloc.proofs.Names.{Some, refl, sym, ap, subst, arith, IsCutOut}
use Rattle.dlmalloc.proofs.Cuts.Chosen.{free_below, bins_no_victim, top_no_bins}
use Rattle.dlmalloc.proofs.Bins.Changes.{binned_beside}
use Rattle.dlmalloc.proofs.Bins.Members.{none_member}
use Rattle.dlmalloc.proofs.Requests.Plain.{none_chosen_empty}
use Rattle.dlmalloc.proofs.Cuts.OneStepOrTwo.{as_turned, cut_here}
use Rattle.dlmalloc.proofs.heap.Dlmalloc.cut.Goals.{then-self-gt0+in-None, else-self-gt0}
use Rattle.dlmalloc.proofs.Bins.Order.{order_same, bins_kept}
use Rattle.dlmalloc.proofs.heap.Dlmalloc.cut.Goals as goal

pub returns-in-Some-Chunk-clause-cut : goal.returns-in-Some-Chunk-clause-cut
returns-in-Some-Chunk-clause-cut g c =
    let place = c.in-Some-Chunk.place in let is = ap Some c.in-Some-Chunk.field-0-is in
    let chosen = c.in-Some-Chunk.ensures.chunk place is in
    cut_here c.requires.intact.sound c.args.n chosen (c.in-Some-Chunk.ensures.fits place is)
    (free_below c.requires.intact.sound chosen.there) c.take.ensures.took.taken.state c.take.ensures.took.taken.more c.take.ensures.took.turned.moved

pub returns-in-Some-Top-clause-cut : goal.returns-in-Some-Top-clause-cut
returns-in-Some-Top-clause-cut g c =
    let heap = c.args.self.now in let is = ap Some c.in-Some-Top.field-0-is in
    let chosen = c.in-Some-Top.ensures.top is in let fits = c.in-Some-Top.ensures.top_fits is in
    subst (λ k. IsCutOut g.A.Links.regions g.A.Links.word g.A.Allocator.zeros g.A.Links.follows heap c.args.n k c.take_top.new.self)
    (sym c.take_top.ensures.chunk)
    (cut_here c.requires.intact.sound c.args.n chosen (omega arith) (free_below c.requires.intact.sound chosen.there)
    c.take_top.ensures.cut.taken.state c.take_top.ensures.cut.taken.more (as_turned c.take_top.ensures.cut.moves.moved))

pub cut_new-requires : goal.cut_new-requires
cut_new-requires g c = record {
  intact = c.requires.intact;
  none = elim c.if-self-gt0.branch [
    | then-self-gt0+in-None w ↦ w.in-None.ensures.none refl
    | else-self-gt0 w ↦ none_chosen_empty g.A.Links.regions g.A.Links.word c.args.self.now
        (let none = w.if-self-gt0.false in omega arith) c.args.n c.requires.bytes.least
  ];
  bytes = c.requires.bytes;
  small = c.requires.small;
}

pub returns-in-Some-Chunk-clause-member : goal.returns-in-Some-Chunk-clause-member
returns-in-Some-Chunk-clause-member g c = λ size is.
    let place = c.in-Some-Chunk.place in let same = ap Some c.in-Some-Chunk.field-0-is in
    c.in-Some-Chunk.ensures.member place same (bins_no_victim size (c.in-Some-Chunk.ensures.chunk place same) is)

pub returns-in-Some-Top-clause-member : goal.returns-in-Some-Top-clause-member
returns-in-Some-Top-clause-member g c = λ size is. absurd (top_no_bins size (c.in-Some-Top.ensures.top (ap Some c.in-Some-Top.field-0-is)) refl is)

pub returns-in-Some-Top-clause-bins : goal.returns-in-Some-Top-clause-bins
returns-in-Some-Top-clause-bins g c =
    let e = c.take_top.ensures.cut in
    bins_kept (λ b. (binned_beside c.law_index_stays.ensures c.requires.intact.sound e.moves (ap (λ s. s.victim) e.taken.state) b, order_same b.index))
    c.requires.intact.linked

pub returns-clause-member : goal.returns-clause-member
returns-clause-member g c = none_member g.A.Links.regions g.A.Links.word c.args.self.now c.args.n (elim c.if-self-gt0.branch [
  | then-self-gt0+in-None w ↦ w.in-None.ensures.none refl
  | else-self-gt0 w ↦ none_chosen_empty g.A.Links.regions g.A.Links.word c.args.self.now
      (let none = w.if-self-gt0.false in omega arith) c.args.n c.requires.bytes.least
]) c.cut_new.result

pub returns-clause-counted : goal.returns-clause-counted
returns-clause-counted g c = λ some. absurd (some (elim c.if-self-gt0.branch [
  | then-self-gt0+in-None w ↦ w.in-None.ensures.none refl
  | else-self-gt0 w ↦ none_chosen_empty g.A.Links.regions g.A.Links.word c.args.self.now
      (let none = w.if-self-gt0.false in omega arith) c.args.n c.requires.bytes.least
]))

pub take-requires-clause-cut : goal.take-requires-clause-cut
take-requires-clause-cut g c =
    let place = c.in-Some-Chunk.place in let is = ap Some c.in-Some-Chunk.field-0-is in
    record { chunk = (c.in-Some-Chunk.ensures.chunk place is).there; bytes = c.requires.bytes; fits = c.in-Some-Chunk.ensures.fits place is }

pub take-requires-clause-member : goal.take-requires-clause-member
take-requires-clause-member g c = c.in-Some-Chunk.ensures.member c.in-Some-Chunk.place (ap Some c.in-Some-Chunk.field-0-is)
