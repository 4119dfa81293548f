use Rattle.dlmalloc.proofs.Names.{rules, inl, inr, refl, sym, subst, arith, Used, IsBoundary, state_of}
use Rattle.dlmalloc.proofs.Extents.Lookup.{extent}
use Rattle.dlmalloc.proofs.Bins.Order.{bins_same}
use Rattle.dlmalloc.proofs.heap.Dlmalloc.free_before.Goals as goal

-- the chunk's own head is at a boundary
pub returns-clause-words : goal.returns-clause-words
returns-clause-words g c k is was now =
    c.free_lead.ensures.words k is (λ same. was (inl (subst (IsBoundary (state_of g.A.Links.word c.args.self.now)) (sym same)
    (record { extent = extent c.args.at c.args.size Used; there = c.requires.can.chunk; is = inl refl })))) (λ free. was (inr free)) now

pub returns-then-place-at-clause-lead : goal.returns-then-place-at-clause-lead
returns-then-place-at-clause-lead g c =
    let same = c.if-place-at.true in
    record {
      others = search rules;
      kept = search rules;
      sound = c.requires.intact.sound;
      bins = bins_same c.requires.intact.linked;
      asks = record { regions = refl; follows = g.A.Links.follows_none c.args.self.now.system };
    }

pub free_lead-requires-clause-split : goal.free_lead-requires-clause-split
free_lead-requires-clause-split g c =
    let can = c.requires.can in
    record {
      chunk = can.chunk;
      bytes = record { whole = can.whole; least = elim can.lead [ inl same ↦ absurd (c.if-place-at.false same) | inr after ↦ omega arith ] };
      room = can.room;
    }
