use Rattle.dlmalloc.proofs.Names.{inl, inr, arith}
use Rattle.dlmalloc.proofs.record.put_fences.Goals as goal

pub returns-clause-rest : goal.returns-clause-rest
returns-clause-rest g c =
    let high = c.loop-at.invariant.high in
    record {
      elsewhere = λ k inside out. c.loop-at.invariant.elsewhere k inside (elim out [ inl below ↦ inl below | inr above ↦ inr (omega arith) ]);
      asks = record { regions = c.loop-at.invariant.regions; follows = c.loop-at.invariant.follows };
    }
