use Rattle.dlmalloc.proofs.Names.{◌≡◌, ℕ, ◌-◌, ◌%◌, ◌<◌, ◌≤◌, ◌⊎◌, [], IsWordOf}
use Rattle.dlmalloc.proofs.record.put_fences.Given as goal

abbrev pub invariant-loop-at : goal.invariant-loop-at
invariant-loop-at g l = record {
  low : l.from ≤ l.at;
  high : l.at ≤ l.to;
  aligned : l.at % 8 ≡ 0;
  fences : (k : ℕ) → l.from ≤ k → k < l.at → k % 8 ≡ 0 → g.M.Links.word l.memory k ≡ 11;
  elsewhere : (k : ℕ) → IsWordOf (g.M.Links.regions l.fn.memory) k → (k < l.from) ⊎ (l.at ≤ k) → g.M.Links.word l.memory k ≡ g.M.Links.word l.fn.memory k;
  regions : g.M.Links.regions l.memory ≡ g.M.Links.regions l.fn.memory;
  follows : g.M.Links.follows l.fn.memory [] l.memory;
}

abbrev pub decreases-loop-at : goal.decreases-loop-at
decreases-loop-at g l = l.to - l.at
