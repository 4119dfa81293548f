use Rattle.std.proofs.Common.{arith}
use Rattle.heap_report.proofs.replay.Replay.answer.Goals as goal

pub returns : goal.returns
returns c = record {
  stepped = c.in_ok-answer.ensures.ok;
  sizes = c.in_ok-note_answer.ensures;
  peak_is = omega arith;
}
