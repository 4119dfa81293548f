use Rattle.call_lines.proofs.CallLines.{reads_back}
use Rattle.call_lines.proofs.Sought.{asks_for_no_other, is_short}
use Rattle.call_lines.proofs.laws.calls_are_read_from_their_lines.Goals as goal

pub returns : goal.returns
returns c = record { asked = asks_for_no_other; read = reads_back; short = is_short }
