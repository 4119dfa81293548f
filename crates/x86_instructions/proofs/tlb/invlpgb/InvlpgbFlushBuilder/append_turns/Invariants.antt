use Rattle.std.proofs.Common.{◌≡◌, ◌++◌, ◌+◌, ◌-◌, ◌≤◌, length}
use Rattle.std.specs.Prelude.{vec_len, vec_capacity}
use Rattle.paging_core.specs.Steps.{position}
use Rattle.x86_instructions.specs.Invlpgb.{turn_commands}
use Rattle.x86_instructions.proofs.tlb.invlpgb.InvlpgbFlushBuilder.append_turns.Given as goal

-- the commands so far and those of the pages left are all of the range's, and there is room for the rest
abbrev pub invariant-loop-left : goal.invariant-loop-left
invariant-loop-left g l =
    let size = g.S.PageSize.SIZE in
    let end = position size l.pages.end in
    record {
      within : l.left ≤ end;
      made : l.commands.items ++ turn_commands size l.self (end - l.left) end
          ≡ l.fn.commands.items ++ turn_commands size l.self (position size l.pages.start) end;
      room : vec_len l.commands + length (turn_commands size l.self (end - l.left) end) ≤ vec_capacity l.commands;
    }

abbrev pub decreases-loop-left : goal.decreases-loop-left
decreases-loop-left g l = l.left
