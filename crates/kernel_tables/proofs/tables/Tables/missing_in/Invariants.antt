use Rattle.std.proofs.Common.{◌-◌, ◌≡◌, ◌+◌, ◌*◌, ◌%◌, ◌^◌, ◌<◌, ◌≤◌}
use Rattle.paging_core.specs.Missing.{missing_of}
use Rattle.kernel_tables.proofs.tables.Tables.missing_in.Given as goal

abbrev pub invariant-loop-done : goal.invariant-loop-done
invariant-loop-done l = record {
  within : l.done ≤ l.pages;
  edge : 0 < l.done → l.done < l.pages → (l.page + l.done) % 2 ^ 27 ≡ 0;
  counted : l.missing ≡ missing_of l.self.words l.self.root l.page l.done;
  few : l.missing ≤ 3 * l.done;
}

abbrev pub decreases-loop-done : goal.decreases-loop-done
decreases-loop-done l = l.pages - l.done
