use Rattle.std.proofs.Common.{◌≡◌, refl, arith}
use Rattle.paging_core.specs.Runs.{IsRunFree}
use Rattle.paging_core.proofs.Runs.{is_whole, not_whole, runs_below, free_run_in, run_taken, whole_taken, whole_of}
use Rattle.paging_core.proofs.pool.FramePoolFrameAllocatorSize2MiB.allocate_frame.Goals as goal

pub returns-in_err-run-clause-run : goal.returns-in_err-run-clause-run
returns-in_err-run-clause-run c =
    rw (c.from_residual.ensures, ← c.self.view_is) (
      refl,
      λ run all. not_whole c.self.inside.free c.self.inside.whole c.self.inside.counts.items run c.self.invariant (c.in_err-run.ensures.lowest run) all,
    )

pub remove_run-requires-clause-free : goal.remove_run-requires-clause-free
remove_run-requires-clause-free c =
    is_whole c.self.inside.free c.self.inside.whole c.self.inside.counts.items c.in_ok-run.run' c.self.invariant c.in_ok-run.ensures.lowest.contained

pub index_mut-requires : goal.index_mut-requires
index_mut-requires c =
    let all : IsRunFree c.self.inside.free c.in_ok-run.run' =
    is_whole c.self.inside.free c.self.inside.whole c.self.inside.counts.items c.in_ok-run.run' c.self.invariant c.in_ok-run.ensures.lowest.contained in
    let b = runs_below c.self.inside.free c.self.inside.whole c.self.inside.counts.items c.in_ok-run.run' c.self.invariant
    (free_run_in c.self.inside.free c.in_ok-run.run' all) in
    omega (arith, b.0, c.self.inside.counts.ok.0)

pub new-requires : goal.new-requires
new-requires c =
    let all : IsRunFree c.self.inside.free c.in_ok-run.run' =
    is_whole c.self.inside.free c.self.inside.whole c.self.inside.counts.items c.in_ok-run.run' c.self.invariant c.in_ok-run.ensures.lowest.contained in
    let b = runs_below c.self.inside.free c.self.inside.whole c.self.inside.counts.items c.in_ok-run.run' c.self.invariant
    (free_run_in c.self.inside.free c.in_ok-run.run' all) in
    omega (arith, b.2, c.from.ensures)

pub invariant_of-self : goal.invariant_of-self
invariant_of-self c =
    let all : IsRunFree c.self.inside.free c.in_ok-run.run' =
    is_whole c.self.inside.free c.self.inside.whole c.self.inside.counts.items c.in_ok-run.run' c.self.invariant c.in_ok-run.ensures.lowest.contained in
    rw c.remove.ensures
    (run_taken c.self.inside.free c.remove_run.new.free c.self.inside.whole c.self.inside.counts.items c.in_ok-run.run'
    c.self.invariant all c.remove_run.ensures.set)

pub returns-clause-taken : goal.returns-clause-taken
returns-clause-taken c =
    let all : IsRunFree c.self.inside.free c.in_ok-run.run' =
    is_whole c.self.inside.free c.self.inside.whole c.self.inside.counts.items c.in_ok-run.run' c.self.invariant c.in_ok-run.ensures.lowest.contained in
    let b = runs_below c.self.inside.free c.self.inside.whole c.self.inside.counts.items c.in_ok-run.run' c.self.invariant
    (free_run_in c.self.inside.free c.in_ok-run.run' all) in
    let is : c.containing_address.result ≡ c.in_ok-run.run' = omega (arith, b.2, c.from.ensures, c.new.ensures, c.containing_address.ensures) in
    rw (is, ← c.self.view_is) (
      whole_of c.self.inside.free c.in_ok-run.run' all,
      whole_taken c.self.inside.free c.remove_run.new.free c.self.inside.whole c.self.inside.counts.items c.in_ok-run.run'
          c.self.invariant all c.remove_run.ensures.set,
    )

pub returns-clause-run : goal.returns-clause-run
returns-clause-run c =
    let all : IsRunFree c.self.inside.free c.in_ok-run.run' =
    is_whole c.self.inside.free c.self.inside.whole c.self.inside.counts.items c.in_ok-run.run' c.self.invariant c.in_ok-run.ensures.lowest.contained in
    let b = runs_below c.self.inside.free c.self.inside.whole c.self.inside.counts.items c.in_ok-run.run' c.self.invariant
    (free_run_in c.self.inside.free c.in_ok-run.run' all) in
    let is : c.containing_address.result ≡ c.in_ok-run.run' = omega (arith, b.2, c.from.ensures, c.new.ensures, c.containing_address.ensures) in
    rw (is, ← c.self.view_is) (
      all,
      c.remove_run.ensures.set,
      λ lower lt below. not_whole c.self.inside.free c.self.inside.whole c.self.inside.counts.items lower c.self.invariant
          (c.in_ok-run.ensures.lowest.lowest lower lt) below,
    )
