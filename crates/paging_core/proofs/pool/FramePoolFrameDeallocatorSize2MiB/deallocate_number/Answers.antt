use Rattle.std.proofs.Common.{arith}
use Rattle.paging_core.specs.Runs.{IsRunOut}
use Rattle.paging_core.proofs.Runs.{runs_below, out_run_in, run_given}
use Rattle.paging_core.proofs.pool.FramePoolFrameDeallocatorSize2MiB.deallocate_number.Goals as goal

pub overflow_cast-number : goal.overflow_cast-number
overflow_cast-number c =
    let out : IsRunOut c.self.inside.free c.args.number = rw c.self.view_is c.requires.out in
    let b = runs_below c.self.inside.free c.self.inside.whole c.self.inside.counts.items c.args.number c.self.invariant
    (out_run_in c.self.inside.free c.args.number out) in
    omega (arith, b.2)

pub insert-requires : goal.insert-requires
insert-requires c =
    let out : IsRunOut c.self.inside.free c.args.number = rw c.self.view_is c.requires.out in
    (runs_below c.self.inside.free c.self.inside.whole c.self.inside.counts.items c.args.number c.self.invariant
    (out_run_in c.self.inside.free c.args.number out)).1

pub overflow_cast-run : goal.overflow_cast-run
overflow_cast-run c =
    let out : IsRunOut c.self.inside.free c.args.number = rw c.self.view_is c.requires.out in
    let b = runs_below c.self.inside.free c.self.inside.whole c.self.inside.counts.items c.args.number c.self.invariant
    (out_run_in c.self.inside.free c.args.number out) in
    omega (arith, b.2)

pub index_mut-requires : goal.index_mut-requires
index_mut-requires c =
    let out : IsRunOut c.self.inside.free c.args.number = rw c.self.view_is c.requires.out in
    let b = runs_below c.self.inside.free c.self.inside.whole c.self.inside.counts.items c.args.number c.self.invariant
    (out_run_in c.self.inside.free c.args.number out) in
    omega (arith, b.0, c.self.inside.counts.ok.0)

pub invariant_of-self : goal.invariant_of-self
invariant_of-self c =
    let out : IsRunOut c.self.inside.free c.args.number = rw c.self.view_is c.requires.out in
    rw c.insert.ensures
    (run_given c.self.inside.free c.insert_run.new.free c.self.inside.whole c.self.inside.counts.items c.args.number
    c.self.invariant out c.insert_run.ensures.set)
