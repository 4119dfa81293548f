use Rattle.std.specs.Prelude.{◌≡◌, ◌≤◌, [], length, insert, IsTrue}
use Rattle.std.proofs.Common.{rules}
use Rattle.heap_arena.specs.Arena.{regions_of}
use Rattle.heap_arena.specs.Arenas.{are_in_order}
use Rattle.heap_arena.proofs.ArenaLists.{added_at}
use Rattle.heap_arena.proofs.arenas.Arenas.add.Goals as goal

pub returns-in-Ok-clause-ok : goal.returns-in-Ok-clause-ok
returns-in-Ok-clause-ok g c =
    let arenas = c.args.self.now.arenas.items in
    let place = c.in-Some.place in
    let within : place ≤ length arenas = search rules in
    let none : regions_of c.args.arena ≡ [] = search rules in
    let order : IsTrue (are_in_order (insert arenas place c.args.arena)) = search rules in
    let are : c.try_insert.new.self.items ≡ insert arenas place c.args.arena = search rules in
    added_at c.args.arena place arenas c.try_insert.new.self.items within are none order c.args.self.now.in_order
