use Rattle.std.proofs.Common.{◌/◌, ap, sym, ◌∙◌, arith}
use Rattle.paging_core.specs.Large.{slot_of}
use Rattle.paging_core.specs.Pool.{free_count}
use Rattle.kernel_tables.specs.Grants.{user_of}
use Rattle.kernel_tables.proofs.Changed.{made_flushed}
use Rattle.kernel_tables.proofs.Ends.{alone_open}
use Rattle.kernel_tables.proofs.RangeChanged.{not_split, protect_open}
use Rattle.kernel_tables.proofs.SlotChanges.{page_not_large}
use Rattle.kernel_tables.proofs.tables.Tables.grant.Goals as goal

pub returns-then-grant_entry-clause-granted : goal.returns-then-grant_entry-clause-granted
returns-then-grant_entry-clause-granted c =
    let some = c.grant_entry.ensures.some c.if-grant_entry.true in
    let z = not_split c.args.self.now c.args.page some.1 in
    let entry = c.grant_entry.ensures.granted c.if-grant_entry.true in
    let f = ap free_count entry.free in
    record {
      granted = entry.granted;
      free = omega (arith, z, f);
      words = entry.words;
      changed = λ _. entry.changed;
      large = page_not_large c.args.self.now c.grant_entry.new.self c.args.page (entry.larges (slot_of (c.args.page / 512)) ∙ some.1)
          (λ n ne. entry.larges n);
    }

pub returns-then-grant_entry-clause-change : goal.returns-then-grant_entry-clause-change
returns-then-grant_entry-clause-change c =
    let some = c.grant_entry.ensures.some c.if-grant_entry.true in
    made_flushed (sym (protect_open c.args.self.now c.args.page (user_of c.args.grant) (alone_open c.args.self.now c.args.page some.0 some.1)
    (c.grant_entry.ensures.hidden c.if-grant_entry.true))) (c.grant_entry.ensures.granted c.if-grant_entry.true).only
