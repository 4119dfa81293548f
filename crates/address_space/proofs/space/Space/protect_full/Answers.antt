use Rattle.std.proofs.Common.{rules, ℕ, ◌+◌, refl, subst, arith}
use Rattle.paging_core.specs.Area.{Whole}
use Rattle.paging_core.specs.Outcomes.{IsRangeRegranted}
use Rattle.paging_core.specs.PageChanges.{ArePagesChanged, regrant, among}
use Rattle.paging_core.specs.declared.page_table.PageBits.{PageBits}
use Rattle.meminterval.specs.Tree.{entries}
use Rattle.address_space.specs.Joining.{IsRunAdded}
use Rattle.address_space.specs.Seen.{tables_of}
use Rattle.address_space.proofs.Protected.{AreProtected, mapped_walks, protected_kept, protected_map}
use Rattle.address_space.proofs.Mapped.{by_table}
use Rattle.address_space.proofs.space.Space.protect_full.Goals as goal

pub protect_range-requires-clause-pages : goal.protect_range-requires-clause-pages
protect_range-requires-clause-pages c = record {
  rooted = search rules;
  range = c.requires.range;
  mapped = λ k less. mapped_walks (tables_of c.args.self.now) (c.args.first + k) c.args.self.now.kept (c.requires.full (c.args.first + k) (omega arith) (omega (arith, less)));
  small = λ k less.
      by_table c.args.self.now.frames c.args.self.now.root (c.args.first + k) c.args.self.now.kept.no_large
      (mapped_walks (tables_of c.args.self.now) (c.args.first + k) c.args.self.now.kept (c.requires.full (c.args.first + k) (omega arith) (omega (arith, less))));
}

pub invariant_of-self-2 : goal.invariant_of-self-2
invariant_of-self-2 c =
    let t = tables_of c.args.self.now in
    let changed = subst (λ (bits : PageBits). ArePagesChanged t.words c.protect_range.new.frames t.root (regrant bits)
    (among c.args.first c.args.pages)) c.bits.ensures c.protect_range.ensures.changed in
    let granted = subst (IsRangeRegranted Whole t.words c.protect_range.new.frames t.root c.args.first c.args.pages) c.bits.ensures
    c.protect_range.ensures.granted in
    let m : AreProtected t c.protect_range.new.frames (entries c.set_rights.new.runs) c.args.first c.args.pages c.args.rights = record {
      kept = c.args.self.now.kept;
      range = c.requires.range;
      full = c.requires.full;
      changed = changed;
      tree = c.protect_range.ensures.tree c.args.self.now.pool c.args.self.now.kept.tree;
      there = granted.granted;
      elsewhere = granted.elsewhere;
      bytes = granted.bytes;
      added = subst (λ (n : ℕ). IsRunAdded (entries c.args.self.now.runs) (entries c.set_rights.new.runs) n
          (n + c.args.pages)
          c.args.rights) c.number-number.ensures.value c.in_ok-set_rights.ensures.ok;
    } in
    record { kept = protected_kept t c.protect_range.new.frames (entries c.set_rights.new.runs) c.args.first c.args.pages c.args.rights m }

pub returns-clause-ok : goal.returns-clause-ok
returns-clause-ok c =
    let t = tables_of c.args.self.now in
    let changed = subst (λ (bits : PageBits). ArePagesChanged t.words c.protect_range.new.frames t.root (regrant bits)
    (among c.args.first c.args.pages)) c.bits.ensures c.protect_range.ensures.changed in
    let granted = subst (IsRangeRegranted Whole t.words c.protect_range.new.frames t.root c.args.first c.args.pages) c.bits.ensures
    c.protect_range.ensures.granted in
    let m : AreProtected t c.protect_range.new.frames (entries c.set_rights.new.runs) c.args.first c.args.pages c.args.rights = record {
      kept = c.args.self.now.kept;
      range = c.requires.range;
      full = c.requires.full;
      changed = changed;
      tree = c.protect_range.ensures.tree c.args.self.now.pool c.args.self.now.kept.tree;
      there = granted.granted;
      elsewhere = granted.elsewhere;
      bytes = granted.bytes;
      added = subst (λ (n : ℕ). IsRunAdded (entries c.args.self.now.runs) (entries c.set_rights.new.runs) n
          (n + c.args.pages)
          c.args.rights) c.number-number.ensures.value c.in_ok-set_rights.ensures.ok;
    } in
    record {
      map = protected_map t c.protect_range.new.frames (entries c.set_rights.new.runs) c.args.first c.args.pages c.args.rights m;
      free = refl;
      root = refl;
      entries = changed;
    }
