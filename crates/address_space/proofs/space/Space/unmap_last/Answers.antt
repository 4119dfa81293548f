use Rattle.std.proofs.Common.{rules, ◌≡◌, ℕ, ◌+◌, ◌-◌, ◌≤◌, ◌<◌, ◌⊎◌, inl, inr, sym, refl, subst, arith}
use Rattle.std.proofs.lemmas.Bool.{cases_lt}
use Rattle.std.specs.Prelude.{Result, Ok, Err, IfErr, IsSome}
use Rattle.meminterval.specs.Tree.{entries}
use Rattle.address_space.specs.Runs.{rights_in}
use Rattle.address_space.specs.RunChanges.{AreTaken}
use Rattle.address_space.specs.Changing.{IsUnmapped}
use Rattle.address_space.specs.Space.{Tables}
use Rattle.address_space.specs.Seen.{tables_of}
use Rattle.address_space.proofs.Mapped.{canonical_in, is_some_of, by_table}
use Rattle.address_space.proofs.OneRun.{run_rights}
use Rattle.address_space.proofs.Protected.{mapped_walks}
use Rattle.address_space.proofs.Unmapped.{AreUnmapped, part_of_range, not_there, unmapped_kept, unmapped_part, unmapped_none, none_mapped}
use Rattle.address_space.proofs.space.Space.unmap_last.Goals as goal

pub returns-in_default-clause-ok : goal.returns-in_default-clause-ok
returns-in_default-clause-ok c =
    let some = c.requires.some in
    record {
      from = omega arith;
      to = omega (arith, some);
      less = some;
      gone = unmapped_none (tables_of c.args.self.now) c.args.first (c.args.end - c.args.first)
          (λ n. none_mapped (tables_of c.args.self.now) c.args.first (c.args.end - c.args.first) n c.args.self.now.kept
          c.requires.range (λ any h k. c.in_default.ensures.none any (omega arith) (omega (arith, k, some))))
          (λ any h k. c.in_default.ensures.none any (omega arith) (omega (arith, k, some)));
    }

pub returns-then-run-first-clause-ok : goal.returns-then-run-first-clause-ok
returns-then-run-first-clause-ok c =
    let some = c.requires.some in
    let before = c.if-run-first.true in
    record {
      from = omega arith;
      to = omega (arith, some);
      less = some;
      gone = unmapped_none (tables_of c.args.self.now) c.args.first (c.args.end - c.args.first)
          (λ n. none_mapped (tables_of c.args.self.now) c.args.first (c.args.end - c.args.first) n c.args.self.now.kept c.requires.range
          (λ any h k. c.in-Some.ensures.last any (omega (arith, h, before)) (omega (arith, k, some))))
          (λ any h k. c.in-Some.ensures.last any (omega (arith, h, before)) (omega (arith, k, some)));
    }

always_err : {A E : Type 0} (r : Result A E) (X : Type 0) → X → IfErr r (λ error. X)
always_err {A} {E} (Ok a) X x = tt
always_err {A} {E} (Err e) X x = x

pub returns-in_err-take-clause-over : goal.returns-in_err-take-clause-over
returns-in_err-take-clause-over c =
    let es = entries c.args.self.now.runs in
    let run = c.in-Some.run' in
    let end = c.args.end in
    let starts = c.in-Some.ensures.starts in
    let some = c.in-Some.ensures.run.some in
    let over = c.if-run-first.false in
    let least = c.requires.some in
    let from_is = c.max-from.ensures in
    let to_is = c.min.ensures in
    let to = c.max-from.result + (c.min.result - c.max-from.result) in
    let there : IsSome (rights_in es to) = c.in_err-take.ensures.over in
    let by_end : (run.end < end) ⊎ (end ≤ run.end) → IsSome (rights_in es end) = (λ h. elim h [
      | inl k ↦ absurd (not_there (rights_in es to) (c.in-Some.ensures.last to
          (omega (arith, k, from_is, to_is, starts, some, over, least)) (omega
          (arith, k, from_is, to_is, starts, some, over, least))) there)
      | inr k ↦ (let same : to ≡ end = omega (arith, k, from_is, to_is, starts, some, over, least) in subst (λ (n : ℕ). IsSome (rights_in es n)) same there)
    ]) in
    always_err c.from_residual.result (IsSome (rights_in es end)) (by_end (cases_lt run.end end))

pub page_at-requires : goal.page_at-requires
page_at-requires c =
    let starts = c.in-Some.ensures.starts in
    let least = c.requires.some in
    let from_is = c.max-from.ensures in
    canonical_in c.args.first (c.args.end - c.args.first) c.max-from.result c.requires.range (omega (arith, from_is)) (omega (arith, from_is, starts, least))

pub unmap_range-requires-clause-pages : goal.unmap_range-requires-clause-pages
unmap_range-requires-clause-pages c = record {
  rooted = search rules;
  range = search rules;
  mapped = λ k less.
      let es = entries c.args.self.now.runs in
      let run = c.in-Some.run' in
      let from_is = c.max-from.ensures in
      let to_is = c.min.ensures in
      let at = c.page_at.ensures in
      let page = c.page_at.result + k in
      mapped_walks (tables_of c.args.self.now) page c.args.self.now.kept
      (is_some_of (rights_in es page) run.rights (run_rights es run.start run.end run.rights page c.in-Some.ensures.run
      (omega (arith, from_is, at)) (omega (arith, from_is, to_is, at, less))));
  small = λ k less.
      let es = entries c.args.self.now.runs in
      let run = c.in-Some.run' in
      let from_is = c.max-from.ensures in
      let to_is = c.min.ensures in
      let at = c.page_at.ensures in
      let page = c.page_at.result + k in
      by_table c.args.self.now.frames c.args.self.now.root page c.args.self.now.kept.no_large
      (mapped_walks (tables_of c.args.self.now) page c.args.self.now.kept
      (is_some_of (rights_in es page) run.rights (run_rights es run.start run.end run.rights page c.in-Some.ensures.run
      (omega (arith, from_is, at)) (omega (arith, from_is, to_is, at, less)))));
}

pub invariant_of-self-2 : goal.invariant_of-self-2
invariant_of-self-2 c =
    let t = tables_of c.args.self.now in
    let from_is = c.max-from.ensures in
    let to_is = c.min.ensures in
    let at = c.page_at.ensures in
    let starts = c.in-Some.ensures.starts in
    let some = c.in-Some.ensures.run.some in
    let over = c.if-run-first.false in
    let least = c.requires.some in
    let count = c.min.result - c.max-from.result in
    let m : AreUnmapped t c.unmap_range.new.frames c.unmap_range.new.pool (entries c.take.new.runs) c.page_at.result count = record {
      kept = c.args.self.now.kept;
      range = part_of_range c.args.first (c.args.end - c.args.first) c.page_at.result count c.requires.range
          (omega (arith, at, from_is)) (omega (arith, at, from_is, to_is, starts, over, least))
          (omega (arith, from_is, to_is, starts, some, over, least));
      freed = c.unmap_range.ensures.freed;
      tree = c.unmap_range.ensures.tree;
      count = c.unmap_range.ensures.count;
      known = c.unmap_range.ensures.known c.args.self.now.kept.known;
      gone = c.unmap_range.ensures.gone.unmapped;
      elsewhere = c.unmap_range.ensures.gone.elsewhere;
      bytes = c.unmap_range.ensures.gone.bytes;
      taken = subst (λ (n : ℕ). AreTaken (entries c.args.self.now.runs) (entries c.take.new.runs) n (n + count)) (sym at) c.in_ok-take.ensures.ok;
    } in
    record { kept = unmapped_kept t c.unmap_range.new.frames c.unmap_range.new.pool (entries c.take.new.runs) c.page_at.result count m }

pub returns-clause-ok : goal.returns-clause-ok
returns-clause-ok c =
    let t = tables_of c.args.self.now in
    let es = entries c.args.self.now.runs in
    let run = c.in-Some.run' in
    let from_is = c.max-from.ensures in
    let to_is = c.min.ensures in
    let at = c.page_at.ensures in
    let starts = c.in-Some.ensures.starts in
    let some = c.in-Some.ensures.run.some in
    let over = c.if-run-first.false in
    let least = c.requires.some in
    let count = c.min.result - c.max-from.result in
    let more = c.args.end - c.max-from.result in
    let new : Tables = record {
      words = c.unmap_range.new.frames;
      root = c.args.self.now.root;
      free =
          c.unmap_range.new.pool;
      runs = entries c.take.new.runs;
    } in
    let m : AreUnmapped t c.unmap_range.new.frames c.unmap_range.new.pool (entries c.take.new.runs) c.page_at.result count = record {
      kept = c.args.self.now.kept;
      range = part_of_range c.args.first (c.args.end - c.args.first) c.page_at.result count c.requires.range
          (omega (arith, at, from_is)) (omega (arith, at, from_is, to_is, starts, over, least))
          (omega (arith, from_is, to_is, starts, some, over, least));
      freed = c.unmap_range.ensures.freed;
      tree = c.unmap_range.ensures.tree;
      count = c.unmap_range.ensures.count;
      known = c.unmap_range.ensures.known c.args.self.now.kept.known;
      gone = c.unmap_range.ensures.gone.unmapped;
      elsewhere = c.unmap_range.ensures.gone.elsewhere;
      bytes = c.unmap_range.ensures.gone.bytes;
      taken = subst (λ (n : ℕ). AreTaken (entries c.args.self.now.runs) (entries c.take.new.runs) n (n + count)) (sym at) c.in_ok-take.ensures.ok;
    } in
    record {
      from = omega (arith, from_is);
      to = omega (arith, from_is, to_is, starts, some, over, least);
      less = omega (arith, from_is, starts, least);
      gone = subst (λ (n : ℕ). IsUnmapped t new n more count) at
          (unmapped_part t new c.page_at.result count more m refl
          (part_of_range c.args.first (c.args.end - c.args.first) c.page_at.result more c.requires.range
          (omega (arith, at, from_is)) (omega (arith, at, from_is, starts, least)) (omega (arith, from_is, starts, least)))
          (omega (arith, from_is, to_is))
          (λ any h k. c.in-Some.ensures.last any (omega (arith, h, k, at, from_is, to_is, starts)) (omega (arith, k, at, from_is, starts, least)))
          (λ page h k. is_some_of (rights_in es page) run.rights (run_rights es run.start run.end run.rights page
          c.in-Some.ensures.run (omega (arith, h, at, from_is)) (omega (
            arith,
            k,
            at,
            from_is,
            to_is,
            starts,
            some,
            over,
            least,
          )))));
    }
