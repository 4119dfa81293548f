use Rattle.std.proofs.Common.{rules, refl, ℕ, ◌+◌, ◌-◌, ◌/◌, ◌<◌, inl, inr, ap, ◌∙◌, arith, get_or}
use Rattle.heap_arena.specs.Arena.{regions_of}
use Rattle.heap_arena.proofs.GrantLemmas.{granted_between}
use Rattle.heap_arena.proofs.Runs.{begins_above, ends_within, written_granted}
use Rattle.heap_arena.proofs.arena.ArenaLinks.copy_counted.Goals as goal

pub overflow_sub-place : goal.overflow_sub-place
overflow_sub-place g c = begins_above c.args.self.now c.args.from c.args.count (omega (arith, c.if-count-eq0.false)) c.requires.from

pub overflow_sub-to : goal.overflow_sub-to
overflow_sub-to g c = begins_above c.args.self.now c.args.to c.args.count (omega (arith, c.if-count-eq0.false)) c.requires.to

pub copy_within-requires-clause-in_bounds : goal.copy_within-requires-clause-in_bounds
copy_within-requires-clause-in_bounds g c = ends_within c.args.self.now c.args.from c.args.count (omega (arith, c.if-count-eq0.false)) c.requires.from

pub copy_within-requires-clause-dest_in_bounds : goal.copy_within-requires-clause-dest_in_bounds
copy_within-requires-clause-dest_in_bounds g c =
    let e = ends_within c.args.self.now c.args.to c.args.count (omega (arith, c.if-count-eq0.false)) c.requires.to in omega (arith, e)

pub returns-clause-copied : goal.returns-clause-copied
returns-clause-copied g c =
    let arena = c.args.self.now in
    let base = arena.base in
    let from = c.args.from in
    let to = c.args.to in
    let count = c.args.count in
    let some : 0 < count = omega (arith, c.if-count-eq0.false) in
    let from_low = begins_above arena from count some c.requires.from in
    let to_low = begins_above arena to count some c.requires.to in
    let from_fits = ends_within arena from count some c.requires.from in
    let to_fits = ends_within arena to count some c.requires.to in
    let moved = c.copy_within.ensures.by_index in
    let begin = arena.aligned in
    let from_whole = c.requires.from.aligned in
    let to_whole = c.requires.to.aligned in
    record {
      here = λ k short k_whole.
          moved.0 ((to + k - base) / 8) 0 (omega (arith, to_low, begin, to_whole, k_whole)) (omega (arith, short, to_low, begin, to_whole, k_whole))
          ∙ ap (λ (i : ℕ). get_or arena.words.now i 0) (omega (arith, short, from_low, to_low, begin, from_whole, to_whole, k_whole));
      elsewhere = λ other is beside.
          let other_low = (granted_between base arena.top (regions_of arena) other arena.between is.granted).0 in
          let other_whole = is.aligned in
          elim beside [
            | inl before ↦ moved.1 ((other - base) / 8) 0 (omega (arith, before, to_low, other_low, begin, to_whole, other_whole))
            | inr behind ↦ moved.2 ((other - base) / 8) 0 (omega (arith, behind, to_low, other_low, begin, to_whole, other_whole))
          ];
    }

pub returns-clause-written : goal.returns-clause-written
returns-clause-written g c =
    written_granted c.args.self.now _ c.args.to c.args.count (λ k low high whole. c.requires.to.granted k low high)
    (record { base = refl; len = search rules; table = refl }) refl refl refl (λ i beside.
    let arena = c.args.self.now in
    let to_low = begins_above arena c.args.to c.args.count (omega (arith, c.if-count-eq0.false)) c.requires.to in
    let begin = arena.aligned in
    let to_whole = c.requires.to.aligned in
    elim beside [
      | inl before ↦ c.copy_within.ensures.by_index.1 i 0 (omega (arith, before, to_low, begin, to_whole))
      | inr behind ↦ c.copy_within.ensures.by_index.2 i 0 (omega (arith, behind, to_low, begin, to_whole))
    ])
