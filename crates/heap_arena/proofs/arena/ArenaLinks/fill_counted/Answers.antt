use Rattle.std.proofs.Common.{ℕ, ◌≡◌, ◌+◌, ◌-◌, ◌/◌, ◌<◌, ◌≤◌, ◌⊎◌, inl, inr, List, ap, ◌∙◌, refl, rules, arith, length, length-drop, replicate, get_or, drop}
use Rattle.std.proofs.lemmas.List.{get_or-replicate, length-take-le}
use Rattle.heap_arena.specs.Arena.{regions_of}
use Rattle.heap_arena.proofs.GrantLemmas.{granted_between}
use Rattle.heap_arena.proofs.Runs.{begins_above, ends_within, written_granted, inside, outside}
use Rattle.heap_arena.proofs.arena.ArenaLinks.fill_counted.Goals as goal

pub overflow_sub-place : goal.overflow_sub-place
overflow_sub-place g c = begins_above c.args.self.now c.args.at c.args.count (omega (arith, c.if-count-eq0.false)) c.requires

pub slice_bounds-fill-end : goal.slice_bounds-fill-end
slice_bounds-fill-end g c = ends_within c.args.self.now c.args.at c.args.count (omega (arith, c.if-count-eq0.false)) c.requires

pub returns-clause-filled : goal.returns-clause-filled
returns-clause-filled g c =
    let arena = c.args.self.now in
    let words : List ℕ = arena.words.now in
    let base : ℕ = arena.base in
    let at : ℕ = c.args.at in
    let count : ℕ = c.args.count in
    let some : 0 < count = omega (arith, c.if-count-eq0.false) in
    let low = begins_above arena at count some c.requires in
    let fits = ends_within arena at count some c.requires in
    let begin = arena.aligned in
    let whole = c.requires.aligned in
    let place : ℕ = (at - base) / 8 in
    let n : ℕ = place + count - place in
    let part : List ℕ = c.fill.new.self in
    let long = length-take-le n (drop place words) (omega (arith, length-drop place words, fits)) in
    let many : length part ≡ n = c.fill.ensures.len ∙ long in
    let filled : part ≡ replicate n c.args.value = c.fill.ensures.after (λ y is. is) ∙ ap (λ (m : ℕ). replicate m c.args.value) long in
    let within : place + n ≤ length words = omega (arith, fits) in
    record {
      here = λ k above below k_whole.
          inside words part place n ((k - base) / 8) within many (omega (arith, above, low, whole, begin, k_whole))
          (omega (arith, above, below, low, whole, begin, k_whole))
          ∙ (ap (λ (ws : List ℕ). get_or ws ((k - base) / 8 - place) 0) filled
          ∙ get_or-replicate n ((k - base) / 8 - place) c.args.value 0 (omega (arith, above, below, low, whole, begin, k_whole)));
      elsewhere = λ other is beside.
          let other_low = (granted_between base arena.top (regions_of arena) other arena.between is.granted).0 in
          let other_whole = is.aligned in
          let apart : ((other - base) / 8 < place) ⊎ (place + n ≤ (other - base) / 8) = elim beside [
            | inl before ↦ inl (omega (arith, before, low, other_low, whole, begin, other_whole))
            | inr behind ↦ inr (omega (arith, behind, low, other_low, whole, begin, other_whole))
          ] in
          outside words part place n ((other - base) / 8) within many apart;
    }

pub returns-clause-written : goal.returns-clause-written
returns-clause-written g c =
    written_granted c.args.self.now _ c.args.at c.args.count (λ k low high whole. c.requires.granted k low high)
    (record { base = refl; len = search rules; table = refl }) refl refl refl (λ i beside.
    let arena = c.args.self.now in
    let words : List ℕ = arena.words.now in
    let place : ℕ = (c.args.at - arena.base) / 8 in
    let n : ℕ = place + c.args.count - place in
    let some : 0 < c.args.count = omega (arith, c.if-count-eq0.false) in
    let low = begins_above arena c.args.at c.args.count some c.requires in
    let fits = ends_within arena c.args.at c.args.count some c.requires in
    let begin = arena.aligned in
    let whole = c.requires.aligned in
    let many : length c.fill.new.self ≡ n = c.fill.ensures.len ∙ length-take-le n (drop place words) (omega (arith, length-drop place words, fits)) in
    let apart : (i < place) ⊎ (place + n ≤ i) = elim beside [
      | inl before ↦ inl (omega (arith, before, low, whole, begin))
      | inr behind ↦ inr (omega (arith, behind, low, whole, begin))
    ] in
    outside words c.fill.new.self place n i (omega (arith, fits)) many apart)
