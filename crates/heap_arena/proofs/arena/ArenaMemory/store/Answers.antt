use Rattle.std.proofs.Common.{rules, refl, sym, subst, ◌≡◌, inl, inr, ℕ, ◌-◌, ◌/◌, List, get_or, ap, ◌∙◌, arith}
use Rattle.std.proofs.lemmas.List.{get_or-set_same, get_or-set_other}
use Rattle.heap_memory.specs.Regions.{is_granted}
use Rattle.std.specs.Prelude.{IsTrue}
use Rattle.heap_arena.specs.Arena.{regions_of}
use Rattle.heap_arena.proofs.GrantLemmas.{granted_between}
use Rattle.heap_arena.proofs.Runs.{written_granted}
use Rattle.heap_arena.proofs.arena.ArenaMemory.store.Goals as goal

pub returns : goal.returns
returns c =
    let arena = c.args.self.now in
    let words = arena.words.now in
    let base = arena.base in
    let at = c.args.at in
    let within = granted_between base arena.top (regions_of arena) at arena.between c.requires.granted in
    let end = arena.ends in
    let begin = arena.aligned in
    let whole = c.requires.aligned in
    let word_put = λ (place : ℕ). ap (λ (ws : List ℕ). get_or ws ((place - base) / 8) 0) c.put_word.ensures in record {
      stored = record {
        here = word_put at ∙ get_or-set_same words ((at - base) / 8) c.args.value 0 (omega (arith, within.0, within.1, end, begin, whole));
        elsewhere = λ other is differ.
            let other_within = granted_between base arena.top (regions_of arena) other arena.between is.granted in
            let other_whole = is.aligned in
            word_put other ∙ get_or-set_other words ((at - base) / 8) ((other - base) / 8) c.args.value 0
            (λ same. differ (omega (arith, same, within.0, other_within.0, begin, whole, other_whole)));
      };
      words = c.put_word.ensures;
      written = written_granted arena _ at 1
          (λ k low high k_whole. let same : k ≡ at = omega (arith, low, high, k_whole, whole) in subst (λ (n : ℕ). IsTrue (is_granted (regions_of arena) n)) (sym same) c.requires.granted)
          (record { base = refl; len = search rules; table = refl }) refl refl refl
          (λ i beside. ap (λ (ws : List ℕ). get_or ws i 0) c.put_word.ensures
          ∙ get_or-set_other words ((at - base) / 8) i c.args.value 0 (λ same. elim beside [
            | inl before ↦ omega (arith, same, before, within.0, begin, whole)
            | inr behind ↦ omega (arith, same, behind, within.0, begin, whole)
          ]));
    }
