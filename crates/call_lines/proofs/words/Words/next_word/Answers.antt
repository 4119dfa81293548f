use Rattle.std.proofs.Common.{ℕ, ◌+◌, List, [], ◌∷◌, take, Option, sym, ◌∙◌, ap}
use Rattle.std.proofs.lemmas.List.{take_rest}
use Rattle.std.specs.Prelude.{◌==◌}
use Rattle.std.specs.Option.{option_map_or}
use denote.Ref.{Bor}
use Rattle.call_lines.specs.Words.{words_of}
use Rattle.call_lines.proofs.WordLemmas.{split_whole, split_at}
use Rattle.call_lines.proofs.words.Words.next_word.Goals as goal

-- the words that are left of what is left
left : Option (Bor (List ℕ)) → List (List ℕ)
left rest = option_map_or (λ (r : Bor (List ℕ)). words_of r.now) rest []

pub returns-in-Some : goal.returns-in-Some
unfolding left
returns-in-Some c =
    let rest = c.in_ok-rest.rest.now in
    let at = c.in-Some.at in
    sym c.self.view_is
    ∙ ap left c.in_ok-rest.was
    ∙ split_at (λ (b : ℕ). b == 32) rest 0 at (sym c.first_of.ensures ∙ c.in-Some.is)
    ∙ ap (λ (l : List ℕ). take at rest ∷ words_of l) (sym (take_rest rest (at + 1)))

pub returns-in-None : goal.returns-in-None
unfolding left
returns-in-None c =
    let rest = c.in_ok-rest.rest.now in
    sym c.self.view_is
    ∙ ap left c.in_ok-rest.was
    ∙ split_whole (λ (b : ℕ). b == 32) rest (sym c.first_of.ensures ∙ c.in-None.is)
