use Rattle.std.proofs.Common.{◌≡◌, ◌<◌, ℕ, List, Bool, get_or, false, MatchOption, ap, subst, ◌∙◌, sym, arith}
use Rattle.std.proofs.lemmas.Bool.{false≢true}
use Rattle.number_set.specs.Bitmap.{summary_of, flags_of}
use Rattle.number_set.specs.Numbers.{HasNoNumber, IsLowest}
use Rattle.number_set.proofs.Levels.{HasNoNumber-summary, HasNoNumber-one_word, lowest_from}
use Rattle.number_set.proofs.level.Level.+lowest.Goals as goal
use Rattle.number_set.proofs.level.Level.+lowest.Goals.{in-Some+in_ok-index-in-Some, in-None}

pub returns-in_err-index-in-Some : goal.returns-in_err-index-in-Some
returns-in_err-index-in-Some t c =
    let summary : c.deref.result.now ≡ summary_of c.self.inside.bits.words.items = c.deref.ensures ∙ (c.self.invariant.0 c.in-Some.above c.in-Some.is).1 in
    rw c.from_residual.ensures (subst (λ (flags : List Bool). HasNoNumber flags) c.self.view_is
    (HasNoNumber-summary c.self.inside.bits.words.items c.self.inside.bits.bound c.self.inside.bits.bitmap
    (subst (λ (above : List Bool). HasNoNumber above) summary c.in_err-index-in-Some.ensures)))

pub returns : goal.returns
returns t c =
    subst (λ (flags : List Bool). MatchOption c.lowest_of_word.result (HasNoNumber flags) (IsLowest flags)) c.self.view_is
    (elim c.match-self.branch [
      | in-Some+in_ok-index-in-Some w ↦
          let summary : w.deref.result.now ≡ summary_of c.self.inside.bits.words.items = w.deref.ensures ∙ (c.self.invariant.0 w.in-Some.above w.in-Some.is).1 in
          let low : IsLowest (summary_of c.self.inside.bits.words.items) w.in_ok-index-in-Some.index =
          subst (λ (above : List Bool). IsLowest above w.in_ok-index-in-Some.index) summary w.in_ok-index-in-Some.ensures in
          from t c (λ i lt. low.lowest i (omega (arith, w.index-is)))
          (λ none. absurd (false≢true (sym none ∙ (ap (λ i. get_or (summary_of c.self.inside.bits.words.items) i false) w.index-is ∙ low.contained))))
      | in-None w ↦
          from t c (λ i lt. absurd (omega (arith, w.index-is)))
          (λ none. HasNoNumber-one_word c.self.inside.bits.words.items c.self.inside.bits.bound c.self.inside.bits.bitmap
          (c.self.invariant.1 w.in-None.is) (ap (λ i. get_or (summary_of c.self.inside.bits.words.items) i false) (sym w.index-is) ∙ none))
    ])
  where
    from : (t : ℕ) (c : goal.After-lowest_of_word t) →
        ((i : ℕ) → i < c.match-self.index → get_or (summary_of c.self.inside.bits.words.items) i false ≡ false) →
        (get_or (summary_of c.self.inside.bits.words.items) c.match-self.index false ≡ false → HasNoNumber (flags_of c.self.inside.bits.words.items c.self.inside.bits.bound)) →
        MatchOption c.lowest_of_word.result (HasNoNumber (flags_of c.self.inside.bits.words.items c.self.inside.bits.bound))
        (IsLowest (flags_of c.self.inside.bits.words.items c.self.inside.bits.bound))
    from t c earlier rest =
        lowest_from c.self.inside.bits.words.items c.self.inside.bits.bound c.match-self.index c.lowest_of_word.result c.self.inside.bits.bitmap
        c.lowest_of_word.ensures.none c.lowest_of_word.ensures.set c.lowest_of_word.ensures.word c.lowest_of_word.ensures.lowest earlier rest
