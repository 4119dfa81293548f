use Rattle.std.proofs.Common.{◌≡◌, ◌+◌, ◌*◌, ◌<◌, ◌≤◌, ℕ, List, [], ◌∷◌, drop, get_or, length, length-drop, ap, refl, sym, ◌∙◌, arith}
use Rattle.std.proofs.lemmas.List.{at_drop_more}
use Rattle.walk_image.specs.Filled.{put, filled}
use Rattle.walk_image.proofs.filling.fill.Goals as goal

pub loop-k-preserved : goal.loop-k-preserved
loop-k-preserved c =
    let k = c.loop-k.k in
    let pairs = c.args.pairs.now in
    let words = c.loop-k.frames in
    let place = get_or pairs (2 * k) 0 in
    let word = get_or pairs (2 * k + 1) 0 in
    let first : 2 * k < length pairs = omega (arith, c.loop-k-test.true) in
    let second : 2 * k + 1 < length pairs = omega (arith, c.loop-k-test.true) in
    let next : 2 * (k + 1) ≡ 2 * k + 1 + 1 = omega arith in
    ap (λ (ws : List ℕ). filled ws (drop (2 * (k + 1)) pairs)) c.put_word.ensures
    ∙ ap (λ (n : ℕ). filled (put words place word) (drop n pairs)) next
    ∙ sym (at_drop_more (λ (rest : List ℕ). filled words (place ∷ rest)) pairs (2 * k + 1) 0 second)
    ∙ sym (at_drop_more (filled words) pairs (2 * k) 0 first)
    ∙ c.loop-k.invariant

-- one number alone is no pair
no_pair : (words rest : List ℕ) → length rest ≤ 1 → filled words rest ≡ words
no_pair words [] few = refl
no_pair words (place ∷ []) few = refl
no_pair words (place ∷ word ∷ pairs) few = absurd (omega (arith, few))

pub returns : goal.returns
returns c =
    let k = c.loop-k.k in
    let pairs = c.args.pairs.now in
    sym (no_pair c.loop-k.frames (drop (2 * k) pairs) (omega (arith, length-drop (2 * k) pairs, c.loop-k-test.false))) ∙ c.loop-k.invariant
