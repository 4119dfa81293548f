use Rattle.std.proofs.Common.{◌≡◌, ◌+◌, ◌-◌, ◌/◌, ◌%◌, ◌^◌, ◌*◌, ◌∙◌, List, ℕ, ap, sym, subst, arith, replicate, set}
use Rattle.std.proofs.lemmas.Nat.{one_shl}
use Rattle.number_set.specs.Bitmap.{IsFullTo}
use Rattle.number_set.proofs.Filled.{IsFullTo-replicate, IsFullTo-set}
use Rattle.number_set.proofs.bitmap.full_words.Goals as goal
use Rattle.number_set.proofs.bitmap.full_words.Goals.{then-bound-ne0, else-bound-ne0}

pub returns : goal.returns
returns c =
    let count : c.div_ceil.result ≡ (c.args.bound + 63) / 64 = omega (arith, c.div_ceil.ensures) in
    let ones : c.in_ok-words.words.items ≡ replicate ((c.args.bound + 63) / 64) (2 ^ 64 - 1) =
    c.in_ok-words.ensures.items_if_clones_equal (λ _ e. e) ∙ ap (λ n. replicate n (2 ^ 64 - 1)) count in
    elim c.if-bound-ne0.branch [
      | then-bound-ne0 w ↦
          subst (λ (words : List ℕ). IsFullTo words c.args.bound)
          (sym (ap (λ v. v.items) w.words-is ∙ (ap (λ words. set words (c.args.bound / 64) (1 * 2 ^ (c.args.bound % 64) % 2 ^ 64 - 1)) ones
          ∙ ap (λ word. set (replicate ((c.args.bound + 63) / 64) (2 ^ 64 - 1)) (c.args.bound / 64) (word - 1)) (one_shl (c.args.bound % 64) 64 (omega arith)))))
          (IsFullTo-set c.args.bound w.if-bound-ne0.true)
      | else-bound-ne0 w ↦
          subst (λ (words : List ℕ). IsFullTo words c.args.bound) (sym (ap (λ v. v.items) w.words-is ∙ ones)) (IsFullTo-replicate c.args.bound w.if-bound-ne0.false)
    ]
