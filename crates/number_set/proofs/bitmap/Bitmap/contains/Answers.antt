use Rattle.std.proofs.Common.{◌∙◌, sym, ◌≡◌, ◌/◌, ◌%◌, ◌^◌, get_or, ap, eqb, false}
use Rattle.std.proofs.lemmas.Nat.Bits.{shr_and_one}
use Rattle.number_set.proofs.Words.{read_word, get_or-flags_of}
use Rattle.number_set.proofs.bitmap.Bitmap.contains.Goals as goal

pub returns : goal.returns
returns c =
    let word : c.index-word.result.now ≡ get_or c.args.self.now.words.items (c.args.number / 64) 0 =
    read_word c.args.self.now.words.items c.args.self.now.bound c.args.number c.index-word.result.now c.args.self.now.bitmap c.requires c.index-word.ensures in
    ap (λ x. eqb x 1) (shr_and_one c.index-word.result.now (c.args.number % 64))
    ∙ (ap (λ x. eqb (x / 2 ^ (c.args.number % 64) % 2) 1) word
    ∙ sym (get_or-flags_of c.args.self.now.words.items c.args.self.now.bound c.args.number false c.requires))
