-- The lines of an input that comes in parts.
use Rattle.std.proofs.Common.{◌≡◌, ◌≢◌, ℕ, zero, suc, ◌<◌, ◌≤◌, ◌⊎◌, inl, inr, List, [], ◌∷◌, ◌++◌, length, take, drop, append_assoc, map, Option, None, refl, sym, ◌∙◌, ap, arith, length-append}
use Rattle.std.proofs.lemmas.List.{append-nil, take_all, take-append-drop}
use Rattle.std.proofs.lemmas.Bool.Decides.{nat_tests}
use Rattle.machine_model.specs.declared.call.Call.{Call}
use Rattle.call_lines.specs.Grammar.{item_of}
use Rattle.heap_program.specs.Lines.{lines_of, items_of, IsOneLine}
use Rattle.std.specs.List.{onto_first}

-- the lines whose first goes on to the left by these bytes
abbrev pub onto : List ℕ → List (List ℕ) → List (List ℕ)
onto line [] = line ∷ []
onto line (first ∷ lines) = (line ++ first) ∷ lines

lines-feed : (b : ℕ) (rest : List ℕ) → b ≡ 10 → lines_of (b ∷ rest) ≡ [] ∷ lines_of rest
lines-feed b rest is = grind (arith, nat_tests)

lines-byte : (b : ℕ) (rest : List ℕ) → b ≢ 10 → lines_of (b ∷ rest) ≡ onto_first b (lines_of rest)
lines-byte b rest isnt = grind (arith, nat_tests)

onto_first_onto : (b c : ℕ) (bs : List ℕ) (lines : List (List ℕ)) → onto_first b (onto (c ∷ bs) lines) ≡ onto (b ∷ c ∷ bs) lines
onto_first_onto b c bs [] = refl
onto_first_onto b c bs (l ∷ lines) = refl

onto_first_one : (b : ℕ) (lines : List (List ℕ)) → onto_first b lines ≡ onto (b ∷ []) lines
onto_first_one b [] = refl
onto_first_one b (l ∷ lines) = refl

-- a line begun goes on with the first line of the rest
pub lines-begun : (b : ℕ) (line rest : List ℕ) → IsOneLine (b ∷ line) → lines_of (b ∷ (line ++ rest)) ≡ onto (b ∷ line) (lines_of rest)
lines-begun b [] rest one = lines-byte b rest one.0 ∙ onto_first_one b (lines_of rest)
lines-begun b (c ∷ line) rest one = lines-byte b (c ∷ (line ++ rest)) one.0
    ∙ ap (onto_first b) (lines-begun c line rest one.1) ∙ onto_first_onto b c line (lines_of rest)

-- a whole line
pub lines-whole : (line rest : List ℕ) → IsOneLine line → lines_of (line ++ 10 ∷ rest) ≡ line ∷ lines_of rest
lines-whole [] rest one = lines-feed 10 rest refl
lines-whole (b ∷ line) rest one =
    lines-begun b line (10 ∷ rest) one ∙ ap (onto (b ∷ line)) (lines-feed 10 rest refl) ∙ ap (λ (l : List ℕ). l ∷ lines_of rest) (append-nil (b ∷ line))

pub items-whole : (line rest : List ℕ) → IsOneLine line → items_of (line ++ 10 ∷ rest) ≡ item_of line ∷ items_of rest
unfolding items_of
items-whole line rest one = ap (map item_of) (lines-whole line rest one)

-- the last line
pub items-last : (b : ℕ) (line : List ℕ) → IsOneLine (b ∷ line) → items_of (b ∷ line) ≡ item_of (b ∷ line) ∷ []
unfolding items_of
items-last b line one = ap (λ (l : List ℕ). map item_of (lines_of (b ∷ l))) (sym (append-nil line)) ∙ ap (map item_of) (lines-begun b line [] one)

pub items-none : items_of [] ≡ []
unfolding items_of
items-none = refl

too_long : (line : List ℕ) → 8192 < length line → item_of line ≡ None
unfolding item_of
too_long line long = grind (arith, nat_tests)

items_onto : (b : ℕ) (line rest : List ℕ) (lines : List (List ℕ)) → 8192 < length line →
    map item_of (onto line (onto_first b lines)) ≡ map item_of (onto line lines)
items_onto b line rest [] long =
    ap (λ (o : Option Call). o ∷ []) (too_long (line ++ b ∷ []) (omega (arith, length-append line (b ∷ []), long)) ∙ sym (too_long line long))
items_onto b line rest (first ∷ lines) long =
    ap (λ (o : Option Call). o ∷ map item_of lines) (too_long (line ++ b ∷ first)
    (omega (arith, length-append line (b ∷ first), long)) ∙ sym (too_long (line ++ first)
    (omega (arith, length-append line first, long))))

-- past the limit further bytes of the line change nothing
items-long : (line : List ℕ) (b : ℕ) (rest : List ℕ) → IsOneLine line → 8192 < length line → b ≢ 10 → items_of (line ++ b ∷ rest) ≡ items_of (line ++ rest)
unfolding items_of
items-long [] b rest one long isnt = absurd (omega (arith, long))
items-long (c ∷ line) b rest one long isnt =
    ap (map item_of) (lines-begun c line (b ∷ rest) one ∙ ap (onto (c ∷ line)) (lines-byte b rest isnt))
    ∙ items_onto b (c ∷ line) rest (lines_of rest) long
    ∙ sym (ap (map item_of) (lines-begun c line rest one))

items-longer : (line more rest : List ℕ) → IsOneLine line → 8192 < length line → IsOneLine more → items_of (line ++ (more ++ rest)) ≡ items_of (line ++ rest)
items-longer line [] rest one long none = refl
items-longer line (b ∷ more) rest one long both = items-long line b (more ++ rest) one long both.0 ∙ items-longer line more rest one long both.1

pub one_line_append : (line more : List ℕ) → IsOneLine line → IsOneLine more → IsOneLine (line ++ more)
one_line_append [] more one both = both
one_line_append (b ∷ line) more one both = (one.0, one_line_append line more one.1 both)

pub one_line_take : (n : ℕ) (line : List ℕ) → IsOneLine line → IsOneLine (take n line)
one_line_take zero line one = tt
one_line_take (suc n) [] one = tt
one_line_take (suc n) (b ∷ line) one = (one.0, one_line_take n line one.1)

one_line_drop : (n : ℕ) (line : List ℕ) → IsOneLine line → IsOneLine (drop n line)
one_line_drop zero line one = one
one_line_drop (suc n) [] one = tt
one_line_drop (suc n) (b ∷ line) one = one_line_drop n line one.1

-- of bytes that go on with a line, those up to one past the limit say what it asks for
pub items-cut : (line bytes : List ℕ) (n : ℕ) (rest : List ℕ) → IsOneLine line → IsOneLine bytes → (length bytes ≤ n) ⊎ (8192 < length (line ++ take n bytes)) →
    items_of (line ++ (bytes ++ rest)) ≡ items_of ((line ++ take n bytes) ++ rest)
items-cut line bytes n rest one more (inl all) =
    ap (λ (l : List ℕ). items_of (line ++ (l ++ rest))) (sym (take_all n bytes all)) ∙ ap items_of (sym (append_assoc line (take n bytes) rest))
items-cut line bytes n rest one more (inr long) =
    ap (λ (l : List ℕ). items_of (line ++ (l ++ rest))) (sym (take-append-drop n bytes))
    ∙ ap (λ (l : List ℕ). items_of (line ++ l)) (append_assoc (take n bytes) (drop n bytes) rest)
    ∙ ap items_of (sym (append_assoc line (take n bytes) (drop n bytes ++ rest)))
    ∙ items-longer (line ++ take n bytes) (drop n bytes) rest (one_line_append line (take n bytes) one
    (one_line_take n bytes more)) long (one_line_drop n bytes more)
