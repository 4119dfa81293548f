-- What is told of bytes, over several calls.
use Rattle.std.proofs.Common.{ℕ, List, [], ◌++◌, Option, None, Some, refl, sym, ◌∙◌, ap, append_assoc}
use Rattle.std.proofs.lemmas.List.{append-nil}
use Rattle.std.specs.Io.KnownBytes.{Appends, Consumes, Keeps}

pub appends_nothing : (a : Option (List ℕ)) → Appends a a []
appends_nothing None = tt
appends_nothing (Some xs) = sym (append-nil xs)

pub appends_more : (a b c : Option (List ℕ)) (xs ys : List ℕ) → Appends a b xs → Appends b c ys → Appends a c (xs ++ ys)
appends_more None b c xs ys h k = tt
appends_more (Some us) None c xs ys h k = absurd h
appends_more (Some us) (Some bs) None xs ys h k = absurd k
appends_more (Some us) (Some bs) (Some cs) xs ys h k = k ∙ ap (λ (l : List ℕ). l ++ ys) h ∙ append_assoc us xs ys

pub appends_keeps : (a b c : Option (List ℕ)) (xs : List ℕ) → Appends a b xs → Keeps b c → Appends a c xs
appends_keeps None b c xs h k = tt
appends_keeps (Some us) None c xs h k = absurd h
appends_keeps (Some us) (Some bs) None xs h k = absurd k
appends_keeps (Some us) (Some bs) (Some cs) xs h k = k ∙ h

pub consumes_nothing : (a : Option (List ℕ)) → Consumes a a []
consumes_nothing None = tt
consumes_nothing (Some xs) = refl

pub consumes_more : (a b c : Option (List ℕ)) (xs ys : List ℕ) → Consumes a b xs → Consumes b c ys → Consumes a c (xs ++ ys)
consumes_more None b c xs ys h k = tt
consumes_more (Some us) None c xs ys h k = absurd h
consumes_more (Some us) (Some bs) None xs ys h k = absurd k
consumes_more (Some us) (Some bs) (Some cs) xs ys h k = h ∙ ap (λ (l : List ℕ). xs ++ l) k ∙ sym (append_assoc xs ys cs)

pub consumes_keeps : (a b c : Option (List ℕ)) (xs : List ℕ) → Consumes a b xs → Keeps b c → Consumes a c xs
consumes_keeps None b c xs h k = tt
consumes_keeps (Some us) None c xs h k = absurd h
consumes_keeps (Some us) (Some bs) None xs h k = absurd k
consumes_keeps (Some us) (Some bs) (Some cs) xs h k = h ∙ ap (λ (l : List ℕ). xs ++ l) (sym k)
