-- Rights that a test finds equal.
use Rattle.std.proofs.Common.{◌≡◌, ◌∙◌, ap, sym, refl, Bool, true, false, ◌&&◌, not}
use Rattle.std.specs.Bool.{beq}
use Rattle.paging_core.specs.declared.page_table.Rights.{Rights}

beq_itself : (x : Bool) → beq x x ≡ true
beq_itself true = refl
beq_itself false = refl

beq_true : (x y : Bool) → beq x y ≡ true → x ≡ y
beq_true true true h = refl
beq_true true false h = absurd (cc)
beq_true false true h = absurd (cc)
beq_true false false h = refl

both : (x y : Bool) → (x && y) ≡ true → (x ≡ true) × (y ≡ true)
both true y h = (refl, h)
both false y h = absurd (cc)

not_false : (x : Bool) → not x ≡ false → x ≡ true
not_false true h = refl
not_false false h = absurd (cc)

pub equal_rights : (a b : Rights) → not (beq a.write b.write && (beq a.user b.user && beq a.fetch b.fetch)) ≡ false → a ≡ b
equal_rights a b h =
    let all = both (beq a.write b.write) (beq a.user b.user && beq a.fetch b.fetch)
    (not_false (beq a.write b.write && (beq a.user b.user && beq a.fetch b.fetch)) h) in
    let rest = both (beq a.user b.user) (beq a.fetch b.fetch) all.1 in
    ap (λ (x : Bool). record { write = x; user = a.user; fetch = a.fetch }) (beq_true a.write b.write all.0)
    ∙ (ap (λ (x : Bool). record { write = b.write; user = x; fetch = a.fetch }) (beq_true a.user b.user rest.0)
    ∙ ap (λ (x : Bool). record { write = b.write; user = b.user; fetch = x }) (beq_true a.fetch b.fetch rest.1))

itself : (a : Rights) → not (beq a.write a.write && (beq a.user a.user && beq a.fetch a.fetch)) ≡ false
itself a = rw (beq_itself a.write) (rw (beq_itself a.user) (rw (beq_itself a.fetch) refl))

pub other_rights : (a b : Rights) → not (beq a.write b.write && (beq a.user b.user && beq a.fetch b.fetch)) ≡ true → a ≡ b → ⊥
other_rights a b h is =
    let same = ap (λ (x : Rights). not (beq a.write x.write && (beq a.user x.user && beq a.fetch x.fetch))) is in
    let no : false ≡ true = sym (itself a) ∙ (same ∙ h) in absurd (cc)
