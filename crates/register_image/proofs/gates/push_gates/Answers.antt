use Rattle.std.proofs.Common.{◌≡◌, ◌+◌, ◌-◌, ℕ, zero, suc, List, [], ◌++◌, string_bytes, append_assoc, ap, refl, sym, ◌∙◌, arith}
use Rattle.std.proofs.lemmas.List.{append-nil}
use Rattle.x86_tables.specs.declared.idt.interrupt_descriptor_table.InterruptDescriptorTable.{InterruptDescriptorTable}
use Rattle.register_image.specs.Gates.{gate_line, gates_text}
use Rattle.register_image.proofs.gates.push_gates.Goals as goal

gates_more : (table : InterruptDescriptorTable) (vector count : ℕ) →
    gates_text table vector (suc count) ≡ gate_line table vector ++ gates_text table (vector + 1) count
unfolding gates_text
gates_more table vector count = refl

gates_none : (table : InterruptDescriptorTable) (vector : ℕ) → gates_text table vector zero ≡ []
unfolding gates_text
gates_none table vector = refl

pub loop-vector-preserved : goal.loop-vector-preserved
loop-vector-preserved c =
    let v = c.loop-vector.vector in
    let table = c.args.table.now in
    let out = string_bytes c.loop-vector.out in
    let rest = gates_text table (v + 1) (256 - (v + 1)) in
    let step : suc (256 - (v + 1)) ≡ 256 - v = omega (arith, c.loop-vector-test.true) in
    ap (λ (l : List ℕ). l ++ rest) c.in_ok-push_gate.ensures
    ∙ append_assoc out (gate_line table v) rest
    ∙ ap (λ (l : List ℕ). out ++ l) (sym (gates_more table v (256 - (v + 1))) ∙ ap (gates_text table v) step)
    ∙ c.loop-vector.invariant

pub returns : goal.returns
returns c =
    let v = c.loop-vector.vector in
    let table = c.args.table.now in
    let out = string_bytes c.loop-vector.out in
    let none : 256 - v ≡ zero = omega (arith, c.loop-vector-test.false) in
    sym (ap (λ (n : ℕ). out ++ gates_text table v n) none ∙ ap (λ (l : List ℕ). out ++ l) (gates_none table v) ∙ append-nil out)
    ∙ c.loop-vector.invariant
