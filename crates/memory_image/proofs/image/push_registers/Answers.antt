use Rattle.std.proofs.Common.{rules, ◌≡◌, ◌++◌, codes, string_bytes}
use Rattle.std.proofs.lemmas.Result.{on_ok_weaker}
use Rattle.memory_image.specs.Image.{number_text}
use Rattle.memory_image.proofs.Whole.{behind}
use Rattle.memory_image.proofs.image.push_registers.Goals as goal

pub returns : goal.returns
returns c =
    let cpu = c.args.cpu.now in
    let out = string_bytes c.args.out.now in
    let name = string_bytes c.push_str.new.self in
    let one = string_bytes c.push_number.new.out in
    let two = string_bytes c.push_number-2.new.out in
    let three = string_bytes c.push_number-3.new.out in
    let four = string_bytes c.push_number-4.new.out in
    let five = string_bytes c.push_number-5.new.out in
    let all = string_bytes c.push_str-2.new.self in
    let efer = number_text cpu.efer ++ codes "\n" in
    let cr4 = number_text cpu.cr4 ++ efer in
    let cr3 = number_text cpu.cr3 ++ cr4 in
    let cr2 = number_text cpu.cr2 ++ cr3 in
    let cr0 = number_text cpu.cr0 ++ cr2 in
    let begun : name ≡ out ++ codes "registers" = search rules in
    on_ok_weaker {P = all ≡ five ++ codes "\n"} c.push_str-2.result (λ written.
    behind out name all (codes "registers") cr0
    (behind name one all (number_text cpu.cr0) cr2
    (behind one two all (number_text cpu.cr2) cr3
    (behind two three all (number_text cpu.cr3) cr4
    (behind three four all (number_text cpu.cr4) efer
    (behind four five all (number_text cpu.efer) (codes "\n") written c.in_ok-push_number-5.ensures)
    c.in_ok-push_number-4.ensures) c.in_ok-push_number-3.ensures) c.in_ok-push_number-2.ensures)
    c.in_ok-push_number.ensures) begun) (search rules)
