use Rattle.std.proofs.Common.{◌≡◌, ℕ, List, ◌++◌, codes, string_bytes, append_assoc, ap, ◌∙◌}
use Rattle.std.proofs.lemmas.Result.{on_ok_weaker}
use Rattle.register_image.specs.Meanings.{word_if}
use Rattle.register_image.proofs.meanings.push_page_fault_code.Goals as goal

-- one part, and the rest after it
behind : (old middle new part rest : List ℕ) → middle ≡ old ++ part → new ≡ middle ++ rest → new ≡ old ++ (part ++ rest)
behind old middle new part rest first then = then ∙ ap (λ (l : List ℕ). l ++ rest) first ∙ append_assoc old part rest

pub returns : goal.returns
returns c =
    let bits = c.args.bits in
    let one = string_bytes c.push_flag.new.out in
    let two = string_bytes c.push_flag-2.new.out in
    let three = string_bytes c.push_flag-3.new.out in
    let four = string_bytes c.push_flag-4.new.out in
    let all = string_bytes c.push_flag-5.new.out in
    let present = word_if bits 1 (codes " PROTECTION_VIOLATION") in
    let write = word_if bits 2 (codes " CAUSED_BY_WRITE") in
    let user = word_if bits 4 (codes " USER_MODE") in
    let reserved = word_if bits 8 (codes " MALFORMED_TABLE") in
    let fetch = word_if bits 16 (codes " INSTRUCTION_FETCH") in
    on_ok_weaker {P = all ≡ four ++ fetch} c.push_flag-5.result (λ written.
    behind (string_bytes c.args.out.now) one all present (write ++ (user ++ (reserved ++ fetch))) c.in_ok-push_flag.ensures
    (behind one two all write (user ++ (reserved ++ fetch)) c.in_ok-push_flag-2.ensures
    (behind two three all user (reserved ++ fetch) c.in_ok-push_flag-3.ensures
    (behind three four all reserved fetch c.in_ok-push_flag-4.ensures written)))) c.push_flag-5.ensures
