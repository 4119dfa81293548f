use Rattle.std.proofs.Common.{◌≡◌, ◌∙◌, ℕ, ◌+◌, ◌-◌, ◌*◌, ◌/◌, ◌%◌, [], ◌∷◌, ap, arith, length, length-append, subst, sym, Some}
use Rattle.std.specs.Prelude.{IsSome}
use Rattle.paging_core.specs.Walk.{walk_of, reached}
use Rattle.address_space.specs.Access.{byte_at}
use Rattle.address_space.proofs.Read.{byte_more}
use Rattle.address_space.proofs.Written.{reached_in}
use Rattle.address_space.proofs.bytes.read_on.Goals as goal

pub loop-step-init : goal.loop-step-init
loop-step-init c = record { read = c.requires.read; size = omega arith }

pub loop-step-preserved : goal.loop-step-preserved
loop-step-preserved c =
    let words = c.args.frames.now in
    let root = c.args.root in
    let run = c.load_words.new.words in
    let bytes = c.loop-step.bytes.items in
    let size = c.loop-step.invariant.size in
    let address = c.args.at + length bytes in
    let page_is = c.containing_address-page.ensures in
    let at_is = c.new.ensures in
    let left = c.min-left.ensures in
    let less = c.loop-step-test.true in
    let here : address / 4096 ≡ c.containing_address-page.result = omega (arith, size, page_is, at_is, left, less) in
    let counted = c.len-count.ensures in
    let words_are = c.load_words.ensures.length in
    let all : address % 4096 - 8 * 0 ≡ address % 4096 = omega arith in
    let page : (c.args.at + length c.args.bytes.now.items) / 4096 ≡ c.containing_address-page.result = omega (arith, counted, page_is, at_is) in
    let mapped : IsSome (walk_of words root c.containing_address-page.result) = subst (λ (p : ℕ). IsSome (walk_of words root p)) page c.requires.mapped in
    let byte : reached words root address ≡ Some (byte_at run (address % 4096)) =
    reached_in words root address 0 (walk_of words root c.containing_address-page.result) (ap (walk_of words root) here) run
    c.load_words.ensures.words mapped (omega arith) (omega (arith, words_are))
    ∙ ap (λ (i : ℕ). Some (byte_at run i)) all in
    let place : address % 4096 ≡ (c.args.at + c.len-count.result) % 4096 + c.loop-step.step = omega (arith, size, left, less) in
    let value : Some (byte_at run (address % 4096)) ≡ Some c.byte_of_words.result =
    ap (λ (i : ℕ). Some (byte_at run i)) place ∙ ap (λ (b : ℕ). Some b) (sym c.byte_of_words.ensures) in
    let longer = ap length c.in_ok-push.ensures.items in
    let sum = length-append bytes (c.byte_of_words.result ∷ []) in
    record {
      read = byte_more (reached words root) c.args.at bytes c.push.new.self.items c.byte_of_words.result
          c.loop-step.invariant.read (byte ∙ value) c.in_ok-push.ensures.items;
      size = omega (arith, longer, sum, size);
    }
