-- Responses to pieces of the input, one after another.
use Rattle.std.proofs.Common.{◌≡◌, ℕ, List, [], ◌∷◌, ◌++◌, Option, sym, ◌∙◌, ap, subst, append_assoc, ◌<◌, length, arith}
use Rattle.std.proofs.lemmas.List.{append-nil}
use Rattle.machine_model.specs.declared.call.Call.{Call}
use Rattle.call_lines.specs.Grammar.{item_of}
use Rattle.heap_program.specs.Lines.{items_of, IsOneLine}
use Rattle.heap_program.specs.Responses.{HasResponded, Responded}
use Rattle.heap_program.proofs.LineLemmas.{items-whole, items-last, items-none}

module _ {R : Type 0} (responds : R → List (Option Call) → List ℕ → R → Type 0) where
  -- bytes that only change the line that has begun
  pub responded_part : (x : R) (line line' bytes : List ℕ) → ((rest : List ℕ) →
      items_of (line ++ (bytes ++ rest)) ≡ items_of (line' ++ rest)) → responds x [] [] x →
      Responded responds x line bytes [] line' x
  responded_part x line line' bytes same none = record { items = []; read = same; responses = none }

  -- a line feed, and the response to the line
  pub responded_line : (x y : R) (line told after : List ℕ) → IsOneLine line → after ≡ [] →
      responds x (item_of line ∷ []) told y → Responded responds x line (10 ∷ []) told after y
  responded_line x y line told after one empty responses = record {
    items = item_of line ∷ [];
    read = λ rest. items-whole line rest one ∙ ap (λ (l : List ℕ). item_of line ∷ items_of (l ++ rest)) (sym empty);
    responses = responses;
  }

  -- a whole line where none had begun
  pub responded_whole : (x y : R) (before line told after : List ℕ) → before ≡ [] → after ≡ before → IsOneLine line →
      responds x (item_of line ∷ []) told y → Responded responds x before (line ++ 10 ∷ []) told after y
  responded_whole x y before line told after none same one responses = record {
    items = item_of line ∷ [];
    read = λ rest.
        ap (λ (l : List ℕ). items_of (l ++ ((line ++ 10 ∷ []) ++ rest))) none
        ∙ ap items_of (append_assoc line (10 ∷ []) rest)
        ∙ items-whole line rest one
        ∙ ap (λ (l : List ℕ). item_of line ∷ items_of (l ++ rest)) (sym (same ∙ none));
    responses = responses;
  }

  -- some bytes, and then some more
  pub responded_more :
      ((x y z : R) (a b : List (Option Call)) (t u : List ℕ) → responds x a t y → responds y b u z → responds x (a ++ b) (t ++ u) z) →
      (x y z : R) (l1 l2 l3 b1 b2 t1 t2 : List ℕ) → Responded responds x l1 b1 t1 l2 y →
      Responded responds y l2 b2 t2 l3 z → Responded responds x l1 (b1 ++ b2) (t1 ++ t2) l3 z
  responded_more on x y z l1 l2 l3 b1 b2 t1 t2 h k = record {
    items = h.items ++ k.items;
    read = λ rest.
        ap (λ (l : List ℕ). items_of (l1 ++ l)) (append_assoc b1 b2 rest)
        ∙ h.read (b2 ++ rest)
        ∙ ap (λ (l : List (Option Call)). h.items ++ l) (k.read rest)
        ∙ sym (append_assoc h.items k.items (items_of (l3 ++ rest)));
    responses = on x y z h.items k.items t1 t2 h.responses k.responses;
  }

  -- no line had begun
  pub no_line : (x : R) (line before : List ℕ) → length line ≡ 0 → responds x [] [] x → HasResponded responds x (items_of line) before before x
  no_line x [] before empty none = record {
    told = [];
    output = sym (append-nil before);
    responses =
        subst (λ (items : List (Option Call)). responds x items [] x) (sym items-none) none;
  }
  no_line x (b ∷ line) before empty none = absurd (omega (arith, empty))

  -- the last line
  pub last_line : (x y : R) (line before after : List ℕ) → IsOneLine line → 0 < length line →
      HasResponded responds x (item_of line ∷ []) before after y → HasResponded responds x (items_of line) before after y
  last_line x y [] before after one some h = absurd (omega (arith, some))
  last_line x y (b ∷ line) before after one some h =
      record {
        told = h.told;
        output = h.output;
        responses = subst (λ (items : List (Option Call)).
            responds x items h.told y) (sym (items-last b line one)) h.responses;
      }
