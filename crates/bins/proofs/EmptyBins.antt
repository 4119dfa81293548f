-- Bins without a chunk.
use Rattle.std.proofs.Common.{◌≡◌, ℕ, ◌+◌, ◌<◌, Bool, true, false, List, [], refl, sym, ap, subst, ◌∙◌, arith}
use Rattle.std.specs.Prelude.{slice_index, nat_lt, if◌then◌else◌}
use Rattle.std.specs.Int.{bit_at}
use Rattle.std.proofs.lemmas.Nat.Bits.{bit_at-zero}
use Rattle.heap_memory.specs.declared.grant.Grant.{Grant}
use Rattle.dlmalloc_chunks.specs.Bins.{least_size}
use Rattle.bins.specs.declared.bins.Bins.{Bins}
use Rattle.bins.specs.Index.{from}
use Rattle.bins.specs.Tries.{IsTrie}
use Rattle.bins.specs.Linked.{IsLinked, low_of, levels_of}
use Rattle.bins.proofs.Opened.{empty}

abbrev none : List ℕ
none = []

nothing : (b : Bool) → (if b then none else none) ≡ none
nothing true = refl
nothing false = refl

pub empty_linked : (regions : List Grant) (words : ℕ → ℕ) (bins : Bins) → ((i : ℕ) → i < 32 → slice_index bins.firsts i ≡ 64 + i) →
    ((i : ℕ) → i < 32 → slice_index bins.lasts i ≡ 64 + i) →
    bins.small_map ≡ 0 → ((i : ℕ) → i < 32 → slice_index bins.roots i ≡ 0) → bins.tree_map ≡ 0 → IsLinked regions words bins (λ n. [])
empty_linked regions words bins firsts lasts small_map roots tree_map = record {
  chunks = record { each = λ n c is. absurd is; apart = λ n c m d is other not. absurd is; once = λ n. tt };
  small = λ bin within. record {
    ring = record { begins = firsts bin within; ends = lasts bin within; linked = tt };
    marked = λ some. absurd (some refl);
    clear = λ empty. ap (λ m. bit_at m bin) small_map ∙ bit_at-zero bin;
  };
  large = λ bin within. record {
    trie = subst (λ root. IsTrie words (from (least_size bin) (λ n. [])) bin (128 + bin) (low_of bin) (levels_of bin) root) (sym (roots bin within))
        (empty words (from (least_size bin) (λ n. [])) bin (128 + bin) (low_of bin) (levels_of bin) (λ n above below. nothing (nat_lt n (least_size bin))));
    marked = λ some. absurd (let e = roots bin within in omega arith);
    clear = λ is. ap (λ m. bit_at m bin) tree_map ∙ bit_at-zero bin;
  };
}
