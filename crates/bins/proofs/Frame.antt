-- What no store outside the words of its chunks changes.
use Rattle.std.proofs.Common.{◌≡◌, ℕ, zero, suc, ◌+◌, ◌*◌, ◌<◌, ◌≤◌, inl, inr, ◌==◌, if◌then◌else◌, Bool, true, false, List, [], ◌∷◌, refl, sym, ap, subst, ◌∙◌, arith}
use Rattle.dlmalloc_chunks.specs.Head.{size_of}
use Rattle.bins.specs.Index.{IsIn, without_size}
use Rattle.bins.specs.Rings.{AreLinked, IsSame}
use Rattle.bins.specs.Tries.{slot, low_at, width, IsNode, IsTrie}

-- a ring stays if the words of its chunks do
pub linked_kept : (old new : ℕ → ℕ) (before : ℕ) (chunks : List ℕ) (behind : ℕ) →
    ((chunk : ℕ) → IsIn chunk chunks → IsSame old new 32 chunk) →
    AreLinked old before chunks behind → AreLinked new before chunks behind
linked_kept old new before [] behind same h = tt
linked_kept old new before (chunk ∷ chunks) behind same h =
    let here = same chunk (inl refl) in (
      here 2 (omega arith) (omega arith) ∙ h.0,
      here 3 (omega arith) (omega arith) ∙ h.1,
      linked_kept old new chunk chunks behind (λ other is. same other (inr is)) h.2,
    )

in_if : (b : Bool) (chunk : ℕ) (chunks : List ℕ) → IsIn chunk (if b then [] else chunks) → IsIn chunk chunks
in_if true chunk chunks is = absurd is
in_if false chunk chunks is = is

pub in_without : (size : ℕ) (index : ℕ → List ℕ) (n chunk : ℕ) → IsIn chunk (without_size size index n) → IsIn chunk (index n)
in_without size index n chunk is = in_if (n == size) chunk (index n) is

-- the chunks of an index of a size in a range stay as they are
abbrev pub AreSame : (ℕ → ℕ) → (ℕ → ℕ) → (ℕ → List ℕ) → ℕ → ℕ → Type 0
AreSame old new index low high = (n : ℕ) → low ≤ n → n < high → (chunk : ℕ) → IsIn chunk (index n) → IsSame old new 64 chunk

-- a half of a range lies in it
pub in_half : (side : Bool) (low half n : ℕ) → low_at side low half ≤ n → n < low_at side low half + half → (low ≤ n) × (n < low + 2 * half)
in_half false low half n above below = (omega arith, omega arith)
in_half true low half n above below = (omega arith, omega arith)

-- a trie stays if the words of its chunks do
module _ (old new : ℕ → ℕ) (bin : ℕ) where
  node_kept : {index : ℕ → List ℕ} {parent low high at : ℕ} → AreSame old new index low high → IsNode old index bin parent low high at →
      IsNode new index bin parent low high at
  node_kept {at = at} same node =
      let in_index : (chunk : ℕ) → IsIn chunk (at ∷ node.others) → IsSame old new 64 chunk =
      λ chunk is. same node.size node.above node.below chunk (subst (λ (cs : List ℕ). IsIn chunk cs) (sym node.chunks) is) in
      let here = in_index at (inl refl) in
      let word : (k : ℕ) → 0 < k → 8 * k < 64 → new (at + 8 * k) ≡ old (at + 8 * k) = here in
      record {
        size = node.size;
        others = node.others;
        child = node.child;
        some = node.some;
        above = node.above;
        below = node.below;
        chunks = node.chunks;
        head = ap size_of (word 1 (omega arith) (omega arith)) ∙ node.head;
        ring = record {
          begins = word 3 (omega arith) (omega arith) ∙ node.ring.begins;
          ends = word 2 (omega arith) (omega arith) ∙ node.ring.ends;
          linked = linked_kept old new at node.others at (λ chunk is k some few. in_index chunk (inr is) k some (omega arith)) node.ring.linked;
        };
        child_is = λ side. elim side as (λ s. new (at + slot s) ≡ node.child s) [
          | false ↦ word 4 (omega arith) (omega arith) ∙ node.child_is false
          | true ↦ word 5 (omega arith) (omega arith) ∙ node.child_is true
        ];
        parent_is = word 6 (omega arith) (omega arith) ∙ node.parent_is;
        bin_is = word 7 (omega arith) (omega arith) ∙ node.bin_is;
      }

  pub trie_kept : (index : ℕ → List ℕ) (parent low levels at : ℕ) → AreSame old new index low (low + width levels) →
      IsTrie old index bin parent low levels at → IsTrie new index bin parent low levels at
  unfolding node_kept
  trie_kept index parent low zero at same h = h
  trie_kept index parent low (suc levels) at same (inl none) = inl none
  trie_kept index parent low (suc levels) at same (inr (node, children)) = inr (
    node_kept same node,
    λ side. trie_kept (without_size node.size index) at (low_at side low (width levels)) levels (node.child side)
        (λ n above below chunk is. let half = in_half side low (width levels) n above below in
        same n half.0 half.1 chunk (in_without node.size index n chunk is)) (children side),
  )
