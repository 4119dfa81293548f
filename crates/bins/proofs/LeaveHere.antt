-- A chunk leaves the ring of a node of its size, in the words of the call.
use Rattle.std.proofs.Common.{◌≡◌, ◌≢◌, ℕ, ◌+◌, ◌-◌, ◌*◌, ◌<◌, inl, inr, List, [], ◌∷◌, refl, sym, ap, subst, ◌∙◌, arith}
use Rattle.heap_memory.specs.declared.grant.Grant.{Grant}
use Rattle.bins.specs.Index.{IsIn, first_or, removed, without_chunk, without_size}
use Rattle.bins.specs.Tries.{both, width, IsTrie}
use Rattle.bins.specs.Stores.{HasPulled, HasHeirLinks, HasPlaced}
use Rattle.bins.specs.Places.{CanLeaveRing}
use Rattle.bins.specs.Below.{IsHeld, OnlyHeldChanges, HasLeft}
use Rattle.bins.proofs.Widths.{wide}
use Rattle.bins.proofs.Lists.{removed_at, minus_same, minus_other, without_same, without_other}
use Rattle.bins.proofs.Reindexed.{trie_reindexed}
use Rattle.bins.proofs.Chunks.{same_or_not, one_size, chunk_place}
use Rattle.bins.proofs.Opened.{Opened, closed}
use Rattle.bins.proofs.Taking.{o, t_at, t_levels, t_once}
use Rattle.bins.proofs.RingPulled.{prev_in, next_in, pulled_apart, pulled_opened, pulled_words}
use Rattle.bins.proofs.HeirPlaced.{heir_opened, heir_words}

-- a ring that begins with its mark is empty, if the mark is none of it
alone_in : {at : ℕ} (others : List ℕ) → at ≡ first_or at others → (IsIn at others → ⊥) → others ≡ []
alone_in [] is none = refl
alone_in (x ∷ xs) is none = absurd (none (inl is))

-- alone in its ring, a node leaves with its size
pub u_left : (new : ℕ → ℕ) (index : ℕ → List ℕ) (bin parent low levels at size x : ℕ) → index size ≡ at ∷ [] →
    IsTrie new (without_size size index) bin parent low levels x → IsTrie new (without_chunk size at index) bin parent low levels x
u_left new index bin parent low levels at size x is = trie_reindexed new bin (without_size size index) (without_chunk size at index) parent low levels x
    (λ m a b. elim (same_or_not m size) [
      | inl e ↦
          ap (without_chunk size at index) e ∙ (minus_same size at index ∙ (ap (λ (cs : List ℕ). removed at cs) is ∙ (removed_at at [] [] ((λ n. n), tt)
          ∙ sym (ap (without_size size index) e ∙ without_same size index))))
      | inr e ↦ minus_other size at index m e ∙ sym (without_other size index m e)
    ])

module _ {regions : List Grant} {old : ℕ → ℕ} {index : ℕ → List ℕ} {bin parent low levels at : ℕ} (some : 0 < at)
    (held : IsHeld regions old index bin parent low levels at)
    (size : ℕ) (at_in : IsIn at (index size)) where
  abbrev node : Opened old index bin parent low (levels - 1) at
  node = o some held

  size_is : node.node.size ≡ size
  size_is = one_size node.node.size size at held.chunks (t_at some held) at_in

  closed_at : (chunk : ℕ) {new : ℕ → ℕ} {x : ℕ} → Opened new (without_chunk node.node.size chunk index) bin parent low (levels - 1) x →
      IsTrie new (without_chunk size chunk index) bin parent low levels x
  closed_at chunk {new = new} {x = x} h =
      subst (λ s. IsTrie new (without_chunk s chunk index) bin parent low levels x) size_is (closed levels (t_levels some held) h)

  wider : (new : ℕ → ℕ) → OnlyHeldChanges regions index low (low + 2 * width (levels - 1)) old new →
      OnlyHeldChanges regions index low (low + width levels) old new
  wider new h = subst (λ w. OnlyHeldChanges regions index low (low + w) old new) (sym (wide levels (t_levels some held))) h

  pub u_alone : old (at + 24) ≡ at → index size ≡ at ∷ []
  u_alone is =
      ap index (sym size_is) ∙ (node.node.chunks ∙ ap (λ (cs : List ℕ). at ∷ cs)
      (alone_in node.node.others (sym is ∙ node.node.ring.begins) (t_once some held).0))

  -- ---- a chunk that is not the oldest
  module _ (chunk : ℕ) (chunk_in : IsIn chunk (index size)) (younger : chunk ≢ at) where
    in_others : IsIn chunk node.node.others
    in_others =
        elim (subst (λ (cs : List ℕ). IsIn chunk cs) node.node.chunks (subst (λ s. IsIn chunk (index s)) (sym size_is)
        chunk_in)) [ inl is ↦ absurd (younger is) | inr is ↦ is ]

    pub u_ring : CanLeaveRing regions old chunk
    u_ring =
        let chunks = held.chunks in let large = held.large in let size' = node.node.size in
        let before = prev_in chunk chunks large node in_others refl refl in
        let after = next_in chunk chunks large node in_others refl refl in
        record {
          links = record {
            prev = chunk_place chunks large size chunk 2 chunk_in (omega arith) (omega arith);
            next = chunk_place chunks large size chunk 3 chunk_in (omega arith) (omega arith);
          };
          front = chunk_place chunks large size' (old (chunk + 16)) 3 before (omega arith) (omega arith);
          back = chunk_place chunks large size' (old (chunk + 24)) 2 after (omega arith) (omega arith);
          other = pulled_apart chunk chunks large node in_others refl refl;
        }

    pub u_pulled : {new : ℕ → ℕ} → HasPulled regions old (old (chunk + 16)) (old (chunk + 24)) 0 new →
        HasLeft regions old new index bin parent low levels size chunk at
    u_pulled {new = new} pulled = record {
      trie = closed_at chunk (pulled_opened chunk held.chunks held.large node in_others refl refl pulled);
      words = wider new (pulled_words chunk held.chunks held.large node in_others refl refl pulled);
    }

  -- ---- the oldest, with an heir
  module _ {heir : ℕ} (heir_is : heir ≡ old (at + 24)) (other : heir ≢ at) {new : ℕ → ℕ}
      (given : (mid : ℕ → ℕ) × (HasHeirLinks regions old heir (old (at + 16)) mid × HasPlaced regions mid heir
      (both (old (at + 32)) (old (at + 40))) parent bin new)) where
    pub u_heir : HasLeft regions old new index bin parent low levels size at heir
    u_heir = record {
      trie = closed_at at (heir_opened held.chunks held.large node heir_is other given.1.0 given.1.1);
      words = wider new (heir_words held.chunks held.large node heir_is other given.1.0 given.1.1);
    }
