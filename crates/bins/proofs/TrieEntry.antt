-- A chunk is put into the trie at a node, in the words of the call.
use Rattle.std.proofs.Common.{◌≡◌, ◌≢◌, ℕ, ◌+◌, ◌-◌, ◌*◌, ◌<◌, ◌≤◌, Bool, List, sym, ap, subst, ◌∙◌, arith}
use Rattle.heap_memory.specs.declared.grant.Grant.{Grant}
use Rattle.dlmalloc_chunks.specs.Head.{size_of}
use Rattle.bins.specs.Index.{with_chunk}
use Rattle.bins.specs.Tries.{slot, low_at, width, IsTrie}
use Rattle.bins.specs.Linked.{IsFreshChunk}
use Rattle.bins.specs.Below.{IsHeld, OnlyRangeChanges, HasGained}
use Rattle.bins.specs.Stores.{HasJoined, HasLeaf}
use Rattle.bins.specs.Places.{CanJoin, CanBeLeaf}
use Rattle.bins.proofs.Frame.{in_without}
use Rattle.bins.proofs.Widths.{wide}
use Rattle.bins.proofs.Opened.{Opened, closed}
use Rattle.bins.proofs.Chunks.{chunk_place}
use Rattle.bins.proofs.Descent.{IsDescent}
use Rattle.bins.proofs.Searching.{high_fits}
use Rattle.bins.proofs.RootLeaf.{r_own}
use Rattle.bins.proofs.Taking.{o, t_slot, t_at, t_levels, t_rest, sub_held}
use Rattle.bins.proofs.TrieInsert.{last_place, joined_apart, slot_own, joined_opened, joined_words, leaf_opened, leaf_words, child_opened, child_words}

module _ {regions : List Grant} {old : ℕ → ℕ} {index : ℕ → List ℕ} {bin parent low levels at size chunk : ℕ}
    (some : 0 < at) (held : IsHeld regions old index bin parent low levels at) (fresh : IsFreshChunk regions old index size chunk) (big : 256 ≤ size) where
  abbrev here : Opened old index bin parent low (levels - 1) at
  here = o some held

  abbrev rest : ℕ → List ℕ
  rest = t_rest some held

  pub e_ring : CanJoin regions old at chunk
  e_ring = record {
    links = record { prev = r_own held fresh big 2 (omega arith) (omega arith); next = r_own held fresh big 3 (omega arith) (omega arith) };
    here = chunk_place held.chunks held.large here.node.size at 2 (t_at some held) (omega arith) (omega arith);
    behind = last_place held.chunks held.large fresh big here;
    apart = joined_apart held.chunks held.large fresh big here;
  }

  pub e_new : (side : Bool) → CanBeLeaf regions (at + slot side) chunk
  e_new side = record { named = t_slot some held side; own = r_own held fresh big; apart = slot_own held.chunks held.large fresh big here side }

  -- the range in halves
  whole_range : low + 2 * width (levels - 1) ≡ low + width levels
  whole_range = ap (λ w. low + w) (sym (wide levels (t_levels some held)))

  pub e_joined : {new : ℕ → ℕ} → size_of (old (at + 8)) ≡ size → HasJoined regions old at chunk new →
      HasGained regions old new index bin parent low levels size chunk at
  e_joined {new = new} same joined = record {
    trie = closed levels (t_levels some held) (joined_opened held.chunks held.large fresh big here (sym here.node.head ∙ same) joined);
    words = subst (λ high. OnlyRangeChanges regions index low high size chunk old new) whole_range
        (joined_words held.chunks held.large fresh big here (sym here.node.head ∙ same) joined);
  }

  -- the child on the side of the new chunk
  module _ {side : Bool} {half place child : ℕ} (step : IsDescent old low levels at size side half place child) where
    -- where the range of the child begins
    abbrev under : ℕ
    under = low_at side low (width (levels - 1))

    not_same : here.node.size ≢ size
    not_same is = step.other (here.node.head ∙ is)

    above : under ≤ size
    above = subst (λ h. low_at side low h ≤ size) step.half_is step.above

    below : size < under + width (levels - 1)
    below = subst (λ h. size < low_at side low h + h) step.half_is step.below

    child_at : here.node.child side ≡ child
    child_at = sym (step.child_is ∙ (ap old step.place_is ∙ here.node.child_is side))

    leaf_at : {new : ℕ → ℕ} → HasLeaf regions old place at bin chunk new → HasLeaf regions old (at + slot side) at bin chunk new
    leaf_at {new = new} leaf = subst (λ p. HasLeaf regions old p at bin chunk new) step.place_is leaf

    pub e_leaf : {new : ℕ → ℕ} → child ≡ 0 → HasLeaf regions old place at bin chunk new → HasGained regions old new index bin parent low levels size chunk at
    e_leaf {new = new} none leaf = record {
      trie = closed levels (t_levels some held)
          (leaf_opened held.chunks held.large fresh big here side not_same (child_at ∙ none) held.whole above below (leaf_at leaf));
      words = subst (λ high. OnlyRangeChanges regions index low high size chunk old new) whole_range
          (leaf_words held.chunks held.large fresh big here side not_same (child_at ∙ none) held.whole above below (leaf_at leaf));
    }

    pub e_fits : low_at side low half + width (levels - 1) ≤ low + width levels
    e_fits = let w = wide levels (t_levels some held) in let h = high_fits side low half in omega (arith, w, h, step.half_is)

    pub e_held : 0 < child → IsHeld regions old rest bin at (low_at side low half) (levels - 1) child
    e_held real = subst (λ h. IsHeld regions old rest bin at (low_at side low h) (levels - 1) child) (sym step.half_is)
        (sub_held some held side (step.child_is ∙ ap old step.place_is) real)

    pub e_fresh : IsFreshChunk regions old rest size chunk
    e_fresh = record { is = fresh.is; apart = λ m c is. fresh.apart m c (in_without here.node.size index m c is) }

    -- what a call for the child promises of every index and parent
    module _ (new : ℕ → ℕ) {low' : ℕ} (low_is : low' ≡ low_at side low half) (real : 0 < child)
        (gained : (index' : ℕ → List ℕ) (parent' : ℕ) → IsHeld regions old index' bin parent' low' (levels - 1) child →
        IsFreshChunk regions old index' size chunk → HasGained regions old new index' bin parent' low' (levels - 1) size chunk child) where
      low_same : low' ≡ under
      low_same = low_is ∙ ap (λ h. low_at side low h) step.half_is

      held_there : IsHeld regions old rest bin at low' (levels - 1) child
      held_there = subst (λ l. IsHeld regions old rest bin at l (levels - 1) child) (sym low_is) (e_held real)

      there : HasGained regions old new rest bin at low' (levels - 1) size chunk child
      there = gained rest at held_there e_fresh

      trie_there : IsTrie new (with_chunk size chunk rest) bin at under (levels - 1) (here.node.child side)
      trie_there = subst (λ l. IsTrie new (with_chunk size chunk rest) bin at l (levels - 1) (here.node.child side)) low_same
          (subst (λ x. IsTrie new (with_chunk size chunk rest) bin at low' (levels - 1) x) (sym child_at) there.trie)

      words_there : OnlyRangeChanges regions rest under (under + width (levels - 1)) size chunk old new
      words_there = subst (λ l. OnlyRangeChanges regions rest l (l + width (levels - 1)) size chunk old new) low_same there.words

      pub e_child : HasGained regions old new index bin parent low levels size chunk at
      e_child = record {
        trie = closed levels (t_levels some held)
            (child_opened held.chunks held.large fresh big here new side not_same above below trie_there words_there);
        words = subst (λ high. OnlyRangeChanges regions index low high size chunk old new) whole_range
            (child_words held.chunks held.large fresh big here new side not_same above below trie_there words_there);
      }
