-- Where a node stands in a trie: at its root, or at the word of its parent.
use Rattle.std.proofs.Common.{◌≡◌, ◌≢◌, ℕ, zero, suc, ◌+◌, ◌-◌, ◌<◌, ◌≤◌, ◌⊎◌, inl, inr, Bool, not, List, ◌∷◌, refl, sym, ap, subst, ◌∙◌, arith}
use Rattle.heap_memory.specs.declared.grant.Grant.{Grant}
use Rattle.heap_memory.specs.Words.{IsStored}
use Rattle.dlmalloc_chunks.specs.Head.{size_of}
use Rattle.bins.specs.Index.{IsIn, first_or, without_chunk, without_size}
use Rattle.bins.specs.Tries.{slot, low_at, width, IsTrie}
use Rattle.bins.specs.Stores.{IsWordPlace}
use Rattle.bins.specs.Below.{IsHeld, OnlyHeldChanges}
use Rattle.bins.proofs.Frame.{in_without}
use Rattle.bins.proofs.Lists.{without_other, first_in}
use Rattle.bins.proofs.Chunks.{same_or_not, one_size}
use Rattle.bins.proofs.Opened.{Opened, opened, levels_some, halves_apart}
use Rattle.bins.proofs.Widths.{wide}
use Rattle.bins.proofs.Taking.{o, t_slot}
use Rattle.bins.proofs.OneIndex.{half_with}
use Rattle.bins.proofs.LeaveBelow.{LeavesBelow, b_real, b_held, kids_kept, one_trie, one_words}

-- A node stands below the root of a trie: it is a child of a node, and the trie from it on holds an index of its own.
-- If that trie loses the node, and the word of the parent is given the one that takes its place, the whole trie has
-- lost it.
pub record IsBelow (regions : List Grant) (old : ℕ → ℕ) (index : ℕ → List ℕ) (bin parent low levels at size chunk up : ℕ) : Type 0 where
  pub own : ℕ → List ℕ
  pub from : ℕ
  pub deep : ℕ
  pub side : Bool
  pub held : IsHeld regions old own bin up from deep chunk
  pub is_in : IsIn chunk (own size)
  pub less : deep ≤ levels
  pub up_low : 4096 ≤ up
  pub places : (b : Bool) → IsWordPlace regions (up + slot b)
  pub here : old (up + slot side) ≡ chunk
  pub there : old (up + slot (not side)) ≢ chunk
  pub kept : (mid : ℕ → ℕ) → OnlyHeldChanges regions own from (from + width deep) old mid → (b : Bool) → mid (up + slot b) ≡ old (up + slot b)
  pub trie : (mid new : ℕ → ℕ) (left : ℕ) → IsTrie mid (without_chunk size chunk own) bin up from deep left →
      OnlyHeldChanges regions own from (from + width deep) old mid → IsStored regions mid (up + slot side) left new →
      IsTrie new (without_chunk size chunk index) bin parent low levels at
  pub words : (mid new : ℕ → ℕ) (left : ℕ) → IsTrie mid (without_chunk size chunk own) bin up from deep left →
      OnlyHeldChanges regions own from (from + width deep) old mid → IsStored regions mid (up + slot side) left new →
      OnlyHeldChanges regions index low (low + width levels) old new

module _ (regions : List Grant) (old : ℕ → ℕ) (bin size chunk : ℕ) (others : List ℕ) where
  -- one step down from a node of another size
  module _ {index : ℕ → List ℕ} {parent low levels at : ℕ} (some : 0 < at) (held : IsHeld regions old index bin parent low levels at)
      (first : index size ≡ chunk ∷ others)
      (other : size_of (old (at + 8)) ≢ size) (side : Bool) (above : low_at side low (width (levels - 1)) ≤ size)
      (below : size < low_at side low (width (levels - 1)) + width (levels - 1)) where
    chunk_in : IsIn chunk (index size)
    chunk_in = first_in first

    abbrev leaves : LeavesBelow regions old index bin parent low levels at size chunk side (width (levels - 1)) (at + slot side) (old (at + slot side))
    leaves = record {
      some = some;
      held = held;
      chunk_in = chunk_in;
      step = record { other = other; half_is = refl; place_is = refl; child_is = refl; above = above; below = below };
    }

    abbrev node : Opened old index bin parent low (levels - 1) at
    node = o some held

    not_same : node.node.size ≢ size
    not_same is = other (node.node.head ∙ is)

    abbrev rest : ℕ → List ℕ
    rest = without_size node.node.size index

    abbrev under : ℕ
    under = low_at side low (width (levels - 1))

    rest_first : rest size ≡ chunk ∷ others
    rest_first = without_other node.node.size index size (λ e. not_same (sym e)) ∙ first

    at_in : IsIn at (index node.node.size)
    at_in = first_in node.node.chunks

    real : 0 < old (at + slot side)
    real = b_real leaves

    child_held : IsHeld regions old rest bin at under (levels - 1) (old (at + slot side))
    child_held = b_held leaves

    kids : (mid : ℕ → ℕ) → OnlyHeldChanges regions rest under (under + width (levels - 1)) old mid → (b : Bool) →
        mid (at + slot b) ≡ old (at + slot b)
    kids = kids_kept leaves

    up_trie : (mid new : ℕ → ℕ) (left : ℕ) → IsTrie mid (without_chunk size chunk rest) bin at under (levels - 1) left →
        OnlyHeldChanges regions rest under (under + width (levels - 1)) old mid →
        IsStored regions mid (at + slot side) left new → IsTrie new (without_chunk size chunk index) bin parent low
        levels at
    up_trie = one_trie leaves

    up_words : (mid new : ℕ → ℕ) (left : ℕ) → IsTrie mid (without_chunk size chunk rest) bin at under (levels - 1) left →
        OnlyHeldChanges regions rest under (under + width (levels - 1)) old mid →
        IsStored regions mid (at + slot side) left new → OnlyHeldChanges regions index low (low + width levels) old new
    up_words = one_words leaves

    -- the other child is not the chunk, whose size is in this half
    not_there : old (at + slot (not side)) ≢ chunk
    not_there is =
        let n = levels - 1 in
        let c = held.chunks.each size chunk chunk_in in
        let t = subst (λ x. IsTrie old rest bin at (low_at (not side) low (width n)) n x)
        (sym (node.node.child_is (not side)) ∙ is) (node.children (not side)) in
        let some' : 0 < chunk = let l = c.low in omega arith in
        let o = opened old rest bin at (low_at (not side) low (width n)) n chunk some' t in
        let w = wide n (levels_some old rest bin at (low_at (not side) low (width n)) n chunk some' t) in
        let in_rest : IsIn chunk (rest o.node.size) = first_in o.node.chunks in
        let one : o.node.size ≡ size = one_size o.node.size size chunk held.chunks (in_without node.node.size index o.node.size chunk in_rest) chunk_in in
        halves_apart side low (width n) size (subst (λ s. low_at (not side) low (width n) ≤ s) one o.node.above)
        (let b = o.node.below in omega (arith, b, one, w)) above below

    here_below : old (at + slot side) ≡ chunk → IsBelow regions old index bin parent low levels at size chunk at
    here_below is = record {
      own = rest;
      from = under;
      deep = levels - 1;
      side = side;
      held = subst (λ x. IsHeld regions old rest bin at under (levels - 1) x) is child_held;
      is_in = first_in rest_first;
      less = omega arith;
      up_low = (held.chunks.each node.node.size at at_in).low;
      places = t_slot some held;
      here = is;
      there = not_there;
      kept = kids;
      trie = up_trie;
      words = up_words;
    }

    more_below : {up : ℕ} → IsBelow regions old rest bin at under (levels - 1) (old (at + slot side)) size chunk up →
        IsBelow regions old index bin parent low levels at size chunk up
    more_below b =
        let same : (new : ℕ → ℕ) → OnlyHeldChanges regions rest under (under + width (levels - 1)) old new →
        IsStored regions new (at + slot side) (old (at + slot side)) new =
        λ new w. record { here = kids new w side; elsewhere = λ p is far. refl } in
        record {
          own = b.own;
          from = b.from;
          deep = b.deep;
          side = b.side;
          held = b.held;
          is_in = b.is_in;
          less = let l = b.less in omega arith;
          up_low = b.up_low;
          places = b.places;
          here = b.here;
          there = b.there;
          kept = b.kept;
          trie = λ mid new left t w stored. let w' = b.words mid new left t w stored in
              up_trie new new (old (at + slot side)) (b.trie mid new left t w stored) w' (same new w');
          words = λ mid new left t w stored. let w' = b.words mid new left t w stored in
              up_words new new (old (at + slot side)) (b.trie mid new left t w stored) w' (same new w');
        }

  -- the oldest chunk of a size is the root of its trie, or stands below it
  pub by_parent : (fuel : ℕ) {index : ℕ → List ℕ} {parent low levels at : ℕ} → levels ≤ fuel → 0 < at →
      IsHeld regions old index bin parent low levels at → index size ≡ chunk ∷ others →
      low ≤ size → size < low + width levels → (chunk ≡ at) ⊎ ((up : ℕ) × IsBelow regions old index bin parent low levels at size chunk up)
  by_parent zero {index = index} {parent = parent} {low = low} {levels = levels} {at = at} few some held first above below =
      absurd (let l = levels_some old index bin parent low levels at some held.trie in omega arith)
  by_parent (suc fuel) {index = index} {parent = parent} {low = low} {levels = levels} {at = at} few some held first above below =
      let o = opened old index bin parent low levels at some held.trie in
      elim (same_or_not (size_of (old (at + 8))) size) [
        | inl same ↦ inl (ap (λ (cs : List ℕ). first_or 0 cs) (sym first ∙ (ap index (sym same ∙ o.node.head) ∙ o.node.chunks)))
        | inr other ↦
            let w = wide levels (levels_some old index bin parent low levels at some held.trie) in
            let h = half_with low (width (levels - 1)) size above (omega (arith, w, below)) in
            let c = real some held first other h.0 h.1 h.2 in
            elim (by_parent fuel (omega arith) c
            (child_held some held first other h.0 h.1 h.2) (rest_first some held first other h.0 h.1 h.2) h.1 h.2) [
              | inl is ↦ inr (at, here_below some held first other h.0 h.1 h.2 (sym is))
              | inr (up, b) ↦ inr (up, more_below some held first other h.0 h.1 h.2 b)
            ]
      ]
