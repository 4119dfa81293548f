-- A search that carries the least chunk so far.
use Rattle.std.proofs.Common.{◌≡◌, ℕ, ◌+◌, ◌-◌, ◌*◌, ◌<◌, ◌≤◌, ◌⊎◌, inl, inr, Bool, true, false, List, ◌∷◌, refl, sym, ap, subst, ◌∙◌, arith}
use Rattle.std.proofs.lemmas.Bool.{cases_lt}
use Rattle.heap_memory.specs.declared.grant.Grant.{Grant}
use Rattle.dlmalloc_chunks.specs.Head.{size_of}
use Rattle.bins.specs.declared.fit.Fit.{Fit}
use Rattle.bins.specs.declared.search.Subtrie.{Subtrie}
use Rattle.bins.specs.Index.{without_size, IsNone}
use Rattle.bins.specs.Tries.{slot, low_at, width, IsTrie}
use Rattle.bins.specs.Fits.{IsReadable, IsBestFit, IsLesser, IsSearched}
use Rattle.bins.proofs.Descent.{IsDescent}
use Rattle.bins.proofs.Chunks.{same_or_not}
use Rattle.bins.proofs.Widths.{wide}
use Rattle.bins.proofs.Opened.{Opened, opened, none_in, levels_some}
use Rattle.bins.proofs.Searching.{none_up, fit_up, fit_apart, own_fit, fit_wider, fit_behind, none_both, high_fits, upper_high, lower_high, q, s_child, s_trie, s_high}

-- An index has no chunk from a size on and below another, and a further trie was searched, or else the index was, for the lesser
-- of its fit and a known chunk.
abbrev pub IsFound : (ℕ → List ℕ) → (least high : ℕ) → (ℕ → List ℕ) → (next_low next_high known_size known result : ℕ) → Type 0
IsFound index least high next next_low next_high known_size known result =
    (IsNone index least high × IsSearched next next_low next_high known_size known result) ⊎ IsLesser index least high known_size known result

-- Of a node's chunk and a known one, the lesser from a size on is carried on.
pub record IsCarried (old : ℕ → ℕ) (at least : ℕ) (own known now : Fit) : Type 0 where
  pub size_is : own.size ≡ size_of (old (at + 8))
  pub chunk_is : own.chunk ≡ at
  pub other : least ≤ own.size → own.size ≤ known.size → now ≡ own
  pub same : (own.size < least) ⊎ (known.size < own.size) → now ≡ known

-- The next trie beside a path is the right child if the path turns to the left and there is one, or else the one so far.
pub record IsNext (old : ℕ → ℕ) (levels at : ℕ) (side : Bool) (right beside beside_levels : ℕ) (next : Subtrie) : Type 0 where
  pub right_is : right ≡ old (at + 40)
  pub turns : side ≡ false → 0 < right → next ≡ record { at = right; levels = levels - 1 }
  pub goes_on : (side ≡ true) ⊎ (right ≡ 0) → next ≡ record { at = beside; levels = beside_levels }

-- ---- a wider range

pub lesser_wider : {index : ℕ → List ℕ} {from high : ℕ} (high' : ℕ) {known_size known result : ℕ} → high ≤ high' →
    IsLesser index from high known_size known result → IsLesser index from high' known_size known result
lesser_wider high' wider l = record { fit = l.fit; is = fit_wider high' wider l.is; found = l.found; kept = l.kept }

pub lesser_behind : {index : ℕ → List ℕ} (from : ℕ) {middle high known_size known result : ℕ} → from ≤ middle → IsNone index from middle →
    IsLesser index middle high known_size known result → IsLesser index from high known_size known result
lesser_behind from before none l = record { fit = l.fit; is = fit_behind from before none l.is; found = l.found; kept = l.kept }

-- ---- a node whose chunk becomes known, if it is the lesser

module _ (index : ℕ → List ℕ) (s at : ℕ) (others : List ℕ) (chunks : index s ≡ at ∷ others) (from high : ℕ) (below : s < high)
    (known_size known : ℕ) (now : Fit) (result : ℕ)
    (other : from ≤ s → s ≤ known_size → (now.size ≡ s) × (now.chunk ≡ at))
    (same : (s < from) ⊎ (known_size < s) → (now.size ≡ known_size) × (now.chunk ≡ known)) where
  abbrev own : Fit
  own = record { size = s; chunk = at }

  lesser_up : IsLesser (without_size s index) from high now.size now.chunk result → IsLesser index from high known_size known result
  lesser_up l = elim (cases_lt s from) [
    | inl before ↦ let k = same (inl before) in record {
      fit = l.fit;
      is = fit_up index s at others chunks l.is (inl before);
      found = λ le. l.found (omega (arith, k.0));
      kept = λ less. l.kept (omega (arith, k.0)) ∙ k.1;
    }
    | inr enough ↦ elim (cases_lt s l.fit.size) [
      | inl more ↦ record {
        fit = own;
        is = own_fit index s at others chunks from high own refl refl enough below (λ m a b. l.is.least m a (omega arith));
        found = λ le. let k = other enough le in l.kept (omega (arith, k.0)) ∙ k.1;
        kept = λ less. let k = same (inr less) in l.kept (omega (arith, k.0)) ∙ k.1;
      }
      | inr no_more ↦ let apart = fit_apart index s at others chunks l.is in let less : l.fit.size < s = omega (arith, apart) in record {
        fit = l.fit;
        is = fit_up index s at others chunks l.is (inr less);
        found = λ le. l.found (elim (cases_lt known_size s) [
          | inl few ↦ (let k = same (inr few) in omega (arith, k.0))
          | inr many ↦ (let k = other enough many in omega (arith, k.0))
        ]);
        kept = λ few. let k = same (inr (omega arith)) in l.kept (omega (arith, k.0)) ∙ k.1;
      }
    ]
  ]

  lesser_own : from ≤ s → IsNone (without_size s index) from high → result ≡ now.chunk → IsLesser index from high known_size known result
  lesser_own enough none is = record {
    fit = own;
    is = own_fit index s at others chunks from high own refl refl enough below (λ m a b. none m a (omega arith));
    found = λ le. is ∙ (other enough le).1;
    kept = λ less. is ∙ (same (inr less)).1;
  }

  pub searched_up : from ≤ s → IsSearched (without_size s index) from high now.size now.chunk result → IsSearched index from high known_size known result
  searched_up enough (inl (none, is)) = inr (lesser_own enough none is)
  searched_up enough (inr l) = inr (lesser_up l)

  -- if another trie is searched if this one has none
  module _ (next : ℕ → List ℕ) (next_low next_high : ℕ) (apart : high ≤ next_low) where
    known_kept : from ≤ s → IsSearched next next_low next_high now.size now.chunk result → result ≡ now.chunk
    known_kept enough (inl (none, is)) = is
    known_kept enough (inr l) = let above = l.is.above in l.kept (elim (cases_lt known_size s) [
      | inl few ↦ (let k = same (inr few) in omega (arith, k.0))
      | inr many ↦ (let k = other enough many in omega (arith, k.0))
    ])

    pub both_up : IsFound (without_size s index) from high next next_low next_high now.size now.chunk result →
        IsFound index from high next next_low next_high known_size known result
    both_up (inr l) = inr (lesser_up l)
    both_up (inl (none, searched)) = elim (cases_lt s from) [
      | inr enough ↦ inr (lesser_own enough none (known_kept enough searched))
      | inl before ↦ let k = same (inl before) in inl (none_up index s at others chunks from high before none, rw k.1 at (rw k.0 at searched))
    ]

-- a trie that is not empty has a chunk
some_in : (words : ℕ → ℕ) (index : ℕ → List ℕ) (bin parent low levels at : ℕ) → 0 < at →
    IsTrie words index bin parent low levels at → IsNone index low (low + width levels) → ⊥
some_in words index bin parent low levels at some trie none =
    let o = opened words index bin parent low levels at some trie in
    let w = wide levels (levels_some words index bin parent low levels at some trie) in
    let there = o.node.chunks in
    let empty = none o.node.size o.node.above (omega (arith, o.node.below, w)) in cc

-- ---- a search at a node
module _ {regions : List Grant} {old : ℕ → ℕ} {index : ℕ → List ℕ} {low levels at least : ℕ} (some : 0 < at)
    (r : IsReadable regions old index low levels at)
    {own known now : Fit} (carried : IsCarried old at least own known now) (result : ℕ) where
  abbrev node : Opened old index r.bin r.parent low (levels - 1) at
  node = q some r

  own_is : own.size ≡ node.node.size
  own_is = carried.size_is ∙ node.node.head

  abbrev rest : ℕ → List ℕ
  rest = without_size node.node.size index

  other_is : (from : ℕ) → (from ≤ own.size → least ≤ own.size) → from ≤ node.node.size → node.node.size ≤ known.size →
      (now.size ≡ node.node.size) × (now.chunk ≡ at)
  other_is from to enough less =
      let e = carried.other (to (omega (arith, own_is))) (omega (arith, own_is)) in
      (ap (λ (f : Fit). f.size) e ∙ own_is, ap (λ (f : Fit). f.chunk) e ∙ carried.chunk_is)

  same_is : (from : ℕ) → (own.size < from → own.size < least) → (node.node.size < from) ⊎ (known.size < node.node.size) →
      (now.size ≡ known.size) × (now.chunk ≡ known.chunk)
  same_is from to outside =
      let e = carried.same (elim outside [ inl before ↦ inl (to (omega (arith, own_is))) | inr less ↦ inr (omega (arith, own_is)) ]) in
      (ap (λ (f : Fit). f.size) e, ap (λ (f : Fit). f.chunk) e)

  high_is : low + 2 * width (levels - 1) ≡ low + width levels
  high_is = s_high some r

  -- where the range of a child begins
  abbrev under : Bool → ℕ
  under side = low_at side low (width (levels - 1))

  right_trie : (right : ℕ) → right ≡ old (at + 40) → IsTrie old rest r.bin at (low + width (levels - 1)) (levels - 1) right
  right_trie right is = s_trie some r true is refl

  -- the least of all: the leftmost child has it, if there is one
  module _ (all : least ≡ 0) (side : Bool) {child : ℕ} (child_is : child ≡ old (at + slot side)) (lower : side ≡ false → 0 < child)
      (upper : side ≡ true → old (at + 32) ≡ 0) where
    trie : IsTrie old rest r.bin at (under side) (levels - 1) child
    trie = s_trie some r side child_is refl

    below_search : (b : Bool) → b ≡ side → IsSearched rest (under b) (under b + width (levels - 1)) now.size now.chunk result →
        IsSearched rest low (low + 2 * width (levels - 1)) now.size now.chunk result
    below_search false is (inr l) = inr (lesser_wider (low + 2 * width (levels - 1)) (omega arith) l)
    below_search false is (inl (none, e)) = absurd (some_in old rest r.bin at low (levels - 1) child (lower (sym is))
        (subst (λ b. IsTrie old rest r.bin at (under b) (levels - 1) child) (sym is) trie) none)
    below_search true is h =
        let w = width (levels - 1) in
        let none_left : IsNone rest low (low + w) = none_in old rest r.bin at low (levels - 1) (upper (sym is)) (s_trie some r false refl refl) in
        elim h [
          | inl none ↦ inl ((λ m a b. none_both rest low (low + w) (low + w + w) none_left none.0 m a (omega arith)), none.1)
          | inr l ↦ inr (lesser_wider (low + 2 * w) (omega arith) (lesser_behind low (omega arith) none_left l))
        ]

    pub least_search : IsSearched rest (under side) (under side + width (levels - 1)) now.size now.chunk result →
        IsSearched index low (low + width levels) known.size known.chunk result
    least_search h = subst (λ high. IsSearched index low high known.size known.chunk result) high_is
        (searched_up index node.node.size at node.node.others node.node.chunks low (low + 2 * width (levels - 1))
        node.node.below known.size known.chunk now result
        (other_is low (λ e. omega arith)) (same_is low (λ e. absurd (let a = node.node.above in omega (arith, own_is))))
        node.node.above (below_search side refl h))

  -- the least from a size on
  module _ (above' : low ≤ least) {side : Bool} {half place child right : ℕ} (step : IsDescent old low levels at least side half place child)
      {low' : ℕ} (low_is : low' ≡ low_at side low half) {beside beside_levels : ℕ} {next : Subtrie}
      (next_is : IsNext old levels at side right beside beside_levels next)
      (found : (i : ℕ → List ℕ) → IsReadable regions old i low' (levels - 1) child → (n : ℕ → List ℕ) → (n_low : ℕ) →
      IsReadable regions old n n_low next.levels next.at → low' + width (levels - 1) ≤ n_low →
      IsFound i least (low' + width (levels - 1)) n n_low (n_low + width next.levels) now.size now.chunk result)
      {beyond : ℕ → List ℕ} {beside_low : ℕ} (beside_read : IsReadable regions old beyond beside_low beside_levels beside)
      (apart : low + width levels ≤ beside_low) where
    child_read : IsReadable regions old rest low' (levels - 1) child
    child_read =
        subst (λ l. IsReadable regions old rest l (levels - 1) child) (sym low_is) (s_child some r side (step.child_is ∙ ap old step.place_is) step.half_is)

    fits : low' + width (levels - 1) ≤ low + 2 * width (levels - 1)
    fits = let h = high_fits side low half in omega (arith, h, low_is, step.half_is)

    -- what stands below the node
    abbrev Below : Type 0
    Below = IsFound rest least (low + 2 * width (levels - 1)) beyond beside_low (beside_low + width beside_levels) now.size now.chunk result

    wider : IsLesser rest least (low' + width (levels - 1)) now.size now.chunk result → Below
    wider l = inr (lesser_wider (low + 2 * width (levels - 1)) fits l)

    turned : side ≡ false → 0 < right → Below
    turned is_lower real =
        let w = width (levels - 1) in
        let e = next_is.turns is_lower real in
        let l = lower_high side low half is_lower in
        let read = s_child some r true next_is.right_is refl in
        let beside = subst (λ (n : Subtrie). IsReadable regions old rest (low + w) n.levels n.at) (sym e) read in
        elim (found rest child_read rest (low + w) beside (omega (arith, l, low_is, step.half_is))) [
          | inr lesser ↦ wider lesser
          | inl none ↦ elim (subst (λ (n : Subtrie). IsSearched rest (low + w) (low + w + width n.levels) now.size now.chunk result) e none.1) [
            | inl empty ↦ absurd (some_in old rest r.bin at (low + w) (levels - 1) right real (right_trie right next_is.right_is) empty.0)
            | inr lesser ↦ inr (lesser_wider (low + 2 * w) (omega arith)
                (lesser_behind least (omega (arith, l, low_is, step.half_is)) (λ m a b. none.0 m a (omega (arith, l, low_is, step.half_is))) lesser))
          ]
        ]

    went_on : (side ≡ true) ⊎ (right ≡ 0) →
        (IsNone rest least (low' + width (levels - 1)) → IsNone rest least (low + 2 * width (levels - 1))) → Below
    went_on is all =
        let e = next_is.goes_on is in
        let read = subst (λ (n : Subtrie). IsReadable regions old beyond beside_low n.levels n.at) (sym e) beside_read in
        elim (found rest child_read beyond beside_low read (omega (arith, fits, high_is, apart))) [
          | inr lesser ↦ wider lesser
          | inl none ↦
              inl (all none.0, subst (λ (n : Subtrie). IsSearched beyond beside_low (beside_low + width n.levels) now.size now.chunk result) e none.1)
        ]

    below_node : (b : Bool) → b ≡ side → Below
    below_node true is =
        let h = upper_high side low half (sym is) in
        went_on (inl (sym is)) (λ none m a b. none m a (omega (arith, h, low_is, step.half_is)))
    below_node false is = elim (same_or_not right 0) [
      | inr real ↦ turned (sym is) (omega arith)
      | inl zero ↦
          let w = width (levels - 1) in
          let l = lower_high side low half (sym is) in
          let empty = none_in old rest r.bin at (low + w) (levels - 1) zero (right_trie right next_is.right_is) in
          went_on (inr zero) (λ none m a b. none_both rest least (low + w) (low + w + w)
          (λ n c d. none n c (omega (arith, l, low_is, step.half_is))) empty m a (omega arith))
    ]

    pub fit_search : IsFound index least (low + width levels) beyond beside_low (beside_low + width beside_levels) known.size known.chunk result
    fit_search = subst (λ high. IsFound index least high beyond beside_low (beside_low + width beside_levels) known.size known.chunk result) high_is
        (both_up index node.node.size at node.node.others node.node.chunks least (low + 2 * width (levels - 1))
        node.node.below known.size known.chunk now result
        (other_is least (λ e. e)) (same_is least (λ e. e)) beyond beside_low (beside_low + width beside_levels)
        (omega (arith, high_is, apart)) (below_node side refl))

-- the node has the size itself
pub exact_search : {regions : List Grant} {old : ℕ → ℕ} {index : ℕ → List ℕ} {low levels at : ℕ} → 0 < at →
    IsReadable regions old index low levels at →
    {size : ℕ} (known_size known : ℕ) → size ≡ size_of (old (at + 8)) → size ≤ known_size → IsLesser index size (low + width levels) known_size known at
exact_search {index = index} {low = low} {levels = levels} {at = at} some r {size = size} known_size known is enough =
    let o = q some r in
    let s = is ∙ o.node.head in
    let own : Fit = record { size = o.node.size; chunk = at } in record {
      fit = own;
      is = subst (λ high. IsBestFit index size high own) (s_high some r)
          (own_fit index o.node.size at o.node.others o.node.chunks size (low + 2 * width (levels - 1)) own refl refl
          (omega (arith, s)) o.node.below (λ m a b. absurd (omega (arith, s))));
      found = λ e. refl;
      kept = λ e. absurd (omega (arith, s));
    }

-- the next trie beside the path may be read
module _ {regions : List Grant} {old : ℕ → ℕ} {index : ℕ → List ℕ} {low levels at : ℕ} (some : 0 < at)
    (r : IsReadable regions old index low levels at)
    {side : Bool} {right beside beside_levels : ℕ} {next : Subtrie} (next_is : IsNext old levels at side right beside beside_levels next)
    (deep : levels ≤ beside_levels)
    (there : (beyond : ℕ → List ℕ) × ((beside_low : ℕ) × IsReadable regions old beyond beside_low beside_levels beside)) where
  abbrev IsNextRead : Type 0
  IsNextRead =
      (levels - 1 ≤ next.levels) × ((next.levels ≤ beside_levels) × ((beyond : ℕ →
      List ℕ) × ((next_low : ℕ) × IsReadable regions old beyond next_low next.levels next.at)))

  kept : (side ≡ true) ⊎ (right ≡ 0) → IsNextRead
  kept is =
      let e = next_is.goes_on is in
      let l = ap (λ (n : Subtrie). n.levels) e in
      let read = subst (λ (n : Subtrie). IsReadable regions old there.0 there.1.0 n.levels n.at) (sym e) there.1.1 in
      (omega (arith, l), (omega (arith, l), (there.0, (there.1.0, read))))

  go : (b : Bool) → b ≡ side → IsNextRead
  go true is = kept (inl (sym is))
  go false is = elim (same_or_not right 0) [
    | inl zero ↦ kept (inr zero)
    | inr real ↦
        let e = next_is.turns (sym is) (omega arith) in
        let l = ap (λ (n : Subtrie). n.levels) e in
        let read = s_child some r true next_is.right_is refl in
        let read' = subst (λ (n : Subtrie). IsReadable regions old (without_size (q some r).node.size index)
        (low + width (levels - 1)) n.levels n.at) (sym e) read in
        (omega (arith, l), (omega (arith, l), (without_size (q some r).node.size index, (low + width (levels - 1), read'))))
  ]

  pub next_read : IsNextRead
  next_read = go side refl
