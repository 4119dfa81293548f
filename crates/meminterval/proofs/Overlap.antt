-- Which pairs of a tree cannot overlap an interval.
use Rattle.std.proofs.Common.{◌≡◌, ℕ, ◌+◌, ◌≤◌, Bool, true, false, not, cond, List, [], ◌∷◌, ◌++◌, length, Option, Some, None, refl, sym, ap, subst, ◌∙◌, append_assoc, append-nil, arith}
use Rattle.std.proofs.lemmas.Bool.{true≢false}
use Rattle.std.proofs.lemmas.List.Elements.{filter-append}
use Rattle.std.specs.List.{filter}
use Rattle.std.specs.Borrow.{Bor}
use Rattle.std.specs.declared.cmp.Ordering.{Ordering}
use Rattle.std.specs.declared.cmp.Ordering.TheVariants.{Less, Equal, Greater}
use Rattle.std.specs.Ordering.{is_gt, is_lt, ord_max, ord_min, ordering_reverse, ordering_then}
use Rattle.std.specs.Cmp.{IsTotalOrder, tied_itself, upto}
use Rattle.meminterval.specs.declared.interval.Interval.{Interval}
use Rattle.meminterval.specs.declared.node.Node.{Node}
use Rattle.meminterval.specs.Entries.{AllItems, IsOrdered}
use Rattle.meminterval.specs.Interval.{by_ends, common, overlaps}
use Rattle.meminterval.specs.Query.{to_visit, IsWalk, IsSoundNode}
use Rattle.meminterval.specs.Subtree.{raised, greatest_end, tree_of_node}
use Rattle.meminterval.specs.Tree.{Tree, Leaf, Fork, entries, levels, visited}
use Rattle.meminterval.proofs.Ordered.{all_map, all_append, after}
use Rattle.meminterval.proofs.Trees.{visited_all, length_visited}
use Rattle.meminterval.specs.Place.{place_from}
use Rattle.meminterval.proofs.Search.{place_nowhere, place_past}

module _ {T : Type 0} (cmp : T → T → Ordering) where
  -- x is at most y
  abbrev pub UpTo : T → T → Type 0
  UpTo x y = is_gt (cmp x y) ≡ false

  -- there is a y, and x is at most that
  abbrev UpToSome : T → Option T → Type 0
  UpToSome x None = ⊥
  UpToSome x (Some y) = UpTo x y

module _ {T : Type 0} (cmp : T → T → Ordering) (o : IsTotalOrder cmp) where
  up_to_itself : (x : T) → UpTo cmp x x
  up_to_itself x = ap is_gt (tied_itself o x)

  not_gt : (r : Ordering) → is_lt r ≡ false → is_gt (ordering_reverse r) ≡ false
  not_gt Less h = absurd (true≢false h)
  not_gt Equal h = refl
  not_gt Greater h = refl

  not_lt : (r : Ordering) → is_gt (ordering_reverse r) ≡ false → is_lt r ≡ false
  not_lt Less h = absurd (true≢false h)
  not_lt Equal h = refl
  not_lt Greater h = refl

  lt_not_gt : (r : Ordering) → is_lt r ≡ true → is_gt r ≡ false
  lt_not_gt Less h = refl
  lt_not_gt Equal h = absurd (true≢false (sym h))
  lt_not_gt Greater h = absurd (true≢false (sym h))

  -- not below is at most, the other way round
  pub up_to : (x y : T) → is_lt (cmp x y) ≡ false → UpTo cmp y x
  up_to x y h = ap is_gt (o.antisymm y x) ∙ not_gt (cmp x y) h

  not_below : (x y : T) → UpTo cmp y x → is_lt (cmp x y) ≡ false
  not_below x y h = not_lt (cmp x y) (sym (ap is_gt (o.antisymm y x)) ∙ h)

  max_by : (a b : T) (w : Bool) → is_lt (cmp b a) ≡ w → UpTo cmp a (cond w a b) × UpTo cmp b (cond w a b)
  max_by a b true h = (up_to_itself a, lt_not_gt (cmp b a) h)
  max_by a b false h = (up_to b a h, up_to_itself b)

  max_above : (a b : T) → UpTo cmp a (ord_max cmp a b) × UpTo cmp b (ord_max cmp a b)
  max_above a b = max_by a b (is_lt (cmp b a)) refl

  min_by : (a b : T) (w : Bool) → is_lt (cmp b a) ≡ w → UpTo cmp (cond w b a) a × UpTo cmp (cond w b a) b
  min_by a b true h = (lt_not_gt (cmp b a) h, up_to_itself b)
  min_by a b false h = (up_to_itself a, up_to b a h)

  min_below : (a b : T) → UpTo cmp (ord_min cmp a b) a × UpTo cmp (ord_min cmp a b) b
  min_below a b = min_by a b (is_lt (cmp b a)) refl

  chain : (x y z : T) → UpTo cmp x y → UpTo cmp y z → UpTo cmp x z
  chain x y z p q = upto o x y z p q

  -- one interval ends before the other starts
  pub ends_before : (a b : Interval T) → UpTo cmp a.end b.start → overlaps cmp a b ≡ false
  ends_before a b h = not_below (common cmp a b).start (common cmp a b).end
      (chain (common cmp a b).end a.end (common cmp a b).start (min_below a.end b.end).0
      (chain a.end b.start (common cmp a b).start h (max_above a.start b.start).1))

  pub starts_after : (a b : Interval T) → UpTo cmp b.end a.start → overlaps cmp a b ≡ false
  starts_after a b h = not_below (common cmp a b).start (common cmp a b).end
      (chain (common cmp a b).end b.end (common cmp a b).start (min_below a.end b.end).1
      (chain b.end a.start (common cmp a b).start h (max_above a.start b.start).0))

  raised_above : (x y : T) (m : Option T) → UpTo cmp x y → UpToSome cmp x (Some (raised cmp y m))
  raised_above x y None h = h
  raised_above x y (Some z) h = chain x y (ord_max cmp y z) h (max_above y z).0

  raised_keeps : (x y : T) (m : Option T) → UpToSome cmp x m → UpToSome cmp x (Some (raised cmp y m))
  raised_keeps x y None h = absurd h
  raised_keeps x y (Some z) h = chain x z (ord_max cmp y z) h (max_above y z).1

  start_up_to : (a b : Interval T) (r q : Ordering) → cmp a.start b.start ≡ r → ordering_then r q ≡ Less → UpTo cmp a.start b.start
  start_up_to a b Less q p h = ap is_gt p
  start_up_to a b Equal q p h = ap is_gt p
  start_up_to a b Greater q p h = cc

module _ {T V : Type 0} (cmp : T → T → Ordering) (o : IsTotalOrder cmp) where
  -- no pair ends above the greatest end
  ends_within : (t : Tree (Interval T × V)) → AllItems (λ e. UpToSome cmp e.0.end (greatest_end cmp t)) (entries t)
  ends_within Leaf = tt
  ends_within (Fork l e r) =
      let m = raised cmp e.0.end (greatest_end cmp l) in
      all_append (λ f. UpToSome cmp f.0.end (greatest_end cmp (Fork l e r))) (entries l) (e ∷ entries r)
      (all_map (λ f. UpToSome cmp f.0.end (greatest_end cmp l)) (λ f. UpToSome cmp f.0.end (greatest_end cmp (Fork l e r)))
      (λ f h. raised_above cmp o f.0.end m (greatest_end cmp r) (raised_keeps cmp o f.0.end e.0.end (greatest_end cmp l) h)) (entries l) (ends_within l)) (
        raised_above cmp o e.0.end m (greatest_end cmp r) (raised_above cmp o e.0.end e.0.end (greatest_end cmp l) (up_to_itself cmp o e.0.end)),
        all_map (λ f. UpToSome cmp f.0.end (greatest_end cmp r)) (λ f. UpToSome cmp f.0.end (greatest_end cmp (Fork l e r)))
            (λ f h. raised_keeps cmp o f.0.end m (greatest_end cmp r) h) (entries r) (ends_within r),
      )

  filter_none : (p : Interval T × V → Bool) (es : List (Interval T × V)) → AllItems (λ e. p e ≡ false) es → filter p es ≡ []
  filter_none p [] a = refl
  filter_none p (e ∷ es) a = rw a.0 (filter_none p es a.1)

  module _ (i : Interval T) (l : Tree (Interval T × V)) (e : Interval T × V) (r : Tree (Interval T × V)) where
    -- if nothing ends above the start
    pub nothing_overlaps : (g : T) → Some g ≡ greatest_end cmp (Fork l e r) → is_lt (cmp i.start g) ≡ false →
        AllItems (λ f. overlaps cmp f.0 i ≡ false) (visited (Fork l e r))
    nothing_overlaps g p h = visited_all (λ f. overlaps cmp f.0 i ≡ false) (Fork l e r)
        (all_map (λ f. UpToSome cmp f.0.end (greatest_end cmp (Fork l e r))) (λ f. overlaps cmp f.0 i ≡ false)
        (λ f q. let q' = subst (UpToSome cmp f.0.end) (sym p) q in ends_before cmp o f.0 i (chain cmp o f.0.end g i.start q' (up_to cmp o i.start g h)))
        (entries (Fork l e r)) (ends_within (Fork l e r)))

    -- if the node starts at the end or above
    pub right_overlaps : IsOrdered (by_ends cmp) (entries (Fork l e r)) → is_lt (cmp e.0.start i.end) ≡ false →
        AllItems (λ f. overlaps cmp f.0 i ≡ false) (visited r)
    right_overlaps s h =
        let far = up_to cmp o e.0.start i.end h in
        visited_all (λ f. overlaps cmp f.0 i ≡ false) r
        (all_map (λ f. by_ends cmp e.0 f.0 ≡ Less) (λ f. overlaps cmp f.0 i ≡ false)
        (λ f q. starts_after cmp o f.0 i (chain cmp o i.end e.0.start f.0.start far
        (start_up_to cmp o e.0 f.0 (cmp e.0.start f.0.start) (cmp e.0.end f.0.end) refl q)))
        (entries r) (after (by_ends cmp) (entries l) e (entries r) s))

    pub node_overlaps : is_lt (cmp e.0.start i.end) ≡ false → overlaps cmp e.0 i ≡ false
    node_overlaps h = starts_after cmp o e.0 i (up_to cmp o e.0.start i.end h)

    left_overlaps : IsOrdered (by_ends cmp) (entries (Fork l e r)) → is_lt (cmp e.0.start i.end) ≡ false
        → filter (λ f. overlaps cmp f.0 i) (visited (Fork l e r)) ≡ filter (λ f. overlaps cmp f.0 i) (visited l)
    left_overlaps s h =
        let right = filter_none (λ f. overlaps cmp f.0 i) (visited r) (right_overlaps s h) in
        rw (node_overlaps h) (filter-append (λ f. overlaps cmp f.0 i) (visited r) (visited l)
        ∙ ap (λ es. es ++ filter (λ f. overlaps cmp f.0 i) (visited l)) right)

    pub not_true : (b : Bool) → not b ≡ true → b ≡ false
    not_true true h = absurd (true≢false (sym h))
    not_true false h = refl

    -- no place in a tree below which nothing ends above the start
    pub no_place : (g : T) → Some g ≡ greatest_end cmp (Fork l e r) → not (is_lt (cmp i.start g)) ≡ true → (k : ℕ) →
        place_from (λ f. overlaps cmp f.0 i) k (visited (Fork l e r)) ≡ None
    no_place g p h k = place_nowhere (λ f. overlaps cmp f.0 i) (visited (Fork l e r)) k (nothing_overlaps g p (not_true (is_lt (cmp i.start g)) h))

    -- nor in the right subtree if the node starts at the end or above
    pub no_place_right : IsOrdered (by_ends cmp) (entries (Fork l e r)) → is_lt (cmp e.0.start i.end) ≡ false → (n k : ℕ) → n ≡ length (entries r)
        → place_from (λ f. overlaps cmp f.0 i) n (visited r) ≡ place_from (λ f. overlaps cmp f.0 i) k (visited r)
    no_place_right s h n k q =
        place_past (λ f. overlaps cmp f.0 i) (visited r) n (omega (arith, q, length_visited r))
        ∙ sym (place_nowhere (λ f. overlaps cmp f.0 i) (visited r) k (right_overlaps s h))

    -- the tree is passed over
    pub pruned : (g : T) → Some g ≡ greatest_end cmp (Fork l e r) → not (is_lt (cmp i.start g)) ≡ true → (rest : List (Interval T × V))
        → filter (λ f. overlaps cmp f.0 i) (visited (Fork l e r) ++ rest) ≡ filter (λ f. overlaps cmp f.0 i) rest
    pruned g p h rest = filter-append (λ f. overlaps cmp f.0 i) (visited (Fork l e r)) rest
        ∙ ap (λ es. es ++ filter (λ f. overlaps cmp f.0 i) rest) (filter_none (λ f. overlaps cmp f.0 i)
        (visited (Fork l e r)) (nothing_overlaps g p (not_true (is_lt (cmp i.start g)) h)))

    -- the right subtree is passed over
    pub pruned_right : IsOrdered (by_ends cmp) (entries (Fork l e r)) → is_lt (cmp e.0.start i.end) ≡ false → (rest : List (Interval T × V))
        → filter (λ f. overlaps cmp f.0 i) (visited (Fork l e r) ++ rest) ≡ filter (λ f. overlaps cmp f.0 i) (visited l ++ rest)
    pruned_right s h rest = filter-append (λ f. overlaps cmp f.0 i) (visited (Fork l e r)) rest
        ∙ ap (λ es. es ++ filter (λ f. overlaps cmp f.0 i) rest) (left_overlaps s h)
        ∙ sym (filter-append (λ f. overlaps cmp f.0 i) (visited l) rest)

module _ {T V : Type 0} where
  pub to_visit-append : (ms ns : List (Bor (Node T V))) → to_visit (ms ++ ns) ≡ to_visit ns ++ to_visit ms
  to_visit-append [] ns = sym (append-nil (to_visit ns))
  to_visit-append (m ∷ ms) ns = ap (λ es. es ++ visited (tree_of_node m.now)) (to_visit-append ms ns)
      ∙ append_assoc (to_visit ns) (to_visit ms) (visited (tree_of_node m.now))

  pub to_visit-push : (ns : List (Bor (Node T V))) (n : Bor (Node T V)) → to_visit (ns ++ n ∷ []) ≡ visited (tree_of_node n.now) ++ to_visit ns
  to_visit-push ns n = to_visit-append ns (n ∷ [])

  module _ (cmp : T → T → Ordering) where
    pub walk-push : (places k : ℕ) (ns : List (Bor (Node T V))) (n : Bor (Node T V)) → IsWalk cmp places k ns →
        IsSoundNode cmp n.now → levels (tree_of_node n.now) + (k + length ns) ≤ places → IsWalk cmp places k (ns ++ n ∷ [])
    walk-push places k [] n w s h = (s, omega arith, tt)
    walk-push places k (m ∷ ns) n w s h = (w.0, w.1, walk-push places (k + 1) ns n w.2 s (omega arith))

    pub walk-front : (places k : ℕ) (ns : List (Bor (Node T V))) (n : Bor (Node T V)) → IsWalk cmp places k (ns ++ n ∷ []) → IsWalk cmp places k ns
    walk-front places k [] n w = tt
    walk-front places k (m ∷ ns) n w = (w.0, w.1, walk-front places (k + 1) ns n w.2)

    pub walk-last : (places k : ℕ) (ns : List (Bor (Node T V))) (n : Bor (Node T V)) → IsWalk cmp places k (ns ++ n ∷ []) →
        IsSoundNode cmp n.now × (levels (tree_of_node n.now) + (k + length ns) ≤ places)
    walk-last places k [] n w = (w.0, omega arith)
    walk-last places k (m ∷ ns) n w = let h = walk-last places (k + 1) ns n w.2 in (h.0, omega (arith, h.1))

    pub walk-more : (places more k : ℕ) (ns : List (Bor (Node T V))) → places ≤ more → IsWalk cmp places k ns → IsWalk cmp more k ns
    walk-more places more k [] h w = tt
    walk-more places more k (m ∷ ns) h w = let b = w.1 in (w.0, omega (arith, b), walk-more places more (k + 1) ns h w.2)
