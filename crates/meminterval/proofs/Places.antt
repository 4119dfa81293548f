-- Another value at a place in the order of a query.
use Rattle.std.proofs.Common.{◌≡◌, ℕ, zero, suc, ◌+◌, ◌-◌, ◌<◌, ◌≤◌, Bool, true, false, cond, nat_lt, List, [], ◌∷◌, ◌++◌, length, Some, refl, sym, ap, subst, ◌∙◌, arith, max, map, inl, inr, drop}
use Rattle.std.proofs.lemmas.Bool.{cases_lt, lt-ltb, le-ltb}
use Rattle.std.proofs.lemmas.List.{map-append, length-map, drop-append-le}
use Rattle.std.proofs.Math.Seq.{drop-append-add}
use Rattle.std.specs.List.{slice_get}
use Rattle.std.specs.declared.alloc.Global.{Global}
use Rattle.std.specs.declared.boxed.Box.{Box}
use Rattle.std.specs.declared.cmp.Ordering.{Ordering}
use Rattle.std.specs.declared.cmp.Ordering.TheVariants.{Less}
use Rattle.std.proofs.lemmas.Bool.Decides.{nat_tests}
use Rattle.meminterval.specs.declared.interval.Interval.{Interval}
use Rattle.meminterval.specs.declared.node.Node.{Node}
use Rattle.meminterval.specs.declared.node.Subtree.{Subtree}
use Rattle.meminterval.specs.declared.node.Subtree.TheVariants.{Empty, Fork, Fork'}
use Rattle.meminterval.specs.Entries.{AllItems, IsOrdered}
use Rattle.meminterval.specs.Interval.{by_ends}
use Rattle.meminterval.specs.Place.{map_at, with_value, put_last, put_value}
use Rattle.meminterval.specs.QueryMut.{map_last}
use Rattle.meminterval.specs.Subtree.{tree_of, raised, greatest_end, IsRecorded, IsSound}
use Rattle.meminterval.specs.Tree as tree
use Rattle.meminterval.specs.Tree.{Tree, Leaf, entries, levels, visited, IsBalanced}
use Rattle.meminterval.proofs.Trees.{length_fork, length_visited}

module _ {A : Type 0} where
  pub get_front : (xs ys : List A) (k : ℕ) → k < length xs → slice_get (xs ++ ys) k ≡ slice_get xs k
  get_front [] ys k h = absurd (omega (arith, h))
  get_front (x ∷ xs) ys zero h = refl
  get_front (x ∷ xs) ys (suc k) h = get_front xs ys k (omega (arith, h))

  pub get_back : (xs ys : List A) (k : ℕ) → length xs ≤ k → slice_get (xs ++ ys) k ≡ slice_get ys (k - length xs)
  get_back [] ys k h = ap (λ n. slice_get ys n) (omega arith)
  get_back (x ∷ xs) ys zero h = absurd (omega (arith, h))
  get_back (x ∷ xs) ys (suc k) h = get_back xs ys k (omega (arith, h)) ∙ ap (λ n. slice_get ys n) (omega arith)

module _ {X : Type 0} where
  cond_both : (P : X → Type 0) (b : Bool) (x y : X) → P x → P y → P (cond b x y)
  cond_both P true x y p q = p
  cond_both P false x y p q = q

  cond_same : (b : Bool) (x y x' y' : X) → x ≡ x' → y ≡ y' → cond b x y ≡ cond b x' y'
  cond_same true x y x' y' p q = p
  cond_same false x y x' y' p q = q

module _ {K V : Type 0} where
  all_keys : (P : K → Type 0) (es fs : List (K × V)) → map (λ e. e.0) es ≡ map (λ e. e.0) fs → AllItems (λ e. P e.0) es → AllItems (λ e. P e.0) fs
  all_keys P es [] h a = tt
  all_keys P [] (f ∷ fs) h a = cc
  all_keys P (e ∷ es) (f ∷ fs) h a =
      let k : e.0 ≡ f.0 = cc in
      let ks : map (λ x. x.0) es ≡ map (λ x. x.0) fs = cc in
      (subst P k a.0, all_keys P es fs ks a.1)

  -- whether pairs are in order is a fact of their keys
  ordered_keys : (cmp : K → K → Ordering) (es fs : List (K × V)) → map (λ e. e.0) es ≡ map (λ e. e.0) fs → IsOrdered cmp es → IsOrdered cmp fs
  ordered_keys cmp es [] h s = tt
  ordered_keys cmp [] (f ∷ fs) h s = cc
  ordered_keys cmp (e ∷ es) (f ∷ fs) h s =
      let k : e.0 ≡ f.0 = cc in
      let ks : map (λ x. x.0) es ≡ map (λ x. x.0) fs = cc in
      (subst (λ x. AllItems (λ g. cmp x g.0 ≡ Less) fs) k (all_keys (λ x. cmp e.0 x ≡ Less) es fs ks s.0), ordered_keys cmp es fs ks s.1)

module _ {T V : Type 0} (w : V) where
  keys_at : (t : Tree (Interval T × V)) (k : ℕ) → map (λ e. e.0) (entries (map_at (with_value w) t k)) ≡ map (λ e. e.0) (entries t)
  keys_at Leaf k = refl
  keys_at (tree.Fork l e r) zero = map-append (λ f. f.0) (entries l) (with_value w e ∷ entries r) ∙ sym (map-append (λ f. f.0) (entries l) (e ∷ entries r))
  keys_at (tree.Fork l e r) (suc k) =
      cond_both (λ t. map (λ f. f.0) (entries t) ≡ map (λ f. f.0) (entries (tree.Fork l e r))) (nat_lt k (length (visited r))) _ _
      (map-append (λ f. f.0) (entries l) (e ∷ entries (map_at (with_value w) r k))
      ∙ ap (λ ks. map (λ f. f.0) (entries l) ++ e.0 ∷ ks) (keys_at r k)
      ∙ sym (map-append (λ f. f.0) (entries l) (e ∷ entries r)))
      (map-append (λ f. f.0) (entries (map_at (with_value w) l (k - length (visited r)))) (e ∷ entries r)
      ∙ ap (λ ks. ks ++ e.0 ∷ map (λ f. f.0) (entries r)) (keys_at l (k - length (visited r)))
      ∙ sym (map-append (λ f. f.0) (entries l) (e ∷ entries r)))

  length_at : (t : Tree (Interval T × V)) (k : ℕ) → length (entries (map_at (with_value w) t k)) ≡ length (entries t)
  length_at t k = sym (length-map (entries (map_at (with_value w) t k)) (λ f. f.0)) ∙ ap (λ ks. length ks) (keys_at t k) ∙ length-map (entries t) (λ f. f.0)

  pub length_same : (t : Tree (Interval T × V)) (k : ℕ) → length (visited (map_at (with_value w) t k)) ≡ length (visited t)
  length_same t k = length_visited (map_at (with_value w) t k) ∙ length_at t k ∙ sym (length_visited t)

  levels_at : (t : Tree (Interval T × V)) (k : ℕ) → levels (map_at (with_value w) t k) ≡ levels t
  levels_at Leaf k = refl
  levels_at (tree.Fork l e r) zero = refl
  levels_at (tree.Fork l e r) (suc k) =
      cond_both (λ t. levels t ≡ levels (tree.Fork l e r)) (nat_lt k (length (visited r))) _ _
      (ap (λ n. max (levels l) n + 1) (levels_at r k)) (ap (λ n. max n (levels r) + 1) (levels_at l (k - length (visited r))))

  balanced_at : (t : Tree (Interval T × V)) (k : ℕ) → IsBalanced t → IsBalanced (map_at (with_value w) t k)
  balanced_at Leaf k b = b
  balanced_at (tree.Fork l e r) zero b = b
  balanced_at (tree.Fork l e r) (suc k) b =
      cond_both IsBalanced (nat_lt k (length (visited r))) _ _
      (b.0, balanced_at r k b.1, rw (levels_at r k) b.2) (balanced_at l (k - length (visited r)) b.0, b.1, rw (levels_at l (k - length (visited r))) b.2)

  -- what stands after the place stays
  pub drop_at : (t : Tree (Interval T × V)) (k : ℕ) → drop (suc k) (visited (map_at (with_value w) t k)) ≡ drop (suc k) (visited t)
  drop_at Leaf k = refl
  drop_at (tree.Fork l e r) zero = refl
  drop_at (tree.Fork l e r) (suc k) = elim (cases_lt k (length (visited r))) [
    | inl lt ↦
        let lt' : suc k ≤ length (visited (map_at (with_value w) r k)) = rw (length_same r k) (omega (arith, lt)) in
        rw (lt-ltb k (length (visited r)) lt) (drop-append-le (suc k) (visited (map_at (with_value w) r k)) (visited l) lt'
        ∙ ap (λ es. es ++ visited l) (drop_at r k) ∙ sym (drop-append-le (suc k) (visited r) (visited l)
        (omega (arith, lt))))
    | inr ge ↦
        let n : suc k ≡ length (visited r) + suc (k - length (visited r)) = omega (arith, ge) in
        rw (le-ltb k (length (visited r)) ge) (ap (λ m. drop m (visited r ++ visited
        (map_at (with_value w) l (k - length (visited r))))) n ∙ drop-append-add (visited r)
        (visited (map_at (with_value w) l (k - length (visited r)))) (suc (k - length (visited r)))
        ∙ drop_at l (k - length (visited r)) ∙ sym (ap (λ m. drop m (visited r ++ visited l)) n
        ∙ drop-append-add (visited r) (visited l) (suc (k - length (visited r)))))
  ]

  tree_of-cond : (b : Bool) (x y : Subtree T V) → tree_of (cond b x y) ≡ cond b (tree_of x) (tree_of y)
  tree_of-cond true x y = refl
  tree_of-cond false x y = refl

  pub tree_of-put : (t : Subtree T V) (k : ℕ) → tree_of (put_value w t k) ≡ map_at (with_value w) (tree_of t) k
  tree_of-put Empty k = refl
  tree_of-put (Fork' p l i v g n s r) zero = refl
  tree_of-put (Fork' p l i v g n s r) (suc k) =
      tree_of-cond (nat_lt k (length (visited (tree_of r)))) (Fork' p l i v g n s (put_value w r k))
      (Fork' p (put_value w l (k - length (visited (tree_of r)))) i v g n s r)
      ∙ cond_same (nat_lt k (length (visited (tree_of r)))) _ _ _ _ (ap (λ t. tree.Fork (tree_of l) (i, v) t)
      (tree_of-put r k)) (ap (λ t. tree.Fork t (i, v) (tree_of r)) (tree_of-put l (k - length (visited (tree_of r)))))

module _ {T V : Type 0} (w : V) where
  module _ (cmp : T → T → Ordering) where
    greatest_at : (t : Tree (Interval T × V)) (k : ℕ) → greatest_end cmp (map_at (with_value w) t k) ≡ greatest_end cmp t
    greatest_at Leaf k = refl
    greatest_at (tree.Fork l e r) zero = refl
    greatest_at (tree.Fork l e r) (suc k) =
        cond_both (λ t. greatest_end cmp t ≡ greatest_end cmp (tree.Fork l e r)) (nat_lt k (length (visited r))) _ _
        (ap (λ g. Some (raised cmp (raised cmp e.0.end (greatest_end cmp l)) g)) (greatest_at r k))
        (ap (λ g. Some (raised cmp (raised cmp e.0.end g) (greatest_end cmp r))) (greatest_at l (k - length (visited r))))

    recorded_put : (t : Subtree T V) (k : ℕ) → IsRecorded cmp t → IsRecorded cmp (put_value w t k)
    recorded_put Empty k a = a
    recorded_put (Fork' p l i v g n s r) zero a = (
      a.0,
      a.1,
      a.2,
      a.3,
      a.4 ∙ length_fork (tree_of l) (i, v) (tree_of r)
          ∙ sym (length_fork (tree_of l) (i, w) (tree_of r)),
    )
    recorded_put (Fork' p l i v g n s r) (suc k) a =
        let j = k - length (visited (tree_of r)) in
        let size = a.4 ∙ length_fork (tree_of l) (i, v) (tree_of r) in
        cond_both (IsRecorded cmp) (nat_lt k (length (visited (tree_of r)))) _ _ (
          a.0,
          recorded_put r k a.1,
          rw (tree_of-put w r k, greatest_at (tree_of r) k) a.2,
          rw (tree_of-put w r k, levels_at w (tree_of r) k) a.3,
          rw (tree_of-put w r k, length_fork (tree_of l) (i, v) (map_at (with_value w) (tree_of r) k), length_at w (tree_of r) k) size,
        ) (
          recorded_put l j a.0,
          a.1,
          rw (tree_of-put w l j, greatest_at (tree_of l) j) a.2,
          rw (tree_of-put w l j, levels_at w (tree_of l) j) a.3,
          rw (tree_of-put w l j, length_fork (map_at (with_value w) (tree_of l) j) (i, v) (tree_of r), length_at w (tree_of l) j) size,
        )

    pub sound_put : (t : Subtree T V) (k : ℕ) → IsSound cmp t → IsSound cmp (put_value w t k)
    sound_put t k a = record {
      recorded = recorded_put t k a.recorded;
      balanced = rw (tree_of-put w t k) (balanced_at w (tree_of t) k a.balanced);
      ordered = rw (tree_of-put w t k) (ordered_keys (by_ends cmp) (entries (tree_of t))
          (entries (map_at (with_value w) (tree_of t) k)) (sym (keys_at w (tree_of t) k)) a.ordered);
      few = let few = a.few in rw (tree_of-put w t k, length_at w (tree_of t) k) few;
    }

    pub sound_put_last : (t : Subtree T V) (n : ℕ) → IsSound cmp t → IsSound cmp (put_last w t n)
    sound_put_last t zero a = a
    sound_put_last t (suc k) a = sound_put t k a

  pub tree_of-put_last : (t : Subtree T V) (n : ℕ) → tree_of (put_last w t n) ≡ map_last (with_value w) (tree_of t) n
  tree_of-put_last t zero = refl
  tree_of-put_last t (suc k) = tree_of-put w t k

module _ {T V : Type 0} (w : V) (b : Box (Node T V) Global) (k : ℕ) where
  pub put_right : k < length (visited (tree_of b.value.right)) → put_value w (Fork b) (suc k) ≡ Fork
      (record b { value = record b.value { right = put_value w b.value.right k } })
  put_right h = rw (lt-ltb k (length (visited (tree_of b.value.right))) h) refl

  pub put_left : length (visited (tree_of b.value.right)) ≤ k → put_value w (Fork b) (suc k) ≡ Fork
      (record b {
        value = record b.value { left = put_value w b.value.left (k - length (visited (tree_of b.value.right))) };
      })
  put_left h = rw (le-ltb k (length (visited (tree_of b.value.right))) h) refl
