-- Another end at a key whose start no other pair has.
use Rattle.std.proofs.Common.{◌≡◌, Bool, true, false, cond, List, [], ◌∷◌, ◌++◌, map, length, refl, sym, ap, ◌∙◌}
use Rattle.std.proofs.lemmas.List.{map-append, length-map}
use Rattle.std.specs.declared.cmp.Ordering.{Ordering}
use Rattle.std.specs.declared.cmp.Ordering.TheVariants.{Less, Equal, Greater}
use Rattle.std.specs.Ordering.{is_eq, is_gt, is_lt, ordering_reverse, ordering_then}
use Rattle.std.specs.Cmp.{IsTotalOrder, Equal-is}
use Rattle.meminterval.specs.declared.interval.Interval.{Interval}
use Rattle.meminterval.specs.Interval.{by_ends, with_end, HasOwnStart}
use Rattle.meminterval.specs.Entries.{AllItems, IsOrdered}
use Rattle.meminterval.specs.Tree.{Tree, Leaf, Fork, entries, levels, map_pairs, IsBalanced}
use Rattle.meminterval.proofs.Ordered.{all_map, all_front, all_back, by_ends-total, above_before, below_after}

module _ {E : Type 0} (f : E → E) where
  pub entries_map : (t : Tree E) → entries (map_pairs f t) ≡ map f (entries t)
  entries_map Leaf = refl
  entries_map (Fork l e r) = rw (entries_map l, entries_map r) (sym (map-append f (entries l) (e ∷ entries r)))

  pub levels_map : (t : Tree E) → levels (map_pairs f t) ≡ levels t
  levels_map Leaf = refl
  levels_map (Fork l e r) = rw (levels_map l, levels_map r) refl

  pub balanced_map : (t : Tree E) → IsBalanced t → IsBalanced (map_pairs f t)
  balanced_map Leaf b = tt
  balanced_map (Fork l e r) b = (balanced_map l b.0, balanced_map r b.1, rw (levels_map l, levels_map r) b.2)

  pub map_same : (t : Tree E) → AllItems (λ e. f e ≡ e) (entries t) → map_pairs f t ≡ t
  map_same Leaf a = refl
  map_same (Fork l e r) a =
      let b = all_back (λ x. f x ≡ x) (entries l) (e ∷ entries r) a in
      rw (map_same l (all_front (λ x. f x ≡ x) (entries l) (e ∷ entries r) a), b.0, map_same r b.1) refl

  all_mapped : (P Q : E → Type 0) → ((x : E) → P x → Q (f x)) → (es : List E) → AllItems P es → AllItems Q (map f es)
  all_mapped P Q h [] a = tt
  all_mapped P Q h (x ∷ es) a = (h x a.0, all_mapped P Q h es a.1)

module _ {T : Type 0} (cmp : T → T → Ordering) (o : IsTotalOrder cmp) where
  same_starts : (a b : Interval T) (r q : Ordering) → cmp a.start b.start ≡ r → ordering_then r q ≡ Equal → cmp a.start b.start ≡ Equal
  same_starts a b Less q p h = cc
  same_starts a b Equal q p h = p
  same_starts a b Greater q p h = cc

  apart_by : (x y : Interval T) (r q : Ordering) → cmp x.start y.start ≡ r → ordering_then r q ≡ Less →
      (cmp x.start y.start ≡ Equal → ⊥) → cmp x.start y.start ≡ Less
  apart_by x y Less q p h f = p
  apart_by x y Equal q p h f = absurd (f p)
  apart_by x y Greater q p h f = cc

module _ {T V : Type 0} (cmp : T → T → Ordering) (o : IsTotalOrder cmp) (k : Interval T) (end : T) where
  -- two pairs of which one has the key start apart
  starts_apart : (x y : Interval T × V) (b d : Bool) → is_eq (by_ends cmp k x.0) ≡ b → is_eq (by_ends cmp k y.0) ≡ d → HasOwnStart cmp k x → HasOwnStart cmp k y
      → by_ends cmp x.0 y.0 ≡ Less → (cmp x.0.start y.0.start ≡ Equal →
      (cmp k.start x.0.start ≡ Equal) × (cmp k.start y.0.start ≡ Equal)) → cmp x.0.start y.0.start ≡ Less
  starts_apart x y b d p q u v h both = apart_by cmp o x.0 y.0 (cmp x.0.start y.0.start) (cmp x.0.end y.0.end) refl h (λ e.
      let t = both e in
      let w = sym (((by_ends-total o).congr k x.0 y.0 (u t.0))) ∙ v t.1 in
      let less : Less ≡ Equal = sym h ∙ w in
      cc)

  kept_by : (x y : Interval T × V) (b d : Bool) → is_eq (by_ends cmp k x.0) ≡ b → is_eq (by_ends cmp k y.0) ≡ d →
      HasOwnStart cmp k x → HasOwnStart cmp k y → by_ends cmp x.0 y.0 ≡ Less
      → by_ends cmp (cond b (record { start = x.0.start; end = end }, x.1) x).0 (cond d (record { start = y.0.start; end = end }, y.1) y).0 ≡ Less
  kept_by x y false false p q u v h = h
  kept_by x y true d p q u v h =
      let kx = same_starts cmp o k x.0 (cmp k.start x.0.start) (cmp k.end x.0.end) refl ((Equal-is (by_ends cmp k x.0)).0 p) in
      let less = starts_apart x y true d p q u v h (λ e. (kx, o.congr k.start x.0.start y.0.start kx ∙ e)) in
      elim d as (λ d. by_ends cmp (record { start = x.0.start; end = end }) (cond d (record { start = y.0.start; end = end }, y.1) y).0 ≡ Less) [
        | true ↦ ap (λ r. ordering_then r (cmp end end)) less
        | false ↦ ap (λ r. ordering_then r (cmp end y.0.end)) less
      ]
  kept_by x y false true p q u v h =
      let ky = same_starts cmp o k y.0 (cmp k.start y.0.start) (cmp k.end y.0.end) refl ((Equal-is (by_ends cmp k y.0)).0 q) in
      let less = starts_apart x y false true p q u v h (λ e. (
        o.congr k.start y.0.start x.0.start ky
            ∙ o.antisymm y.0.start x.0.start ∙ ap ordering_reverse e,
        ky,
      )) in
      ap (λ r. ordering_then r (cmp x.0.end end)) less

  after_kept : (x : Interval T × V) (es : List (Interval T × V)) → HasOwnStart cmp k x → AllItems (HasOwnStart cmp k) es →
      AllItems (λ f. by_ends cmp x.0 f.0 ≡ Less) es
      → AllItems (λ f. by_ends cmp (with_end cmp k end x).0 f.0 ≡ Less) (map (with_end cmp k end) es)
  after_kept x [] u a b = tt
  after_kept x (y ∷ es) u a b = (kept_by x y (is_eq (by_ends cmp k x.0)) (is_eq (by_ends cmp k y.0)) refl refl u a.0 b.0, after_kept x es u a.1 b.1)

  pub ordered_ends : (es : List (Interval T × V)) → AllItems (HasOwnStart cmp k) es → IsOrdered (by_ends cmp) es →
      IsOrdered (by_ends cmp) (map (with_end cmp k end) es)
  ordered_ends [] a s = tt
  ordered_ends (x ∷ es) a s = (after_kept x es a.0 a.1 s.0, ordered_ends es a.1 s.1)

  other_end : (e : Interval T × V) (r : Ordering) → by_ends cmp k e.0 ≡ r → is_eq r ≡ false → with_end cmp k end e ≡ e
  other_end e r p h = ap (λ b. cond b (record { start = e.0.start; end = end }, e.1) e) (ap is_eq p ∙ h)

  all_other_below : (es : List (Interval T × V)) → AllItems (λ f. by_ends cmp k f.0 ≡ Greater) es → AllItems (λ f. with_end cmp k end f ≡ f) es
  all_other_below es a = all_map (λ f. by_ends cmp k f.0 ≡ Greater) (λ f. with_end cmp k end f ≡ f) (λ f q. other_end f Greater q refl) es a

  all_other_above : (es : List (Interval T × V)) → AllItems (λ f. by_ends cmp k f.0 ≡ Less) es → AllItems (λ f. with_end cmp k end f ≡ f) es
  all_other_above es a = all_map (λ f. by_ends cmp k f.0 ≡ Less) (λ f. with_end cmp k end f ≡ f) (λ f q. other_end f Less q refl) es a

  same_below : (l : Tree (Interval T × V)) (e : Interval T × V) (r : Tree (Interval T × V)) →
      is_lt (by_ends cmp k e.0) ≡ false → IsOrdered (by_ends cmp) (entries l ++ e ∷ entries r) →
      map_pairs (with_end cmp k end) l ≡ l
  same_below l e r h s = map_same (with_end cmp k end) l (all_other_below (entries l)
      (above_before (by_ends cmp) (by_ends-total o) k (entries l) e (entries r) h s))

  same_above : (l : Tree (Interval T × V)) (e : Interval T × V) (r : Tree (Interval T × V)) →
      is_gt (by_ends cmp k e.0) ≡ false → IsOrdered (by_ends cmp) (entries l ++ e ∷ entries r) →
      map_pairs (with_end cmp k end) r ≡ r
  same_above l e r h s = map_same (with_end cmp k end) r (all_other_above (entries r)
      (below_after (by_ends cmp) (by_ends-total o) k (entries l) e (entries r) h s))

  module _ (l : Tree (Interval T × V)) (e : Interval T × V) (r : Tree (Interval T × V)) (s : IsOrdered (by_ends cmp) (entries l ++ e ∷ entries r)) where
    pub ends_left : by_ends cmp k e.0 ≡ Less → map_pairs (with_end cmp k end) (Fork l e r) ≡ Fork (map_pairs (with_end cmp k end) l) e r
    ends_left h = rw (same_above l e r (ap is_gt h) s, other_end e Less h refl) refl

    pub ends_middle : by_ends cmp k e.0 ≡ Equal → map_pairs (with_end cmp k end) (Fork l e r) ≡ Fork l (record { start = e.0.start; end = end }, e.1) r
    ends_middle h = rw (same_below l e r (ap is_lt h) s, same_above l e r (ap is_gt h) s, h) refl

    pub ends_right : by_ends cmp k e.0 ≡ Greater → map_pairs (with_end cmp k end) (Fork l e r) ≡ Fork l e (map_pairs (with_end cmp k end) r)
    ends_right h = rw (same_below l e r (ap is_lt h) s, other_end e Greater h refl) refl

module _ {T V : Type 0} (f : Interval T × V → Interval T × V) where
  pub length_mapped : (t : Tree (Interval T × V)) → length (entries (map_pairs f t)) ≡ length (entries t)
  length_mapped t = rw entries_map (length-map (entries t) f)
