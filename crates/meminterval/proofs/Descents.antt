-- A long way down is two shorter ways, with a turn between them.
use Rattle.std.proofs.Common.{◌≡◌, ℕ, zero, suc, ◌+◌, ◌-◌, ◌<◌, ◌≤◌, List, [], ◌∷◌, Some, None, length, length-append, refl, ap, subst, arith, inl, inr}
use base.Fml.{GName}
use borrow.Follows.Closed.{read_of}
use mathlib.Core.Logic.{◌⊎◌}
use mathlib.Core.Option as found
use Rattle.std.proofs.lemmas.Bool.{cases_lt, lt-ltb, le-ltb}
use Rattle.std.specs.List.{slice_get}
use Rattle.std.specs.Option.{option_map}
use Rattle.std.specs.declared.alloc.Global.{Global}
use Rattle.std.specs.declared.boxed.Box.{Box}
use Rattle.std.specs.declared.cmp.Ordering.{Ordering}
use Rattle.meminterval.specs.declared.interval.Interval.{Interval}
use Rattle.meminterval.specs.declared.node.Node.{Node}
use Rattle.meminterval.specs.declared.node.Subtree.{Subtree}
use Rattle.meminterval.specs.declared.node.Subtree.TheVariants.{Empty, Fork, Fork'}
use Rattle.meminterval.specs.Descent.{left_after, put_reached, put_turn, reached, rest, turn}
use Rattle.meminterval.specs.Subtree.{tree_of, IsRecorded}
use Rattle.meminterval.specs.Place.{put_value}
use Rattle.meminterval.specs.Tree as tree
use Rattle.meminterval.specs.Tree.{levels, visited}
use Rattle.meminterval.proofs.Places.{get_back, get_front}

-- what a lender ends as, by equal functions
pub read_same : {D E : Type 0} (m : found.Option GName) {F G : E → D} {x y : D} → ((w : E) → F w ≡ G w) → x ≡ y → read_of m F x ≡ read_of m G y
read_same m h e = λ i. read_of m (λ w. h w i) (e i)

pub found_same : {N D E : Type 0} (g : N) {F G : E → D} → ((w : E) → F w ≡ G w) → ◌≡◌ {A = (N × (E → D)) ⊎ D} (inl (g, F)) (inl (g, G))
found_same g h = λ i. inl (g, λ w. h w i)

pub past_end : {A : Type 0} (xs : List A) (k : ℕ) → length xs ≤ k → slice_get xs k ≡ None
past_end [] k h = refl
past_end (x ∷ xs) zero h = absurd (omega (arith, h))
past_end (x ∷ xs) (suc k) h = past_end xs k (omega (arith, h))

module _ {T V : Type 0} where
  -- the rest of the way after one turn
  pub after_right : (b : Box (Node T V) Global) (d k : ℕ) → k < length (visited (tree_of b.value.right)) →
      left_after (suc d) (Fork b) (suc k) ≡ left_after d b.value.right k
  after_right b d k h = rw (lt-ltb k (length (visited (tree_of b.value.right))) h) refl

  pub after_left : (b : Box (Node T V) Global) (d k : ℕ) → length (visited (tree_of b.value.right)) ≤ k →
      left_after (suc d) (Fork b) (suc k) ≡ left_after d b.value.left (k - length (visited (tree_of b.value.right)))
  after_left b d k h = rw (le-ltb k (length (visited (tree_of b.value.right))) h) refl

  -- a way that ends within a number of turns ends there within more
  pub ends : (d m : ℕ) (t : Subtree T V) (k : ℕ) → d ≤ m → left_after d t k ≡ 0 →
      (reached m t k ≡ reached d t k) × ((w : Node T V) → put_reached m t k w ≡ put_reached d t k w)
  ends d m Empty k le h = (refl, λ w. refl)
  ends d m (Fork' p l i v g n s r) zero le h = (refl, λ w. refl)
  ends zero m (Fork' p l i v g n s r) (suc k) le h = absurd (omega (arith, h))
  ends (suc d) zero (Fork' p l i v g n s r) (suc k) le h = absurd (omega (arith, le))
  ends (suc d) (suc m) (Fork' p l i v g n s r) (suc k) le h = elim (cases_lt k (length (visited (tree_of r)))) [
    | inl lt ↦
        let b = lt-ltb k (length (visited (tree_of r))) lt in
        let ih = ends d m r k (omega (arith, le)) (rw b at h) in
        (rw b ih.0, λ w. rw b (ap (λ x. Fork' p l i v g n s x) (ih.1 w)))
    | inr ge ↦
        let b = le-ltb k (length (visited (tree_of r))) ge in
        let ih = ends d m l (k - length (visited (tree_of r))) (omega (arith, le)) (rw b at h) in
        (rw b ih.0, λ w. rw b (ap (λ x. Fork' p x i v g n s r) (ih.1 w)))
  ]

  -- if nothing was reached there is no pair
  pub nothing : (d m : ℕ) (t : Subtree T V) (k : ℕ) → d ≤ m → reached d t k ≡ None →
      (reached m t k ≡ None) × ((w : Node T V) → put_reached m t k w ≡ put_reached d t k w)
  nothing d m Empty k le h = (refl, λ w. refl)
  nothing d m (Fork' p l i v g n s r) zero le h = cc
  nothing zero m (Fork' p l i v g n s r) (suc k) le h = cc
  nothing (suc d) zero (Fork' p l i v g n s r) (suc k) le h = absurd (omega (arith, le))
  nothing (suc d) (suc m) (Fork' p l i v g n s r) (suc k) le h = elim (cases_lt k (length (visited (tree_of r)))) [
    | inl lt ↦
        let b = lt-ltb k (length (visited (tree_of r))) lt in
        let ih = nothing d m r k (omega (arith, le)) (rw b at h) in
        (rw b ih.0, λ w. rw b (ap (λ x. Fork' p l i v g n s x) (ih.1 w)))
    | inr ge ↦
        let b = le-ltb k (length (visited (tree_of r))) ge in
        let ih = nothing d m l (k - length (visited (tree_of r))) (omega (arith, le)) (rw b at h) in
        (rw b ih.0, λ w. rw b (ap (λ x. Fork' p x i v g n s r) (ih.1 w)))
  ]

  abbrev whole : Subtree T V → Interval T → V → T → ℕ → ℕ → Subtree T V → Node T V
  whole l i v g u s r = record { left = l; interval = i; value = v; greatest = g; levels = u; size = s; right = r }

  abbrev Goes : (d e m : ℕ) → Subtree T V → ℕ → Node T V → ℕ → Type 0
  Goes d e m t k n j = (reached m t k ≡ reached e (turn n j) (rest n j)) × ((w : Node T V) →
      put_reached m t k w ≡ put_reached d t k (put_turn n j (put_reached e (turn n j) (rest n j) w)))

  -- a longer way goes on from the node that a shorter one reached
  pub further : (d e m : ℕ) (t : Subtree T V) (k : ℕ) → m ≡ suc (d + e) → (n : Node T V) (j : ℕ) → reached d t k ≡ Some n →
      left_after d t k ≡ suc j → Goes d e m t k n j
  further d e m Empty k q n j f h = cc
  further d e m (Fork' p l i v g u s r) zero q n j f h = absurd (omega (arith, h))
  further zero e zero (Fork' p l i v g u s r) (suc k) q n j f h = absurd (omega (arith, q))
  further zero e (suc m) (Fork' p l i v g u s r) (suc k) q n j f h =
      let same : whole l i v g u s r ≡ n = cc in
      let at : k ≡ j = omega (arith, h) in
      let size : m ≡ e = omega (arith, q) in
      subst (λ (x : Node T V). Goes zero e (suc m) (Fork' p l i v g u s r) (suc k) x j) same
      (subst (λ (y : ℕ). Goes zero e (suc m) (Fork' p l i v g u s r) (suc k) (whole l i v g u s r) y) at
      (subst (λ (y : ℕ). Goes zero y (suc m) (Fork' p l i v g u s r) (suc k) (whole l i v g u s r) k) size
      (elim (cases_lt k (length (visited (tree_of r)))) [
        | inl lt ↦ let b = lt-ltb k (length (visited (tree_of r))) lt in (rw b refl, λ w. rw b refl)
        | inr ge ↦ let b = le-ltb k (length (visited (tree_of r))) ge in (rw b refl, λ w. rw b refl)
      ])))
  further (suc d) e zero (Fork' p l i v g u s r) (suc k) q n j f h = absurd (omega (arith, q))
  further (suc d) e (suc m) (Fork' p l i v g u s r) (suc k) q n j f h = elim (cases_lt k (length (visited (tree_of r)))) [
    | inl lt ↦
        let b = lt-ltb k (length (visited (tree_of r))) lt in
        let ih = further d e m r k (omega (arith, q)) n j (rw b at f) (rw b at h) in
        (rw b ih.0, λ w. rw b (ap (λ x. Fork' p l i v g u s x) (ih.1 w)))
    | inr ge ↦
        let b = le-ltb k (length (visited (tree_of r))) ge in
        let ih = further d e m l (k - length (visited (tree_of r))) (omega (arith, q)) n j (rw b at f) (rw b at h) in
        (rw b ih.0, λ w. rw b (ap (λ x. Fork' p x i v g u s r) (ih.1 w)))
  ]

  pub recorded_at : (cmp : T → T → Ordering) (d : ℕ) (t : Subtree T V) (k : ℕ) → IsRecorded cmp t → (n : Node T V) →
      reached d t k ≡ Some n → IsRecorded cmp n.left × IsRecorded cmp n.right
  recorded_at cmp d Empty k a n f = cc
  recorded_at cmp d (Fork' p l i v g u s r) zero a n f =
      let same : whole l i v g u s r ≡ n = cc in subst (λ (x : Node T V). IsRecorded cmp x.left × IsRecorded cmp x.right) same (a.0, a.1)
  recorded_at cmp zero (Fork' p l i v g u s r) (suc k) a n f =
      let same : whole l i v g u s r ≡ n = cc in subst (λ (x : Node T V). IsRecorded cmp x.left × IsRecorded cmp x.right) same (a.0, a.1)
  recorded_at cmp (suc d) (Fork' p l i v g u s r) (suc k) a n f = elim (cases_lt k (length (visited (tree_of r)))) [
    | inl lt ↦ recorded_at cmp d r k a.1 n (rw (lt-ltb k (length (visited (tree_of r))) lt) at f)
    | inr ge ↦ recorded_at cmp d l (k - length (visited (tree_of r))) a.0 n (rw (le-ltb k (length (visited (tree_of r))) ge) at f)
  ]

  -- what is put back where it was changes nothing
  pub put_back : (d : ℕ) (t : Subtree T V) (k : ℕ) (n : Node T V) → reached d t k ≡ Some n → put_reached d t k n ≡ t
  put_back d Empty k n f = refl
  put_back d (Fork' p l i v g u s r) zero n f =
      let same : whole l i v g u s r ≡ n = cc in subst (λ (x : Node T V). put_reached d (Fork' p l i v g u s r) zero x ≡ Fork' p l i v g u s r) same refl
  put_back zero (Fork' p l i v g u s r) (suc k) n f =
      let same : whole l i v g u s r ≡ n = cc in subst (λ (x : Node T V). put_reached zero (Fork' p l i v g u s r) (suc k) x ≡ Fork' p l i v g u s r) same refl
  put_back (suc d) (Fork' p l i v g u s r) (suc k) n f = elim (cases_lt k (length (visited (tree_of r)))) [
    | inl lt ↦
        let b = lt-ltb k (length (visited (tree_of r))) lt in
        let ih : put_reached d r k n ≡ r = put_back d r k n (rw b at f) in rw b (ap (λ x. Fork' p l i v g u s x) ih)
    | inr ge ↦
        let b = le-ltb k (length (visited (tree_of r))) ge in
        let ih : put_reached d l (k - length (visited (tree_of r))) n ≡ l =
        put_back d l (k - length (visited (tree_of r))) n (rw b at f) in rw b (ap (λ x. Fork' p x i v g u s r) ih)
  ]

  pub turn_back : (n : Node T V) (j : ℕ) → put_turn n j (turn n j) ≡ n
  turn_back n j = elim (cases_lt j (length (visited (tree_of n.right)))) [
    | inl lt ↦ rw (lt-ltb j (length (visited (tree_of n.right))) lt) refl
    | inr ge ↦ rw (le-ltb j (length (visited (tree_of n.right))) ge) refl
  ]

  pub recorded_turn : (cmp : T → T → Ordering) (n : Node T V) (j : ℕ) → IsRecorded cmp n.left → IsRecorded cmp n.right → IsRecorded cmp (turn n j)
  recorded_turn cmp n j a b = elim (cases_lt j (length (visited (tree_of n.right)))) [
    | inl lt ↦ rw (lt-ltb j (length (visited (tree_of n.right))) lt) b
    | inr ge ↦ rw (le-ltb j (length (visited (tree_of n.right))) ge) a
  ]

-- at the end of the way
module _ {T V : Type 0} where
  no_levels : (t : Subtree T V) → levels (tree_of t) ≤ 0 → length (visited (tree_of t)) ≡ 0
  no_levels Empty h = refl
  no_levels (Fork' p l i v g u s r) h = absurd (omega (arith, h))

  size_of : (l r : Subtree T V) (e : Interval T × V) → length (visited (tree.Fork (tree_of l) e (tree_of r))) ≡ suc
      (length (visited (tree_of r)) + length (visited (tree_of l)))
  size_of l r e = omega (arith, length-append (visited (tree_of r)) (visited (tree_of l)))

  -- a way of some number of turns reaches each pair of a tree that has at most one level more
  pub value_reached : (d : ℕ) (t : Subtree T V) (k : ℕ) → levels (tree_of t) ≤ suc d → k < length (visited (tree_of t))
      → option_map (λ n. n.value) (reached d t k) ≡ option_map (λ e. e.1) (slice_get (visited (tree_of t)) k)
  value_reached d Empty k low lt = absurd (omega (arith, lt))
  value_reached d (Fork' p l i v g u s r) zero low lt = refl
  value_reached zero (Fork' p l i v g u s r) (suc k) low lt = absurd (omega
      (arith, lt, size_of l r (i, v), no_levels l (omega (arith, low)), no_levels r (omega (arith, low))))
  value_reached (suc d) (Fork' p l i v g u s r) (suc k) low lt = elim (cases_lt k (length (visited (tree_of r)))) [
    | inl less ↦
        let b = lt-ltb k (length (visited (tree_of r))) less in
        rw (b, get_front (visited (tree_of r)) (visited (tree_of l)) k less) (value_reached d r k (omega (arith, low)) less)
    | inr ge ↦
        let b = le-ltb k (length (visited (tree_of r))) ge in
        rw (b, get_back (visited (tree_of r)) (visited (tree_of l)) k ge)
        (value_reached d l (k - length (visited (tree_of r))) (omega (arith, low))
        (omega (arith, lt, ge, size_of l r (i, v))))
  ]

  pub value_put : (d : ℕ) (t : Subtree T V) (k : ℕ) → levels (tree_of t) ≤ suc d → k < length (visited (tree_of t)) → (n : Node T V) → reached d t k ≡ Some n
      → (w : V) → put_reached d t k (record n { value = w }) ≡ put_value w t k
  value_put d Empty k low lt n f w = refl
  value_put d (Fork' p l i v g u s r) zero low lt n f w =
      let same : whole l i v g u s r ≡ n = cc in subst (λ (x : Node T V).
      put_reached d (Fork' p l i v g u s r) zero (record x { value = w }) ≡ Fork' p l i w g u s r) same refl
  value_put zero (Fork' p l i v g u s r) (suc k) low lt n f w = absurd
      (omega (arith, lt, size_of l r (i, v), no_levels l (omega (arith, low)), no_levels r (omega (arith, low))))
  value_put (suc d) (Fork' p l i v g u s r) (suc k) low lt n f w = elim (cases_lt k (length (visited (tree_of r)))) [
    | inl less ↦
        let b = lt-ltb k (length (visited (tree_of r))) less in
        let ih = value_put d r k (omega (arith, low)) less n (rw b at f) w in rw b (ap (λ x. Fork' p l i v g u s x) ih)
    | inr ge ↦
        let b = le-ltb k (length (visited (tree_of r))) ge in
        let ih = value_put d l (k - length (visited (tree_of r))) (omega (arith, low))
        (omega (arith, lt, ge, size_of l r (i, v))) n (rw b at f) w in rw b (ap (λ x. Fork' p x i v g u s r) ih)
  ]
