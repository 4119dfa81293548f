-- Regions that are cut: not at all, one time after another, and those of the heap alone.
use Rattle.std.proofs.Common.{◌≡◌, inl, inr, Bool, true, false, cond, List, [], ◌∷◌, refl, sym, ap, ◌∙◌, subst, arith}
use Rattle.std.specs.List.{filter}
use Rattle.machine_model.specs.declared.region.Region.{Region}
use Rattle.machine_model.specs.Cut.{IsFrontOf, AreCut}

pub none_cut : (regions : List Region) → AreCut regions regions
none_cut [] = refl
none_cut (region ∷ rest) = inr (region, rest, inl refl, refl, none_cut rest)

front_on : (a b c : Region) → IsFrontOf a b → IsFrontOf b c → IsFrontOf a c
front_on a b c (inl same) second = subst (λ (r : Region). IsFrontOf r c) same second
front_on a b c (inr first) (inl same) = subst (λ (r : Region). IsFrontOf a r) (sym same) (inr first)
front_on a b c (inr first) (inr second) = inr (
  second.0,
  (let one = first.1 in let two = second.1 in omega arith),
  second.2 ∙ ap (λ (r : Region). record r { pages = c.pages }) first.2,
)

pub cut_on : (a b c : List Region) → AreCut a b → AreCut b c → AreCut a c
cut_on [] b c first second = subst (λ (bs : List Region). AreCut bs c) first second
cut_on (region ∷ rest) b c (inl dropped) second = inl (cut_on rest b c dropped second)
cut_on (region ∷ rest) b c (inr kept) second = elim (subst (λ (bs : List Region). AreCut bs c) kept.3 second) [
  | inl dropped ↦ inl (cut_on rest kept.1 c kept.4 dropped)
  | inr more ↦ inr (more.0, more.1, front_on region kept.0 more.0 kept.2 more.2, more.3, cut_on rest kept.1 more.1 kept.4 more.4)
]

front_kind : (region front : Region) → IsFrontOf region front → front.heap ≡ region.heap
front_kind region front (inl same) = ap (λ (r : Region). r.heap) same
front_kind region front (inr less) = ap (λ (r : Region). r.heap) less.2

pub cut_heap : (old new : List Region) → AreCut old new → AreCut (filter (λ region. region.heap) old) (filter (λ region. region.heap) new)
cut_heap [] new is = ap (λ (rs : List Region). filter (λ (region : Region). region.heap) rs) is
cut_heap (region ∷ rest) new (inl dropped) = go region.heap (cut_heap rest new dropped)
  where
    go : (heap : Bool) → AreCut (filter (λ region. region.heap) rest) (filter (λ region. region.heap) new) →
        AreCut (cond heap (region ∷ filter (λ region. region.heap) rest) (filter (λ region. region.heap) rest)) (filter (λ region. region.heap) new)
    go true later = inl later
    go false later = later
cut_heap (region ∷ rest) new (inr kept) = subst (λ (rs : List Region).
    AreCut (filter (λ region. region.heap) (region ∷ rest)) (filter (λ region. region.heap) rs)) (sym kept.3)
    (go region.heap kept.0.heap (front_kind region kept.0 kept.2) (cut_heap rest kept.1 kept.4))
  where
    go : (heap front : Bool) → front ≡ heap → AreCut (filter (λ region. region.heap) rest) (filter (λ region. region.heap) kept.1) →
        AreCut (cond heap (region ∷ filter (λ region. region.heap) rest) (filter (λ region. region.heap) rest))
        (cond front (kept.0 ∷ filter (λ region. region.heap) kept.1) (filter (λ region. region.heap) kept.1))
    go true true same later = inr (kept.0, filter (λ region. region.heap) kept.1, kept.2, refl, later)
    go false false same later = later
    go true false same later = absurd (cc)
    go false true same later = absurd (cc)
