-- The index after a release pass.
use Rattle.dlmalloc.proofs.Names.{◌≡◌, ℕ, ◌-◌, Bool, true, false, ◌==◌, if◌then◌else◌, List, [], ◌∷◌, ◌++◌, refl, ◌∙◌, ap, with_chunk, without_chunk, removed, Segment, may_leave, after_visit, after_visits, after_pass}

-- what a step makes of an index at a size depends on the index there
pub with_same : (size chunk : ℕ) (i j : ℕ → List ℕ) (n : ℕ) → i n ≡ j n → with_chunk size chunk i n ≡ with_chunk size chunk j n
with_same size chunk i j n same = ap (λ chunks. if n == size then chunks ++ chunk ∷ [] else chunks) same

without_same : (size chunk : ℕ) (i j : ℕ → List ℕ) (n : ℕ) → i n ≡ j n → without_chunk size chunk i n ≡ without_chunk size chunk j n
without_same size chunk i j n same = ap (λ chunks. if n == size then removed chunk chunks else chunks) same

-- what a visit makes of an index, by whether the segment is handed out, and taken
abbrev left_of : Segment → (ℕ → List ℕ) → ℕ → List ℕ
left_of segment index = without_chunk (segment.size - 80) segment.base index

abbrev made_of : Segment → Bool → Bool → (ℕ → List ℕ) → ℕ → List ℕ
made_of segment m f index = if m then (if f then left_of segment index else with_chunk (segment.size - 80) segment.base (left_of segment index)) else index

pub visit_same : (frees parts : Bool) (segment : Segment) (i j : ℕ → List ℕ) (n : ℕ) → i n ≡ j n →
    after_visit frees parts segment i n ≡ after_visit frees parts segment j n
visit_same frees parts segment i j n same = go (may_leave parts segment) frees
  where
    go : (m f : Bool) → made_of segment m f i n ≡ made_of segment m f j n
    go true true = without_same (segment.size - 80) segment.base i j n same
    go true false = with_same (segment.size - 80) segment.base (left_of segment i) (left_of segment j) n
        (without_same (segment.size - 80) segment.base i j n same)
    go false f = same

visits_same : (frees parts : Bool) (segments : List Segment) (i j : ℕ → List ℕ) → ((n : ℕ) → i n ≡ j n) →
    (n : ℕ) → after_visits frees parts segments i n ≡ after_visits frees parts segments j n
visits_same frees parts [] i j same n = same n
visits_same frees parts (segment ∷ segments) i j same n = visits_same frees parts segments (after_visit frees parts segment i)
    (after_visit frees parts segment j) (λ m. visit_same frees parts segment i j m (same m)) n

pub pass_same : (frees parts : Bool) (segments : List Segment) (i j : ℕ → List ℕ) → ((n : ℕ) → i n ≡ j n) →
    (n : ℕ) → after_pass frees parts segments i n ≡ after_pass frees parts segments j n
pass_same frees parts [] i j same n = same n
pass_same frees parts (head ∷ segments) i j same n = visits_same frees parts segments i j same n

-- one more is visited
pub visits_on : (frees parts : Bool) (done : List Segment) (segment : Segment) (index : ℕ → List ℕ) (n : ℕ) →
    after_visit frees parts segment (after_visits frees parts done index) n ≡ after_visits frees parts (done ++ segment ∷ []) index n
visits_on frees parts [] segment index n = refl
visits_on frees parts (first ∷ done) segment index n = visits_on frees parts done segment (after_visit frees parts first index) n

-- the three ways of a visit
module _ (frees parts : Bool) (segment : Segment) (index : ℕ → List ℕ) (n : ℕ) where
  pub visit_none : false ≡ may_leave parts segment → index n ≡ after_visit frees parts segment index n
  visit_none is = ap (λ m. made_of segment m frees index n) is

  module _ {base size : ℕ} (base_is : base ≡ segment.base) (size_is : size ≡ segment.size - 80) (may : true ≡ may_leave parts segment) where
    pub visit_left : true ≡ frees → without_chunk size base index n ≡ after_visit frees parts segment index n
    visit_left takes = (λ i. without_chunk (size_is i) (base_is i) index n) ∙ (λ i. made_of segment (may i) (takes i) index n)

    pub visit_kept : false ≡ frees → with_chunk size base (without_chunk size base index) n ≡ after_visit frees parts segment index n
    visit_kept takes = (λ i. with_chunk (size_is i) (base_is i) (without_chunk (size_is i) (base_is i) index) n)
        ∙ (λ i. made_of segment (may i) (takes i) index n)
