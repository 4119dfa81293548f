-- A move of the heap together with what its bins do before it and after it.
use Rattle.dlmalloc.proofs.Names.{◌≡◌, ℕ, ◌+◌, ◌<◌, ◌≤◌, ◌⊎◌, inl, inr, List, [], ◌++◌, refl, sym, ◌∙◌, ap, subst, arith, dec_lt, Grant, IsWordOf, Event, HeapState, IsBoundary, IsInFree, state_of, IsFreeAt, IsRebinned, IsMoved, IsTurned, Dlmalloc}

-- a word that is in no free extent is out of each
pub out_of : (heap : HeapState) (k : ℕ) → (IsInFree heap k → ⊥) → (at size : ℕ) → IsFreeAt heap at size → (k < at + 16) ⊎ (at + size ≤ k)
out_of heap k none at size free = elim (dec_lt k (at + 16)) [
  | yes below ↦ inl below
  | no low ↦ elim (dec_lt k (at + size)) [
    | yes high ↦ absurd (none (record { at = at; size = size; free = free; low = omega arith; high = high }))
    | no beyond ↦ inr (omega arith)
  ]
]

module _ {A : Type 0} (regions : A → List Grant) (word : A → ℕ → ℕ) (follows : A → List Event → A → Type 0)
    (follows_on : (x y z : A) (a b c : List Event) → follows x a y → follows y b z → a ++ b ≡ c → follows x c z) where
  -- chunks went into bins or left them twice
  pub rebinned_on : {first second third : Dlmalloc A} → IsRebinned regions word follows first second → IsRebinned regions word follows second third →
      IsRebinned regions word follows first third
  rebinned_on {first} {second} {third} one two = record {
    sound = two.sound;
    state = two.state ∙ one.state;
    fields = two.fields ∙ ap (λ (h : Dlmalloc A). record h { system = third.system; bins = third.bins }) one.fields;
    words = λ k inside out. two.words k (subst (λ (rs : List Grant). IsWordOf rs k) (sym one.regions_same) inside)
        (λ at size free. out at size (subst (λ (s : HeapState). IsFreeAt s at size) one.state free)) ∙ one.words k inside out;
    regions_same = two.regions_same ∙ one.regions_same;
    followed = follows_on first.system second.system third.system [] [] [] one.followed two.followed refl;
  }

  -- they did before a move and after it
  pub turned : {first second third last : Dlmalloc A} → IsRebinned regions word follows first second → IsMoved regions word follows second third →
      IsRebinned regions word follows third last → IsTurned regions word follows first last
  turned {first} {second} {third} {last} one moved two = record {
    sound = two.sound;
    words = λ k inside was own.
        let then : IsWordOf (regions second.system) k = subst (λ rs. IsWordOf rs k) (sym one.regions_same) inside in
        let behind : IsWordOf (regions third.system) k = subst (λ rs. IsWordOf rs k) (sym moved.regions_same) then in
        two.words k behind (out_of (state_of word third) k (λ f. own (inr (subst (λ s. IsInFree s k) (sym two.state) f))))
        ∙ (moved.words k then (λ b. own (inl (subst (λ s. IsBoundary s k) (sym two.state) b))) ∙ one.words k inside (out_of (state_of word first) k was));
    regions_same = two.regions_same ∙ (moved.regions_same ∙ one.regions_same);
    followed = follows_on first.system third.system last.system [] [] []
        (follows_on first.system second.system third.system [] [] [] one.followed moved.followed refl) two.followed refl;
  }
