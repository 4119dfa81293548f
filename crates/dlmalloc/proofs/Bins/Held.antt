-- The extents that an index holds.
use Rattle.dlmalloc.proofs.Names.{◌≡◌, ◌≢◌, ℕ, ◌⊎◌, inl, inr, Bool, true, false, ◌==◌, if◌then◌else◌, List, [], ◌∷◌, ◌++◌, refl, sym, ◌∙◌, ap, subst, arith, nat_tests, IsIn, AreDistinct, removed, with_chunk, without_chunk, HeapState, IsFreeAt, HoldsBut, FreeMoves}
use Rattle.dlmalloc.proofs.Bins.OneOrder.{in_front, in_back, in_one}
use Rattle.dlmalloc.proofs.Extents.Lookup.{nat_is, the_extent}

-- ---- the chunks of an index with one more, and with one less

in_removed : (k chunk : ℕ) (chunks : List ℕ) → IsIn k chunks → k ≢ chunk → IsIn k (removed chunk chunks)
in_removed k chunk [] is other = absurd is
in_removed k chunk (first ∷ chunks) is other = go (first == chunk) refl is (λ later. in_removed k chunk chunks later other)
  where
    go : (b : Bool) → (first == chunk) ≡ b → (k ≡ first) ⊎ IsIn k chunks → (IsIn k chunks → IsIn k (removed chunk chunks)) →
        IsIn k (if b then chunks else first ∷ removed chunk chunks)
    go true test (inl same) rest = absurd (other (same ∙ nat_is test))
    go true test (inr later) rest = later
    go false test (inl same) rest = inl same
    go false test (inr later) rest = inr (rest later)

of_removed : (k chunk : ℕ) (chunks : List ℕ) → IsIn k (removed chunk chunks) → IsIn k chunks
of_removed k chunk [] is = is
of_removed k chunk (first ∷ chunks) is = go (first == chunk) is (of_removed k chunk chunks)
  where
    go : (b : Bool) → IsIn k (if b then chunks else first ∷ removed chunk chunks) →
        (IsIn k (removed chunk chunks) → IsIn k chunks) → (k ≡ first) ⊎ IsIn k chunks
    go true later rest = inr later
    go false (inl same) rest = inl same
    go false (inr later) rest = inr (rest later)

none_removed : (chunk : ℕ) (chunks : List ℕ) → AreDistinct chunks → IsIn chunk (removed chunk chunks) → ⊥
none_removed chunk [] distinct is = is
none_removed chunk (first ∷ chunks) distinct is = go (first == chunk) refl is (none_removed chunk chunks distinct.1)
  where
    go : (b : Bool) → (first == chunk) ≡ b → IsIn chunk (if b then chunks else first ∷ removed chunk chunks) → (IsIn chunk (removed chunk chunks) → ⊥) → ⊥
    go true test later rest = distinct.0 (subst (λ k. IsIn k chunks) (sym (nat_is test)) later)
    go false test (inl same) rest = (let no : (first == chunk) ≡ true = (let e = same in grind (arith, nat_tests)) in cc)
    go false test (inr later) rest = rest later

module _ (size chunk : ℕ) (index : ℕ → List ℕ) where
  in_with : (k n : ℕ) → IsIn k (index n) → IsIn k (with_chunk size chunk index n)
  in_with k n is = elim (n == size) as (λ b. IsIn k (if b then index n ++ chunk ∷ [] else index n)) [ true ↦ in_front k (index n) (chunk ∷ []) is | false ↦ is ]

  with_it : (n : ℕ) → n ≡ size → IsIn chunk (with_chunk size chunk index n)
  with_it n is = (let test : (n == size) ≡ true = (let e = is in grind (arith, nat_tests)) in rw test (in_back chunk (index n) (chunk ∷ []) (inl refl)))

  of_with : (k n : ℕ) → IsIn k (with_chunk size chunk index n) → IsIn k (index n) ⊎ ((k ≡ chunk) × (n ≡ size))
  of_with k n is = go (n == size) refl is
    where
      go : (b : Bool) → (n == size) ≡ b → IsIn k (if b then index n ++ chunk ∷ [] else index n) → IsIn k (index n) ⊎ ((k ≡ chunk) × (n ≡ size))
      go true test there = elim (in_one k (index n) (chunk ∷ []) there)
          [ inl old ↦ inl old | inr new ↦ elim new [ inl is ↦ inr (is, nat_is test) | inr none ↦ absurd none ] ]
      go false test there = inl there

  in_without : (k n : ℕ) → IsIn k (index n) → k ≢ chunk → IsIn k (without_chunk size chunk index n)
  in_without k n is other = elim (n == size) as (λ b. IsIn k (if b then removed chunk (index n) else index n))
      [ true ↦ in_removed k chunk (index n) is other | false ↦ is ]

  of_without : (k n : ℕ) → IsIn k (without_chunk size chunk index n) → IsIn k (index n)
  of_without k n = elim (n == size) as (λ b. IsIn k (if b then removed chunk (index n) else index n) → IsIn k (index n))
      [ true ↦ of_removed k chunk (index n) | false ↦ λ there. there ]

  none_without : (n : ℕ) → AreDistinct (index n) → IsIn chunk (without_chunk size chunk index n) → n ≡ size → ⊥
  none_without n distinct is same = go (n == size) refl is
    where
      go : (b : Bool) → (n == size) ≡ b → IsIn chunk (if b then removed chunk (index n) else index n) → ⊥
      go true test there = none_removed chunk (index n) distinct there
      go false test there = (let no : (n == size) ≡ true = (let e = same in grind (arith, nat_tests)) in cc)

-- a free extent has one size
pub one_size : (heap : HeapState) {at size other : ℕ} → IsFreeAt heap at size → IsFreeAt heap at other → size ≡ other
one_size heap one two = ap (λ e. e.size) (the_extent (sym one ∙ two))

-- ---- which extents are in no bin

module _ (loose : List ℕ) (heap : HeapState) (index : ℕ → List ℕ) (at : ℕ) where
  -- one that the index has not may be named as loose
  pub looser : HoldsBut loose heap index → ((size : ℕ) → IsIn at (index size) → ⊥) → HoldsBut (at ∷ loose) heap index
  looser h none = record {
    all = λ k size free other apart. h.all k size free other (λ l. apart (inr l));
    free = h.free;
    no_victim = h.no_victim;
    not_loose = apart;
  }
    where
      apart : (k size : ℕ) → IsIn k (index size) → (k ≡ at) ⊎ IsIn k loose → ⊥
      apart k size is (inl same) = none size (subst (λ k. IsIn k (index size)) same is)
      apart k size is (inr later) = h.not_loose k size is later

  -- and need not be if it is the victim, or no free extent
  pub tighter : HoldsBut (at ∷ loose) heap index → ((size : ℕ) → IsFreeAt heap at size → at ≡ heap.victim) → HoldsBut loose heap index
  tighter h none = record {
    all = λ k size free other apart. h.all k size free other (λ l. go k size free other apart l);
    free = h.free;
    no_victim = h.no_victim;
    not_loose = λ k size is l. h.not_loose k size is (inr l);
  }
    where
      go : (k size : ℕ) → IsFreeAt heap k size → k ≢ heap.victim → (IsIn k loose → ⊥) → (k ≡ at) ⊎ IsIn k loose → ⊥
      go k size free other apart (inl same) = other (same ∙ none size (subst (λ k. IsFreeAt heap k size) same free))
      go k size free other apart (inr later) = apart later

  -- it goes into its bin
  pub binned_one : (size : ℕ) → HoldsBut (at ∷ loose) heap index → IsFreeAt heap at size → at ≢ heap.victim →
      (IsIn at loose → ⊥) → HoldsBut loose heap (with_chunk size at index)
  binned_one size h is_free no_victim beside = record {
    all = λ k n free other apart. go k n free other apart (k == at) refl;
    free = λ k n is. elim (of_with size at index k n is)
        [ inl old ↦ h.free k n old | inr new ↦ subst (λ a. IsFreeAt heap a n) (sym new.0) (subst (λ s. IsFreeAt heap at s) (sym new.1) is_free) ];
    no_victim = λ k n is. elim (of_with size at index k n is) [ inl old ↦ h.no_victim k n old | inr new ↦ λ same. no_victim (sym new.0 ∙ same) ];
    not_loose = λ k n is l. elim (of_with size at index k n is) [
      | inl old ↦ h.not_loose k n old (inr l)
      | inr new ↦ beside
          (subst (λ a. IsIn a loose) new.0 l)
    ];
  }
    where
      go : (k n : ℕ) → IsFreeAt heap k n → k ≢ heap.victim → (IsIn k loose → ⊥) → (b : Bool) → (k == at) ≡ b → IsIn k (with_chunk size at index n)
      go k n free other apart true test =
          let same = nat_is test in
          subst (λ a. IsIn a (with_chunk size at index n)) (sym same) (with_it size at index n
          (one_size heap (subst (λ a. IsFreeAt heap a n) same free) is_free))
      go k n free other apart false test = in_with size at index k n (h.all k n free other out)
        where
          out : (k ≡ at) ⊎ IsIn k loose → ⊥
          out (inl same) = (let no : (k == at) ≡ true = (let e = same in grind (arith, nat_tests)) in cc)
          out (inr later) = apart later

  -- and it leaves it
  pub unbinned_one : (size : ℕ) → HoldsBut loose heap index → ((n : ℕ) → AreDistinct (index n)) → IsFreeAt heap at size →
      HoldsBut (at ∷ loose) heap (without_chunk size at index)
  unbinned_one size h distinct is_free = record {
    all = λ k n free other apart. in_without size at index k n (h.all k n free other (λ l. apart (inr l))) (λ same. apart (inl same));
    free = λ k n is. h.free k n (of_without size at index k n is);
    no_victim = λ k n is. h.no_victim k n (of_without size at index k n is);
    not_loose = apart;
  }
    where
      apart : (k n : ℕ) → IsIn k (without_chunk size at index n) → (k ≡ at) ⊎ IsIn k loose → ⊥
      apart k n is (inl same) =
          let here = subst (λ a. IsIn a (without_chunk size at index n)) same is in
          none_without size at index n (distinct n) here (one_size heap (h.free at n (of_without size at index at n here)) is_free)
      apart k n is (inr later) = h.not_loose k n (of_without size at index k n is) later

-- ---- the heap moves

-- What is in no bin afterwards came, or was in none before; and what came, or was in none, is in none or has gone.
pub record AreAccounted (old new : HeapState) (loose loose' less more : List ℕ) : Type 0 where
  pub gone : (k : ℕ) → IsIn k less → (size : ℕ) → IsFreeAt old k size → k ≢ old.victim → IsIn k loose
  pub come : (k : ℕ) → IsIn k more → (size : ℕ) → IsFreeAt new k size → k ≢ new.victim → IsIn k loose'
  pub still : (k : ℕ) → (IsIn k less → ⊥) → (k ≡ old.victim) ⊎ IsIn k loose → (size : ℕ) → IsFreeAt new k size → k ≢ new.victim → IsIn k loose'
  pub from : (k : ℕ) → (IsIn k more → ⊥) → (k ≡ new.victim) ⊎ IsIn k loose' → (size : ℕ) → IsFreeAt old k size → k ≢ old.victim → IsIn k loose

module _ {old new : HeapState} {loose loose' less more : List ℕ} {index : ℕ → List ℕ} (h : HoldsBut loose old index)
    (moves : FreeMoves old new less more) (are : AreAccounted old new loose loose' less more) where
  -- what the index has is free as before
  pub still_free : (at size : ℕ) → IsIn at (index size) → IsFreeAt new at size × (IsIn at more → ⊥)
  still_free at size is = moves.stays at size (h.free at size is) (λ left.
      h.not_loose at size is (are.gone at left size (h.free at size is) (h.no_victim at size is)))

  pub holds_moved : HoldsBut loose' new index
  holds_moved = record {
    all = λ at size free other apart.
        let was = moves.was at size free (λ came. apart (are.come at came size free other)) in
        h.all at size was.0 (λ victim. apart (are.still at was.1 (inl victim) size free other)) (λ l. apart (are.still at was.1 (inr l) size free other));
    free = λ at size is. (still_free at size is).0;
    no_victim = λ at size is victim. h.not_loose at size is (are.from at (still_free at size is).1 (inl victim) size
        (h.free at size is) (h.no_victim at size is));
    not_loose = λ at size is l. h.not_loose at size is (are.from at (still_free at size is).1 (inr l) size (h.free at size is) (h.no_victim at size is));
  }
