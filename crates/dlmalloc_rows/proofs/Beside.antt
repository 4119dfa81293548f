-- The index of a plain list, with one more chunk and with one less.
use Rattle.std.proofs.Common.{IsTrue, ◌^◌, ◌≡◌, ◌≢◌, ℕ, zero, suc, ◌+◌, ◌<◌, ◌≤◌, ◌⊎◌, inl, inr, ◌==◌, if◌then◌else◌, Bool, true, false, List, [], ◌∷◌, ◌++◌, length, get_or, take, drop, eq-eqb, refl, sym, ap, subst, ◌∙◌, arith}
use Rattle.std.specs.Prelude.{nat_le, ◌||◌, ◌&&◌}
use Rattle.std.specs.List.{list_all}
use Rattle.std.proofs.lemmas.Bool.Decides.{nat_tests}
use Rattle.heap_memory.specs.declared.grant.Grant.{Grant}
use Rattle.heap_memory.specs.Regions.{IsWordOf, is_granted}
use Rattle.heap_memory.specs.Words.{IsStored}
use Rattle.dlmalloc_chunks.specs.Head.{size_of}
use Rattle.bins.specs.declared.bins.Bins.{Bins}
use Rattle.bins.specs.Index.{IsIn, AreDistinct, IsLeastFit, first_or, removed, with_chunk, without_chunk}
use Rattle.bins.specs.Linked.{IsLinked, IsFreshChunk}
use Rattle.dlmalloc_rows.specs.Plain.{index_of, is_apart, HasPlace, AreBeside}
use Rattle.bins.proofs.Chunks.{one_size}
use Rattle.bins.proofs.Stays.{index_stays}

same_true : (a b : ℕ) → (a == b) ≡ true → a ≡ b
same_true a b is = grind (arith, nat_tests)

true_same : (a b : ℕ) → a ≡ b → (a == b) ≡ true
true_same a b is = eq-eqb a b is

not_same : (a b : ℕ) → a ≢ b → (a == b) ≡ false
not_same a b is = grind (arith, nat_tests)

-- ---- one more
more_by : (b c : Bool) (first chunk : ℕ) (was now : List ℕ) → now ≡ (if c then was ++ chunk ∷ [] else was) →
    (if b then first ∷ now else now) ≡ (if c then (if b then first ∷ was else was) ++ chunk ∷ [] else if b then first ∷ was else was)
more_by true true first chunk was now is = ap (λ (cs : List ℕ). first ∷ cs) is
more_by true false first chunk was now is = ap (λ (cs : List ℕ). first ∷ cs) is
more_by false true first chunk was now is = is
more_by false false first chunk was now is = is

none_by : (b : Bool) (chunk : ℕ) (none : List ℕ) → none ≡ [] → (if b then chunk ∷ none else none) ≡ (if b then none ++ chunk ∷ [] else none)
none_by true chunk none is = ap (λ (cs : List ℕ). chunk ∷ cs) is ∙ sym (ap (λ (cs : List ℕ). cs ++ chunk ∷ []) is)
none_by false chunk none is = refl

index_more : (entries : List (ℕ × ℕ)) (size chunk n : ℕ) → index_of (entries ++ (size, chunk) ∷ []) n ≡ with_chunk size chunk (index_of entries) n
index_more [] size chunk n = none_by (n == size) chunk [] refl
index_more (entry ∷ entries) size chunk n = more_by (n == entry.0) (n == size) entry.1 chunk (index_of entries n)
    (index_of (entries ++ (size, chunk) ∷ []) n) (index_more entries size chunk n)

-- ---- one less
in_more : (b : Bool) (chunk first : ℕ) (chunks : List ℕ) → IsIn chunk chunks → IsIn chunk (if b then first ∷ chunks else chunks)
in_more true chunk first chunks is = inr is
in_more false chunk first chunks is = is

in_first : (b : Bool) (chunk first : ℕ) (chunks : List ℕ) → b ≡ true → chunk ≡ first → IsIn chunk (if b then first ∷ chunks else chunks)
in_first true chunk first chunks b_is is = inl is
in_first false chunk first chunks b_is is = cc

pub entry_in : (entries : List (ℕ × ℕ)) (i : ℕ) (entry default : ℕ × ℕ) → i < length entries →
    entry ≡ get_or entries i default → IsIn entry.1 (index_of entries entry.0)
entry_in [] i entry default within is = absurd (omega arith)
entry_in (first ∷ entries) zero entry default within is = in_first (entry.0 == first.0) entry.1 first.1
    (index_of entries entry.0) (true_same entry.0 first.0 (ap (λ (e : ℕ × ℕ). e.0) is)) (ap (λ (e : ℕ × ℕ). e.1) is)
entry_in (first ∷ entries) (suc i) entry default within is = in_more (entry.0 == first.0) entry.1 first.1
    (index_of entries entry.0) (entry_in entries i entry default (omega arith) is)

distinct_rest : (b : Bool) (first : ℕ) (chunks : List ℕ) → AreDistinct (if b then first ∷ chunks else chunks) → AreDistinct chunks
distinct_rest true first chunks h = h.1
distinct_rest false first chunks h = h

distinct_first : (b : Bool) (first : ℕ) (chunks : List ℕ) → b ≡ true → AreDistinct (if b then first ∷ chunks else chunks) → IsIn first chunks → ⊥
distinct_first true first chunks is h = h.0
distinct_first false first chunks is h = cc

less_by : (b c d : Bool) (first chunk : ℕ) (was now : List ℕ) → now ≡ (if c then removed chunk was else was) →
    (first == chunk) ≡ d → (b ≡ true → c ≡ true → d ≡ false) →
    (if b then first ∷ now else now) ≡ (if c then removed chunk (if b then first ∷ was else was) else if b then first ∷ was else was)
less_by true true true first chunk was now is same apart = absurd (let e : true ≡ false = apart refl refl in cc)
less_by true true false first chunk was now is same apart = ap (λ (cs : List ℕ). first ∷ cs) is
    ∙ sym (ap (λ e. if e then was else first ∷ removed chunk was) same)
less_by true false d first chunk was now is same apart = ap (λ (cs : List ℕ). first ∷ cs) is
less_by false true d first chunk was now is same apart = is
less_by false false d first chunk was now is same apart = is

pub index_less : (entries : List (ℕ × ℕ)) (i : ℕ) (entry default : ℕ × ℕ) → i < length entries →
    entry ≡ get_or entries i default → AreDistinct (index_of entries entry.0) →
    (n : ℕ) → index_of (take i entries ++ drop (suc i) entries) n ≡ without_chunk entry.0 entry.1 (index_of entries) n
index_less [] i entry default within is distinct n = absurd (omega arith)
index_less (first ∷ entries) zero entry default within is distinct n =
    subst (λ (e : ℕ × ℕ). index_of entries n ≡ without_chunk e.0 e.1 (index_of (first ∷ entries)) n) (sym is)
    (first_by (n == first.0) first.1 (index_of entries n)) where
      first_by : (b : Bool) (chunk : ℕ) (chunks : List ℕ) → chunks ≡ (if b then removed chunk
          (if b then chunk ∷ chunks else chunks) else if b then chunk ∷ chunks else chunks)
      first_by true chunk chunks = sym (ap (λ e. if e then chunks else chunk ∷ removed chunk chunks) (true_same chunk chunk refl))
      first_by false chunk chunks = refl
index_less (first ∷ entries) (suc i) entry default within is distinct n =
    less_by (n == first.0) (n == entry.0) (first.1 == entry.1) first.1 entry.1 (index_of entries n) (index_of (take i entries ++ drop (suc i) entries) n)
    (index_less entries i entry default (omega arith) is (distinct_rest (entry.0 == first.0) first.1 (index_of entries entry.0) distinct) n) refl
    (λ one other. not_same first.1 entry.1 (λ same. distinct_first (entry.0 == first.0) first.1 (index_of entries entry.0)
    (true_same entry.0 first.0 (sym (same_true n entry.0 other) ∙ same_true n first.0 one)) distinct
    (subst (λ c. IsIn c (index_of entries entry.0)) (sym same) (entry_in entries i entry default (omega arith) is))))

-- ---- a chunk that is apart from all of a list
in_split : (b : Bool) (chunk first : ℕ) (chunks : List ℕ) → IsIn chunk (if b then first ∷ chunks else chunks) →
    ((b ≡ true) × (chunk ≡ first)) ⊎ IsIn chunk chunks
in_split true chunk first chunks (inl is) = inl (refl, is)
in_split true chunk first chunks (inr is) = inr is
in_split false chunk first chunks is = inr is

both_left : (a b : Bool) → (a && b) ≡ true → a ≡ true
both_left true b is = refl
both_left false b is = is

both_right : (a b : Bool) → (a && b) ≡ true → b ≡ true
both_right true b is = is
both_right false b is = cc

apart_of : (size at : ℕ) (entry : ℕ × ℕ) → is_apart size at entry ≡ true → (at + size ≤ entry.1) ⊎ (entry.1 + entry.0 ≤ at)
apart_of size at entry is = by_tests (nat_le (entry.1 + entry.0) at) (nat_le (at + size) entry.1) refl refl is where
  by_tests : (b c : Bool) → nat_le (entry.1 + entry.0) at ≡ b → nat_le (at + size) entry.1 ≡ c → (b || c) ≡ true →
      (at + size ≤ entry.1) ⊎ (entry.1 + entry.0 ≤ at)
  by_tests true c first second is = inr (grind (arith, nat_tests))
  by_tests false true first second is = inl (grind (arith, nat_tests))
  by_tests false false first second is = cc

apart_from_all : (size at : ℕ) (entries : List (ℕ × ℕ)) → list_all (λ entry. is_apart size at entry) entries ≡ true →
    (n chunk : ℕ) → IsIn chunk (index_of entries n) → (at + size ≤ chunk) ⊎ (chunk + n ≤ at)
apart_from_all size at [] all n chunk is = absurd is
apart_from_all size at (entry ∷ entries) all n chunk is = elim (in_split (n == entry.0) chunk entry.1 (index_of entries n) is) [
  | inl (size_is, chunk_is) ↦ (let s = same_true n entry.0 size_is in elim
      (apart_of size at entry (both_left (is_apart size at entry) (list_all (λ e. is_apart size at e) entries) all))
      [ inl above ↦ inl (omega arith) | inr below ↦ inr (omega arith) ])
  | inr rest ↦ apart_from_all size at entries (both_right (is_apart size at entry) (list_all (λ e. is_apart size at e) entries) all) n chunk rest
]

-- ---- a chunk comes into the bins and the list: its head is stored, and it is inserted
module _ (regions : List Grant) (old new : ℕ → ℕ) (bins : Bins) (entries : List (ℕ × ℕ)) (size at : ℕ)
    (beside : AreBeside regions old bins entries) (place : HasPlace size at)
    (free : list_all (λ entry. is_apart size at entry) entries ≡ true) (stored : IsStored regions old (at + 8) (size + 1) new) where
  pub head_word : IsWordOf regions (at + 8)
  head_word = record {
    granted = beside.granted (at + 8) (omega (arith, place.low)) (omega (arith, place.high, place.long));
    aligned = omega (arith, place.aligned);
  }

  pub still_linked : IsLinked regions new bins (index_of entries)
  still_linked = index_stays beside.linked (record {
    granted = λ n c a is above below word. word;
    words = λ n c a is above below few word. stored.elsewhere a word (elim (apart_from_all size at entries free n c is) [
      | inl after ↦ (λ same. omega (arith, place.long))
      | inr before ↦ (λ same. omega arith)
    ]);
  })

  pub is_fresh : IsFreshChunk regions new (index_of entries) size at
  is_fresh = record {
    is = record {
      whole = place.whole;
      long = place.long;
      aligned = place.aligned;
      low = omega (arith, place.low);
      high = omega (arith, place.high);
      head = (let h = stored.here in let w = place.whole in ap size_of h ∙ omega arith);
      granted = λ a above below whole. record { granted = beside.granted a (omega (arith, place.low)) (omega (arith, place.high)); aligned = whole };
    };
    apart = apart_from_all size at entries free;
  }

  pub beside_more : (bins' : Bins) (last : ℕ → ℕ) → IsLinked regions last bins' (with_chunk size at (index_of entries)) →
      AreBeside regions last bins' (entries ++ (size, at) ∷ [])
  beside_more bins' last linked = record {
    granted = beside.granted;
    linked = (let e : with_chunk size at (index_of entries) ≡ index_of (entries ++ (size, at) ∷ []) =
        λ i n. sym (index_more entries size at n) i in subst (λ (index : ℕ → List ℕ). IsLinked regions last bins' index) e
        linked);
  }

-- ---- a chunk leaves the bins and the list
module _ (regions : List Grant) (old : ℕ → ℕ) (bins : Bins) (entries : List (ℕ × ℕ)) (place : ℕ) (entry : ℕ × ℕ) (beside : AreBeside regions old bins entries)
    (within : place < length entries) (is : entry ≡ get_or entries place entry) where
  pub beside_less : (bins' : Bins) (new : ℕ → ℕ) → IsLinked regions new bins'
      (without_chunk entry.0 entry.1 (index_of entries)) → AreBeside regions new bins'
      (take place entries ++ drop (suc place) entries)
  beside_less bins' new linked = record {
    granted = beside.granted;
    linked = (let e : without_chunk entry.0 entry.1 (index_of entries) ≡ index_of
        (take place entries ++ drop (suc place) entries) = λ i n. sym (index_less entries place entry entry within is
        (beside.linked.chunks.once entry.0) n) i in
        subst (λ (index : ℕ → List ℕ). IsLinked regions new bins' index) e linked);
  }

  -- if a search names the entry's chunk, that is the oldest of its size from 256 on
  pub fit_oldest : (n chunk : ℕ) → entry.1 ≡ chunk → IsLeastFit (index_of entries) n chunk → 256 ≤ entry.0 → entry.1 ≡ first_or 0 (index_of entries entry.0)
  fit_oldest n chunk same fit large =
      let size : fit.size ≡ entry.0 = one_size fit.size entry.0 chunk beside.linked.chunks fit.binned
      (subst (λ c. IsIn c (index_of entries entry.0)) same (entry_in entries place entry entry within is)) in
      same ∙ (fit.oldest (subst (λ m. 256 ≤ m) (sym size) large) ∙ ap (λ m. first_or 0 (index_of entries m)) size)

-- ---- what holds of regions and lists holds of those equal to them
pub linked_at : (regions regions' : List Grant) (words : ℕ → ℕ) (bins : Bins) (index : ℕ → List ℕ) → regions' ≡ regions →
    IsLinked regions words bins index → IsLinked regions' words bins index
linked_at regions regions' words bins index same h = subst (λ (r : List Grant). IsLinked r words bins index) (sym same) h

pub fresh_at : (regions regions' : List Grant) (words : ℕ → ℕ) (index : ℕ → List ℕ) (size at : ℕ) → regions' ≡ regions →
    IsFreshChunk regions words index size at → IsFreshChunk regions' words index size at
fresh_at regions regions' words index size at same h = subst (λ (r : List Grant). IsFreshChunk r words index size at) (sym same) h

pub beside_at : (regions regions' : List Grant) (words : ℕ → ℕ) (bins : Bins) (entries entries' : List (ℕ × ℕ)) →
    regions' ≡ regions → entries' ≡ entries → AreBeside regions words bins entries → AreBeside regions' words bins entries'
beside_at regions regions' words bins entries entries' same list h =
    subst (λ (r : List Grant). AreBeside r words bins entries') (sym same) (subst (λ (es : List (ℕ × ℕ)). AreBeside regions words bins es) (sym list) h)

-- bins without a chunk stand beside a list without one
pub beside_none : (regions : List Grant) (words : ℕ → ℕ) (bins : Bins) (entries : List (ℕ × ℕ)) →
    ((at : ℕ) → 65536 ≤ at → at < 65536 + 2 ^ 26 → IsTrue (is_granted regions at)) →
    IsLinked regions words bins (λ n. []) → entries ≡ [] → AreBeside regions words bins entries
beside_none regions words bins entries granted linked none = subst (λ (es : List (ℕ × ℕ)). AreBeside regions words bins es)
    (sym none) (record { granted = granted; linked = linked })
