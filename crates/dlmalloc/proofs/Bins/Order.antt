-- The order of the chunks of each size.
use Rattle.dlmalloc.proofs.Names.{◌≡◌, ℕ, ◌⊎◌, inl, inr, Bool, true, false, ◌==◌, if◌then◌else◌, List, [], ◌∷◌, ◌++◌, refl, sym, ◌∙◌, ap, subst, arith, append-nil, IsIn, removed, with_chunk, without_chunk, IsPart, AreInOrder, Grant, Dlmalloc, IsBinned, KeepsOrder, KeepsBinsInOrder, TurnsInOrder, IsIntact, Event}
use Rattle.dlmalloc.specs.Order.{IsLessened, IsAdded}
use Rattle.dlmalloc.proofs.Extents.Lookup.{nat_is}

-- ---- parts

pub part_all : (chunks : List ℕ) → IsPart chunks chunks
part_all [] = refl
part_all (chunk ∷ chunks) = inr (chunks, refl, part_all chunks)

part_removed : (chunk : ℕ) (chunks : List ℕ) → IsPart (removed chunk chunks) chunks
part_removed chunk [] = refl
part_removed chunk (first ∷ chunks) = go (first == chunk) (part_removed chunk chunks)
  where
    go : (b : Bool) → IsPart (removed chunk chunks) chunks → IsPart (if b then chunks else first ∷ removed chunk chunks) (first ∷ chunks)
    go true rest = inl (part_all chunks)
    go false rest = inr (removed chunk chunks, refl, rest)

-- a part of a part is one
pub part_on : (last middle first : List ℕ) → IsPart middle first → IsPart last middle → IsPart last first
part_on last middle [] is there = subst (IsPart last) is there
part_on last middle (chunk ∷ chunks) (inl later) there = inl (part_on last middle chunks later there)
part_on last middle (chunk ∷ chunks) (inr (rest, is, part)) there = go (subst (IsPart last) is there) (λ some. part_on some rest chunks part)
  where
    go : IsPart last (chunk ∷ rest) → ((some : List ℕ) → IsPart some rest → IsPart some chunks) → IsPart last (chunk ∷ chunks)
    go (inl later) on = inl (on last later)
    go (inr (less, same, later)) on = inr (less, same, on less later)

-- ---- steps

pub lessened_same : (index : ℕ → List ℕ) → IsLessened index index
lessened_same index n = part_all (index n)

pub lessened_as : (size chunk : ℕ) (old new : ℕ → List ℕ) → ((n : ℕ) → new n ≡ without_chunk size chunk old n) → IsLessened old new
lessened_as size chunk old new is n = subst (λ chunks. IsPart chunks (old n)) (sym (is n)) (elim (n == size) as
    (λ b. IsPart (if b then removed chunk (old n) else old n) (old n)) [ true ↦ part_removed chunk (old n) | false ↦ part_all (old n) ])

-- without a chunk that is not there
removed_none : (chunk : ℕ) (chunks : List ℕ) → (IsIn chunk chunks → ⊥) → chunks ≡ removed chunk chunks
removed_none chunk [] none = refl
removed_none chunk (first ∷ chunks) none = go (first == chunk) refl (removed_none chunk chunks (λ later. none (inr later)))
  where
    go : (b : Bool) → (first == chunk) ≡ b → chunks ≡ removed chunk chunks → first ∷ chunks ≡ (if b then chunks else first ∷ removed chunk chunks)
    go true test rest = absurd (none (inl (sym (nat_is test))))
    go false test rest = ap (λ more. first ∷ more) rest

pub none_left : (size chunk : ℕ) (index : ℕ → List ℕ) (n : ℕ) → (IsIn chunk (index n) → ⊥) → index n ≡ without_chunk size chunk index n
none_left size chunk index n none = elim (n == size) as (λ b. index n ≡ (if b then removed chunk (index n) else index n))
    [ true ↦ removed_none chunk (index n) none | false ↦ refl ]

pub lessened_on : (first middle last : ℕ → List ℕ) → IsLessened first middle → IsLessened middle last → IsLessened first last
lessened_on first middle last one two n = part_on (last n) (middle n) (first n) (one n) (two n)

pub added_none : (size chunk : ℕ) (index : ℕ → List ℕ) → IsAdded size chunk index index
added_none size chunk index n = inl refl

pub added_as : (size chunk : ℕ) (old new : ℕ → List ℕ) → ((n : ℕ) → new n ≡ with_chunk size chunk old n) → IsAdded size chunk old new
added_as size chunk old new is n = go (n == size) refl (is n)
  where
    go : (b : Bool) → (n == size) ≡ b → new n ≡ (if b then old n ++ chunk ∷ [] else old n) → (new n ≡ old n) ⊎ ((n ≡ size) × (new n ≡ old n ++ chunk ∷ []))
    go true test same = inr (nat_is test, same)
    go false test same = inl same

-- some chunks left, and at most one came that was none of them
pub in_order : (size chunk : ℕ) (old middle new : ℕ → List ℕ) → IsLessened old middle → IsAdded size chunk middle new →
    (IsIn chunk (old size) → ⊥) → AreInOrder old new
in_order size chunk old middle new less added other n = elim (added n) [
  | inl same ↦ record { stayed = middle n; came = []; are = same ∙ sym (append-nil (middle n)); part = less n; others = λ k none was. none; few = omega arith }
  | inr (is, more) ↦ record {
    stayed = middle n;
    came = chunk ∷ [];
    are = more;
    part = less n;
    others = λ k here was. elim here [ inl same ↦ other (subst (λ m. IsIn chunk (old m)) is (subst (λ k. IsIn k (old n)) same was)) | inr none ↦ none ];
    few = omega arith;
  }
]

-- nothing came and nothing left
pub order_same : (index : ℕ → List ℕ) → AreInOrder index index
order_same index n = record {
  stayed = index n;
  came = [];
  are = sym (append-nil (index n));
  part = part_all (index n);
  others = λ k none was. none;
  few = omega arith;
}

-- some chunks left
pub order_less : (old new : ℕ → List ℕ) → IsLessened old new → AreInOrder old new
order_less old new less n = record { stayed = new n; came = []; are = sym (append-nil (new n)); part = less n; others = λ k none was. none; few = omega arith }

-- some chunks left, and the others stayed
pub order_left : (old middle new : ℕ → List ℕ) → IsLessened old middle → ((n : ℕ) → new n ≡ middle n) → AreInOrder old new
order_left old middle new less same n = record {
  stayed = middle n;
  came = [];
  are = same n ∙ sym (append-nil (middle n));
  part = less n;
  others = λ k none was. none;
  few = omega arith;
}

-- ---- bins that a call leaves in order

-- linked bins whose order is kept are linked
pub bins_kept : {A : Type 0} {regions : A → List Grant} {word : A → ℕ → ℕ} {old new : Dlmalloc A} →
    KeepsOrder regions word old new → IsBinned regions word old → KeepsBinsInOrder regions word old new
bins_kept order linked = record { linked = (order linked).0; order = order }

-- nothing was done
pub bins_same : {A : Type 0} {regions : A → List Grant} {word : A → ℕ → ℕ} {heap : Dlmalloc A} →
    IsBinned regions word heap → KeepsBinsInOrder regions word heap heap
bins_same linked = record { linked = linked; order = λ b. (b, order_same b.index) }

pub turned_same : {A : Type 0} {regions : A → List Grant} {word : A → ℕ → ℕ} (follows : A → List Event → A → Type 0) {heap : Dlmalloc A} →
    IsIntact regions word heap → follows heap.system [] heap.system → TurnsInOrder regions word follows heap heap
turned_same follows intact followed = record {
  moved = record { sound = intact.sound; words = λ k inside was own. refl; regions_same = refl; followed = followed };
  bins = bins_same intact.linked;
}
