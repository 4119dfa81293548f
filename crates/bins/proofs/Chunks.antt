-- The chunks of an index, with one more and with one less.
use Rattle.std.proofs.Common.{◌≡◌, ◌≢◌, ℕ, ◌+◌, ◌*◌, ◌<◌, ◌≤◌, ◌⊎◌, inl, inr, List, [], ◌∷◌, ◌++◌, sym, ap, subst, ◌∙◌, arith}
use Rattle.std.proofs.lemmas.Bool.{cases_lt}
use Rattle.heap_memory.specs.declared.grant.Grant.{Grant}
use Rattle.dlmalloc_chunks.specs.Head.{size_of}
use Rattle.bins.specs.Index.{IsIn, AreDistinct, with_chunk, without_size}
use Rattle.bins.specs.Linked.{IsChunk, AreChunks, IsFreshChunk}
use Rattle.bins.proofs.Lists.{in_append, with_same, with_other, without_same, without_other}
use Rattle.bins.proofs.Frame.{in_without}
use Rattle.bins.specs.Stores.{IsWordPlace}

-- two numbers are one or not
pub same_or_not : (a b : ℕ) → (a ≡ b) ⊎ (a ≢ b)
same_or_not a b = elim (cases_lt a b) [
  | inl less ↦ inr (λ is. omega arith)
  | inr not ↦ elim (cases_lt b a) [ inl more ↦ inr (λ is. omega arith) | inr same ↦ inl (omega arith) ]
]

-- a word of a chunk is none of a chunk apart from it
pub away : (chunk size other bytes k j : ℕ) → (chunk + size ≤ other) ⊎ (other + bytes ≤ chunk) → j < size → 0 < k → 8 * k < bytes →
    other + 8 * k ≢ chunk + j
away chunk size other bytes k j (inl above) within some few = λ is. omega arith
away chunk size other bytes k j (inr below) within some few = λ is. omega arith

-- a chunk of an index with one more
pub in_with : (size chunk : ℕ) (index : ℕ → List ℕ) (n other : ℕ) → IsIn other (with_chunk size chunk index n) →
    IsIn other (index n) ⊎ ((n ≡ size) × (other ≡ chunk))
in_with size chunk index n other is = elim (same_or_not n size) [
  | inr not ↦ inl (subst (λ (cs : List ℕ). IsIn other cs) (with_other size chunk index n not) is)
  | inl same ↦
      elim (in_append other (index size) (chunk ∷ []) (subst (λ (cs : List ℕ). IsIn other cs)
      (ap (with_chunk size chunk index) same ∙ with_same size chunk index) is)) [
        | inl old ↦ inl (subst (λ m. IsIn other (index m)) (sym same) old)
        | inr (inl new) ↦ inr (same, new)
        | inr (inr none) ↦ absurd none
      ]
]

pub distinct_with : (chunk : ℕ) (chunks : List ℕ) → (IsIn chunk chunks → ⊥) → AreDistinct chunks → AreDistinct (chunks ++ chunk ∷ [])
distinct_with chunk [] fresh h = ((λ is. is), tt)
distinct_with chunk (x ∷ xs) fresh h = (
  (λ is. elim (in_append x xs (chunk ∷ []) is) [ inl old ↦ h.0 old | inr (inl new) ↦ fresh (inl (sym new)) | inr (inr none) ↦ none ]),
  distinct_with chunk xs (λ is. fresh (inr is)) h.1,
)

-- a chunk stays if its head does
pub chunk_kept : {regions : List Grant} {old : ℕ → ℕ} (new : ℕ → ℕ) {size chunk : ℕ} → new (chunk + 8) ≡ old (chunk + 8) →
    IsChunk regions old size chunk → IsChunk regions new size chunk
chunk_kept new same h =
    record { whole = h.whole; long = h.long; aligned = h.aligned; low = h.low; high = h.high; head = ap size_of same ∙ h.head; granted = h.granted }

pub chunks_with : {regions : List Grant} {old : ℕ → ℕ} (new : ℕ → ℕ) {index : ℕ → List ℕ} {size chunk : ℕ} →
    AreChunks regions old index → IsFreshChunk regions old index size chunk →
    ((n other : ℕ) → IsIn other (index n) → new (other + 8) ≡ old (other + 8)) → new (chunk + 8) ≡ old (chunk + 8) →
    AreChunks regions new (with_chunk size chunk index)
chunks_with {regions = regions} new {index = index} {size = size} {chunk = chunk} h fresh heads head =
    let not_in : (n : ℕ) → IsIn chunk (index n) → ⊥ = λ n is.
    let c = h.each n chunk is in let f = fresh.is in
    elim (fresh.apart n chunk is) [ inl above ↦ absurd (omega arith) | inr below ↦ absurd (omega arith) ] in
    record {
      each = λ n other is. elim (in_with size chunk index n other is) [
        | inl was ↦ chunk_kept new (heads n other was) (h.each n other was)
        | inr (n_is, other_is) ↦
            subst (λ c. IsChunk regions new n c) (sym other_is) (subst (λ m. IsChunk regions new m chunk) (sym n_is) (chunk_kept new head fresh.is))
      ];
      apart = λ n c m d is_c is_d not. elim (in_with size chunk index n c is_c) [
        | inl was_c ↦ elim (in_with size chunk index m d is_d) [
          | inl was_d ↦ h.apart n c m d was_c was_d not
          | inr (m_is, d_is) ↦ elim (fresh.apart n c was_c) [ inl above ↦ inr (omega arith) | inr below ↦ inl (omega arith) ]
        ]
        | inr (n_is, c_is) ↦ elim (in_with size chunk index m d is_d) [
          | inl was_d ↦ elim (fresh.apart m d was_d) [ inl above ↦ inl (omega arith) | inr below ↦ inr (omega arith) ]
          | inr (m_is, d_is) ↦ absurd (not (c_is ∙ sym d_is))
        ]
      ];
      once = λ n. elim (same_or_not n size) [
        | inr not ↦ subst (λ (cs : List ℕ). AreDistinct cs) (sym (with_other size chunk index n not)) (h.once n)
        | inl same ↦
            subst (λ (cs : List ℕ). AreDistinct cs) (sym (ap (with_chunk size chunk index) same
            ∙ with_same size chunk index)) (distinct_with chunk (index size) (not_in size) (h.once size))
      ];
    }

-- chunks of two sizes are two
pub one_size : {regions : List Grant} {old : ℕ → ℕ} {index : ℕ → List ℕ} (n m chunk : ℕ) → AreChunks regions old index →
    IsIn chunk (index n) → IsIn chunk (index m) → n ≡ m
one_size n m chunk h one other = sym (h.each n chunk one).head ∙ (h.each m chunk other).head

-- the chunks without those of a size
pub chunks_without : {regions : List Grant} {old : ℕ → ℕ} {index : ℕ → List ℕ} (s : ℕ) → AreChunks regions old index →
    AreChunks regions old (without_size s index)
chunks_without {index = index} s h = record {
  each = λ n c is. h.each n c (in_without s index n c is);
  apart = λ n c m d is_c is_d other. h.apart n c m d (in_without s index n c is_c) (in_without s index m d is_d) other;
  once = λ n. elim (same_or_not n s) [
    | inl e ↦ subst (λ (cs : List ℕ). AreDistinct cs) (sym (ap (without_size s index) e ∙ without_same s index)) tt
    | inr e ↦ subst (λ (cs : List ℕ). AreDistinct cs) (sym (without_other s index n e)) (h.once n)
  ];
}

-- the chunks of a size are none of the others
pub size_apart : {regions : List Grant} {old : ℕ → ℕ} {index : ℕ → List ℕ} → AreChunks regions old index → (size m c d : ℕ) →
    IsIn c (without_size size index m) → IsIn d (index size) → c ≢ d
size_apart {index = index} chunks size m c d c_in d_in same = elim (same_or_not m size) [
  | inl here ↦ subst (λ (cs : List ℕ). IsIn c cs) (ap (without_size size index) here ∙ without_same size index) c_in
  | inr other ↦ other (one_size m size c chunks (in_without size index m c c_in) (subst (λ x. IsIn x (index size)) (sym same) d_in))
]

-- the first eight words of the chunks of an index, which all have at least 256 bytes
module _ {regions : List Grant} {old : ℕ → ℕ} {index : ℕ → List ℕ} (chunks : AreChunks regions old index)
    (large : (m c : ℕ) → IsIn c (index m) → 256 ≤ m) where
  pub chunk_place : (m c k : ℕ) → IsIn c (index m) → 0 < k → 8 * k < 64 → IsWordPlace regions (c + 8 * k)
  chunk_place m c k is some few =
      let h = chunks.each m c is in
      let l = large m c is in
      record { small = omega (arith, h.high); word = h.granted (c + 8 * k) (omega arith) (omega arith) (omega (arith, h.aligned)) }

  -- no two chunks share one
  pub words_apart : (m c j d k i : ℕ) → IsIn c (index m) → IsIn d (index j) → c ≢ d → 8 * k < 64 → i < 64 → c + 8 * k ≢ d + i
  words_apart m c j d k i c_in d_in other few less =
      let lm = large m c c_in in
      let lj = large j d d_in in
      elim (chunks.apart m c j d c_in d_in other) [ inl below ↦ (λ is. omega arith) | inr above ↦ (λ is. omega arith) ]
