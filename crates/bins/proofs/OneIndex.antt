-- The memory has one index.
use Rattle.std.proofs.Common.{◌≡◌, ◌≢◌, ℕ, zero, suc, ◌+◌, ◌*◌, ◌/◌, ◌%◌, ◌^◌, ◌<◌, ◌≤◌, inl, inr, Bool, true, false, List, [], ◌∷◌, refl, sym, ap, subst, ◌∙◌, arith}
use Rattle.std.specs.Prelude.{◌==◌, if◌then◌else◌, slice_index}
use Rattle.std.proofs.lemmas.Bool.{cases_lt}
use Rattle.heap_memory.specs.declared.grant.Grant.{Grant}
use Rattle.dlmalloc_chunks.specs.Bins.{least_size, IsTreeIndex}
use Rattle.bins.specs.declared.bins.Bins.{Bins}
use Rattle.bins.specs.Index.{IsIn, AreDistinct, first_or, without_size, from}
use Rattle.bins.specs.Rings.{AreLinked, IsRing}
use Rattle.bins.specs.Tries.{low_at, width, IsTrie}
use Rattle.bins.specs.Linked.{IsLinked, low_of, levels_of}
use Rattle.bins.proofs.Chunks.{same_or_not}
use Rattle.bins.proofs.Lists.{without_other}
use Rattle.bins.proofs.LeastSmall.{nil_or_some}
use Rattle.bins.proofs.TreeRanges.{bin_low, bin_end, from_same}
use Rattle.bins.proofs.TreeEntry.{chunks_from}

-- two rings with the same ends have the same chunks
same_chunks : (words : ℕ → ℕ) (before behind : ℕ) (chunks others : List ℕ) → AreLinked words before chunks behind →
    AreLinked words before others behind →
    first_or behind chunks ≡ first_or behind others → ((chunk : ℕ) → IsIn chunk chunks → chunk ≢ behind) →
    ((chunk : ℕ) → IsIn chunk others → chunk ≢ behind) → chunks ≡ others
same_chunks words before behind [] [] linked linked' first real real' = refl
same_chunks words before behind [] (d ∷ ds) linked linked' first real real' = absurd (real' d (inl refl) (sym first))
same_chunks words before behind (c ∷ cs) [] linked linked' first real real' = absurd (real c (inl refl) first)
same_chunks words before behind (c ∷ cs) (d ∷ ds) linked linked' first real real' =
    let rest : AreLinked words c ds behind = subst (λ x. AreLinked words x ds behind) (sym first) linked'.2 in
    let next : first_or behind cs ≡ first_or behind ds = sym linked.1 ∙ (ap (λ x. words (x + 24)) first ∙ linked'.1) in
    let same = same_chunks words c behind cs ds linked.2 rest next (λ x is. real x (inr is)) (λ x is. real' x (inr is)) in
    ap (λ (xs : List ℕ). c ∷ xs) same ∙ ap (λ x. x ∷ ds) first

same_ring : {words : ℕ → ℕ} {mark first last : ℕ} {chunks others : List ℕ} → IsRing words mark first last chunks →
    IsRing words mark first last others →
    ((chunk : ℕ) → IsIn chunk chunks → chunk ≢ mark) → ((chunk : ℕ) → IsIn chunk others → chunk ≢ mark) → chunks ≡ others
same_ring {words = words} {mark = mark} {chunks = chunks} {others = others} ring ring' real real' =
    same_chunks words mark mark chunks others ring.linked ring'.linked (sym ring.begins ∙ ring'.begins) real real'

distinct_if : (b : Bool) (chunks : List ℕ) → AreDistinct chunks → AreDistinct (if b then [] else chunks)
distinct_if true chunks h = tt
distinct_if false chunks h = h

-- the half of a range that has a number
pub half_with : (low half n : ℕ) → low ≤ n → n < low + 2 * half → (side : Bool) × (low_at side low half ≤ n) × (n < low_at side low half + half)
half_with low half n above below = elim (cases_lt n (low + half)) [
  | inl lower ↦ (false, above, lower)
  | inr upper ↦ (true, upper, omega arith)
]

module _ (words : ℕ → ℕ) (bin : ℕ) where
  -- two tries at an address have the same chunks
  same_trie : (index other : ℕ → List ℕ) (parent low levels at : ℕ) → IsTrie words index bin parent low levels at →
      IsTrie words other bin parent low levels at →
      ((n : ℕ) → AreDistinct (index n)) → ((n : ℕ) → AreDistinct (other n)) → (n : ℕ) → low ≤ n → n < low + width levels → index n ≡ other n
  same_trie index other parent low zero at trie trie' once once' n above below = trie.1 n above below ∙ sym (trie'.1 n above below)
  same_trie index other parent low (suc levels) at (inl none) (inl none') once once' n above below = none.1 n above below ∙ sym (none'.1 n above below)
  same_trie index other parent low (suc levels) at (inl none) (inr (node, children)) once once' n above below =
      absurd (let z = none.0 in let s = node.some in omega arith)
  same_trie index other parent low (suc levels) at (inr (node, children)) (inl none) once once' n above below =
      absurd (let z = none.0 in let s = node.some in omega arith)
  same_trie index other parent low (suc levels) at (inr (p, ps)) (inr (q, qs)) once once' n above below =
      let size : p.size ≡ q.size = sym p.head ∙ q.head in
      elim (same_or_not n p.size) [
        | inl here ↦
            let d = subst (λ (cs : List ℕ). AreDistinct cs) p.chunks (once p.size) in
            let d' = subst (λ (cs : List ℕ). AreDistinct cs) q.chunks (once' q.size) in
            let others : p.others ≡ q.others = same_ring p.ring q.ring
            (λ c is same. d.0 (subst (λ x. IsIn x p.others) same is)) (λ c is same. d'.0 (subst (λ x. IsIn x q.others) same is)) in
            ap index here ∙ (p.chunks ∙ (ap (λ (cs : List ℕ). at ∷ cs) others ∙ (sym q.chunks ∙ ap other (sym size ∙ sym here))))
        | inr apart ↦
            let h = half_with low (width levels) n above below in
            let child : q.child h.0 ≡ p.child h.0 = sym (q.child_is h.0) ∙ p.child_is h.0 in
            let theirs = subst (λ a. IsTrie words (without_size q.size other) bin at (low_at h.0 low (width levels)) levels a) child (qs h.0) in
            let below' = same_trie (without_size p.size index) (without_size q.size other) at
            (low_at h.0 low (width levels)) levels (p.child h.0) (ps h.0) theirs
            (λ m. distinct_if (m == p.size) (index m) (once m)) (λ m. distinct_if (m == q.size) (other m) (once' m)) n h.1 h.2 in
            sym (without_other p.size index n apart) ∙ (below' ∙ without_other q.size other n (λ e. apart (e ∙ sym size)))
      ]

-- each size from 256 on has a bin
pub bin_of : (n bin : ℕ) → bin < 32 → (bin < 31 → n < least_size (bin + 1)) → 256 ≤ n → (b : ℕ) × IsTreeIndex n b
bin_of n zero within last large = (zero, record { within = within; reached = large; last = last })
bin_of n (suc b) within last large = elim (cases_lt n (least_size (suc b))) [
  | inr reached ↦ (suc b, record { within = within; reached = reached; last = last })
  | inl less ↦ (let next : suc b ≡ b + 1 = omega arith in bin_of n b (omega arith) (λ few. subst (λ m. n < least_size m) next less) large)
]

module _ (regions : List Grant) (words : ℕ → ℕ) (bins : Bins) where
  -- an index has no chunk of a size that no chunk has
  none_if : {index : ℕ → List ℕ} → IsLinked regions words bins index → (n : ℕ) → ((n % 16 ≡ 0) → n < 2 ^ 64 → ⊥) → index n ≡ []
  none_if {index = index} linked n not = elim (nil_or_some (index n)) [
    | inl none ↦ none
    | inr (chunk, is) ↦ (let c = linked.chunks.each n chunk is in absurd (not c.whole (omega (arith, c.high))))
  ]

  small_one : {index other : ℕ → List ℕ} → IsLinked regions words bins index → IsLinked regions words bins other → (n : ℕ) →
      n < 256 → index n ≡ other n
  small_one {index = index} {other = other} linked linked' n small = elim (same_or_not (n % 8) 0) [
    | inr not ↦ none_if linked n (λ whole few. not (omega arith)) ∙ sym (none_if linked' n (λ whole few. not (omega arith)))
    | inl whole ↦
        let size : 8 * (n / 8) ≡ n = omega arith in
        let same = same_ring (linked.small (n / 8) (omega arith)).ring (linked'.small (n / 8) (omega arith)).ring
        (λ c is e. let h = (linked.chunks.each (8 * (n / 8)) c is).low in omega arith)
        (λ c is e. let h = (linked'.chunks.each (8 * (n / 8)) c is).low in omega arith) in
        ap index (sym size) ∙ (same ∙ ap other size)
  ]

  large_one : {index other : ℕ → List ℕ} → IsLinked regions words bins index → IsLinked regions words bins other → {n b : ℕ} →
      n < 2 ^ 64 → IsTreeIndex n b → index n ≡ other n
  large_one {index = index} {other = other} linked linked' {n = n} {b = b} few in_bin =
      let same = same_trie words b (from (least_size b) index) (from (least_size b) other) (128 + b) (low_of b)
      (levels_of b) (slice_index bins.roots b) (linked.large b in_bin.within).trie (linked'.large b in_bin.within).trie
      (chunks_from (least_size b) linked.chunks).once (chunks_from (least_size b) linked'.chunks).once n (bin_low in_bin) (bin_end few in_bin) in
      sym (from_same (least_size b) index n in_bin.reached) ∙ (same ∙ from_same (least_size b) other n in_bin.reached)

  pub one_index : (index other : ℕ → List ℕ) → IsLinked regions words bins index → IsLinked regions words bins other → (n : ℕ) →
      index n ≡ other n
  one_index index other linked linked' n = elim (cases_lt n 256) [
    | inl small ↦ small_one linked linked' n small
    | inr large ↦ elim (cases_lt n (2 ^ 64)) [
      | inl few ↦ (let b = bin_of n 31 (omega arith) (λ less. absurd (omega arith)) large in large_one linked linked' few b.1)
      | inr many ↦ none_if linked n (λ whole few. omega arith) ∙ sym (none_if linked' n (λ whole few. omega arith))
    ]
  ]
