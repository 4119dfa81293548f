-- The least fit among the large chunks.
use Rattle.std.proofs.Common.{◌≡◌, ◌≢◌, ℕ, zero, suc, ◌+◌, ◌-◌, ◌^◌, ◌<◌, ◌≤◌, ◌⊎◌, inl, inr, List, [], ◌∷◌, refl, sym, ap, subst, ◌∙◌, arith}
use Rattle.std.specs.Prelude.{slice_index, Option, None, Some, MatchOption}
use Rattle.std.specs.Int.{bit_at}
use Rattle.std.proofs.lemmas.Bool.{cases_lt}
use Rattle.heap_memory.specs.declared.grant.Grant.{Grant}
use Rattle.dlmalloc_chunks.specs.Bins.{least_size}
use Rattle.bins.specs.declared.bins.Bins.{Bins}
use Rattle.bins.specs.declared.fit.Fit.{Fit}
use Rattle.bins.specs.Index.{IsIn, first_or, from, IsNone, IsLeastFit}
use Rattle.bins.specs.Tries.{width}
use Rattle.bins.specs.Linked.{IsLinked, low_of, levels_of}
use Rattle.bins.specs.Fits.{IsReadable, IsBestFit, IsLesser, IsSearched}
use Rattle.bins.proofs.Chunks.{same_or_not}
use Rattle.bins.proofs.Lists.{first_in}
use Rattle.bins.proofs.SmallBins.{in_from, least_large}
use Rattle.bins.proofs.Opened.{none_in, empty}
use Rattle.bins.proofs.Placed.{root_in}
use Rattle.bins.proofs.Searching.{none_both}
use Rattle.bins.proofs.TreeRanges.{end_normal, end_last, low_normal, from_same}
use Rattle.bins.proofs.TreeEntry.{chunks_from}

-- A search of one trie, beside which no other is searched, gave this chunk, 0 for none.
abbrev pub IsFoundAlone : (ℕ → List ℕ) → (n high high' chunk : ℕ) → Type 0
IsFoundAlone own n high high' chunk = (IsNone own n high × IsSearched (λ m. []) high high' (2 ^ 64 - 1) 0 chunk) ⊎ IsLesser own n high (2 ^ 64 - 1) 0 chunk

module _ {regions : List Grant} {words : ℕ → ℕ} {bins : Bins} {index : ℕ → List ℕ} (linked : IsLinked regions words bins index) where
  pub read : (bin : ℕ) {root low levels : ℕ} → bin < 32 → root ≡ slice_index bins.roots bin → low ≡ low_of bin → levels ≡ levels_of bin →
      IsReadable regions words (from (least_size bin) index) low levels root
  read bin within root_is low_is levels_is = record {
    bin = bin;
    parent = 128 + bin;
    chunks = chunks_from (least_size bin) linked.chunks;
    large = λ n c is. let r = (in_from (least_size bin) index n c is).1 in let b = least_large bin in omega arith;
    trie = let t = (linked.large bin within).trie in rw (root_is, low_is, levels_is) t;
  }

  -- an index from a size on has none if it has none
  pub none_from : (least a b : ℕ) → least ≤ a → IsNone (from least index) a b → IsNone index a b
  none_from least a b low none n above below = sym (from_same least index n (omega arith)) ∙ none n above below

  -- a bin whose bit is clear has no chunk
  empty_bin : (b : ℕ) → b < 32 → bit_at bins.tree_map b ≡ 0 → IsNone (from (least_size b) index) (low_of b) (low_of b + width (levels_of b))
  empty_bin b within clear =
      let t = linked.large b within in
      elim (same_or_not (slice_index bins.roots b) 0) [
        | inl no_root ↦ none_in words (from (least_size b) index) b (128 + b) (low_of b) (levels_of b) no_root t.trie
        | inr some ↦ absurd (let one = t.marked (omega arith) in omega arith)
      ]

  none_upto : (b d : ℕ) → b + d < 32 → ((other : ℕ) → b ≤ other → other < b + d → bit_at bins.tree_map other ≡ 0) →
      IsNone index (least_size b) (least_size (b + d))
  none_upto b zero within clear = λ n above below. absurd (let e : b + 0 ≡ b = omega arith in let s = ap least_size e in omega (arith, s))
  none_upto b (suc d) within clear =
      let before = none_upto b d (omega arith) (λ other above below. clear other above (omega arith)) in
      let not : b + d ≢ 31 = λ e. omega arith in
      let here = empty_bin (b + d) (omega arith) (clear (b + d) (omega arith) (omega arith)) in
      let l = low_normal (b + d) not in
      let e = end_normal (b + d) not in
      let next : b + d + 1 ≡ b + suc d = omega arith in
      let s = ap least_size next in
      none_both index (least_size b) (least_size (b + d)) (least_size (b + suc d)) before
      (none_from (least_size (b + d)) (least_size (b + d)) (least_size (b + suc d)) (omega arith)
      (λ n above below. here n (omega (arith, l)) (omega (arith, e, s))))

  pub none_between : (b c : ℕ) → b ≤ c → c < 32 → ((other : ℕ) → b ≤ other → other < c → bit_at bins.tree_map other ≡ 0) →
      IsNone index (least_size b) (least_size c)
  none_between b c less within clear =
      let e : b + (c - b) ≡ c = omega arith in
      subst (λ m. IsNone index (least_size b) (least_size m)) e (none_upto b (c - b) (omega arith) (λ other above below. clear other above (omega arith)))

  pub none_above : (b : ℕ) → b < 32 → ((other : ℕ) → b ≤ other → bit_at bins.tree_map other ≡ 0) → IsNone index (least_size b) (2 ^ 64)
  none_above b within clear =
      let l = empty_bin 31 (omega arith) (clear 31 (omega arith)) in
      let e = end_last refl in
      none_both index (least_size b) (least_size 31) (2 ^ 64) (none_between b 31 (omega arith) (omega arith) (λ other above below. clear other above))
      (none_from (least_size 31) (least_size 31) (2 ^ 64) (omega arith) (λ n above below. l n (omega arith) (omega (arith, e))))

  -- the fit of a bin is that of the index
  pub fit_up : (bin n : ℕ) {low high : ℕ} {fit : Fit} → IsNone index n (least_size bin) ⊎ (least_size bin ≤ n) →
      IsBestFit (from (least_size bin) index) low high fit →
      (low ≤ n) ⊎ (low ≤ least_size bin) → (n ≤ least_size bin) ⊎ (n ≤ low) → IsLeastFit index n fit.chunk
  fit_up bin n {fit = fit} before f lower upper =
      let head : IsIn fit.chunk (from (least_size bin) index fit.size) = first_in f.oldest in
      let there = in_from (least_size bin) index fit.size fit.chunk head in
      let big = least_large bin in
      let listed : index fit.size ≡ fit.chunk ∷ f.others = sym (from_same (least_size bin) index fit.size there.1) ∙ f.oldest in
      let above = f.above in
      record {
        size = fit.size;
        enough = elim upper [ inl x ↦ omega (arith, there.1) | inr x ↦ omega arith ];
        least = λ m a b. elim (cases_lt m (least_size bin)) [
          | inl less ↦ elim before [ inl none ↦ none m a less | inr reached ↦ absurd (omega arith) ]
          | inr more ↦ sym (from_same (least_size bin) index m more) ∙ f.least m (elim lower [ inl x ↦ omega arith | inr x ↦ omega arith ]) b
        ];
        binned = there.0;
        newest = λ small. absurd (omega (arith, there.1));
        oldest = λ large. sym (ap (λ (cs : List ℕ). first_or 0 cs) listed);
      }

  -- the lesser of a chunk of a bin and of none is that of the bin
  lesser_is : (bin : ℕ) {low high chunk : ℕ} (l : IsLesser (from (least_size bin) index) low high (2 ^ 64 - 1) 0 chunk) →
      (chunk ≡ l.fit.chunk) × (0 < chunk)
  lesser_is bin l =
      let head : IsIn l.fit.chunk (from (least_size bin) index l.fit.size) = first_in l.is.oldest in
      let there = in_from (least_size bin) index l.fit.size l.fit.chunk head in
      let c = linked.chunks.each l.fit.size l.fit.chunk there.0 in
      let e = l.found (omega (arith, c.high)) in
      (e, omega (arith, e, c.low))

  pub lesser_fit : (bin n : ℕ) {low high chunk : ℕ} → IsNone index n (least_size bin) ⊎ (least_size bin ≤ n) →
      IsLesser (from (least_size bin) index) low high (2 ^ 64 - 1) 0 chunk →
      (low ≤ n) ⊎ (low ≤ least_size bin) → (n ≤ least_size bin) ⊎ (n ≤ low) → IsLeastFit index n chunk
  lesser_fit bin n {low = low} {high = high} {chunk = chunk} before l lower upper =
      subst (λ x. IsLeastFit index n x) (sym (lesser_is bin l).0) (fit_up bin n before l.is lower upper)

  -- what a search of one trie alone gives
  pub alone_some : (bin n high high' chunk : ℕ) → chunk ≢ 0 → IsFoundAlone (from (least_size bin) index) n high high' chunk →
      IsLesser (from (least_size bin) index) n high (2 ^ 64 - 1) 0 chunk
  alone_some bin n high high' chunk real (inr l) = l
  alone_some bin n high high' chunk real (inl (none, inl (nothing, is))) = absurd (real is)
  alone_some bin n high high' chunk real (inl (none, inr l)) = absurd (let e = l.is.oldest in cc)

  pub alone_none : (bin n high high' : ℕ) {chunk : ℕ} → chunk ≡ 0 → IsFoundAlone (from (least_size bin) index) n high high' chunk →
      IsNone (from (least_size bin) index) n high
  alone_none bin n high high' {chunk = chunk} is (inr l) = absurd (let h = (lesser_is bin l).1 in omega arith)
  alone_none bin n high high' is (inl (none, h)) = none

  -- a bin whose bit is set has a chunk
  pub some_there : (bin : ℕ) {root low levels : ℕ} → bin < 32 → bit_at bins.tree_map bin ≡ 1 → root ≡ slice_index bins.roots bin →
      low ≡ low_of bin → levels ≡ levels_of bin →
      IsNone (from (least_size bin) index) low (low + width levels) → ⊥
  some_there bin within set root_is low_is levels_is none =
      let t = linked.large bin within in
      let real : 0 < slice_index bins.roots bin =
      elim (same_or_not (slice_index bins.roots bin) 0) [ inl no_root ↦ absurd (let c = t.clear no_root in omega arith) | inr some ↦ omega arith ] in
      let r = root_in words (from (least_size bin) index) bin (128 + bin) (low_of bin) (levels_of bin) (slice_index bins.roots bin) real t.trie in
      let none' = rw (low_is, levels_is) at none in
      subst (λ (cs : List ℕ). IsIn (slice_index bins.roots bin) cs) (none' r.size r.above r.below) r.is

-- the empty trie may be read
pub nothing_read : (regions : List Grant) (words : ℕ → ℕ) (low levels : ℕ) → IsReadable regions words (λ m. []) low levels 0
nothing_read regions words low levels = record {
  bin = 0;
  parent = 0;
  chunks = record { each = λ n c is. absurd is; apart = λ n c m d is. absurd is; once = λ n. tt };
  large = λ n c is. absurd is;
  trie = empty words (λ m. []) 0 0 low levels (λ m a b. refl);
}

-- a fit from a size on is one from a lesser size on, if nothing lies between
pub fit_further : {index : ℕ → List ℕ} (n : ℕ) {m chunk : ℕ} → n ≤ m → IsNone index n m → IsLeastFit index m chunk →
    IsLeastFit index n chunk
fit_further n {m = m} less none f = record {
  size = f.size;
  enough = let e = f.enough in omega arith;
  least = λ x a b. elim (cases_lt x m) [ inl before ↦ none x a before | inr behind ↦ f.least x behind b ];
  binned = f.binned;
  newest = f.newest;
  oldest = f.oldest;
}

pub match_further : (index : ℕ → List ℕ) (n m high : ℕ) (r : Option ℕ) → n ≤ m → IsNone index n m →
    MatchOption r (IsNone index m high) (λ chunk. IsLeastFit index m chunk) →
    MatchOption r (IsNone index n high) (λ chunk. IsLeastFit index n chunk)
match_further index n m high None less none h = none_both index n m high none h
match_further index n m high (Some chunk) less none h = fit_further n less none h
