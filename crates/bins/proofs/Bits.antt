-- Halving a range of sizes follows the bits of a size.
use Rattle.std.proofs.Common.{◌≡◌, ◌≢◌, ℕ, zero, suc, ◌+◌, ◌-◌, ◌*◌, ◌/◌, ◌%◌, ◌^◌, ◌<◌, ◌≤◌, inl, inr, Bool, true, false, List, [], ◌∷◌, sym, ap, ◌∙◌, arith}
use Rattle.std.specs.Prelude.{◌==◌, if◌then◌else◌, slice_index, nat_le}
use Rattle.std.proofs.lemmas.Bool.{cases_lt}
use Rattle.std.proofs.lemmas.Bool.Decides.{nat_tests}
use Rattle.std.proofs.Math.Nat.{add-mul}
use Rattle.heap_memory.specs.declared.grant.Grant.{Grant}
use Rattle.dlmalloc_chunks.specs.Bins.{least_size, IsTreeIndex}
use Rattle.bins.specs.declared.bins.Bins.{Bins}
use Rattle.bins.specs.Index.{IsIn, first_or, without_size, from}
use Rattle.bins.specs.Tries.{slot, low_at, width, IsTrie}
use Rattle.bins.specs.Linked.{IsLinked, low_of, levels_of}
use Rattle.bins.specs.Laws.{sides_of, node_at, shift_of}
use Rattle.bins.proofs.Chunks.{same_or_not}
use Rattle.bins.proofs.Lists.{without_other, first_in}
use Rattle.bins.proofs.Scaled.{scaled_below, range_scaled, word_is}
use Rattle.bins.proofs.TreeRanges.{levels_normal, levels_last, levels_few, low_scaled, bin_low, bin_end, from_same}

-- The half of a range that has a number, and the number in it. The range is scaled to that of 64-bit words: then the top
-- bit says which half, and the other bits, shifted by one, are the number in it.
record IsHalf (offset half scale : ℕ) : Type 0 where
  side : Bool
  less : ℕ
  place : offset ≡ low_at side 0 half + less
  within : less < half
  bit : nat_le (2 ^ 63) (offset * scale) ≡ side
  rest : 2 * (offset * scale) % 2 ^ 64 ≡ less * (2 * scale)

half_of : (offset half scale : ℕ) → offset < 2 * half → half * scale ≡ 2 ^ 63 → IsHalf offset half scale
half_of offset half scale within scaled = elim (cases_lt offset half) [
  | inl lower ↦
      let below = scaled_below offset half scale lower scaled in
      record {
        side = false;
        less = offset;
        place = omega arith;
        within = lower;
        bit = grind (arith, nat_tests);
        rest = let e : offset * (2 * scale) ≡ 2 * (offset * scale) = omega arith in omega arith;
      }
  | inr upper ↦
      let below = scaled_below (offset - half) half scale (omega arith) scaled in
      let p : offset ≡ half + (offset - half) = omega arith in
      let e : offset * scale ≡ (half + (offset - half)) * scale = ap (λ x. x * scale) p in
      let d : (half + (offset - half)) * scale ≡ half * scale + (offset - half) * scale = add-mul half (offset - half) scale in
      let least : 2 ^ 63 ≤ offset * scale = omega arith in
      let twice : (offset - half) * (2 * scale) ≡ 2 * ((offset - half) * scale) = omega arith in
      record {
        side = true;
        less = offset - half;
        place = omega arith;
        within = omega arith;
        bit = grind (arith, nat_tests);
        rest = omega arith;
      }
]

low_is : (side : Bool) (low half : ℕ) → low_at side low half ≡ low + low_at side 0 half
low_is false low half = omega arith
low_is true low half = omega arith

head_same : (first first' : ℕ) (rest rest' : List ℕ) → first ∷ rest ≡ first' ∷ rest' → first ≡ first'
head_same first first' rest rest' is = ap (λ (cs : List ℕ). first_or 0 cs) is

module _ (words : ℕ → ℕ) (bin n chunk : ℕ) (others : List ℕ) where
  -- a size's oldest chunk is where its bits lead in a range
  lead : (index : ℕ → List ℕ) (parent low levels at offset scale : ℕ) → IsTrie words index bin parent low levels at →
      width levels * scale ≡ 2 ^ 64 →
      n ≡ low + offset → offset < width levels → index n ≡ chunk ∷ others →
      (depth : ℕ) × (depth < levels) × (node_at words at (sides_of (offset * scale) depth) ≡ chunk)
  lead index parent low zero at offset scale (root, none) scaled place within listed =
      absurd (let e : [] ≡ chunk ∷ others = sym (none n (omega arith) (omega arith)) ∙ listed in cc)
  lead index parent low (suc levels) at offset scale (inl (root, none)) scaled place within listed =
      absurd (let e : [] ≡ chunk ∷ others = sym (none n (omega arith) (omega arith)) ∙ listed in cc)
  lead index parent low (suc levels) at offset scale (inr (node, children)) scaled place within listed = elim (same_or_not n node.size) [
    | inl here ↦ (zero, omega arith, head_same at chunk node.others others (sym node.chunks ∙ (ap index (sym here) ∙ listed)))
    | inr apart ↦
        let h = half_of offset (width levels) scale within (omega arith) in
        let below = lead (without_size node.size index) at (low_at h.side low (width levels)) levels (node.child h.side)
        h.less (2 * scale) (children h.side) (omega arith)
        (let l = low_is h.side low (width levels) in omega (arith, h.place)) h.within (without_other node.size index n apart ∙ listed) in (
          suc below.0,
          (let d = below.1 in omega arith),
          ap (λ b. node_at words (words (at + slot b)) (sides_of (2 * (offset * scale) % 2 ^ 64) below.0)) h.bit
              ∙ (ap (λ a. node_at words a (sides_of (2 * (offset * scale) % 2 ^ 64) below.0)) (node.child_is h.side)
              ∙ (ap (λ w. node_at words (node.child h.side) (sides_of w below.0)) h.rest
              ∙ below.2)),
        )
  ]

shift_normal : (b : ℕ) → b ≢ 31 → shift_of b ≡ 57 - b / 2
shift_normal b not = let e : (b == 31) ≡ false = grind (arith, nat_tests) in ap (λ c. if c then 0 else 57 - b / 2) e

shift_last : {b : ℕ} → b ≡ 31 → shift_of b ≡ 0
shift_last is = ap shift_of is

shift_is : (b : ℕ) → shift_of b ≡ 61 - levels_of b
shift_is b = elim (same_or_not b 31) [
  | inl is ↦ shift_last is ∙ (let l = levels_last is in omega (arith, l))
  | inr not ↦ shift_normal b not ∙ (let l = levels_normal b not in omega (arith, l))
]

-- the range of a bin, scaled to that of 64-bit words
bin_scaled : (b : ℕ) → b < 32 → width (levels_of b) * 2 ^ shift_of b ≡ 2 ^ 64
bin_scaled b within = ap (λ n. width (levels_of b) * 2 ^ n) (shift_is b) ∙ range_scaled (levels_of b) (levels_few b within)

-- where a bin begins, scaled: a multiple of 2 ^ 64
begin_scaled : (b : ℕ) → b < 32 → low_of b * 2 ^ shift_of b % 2 ^ 64 ≡ 0
begin_scaled b within = ap (λ n. low_of b * 2 ^ n % 2 ^ 64) (shift_is b) ∙ low_scaled b within

pub bits_lead : (regions : List Grant) (words : ℕ → ℕ) (bins : Bins) (index : ℕ → List ℕ) → IsLinked regions words bins index →
    (size bin chunk : ℕ) (others : List ℕ) → IsTreeIndex size bin → index size ≡ chunk ∷ others →
    (depth : ℕ) × (depth < levels_of bin) × (node_at words (slice_index bins.roots bin) (sides_of (size * 2 ^ shift_of bin % 2 ^ 64) depth) ≡ chunk)
bits_lead regions words bins index linked size bin chunk others in_bin listed =
    let is : IsIn chunk (index size) = first_in listed in
    let high = (linked.chunks.each size chunk is).high in
    let low = bin_low in_bin in
    let end = bin_end (omega arith) in_bin in
    let offset : ℕ = size - low_of bin in
    let found = lead words bin size chunk others (from (least_size bin) index) (128 + bin) (low_of bin) (levels_of bin)
    (slice_index bins.roots bin) (size - low_of bin) (2 ^ shift_of bin)
    (linked.large bin in_bin.within).trie (bin_scaled bin in_bin.within) (omega arith) (omega arith)
    (from_same (least_size bin) index size in_bin.reached ∙ listed) in
    let word = word_is (low_of bin) (size - low_of bin) (2 ^ shift_of bin) (width (levels_of bin)) (omega arith)
    (omega arith) (begin_scaled bin in_bin.within) (bin_scaled bin in_bin.within) in
    (found.0, found.1, ap (λ w. node_at words (slice_index bins.roots bin) (sides_of w found.0)) word ∙ found.2)
