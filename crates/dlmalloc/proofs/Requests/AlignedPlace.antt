-- The aligned place in a chunk.
use Rattle.dlmalloc.proofs.Names.{◌≡◌, ℕ, ◌+◌, ◌-◌, ◌/◌, ◌%◌, ◌<◌, ◌≤◌, ◌⊎◌, inl, inr, Bool, true, false, ◌==◌, nat_le, if◌then◌else◌, refl, ◌∙◌, ap, arith, IsPowerOfTwo, mul-mod_left, nat_tests, round_up, aligned_place}
use Rattle.std.proofs.Math.Nat.{mod-add-div', mod-lt, add-mod_right}
use Rattle.dlmalloc.proofs.Extents.Lookup.{nat_is}
use Rattle.dlmalloc.proofs.Requests.Granularity.{granularity_whole, asked_whole}

-- a place is at or above another, with nothing or at least 32 bytes between them, and not much, and its block is aligned
pub record IsAlignedPlace (at align place : ℕ) : Type 0 where
  pub low : at ≤ place
  pub lead : (place ≡ at) ⊎ (at + 32 ≤ place)
  pub high : place ≤ at + align + 32
  pub whole : place % 16 ≡ 0
  pub aligned : (place + 16) % align ≡ 0

module _ (at align : ℕ) (power : IsPowerOfTwo align) (large : 16 < align) (whole : at % 16 ≡ 0) where
  abbrev first : ℕ
  first = round_up (at + 16) align

  parts : (at + 16 + (align - 1)) % align + first ≡ at + 16 + (align - 1)
  parts = mod-add-div' (at + 16 + (align - 1)) align

  less : (at + 16 + (align - 1)) % align < align
  less = mod-lt (at + 16 + (align - 1)) (omega arith)

  -- it is a multiple, at least and not far from what is rounded up
  pub first_low : at + 16 ≤ first
  first_low = omega (arith, parts, less)

  pub first_high : first ≤ at + 16 + (align - 1)
  first_high = omega (arith, parts)

  units : align % 16 ≡ 0
  units = granularity_whole align power (omega arith)

  first_whole : first % 16 ≡ 0
  first_whole = asked_whole (at + 16) align power (omega arith)

  first_aligned : first % align ≡ 0
  first_aligned = mul-mod_left ((at + 16 + (align - 1)) / align) align

  pub is_place : IsAlignedPlace at align (aligned_place at align)
  is_place = go ((at + 16) % align == 0) refl (nat_le first (at + 48)) refl
    where
      go : (b : Bool) → ((at + 16) % align == 0) ≡ b → (s : Bool) → nat_le first (at + 48) ≡ s →
          IsAlignedPlace at align (if b then at else if s then first + align - 16 else first - 16)
      go true is s short = record {
        low = omega arith;
        lead = inl refl;
        high = omega arith;
        whole = whole;
        aligned = nat_is is;
      }
      go false is true short =
          let few : first ≤ at + 48 = grind (arith, nat_tests) in
          let again : first + align - 16 + 16 ≡ first + align = omega arith in
          record {
            low = omega (arith, first_low);
            lead = inr (omega (arith, first_low, units));
            high = omega arith;
            whole = omega (arith, first_low, units, first_whole);
            aligned = ap (λ n. n % align) again ∙ (add-mod_right first align ∙ first_aligned);
          }
      go false is false far =
          let more : at + 48 < first = grind (arith, nat_tests) in
          let again : first - 16 + 16 ≡ first = omega arith in
          record {
            low = omega arith;
            lead = inr (omega arith);
            high = omega (arith, first_high);
            whole = omega (arith, first_whole);
            aligned = ap (λ n. n % align) again ∙ first_aligned;
          }
