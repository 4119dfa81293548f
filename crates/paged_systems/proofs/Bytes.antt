-- Bytes that the walk reaches, as bytes of words.
use Rattle.std.proofs.Common.{◌≡◌, ◌≢◌, ℕ, zero, suc, ◌+◌, ◌-◌, ◌/◌, ◌%◌, ◌^◌, ◌<◌, ◌≤◌, ◌⊎◌, inl, inr, List, [], ◌∷◌, ◌++◌, length, length-set, length-append, get_or, slice_index, slice_set, refl, sym, ap, ◌∙◌, subst, arith, Some, option_map, nat_eq, IsTrue}
use native.Mathlib.Decide.{dec_lt}
use Rattle.std.specs.Int.{w64, to_le_bytes, from_le_bytes}
use Rattle.std.proofs.lemmas.Bool.Decides.{nat_tests}
use Rattle.std.proofs.lemmas.Nat.{le_bytes_8}
use Rattle.std.proofs.lemmas.List.{get_or-set_same, get_or-set_other, get_or_append_left}
use Rattle.std.proofs.Math.Seq.{get_or-append_seam}
use Rattle.paging_core.specs.Memory.{word_at, byte_of}
use Rattle.paging_core.specs.Walk.{walk_of, reached}
use Rattle.heap_memory.specs.Regions.{is_granted, IsWordOf}
use Rattle.heap_memory.specs.Words.{IsStored, with_byte}
use Rattle.machine_model.specs.Machine.{Paged, OnlyHeapBytesChange}
use Rattle.machine_model.proofs.Booleans.{or_cases}
use Rattle.paged_systems.specs.Layout.{IsPagedKept}
use Rattle.paged_systems.specs.Words.{heap_regions, grants_of}
use Rattle.mapped_regions.specs.Mapped.{word_reached}
use Rattle.mapped_regions.proofs.Looked.{le_byte}
use Rattle.paged_systems.specs.Written.{AreHeapBytes, AreRead, AreBytesWritten}
use Rattle.paged_systems.specs.Follows.{still_on}
use Rattle.paged_systems.proofs.Numbers.{lt_or_le, same_or_other}
use Rattle.paged_systems.proofs.HeapRegions.{granted_same, same_page}
use Rattle.paged_systems.proofs.Still.{granted_within, granted_canonical, granted_mapped, kept_still, place_at, word_at_place}

-- ---- bytes of a word

byte_small : (word b : ℕ) → get_or (to_le_bytes w64 word) b 0 < 256
byte_small word b = elim (dec_lt b 8) [ yes less ↦ rw (le_byte word b less) (omega arith) | no more ↦ past word b (omega arith) ]
  where
    past : (word b : ℕ) → 8 ≤ b → get_or (to_le_bytes w64 word) b 0 < 256
    past word (suc (suc (suc (suc (suc (suc (suc (suc b)))))))) more = omega arith
    past word zero more = absurd (omega arith)
    past word (suc zero) more = absurd (omega arith)
    past word (suc (suc zero)) more = absurd (omega arith)
    past word (suc (suc (suc zero))) more = absurd (omega arith)
    past word (suc (suc (suc (suc zero)))) more = absurd (omega arith)
    past word (suc (suc (suc (suc (suc zero))))) more = absurd (omega arith)
    past word (suc (suc (suc (suc (suc (suc zero)))))) more = absurd (omega arith)
    past word (suc (suc (suc (suc (suc (suc (suc zero))))))) more = absurd (omega arith)

-- a word with another byte has this one there, and its other bytes
bytes_with : (word b byte : ℕ) → b < 8 → byte < 256 → to_le_bytes w64 (with_byte word b byte) ≡ slice_set (to_le_bytes w64 word) b byte
unfolding with_byte
bytes_with word b byte less small = le_bytes_8 (slice_set (to_le_bytes w64 word) b byte) (from_le_bytes w64 (slice_set (to_le_bytes w64 word) b byte))
    (length-set (to_le_bytes w64 word) b byte) each refl
  where
    each : (i : ℕ) → get_or (slice_set (to_le_bytes w64 word) b byte) i 0 < 256
    each i = elim (lt_or_le i b) [
      | inl below ↦ rw (get_or-set_other (to_le_bytes w64 word) b i byte 0 (λ e. absurd (omega arith))) (byte_small word i)
      | inr from ↦ elim (lt_or_le b i) [
        | inl above ↦ rw (get_or-set_other (to_le_bytes w64 word) b i byte 0 (λ e. absurd (omega arith))) (byte_small word i)
        | inr to ↦ (let same : b ≡ i = omega arith in
            subst (λ j. get_or (slice_set (to_le_bytes w64 word) b byte) j 0 < 256) same (rw (get_or-set_same (to_le_bytes w64 word) b byte 0 less) small))
      ]
    ]

-- ---- bytes of a system

-- a part of bytes of the regions
pub inside_part : (p : Paged) (address count at n : ℕ) → AreHeapBytes p address count → address ≤ at → at + n ≤ address + count → AreHeapBytes p at n
inside_part p address count at n there from to k above below = there k (omega arith) (omega arith)

-- the first of them is granted
first_granted : (p : Paged) (address : ℕ) → AreHeapBytes p address 1 → IsTrue (is_granted (grants_of p) address)
first_granted p address there = there address (omega arith) (omega arith)

-- its address is a u64
pub inside_below : (p : Paged) (address : ℕ) → IsPagedKept p → AreHeapBytes p address 1 → address < 2 ^ 64
inside_below p address kept there =
    elim (or_cases (nat_eq (address / 2 ^ 47) 0) (nat_eq (address / 2 ^ 47) (2 ^ 17 - 1)) (granted_canonical p address kept (first_granted p address there))) [
      | inl low ↦ (let half : address / 2 ^ 47 ≡ 0 = grind (arith, nat_tests) in omega arith)
      | inr high ↦ (let half : address / 2 ^ 47 ≡ 2 ^ 17 - 1 = grind (arith, nat_tests) in omega arith)
    ]

-- the word of a byte of the regions is granted
pub word_of : (p : Paged) (address : ℕ) → IsPagedKept p → AreHeapBytes p address 1 → IsWordOf (grants_of p) (address - address % 8)
word_of p address kept there = record {
  granted = granted_same (heap_regions p.regions) (address - address % 8)
      ∙ same_page 0 (2 ^ 64) address (address - address % 8) p.regions kept.laid (omega arith) (granted_within p address (first_granted p address there));
  aligned = omega arith;
}

-- the byte that the walk reaches is a byte of its word
pub reached_byte : (p : Paged) (address : ℕ) → IsPagedKept p → AreHeapBytes p address 1 →
    reached p.words p.root address ≡ Some (slice_index (to_le_bytes w64 (word_reached p (address - address % 8))) (address % 8))
reached_byte p address kept there =
    let place = place_at p address (granted_mapped p address address kept (first_granted p address there) refl) in
    let page : (address - address % 8) / 4096 ≡ address / 4096 = omega arith in
    let index : (address - address % 8) % 4096 / 8 ≡ address % 4096 / 8 = omega arith in
    let word : word_reached p (address - address % 8) ≡ word_at p.words place.0.frame (address % 4096 / 8) =
    word_at_place p (address - address % 8) place.0 (ap (walk_of p.words p.root) page ∙ place.1) ∙ ap (word_at p.words place.0.frame) index in
    ap (option_map (λ q. byte_of (word_at p.words q.frame (address % 4096 / 8)) (address % 8))) place.1
    ∙ ap Some (sym (le_byte (word_at p.words place.0.frame (address % 4096 / 8)) (address % 8) (omega arith))
    ∙ ap (λ w. slice_index (to_le_bytes w64 w) (address % 8)) (sym word))

-- it is 0 where its word is
pub zero_reached : (p : Paged) (address : ℕ) → IsPagedKept p → AreHeapBytes p address 1 →
    word_reached p (address - address % 8) ≡ 0 → reached p.words p.root address ≡ Some 0
zero_reached p address kept there is =
    let none : byte_of 0 (address % 8) ≡ 0 = omega arith in
    reached_byte p address kept there ∙ ap Some (ap (λ w. slice_index (to_le_bytes w64 w) (address % 8)) is ∙ (le_byte 0 (address % 8) (omega arith) ∙ none))

-- what a store of a byte does to the bytes
module _ (p new : Paged) (at byte : ℕ) (kept : IsPagedKept p) (still : OnlyHeapBytesChange p new) (here : AreHeapBytes p at 1) (small : byte < 256)
    (stored : IsStored (grants_of p) (word_reached p) (at - at % 8) (with_byte (word_reached p (at - at % 8)) (at % 8) byte) (word_reached new)) where
  moved : (other : ℕ) → AreHeapBytes p other 1 → AreHeapBytes new other 1
  moved other there = subst (λ q. AreHeapBytes q other 1) (sym still.others) there

  pub byte_put : reached new.words new.root at ≡ Some byte
  byte_put =
      reached_byte new at (kept_still p new kept still) (moved at here)
      ∙ ap Some (ap (λ w. slice_index (to_le_bytes w64 w) (at % 8)) stored.here
      ∙ (ap (λ bs. slice_index bs (at % 8)) (bytes_with (word_reached p (at - at % 8)) (at % 8) byte (omega arith) small)
      ∙ get_or-set_same (to_le_bytes w64 (word_reached p (at - at % 8))) (at % 8) byte 0 (omega arith)))

  same_bytes : (other : ℕ) → other ≢ at → ((other - other % 8) ≡ (at - at % 8)) ⊎ ((other - other % 8) ≢ (at - at % 8)) → AreHeapBytes p other 1 →
      slice_index (to_le_bytes w64 (word_reached new (other - other % 8))) (other % 8) ≡ slice_index
      (to_le_bytes w64 (word_reached p (other - other % 8))) (other % 8)
  same_bytes other apart (inl same) there =
      ap (λ a. slice_index (to_le_bytes w64 (word_reached new a)) (other % 8)) same
      ∙ (ap (λ w. slice_index (to_le_bytes w64 w) (other % 8)) stored.here
      ∙ (ap (λ bs. slice_index bs (other % 8)) (bytes_with (word_reached p (at - at % 8)) (at % 8) byte (omega arith) small)
      ∙ (get_or-set_other (to_le_bytes w64 (word_reached p (at - at % 8))) (at % 8) (other % 8) byte 0 (λ e. apart (omega arith))
      ∙ ap (λ a. slice_index (to_le_bytes w64 (word_reached p a)) (other % 8)) (sym same))))
  same_bytes other apart (inr differ) there =
      ap (λ w. slice_index (to_le_bytes w64 w) (other % 8)) (stored.elsewhere (other - other % 8) (word_of p other kept there) differ)

  pub bytes_stay : (other : ℕ) → AreHeapBytes p other 1 → other ≢ at → reached new.words new.root other ≡ reached p.words p.root other
  bytes_stay other there apart =
      reached_byte new other (kept_still p new kept still) (moved other there)
      ∙ (ap Some (same_bytes other apart (same_or_other (other - other % 8) (at - at % 8)) there) ∙ sym (reached_byte p other kept there))

-- one more byte was put
pub written_more : (old mid new : Paged) (address : ℕ) (bytes : List ℕ) (n : ℕ) → IsPagedKept old →
    AreHeapBytes old address (n + 1) → AreBytesWritten old mid address bytes n →
    slice_index bytes n < 256 → OnlyHeapBytesChange mid new →
    IsStored (grants_of mid) (word_reached mid) (address + n - (address + n) % 8)
    (with_byte (word_reached mid (address + n - (address + n) % 8)) ((address + n) % 8) (slice_index bytes n))
    (word_reached new) →
    AreBytesWritten old new address bytes (n + 1)
written_more old mid new address bytes n kept there before small still stored = record {
  still = still_on old mid new before.still still;
  here = λ k less. (elim (lt_or_le k n) [
    | inl earlier ↦ bytes_stay mid new (address + n) (slice_index bytes n) kept_mid still last_in small stored (address + k)
        (mid_in (address + k) (inside_part old address (n + 1) (address + k) 1 there (omega arith) (omega arith)))
        (λ e. absurd (omega arith))
        ∙ before.here k earlier
    | inr last ↦ (let same : n ≡ k = omega arith in
        subst (λ j. reached new.words new.root (address + j) ≡ Some (slice_index bytes j)) same
        (byte_put mid new (address + n) (slice_index bytes n) kept_mid still last_in small stored))
  ]);
  elsewhere = λ other is beside. (
      bytes_stay mid new (address + n) (slice_index bytes n) kept_mid still last_in small stored other (mid_in other is) (differs other beside)
      ∙ before.elsewhere other is (elim beside [ inl below ↦ inl below | inr above ↦ inr (omega arith) ]));
  words = λ k word beside. (
      let same : grants_of mid ≡ grants_of old = ap grants_of before.still.others in
      stored.elsewhere k (subst (λ gs. IsWordOf gs k) (sym same) word) (λ e. elim beside [ inl below ↦ omega arith | inr above ↦ omega arith ])
      ∙ before.words k word (elim beside [ inl below ↦ inl below | inr above ↦ inr (omega arith) ]));
}
  where
    kept_mid : IsPagedKept mid
    kept_mid = kept_still old mid kept before.still

    mid_in : (a : ℕ) → AreHeapBytes old a 1 → AreHeapBytes mid a 1
    mid_in a is = subst (λ q. AreHeapBytes q a 1) (sym before.still.others) is

    last_in : AreHeapBytes mid (address + n) 1
    last_in = mid_in (address + n) (inside_part old address (n + 1) (address + n) 1 there (omega arith) (omega arith))

    differs : (other : ℕ) → (other < address) ⊎ (address + (n + 1) ≤ other) → other ≢ address + n
    differs other (inl below) e = absurd (omega arith)
    differs other (inr above) e = absurd (omega arith)

-- one more byte was read
pub read_more : (p : Paged) (address n : ℕ) (bytes : List ℕ) (byte : ℕ) → IsPagedKept p → AreHeapBytes p address (n + 1) → AreRead p address n bytes →
    byte ≡ slice_index (to_le_bytes w64 (word_reached p (address + n - (address + n) % 8))) ((address + n) % 8) → AreRead p address (n + 1) (bytes ++ byte ∷ [])
read_more p address n bytes byte kept there before is = record {
  many = length-append bytes (byte ∷ []) ∙ (let m = before.many in omega arith);
  each = λ k less. elim (lt_or_le k n) [
    | inl earlier ↦ before.each k earlier ∙ ap Some (sym (get_or_append_left bytes (byte ∷ []) 0 k (let m = before.many in omega arith)))
    | inr last ↦ (let same : n ≡ k = omega arith in
        let many : length bytes ≡ n = before.many in
        subst (λ j. reached p.words p.root (address + j) ≡ Some (slice_index (bytes ++ byte ∷ []) j)) same
        (reached_byte p (address + n) kept (inside_part p address (n + 1) (address + n) 1 there (omega arith) (omega arith))
        ∙ ap Some (sym is ∙ subst (λ j. byte ≡ slice_index (bytes ++ byte ∷ []) j) many (sym (get_or-append_seam bytes byte [] 0)))))
  ];
}
