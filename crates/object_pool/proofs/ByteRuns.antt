-- Runs of bytes that are read and written one behind the other, and the bytes of whole words.
use Rattle.std.proofs.Common.{◌≡◌, ◌≢◌, ℕ, zero, suc, ◌+◌, ◌-◌, ◌%◌, ◌<◌, ◌≤◌, ◌⊎◌, inl, inr, List, [], ◌∷◌, ◌++◌, length, length-set, get_or, take, drop, slice_index, slice_set, refl, sym, ap, ◌∙◌, subst, arith, IsTrue}
use Rattle.std.specs.Int.{w64, to_le_bytes, from_le_bytes}
use Rattle.std.proofs.lemmas.Nat.{le_bytes_8}
use Rattle.std.proofs.lemmas.List.{get_or-set_same, get_or-set_other, get_or-take, get_or-drop, get_or_past}
use Rattle.heap_memory.specs.declared.grant.Grant.{Grant}
use Rattle.heap_memory.specs.Regions.{is_granted, are_whole}
use Rattle.heap_memory.specs.Words.{IsStored, with_byte}
use Rattle.object_pool.specs.Bytes.{byte_in, bytes_at, AreGranted, IsWritten}
use Rattle.object_pool.proofs.Granted.{word_of, granted_part}
use Rattle.object_pool.proofs.Numbers.{lt_or_le, same_or_other}

-- ---- bytes of a word

byte_small : (word b : ℕ) → get_or (to_le_bytes w64 word) b 0 < 256
byte_small word zero = omega arith
byte_small word (suc zero) = omega arith
byte_small word (suc (suc zero)) = omega arith
byte_small word (suc (suc (suc zero))) = omega arith
byte_small word (suc (suc (suc (suc zero)))) = omega arith
byte_small word (suc (suc (suc (suc (suc zero))))) = omega arith
byte_small word (suc (suc (suc (suc (suc (suc zero)))))) = omega arith
byte_small word (suc (suc (suc (suc (suc (suc (suc zero))))))) = omega arith
byte_small word (suc (suc (suc (suc (suc (suc (suc (suc b)))))))) = omega arith

-- a word with another byte has this one there, and its other bytes
bytes_with : (word b byte : ℕ) → b < 8 → byte < 256 → to_le_bytes w64 (with_byte word b byte) ≡ slice_set (to_le_bytes w64 word) b byte
unfolding with_byte
bytes_with word b byte less small = le_bytes_8 (slice_set (to_le_bytes w64 word) b byte) (from_le_bytes w64 (slice_set (to_le_bytes w64 word) b byte))
    (length-set (to_le_bytes w64 word) b byte) each refl
  where
    each : (i : ℕ) → get_or (slice_set (to_le_bytes w64 word) b byte) i 0 < 256
    each i = elim (same_or_other i b) [
      | inr other ↦ rw (get_or-set_other (to_le_bytes w64 word) b i byte 0 other) (byte_small word i)
      | inl same ↦ subst (λ j. get_or (slice_set (to_le_bytes w64 word) b byte) j 0 < 256) (sym same)
          (rw (get_or-set_same (to_le_bytes w64 word) b byte 0 less) small)
    ]

-- the bytes of the word of eight bytes
pub word_bytes : (bytes run : List ℕ) (result place : ℕ) → ((i : ℕ) → i < length bytes → get_or bytes i 0 < 256) →
    length run ≡ 8 → place + 8 ≤ length bytes → run ≡ take (place + 8 - place) (drop place bytes) →
    result ≡ from_le_bytes w64 run → (k : ℕ) → k < 8 → get_or (to_le_bytes w64 result) k 0 ≡ get_or bytes (place + k) 0
word_bytes bytes run result place small len fits is value k less = ap (λ xs. get_or xs k 0) (le_bytes_8 run result len low value) ∙ each k less
  where
    each : (i : ℕ) → i < 8 → get_or run i 0 ≡ get_or bytes (place + i) 0
    each i below = ap (λ xs. get_or xs i 0) is ∙ (get_or-take (place + 8 - place) (drop place bytes) i 0 (omega arith) ∙ get_or-drop place bytes i 0)

    low : (i : ℕ) → get_or run i 0 < 256
    low i = elim (lt_or_le i 8) [
      | inl below ↦ rw (each i below) (small (place + i) (omega arith))
      | inr past ↦ rw (get_or_past run i 0 (omega arith)) (omega arith)
    ]

-- ---- a byte or a word is stored

module _ (regions : List Grant) (whole : IsTrue (are_whole regions)) (old new : ℕ → ℕ) where
  module _ (at byte : ℕ) (small : byte < 256) (stored : IsStored regions old (at - at % 8) (with_byte (old (at - at % 8)) (at % 8) byte) new) where
    byte_put : byte_in new at ≡ byte
    byte_put =
        ap (λ w. slice_index (to_le_bytes w64 w) (at % 8)) stored.here
        ∙ (ap (λ bs. slice_index bs (at % 8)) (bytes_with (old (at - at % 8)) (at % 8) byte (omega arith) small)
        ∙ get_or-set_same (to_le_bytes w64 (old (at - at % 8))) (at % 8) byte 0 (omega arith))

    same_bytes : (other : ℕ) → other ≢ at → ((other - other % 8) ≡ (at - at % 8)) ⊎ ((other - other % 8) ≢ (at - at % 8)) →
        IsTrue (is_granted regions other) → byte_in new other ≡ byte_in old other
    same_bytes other apart (inl same) there =
        ap (λ a. slice_index (to_le_bytes w64 (new a)) (other % 8)) same
        ∙ (ap (λ w. slice_index (to_le_bytes w64 w) (other % 8)) stored.here
        ∙ (ap (λ bs. slice_index bs (other % 8)) (bytes_with (old (at - at % 8)) (at % 8) byte (omega arith) small)
        ∙ (get_or-set_other (to_le_bytes w64 (old (at - at % 8))) (at % 8) (other % 8) byte 0 (λ e. apart (omega arith))
        ∙ ap (λ a. slice_index (to_le_bytes w64 (old a)) (other % 8)) (sym same))))
    same_bytes other apart (inr differ) there =
        ap (λ w. slice_index (to_le_bytes w64 w) (other % 8)) (stored.elsewhere (other - other % 8) (word_of regions other whole there) differ)

    byte_written : (bytes : List ℕ) → byte ≡ slice_index bytes 0 → IsWritten regions old at bytes 1 new
    byte_written bytes is = record {
      here = λ k less. (let zero_is : 0 ≡ k = omega arith in let place : at ≡ at + k = omega arith in
          subst (λ a. byte_in new a ≡ slice_index bytes k) place (subst (λ j. byte_in new at ≡ slice_index bytes j) zero_is
          (byte_put ∙ is)));
      elsewhere = λ k there beside. same_bytes k (λ e. elim beside [
        | inl low ↦ absurd (omega arith)
        | inr high ↦ absurd
            (omega arith)
      ]) (same_or_other (k - k % 8) (at - at % 8)) there;
      words = λ k word beside. stored.elsewhere k word (λ e. (let aligned = word.aligned in
          elim beside [ inl low ↦ absurd (omega arith) | inr high ↦ absurd (omega arith) ]));
    }

  -- a stored word is its eight bytes
  pub word_written : (at value : ℕ) → at % 8 ≡ 0 → IsStored regions old at value new → IsWritten regions old at (to_le_bytes w64 value) 8 new
  word_written at value aligned stored = record {
    here = λ k less.
        let place : at + k - (at + k) % 8 ≡ at = omega arith in
        let byte : (at + k) % 8 ≡ k = omega arith in
        ap (λ a. slice_index (to_le_bytes w64 (new a)) ((at + k) % 8)) place
        ∙ (ap (λ b. slice_index (to_le_bytes w64 (new at)) b) byte ∙ ap (λ w. slice_index (to_le_bytes w64 w) k) stored.here);
    elsewhere = λ k there beside.
        let apart : k - k % 8 ≢ at = λ e. elim beside [ inl low ↦ absurd (omega arith) | inr high ↦ absurd (omega arith) ] in
        ap (λ w. slice_index (to_le_bytes w64 w) (k % 8)) (stored.elsewhere (k - k % 8) (word_of regions k whole there) apart);
    words = λ k word beside. stored.elsewhere k word (λ e. elim beside [ inl low ↦ absurd (omega arith) | inr high ↦ absurd (omega arith) ]);
  }

-- ---- what is written

pub written_none : (regions : List Grant) (words : ℕ → ℕ) (at : ℕ) (bytes : List ℕ) → IsWritten regions words at bytes 0 words
written_none regions words at bytes = record {
  here = λ k less. absurd (omega arith);
  elsewhere = λ k there beside. refl;
  words = λ k word beside. refl;
}

-- behind n bytes a part was written
pub written_on : (regions : List Grant) (old mid new : ℕ → ℕ) (at n m : ℕ) (bytes part : List ℕ) →
    AreGranted regions at (n + m) → IsWritten regions old at bytes n mid → IsWritten regions mid (at + n) part m new →
    ((k : ℕ) → k < m → slice_index part k ≡ slice_index bytes (n + k)) → IsWritten regions old at bytes (n + m) new
written_on regions old mid new at n m bytes part there before after same = record {
  here = λ k less. elim (lt_or_le k n) [
    | inl earlier ↦ after.elsewhere (at + k) (there (at + k) (omega arith) (omega arith)) (inl (omega arith)) ∙ before.here k earlier
    | inr later ↦ (let back : n + (k - n) ≡ k = omega arith in
        subst (λ j. byte_in new (at + j) ≡ slice_index bytes j) back (later_here (k - n) (omega arith)))
  ];
  elsewhere = λ k granted beside.
      after.elsewhere k granted (elim beside [ inl low ↦ inl (omega arith) | inr high ↦ inr (omega arith) ])
      ∙ before.elsewhere k granted (elim beside [ inl low ↦ inl low | inr high ↦ inr (omega arith) ]);
  words = λ k word beside.
      after.words k word (elim beside [ inl low ↦ inl (omega arith) | inr high ↦ inr (omega arith) ])
      ∙ before.words k word (elim beside [ inl low ↦ inl low | inr high ↦ inr (omega arith) ]);
}
  where
    later_here : (j : ℕ) → j < m → byte_in new (at + (n + j)) ≡ slice_index bytes (n + j)
    later_here j less =
        let place : at + n + j ≡ at + (n + j) = omega arith in
        ap (byte_in new) (sym place) ∙ (after.here j less ∙ same j less)

-- one more byte was written
pub written_more : (regions : List Grant) (whole : IsTrue (are_whole regions)) (old mid new : ℕ → ℕ) (at : ℕ)
    (bytes : List ℕ) (n : ℕ) → AreGranted regions at (n + 1) → IsWritten regions old at bytes n mid →
    slice_index bytes n < 256 → IsStored regions mid (at + n - (at + n) % 8)
    (with_byte (mid (at + n - (at + n) % 8)) ((at + n) % 8) (slice_index bytes n)) new →
    IsWritten regions old at bytes (n + 1) new
written_more regions whole old mid new at bytes n there before small stored =
    written_on regions old mid new at n 1 bytes (slice_index bytes n ∷ []) there before
    (byte_written regions whole mid new (at + n) (slice_index bytes n) small stored (slice_index bytes n ∷ []) refl)
    (λ k less. (let zero_is : 0 ≡ k = omega arith in let place : n ≡ n + k = omega arith in
    subst (λ j. slice_index (slice_index bytes n ∷ []) j ≡ slice_index bytes (n + k)) zero_is
    (ap (slice_index bytes) place)))

-- a part at the front was written
written_front : (regions : List Grant) (old new : ℕ → ℕ) (at n : ℕ) (bytes part : List ℕ) →
    IsWritten regions old at part n new → ((k : ℕ) → k < n → slice_index part k ≡ slice_index bytes k) →
    IsWritten regions old at bytes n new
written_front regions old new at n bytes part w same = record {
  here = λ k less. w.here k less ∙ same k less;
  elsewhere = w.elsewhere;
  words = w.words;
}

-- two parts were written, one behind the other
pub written_parts : (regions : List Grant) (old mid new : ℕ → ℕ) (at n : ℕ) (bytes first last : List ℕ) →
    AreGranted regions at (length bytes) → first ≡ take n bytes → last ≡ drop n bytes →
    length first ≡ n → length last + n ≡ length bytes → IsWritten regions old at first (length first) mid →
    IsWritten regions mid (at + length first) last (length last) new → IsWritten regions old at bytes (length bytes) new
written_parts regions old mid new at n bytes first last there is_first is_last front back before after =
    let all : n + length last ≡ length bytes = omega arith in
    subst (λ m. IsWritten regions old at bytes m new) all
    (written_on regions old mid new at n (length last) bytes last (granted_part regions at (length bytes) at
    (n + length last) there (omega arith) (omega arith))
    (written_front regions old mid at n bytes first (subst (λ m. IsWritten regions old at first m mid) front before)
    (λ k less. ap (λ xs. get_or xs k 0) is_first ∙ get_or-take n bytes k 0 less))
    (subst (λ j. IsWritten regions mid (at + j) last (length last) new) front after)
    (λ k less. ap (λ xs. get_or xs k 0) is_last ∙ get_or-drop n bytes k 0))

-- ---- what is read

-- bytes from an address on, and others behind them
pub bytes_on : (words : ℕ → ℕ) (at n m : ℕ) → bytes_at words at (n + m) ≡ bytes_at words at n ++ bytes_at words (at + n) m
bytes_on words at zero m =
    let none : 0 + m ≡ m = omega arith in
    let place : at ≡ at + 0 = omega arith in
    ap (bytes_at words at) none ∙ ap (λ a. bytes_at words a m) place
bytes_on words at (suc n) m =
    let more : suc n + m ≡ suc (n + m) = omega arith in
    let place : at + 1 + n ≡ at + suc n = omega arith in
    ap (bytes_at words at) more ∙ ap (λ (bs : List ℕ). byte_in words at ∷ bs)
    (bytes_on words (at + 1) n m ∙ ap (λ a. bytes_at words (at + 1) n ++ bytes_at words a m) place)

-- bytes that were read in two parts
pub bytes_parts : (words : ℕ → ℕ) (at n m count : ℕ) (first last : List ℕ) → n + m ≡ count → first ≡ bytes_at words at n →
    last ≡ bytes_at words (at + n) m → first ++ last ≡ bytes_at words at count
bytes_parts words at n m count first last sum front back = rw (front, back) (sym (bytes_on words at n m) ∙ ap (bytes_at words at) sum)

both : {a b : ℕ} {xs ys : List ℕ} → a ≡ b → xs ≡ ys → a ∷ xs ≡ b ∷ ys
both first rest i = first i ∷ rest i

-- bytes are as they were where each of them is
pub bytes_same : (old new : ℕ → ℕ) (at n : ℕ) → ((k : ℕ) → k < n → byte_in new (at + k) ≡ byte_in old (at + k)) → bytes_at new at n ≡ bytes_at old at n
bytes_same old new at zero same = refl
bytes_same old new at (suc n) same =
    let start : at + 0 ≡ at = omega arith in
    let here : byte_in new at ≡ byte_in old at = subst (λ a. byte_in new a ≡ byte_in old a) start (same 0 (omega arith)) in
    both here (bytes_same old new (at + 1) n (λ k less. (let place : at + suc k ≡ at + 1 + k = omega arith in
    subst (λ a. byte_in new a ≡ byte_in old a) place (same (suc k) (omega arith)))))

-- bytes that were written are read
pub bytes_are : (words : ℕ → ℕ) (at : ℕ) (bytes : List ℕ) → ((k : ℕ) → k < length bytes →
    byte_in words (at + k) ≡ slice_index bytes k) → bytes_at words at (length bytes) ≡ bytes
bytes_are words at [] here = refl
bytes_are words at (byte ∷ bytes) here =
    let start : at + 0 ≡ at = omega arith in
    let first : byte_in words at ≡ byte = subst (λ a. byte_in words a ≡ byte) start (here 0 (omega arith)) in
    both first (bytes_are words (at + 1) bytes (λ k less. (let place : at + suc k ≡ at + 1 + k = omega arith in
    subst (λ a. byte_in words a ≡ slice_index bytes k) place (here (suc k) (omega arith)))))

-- a whole word has eight bytes
pub word_read : (words : ℕ → ℕ) (at : ℕ) → at % 8 ≡ 0 → bytes_at words at 8 ≡ to_le_bytes w64 (words at)
word_read words at aligned = bytes_are words at (to_le_bytes w64 (words at)) (λ k less.
    let place : at + k - (at + k) % 8 ≡ at = omega arith in
    let byte : (at + k) % 8 ≡ k = omega arith in
    ap (λ a. slice_index (to_le_bytes w64 (words a)) ((at + k) % 8)) place ∙ ap (λ b. slice_index (to_le_bytes w64 (words at)) b) byte)
