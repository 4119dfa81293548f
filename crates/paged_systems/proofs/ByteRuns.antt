-- Runs of bytes that are read and written one behind the other, and the bytes of whole words.
use Rattle.std.proofs.Common.{◌≡◌, ◌≢◌, ℕ, ◌+◌, ◌-◌, ◌%◌, ◌<◌, ◌≤◌, inl, inr, List, ◌++◌, length, length-append, get_or, take, drop, slice_index, refl, sym, ap, ◌∙◌, subst, arith, Some}
use Rattle.std.specs.Int.{w64, to_le_bytes, from_le_bytes}
use Rattle.std.proofs.lemmas.Nat.{le_bytes_8}
use Rattle.std.proofs.lemmas.List.{get_or_append_left, get_or-append_right, get_or-take, get_or-drop, get_or_past}
use Rattle.paging_core.specs.Walk.{reached}
use Rattle.heap_memory.specs.Regions.{IsWordOf}
use Rattle.heap_memory.specs.Words.{IsStored}
use Rattle.machine_model.specs.Machine.{Paged, OnlyHeapBytesChange}
use Rattle.paged_systems.specs.Layout.{IsPagedKept}
use Rattle.paged_systems.specs.Words.{grants_of}
use Rattle.mapped_regions.specs.Mapped.{word_reached}
use Rattle.paged_systems.specs.Written.{AreHeapBytes, AreRead, AreBytesWritten}
use Rattle.paged_systems.specs.Follows.{still_none, still_on}
use Rattle.paged_systems.proofs.Numbers.{lt_or_le}
use Rattle.paged_systems.proofs.Still.{kept_still}
use Rattle.paged_systems.proofs.Bytes.{inside_part, word_of, reached_byte}

pub still_inside : (old new : Paged) (address count : ℕ) → OnlyHeapBytesChange old new → AreHeapBytes old address count → AreHeapBytes new address count
still_inside old new address count still there =
    subst (λ q. AreHeapBytes q address count) (sym still.others) there

-- a word stands at a multiple of 8 that lies inside
pub word_there : (p : Paged) (at : ℕ) → IsPagedKept p → AreHeapBytes p at 1 → at % 8 ≡ 0 → IsWordOf (grants_of p) at
word_there p at kept there whole = let same : at - at % 8 ≡ at = omega arith in subst (IsWordOf (grants_of p)) same (word_of p at kept there)

-- the bytes of the word of eight bytes
pub word_bytes : (bytes run : List ℕ) (result place : ℕ) → ((i : ℕ) → i < length bytes → get_or bytes i 0 < 256) →
    length run ≡ 8 → place + 8 ≤ length bytes → run ≡ take (place + 8 - place) (drop place bytes) →
    result ≡ from_le_bytes w64 run → (k : ℕ) → k < 8 → get_or (to_le_bytes w64 result) k 0 ≡ get_or bytes (place + k) 0
word_bytes bytes run result place small len fits is value k less = ap (λ xs. get_or xs k 0) (le_bytes_8 run result len low value) ∙ each k less
  where
    each : (i : ℕ) → i < 8 → get_or run i 0 ≡ get_or bytes (place + i) 0
    each i below = ap (λ xs. get_or xs i 0) is ∙ (get_or-take (place + 8 - place) (drop place bytes) i 0 (omega arith) ∙ get_or-drop place bytes i 0)

    low : (i : ℕ) → get_or run i 0 < 256
    low i = elim (lt_or_le i 8) [
      | inl below ↦ rw (each i below) (small (place + i) (omega arith))
      | inr past ↦ rw (get_or_past run i 0 (omega arith)) (omega arith)
    ]

-- ---- what is written

pub written_none : (p : Paged) (address : ℕ) (bytes : List ℕ) → AreBytesWritten p p address bytes 0
written_none p address bytes = record {
  still = still_none p;
  here = λ k less. absurd (omega arith);
  elsewhere = λ other is beside. refl;
  words = λ k word beside. refl;
}

-- behind n bytes a part was written
pub written_on : (old mid new : Paged) (address n m : ℕ) (bytes part : List ℕ) → AreHeapBytes old address (n + m) →
    AreBytesWritten old mid address bytes n → AreBytesWritten mid new (address + n) part m →
    ((k : ℕ) → k < m → slice_index part k ≡ slice_index bytes (n + k)) → AreBytesWritten old new address bytes (n + m)
written_on old mid new address n m bytes part there before after same = record {
  still = still_on old mid new before.still after.still;
  here = λ k less. elim (lt_or_le k n) [
    | inl earlier ↦ after.elsewhere (address + k) (mid_in (address + k) 1
        (inside_part old address (n + m) (address + k) 1 there (omega arith) (omega arith))) (inl (omega arith))
        ∙ before.here k earlier
    | inr later ↦ (let back : n + (k - n) ≡ k = omega arith in
        subst (λ j. reached new.words new.root (address + j) ≡ Some (slice_index bytes j)) back (later_here (k - n) (omega arith)))
  ];
  elsewhere = λ other is beside.
      after.elsewhere other (mid_in other 1 is) (elim beside [ inl below ↦ inl (omega arith) | inr above ↦ inr (omega arith) ])
      ∙ before.elsewhere other is (elim beside [ inl below ↦ inl below | inr above ↦ inr (omega arith) ]);
  words = λ k word beside.
      let same_grants : grants_of mid ≡ grants_of old = ap grants_of before.still.others in
      after.words k (subst (λ gs. IsWordOf gs k) (sym same_grants) word) (elim beside [ inl below ↦ inl (omega arith) | inr above ↦ inr (omega arith) ])
      ∙ before.words k word (elim beside [ inl below ↦ inl below | inr above ↦ inr (omega arith) ]);
}
  where
    mid_in : (a count : ℕ) → AreHeapBytes old a count → AreHeapBytes mid a count
    mid_in a count is = still_inside old mid a count before.still is

    later_here : (j : ℕ) → j < m → reached new.words new.root (address + (n + j)) ≡ Some (slice_index bytes (n + j))
    later_here j less =
        let at : address + n + j ≡ address + (n + j) = omega arith in
        ap (reached new.words new.root) (sym at) ∙ (after.here j less ∙ ap Some (same j less))

-- a part at the front was written
written_front : (old new : Paged) (address n : ℕ) (bytes part : List ℕ) → AreBytesWritten old new address part n →
    ((k : ℕ) → k < n → slice_index part k ≡ slice_index bytes k) → AreBytesWritten old new address bytes n
written_front old new address n bytes part w same = record {
  still = w.still;
  here = λ k less. w.here k less ∙ ap Some (same k less);
  elsewhere = w.elsewhere;
  words = w.words;
}

-- two parts were written, one behind the other
pub written_parts : (old mid new : Paged) (address n : ℕ) (bytes first last : List ℕ) →
    AreHeapBytes old address (length bytes) → first ≡ take n bytes → last ≡ drop n bytes →
    length first ≡ n → length last + n ≡ length bytes → AreBytesWritten old mid address first (length first) →
    AreBytesWritten mid new (address + length first) last (length last) →
    AreBytesWritten old new address bytes (length bytes)
written_parts old mid new address n bytes first last there is_first is_last front back before after =
    let all : n + length last ≡ length bytes = omega arith in
    subst (AreBytesWritten old new address bytes) all
    (written_on old mid new address n (length last) bytes last (inside_part old address (length bytes) address
    (n + length last) there (omega arith) (omega arith))
    (written_front old mid address n bytes first (subst (AreBytesWritten old mid address first) front before)
    (λ k less. ap (λ xs. get_or xs k 0) is_first ∙ get_or-take n bytes k 0 less))
    (subst (λ j. AreBytesWritten mid new (address + j) last (length last)) front after)
    (λ k less. ap (λ xs. get_or xs k 0) is_last ∙ get_or-drop n bytes k 0))

-- a stored word is its eight bytes
pub word_written : (p new : Paged) (at value : ℕ) → IsPagedKept p → AreHeapBytes p at 8 → at % 8 ≡ 0 →
    OnlyHeapBytesChange p new → IsStored (grants_of p) (word_reached p) at value (word_reached new) →
    AreBytesWritten p new at (to_le_bytes w64 value) 8
word_written p new at value kept there whole still stored = record {
  still = still;
  here = λ k less.
      let place : at + k - (at + k) % 8 ≡ at = omega arith in
      let byte : (at + k) % 8 ≡ k = omega arith in
      reached_byte new (at + k) (kept_still p new kept still) (still_inside p new (at + k) 1 still
      (inside_part p at 8 (at + k) 1 there (omega arith) (omega arith)))
      ∙ ap Some (ap (λ a. slice_index (to_le_bytes w64 (word_reached new a)) ((at + k) % 8)) place
      ∙ (ap (λ b. slice_index (to_le_bytes w64 (word_reached new at)) b) byte ∙ ap (λ w. slice_index (to_le_bytes w64 w) k) stored.here));
  elsewhere = λ other is beside.
      let apart : other - other % 8 ≢ at = λ e. elim beside [ inl below ↦ absurd (omega arith) | inr above ↦ absurd (omega arith) ] in
      reached_byte new other (kept_still p new kept still) (still_inside p new other 1 still is)
      ∙ (ap Some (ap (λ w. slice_index (to_le_bytes w64 w) (other % 8)) (stored.elsewhere (other - other % 8) (word_of p other kept is) apart))
      ∙ sym (reached_byte p other kept is));
  words = λ k word beside. stored.elsewhere k word (λ e. elim beside [ inl below ↦ absurd (omega arith) | inr above ↦ absurd (omega arith) ]);
}

-- ---- what is read

-- a whole word was read
pub word_read : (p : Paged) (address n : ℕ) (bytes : List ℕ) (word : ℕ) → IsPagedKept p → AreHeapBytes p address (n + 8) →
    (address + n) % 8 ≡ 0 → AreRead p address n bytes →
    word ≡ word_reached p (address + n) → AreRead p address (n + 8) (bytes ++ to_le_bytes w64 word)
word_read p address n bytes word kept there whole before is = record {
  many = length-append bytes (to_le_bytes w64 word) ∙ (let m = before.many in omega arith);
  each = λ k less. elim (lt_or_le k n) [
    | inl earlier ↦ before.each k earlier ∙ ap Some (sym (get_or_append_left bytes (to_le_bytes w64 word) 0 k (let m = before.many in omega arith)))
    | inr later ↦ (
        let place : address + k - (address + k) % 8 ≡ address + n = omega arith in
        let byte : (address + k) % 8 ≡ k - n = omega arith in
        reached_byte p (address + k) kept (inside_part p address (n + 8) (address + k) 1 there (omega arith) (omega arith))
        ∙ ap Some (ap (λ a. slice_index (to_le_bytes w64 (word_reached p a)) ((address + k) % 8)) place
        ∙ (ap (λ b. slice_index (to_le_bytes w64 (word_reached p (address + n))) b) byte
        ∙ (ap (λ w. slice_index (to_le_bytes w64 w) (k - n)) (sym is)
        ∙ sym (get_or-append_right bytes (to_le_bytes w64 word) n k 0 before.many later)))))
  ];
}
