-- Flat words beside a paged system.
use Rattle.std.proofs.Common.{◌≡◌, ℕ, ◌+◌, ◌-◌, ◌*◌, ◌/◌, ◌%◌, ◌<◌, ◌≤◌, List, [], ◌∷◌, sym, ap, subst, ◌∙◌, ◌⊎◌, inl, inr, IsTrue, true, arith}
use Rattle.std.specs.List.{AllByRecursion}
use Rattle.std.proofs.lemmas.Bool.{cases_eq, cases_lt}
use Rattle.std.proofs.lemmas.Bool.Decides.{nat_tests}
use Rattle.heap_memory.specs.declared.grant.Grant.{Grant}
use Rattle.heap_memory.specs.Regions.{is_granted, IsWordOf, IsApart, with_grant}
use Rattle.heap_memory.specs.RegionLaws.{granted_split}
use Rattle.heap_memory.specs.Words.{IsStored, AreWordsOf, AreFilled, AreCopied, IsBeside}
use Rattle.heap_memory.specs.Events.{Released}
use Rattle.heap_memory.specs.Runs.{without_run, is_in_units}
use Rattle.heap_memory.specs.RunLaws.{granted_before}
use Rattle.machine_model.specs.declared.region.Region.{Region}
use Rattle.machine_model.specs.Place.{IsPlace}
use Rattle.machine_model.specs.Request.{pages_in}
use Rattle.machine_model.specs.Machine.{Paged, OnlyHeapBytesChange}
use Rattle.mapped_regions.specs.Mapped.{word_reached}
use Rattle.paged_systems.specs.declared.flat_window.FlatWindow.{FlatWindow}
use Rattle.paged_systems.specs.FlatWindow.{IsCovered, AreCovered, flat_word, IsLonger, ArePutAt}
use Rattle.paged_systems.specs.Follows.{Follows}
use Rattle.paged_systems.specs.Layout.{IsPagedKept, CanGrant, IsGrantedFor}
use Rattle.paged_systems.specs.Released.{IsReleasedFor}
use Rattle.paged_systems.specs.Twin.{IsTwin}
use Rattle.paged_systems.specs.Words.{grants_of}
use Rattle.paged_systems.proofs.Allocated as allocated

-- a store of the paged system leaves its regions
pub still_grants : (old new : Paged) → OnlyHeapBytesChange old new → grants_of new ≡ grants_of old
still_grants old new still = ap grants_of still.others

pub still_base : (old new : Paged) → OnlyHeapBytesChange old new → new.base ≡ old.base
still_base old new still = ap (λ p. p.base) still.others

-- a word was put into both
pub twin_stored : (old new : Paged) (flat flat' : FlatWindow) (at value : ℕ) → IsTwin old flat → OnlyHeapBytesChange old new →
    IsStored (grants_of old) (word_reached old) at value (word_reached new) → IsLonger flat flat' → flat_word flat' at ≡ value →
    ((k : ℕ) → k % 8 ≡ 0 → IsCovered flat k → (k ≡ at → ⊥) → flat_word flat' k ≡ flat_word flat k) → IsTwin new flat'
twin_stored old new flat flat' at value twin still stored longer here other = record {
  base = longer.base ∙ (twin.base ∙ sym (still_base old new still));
  covered = λ k word. longer.covered k (twin.covered k (was k word));
  equal = λ k word. go k (was k word) (cases_eq k at);
}
  where
    was : (k : ℕ) → IsWordOf (grants_of new) k → IsWordOf (grants_of old) k
    was k word = subst (λ (rs : List Grant). IsWordOf rs k) (still_grants old new still) word

    go : (k : ℕ) → IsWordOf (grants_of old) k → (k ≡ at) ⊎ (k ≡ at → ⊥) → flat_word flat' k ≡ word_reached new k
    go k word (inl e) = rw e (here ∙ sym stored.here)
    go k word (inr ne) = other k word.aligned (twin.covered k word) ne ∙ (twin.equal k word ∙ sym (stored.elsewhere k word ne))

-- the flat words that are put are those of the store
pub flat_stored : (p : Paged) (flat flat' : FlatWindow) (at value : ℕ) → IsTwin p flat → flat_word flat' at ≡ value →
    ((k : ℕ) → k % 8 ≡ 0 → IsCovered flat k → (k ≡ at → ⊥) → flat_word flat' k ≡ flat_word flat k) →
    IsStored (grants_of p) (flat_word flat) at value (flat_word flat')
flat_stored p flat flat' at value twin here other = record { here = here; elsewhere = λ k word ne. other k word.aligned (twin.covered k word) ne }

-- ---- words are put in rows

pub twin_put : (old new : Paged) (flat flat' : FlatWindow) (at count : ℕ) (told : ℕ → ℕ) → IsTwin old flat → OnlyHeapBytesChange old new →
    ((k : ℕ) → k % 8 ≡ 0 → at ≤ k → k < at + 8 * count → word_reached new k ≡ told k) →
    ((k : ℕ) → IsWordOf (grants_of old) k → IsBeside at count k → word_reached new k ≡ word_reached old k) →
    ArePutAt flat flat' at count told → IsTwin new flat'
twin_put old new flat flat' at count told twin still here elsewhere put = record {
  base = put.longer.base ∙ (twin.base ∙ sym (still_base old new still));
  covered = λ k word. put.longer.covered k (twin.covered k (was k word));
  equal = λ k word. go k (was k word) (cases_lt k at) (cases_lt k (at + 8 * count));
}
  where
    was : (k : ℕ) → IsWordOf (grants_of new) k → IsWordOf (grants_of old) k
    was k word = subst (λ (rs : List Grant). IsWordOf rs k) (still_grants old new still) word

    go : (k : ℕ) → IsWordOf (grants_of old) k → (k < at) ⊎ (at ≤ k) → (k < at + 8 * count) ⊎ (at + 8 * count ≤ k) → flat_word flat' k ≡ word_reached new k
    go k word (inl below) _ = put.elsewhere k word.aligned (twin.covered k word) (inl below) ∙ (twin.equal k word ∙ sym (elsewhere k word (inl below)))
    go k word (inr from) (inl to) = put.here k word.aligned from to ∙ sym (here k word.aligned from to)
    go k word (inr from) (inr above) = put.elsewhere k word.aligned (twin.covered k word) (inr above) ∙ (twin.equal k word ∙ sym (elsewhere k word (inr above)))

-- there are flat words for those of a run
pub covered_run : (p : Paged) (flat : FlatWindow) (at count : ℕ) → IsTwin p flat → AreWordsOf (grants_of p) at count → AreCovered flat at count
covered_run p flat at count twin words = record {
  covered = λ k m low high. twin.covered k (record { granted = words.granted k low high; aligned = m });
  aligned = words.aligned;
  small = words.small;
}

pub twin_filled : (old new : Paged) (flat flat' : FlatWindow) (at count value : ℕ) → IsTwin old flat → OnlyHeapBytesChange old new →
    AreFilled (grants_of old) (word_reached old) at count value (word_reached new) → ArePutAt flat flat' at count (λ k. value) → IsTwin new flat'
twin_filled old new flat flat' at count value twin still filled put =
    twin_put old new flat flat' at count (λ k. value) twin still (λ k m low high. filled.here k low high m) filled.elsewhere put

pub flat_filled : (p : Paged) (flat flat' : FlatWindow) (at count value : ℕ) → IsTwin p flat → ArePutAt flat flat' at count (λ k. value) →
    AreFilled (grants_of p) (flat_word flat) at count value (flat_word flat')
flat_filled p flat flat' at count value twin put = record {
  here = λ k low high m. put.here k m low high;
  elsewhere = λ other word beside. put.elsewhere other word.aligned (twin.covered other word) beside;
}

pub twin_copied : (old new : Paged) (flat flat' : FlatWindow) (from to count : ℕ) → IsTwin old flat → OnlyHeapBytesChange old new →
    AreWordsOf (grants_of old) from count → AreWordsOf (grants_of old) to count →
    AreCopied (grants_of old) (word_reached old) from to count (word_reached new) →
    ArePutAt flat flat' to count (λ k. flat_word flat (from + (k - to))) → IsTwin new flat'
twin_copied old new flat flat' from to count twin still source target copied put =
    twin_put old new flat flat' to count (λ k. flat_word flat (from + (k - to))) twin still here copied.elsewhere put
  where
    here : (k : ℕ) → k % 8 ≡ 0 → to ≤ k → k < to + 8 * count → word_reached new k ≡ flat_word flat (from + (k - to))
    here k m low high =
        let from_aligned = source.aligned in
        let to_aligned = target.aligned in
        let place : k ≡ to + (k - to) = omega arith in
        let whole : (k - to) % 8 ≡ 0 = omega arith in
        let word : IsWordOf (grants_of old) (from + (k - to)) = record {
          granted =
              source.granted (from + (k - to)) (omega arith) (omega arith);
          aligned = omega arith;
        } in
        ap (λ (a : ℕ). word_reached new a) place ∙ (copied.here (k - to) (omega arith) whole ∙ sym (twin.equal (from + (k - to)) word))

pub flat_copied : (p : Paged) (flat flat' : FlatWindow) (from to count : ℕ) → IsTwin p flat → to % 8 ≡ 0 →
    ArePutAt flat flat' to count (λ k. flat_word flat (from + (k - to))) →
    AreCopied (grants_of p) (flat_word flat) from to count (flat_word flat')
flat_copied p flat flat' from to count twin aligned put = record {
  here = λ k small m.
      let place : from + (to + k - to) ≡ from + k = omega arith in
      put.here (to + k) (omega arith) (omega arith) (omega arith) ∙ ap (λ (a : ℕ). flat_word flat a) place;
  elsewhere = λ other word beside. put.elsewhere other word.aligned (twin.covered other word) beside;
}

-- ---- regions come and go

-- fewer regions, each of whose words stays
pub twin_less : (old new : Paged) (flat : FlatWindow) → IsTwin old flat → new.base ≡ old.base →
    ((k : ℕ) → IsWordOf (grants_of new) k → IsWordOf (grants_of old) k) →
    ((k : ℕ) → IsWordOf (grants_of new) k → word_reached new k ≡ word_reached old k) → IsTwin new flat
twin_less old new flat twin base was same = record {
  base = twin.base ∙ sym base;
  covered = λ k word. twin.covered k (was k word);
  equal = λ k word. twin.equal k (was k word) ∙ sym (same k word);
}

-- more flat words
pub twin_longer : (p : Paged) (flat flat' : FlatWindow) → IsTwin p flat → IsLonger flat flat' →
    ((k : ℕ) → IsCovered flat k → flat_word flat' k ≡ flat_word flat k) → IsTwin p flat'
twin_longer p flat flat' twin longer same = record {
  base = longer.base ∙ twin.base;
  covered = λ k word. longer.covered k (twin.covered k word);
  equal = λ k word. same k (twin.covered k word) ∙ twin.equal k word;
}

-- what is granted is apart from a region that is apart from all
apart_from : (low high : ℕ) (regions : List Grant) (k : ℕ) → AllByRecursion (IsApart low high) regions → IsTrue (is_granted regions k) → (k < low) ⊎ (high ≤ k)
apart_from low high [] k apart granted = absurd (cc)
apart_from low high (region ∷ regions) k apart granted = go (cases_lt k low) (cases_lt k high) (λ g. apart_from low high regions k apart.1 g)
  where
    go : (k < low) ⊎ (low ≤ k) → (k < high) ⊎ (high ≤ k) → (IsTrue (is_granted regions k) → (k < low) ⊎ (high ≤ k)) → (k < low) ⊎ (high ≤ k)
    go (inl below) _ _ = inl below
    go _ (inr above) _ = inr above
    go (inr from) (inl to) rest = rest (elim (apart.0) [ inl before ↦ grind (arith, nat_tests) | inr behind ↦ grind (arith, nat_tests) ])

-- a grant that both have cleared
pub twin_granted : (old new : Paged) (grant : Grant) (flat flat' : FlatWindow) → IsTwin old flat → new.base ≡ old.base →
    grants_of new ≡ with_grant grant (grants_of old) → AllByRecursion (IsApart grant.base (grant.base + grant.size)) (grants_of old) →
    ((at : ℕ) → grant.base ≤ at → at < grant.base + grant.size → at % 8 ≡ 0 → word_reached new at ≡ 0) →
    ((at : ℕ) → IsWordOf (grants_of old) at → word_reached new at ≡ word_reached old at) →
    ((at : ℕ) → grant.base ≤ at → at < grant.base + grant.size → IsCovered flat at) →
    grant.size % 8 ≡ 0 → ArePutAt flat flat' grant.base (grant.size / 8) (λ k. 0) → IsTwin new flat'
twin_granted old new grant flat flat' twin base regions apart zeros words covered whole cleared = record {
  base = cleared.longer.base ∙ (twin.base ∙ sym base);
  covered = λ k word. cleared.longer.covered k (cover k (granted_split grant (grants_of old) k (is_in k word)) word.aligned);
  equal = λ k word. equal k (granted_split grant (grants_of old) k (is_in k word)) word.aligned;
}
  where
    is_in : (k : ℕ) → IsWordOf (grants_of new) k → IsTrue (is_granted (with_grant grant (grants_of old)) k)
    is_in k word = subst (λ (rs : List Grant). IsTrue (is_granted rs k)) regions word.granted

    cover : (k : ℕ) → ((grant.base ≤ k) × (k < grant.base + grant.size)) ⊎ IsTrue (is_granted (grants_of old) k) → k % 8 ≡ 0 → IsCovered flat k
    cover k (inl fresh) aligned = covered k fresh.0 fresh.1
    cover k (inr was) aligned = twin.covered k (record { granted = was; aligned = aligned })

    outside : (k : ℕ) → IsTrue (is_granted (grants_of old) k) → (k < grant.base) ⊎ (grant.base + 8 * (grant.size / 8) ≤ k)
    outside k was = elim (apart_from grant.base (grant.base + grant.size) (grants_of old) k apart was) [ inl below ↦ inl below | inr above ↦ inr (omega arith) ]

    equal : (k : ℕ) → ((grant.base ≤ k) × (k < grant.base + grant.size)) ⊎ IsTrue (is_granted (grants_of old) k) →
        k % 8 ≡ 0 → flat_word flat' k ≡ word_reached new k
    equal k (inl fresh) aligned = cleared.here k aligned fresh.0 (omega arith) ∙ sym (zeros k fresh.0 fresh.1 aligned)
    equal k (inr was) aligned =
        let word : IsWordOf (grants_of old) k = record { granted = was; aligned = aligned } in
        cleared.elsewhere k aligned (twin.covered k word) (outside k was) ∙ (twin.equal k word ∙ sym (words k word))

-- ---- what a release leaves

released_base : (old new : Paged) (at size left : ℕ) → IsReleasedFor old new at size left → new.base ≡ old.base
released_base old new at size left is = go (cases_lt left size)
  where
    go : (left < size) ⊎ (size ≤ left) → new.base ≡ old.base
    go (inl less) = (is.gone less).gone.base
    go (inr more) = let w = is.within in ap (λ p. p.base) (is.none (omega arith))

pub follows_base : (old new : Paged) (at size left : ℕ) → Follows old (Released at size left ∷ []) new → new.base ≡ old.base
follows_base old new at size left f =
    still_base f.1 new f.4 ∙ (released_base f.0 f.1 at size left f.3 ∙ still_base old f.0 f.2)

pub twin_released : (old new : Paged) (flat : FlatWindow) (at size left low high : ℕ) → IsTwin old flat → Follows old (Released at size left ∷ []) new →
    grants_of new ≡ without_run low high (grants_of old) → ((k : ℕ) → IsWordOf (grants_of new) k → word_reached new k ≡ word_reached old k) → IsTwin new flat
twin_released old new flat at size left low high twin f regions words =
    twin_less old new flat twin (follows_base old new at size left f)
    (λ k word. record {
      granted = granted_before low high (grants_of old) k (subst (λ (rs : List Grant). IsTrue (is_granted rs k)) regions word.granted);
      aligned = word.aligned;
    })
    words

pub in_units : (size : ℕ) → size % 4096 ≡ 0 → is_in_units 4096 size ≡ true
in_units size whole = grind (arith, nat_tests)

-- ---- a grant

pub same_place : (base window : ℕ) (regions : List Region) (pages a b : ℕ) → IsPlace base window regions pages a → IsPlace base window regions pages b → a ≡ b
same_place base window regions pages a b first second = go (cases_lt a b) (cases_lt b a)
  where
    go : (a < b) ⊎ (b ≤ a) → (b < a) ⊎ (a ≤ b) → a ≡ b
    go (inl less) _ = absurd (second.least a less first.fit)
    go _ (inl less) = absurd (first.least b less second.fit)
    go (inr x) (inr y) = omega arith

-- the flat words that were made are those of the grant
pub covered_grant : (old new : Paged) (flat flat' : FlatWindow) (pages size place : ℕ) (grant : Grant) → IsTwin old flat → pages ≡ pages_in size →
    CanGrant old pages place → IsGrantedFor old new size grant → ((k : ℕ) → flat.base ≤ k → k < place + pages * 4096 → IsCovered flat' k) →
    (k : ℕ) → grant.base ≤ k → k < grant.base + grant.size → IsCovered flat' k
covered_grant old new flat flat' pages size place grant twin is can granted covered k low high =
    let place_is : grant.base ≡ place =
    same_place old.base old.pages old.regions (pages_in size) grant.base place granted.can.place
    (subst (λ n. IsPlace old.base old.pages old.regions n place) is can.place) in
    let s = granted.size in
    let b = twin.base in
    let from = granted.can.place.fit.from in
    covered k (omega arith) (omega arith)

pub twin_grown : (old new : Paged) (size : ℕ) (grant : Grant) (flat flat' : FlatWindow) → IsTwin old flat → IsPagedKept old → IsGrantedFor old new size grant →
    ((at : ℕ) → grant.base ≤ at → at < grant.base + grant.size → IsCovered flat at) →
    ArePutAt flat flat' grant.base (grant.size / 8) (λ k. 0) → IsTwin new flat'
twin_grown old new size grant flat flat' twin kept is covered cleared =
    twin_granted old new grant flat flat' twin is.granted.grant.base (allocated.regions old new size grant kept is) (allocated.apart old new size grant kept is)
    (allocated.zeros old new size grant kept is) (allocated.words old new size grant kept is) covered (let s = is.size in omega arith) cleared
