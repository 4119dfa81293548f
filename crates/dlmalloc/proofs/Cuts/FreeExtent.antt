-- A free extent is cut.
use Rattle.dlmalloc.proofs.Names.{◌≡◌, ◌≢◌, ℕ, ◌+◌, ◌-◌, ◌%◌, ◌<◌, ◌≤◌, ◌⊎◌, inl, inr, true, false, List, [], ◌∷◌, IsTrue, sym, ◌∙◌, ap, subst, arith, refl, Grant, IsWordOf, IsStored, AreStored, Extent, Kind, Used, Free, Victim, Top, Record, Foot, IsSize, head_of, with_pinuse, with_pinuse-head_of, is_used, is_free_below_top, MayStand, told_size, HasChunk, IsSpared, IsMove}
use Rattle.dlmalloc.proofs.Extents.Tiling.{free_chunk, plain_chunk}
use Rattle.dlmalloc.proofs.Extents.Lookup.{extent}

-- one store, and others after it
pub stored_then : {regions : List Grant} {old middle new : ℕ → ℕ} {at value : ℕ} {stores : List (ℕ × ℕ)} → IsWordOf regions at →
    IsStored regions old at value middle → AreStored regions middle stores new → AreStored regions old ((at, value) ∷ stores) new
stored_then {at} word first second = record {
  here = ((λ apart. second.elsewhere at word apart ∙ first.here), second.here);
  elsewhere = λ k is apart. second.elsewhere k is apart.1 ∙ first.elsewhere k is apart.0;
}

-- two stores, and another over the second
pub stored_over : {regions : List Grant} {old middle new : ℕ → ℕ} {first second : ℕ} (value other : ℕ) {last : ℕ} → IsWordOf regions first →
    AreStored regions old ((first, value) ∷ (second, other) ∷ []) middle → IsStored regions middle second last new →
    AreStored regions old ((first, value) ∷ (second, last) ∷ []) new
stored_over {first} value other word before after = record {
  here = ((λ apart. after.elsewhere first word apart.0 ∙ before.here.0 apart), ((λ apart. after.here), tt));
  elsewhere = λ k is apart. after.elsewhere k is apart.1.0 ∙ before.elsewhere k is apart;
}

-- An extent in use or a record, after one of another kind: only bit 0 of its head depends on that.
pub rehung : {words : ℕ → ℕ} (words' : ℕ → ℕ) {before : Kind} (before' : Kind) {next : Extent} → HasChunk words before next →
    (next.kind ≡ Used) ⊎ (next.kind ≡ Record) → MayStand before' next.kind →
    words' (next.at + 8) ≡ head_of (told_size next.kind next.size) (is_used before') (is_used next.kind) →
    ((k : ℕ) → next.at + 56 ≤ k → k < next.at + next.size → k % 8 ≡ 0 → words' k ≡ words k) → HasChunk words' before' next
rehung words' before' {next} h kind may head same = record {
  whole = h.whole;
  size = h.size;
  kind = may;
  head = head;
  foot = λ free. absurd (no_free kind free);
  fence = λ is k low high m. same k low high m ∙ h.fence is k low high m;
}
  where
    no_free : (next.kind ≡ Used) ⊎ (next.kind ≡ Record) → IsTrue (is_free_below_top next.kind) → ⊥
    no_free (inl is) free = (let not = ap is_free_below_top is in cc)
    no_free (inr is) free = (let not = ap is_free_below_top is in cc)

-- the size in a head is whole
pub told_whole : (kind : Kind) (size : ℕ) → IsSize kind size → told_size kind size % 8 ≡ 0
told_whole Record size h = refl
told_whole Foot size h = omega arith
told_whole kind size h = let w = h.0 in omega arith

-- a word that an extent spares is not its head
pub no_head : (k : ℕ) (kind : Kind) (at size : ℕ) → IsSize kind size → IsSpared k kind at size → k ≢ at + 8
no_head k Free at size long h = h.0
no_head k Victim at size long h = h.0
no_head k kind at size long h = h

-- it may stand after one in use, and after a free one
pub may_stand : (kind before : Kind) → (kind ≡ Used) ⊎ (kind ≡ Record) → (before ≡ Used) ⊎ (before ≡ Free) → MayStand before kind
may_stand kind before (inl is) b = subst (MayStand before) (sym is) b
may_stand kind before (inr is) b = subst (MayStand before) (sym is) b

-- after a free extent stands one in use or a record, and a free one stands after one in use
pub behind_free : (kind : Kind) → MayStand Free kind → (kind ≡ Used) ⊎ (kind ≡ Record)
behind_free Used h = inl refl
behind_free Record h = inr refl
behind_free Victim h = absurd h
behind_free kind h = absurd (cc)

-- a chunk gives way to one in use and to its rest
cut_in_two : {regions : List Grant} {old new : ℕ → ℕ} {before : Kind} {at size : ℕ} {kind : Kind} (n : ℕ) → HasChunk old before (extent at size kind) →
    before ≡ Used → n % 16 ≡ 0 → 32 ≤ n → n ≤ size → new (at + 8) ≡ head_of n true true → HasChunk new Used (extent (at + n) (size - n) kind) →
    ((k : ℕ) → IsWordOf regions k → k ≢ at + 8 → IsSpared k kind (at + n) (size - n) → new k ≡ old k) →
    IsMove regions old new before at (at + size) (at + size) (extent at size kind ∷ []) (extent at n Used ∷ extent (at + n) (size - n) kind ∷ [])
cut_in_two n stands used whole least fits head rest kept = record {
  less_stand = (refl, stands, refl);
  more_stand = (
    refl,
    plain_chunk stands.whole (whole, least) (inl used) (head ∙ ap (λ k. head_of n (is_used k) true) (sym used)) (λ free. cc) (λ is. cc),
    (refl, rest, omega arith),
  );
  kept = λ k word more. kept k word more.0 more.1.0;
}

module _ (regions : List Grant) {old : ℕ → ℕ} (new : ℕ → ℕ) {before : Kind} {at size : ℕ} (stands : HasChunk old before (extent at size Free)) where
  -- nothing stays free
  module _ {next : Extent} (behind : HasChunk old Free next) (touch : next.at ≡ at + size) where
    pub cut_whole : AreStored regions old ((at + 8, head_of size true true) ∷ (at + size + 8, with_pinuse (old (at + size + 8))) ∷ []) new →
        ((k : ℕ) → next.at < k → k < next.at + next.size → k % 8 ≡ 0 → IsWordOf regions k) → IsMove regions old new before at
        (at + size + next.size) (at + size + next.size) (extent at size Free ∷ next ∷ []) (extent at size Used ∷ next ∷ [])
    cut_whole stored granted =
        let kind = behind_free next.kind behind.kind in let long = stands.size.1 in
        record {
          less_stand = (refl, stands, (touch, behind, refl));
          more_stand = (
            refl,
            plain_chunk stands.whole stands.size (inl stands.kind)
                (stored.here.0 ((λ is. omega arith), tt) ∙ ap (λ k. head_of size (is_used k) true) (sym stands.kind)) (λ free. cc) (λ is. cc),
            (
              touch,
              rehung new Used behind kind (may_stand next.kind Used kind (inl refl)) (subst (λ a. new (a + 8) ≡ head_of (told_size next.kind next.size) true
                  (is_used next.kind)) (sym touch) (stored.here.1.0 tt ∙ (ap (λ a. with_pinuse (old (a + 8))) (sym touch) ∙ (ap with_pinuse behind.head
                  ∙ with_pinuse-head_of (told_size next.kind next.size) false (is_used next.kind) (told_whole next.kind next.size behind.size)))))
                  (λ k low high m. stored.elsewhere k (granted k (omega arith) high m) ((λ is. omega arith), ((λ is. omega arith), tt))),
              refl,
            ),
          );
          kept = λ k word more. stored.elsewhere k word (
            more.0,
            (
              subst (λ a. k ≢ a + 8) touch
                  (no_head k next.kind next.at next.size behind.size more.1.0),
              tt,
            ),
          );
        }

  -- a rest stays free
  pub cut_split : (n : ℕ) → n % 16 ≡ 0 → 32 ≤ n → n + 32 ≤ size →
      AreStored regions old ((at + 8, head_of n true true) ∷ (at + n + 8, head_of (size - n) true false) ∷ (at + n + (size - n), size - n) ∷ []) new →
      IsMove regions old new before at (at + size) (at + size) (extent at size Free ∷ []) (extent at n Used ∷ extent (at + n) (size - n) Free ∷ [])
  cut_split n whole least room stored =
      let place = stands.whole in let units = stands.size.0 in
      cut_in_two n stands stands.kind whole least (omega arith) (stored.here.0 ((λ is. omega arith), ((λ is. omega arith), tt)))
      (free_chunk (omega arith) (omega arith, omega arith) refl (stored.here.1.0 ((λ is. omega arith), tt)) (stored.here.1.1.0 tt))
      (λ k word first rest. stored.elsewhere k word (first, (rest.0, (rest.1, tt))))

-- the top is cut
pub cut_top : {regions : List Grant} {old new : ℕ → ℕ} {before : Kind} {at size : ℕ} (n : ℕ) → HasChunk old before (extent at size Top) →
    n % 16 ≡ 0 → 32 ≤ n → n + 16 ≤ size → AreStored regions old ((at + 8, head_of n true true) ∷ (at + n + 8, size - n + 1) ∷ []) new →
    IsMove regions old new before at (at + size) (at + size) (extent at size Top ∷ []) (extent at n Used ∷ extent (at + n) (size - n) Top ∷ [])
cut_top n stands whole least room stored =
    let place = stands.whole in let units = stands.size.0 in
    cut_in_two n stands stands.kind whole least (omega arith) (stored.here.0 ((λ is. omega arith), tt))
    (plain_chunk (omega arith) (omega arith, omega arith) refl (stored.here.1.0 tt ∙ omega arith) (λ free. cc) (λ is. cc))
    (λ k word first rest. stored.elsewhere k word (first, (rest, tt)))
