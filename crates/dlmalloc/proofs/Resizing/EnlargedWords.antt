-- A chunk in use takes bytes of the free extent after it: the moves, over plain words.
use Rattle.dlmalloc.proofs.Names.{◌≡◌, ℕ, ◌+◌, ◌-◌, ◌%◌, ◌<◌, ◌≤◌, ◌⊎◌, inl, inr, true, false, ◌==◌, List, [], ◌∷◌, ◌++◌, refl, sym, ◌∙◌, ap, subst, arith, Grant, IsWordOf, AreStored, Extent, Kind, Used, Free, Top, pinuse_of, head_of, with_pinuse, pinuse_of-head_of, with_pinuse-head_of, is_used, told_size, HasChunk, AllSpare, Tiles, Segment, IsMove, IsRunOf, replaced_both, in_segments, AreSegments, IsApartFrom, AreApart}
use Rattle.dlmalloc.proofs.Extents.Lookup.{extent, nat_isnt, nat_same}
use Rattle.dlmalloc.proofs.Extents.Tiling.{sized, tiles_le, free_chunk, plain_chunk}
use Rattle.dlmalloc.proofs.Cuts.FreeExtent.{rehung, may_stand, behind_free, told_whole, no_head}
use Rattle.dlmalloc.proofs.Segments.Among.{with_extents}
use Rattle.dlmalloc.proofs.Cuts.StateAfter.{in_one}

-- ---- two extents that give way to others

both_none : (words : ℕ → ℕ) (before : Kind) (from : ℕ) (extents : List Extent) (to at : ℕ) (others : Extent → Extent → List Extent) →
    (at < from) ⊎ (to ≤ at) → Tiles words before from extents to → replaced_both at others extents ≡ extents
both_none words before from [] to at others out h = refl
both_none words before from (extent ∷ []) to at others out h = refl
both_none words before from (extent ∷ next ∷ extents) to at others out h =
    let long = (sized extent.kind extent.size h.1.size).1 in
    let later = tiles_le words extent.kind (from + extent.size) (next ∷ extents) to h.2 in
    let place = h.0 in
    let rest = both_none words extent.kind (from + extent.size) (next ∷ extents) to at others (grind arith) h.2 in
    let test : (extent.at == at) ≡ false = nat_isnt (grind arith) in
    rw test (ap (λ es. extent ∷ es) rest)

-- an extent that begins elsewhere stays, with others after it
both_later : (at : ℕ) (others : Extent → Extent → List Extent) (extent : Extent) (first : List Extent) (one : Extent) (last : List Extent) →
    (extent.at == at) ≡ false → replaced_both at others (extent ∷ (first ++ one ∷ last)) ≡ extent ∷ replaced_both at others (first ++ one ∷ last)
both_later at others extent [] one last test = rw test refl
both_later at others extent (second ∷ first) one last test = rw test refl

both_here : (words : ℕ → ℕ) (before : Kind) (from : ℕ) (first : List Extent) (one next : Extent) (last : List Extent)
    (others : Extent → Extent → List Extent) → Tiles words before from first one.at →
    replaced_both one.at others (first ++ (one ∷ next ∷ last)) ≡ first ++ (others one next ++ last)
both_here words before from [] one next last others h = (let here = nat_same one.at in rw here refl)
both_here words before from (extent ∷ first) one next last others h =
    let long = (sized extent.kind extent.size h.1.size).1 in
    let later = tiles_le words extent.kind (from + extent.size) first one.at h.2 in
    let place = h.0 in
    both_later one.at others extent first one (next ∷ last) (nat_isnt (grind arith))
    ∙ ap (λ es. extent ∷ es) (both_here words extent.kind (from + extent.size) first one next last others h.2)

pub both_run : (regions : List Grant) (words : ℕ → ℕ) {segments : List Segment} → AreSegments regions words segments → AreApart segments →
    (one next : Extent) {to : ℕ} (others : Extent → Extent → List Extent) → (run : IsRunOf words segments one.at to (one ∷ next ∷ [])) →
    in_segments (replaced_both one.at others) segments ≡ run.front ++ with_extents run.segment (run.first ++ (others one next ++ run.last)) ∷ run.back
both_run regions words parts apart one next {to} others run =
    ap (in_segments (replaced_both one.at others)) run.is ∙ in_one regions words (replaced_both one.at others) run.front run.segment run.back
    (subst (AreSegments regions words) run.is parts) (subst AreApart run.is apart)
    (λ other part beyond. both_none words Used other.base other.extents (other.base + other.size) one.at others (out other beyond) part.extents)
    (ap (replaced_both one.at others) run.extents ∙ both_here words Used run.segment.base run.first one next run.last others run.first_stand)
  where
    low : run.segment.base ≤ one.at
    low = tiles_le words Used run.segment.base run.first one.at run.first_stand

    high : to ≤ run.segment.base + run.segment.size
    high = tiles_le words next.kind to run.last (run.segment.base + run.segment.size) run.last_stand

    out : (other : Segment) → (IsApartFrom other run.segment) ⊎ (IsApartFrom run.segment other) → (one.at < other.base) ⊎ (other.base + other.size ≤ one.at)
    out other (inl (inl a)) = let l = low in inr (omega arith)
    out other (inl (inr b)) = let h = high in let s = run.some in inl (omega arith)
    out other (inr (inl a)) = let h = high in let s = run.some in inl (omega arith)
    out other (inr (inr b)) = let l = low in inr (omega arith)

-- ---- the moves

module _ (regions : List Grant) {old : ℕ → ℕ} (new : ℕ → ℕ) {before : Kind} {at size : ℕ} (stands : HasChunk old before (extent at size Used)) where
  told : pinuse_of (old (at + 8)) ≡ is_used before
  told = ap pinuse_of stands.head ∙ pinuse_of-head_of size (is_used before) true (let w = stands.size.0 in omega arith)

  -- the chunk with its first n bytes, or more
  longer : (n : ℕ) → n % 16 ≡ 0 → 32 ≤ n → new (at + 8) ≡ head_of n (pinuse_of (old (at + 8))) true → HasChunk new before (extent at n Used)
  longer n whole least head = plain_chunk stands.whole (whole, least) stands.kind (head ∙ ap (λ b. head_of n b true) told) (λ free. cc) (λ is. cc)

  -- the extent after it keeps a rest
  grown_part : {n length rest : ℕ} {kind : Kind} → HasChunk old Used (extent (at + size) length kind) → n % 16 ≡ 0 → 32 ≤ n → n ≤ size + length →
      new (at + 8) ≡ head_of n (pinuse_of (old (at + 8))) true → rest ≡ size + length - n → HasChunk new Used (extent (at + n) rest kind) →
      ((k : ℕ) → IsWordOf regions k → AllSpare (extent at n Used ∷ extent (at + n) rest kind ∷ []) k → new k ≡ old k) →
      IsMove regions old new before at (at + size + length) (at + size + length) (extent at size Used ∷ extent (at + size) length kind ∷ [])
      (extent at n Used ∷ extent (at + n) rest kind ∷ [])
  grown_part {n} behind whole least room head is rest kept = record {
    less_stand = (refl, stands, (refl, behind, refl));
    more_stand = (refl, longer n whole least head, (refl, rest, omega arith));
    kept = kept;
  }

  pub grown_top : {top rest : ℕ} (n : ℕ) → HasChunk old Used (extent (at + size) top Top) → n % 16 ≡ 0 → 32 ≤ n → n + 16 ≤ size + top → rest ≡ size + top - n →
      AreStored regions old ((at + 8, head_of n (pinuse_of (old (at + 8))) true) ∷ (at + n + 8, rest + 1) ∷ []) new →
      IsMove regions old new before at (at + size + top) (at + size + top) (extent at size Used ∷ extent (at + size) top Top ∷ [])
      (extent at n Used ∷ extent (at + n) rest Top ∷ [])
  grown_top n behind whole least room is stored =
      let place = stands.whole in let units = stands.size.0 in let units_top = behind.size.0 in
      grown_part behind whole least (omega arith) (stored.here.0 ((λ is. omega arith), tt)) is
      (plain_chunk (omega arith) (omega arith, omega arith) refl (stored.here.1.0 tt ∙ omega arith) (λ free. cc) (λ is. cc))
      (λ k word more. stored.elsewhere k word (more.0, (more.1.0, tt)))

  pub grown_split : {free : ℕ} (n : ℕ) → HasChunk old Used (extent (at + size) free Free) → n % 16 ≡ 0 → 32 ≤ n → n + 32 ≤ size + free →
      AreStored regions old ((at + 8, head_of n (pinuse_of (old (at + 8))) true) ∷ (at + n + 8, head_of (size + free - n) true false)
      ∷ (at + n + (size + free - n), size + free - n) ∷ []) new → IsMove regions old new before at (at + size + free) (at + size + free)
      (extent at size Used ∷ extent (at + size) free Free ∷ []) (extent at n Used ∷ extent (at + n) (size + free - n) Free ∷ [])
  grown_split n behind whole least room stored =
      let place = stands.whole in let units = stands.size.0 in let units_free = behind.size.0 in
      grown_part behind whole least (omega arith) (stored.here.0 ((λ is. omega arith), ((λ is. omega arith), tt))) refl
      (free_chunk (omega arith) (omega arith, omega arith) refl (stored.here.1.0 ((λ is. omega arith), tt)) (stored.here.1.1.0 tt))
      (λ k word more. stored.elsewhere k word (more.0, (more.1.0.0, (more.1.0.1, tt))))

  -- nothing of it stays free, and the head of what is after it says so
  pub grown_whole : (free : ℕ) (next : Extent) → HasChunk old Used (extent (at + size) free Free) → HasChunk old Free next →
      next.at ≡ at + size + free → AreStored regions old ((at + 8, head_of (size + free) (pinuse_of (old (at + 8))) true)
      ∷ (at + (size + free) + 8, with_pinuse (old (at + (size + free) + 8))) ∷ []) new → ((k : ℕ) → next.at < k → k < next.at + next.size →
      k % 8 ≡ 0 → IsWordOf regions k) → IsMove regions old new before at (at + size + free + next.size) (at + size + free + next.size)
      (extent at size Used ∷ extent (at + size) free Free ∷ next ∷ []) (extent at (size + free) Used ∷ next ∷ [])
  grown_whole free next behind after touch stored granted =
      let place = stands.whole in let units = stands.size.0 in let long = stands.size.1 in
      let units_free = behind.size.0 in let long_free = behind.size.1 in let kind = behind_free next.kind after.kind in
      let sum : next.at ≡ at + (size + free) = omega arith in
      record {
        less_stand = (refl, stands, (refl, behind, (touch, after, refl)));
        more_stand = (
          refl,
          longer (size + free) (omega arith) (omega arith) (stored.here.0 ((λ is. omega arith), tt)),
          (
            sum,
            rehung new Used after kind (may_stand next.kind Used kind (inl refl)) (subst (λ a. new (a + 8) ≡ head_of (told_size next.kind next.size) true
                (is_used next.kind)) (sym sum) (stored.here.1.0 tt ∙ (ap (λ a. with_pinuse (old (a + 8))) (sym sum) ∙ (ap with_pinuse after.head
                ∙ with_pinuse-head_of (told_size next.kind next.size) false (is_used next.kind) (told_whole next.kind next.size after.size)))))
                (λ k low high m. stored.elsewhere k (granted k (omega arith) high m) ((λ is. omega arith), ((λ is. omega arith), tt))),
            omega arith,
          ),
        );
        kept = λ k word more. stored.elsewhere k word (
          more.0,
          (
            (λ is. no_head k next.kind next.at next.size after.size
                more.1.0 (is ∙ ap (λ a. a + 8) (sym sum))),
            tt,
          ),
        );
      }
