-- Some extents of a heap give way to others, as its segments become others that are described: what stays is found as before.
use Rattle.dlmalloc.proofs.Names.{◌≡◌, ◌≢◌, ℕ, ◌<◌, ◌⊎◌, inl, inr, Bool, true, false, ◌==◌, if◌then◌else◌, List, [], ◌∷◌, ◌++◌, Some, sym, ◌∙◌, ap, subst, refl, arith, unwrap_or, Grant, Extent, Kind, Used, Free, extent_at, Segment, extents_in, AreSegments, AreApart, IsIn, FreeMoves, HasSameUsed, segments_of, state_of, AreTold, IsSound, IsGranularity, Dlmalloc}
use Rattle.dlmalloc.proofs.Extents.Lookup.{extent, found_either, found_more}
use Rattle.dlmalloc.proofs.Extents.OneMoreUsed.{AreDistinct, distinct_second, replaced_found}
use Rattle.dlmalloc.proofs.Moves.OfFreeExtents.{IsThere, free_stays}
use Rattle.dlmalloc.proofs.Segments.Among.{extents_all, all_distinct, distinct_later}
use Rattle.dlmalloc.proofs.Moves.OfHeaps.{segments_read}
use Rattle.dlmalloc.proofs.Segments.ByAddress.{few}

-- no extent of a list is of a kind
abbrev pub HasNo : Kind → List Extent → Type 0
HasNo kind [] = Unit {0}
HasNo kind (one ∷ extents) = (one.kind ≢ kind) × HasNo kind extents

pub none_of : (kind : Kind) (extents : List Extent) (k : ℕ) {one : Extent} → HasNo kind extents → one.kind ≡ kind → extent_at k extents ≡ Some one → ⊥
none_of kind [] k none is found = cc
none_of kind (other ∷ extents) k {one} none is found = go (other.at == k) found (none_of kind extents k none.1 is)
  where
    go : (b : Bool) → (if b then Some other else extent_at k extents) ≡ Some one → (extent_at k extents ≡ Some one → ⊥) → ⊥
    go true here rest = none.0 (ap (λ o. (unwrap_or o one).kind) here ∙ is)
    go false later rest = rest later

-- The segments of a heap are described anew, with one order of the extents that stay: `less` give way to `more`, and `ahead` come before.
pub record Exchange {A : Type 0} (regions : A → List Grant) (word : A → ℕ → ℕ) (heap new : Dlmalloc A) : Type 0 where
  pub now : List Segment
  pub parts : AreSegments (regions new.system) (word new.system) now
  pub apart : AreApart now
  pub told : AreTold (word new.system) new now
  pub some : 0 < new.size
  pub granularity : new.granularity ≡ heap.granularity
  pub ahead : List Extent
  pub first : List Extent
  pub less : List Extent
  pub more : List Extent
  pub last : List Extent
  pub were : extents_in (state_of word heap) ≡ first ++ (less ++ last)
  pub are : extents_all now ≡ ahead ++ (first ++ (more ++ last))

module _ {A : Type 0} {regions : A → List Grant} {word : A → ℕ → ℕ} {heap new : Dlmalloc A}
    (sound : IsSound regions word heap) (it : Exchange regions word heap new) where
  pub exchanged_read : segments_of word new ≡ it.now
  exchanged_read = segments_read (regions new.system) word new it.now it.parts it.told
      (let n = few (regions new.system) (word new.system) it.now it.parts it.apart in omega arith)

  extents_now : extents_in (state_of word new) ≡ it.ahead ++ (it.first ++ (it.more ++ it.last))
  extents_now = ap extents_all exchanged_read ∙ it.are

  distinct_old : AreDistinct (it.first ++ (it.less ++ it.last))
  distinct_old = subst AreDistinct it.were (all_distinct (regions heap.system) (word heap.system) (segments_of word heap) sound.segments sound.apart)

  distinct_all : AreDistinct (it.ahead ++ (it.first ++ (it.more ++ it.last)))
  distinct_all = subst AreDistinct it.are (all_distinct (regions new.system) (word new.system) it.now it.parts it.apart)

  distinct_rest : AreDistinct (it.first ++ (it.more ++ it.last))
  distinct_rest = distinct_second it.ahead (it.first ++ (it.more ++ it.last)) distinct_all

  -- what is found after those ahead is found
  pub exchanged_found : (k : ℕ) {one : Extent} → extent_at k (it.first ++ (it.more ++ it.last)) ≡ Some one →
      extent_at k (extents_in (state_of word new)) ≡ Some one
  exchanged_found k there = ap (extent_at k) extents_now ∙ distinct_later it.ahead (it.first ++ (it.more ++ it.last)) k distinct_all there

  -- what came is found
  pub exchanged_new : (k : ℕ) {one : Extent} → extent_at k it.more ≡ Some one → extent_at k (extents_in (state_of word new)) ≡ Some one
  exchanged_new k there = exchanged_found k (distinct_later it.first (it.more ++ it.last) k distinct_rest (found_more k it.more it.last there))

  -- what is found still is, but for what gave way
  pub exchanged_still : (k : ℕ) {one : Extent} → (extent_at k it.less ≡ Some one → ⊥) →
      extent_at k (extents_in (state_of word heap)) ≡ Some one → extent_at k (extents_in (state_of word new)) ≡ Some one
  exchanged_still k out there = exchanged_found k
      (replaced_found k it.first it.less it.more it.last distinct_rest (λ found. absurd (out found)) (ap (extent_at k) (sym it.were) ∙ there))

  -- and was, but for what came
  pub exchanged_was : (k : ℕ) {one : Extent} → (extent_at k it.ahead ≡ Some one → ⊥) → (extent_at k it.more ≡ Some one → ⊥) →
      extent_at k (extents_in (state_of word new)) ≡ Some one → extent_at k (extents_in (state_of word heap)) ≡ Some one
  exchanged_was k none out there = elim (found_either k it.ahead (it.first ++ (it.more ++ it.last)) (ap (extent_at k) (sym extents_now) ∙ there)) [
    | inl here ↦ absurd (none here)
    | inr later ↦ ap (extent_at k) it.were ∙ replaced_found k it.first it.more it.less it.last distinct_old (λ found. absurd (out found)) later.1
  ]

  -- so it is with the extents of a kind that none has which gave way or came
  pub kind_still : {kind : Kind} → HasNo kind it.less → {one : Extent} → one.kind ≡ kind →
      (k : ℕ) → extent_at k (extents_in (state_of word heap)) ≡ Some one → extent_at k (extents_in (state_of word new)) ≡ Some one
  kind_still {kind} none is k there = exchanged_still k (none_of kind it.less k none is) there

  pub kind_was : {kind : Kind} → HasNo kind it.ahead → HasNo kind it.more → {one : Extent} → one.kind ≡ kind →
      (k : ℕ) → extent_at k (extents_in (state_of word new)) ≡ Some one → extent_at k (extents_in (state_of word heap)) ≡ Some one
  kind_was {kind} ahead more is k there = exchanged_was k (none_of kind it.ahead k ahead is) (none_of kind it.more k more is) there

  pub exchanged_used : HasNo Used it.less → HasNo Used it.ahead → HasNo Used it.more → HasSameUsed (state_of word heap) (state_of word new)
  exchanged_used less ahead more = record {
    still = λ used is there. kind_still less is used.at there;
    before =
        λ used is there. kind_was ahead more is used.at there;
  }

  -- free ones go at some addresses and come at others
  pub exchanged_free : HasNo Free it.ahead → (gone come : List ℕ) → ((k size : ℕ) → extent_at k it.less ≡ Some (extent k size Free) →
      IsIn k gone) → ((k size : ℕ) → extent_at k it.more ≡ Some (extent k size Free) → IsIn k come) →
      ((k : ℕ) → IsIn k gone → IsIn k come ⊎ IsThere k it.less) →
      ((k : ℕ) → IsIn k come → IsIn k gone ⊎ IsThere k it.more) → FreeMoves (state_of word heap) (state_of word new) gone come
  exchanged_free ahead gone come in_less in_more gone_there come_there = record {
    stays = λ k size free out.
        let found = free_stays it.first it.less it.more it.last distinct_rest gone come in_less come_there (ap (extent_at k) (sym it.were) ∙ free) out in
        (exchanged_found k found.0, found.1);
    was = λ k size free out. elim (found_either k it.ahead (it.first ++ (it.more ++ it.last)) (ap (extent_at k) (sym extents_now) ∙ free)) [
      | inl here ↦ absurd (none_of Free it.ahead k ahead refl here)
      | inr later ↦
          let found = free_stays it.first it.more it.less it.last distinct_old come gone in_more gone_there later.1 out in
          (ap (extent_at k) it.were ∙ found.0, found.1)
    ];
  }

  pub none_exchanged : HasNo Free it.ahead → HasNo Free it.less → HasNo Free it.more → FreeMoves (state_of word heap) (state_of word new) [] []
  none_exchanged ahead less more =
      exchanged_free ahead [] [] (λ k size found. absurd (none_of Free it.less k less refl found))
      (λ k size found. absurd (none_of Free it.more k more refl found)) (λ k none. absurd none) (λ k none. absurd none)

  -- the heap is sound, if its victim is a free extent
  pub sound_as : (new.victim_size ≡ 0 → new.victim ≡ 0) → (new.victim_size ≢ 0 →
      extent_at new.victim (extents_in (state_of word new)) ≡ Some (extent new.victim new.victim_size Free)) → IsSound regions word new
  sound_as none there = record {
    granularity = subst IsGranularity (sym it.granularity) sound.granularity;
    segments = subst (AreSegments (regions new.system) (word new.system)) (sym exchanged_read) it.parts;
    apart = subst AreApart (sym exchanged_read) it.apart;
    told = subst (AreTold (word new.system) new) (sym exchanged_read) it.told;
    none = λ gone. absurd (let some = it.some in omega arith);
    no_victim = none;
    victim = there;
  }

  -- so it is, if no free extent gave way and the victim is the same
  pub exchanged_sound : HasNo Free it.less → new.victim ≡ heap.victim → new.victim_size ≡ heap.victim_size → IsSound regions word new
  exchanged_sound less victim victim_size = sound_as (λ none. victim ∙ sound.no_victim (sym victim_size ∙ none))
      (λ there. ap (λ v. extent_at v (extents_in (state_of word new))) victim
      ∙ (kind_still {kind = Free} less {one = extent heap.victim heap.victim_size Free} refl
      heap.victim (sound.victim (λ none. there (victim_size ∙ none))) ∙ (λ i. Some (extent ((sym victim) i) ((sym victim_size) i) Free))))
