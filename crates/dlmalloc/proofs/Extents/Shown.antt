-- Extents as they are shown: the victim is distinguished from the other free ones.
use Rattle.dlmalloc.proofs.Names.{◌≡◌, ◌≢◌, ℕ, inl, inr, Bool, true, false, ◌&&◌, ◌==◌, if◌then◌else◌, List, [], ◌∷◌, map, Some, refl, sym, ◌∙◌, ap, subst, option_map, Extent, Kind, Used, Free, Victim, Record, is_free, is_named_victim, is_foot, ends_segment, IsSize, extent_at, MayStand, HeapState, shown}
use Rattle.dlmalloc_chunks.specs.Kinds.{is_top}
use Rattle.dlmalloc.proofs.Extents.Lookup.{nat_is}

-- what an extent is shown as has its size and place, and its kind but for the victim
pub record IsShownAs (victim : ℕ) (extent other : Extent) : Type 0 where
  pub place : other.at ≡ extent.at
  pub size : other.size ≡ extent.size
  pub free : is_free other.kind ≡ is_free extent.kind
  pub top : is_top other.kind ≡ is_top extent.kind
  pub foot : is_foot other.kind ≡ is_foot extent.kind
  pub ends : ends_segment other.kind ≡ ends_segment extent.kind
  pub bytes : IsSize extent.kind extent.size → IsSize other.kind other.size
  pub named : extent.kind ≢ Victim → extent.at ≢ victim → is_named_victim other.kind ≡ false

pub shown_as : (heap : HeapState) (extent : Extent) → IsShownAs heap.victim extent (shown heap extent)
shown_as heap extent = of extent.at extent.size extent.kind
  where
    of : (at size : ℕ) (kind : Kind) → IsShownAs heap.victim (record { at = at; size = size; kind = kind })
        (shown heap (record { at = at; size = size; kind = kind }))
    of at size Free = go (at == heap.victim) refl
      where
        go : (b : Bool) → (at == heap.victim) ≡ b → IsShownAs heap.victim (record { at = at; size = size; kind = Free })
            (if b then record { at = at; size = size; kind = Victim } else record { at = at; size = size; kind = Free })
        go true test = record {
          place = refl;
          size = refl;
          free = refl;
          top = refl;
          foot = refl;
          ends = refl;
          bytes =
              λ h. h;
          named = λ no other. absurd (other (nat_is test));
        }
        go false test = record { place = refl; size = refl; free = refl; top = refl; foot = refl; ends = refl; bytes = λ h. h; named = λ no other. refl }
    of at size Victim = go (at == heap.victim)
      where
        go : (b : Bool) → IsShownAs heap.victim (record { at = at; size = size; kind = Victim })
            (if b then record { at = at; size = size; kind = Victim } else record { at = at; size = size; kind = Victim })
        go true = record { place = refl; size = refl; free = refl; top = refl; foot = refl; ends = refl; bytes = λ h. h; named = λ no other. absurd (no refl) }
        go false = record { place = refl; size = refl; free = refl; top = refl; foot = refl; ends = refl; bytes = λ h. h; named = λ no other. absurd (no refl) }
    of at size kind = record { place = refl; size = refl; free = refl; top = refl; foot = refl; ends = refl; bytes = λ h. h; named = λ no other. refl }

-- so it is found where the extent is
pub shown_found : (heap : HeapState) (at : ℕ) (extents : List Extent) → extent_at at (map (shown heap) extents) ≡ option_map (shown heap) (extent_at at extents)
shown_found heap at [] = refl
shown_found heap at (extent ∷ extents) = ap (λ begin. if begin == at then Some (shown heap extent) else extent_at at (map (shown heap) extents))
    (shown_as heap extent).place ∙ go (extent.at == at) (shown_found heap at extents)
  where
    go : (b : Bool) → extent_at at (map (shown heap) extents) ≡ option_map (shown heap) (extent_at at extents) → (if b then Some
        (shown heap extent) else extent_at at (map (shown heap) extents)) ≡ option_map (shown heap) (if b then Some extent else extent_at at extents)
    go true later = refl
    go false later = later

-- ---- one extent after another

pub record IsPair (first second : Kind) : Type 0 where
  pub inner : ends_segment first ≡ false
  pub apart : (is_free first && is_free second) ≡ false
  pub foot : is_foot second ≡ is_top first

pub pair : (first second : Kind) → MayStand first second → IsPair first second
pair first Used (inl is) = subst (λ k. IsPair k Used) (sym is) (record { inner = refl; apart = refl; foot = refl })
pair first Used (inr is) = subst (λ k. IsPair k Used) (sym is) (record { inner = refl; apart = refl; foot = refl })
pair first Victim is = absurd is
pair first Record (inl is) = subst (λ k. IsPair k Record) (sym is) (record { inner = refl; apart = refl; foot = refl })
pair first Record (inr is) = subst (λ k. IsPair k Record) (sym is) (record { inner = refl; apart = refl; foot = refl })
pair first second is = subst (λ k. IsPair k second) (sym is) (record { inner = refl; apart = refl; foot = refl })

-- heads do not distinguish the victim
pub no_victim_kind : (before kind : Kind) → MayStand before kind → kind ≢ Victim
no_victim_kind before kind h = λ is. subst (MayStand before) is h
