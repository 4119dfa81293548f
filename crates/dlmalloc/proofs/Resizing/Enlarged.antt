-- A chunk in use, and the extent after it, of which it takes bytes.
use Rattle.dlmalloc.proofs.Names.{◌≡◌, ◌≢◌, ℕ, ◌+◌, ◌%◌, ◌^◌, ◌<◌, ◌≤◌, List, [], ◌∷◌, ◌++◌, Some, refl, sym, ◌∙◌, ap, subst, arith, Grant, HasHead, Extent, Kind, Used, Free, extent_at, extents_in, OnlyBoundariesChange, cut, joined, grown_into, HasSameOthers, IsRunOf, segments_of, state_of, IsSound, Dlmalloc}
use Rattle.dlmalloc.proofs.Extents.Lookup.{extent}
use Rattle.dlmalloc.proofs.Extents.Tiling.{tiles_le}
use Rattle.dlmalloc.proofs.Resizing.EnlargedWords.{both_run}
use Rattle.dlmalloc.proofs.Segments.Among.{with_extents}
use Rattle.dlmalloc.proofs.Moves.OfHeaps.{IsStep, read, found_new, found_again, found_before, keeps_words, stays_sound}
use Rattle.dlmalloc.proofs.Extents.RunReplaced.{run_of, HasNext, has_next, with_next, run_part, run_word}

-- a heap with another system, top and victim
abbrev pub changed : {A : Type 0} → Dlmalloc A → A → ℕ → ℕ → ℕ → ℕ → Dlmalloc A
changed heap system top top_size victim victim_size =
    record heap { system = system; top = top; top_size = top_size; victim = victim; victim_size = victim_size }

-- A chunk in use took bytes of the extent after it, so that it has a given number.
pub record IsEnlarged {A : Type 0} (regions : A → List Grant) (word : A → ℕ → ℕ) (old : Dlmalloc A) (chunk behind : Extent)
    (n whole : ℕ) (new : Dlmalloc A) : Type 0 where
  pub state : state_of word new ≡ grown_into (state_of word old) chunk behind n
  pub held : extent_at chunk.at (extents_in (state_of word new)) ≡ Some (extent chunk.at whole Used)
  pub others : HasSameOthers (state_of word old) (state_of word new) chunk.at chunk.at
  pub sound : IsSound regions word new
  pub words : OnlyBoundariesChange (regions old.system) (state_of word new) (word old.system) (word new.system)

-- Of two lists of extents the second has the chunk with that number of bytes, and both have the same others in use.
pub record IsChunkEnlarged (at whole : ℕ) (less more : List Extent) : Type 0 where
  pub held : extent_at at more ≡ Some (extent at whole Used)
  pub kept : (used : Extent) → used.kind ≡ Used → used.at ≢ at → extent_at used.at less ≡ Some used → extent_at used.at more ≡ Some used
  pub only : (used : Extent) → used.kind ≡ Used → used.at ≢ at → extent_at used.at more ≡ Some used → extent_at used.at less ≡ Some used

-- A heap's victim is one of its extents, and the one that is wanted.
pub record IsVictimLeft {A : Type 0} (word : A → ℕ → ℕ) (heap : Dlmalloc A) (wanted : ℕ) : Type 0 where
  pub none : heap.victim_size ≡ 0 → heap.victim ≡ 0
  pub named : heap.victim_size ≢ 0 → extent_at heap.victim (extents_in (state_of word heap)) ≡ Some (extent heap.victim heap.victim_size Free)
  pub left : heap.victim ≡ wanted

-- ---- the two

module _ {A : Type 0} {regions : A → List Grant} {word : A → ℕ → ℕ} {heap : Dlmalloc A} (sound : IsSound regions word heap) {at size : ℕ}
    (there : extent_at at (extents_in (state_of word heap)) ≡ Some (extent at size Used)) where
  abbrev words : ℕ → ℕ
  words = word heap.system

  abbrev chunk : Extent
  chunk = extent at size Used

  abbrev pub one : IsRunOf words (segments_of word heap) at (at + size) (chunk ∷ [])
  one = run_of (regions heap.system) words (segments_of word heap) sound.segments there

  abbrev pub next : HasNext one.last
  next = has_next (regions heap.system) sound.segments one refl

  module _ {length : ℕ} {kind : Kind} (is : next.next ≡ extent (at + size) length kind) where
    abbrev behind : Extent
    behind = extent (at + size) length kind

    pub two : IsRunOf words (segments_of word heap) at (at + size + length) (chunk ∷ behind ∷ [])
    two = subst (λ e. IsRunOf words (segments_of word heap) at (at + size + e.size) (chunk ∷ e ∷ [])) is
        (with_next (regions heap.system) sound.segments one next)

    pub low : two.segment.base ≤ at
    low = tiles_le words Used two.segment.base two.first at two.first_stand

    pub high : at + size + length ≤ two.segment.base + two.segment.size
    high = tiles_le words kind (at + size + length) two.last (two.segment.base + two.segment.size) two.last_stand

    pub end_small : two.segment.base + two.segment.size < 2 ^ 64
    end_small = (run_part (regions heap.system) sound.segments two).high

    pub head_there : (k : ℕ) → at ≤ k → k + 16 ≤ two.segment.base + two.segment.size → k % 8 ≡ 0 → HasHead (regions heap.system) k
    head_there k above below m = record {
      aligned = m;
      small = omega (arith, end_small);
      granted = run_word (regions heap.system) sound.segments two (k + 8) (omega (arith, low)) (omega arith) (omega arith);
    }

    -- what a step leaves, in which the chunk takes bytes
    pub enlarged : {n whole : ℕ} {system : A} {top top_size victim victim_size : ℕ} {less more : List Extent} → regions system ≡ regions heap.system →
        (others : List Extent) (step : IsStep regions word heap (changed heap system top top_size victim victim_size) less more) →
        step.front ++ step.now ∷ step.back ≡ two.front ++ with_extents two.segment (two.first ++ (others ++ two.last)) ∷ two.back →
        cut n (joined chunk behind) ≡ others → IsChunkEnlarged at whole less more →
        IsVictimLeft word (changed heap system top top_size victim victim_size) (grown_into (state_of word heap) chunk behind n).victim →
        IsEnlarged regions word heap chunk behind n whole (changed heap system top top_size victim victim_size)
    enlarged {n} {whole} same others step now parts chunks left = record {
      state = (
          let segments_are = read sound step ∙ (now ∙ (ap (λ es. two.front ++ with_extents two.segment (two.first ++ (es ++ two.last)) ∷ two.back) (sym
          parts) ∙ sym (both_run (regions heap.system) words sound.segments sound.apart chunk behind (λ one behind. cut n (joined one behind)) two))) in
          λ i. record (state_of word heap) { segments = segments_are i; victim = left.left i });
      held = found_new sound step at (extent at whole Used) chunks.held;
      others = record {
        kept = λ used is other again there. found_again sound step used.at (chunks.kept used is other) there;
        only = λ used is other again there. found_before sound step used.at (chunks.only used is other) there;
      };
      sound = stays_sound sound step same refl refl refl refl left.none left.named;
      words = keeps_words sound step;
    }
