-- What a free does further, by the free extent that its chunk became part of.
use Rattle.dlmalloc.proofs.Names.{◌≡◌, ◌≢◌, ℕ, ◌+◌, ◌<◌, ◌≤◌, inl, inr, Bool, true, false, ◌&&◌, ◌==◌, if◌then◌else◌, List, [], Some, refl, sym, ◌∙◌, ap, subst, arith, dec_lt, nat_le, nat_lt, unwrap_or, option_map, nat_tests, Grant, Event, Extent, Kind, Top, extent_at, IsFreeAround, counted, left_by_count, releases, regions_without, IsCounted, after_trim, trimmed, regions_trimmed, IsTrimmed, is_above_check, IsSettled, segments_of, state_of, IsSound, Dlmalloc}
use Rattle.dlmalloc.specs.State.{is_top as is_the_top}
use Rattle.dlmalloc.specs.Order.{after_count}
use Rattle.dlmalloc.specs.Trimmed.{trim_releases}
use Rattle.dlmalloc.specs.AfterFree.{is_top_with}
use Rattle.dlmalloc.proofs.Extents.Lookup.{nat_is, nat_same, the_extent}
use Rattle.dlmalloc.proofs.Cuts.Chosen.{top_place}
use Rattle.dlmalloc.proofs.Cuts.FoundByTest.{find_only, find_none}
use Rattle.dlmalloc.proofs.Extents.OneMoreUsed.{AreDistinct}
use Rattle.dlmalloc.proofs.Segments.Among.{extents_all, all_distinct}
use Rattle.dlmalloc.proofs.Extents.Disjoint.{beside}
use Rattle.dlmalloc.proofs.Segments.HeadTop.{some_segment}
use Rattle.dlmalloc.proofs.Extents.Top.{top_among}
use Rattle.dlmalloc.proofs.Frees.Counted.{top_told, counted_none}

-- ---- the top, or none

-- what the test says
record IsTopWith (at : ℕ) (extent : Extent) : Type 0 where
  pub kind : extent.kind ≡ Top
  pub low : extent.at ≤ at
  pub high : at < extent.at + extent.size

top_with : (at : ℕ) (one : Extent) → is_top_with at one ≡ true → IsTopWith at one
top_with at one test = go one.kind refl test
  where
    go : (kind : Kind) → one.kind ≡ kind → (is_the_top kind && (nat_le one.at at && nat_lt at (one.at + one.size))) ≡ true → IsTopWith at one
    go Top is test = record { kind = is; low = grind (arith, nat_tests); high = grind (arith, nat_tests) }
    go kind is test = absurd (cc)

module _ {A : Type 0} {regions : A → List Grant} {word : A → ℕ → ℕ} {heap : Dlmalloc A} (sound : IsSound regions word heap) {at from : ℕ}
    (around : IsFreeAround (state_of word heap) at from) where
  abbrev one : Extent
  one = around.extent

  abbrev all : List Extent
  all = extents_all (segments_of word heap)

  there : extent_at one.at all ≡ Some one
  there = subst (λ a. extent_at a all ≡ Some one) (sym around.place) around.there

  apart : AreDistinct all
  apart = all_distinct (regions heap.system) (word heap.system) (segments_of word heap) sound.segments sound.apart

  -- the one that has the chunk's first byte is the top, if it begins there
  size : from ≡ heap.top → one.size ≡ heap.top_size
  size is = ap (λ e. e.size) (the_extent (sym there ∙ (ap (λ a. extent_at a all) (around.place ∙ is)
      ∙ (top_among sound (some_segment word heap one.at there)))))

  pub above_top : from ≡ heap.top → is_above_check (state_of word heap) at ≡ nat_lt heap.trim_check heap.top_size
  above_top is = ap (λ o. nat_lt heap.trim_check (unwrap_or (option_map (λ extent. extent.size) o) 0)) (find_only (is_top_with at) all apart
      (top_among sound (some_segment word heap one.at there)) holds (λ other found test. top_place sound found (top_with at other test).kind))
    where
      holds : (nat_le heap.top at && nat_lt at (heap.top + heap.top_size)) ≡ true
      holds = (let low : heap.top ≤ at = omega arith in let high : at < heap.top + heap.top_size = omega (arith, size is) in grind (arith, nat_tests))

  pub above_none : from ≢ heap.top → is_above_check (state_of word heap) at ≡ false
  above_none differs = ap (λ o. nat_lt heap.trim_check (unwrap_or (option_map (λ extent. extent.size) o) 0))
      (find_none (is_top_with at) all apart (λ other found test. (let t = top_with at other test in let low = t.low in let high = t.high in
      elim (beside (regions heap.system) (word heap.system) (segments_of word heap) sound.segments sound.apart there found
      (λ same. differs (sym around.place ∙ (same ∙ top_place sound found t.kind)))) [
        | inl before ↦ omega arith
        | inr behind ↦ omega arith
      ]))) ∙ never heap.trim_check
    where
      never : (n : ℕ) → nat_lt n 0 ≡ false
      never n = grind (arith, nat_tests)

  -- so a freed chunk above the check is one of the top's bytes
  pub top_around : is_above_check (state_of word heap) at ≡ true → (from ≡ heap.top) × (at < heap.top + heap.top_size)
  top_around above = go (from == heap.top) refl
    where
      go : (b : Bool) → (from == heap.top) ≡ b → (from ≡ heap.top) × (at < heap.top + heap.top_size)
      go true is =
          let place : from ≡ heap.top = nat_is is in
          (place, omega (arith, size place))
      go false isnt = absurd (let under = above_none (λ same. (let is : (from == heap.top) ≡ true =
          ap (λ n. n == heap.top) same ∙ nat_same heap.top in cc)) in cc)

-- ---- so it is settled

module _ {A : Type 0} (regions : A → List Grant) (word : A → ℕ → ℕ) (follows : A → List Event → A → Type 0) (frees parts : Bool) (unit : ℕ)
    (old : Dlmalloc A) (at : ℕ) (new : Dlmalloc A) where
  pub settled_counted : is_above_check (state_of word old) at ≡ false →
      IsCounted regions word follows frees parts old at new → IsSettled regions word follows frees parts unit old at new
  settled_counted none c = record {
    state = c.state ∙ sym (ap (λ b. if b then trimmed frees parts unit 0 (state_of word old) else counted frees parts (state_of word old) at) none);
    sound = c.sound;
    used = c.used;
    kept = c.kept;
    words = λ k inside free own out. c.words k inside free out;
    index = λ b. (let a = c.index b in (
      a.0,
      λ n. a.1 n ∙ sym (ap (λ t.
          (if t then after_trim frees parts 0 (state_of word old) b.index else after_count frees parts (state_of word old) at
          b.index) n) none),
    ));
    regions_are = c.regions_are ∙ sym (ap (λ b. if b then regions_trimmed frees parts unit 0 (state_of word old) (regions old.system) else regions_without
        (left_by_count frees parts (state_of word old) at) (regions old.system)) none);
    followed = subst (λ events. follows old.system events new.system) (sym (ap (λ b. if b then trim_releases frees parts unit 0
        (state_of word old) else releases (left_by_count frees parts (state_of word old) at)) none)) c.followed;
  }

  pub settled_trimmed : is_above_check (state_of word old) at ≡ true → {answer : Bool} →
      IsTrimmed regions word follows frees parts unit old 0 answer new → IsSettled regions word follows frees parts unit old at new
  settled_trimmed above t = record {
    state = t.state ∙ sym (ap (λ b. if b then trimmed frees parts unit 0 (state_of word old) else counted frees parts (state_of word old) at) above);
    sound = t.sound;
    used = t.used;
    kept = t.kept;
    words = t.words;
    index = λ b. (let a = t.index b in (
      a.0,
      λ n. a.1 n ∙ sym (ap (λ t.
          (if t then after_trim frees parts 0 (state_of word old) b.index else after_count frees parts (state_of word old) at
          b.index) n) above),
    ));
    regions_are = t.regions_are ∙ sym (ap (λ b. if b then regions_trimmed frees parts unit 0 (state_of word old) (regions old.system) else regions_without
        (left_by_count frees parts (state_of word old) at) (regions old.system)) above);
    followed = subst (λ events. follows old.system events new.system) (sym (ap (λ b. if b then trim_releases frees parts unit 0
        (state_of word old) else releases (left_by_count frees parts (state_of word old) at)) above)) t.followed;
  }

-- if the chunk became part of the top
pub settled_top : {A : Type 0} {regions : A → List Grant} {word : A → ℕ → ℕ} (follows : A → List Event → A → Type 0)
    (follows_none : (x : A) → follows x [] x) (frees parts : Bool) (unit : ℕ) {old : Dlmalloc A} (sound : IsSound regions word old) (at : ℕ) {from : ℕ}
    (around : IsFreeAround (state_of word old) at from) (is : from ≡ old.top) (new : Dlmalloc A) →
    (old.trim_check < old.top_size → (answer : Bool) × IsTrimmed regions word follows frees parts unit old 0 answer new) →
    (old.top_size ≤ old.trim_check → new ≡ old) → IsSettled regions word follows frees parts unit old at new
settled_top {regions} {word} follows follows_none frees parts unit {old} sound at around is new above same = elim (dec_lt old.trim_check old.top_size) [
  | yes more ↦ (let t = above more in settled_trimmed regions word follows frees parts unit old at new (test_is ∙ grind (arith, nat_tests)) t.1)
  | no less ↦ subst (λ heap. IsSettled regions word follows frees parts unit old at heap) (sym (same (omega arith))) (settled_counted regions word follows
      frees parts unit old at old (test_is ∙ (let most : old.top_size ≤ old.trim_check = omega arith in grind (arith, nat_tests)))
      (counted_none follows follows_none frees parts sound at (sym (top_told sound around is))))
]
  where
    test_is : is_above_check (state_of word old) at ≡ nat_lt old.trim_check old.top_size
    test_is = above_top sound around is
