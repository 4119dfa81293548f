-- What a trim cuts off the top of a sound heap.
use Rattle.dlmalloc.proofs.Names.{◌≡◌, ℕ, ◌+◌, ◌-◌, ◌*◌, ◌/◌, ◌%◌, ◌<◌, ◌≤◌, Bool, true, false, ◌&&◌, ◌==◌, if◌then◌else◌, List, [], ◌∷◌, refl, sym, ◌∙◌, ap, subst, arith, nat_lt, nat_tests, Grant, Event, Released, without_run, cut_of, cut_top, is_cut, without_end, IsShortened, IsCutBack, IndexStays, IsBinned, segments_of, state_of, IsSound, Dlmalloc}
use Rattle.dlmalloc.proofs.Segments.HeadTold.{bare_head}
use Rattle.std.proofs.Math.Nat.{div-mul-le_self}
use Rattle.heap_memory.specs.Runs.{is_in_units}
use Rattle.dlmalloc.specs.Trimmed.{may_go, end_released}
use Rattle.dlmalloc.specs.Shortened.{KeepsAllButTop}
use Rattle.dlmalloc.proofs.Cuts.Chosen.{top_size_is}
use Rattle.dlmalloc.proofs.Extents.Top.{head_tags}
use Rattle.dlmalloc.proofs.Bins.Changes.{binned_same}
use Rattle.dlmalloc.proofs.Requests.Granularity.{granularities_whole}

module _ {A : Type 0} {regions : A → List Grant} {word : A → ℕ → ℕ} {heap : Dlmalloc A} (sound : IsSound regions word heap) (some : 0 < heap.size) where
  -- the bytes that go, by the size of the top
  pub cut_is : (pad : ℕ) → cut_of (state_of word heap) pad ≡ (heap.top_size - (pad + 81)) / heap.granularity * heap.granularity
  cut_is pad = ap (λ top. if nat_lt (pad + 80) top then (top - pad - 80 - 1) / heap.granularity * heap.granularity else 0) (top_size_is sound some)
      ∙ go (nat_lt (pad + 80) heap.top_size) refl
    where
      go : (b : Bool) → nat_lt (pad + 80) heap.top_size ≡ b → (if b then (heap.top_size - pad - 80 - 1) / heap.granularity * heap.granularity
          else 0) ≡ (heap.top_size - (pad + 81)) / heap.granularity * heap.granularity
      go true more = let same : heap.top_size - pad - 80 - 1 ≡ heap.top_size - (pad + 81) = omega arith in
          ap (λ n. n / heap.granularity * heap.granularity) same
      go false few =
          let less : heap.top_size ≤ pad + 80 = grind (arith, nat_tests) in
          let none : heap.top_size - (pad + 81) ≡ 0 = omega arith in
          rw none (let least = div-mul-le_self 0 heap.granularity in omega arith)

  -- whether they go, by the head segment's fields
  pub cut_test : (parts : Bool) (unit pad : ℕ) → is_cut parts unit pad (state_of word heap) ≡
      (may_go parts (cut_of (state_of word heap) pad) (bare_head heap) && is_in_units unit (heap.size - cut_of (state_of word heap) pad))
  cut_test parts unit pad = let there : (heap.size == 0) ≡ false = grind (arith, nat_tests) in rw there refl

  pub cut_answer : (parts : Bool) (unit pad : ℕ) {cut : ℕ} → cut ≡ cut_of (state_of word heap) pad → {may : Bool} →
      may_go parts cut (bare_head heap) ≡ may → (may && is_in_units unit (heap.size - cut)) ≡ is_cut parts unit pad (state_of word heap)
  cut_answer parts unit pad {cut} is test =
      (λ i. (sym test) i && is_in_units unit (heap.size - cut))
      ∙ ((λ i. may_go parts (is i) (bare_head heap) && is_in_units unit (heap.size - is i)) ∙ sym (cut_test parts unit pad))

  module _ (pad : ℕ) {cut : ℕ} (is : cut ≡ (heap.top_size - (pad + 81)) / heap.granularity * heap.granularity) where
    pub cut_whole : cut % 16 ≡ 0
    cut_whole = ap (λ n. n % 16) is ∙ granularities_whole ((heap.top_size - (pad + 81)) / heap.granularity) heap.granularity
        sound.granularity.0 sound.granularity.1

    pub cut_room : 0 < cut → cut + 80 < heap.top_size
    cut_room more = omega (arith, div-mul-le_self (heap.top_size - (pad + 81)) heap.granularity)

-- ---- whether it was cut

-- the bins stay, if all but the top does
abbrev pub binned_but_top : IndexStays → {A : Type 0} {regions : A → List Grant} {word : A → ℕ → ℕ} {old new : Dlmalloc A} →
    IsSound regions word old → KeepsAllButTop regions word old new → 0 < new.size → IsBinned regions word old → IsBinned regions word new
binned_but_top stays sound keeps some = binned_same stays sound keeps.sound (λ k was is boundary tag tag'. (let tags = head_tags keeps.sound some k boundary in
    keeps.words k is tags.0 tags.1)) keeps.bins_same keeps.free keeps.victim_same

-- a heap keeps what it has
all_kept : {A : Type 0} {regions : A → List Grant} {word : A → ℕ → ℕ} {heap : Dlmalloc A} → IsSound regions word heap → KeepsAllButTop regions word heap heap
all_kept sound = record {
  sound = sound;
  used = record { still = λ used is there. there; before = λ used is there. there };
  kept = record { words = λ block there used k low high m. refl; heads = λ block there used. refl };
  free = record { stays = λ k size free out. (free, λ none. none); was = λ k size free out. (free, λ none. none) };
  victim_same = refl;
  bins_same = refl;
  records = λ one is there. there;
  words = λ k inside at_top at_foot. refl;
}

module _ {A : Type 0} {regions : A → List Grant} {word : A → ℕ → ℕ} {follows : A → List Event → A → Type 0} {parts : Bool} {unit : ℕ} {heap : Dlmalloc A}
    {pad : ℕ} where
  not_cut : IsSound regions word heap → follows heap.system [] heap.system →
      is_cut parts unit pad (state_of word heap) ≡ false → IsCutBack regions word follows parts unit heap pad heap
  not_cut sound none isnt = record {
    state = sym (ap (λ b. if b then cut_top (cut_of (state_of word heap) pad) (state_of word heap) else state_of word heap) isnt);
    stays = all_kept sound;
    regions_are = sym (ap (λ b. if b then without_end (cut_of (state_of word heap) pad) (segments_of word heap)
        (regions heap.system) else regions heap.system) isnt);
    followed = subst (λ es. follows heap.system es heap.system) (sym (ap
        (λ b. if b then end_released (cut_of (state_of word heap) pad) (segments_of word heap) else []) isnt)) none;
  }

  was_cut : 0 < heap.size → is_cut parts unit pad (state_of word heap) ≡ true → (new : Dlmalloc A) →
      IsShortened regions word follows heap (cut_of (state_of word heap) pad) new → IsCutBack regions word follows parts unit heap pad new
  was_cut some was new cut = record {
    state = cut.state ∙ sym (ap (λ b. if b then cut_top (cut_of (state_of word heap) pad) (state_of word heap) else state_of word heap) was);
    stays = cut.stays;
    regions_are = cut.regions_are ∙ (sym (head_end (cut_of (state_of word heap) pad) (regions heap.system)) ∙ sym
        (ap (λ b. if b then without_end (cut_of (state_of word heap) pad) (segments_of word heap) (regions heap.system) else regions heap.system) was));
    followed = subst (λ es. follows heap.system es new.system) (sym (head_event (cut_of (state_of word heap) pad))
        ∙ sym (ap (λ b. if b then end_released (cut_of (state_of word heap) pad) (segments_of word heap) else []) was)) cut.followed;
  }
    where
      there : (heap.size == 0) ≡ false
      there = grind (arith, nat_tests)

      head_end : (less : ℕ) (rs : List Grant) → without_end less (segments_of word heap) rs ≡ without_run
          (heap.base + (heap.size - less)) (heap.base + heap.size) rs
      head_end less rs = rw there refl

      head_event : (less : ℕ) → end_released less (segments_of word heap) ≡ Released heap.base heap.size (heap.size - less) ∷ []
      head_event less = rw there refl

  pub cut_back : IsSound regions word heap → 0 < heap.size → follows heap.system [] heap.system → {new : Dlmalloc A} {answer : Bool} → answer ≡ is_cut
      parts unit pad (state_of word heap) → (answer ≡ true → IsShortened regions word follows heap (cut_of (state_of word heap) pad) new) →
      (answer ≡ false → new ≡ heap) → IsCutBack regions word follows parts unit heap pad new
  cut_back sound some none {new} {answer = true} is cut same = was_cut some (sym is) new (cut refl)
  cut_back sound some none {new} {answer = false} is cut same =
      subst (λ h. IsCutBack regions word follows parts unit heap pad h) (sym (same refl)) (not_cut sound none (sym is))
