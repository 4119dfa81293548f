-- Whether a freed chunk counts, by the free extent that it became part of.
use Rattle.dlmalloc.proofs.Names.{◌≡◌, ◌≢◌, ℕ, ◌+◌, ◌-◌, ◌⊎◌, inl, inr, Bool, true, false, not, ◌&&◌, ◌==◌, if◌then◌else◌, List, [], Some, refl, sym, ◌∙◌, ap, subst, arith, find, nat_le, nat_tests, Grant, Event, Extent, Kind, Used, Free, Victim, Top, HasHead, size_of, is_free, MayStand, extent_at, extents_in, is_free_below_top, has, KeepsBlocks, handed_out, taken_back, releases, regions_without, passed, is_counted, left_by_count, IsFreeAround, IsPassed, IsCounted, after_pass, IsSegment, segments_of, state_of, IsSound, Dlmalloc}
use Rattle.dlmalloc.specs.Released.{is_large_binned}
use Rattle.dlmalloc.proofs.Bins.Changes.{same_bins}
use Rattle.dlmalloc.proofs.Extents.Lookup.{extent, nat_same, the_extent}
use Rattle.dlmalloc.proofs.Cuts.Chosen.{top_place}
use Rattle.dlmalloc.proofs.Cuts.FoundByTest.{none_has}
use Rattle.dlmalloc.proofs.Extents.FromWords.{told}
use Rattle.dlmalloc.proofs.Segments.Among.{extents_all, Located, located, of_located, IsIn, in_part}
use Rattle.dlmalloc.proofs.Extents.Tiling.{sized}
use Rattle.dlmalloc.proofs.Extents.Top.{top_among}
use Rattle.dlmalloc.proofs.Segments.HeadTop.{some_segment}
use Rattle.dlmalloc.proofs.Extents.Victim.{has_in}
use Rattle.dlmalloc.proofs.Returns.ReleasePass.{countdown_sound}

module _ {A : Type 0} {regions : A → List Grant} {word : A → ℕ → ℕ} {heap : Dlmalloc A} (sound : IsSound regions word heap) {at from : ℕ}
    (around : IsFreeAround (state_of word heap) at from) where
  abbrev one : Extent
  one = around.extent

  place : one.at ≡ from
  place = around.place

  there : extent_at one.at (extents_all (segments_of word heap)) ≡ Some one
  there = subst (λ a. extent_at a (extents_all (segments_of word heap)) ≡ Some one) (sym place) around.there

  l : Located one.at one (segments_of word heap)
  l = located one.at (segments_of word heap) there

  part : IsSegment (regions heap.system) (word heap.system) l.segment
  part = of_located (IsSegment (regions heap.system) (word heap.system)) l sound.segments

  is_in : IsIn (word heap.system) l.segment.base (l.segment.base + l.segment.size) one
  is_in = in_part (word heap.system) Used l.segment.base l.segment.extents (l.segment.base + l.segment.size) part.extents l.there

  -- its head is granted
  pub around_head : HasHead (regions heap.system) from
  around_head = record {
    aligned = omega (arith, is_in.stands.whole, place);
    small = omega (arith, is_in.high, part.high, (sized one.kind one.size is_in.stands.size).1, place);
    granted = record {
      granted = part.run.covered (from + 8) (omega (arith, is_in.low, place))
          (omega (arith, is_in.high, (sized one.kind one.size is_in.stands.size).1, place));
      aligned =
          omega (arith, is_in.stands.whole, place);
    };
  }

  -- it is the top, or a free chunk before it
  kinds : (kind : Kind) → one.kind ≡ kind → (one.kind ≡ Top) ⊎ (one.kind ≡ Free)
  kinds Free is = inr is
  kinds Victim is = absurd (subst (MayStand is_in.before) is is_in.stands.kind)
  kinds Top is = inl is
  kinds kind is = absurd (let free = around.free in let no : is_free one.kind ≡ false = ap is_free is in cc)

  not_top : one.kind ≡ Free → from ≢ heap.top
  not_top is same =
      let top = top_among sound (some_segment word heap one.at there) in
      let both : Some one ≡ Some (extent heap.top heap.top_size Top) = sym there
      ∙ (ap (λ a. extent_at a (extents_all (segments_of word heap))) (place ∙ same) ∙ top) in
      let no : Free ≡ Top = sym is ∙ ap (λ e. e.kind) (the_extent both) in
      cc

  -- no extent that is not the top has a byte of it
  none_plain : one.kind ≡ Top → is_counted (state_of word heap) at ≡ false
  none_plain is = ap (is_large_binned (state_of word heap))
      (none_has sound there (ap is_free_below_top is) at (omega (arith, place)) (omega (arith, place)))

  -- so its head says whether it counts
  counted_told : {b : Bool} → b ≡ (not (from == heap.top) && (not (from == heap.victim) && nat_le 256
      (size_of (word heap.system (from + 8))))) → b ≡ is_counted (state_of word heap) at
  counted_told b_is = b_is ∙ elim (kinds one.kind refl) [
    | inl is ↦ (let same : (from == heap.top) ≡ true = ap (λ n. n == heap.top) (sym place ∙ top_place sound there is) ∙ nat_same heap.top in
        ap (λ c. not c && (not (from == heap.victim) && nat_le 256 (size_of (word heap.system (from + 8))))) same ∙ sym (none_plain is))
    | inr is ↦ (let other : (from == heap.top) ≡ false = (let n = not_top is in grind (arith, nat_tests)) in
        let found = has_in (regions heap.system) (word heap.system) (segments_of word heap) sound.segments sound.apart at
        there is (omega (arith, place)) (omega (arith, place)) in
        let size : size_of (word heap.system (from + 8)) ≡ one.size = ap (λ a. size_of (word heap.system (a + 8)))
        (sym place) ∙ ap (λ e. e.size) (told (inr is) is_in.stands) in
        ap (λ c. not c && (not (from == heap.victim) && nat_le 256 (size_of (word heap.system (from + 8))))) other
        ∙ ((λ i. not (sym place i == heap.victim) && nat_le 256 (size i)) ∙ sym (counts_some found is)))
  ]
    where
      counts_some : find (has at) (extents_all (segments_of word heap)) ≡ Some one → one.kind ≡ Free →
          is_counted (state_of word heap) at ≡ (not (one.at == heap.victim) && nat_le 256 one.size)
      counts_some found is = ap (is_large_binned (state_of word heap)) found
          ∙ ap (λ plain. (plain && not (one.at == heap.victim)) && nat_le 256 one.size) (ap is_free_below_top is)

  -- not if it is the top, nor if it is the victim
  pub top_told : from ≡ heap.top → false ≡ is_counted (state_of word heap) at
  top_told is = counted_told (sym (ap (λ b. not b && (not (from == heap.victim) && nat_le 256 (size_of (word heap.system (from + 8))))) same))
    where
      same : (from == heap.top) ≡ true
      same = ap (λ n. n == heap.top) is ∙ nat_same heap.top

  other_top : from ≢ heap.top → (from == heap.top) ≡ false
  other_top other = grind (arith, nat_tests)

  pub victim_told : from ≢ heap.top → from ≡ heap.victim → false ≡ is_counted (state_of word heap) at
  victim_told other is = counted_told (sym (λ i. not (other_top other i) && (not (same i) && nat_le 256 (size_of (word heap.system (from + 8))))))
    where
      same : (from == heap.victim) ≡ true
      same = ap (λ n. n == heap.victim) is ∙ nat_same heap.victim

  -- else by its size
  pub size_told : from ≢ heap.top → from ≢ heap.victim → {size : ℕ} → size ≡ size_of (word heap.system (from + 8)) →
      nat_le 256 size ≡ is_counted (state_of word heap) at
  size_told other differs is = counted_told (ap (λ n. nat_le 256 n) is
      ∙ sym (λ i. not (other_top other i) && (not (apart i) && nat_le 256 (size_of (word heap.system (from + 8))))))
    where
      apart : (from == heap.victim) ≡ false
      apart = grind (arith, nat_tests)

-- ---- what follows

-- words that stay keep all blocks
same_words : (blocks : List Extent) (words : ℕ → ℕ) → KeepsBlocks blocks words words
same_words blocks words = record { words = λ block there used k low high m. refl; heads = λ block there used. refl }

module _ {A : Type 0} {regions : A → List Grant} {word : A → ℕ → ℕ} (follows : A → List Event → A → Type 0)
    (follows_none : (x : A) → follows x [] x) (frees parts : Bool) {old : Dlmalloc A} (sound : IsSound regions word old) (at : ℕ) where
  gone_none : ((is_counted (state_of word old) at) && nat_le old.countdown 1) ≡ false → left_by_count frees parts (state_of word old) at ≡ []
  gone_none none = ap (λ b. if b then taken_back frees (handed_out parts (segments_of word old)) else []) none

  -- nothing does
  pub counted_none : (is_counted (state_of word old) at) ≡ false → IsCounted regions word follows frees parts old at old
  counted_none none =
      let gone = gone_none (ap (λ b. b && nat_le old.countdown 1) none) in
      record {
        state = sym (ap (λ b. if b then (if nat_le old.countdown 1 then passed frees parts
            (state_of word old) else record (state_of word old) { countdown = old.countdown - 1 }) else state_of word old) none);
        sound = sound;
        used = record { still = λ used is there. there; before = λ used is there. there };
        kept = same_words (extents_in (state_of word old)) (word old.system);
        words = λ k inside was out. refl;
        index = λ b. (b, λ n. sym (ap (λ c. (if c && nat_le old.countdown 1 then after_pass frees parts (segments_of word old) b.index else b.index) n) none));
        regions_are = sym (ap (λ segments. regions_without segments (regions old.system)) gone);
        followed = subst (λ segments. follows old.system (releases segments) old.system) (sym gone) (follows_none old.system);
      }

  -- the countdown falls
  pub counted_less : (is_counted (state_of word old) at) ≡ true → nat_le old.countdown 1 ≡ false →
      IsCounted regions word follows frees parts old at (record old { countdown = old.countdown - 1 })
  counted_less is more =
      let gone = gone_none ((λ i. is i && more i)) in
      record {
        state = sym ((λ i. if is i then (if more i then passed frees parts (state_of word old)
            else record (state_of word old) { countdown = old.countdown - 1 }) else state_of word old));
        sound = countdown_sound sound (old.countdown - 1);
        used = record { still = λ used is there. there; before = λ used is there. there };
        kept = same_words (extents_in (state_of word old)) (word old.system);
        words = λ k inside was out. refl;
        index = λ b. (
          same_bins (old.countdown - 1) b,
          λ n. sym (λ i. (if is i && more i then after_pass frees parts
              (segments_of word old) b.index else b.index) n),
        );
        regions_are = sym (ap (λ segments. regions_without segments (regions old.system)) gone);
        followed = subst (λ segments. follows old.system (releases segments) old.system) (sym gone) (follows_none old.system);
      }

  -- it ended, and a pass was made
  pub counted_pass : (is_counted (state_of word old) at) ≡ true → nat_le old.countdown 1 ≡ true → {bytes : ℕ} {new : Dlmalloc A} →
      IsPassed regions word follows frees parts old bytes new → IsCounted regions word follows frees parts old at new
  counted_pass is ends {new} p =
      let gone : left_by_count frees parts (state_of word old) at ≡ taken_back frees (handed_out parts (segments_of word old)) =
      (λ i. if is i && ends i then taken_back frees (handed_out parts (segments_of word old)) else []) in
      record {
        state = p.state ∙ sym ((λ i. if is i then (if ends i then passed frees parts
            (state_of word old) else record (state_of word old) { countdown = old.countdown - 1 }) else state_of word old));
        sound = p.sound;
        used = p.used;
        kept = p.kept;
        words = p.words;
        index = λ b. (let a = p.index b in (
          a.0,
          λ n. a.1 n ∙ sym (λ i. (if is i && ends i then after_pass frees parts
              (segments_of word old) b.index else b.index) n),
        ));
        regions_are = p.regions_are ∙ sym (ap (λ segments. regions_without segments (regions old.system)) gone);
        followed = subst (λ segments. follows old.system (releases segments) new.system) (sym gone) p.followed;
      }
