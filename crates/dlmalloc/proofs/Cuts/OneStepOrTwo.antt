-- A chunk that is cut, as one step or as two.
use Rattle.dlmalloc.proofs.Names.{◌≡◌, ◌≢◌, ℕ, ◌+◌, ◌-◌, ◌^◌, ◌<◌, ◌≤◌, inl, inr, Bool, true, false, ◌==◌, List, [], ◌∷◌, Some, None, refl, sym, ◌∙◌, ap, subst, arith, nat_tests, Grant, Event, Granted, IsWordOf, padded, limit, round_up, Extent, Free, Top, Record, extent_at, extents_in, is_free_below_top, IsBlock, HasOneMore, IsBoundary, IsOwn, IsInRecord, OnlyOwnOrTagsChange, chosen, IsChosen, taken, state_of, IsSound, IsBehindTop, IsObtained, IsMoved, IsCutOut, IsServed, IsTurned, KeepsOrder, Dlmalloc}
use Rattle.dlmalloc.proofs.Cuts.Grown.{IsGrown}
use Rattle.dlmalloc.proofs.Extents.Lookup.{extent, nat_is, the_extent}
use Rattle.dlmalloc.proofs.Blocks.WordsKept.{blocks_law, blocks_law_tags}
use Rattle.dlmalloc.proofs.Blocks.Chunks.{block_placed}
use Rattle.dlmalloc.proofs.Extents.NoRoom.{full}
use Rattle.dlmalloc.proofs.Segments.Head.{behind_first}
use Rattle.dlmalloc.proofs.Segments.RegionsMore.{word_kept, word_fresh, none_fresh, with_other}
use Rattle.dlmalloc.proofs.Requests.Plain.{taken_block}
use Rattle.dlmalloc.proofs.Extents.Top.{top_among}

-- a move with no change of bins is one with them
pub as_turned : {A : Type 0} {regions : A → List Grant} {word : A → ℕ → ℕ} {follows : A → List Event → A → Type 0} {old new : Dlmalloc A} →
    IsMoved regions word follows old new → IsTurned regions word follows old new
as_turned moved = record {
  sound = moved.sound;
  words = λ k inside was own.
      moved.words k inside (λ boundary. own (inl boundary));
  regions_same = moved.regions_same;
  followed = moved.followed;
}

module _ {A : Type 0} {regions : A → List Grant} {word : A → ℕ → ℕ} {zeros : A → Bool}
    {follows : A → List Event → A → Type 0} {old : Dlmalloc A} (sound : IsSound regions word old) (n : ℕ) where
  -- an extent of the heap was chosen, and cut
  pub cut_here : {new : Dlmalloc A} {chunk : Extent} → IsChosen (state_of word old) n chunk → n ≤ chunk.size → chunk.at + 16 < 2 ^ 64 →
      state_of word new ≡ taken (state_of word old) chunk n → HasOneMore (state_of word old) (state_of word new) chunk.at →
      IsTurned regions word follows old new → IsCutOut regions word zeros follows old n chunk.at new
  cut_here {chunk} is fits small state more moved = record {
    cut = inl (record { extent = chunk; is_chosen = is; place = refl; state = state }, moved.followed, moved.regions_same);
    small = small;
    more = more;
    holds = λ size holds near. subst (λ s. IsBlock s (chunk.at + 16) size) (sym state) (taken_block (state_of word old) n size is.there fits holds near);
    kept = blocks_law sound moved.sound moved.words (extents_in (state_of word old)) (λ block there used. (there, more.kept block used there));
    words = λ k inside was own recorded. moved.words k inside was own;
    own = λ same. moved.words;
    new_words = λ zero k inside fresh own. absurd (none_fresh moved.regions_same k inside fresh);
    sound = moved.sound;
  }

  -- a region was granted, and the top that it made cut
  module _ {middle new : Dlmalloc A} (grown : IsGrown regions word zeros follows old n middle)
      (state : state_of word new ≡ taken (state_of word middle) (extent middle.top middle.top_size Top) n)
      (after : HasOneMore (state_of word middle) (state_of word new) middle.top) (moved : IsMoved regions word follows middle new)
      (head : IsBoundary (state_of word new) (middle.top + 8)) (foot : IsBoundary (state_of word new) (middle.top + middle.top_size + 8))
      (others : (one : Extent) → one.at ≢ middle.top → extent_at one.at (extents_in (state_of word middle)) ≡ Some one →
      extent_at one.at (extents_in (state_of word new)) ≡ Some one) where
    -- what is found there is the top
    is_the_top : {one : Extent} → extent_at one.at (extents_in (state_of word middle)) ≡ Some one → one.at ≡ middle.top →
        extent middle.top middle.top_size Top ≡ one
    is_the_top there same = the_extent (sym (top_among grown.sound grown.there)
        ∙ (ap (λ a. extent_at a (extents_in (state_of word middle))) (sym same) ∙ there))

    boundary_still : (k : ℕ) → IsBoundary (state_of word middle) k → IsBoundary (state_of word new) k
    boundary_still k b = go (b.extent.at == middle.top) refl
      where
        go : (t : Bool) → (b.extent.at == middle.top) ≡ t → IsBoundary (state_of word new) k
        go true same =
            let one = is_the_top b.there (nat_is same) in
            elim (b.is) [
              | inl is ↦ subst (IsBoundary (state_of word new)) (ap (λ a. a + 8) (sym (nat_is same)) ∙ sym is) head
              | inr is ↦ absurd (let plain = is.0 in let no : is_free_below_top Top ≡ is_free_below_top b.extent.kind =
                  ap (λ e. is_free_below_top e.kind) one in cc)
            ]
        go false other = record {
          extent = b.extent;
          there = others b.extent
              (λ same. (let test : (b.extent.at == middle.top) ≡ true = grind (arith, nat_tests) in cc)) b.there;
          is = b.is;
        }

    record_still : {k : ℕ} → IsInRecord (state_of word middle) k → IsInRecord (state_of word new) k
    record_still r = record {
      extent = r.extent;
      there = others r.extent (λ same. (let one = ap (λ e. e.kind) (is_the_top r.there same) in let no : Top ≡ Record = one ∙ r.is in cc)) r.there;
      is = r.is;
      low = r.low;
      high = r.high;
    }

    own_still : (k : ℕ) → IsOwn (state_of word middle) k → IsOwn (state_of word new) k
    own_still k (inl boundary) = inl (boundary_still k boundary)
    own_still k (inr f) = inr (record {
      at = f.at;
      size = f.size;
      free = others (extent f.at f.size Free) (λ same. (let one = ap (λ e. e.kind) (is_the_top f.free same) in let no : Top ≡ Free = one in cc)) f.free;
      low = f.low;
      high = f.high;
    })

    words_cut : OnlyOwnOrTagsChange (regions old.system) (state_of word old) (state_of word new) (word old.system) (word new.system)
    words_cut k inside was own recorded = moved.words k (word_kept grown.grant grown.with_it inside) (λ boundary. own (inl boundary))
        ∙ grown.words k inside was (λ o. own (own_still k o)) (λ r. recorded (record_still r))

    more_cut : HasOneMore (state_of word old) (state_of word new) middle.top
    more_cut = record {
      kept = λ used is there. after.kept used is (grown.used.still used is there);
      only = λ used is there other. grown.used.before used is (after.only used is there other);
      new = λ used is there. after.new used is (grown.used.still used is there);
    }

    pub cut_new : chosen (state_of word old) n ≡ None → middle.top + 16 < 2 ^ 64 → follows old.system
        (Granted (round_up (n + 96) old.granularity) grown.grant ∷ []) new.system → IsCutOut regions word zeros follows old n middle.top new
    cut_new none small followed = record {
      cut = inr (
        grown.grant,
        record {
          none_chosen = none;
          full = full sound n none;
          of_grant = λ is. absurd (let no = grown.apart in cc);
          of_top = λ is. record {
            top = extent middle.top middle.top_size Top;
            is = refl;
            there = ap (λ s. extent_at middle.top (extents_in s)) (sym grown.state) ∙ (top_among grown.sound grown.there);
            place = refl;
            state = state ∙ ap (λ s. taken s (extent middle.top middle.top_size Top) n) grown.state;
          };
          room = grown.long;
          place = elim grown.begins [
            | inl here ↦ inl here
            | inr behind ↦ inr (subst (IsBehindTop (state_of word old) grown.grant) (sym behind.2)
                (behind_first word old grown.grant behind.0 behind.1, (old.top_size, top_among sound behind.0)))
          ];
        },
        followed,
        moved.regions_same ∙ grown.with_it,
        grown.fresh,
      );
      small = small;
      more = more_cut;
      holds = λ size holds near. subst (λ s. IsBlock s (middle.top + 16) size) (sym state)
          (taken_block (state_of word middle) n size (top_among grown.sound grown.there) (let room = grown.room in omega arith) holds near);
      kept = blocks_law_tags sound moved.sound words_cut (extents_in (state_of word old)) (λ block there used. (there, more_cut.kept block used there));
      words = words_cut;
      own = λ same. absurd (with_other grown.grant (sym (moved.regions_same ∙ grown.with_it) ∙ same));
      new_words = λ zero k inside fresh own.
          let there = subst (λ rs. IsWordOf rs k) moved.regions_same inside in
          let within = word_fresh grown.grant (regions old.system) grown.with_it k there fresh in
          moved.words k there (λ boundary. own (inl boundary)) ∙ grown.new_words zero k within.0 within.1 inside.aligned
          (λ is. own (inl (subst (IsBoundary (state_of word new)) (sym is) head))) (λ is. own (inl (subst (IsBoundary (state_of word new)) (sym is) foot)));
      sound = moved.sound;
    }

-- so a block is handed out
pub served : {A : Type 0} {regions : A → List Grant} {word : A → ℕ → ℕ} {zeros : A → Bool} {follows : A → List Event → A → Type 0}
    {old new : Dlmalloc A} (size : ℕ) {n at : ℕ} → n ≡ padded size → size + 8 ≤ n → n ≤ size + 32 → size < limit old.granularity →
    IsCutOut regions word zeros follows old n at new → KeepsOrder regions word old new → IsServed regions word zeros follows old size (at + 16) new
served {regions} {word} {follows} {old} {new} size {n} {at} is holds near small cut order =
    let back : at ≡ at + 16 - 16 = omega arith in
    let placed = block_placed regions word new cut.sound (at + 16) size (cut.holds size holds near) in
    record {
      cut = subst (λ a. IsObtained follows regions old.system (state_of word old) (padded size) a new.system (state_of word new)) back
          (subst (λ n. IsObtained follows regions old.system (state_of word old) n at new.system (state_of word new)) is cut.cut);
      low = omega arith;
      small = small;
      block = cut.holds size holds near;
      aligned = placed.aligned;
      granted = placed.granted;
      more = subst (HasOneMore (state_of word old) (state_of word new)) back cut.more;
      kept = cut.kept;
      words = cut.words;
      own = cut.own;
      new_words = cut.new_words;
      sound = cut.sound;
      order = order;
    }
