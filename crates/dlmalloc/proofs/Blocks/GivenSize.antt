-- What holds of each block that gets another size, and of each that is cleared.
use Rattle.dlmalloc.proofs.Names.{IfSome, asked, ◌≡◌, ℕ, ◌+◌, ◌-◌, ◌%◌, ◌<◌, ◌≤◌, inl, inr, Bool, true, false, nat_le, List, ◌++◌, Option, None, Some, refl, sym, ◌∙◌, ap, subst, arith, IsPowerOfTwo, Grant, Event, is_granted, IsWordOf, IsBeside, padded, limit, Extent, extent_at, HeapState, extents_in, cut, IsBlock, HasOneMore, joined, has_room, replaced_both, in_place, HasOneMoved, state_of, IsSound, spans, IsHandedOut, words_in, IsSameHeap, IsInPlace, IsElsewhere, IsResized, IsGivenSize, Dlmalloc}
use Rattle.dlmalloc.specs.Blocks.{IsPlaced}
use Rattle.dlmalloc.proofs.Blocks.Chunks.{block_place, block_there, block_placed}
use Rattle.dlmalloc.proofs.Blocks.Words.{written_kept}
use Rattle.dlmalloc.proofs.Segments.RegionsMore.{with_other}
use Rattle.dlmalloc.proofs.Grants.StillGranted.{still_granted}
use Rattle.dlmalloc.proofs.Blocks.HandedOut.{HasSameSpans, spans_changed, halves_freed, found_on, asked_low, handed_low, handed_high}

-- ---- resizing in place leaves the segments where they are

spans_resized : (heap : HeapState) {new : HeapState} (at n : ℕ) → in_place heap at n ≡ Some new → HasSameSpans heap new
spans_resized heap at n is = subst (λ o. IfSome o (HasSameSpans heap)) is (first (extent_at at (extents_in heap)) refl)
  where
    first : (o : Option Extent) → extent_at at (extents_in heap) ≡ o → IfSome (in_place heap at n) (HasSameSpans heap)
    first None none = rw none tt
    first (Some one) there = fit (nat_le n one.size) refl
      where
        behind : nat_le n one.size ≡ false → (o : Option Extent) → extent_at (one.at + one.size) (extents_in heap) ≡ o →
            IfSome (in_place heap at n) (HasSameSpans heap)
        behind more None none = rw (there, more, none) tt
        behind more (Some next) after = room (has_room n (joined one next)) refl
          where
            room : (b : Bool) → has_room n (joined one next) ≡ b → IfSome (in_place heap at n) (HasSameSpans heap)
            room true has = rw (there, more, after, has) (spans_changed (replaced_both one.at (λ one behind. cut n (joined one behind))) heap.segments, refl)
            room false none = rw (there, more, after, none) tt

        rest : nat_le n one.size ≡ true → (b : Bool) → nat_le (n + 32) one.size ≡ b → IfSome (in_place heap at n) (HasSameSpans heap)
        rest fits true much = rw (there, fits, much) (halves_freed heap one.at n (one.at + n))
        rest fits false few = rw (there, fits, few) (refl, refl)

        fit : (b : Bool) → nat_le n one.size ≡ b → IfSome (in_place heap at n) (HasSameSpans heap)
        fit true fits = rest fits (nat_le (n + 32) one.size) refl
        fit false more = behind more (extent_at (one.at + one.size) (extents_in heap)) refl

-- ---- a block that is cleared

-- A block is still handed out, if no word but its own is written.
pub handed_written : {A : Type 0} {regions : A → List Grant} {word : A → ℕ → ℕ} {follows : A → List Event → A → Type 0} →
    ((x y z : A) (a b c : List Event) → follows x a y → follows y b z → a ++ b ≡ c → follows x c z) → {old : Dlmalloc A}
    (middle : Dlmalloc A) {new : Dlmalloc A} {size align address : ℕ} → IsHandedOut regions word follows old size align address middle →
    IsSameHeap regions word follows middle new → ((k : ℕ) → IsWordOf (regions middle.system) k → IsBeside address (words_in size) k →
    word new.system k ≡ word middle.system k) → IsHandedOut regions word follows old size align address new
handed_written {regions} {word} on {old} middle {new} {size} {align} {address} handed same elsewhere = record {
  found = found_on regions word old middle new (padded (asked size align)) on handed.found (ap spans same.state) same.followed same.regions_same;
  granularity = ap (λ h. h.granularity) same.state ∙ handed.granularity;
  small = handed.small;
  low = handed.low;
  block = subst (λ s. IsBlock s address size) (sym same.state) handed.block;
  multiple = handed.multiple;
  aligned = handed.aligned;
  granted = λ k low high. ap (λ rs. is_granted rs k) same.regions_same ∙ handed.granted k low high;
  more = subst (λ s. HasOneMore (state_of word old) s (address - 16)) (sym same.state) handed.more;
  kept = written_kept handed size (omega arith) elsewhere;
  sound = same.sound;
}

-- ---- a block with another size

given_here : {A : Type 0} {regions : A → List Grant} {word : A → ℕ → ℕ} {follows : A → List Event → A → Type 0} {frees parts : Bool} {unit : ℕ}
    {old new : Dlmalloc A} {from held align size address n : ℕ} → IsBlock (state_of word old) from n → align ≤ 16 → address ≡ from →
    IsInPlace regions word follows old from held size new → IsGivenSize regions word follows frees parts unit old from held align size address new
given_here {regions} {word} {old} {new} {from} {align} {size} {address} block few same out = record {
  middle = new;
  found = inl (still.0, out.moved.followed, out.moved.regions_same);
  between = out.moved.sound;
  still = λ grant with_it. absurd (with_other grant (sym with_it ∙ out.moved.regions_same));
  here = λ is. (refl, out.moved.followed);
  elsewhere = λ differs. absurd (differs same);
  granularity = still.1;
  small = subst (λ n. n < limit old.granularity) (asked_low size align few) out.small;
  low = subst (λ a. 16 ≤ a) (sym same) block.low;
  block = there_now;
  multiple = λ is. ap (λ a. a % align) same ∙ is;
  aligned = placed.aligned;
  granted = placed.granted;
  moved = subst (λ a. HasOneMoved (state_of word old) (state_of word new) (from - 16) (a - 16)) (sym same) (record {
    kept = λ used is other there. out.others.kept used is other other there;
    only = λ used is other there. out.others.only used is other other there;
    apart = λ used is other there. other;
    gone = λ used is other there. other;
  });
  kept = out.kept;
  contents = λ k less m. ap (λ a. word new.system (a + k)) same ∙ out.contents k less m;
  sound = out.moved.sound;
}
  where
    there_now : IsBlock (state_of word new) address size
    there_now = subst (λ a. IsBlock (state_of word new) a size) (sym same) out.block

    placed : IsPlaced (regions new.system) address size
    placed = block_placed regions word new out.moved.sound address size there_now

    still : HasSameSpans (state_of word old) (state_of word new)
    still = spans_resized (state_of word old) (from - 16) (padded size) out.state

module _ {A : Type 0} {regions : A → List Grant} {word : A → ℕ → ℕ} {zeros : A → Bool} {follows : A → List Event → A → Type 0}
    (on : (x y z : A) (a b c : List Event) → follows x a y → follows y b z → a ++ b ≡ c → follows x c z) {frees parts : Bool}
    {unit : ℕ} {old new : Dlmalloc A} {from held align size address n : ℕ} (sound : IsSound regions word old)
    (power : IsPowerOfTwo align) (block : IsBlock (state_of word old) from n) where
  module _ (out : IsElsewhere regions word zeros follows frees parts unit old from held align size address new) where
    handed : IsHandedOut regions word follows old size align address out.middle
    handed = elim out.served [
      | inl few ↦ handed_low power few.0 few.1
      | inr many ↦ handed_high many.0 on many.1
    ]

    pub given_elsewhere : IsGivenSize regions word follows frees parts unit old from held align size address new
    given_elsewhere = record {
      middle = out.filled;
      found = found_on regions word old out.middle out.filled (padded (asked size align)) on handed.found (ap spans out.same.state)
          out.same.followed out.same.regions_same;
      between = out.same.sound;
      still = still_granted sound power block out;
      here = λ same. absurd (handed.more.new block.extent block.used (block_there sound block) (omega (arith, block_place sound block)));
      elsewhere = λ differs. out.freed;
      granularity = out.freed.granularity ∙ (ap (λ h. h.granularity) out.same.state ∙ handed.granularity);
      small = handed.small;
      low = handed.low;
      block = out.block;
      multiple = λ is. handed.multiple;
      aligned = handed.aligned;
      granted = (block_placed regions word new out.freed.sound address size out.block).granted;
      moved = record {
        kept = λ used is other there.
            out.freed.less.only used is (ap (λ s. extent_at used.at (extents_in s)) out.same.state ∙ handed.more.kept used is there) other;
        only = λ used is other there.
            handed.more.only used is (ap (λ s. extent_at used.at (extents_in s)) (sym out.same.state) ∙ out.freed.less.kept used is there) other;
        apart = λ used is other there. handed.more.new used is there;
        gone = λ used is other there. out.freed.less.new used is there;
      };
      kept = out.kept;
      contents = out.contents;
      sound = out.freed.sound;
    }

  pub given_size : IsResized regions word zeros follows frees parts unit old from held align size address new →
      IsGivenSize regions word follows frees parts unit old from held align size address new
  given_size (inl here) = given_here block here.0 here.1 here.2
  given_size (inr there) = given_elsewhere there.1
