-- The slabs of a heap are given back, from the last one on.
use Rattle.std.proofs.Common.{◌≡◌, ◌≢◌, ℕ, ◌+◌, ◌-◌, ◌*◌, ◌<◌, ◌≤◌, inl, inr, Bool, true, false, if◌then◌else◌, List, [], ◌∷◌, ◌++◌, length, length-append, slice_index, refl, sym, ap, ◌∙◌, subst, arith}
use Rattle.std.specs.List.{AllByRecursion}
use Rattle.std.proofs.lemmas.List.{append-nil, append_assoc, get_or_append_left}
use Rattle.std.proofs.Math.Seq.{get_or-append_seam}
use Rattle.heap_memory.specs.declared.grant.Grant.{Grant}
use Rattle.heap_memory.specs.Allocator.{IsFixed}
use Rattle.heap_memory.specs.Events.{Event}
use Rattle.dlmalloc.specs.State.{HeapState, Segment}
use Rattle.dlmalloc.specs.Blocks.{IsBlock, ArePlaced}
use Rattle.dlmalloc.specs.Heap.{state_of}
use Rattle.dlmalloc.specs.Binned.{IsBinned}
use Rattle.dlmalloc.specs.Freed.{freed}
use Rattle.dlmalloc.specs.Released.{releases, left_by_count, taken_back, handed_out}
use Rattle.dlmalloc.specs.Trimmed.{cut_of, cut_off, end_released, is_cut, is_trimmed, trim_releases}
use Rattle.dlmalloc.specs.AfterFree.{after_free, free_releases, is_above_check, regions_after, IsFreed}
use Rattle.dlmalloc.specs.declared.heap.Dlmalloc.{Dlmalloc}
use Rattle.sound_heap.specs.Heap.{IsIntact}
use Rattle.object_pool.specs.Pool.{AreSlabsLaidOut, KeepsOtherBlocks}
use Rattle.object_pool.specs.Emptied.{slabs_freed, slab_releases, regions_left, IsRelease, AreFreed, IsEmptied}
use Rattle.object_pool.proofs.HeapBlocks.{freed_keeps, freed_only}
use Rattle.object_pool.proofs.Numbers.{lt_or_le}
use Rattle.object_pool.proofs.Rates.{rate_after}

-- ---- a free asks its system for nothing

both : (a b : List Event) → AllByRecursion IsRelease a → AllByRecursion IsRelease b → AllByRecursion IsRelease (a ++ b)
both [] b first second = second
both (event ∷ a) b first second = (first.0, both a b first.1 second)

segments_are : (segments : List Segment) → AllByRecursion IsRelease (releases segments)
segments_are [] = tt
segments_are (segment ∷ segments) = (tt, segments_are segments)

end_is : (less : ℕ) (segments : List Segment) → AllByRecursion IsRelease (end_released less segments)
end_is less [] = tt
end_is less (head ∷ rest) = (tt, tt)

trim_is : (frees parts : Bool) (unit pad : ℕ) (heap : HeapState) → AllByRecursion IsRelease (trim_releases frees parts unit pad heap)
trim_is frees parts unit pad heap = made (is_trimmed pad heap)
  where
    cut : (b : Bool) → AllByRecursion IsRelease (if b then end_released (cut_of heap pad) heap.segments else [])
    cut true = end_is (cut_of heap pad) heap.segments
    cut false = tt

    made : (b : Bool) → AllByRecursion IsRelease (if b then cut_off parts unit pad heap ++ releases (taken_back frees (handed_out parts heap.segments)) else [])
    made true = both (cut_off parts unit pad heap) (releases (taken_back frees (handed_out parts heap.segments)))
        (cut (is_cut parts unit pad heap)) (segments_are (taken_back frees (handed_out parts heap.segments)))
    made false = tt

free_is : (frees parts : Bool) (unit : ℕ) (heap : HeapState) (at : ℕ) → AllByRecursion IsRelease (free_releases frees parts unit heap at)
free_is frees parts unit heap at = above (is_above_check heap at)
  where
    above : (b : Bool) → AllByRecursion IsRelease (if b then trim_releases frees parts unit 0 heap else releases (left_by_count frees parts heap at))
    above true = trim_is frees parts unit 0 heap
    above false = segments_are (left_by_count frees parts heap at)

slabs_are : (frees parts : Bool) (unit : ℕ) (slabs : List ℕ) (heap : HeapState) → AllByRecursion IsRelease (slab_releases frees parts unit slabs heap)
slabs_are frees parts unit [] heap = tt
slabs_are frees parts unit (slab ∷ slabs) heap =
    let before = freed (slabs_freed frees parts unit slabs heap) (slab - 16) in
    both (slab_releases frees parts unit slabs heap) (free_releases frees parts unit before (slab - 16))
    (slabs_are frees parts unit slabs heap) (free_is frees parts unit before (slab - 16))

-- ---- the slabs that were given back

-- All but the slabs that are left were given back.
pub record IsEmptying {A : Type 0} (regions : A → List Grant) (word : A → ℕ → ℕ) (follows : A → List Event → A → Type 0)
    (frees parts : Bool) (unit : ℕ) (old : Dlmalloc A) (slabs : List ℕ) (size : ℕ) (heap : Dlmalloc A)
    (left : List ℕ) : Type 0 where
  pub intact : IsIntact regions word heap
  pub laid : AreSlabsLaidOut regions word heap size left
  pub few : length left ≤ length slabs
  pub front : (i : ℕ) → i < length left → slice_index left i ≡ slice_index slabs i
  pub kept : KeepsOtherBlocks word slabs old heap
  pub only : (address n : ℕ) → IsBlock (state_of word heap) address n →
      IsBlock (state_of word old) address n × ((i : ℕ) → length left ≤ i → i < length slabs → slice_index slabs i ≢ address)
  pub back : List ℕ
  pub all : slabs ≡ left ++ back
  pub each : AreFreed regions word follows frees parts unit old back heap
  pub state : state_of word heap ≡ slabs_freed frees parts unit back (state_of word old)
  pub followed : follows old.system (slab_releases frees parts unit back (state_of word old)) heap.system
  pub regions_are : regions heap.system ≡ regions_left frees parts unit back (state_of word old) (regions old.system)
  pub granularity : heap.granularity ≡ old.granularity
  pub rate : heap.rate ≡ old.rate

pub emptying_none : {A : Type 0} (regions : A → List Grant) (word : A → ℕ → ℕ) (follows : A → List Event → A → Type 0)
    (frees parts : Bool) (unit : ℕ) (heap : Dlmalloc A) (slabs : List ℕ) (size : ℕ) →
    follows heap.system [] heap.system → IsIntact regions word heap → AreSlabsLaidOut regions word heap size slabs →
    IsEmptying regions word follows frees parts unit heap slabs size heap slabs
emptying_none regions word follows frees parts unit heap slabs size followed intact laid = record {
  intact = intact;
  laid = laid;
  few = omega arith;
  front = λ i less. refl;
  kept = λ address n block none. record { block = block; bytes = λ k less. refl };
  only = λ address n block. (block, λ i from to. absurd (omega (arith, from, to)));
  back = [];
  all = sym (append-nil slabs);
  each = refl;
  state = refl;
  followed = followed;
  regions_are = refl;
  granularity = refl;
  rate = refl;
}

none_left : (left : List ℕ) → length left ≡ 0 → left ≡ []
none_left [] none = refl
none_left (first ∷ rest) none = absurd (omega (arith, none))

pub emptied : {A : Type 0} (regions : A → List Grant) (word : A → ℕ → ℕ) (follows : A → List Event → A → Type 0)
    (frees parts : Bool) (unit : ℕ) (old heap : Dlmalloc A) (slabs : List ℕ) (size : ℕ) (left : List ℕ) → length left ≡ 0 →
    IsEmptying regions word follows frees parts unit old slabs size heap left → IsEmptied regions word follows frees parts unit old slabs heap
emptied regions word follows frees parts unit old heap slabs size left none e =
    let same : e.back ≡ slabs = sym (e.all ∙ ap (λ (list : List ℕ). list ++ e.back) (none_left left none)) in
    record {
      sound = e.intact.sound;
      linked = e.intact.linked;
      each = subst (λ (list : List ℕ). AreFreed regions word follows frees parts unit old list heap) same e.each;
      kept = e.kept;
      only = λ address n block. (let was = e.only address n block in (was.0, λ i less. was.1 i (omega (arith, none)) less));
      state = e.state ∙ ap (λ (list : List ℕ). slabs_freed frees parts unit list (state_of word old)) same;
      followed = subst (λ (list : List ℕ). follows old.system (slab_releases frees parts unit list (state_of word old)) heap.system) same e.followed;
      releases = slabs_are frees parts unit slabs (state_of word old);
      regions_are = e.regions_are ∙ ap (λ (list : List ℕ). regions_left frees parts unit list (state_of word old) (regions old.system)) same;
      granularity = e.granularity;
      rate = e.rate;
    }

-- No call changes what a system takes back.
fixed_free : {A : Type 0} (regions : A → List Grant) (word : A → ℕ → ℕ) (follows : A → List Event → A → Type 0)
    (zeros frees parts : A → Bool) (unit : A → ℕ) (first : A) (heap : Dlmalloc A) (address : ℕ) (new : Dlmalloc A) →
    IsFixed zeros frees parts unit first heap.system → IsFreed regions word follows (frees heap.system) (parts heap.system)
    (unit heap.system) heap address new →
    IsFreed regions word follows (frees first) (parts first) (unit first) heap address new
fixed_free regions word follows zeros frees parts unit first heap address new fixed back =
    subst (λ (b : Bool). IsFreed regions word follows b (parts first) (unit first) heap address new) fixed.frees_same
    (subst (λ (b : Bool). IsFreed regions word follows (frees heap.system) b (unit first) heap address new) fixed.parts_same
    (subst (λ (n : ℕ). IsFreed regions word follows (frees heap.system) (parts heap.system) n heap address new) fixed.unit_same back))

-- one slab more
module _ {A : Type 0} (regions : A → List Grant) (word : A → ℕ → ℕ) (follows : A → List Event → A → Type 0)
    (follows_on : (x y z : A) (a b c : List Event) → follows x a y → follows y b z → a ++ b ≡ c → follows x c z)
    (frees parts : Bool) (unit : ℕ) (old heap new : Dlmalloc A) (slabs : List ℕ) (size : ℕ) (left rest : List ℕ) (address : ℕ)
    (e : IsEmptying regions word follows frees parts unit old slabs size heap left) (is : left ≡ rest ++ address ∷ [])
    (placed : ArePlaced (regions heap.system) (state_of word heap))
    (back : IsFreed regions word follows frees parts unit heap address new) (linked : IsBinned regions word new) where
  many : length left ≡ length rest + 1
  many = ap length is ∙ length-append rest (address ∷ [])

  final : slice_index left (length rest) ≡ address
  final = ap (λ xs. slice_index xs (length rest)) is ∙ get_or-append_seam rest address [] 0

  same : (i : ℕ) → i < length rest → slice_index rest i ≡ slice_index left i
  same i less = sym (ap (λ xs. slice_index xs i) is ∙ get_or_append_left rest (address ∷ []) 0 i less)

  last_block : IsBlock (state_of word heap) address (64 * size)
  last_block = subst (λ a. IsBlock (state_of word heap) a (64 * size)) final (e.laid.blocks (length rest) (omega (arith, many)))

  pub slab_back : IsEmptying regions word follows frees parts unit old slabs size new rest
  slab_back = record {
    intact = record { sound = back.sound; linked = linked };
    laid = record {
      some = e.laid.some;
      small = e.laid.small;
      blocks = λ i less. subst (λ a. IsBlock (state_of word new) a (64 * size)) (sym (same i less))
          (freed_keeps regions word follows heap new frees parts unit address placed last_block.low back
          (slice_index left i) (64 * size) (e.laid.blocks i (omega (arith, many, less)))
          (λ at. e.laid.distinct i (length rest) (omega (arith, many, less)) (omega (arith, many))
          (λ eq. absurd (omega (arith, eq, less))) (at ∙ sym final))).block;
      distinct = λ i j less_i less_j differ eq. e.laid.distinct i j (omega (arith, many, less_i))
          (omega (arith, many, less_j)) differ (sym (same i less_i) ∙ (eq ∙ same j less_j));
    };
    few = let few = e.few in omega (arith, many, few);
    front = λ i less. same i less ∙ e.front i (omega (arith, many, less));
    kept = λ at n block none.
        let before = e.kept at n block none in
        let few = e.few in
        let apart : at ≢ address = λ eq. none (length rest) (omega (arith, many, few)) (sym (e.front (length rest) (omega (arith, many))) ∙ (final ∙ sym eq)) in
        let now = freed_keeps regions word follows heap new frees parts unit address placed last_block.low back at n before.block apart in
        record { block = now.block; bytes = λ k less. now.bytes k less ∙ before.bytes k less };
    only = λ at n block.
        let was = freed_only regions word follows heap new frees parts unit address placed last_block.low back at n block in
        let before = e.only at n was.0 in (
          before.0,
          λ i from to. elim (lt_or_le i (length left)) [
            | inl here ↦ (let one : i ≡ length rest = omega (arith, many, from, here) in
                λ eq. was.1 (sym eq ∙ (ap (slice_index slabs) one ∙ (sym (e.front (length rest) (omega (arith, many))) ∙ final))))
            | inr past ↦ before.1 i past to
          ],
        );
    back = address ∷ e.back;
    each = (heap, e.each, e.intact.linked, back);
    all = e.all ∙ (ap (λ (list : List ℕ). list ++ e.back) is ∙ append_assoc rest (address ∷ []) e.back);
    state = back.state ∙ ap (λ (h : HeapState). after_free frees parts unit (freed h (address - 16)) (address - 16)) e.state;
    followed = follows_on old.system heap.system new.system (slab_releases frees parts unit e.back (state_of word old))
        (free_releases frees parts unit (freed (state_of word heap) (address - 16)) (address - 16))
        (slab_releases frees parts unit (address ∷ e.back) (state_of word old)) e.followed back.followed
        (ap (λ (h : HeapState). slab_releases frees parts unit e.back (state_of word old) ++ free_releases frees parts unit
        (freed h (address - 16)) (address - 16)) e.state);
    regions_are = back.regions_are
        ∙ (ap (λ (h : HeapState). regions_after frees parts unit (freed h (address - 16)) (address - 16) (regions heap.system)) e.state
        ∙ ap (regions_after frees parts unit (freed (slabs_freed frees parts unit e.back (state_of word old)) (address - 16)) (address - 16)) e.regions_are);
    granularity = back.granularity ∙ e.granularity;
    rate = ap (λ (h : HeapState). h.rate) back.state ∙ (rate_after frees parts unit (freed (state_of word heap) (address - 16)) (address - 16) ∙ e.rate);
  }

-- so it is whatever the system takes back now
pub emptying_more : {A : Type 0} (regions : A → List Grant) (word : A → ℕ → ℕ) (follows : A → List Event → A → Type 0)
    (follows_on : (x y z : A) (a b c : List Event) → follows x a y → follows y b z → a ++ b ≡ c → follows x c z)
    (zeros frees parts : A → Bool) (unit : A → ℕ) (fixed : (x y : A) (events : List Event) → follows x events y → IsFixed zeros frees parts unit x y)
    (old heap new : Dlmalloc A) (slabs : List ℕ) (size : ℕ) (left rest : List ℕ) (address : ℕ) →
    IsEmptying regions word follows (frees old.system) (parts old.system) (unit old.system) old slabs size heap left →
    left ≡ rest ++ address ∷ [] →
    ArePlaced (regions heap.system) (state_of word heap) → IsFreed regions word follows (frees heap.system)
    (parts heap.system) (unit heap.system) heap address new → IsBinned regions word new →
    IsEmptying regions word follows (frees old.system) (parts old.system) (unit old.system) old slabs size new rest
emptying_more regions word follows follows_on zeros frees parts unit fixed old heap new slabs size left rest address e is placed back linked =
    slab_back regions word follows follows_on (frees old.system) (parts old.system) (unit old.system) old heap new slabs size left rest address e is placed
    (fixed_free regions word follows zeros frees parts unit old.system heap address new
    (fixed old.system heap.system (slab_releases (frees old.system) (parts old.system) (unit old.system) e.back
    (state_of word old)) e.followed) back) linked
