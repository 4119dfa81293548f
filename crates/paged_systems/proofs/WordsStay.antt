-- Words of the heap's regions stay where other pages are mapped or unmapped.
use Rattle.std.proofs.Common.{◌≡◌, ℕ, ◌/◌, ◌%◌, ◌^◌, ◌<◌, Bool, true, false, map, refl, sym, ap, ◌∙◌, subst, arith, Some, IsTrue, IsSome, Result, Ok, Err, OnOk, OnErr}
use Rattle.paging_core.specs.Walk.{Place, reach, walk_of}
use Rattle.page_ranges.proofs.Unmapped.{unmapped_words}
use Rattle.paging_core.specs.PageChanges.{among}
use Rattle.paging_core.specs.declared.page_table.Rights.{Rights}
use Rattle.heap_memory.specs.Regions.{is_granted, IsWordOf}
use Rattle.machine_model.specs.Machine.{Paged, HasGotPages}
use Rattle.mapped_regions.specs.Mapped.{IsRegionJoined, IsLeft, word_reached}
use Rattle.mapped_regions.specs.UserRegions.{user_region, CanUnmap}
use Rattle.paged_systems.specs.Layout.{IsPagedKept}
use Rattle.paged_systems.specs.Words.{heap_regions, grant_of, grants_of}
use Rattle.paged_systems.specs.Beside.{KeepsHeapWords}
use Rattle.paged_systems.proofs.HeapRegions.{heap_beside, heap_left}
use Rattle.paged_systems.proofs.Still.{granted_mapped, place_at, word_at_place}

-- ---- pages were added

pub words_added : (old new : Paged) (start pages : ℕ) (rights : Rights) → IsPagedKept old → HasGotPages old new start pages rights →
    (at : ℕ) → IsWordOf (grants_of old) at → word_reached new at ≡ word_reached old at
unfolding walk_of
words_added old new start pages rights kept added at word =
    let place = place_at old at (granted_mapped old at at kept word.granted refl) in
    let there : walk_of new.words new.root (at / 4096) ≡ Some place.0 =
    ap (λ (r : ℕ). walk_of new.words r (at / 4096)) added.root ∙ added.added.pages_added.stayed 4 (at / 4096 % 2 ^ 36) place.0 (omega arith) place.1 in
    word_at_place new at place.0 there
    ∙ (added.added.pages_added.bytes_stay (at / 4096) place.0 (at % 4096 / 8) place.1 (omega arith) ∙ sym (word_at_place old at place.0 place.1))

-- ---- pages left

pub words_left : (old new : Paged) (start pages : ℕ) → 0 < pages → IsPagedKept old → IsPagedKept new →
    grants_of new ≡ grants_of old → IsLeft old new start pages →
    (at : ℕ) → IsWordOf (grants_of old) at → word_reached new at ≡ word_reached old at
unfolding walk_of
words_left old new start pages some_pages kept kept' same left at word =
    let place = place_at old at (granted_mapped old at at kept word.granted refl) in
    let still : IsSome (walk_of new.words new.root (at / 4096)) = granted_mapped new at at kept'
    (subst (λ gs. IsTrue (is_granted gs at)) (sym same) word.granted) refl in
    let in_old : IsSome (reach new.words old.root 4 (at / 4096 % 2 ^ 36)) =
    subst (λ r. IsSome (reach new.words r 4 (at / 4096 % 2 ^ 36))) left.gone.root still in
    let there : reach new.words new.root 4 (at / 4096 % 2 ^ 36) ≡ Some place.0 =
    ap (λ (r : ℕ). reach new.words r 4 (at / 4096 % 2 ^ 36)) left.gone.root
    ∙ (stays place.0 place.1 in_old (among (start / 4096) pages (at / 4096 % 2 ^ 36)) refl ∙ place.1) in
    word_at_place new at place.0 there
    ∙ (unmapped_words old.words new.words old.free new.free old.root (start / 4096) pages some_pages kept.mapped.tree
    left.gone.gone (at / 4096 % 2 ^ 36) (at % 4096 / 8) place.0 (omega arith)
    (sym (ap (λ (r : ℕ). reach new.words r 4 (at / 4096 % 2 ^ 36)) left.gone.root) ∙ there)
    ∙ sym (word_at_place old at place.0 place.1))
  where
    -- a page that is mapped still is not one of those that left
    stays : (place : Place) → reach old.words old.root 4 (at / 4096 % 2 ^ 36) ≡ Some place → IsSome (reach new.words old.root 4 (at / 4096 % 2 ^ 36)) →
        (b : Bool) → among (start / 4096) pages (at / 4096 % 2 ^ 36) ≡ b →
        reach new.words old.root 4 (at / 4096 % 2 ^ 36) ≡ reach old.words old.root 4 (at / 4096 % 2 ^ 36)
    stays place was some false beside = left.gone.gone.pages_stay (at / 4096 % 2 ^ 36) beside
    stays place was some true gone = absurd (let none = left.gone.gone.gone (at / 4096 % 2 ^ 36) gone in let no = subst IsSome none some in cc)

-- ---- regions of the user

pub beside_joined : {A B : Type 0} (answer : Result A B) (old new : Paged) (start pages : ℕ) (rights : Rights) →
    OnOk answer (IsRegionJoined old new (user_region start pages rights)) → OnErr answer (new ≡ old) → IsPagedKept old →
    KeepsHeapWords old new
beside_joined (Ok a) old new start pages rights ok err kept = record {
  regions = ap (λ regions. map grant_of (heap_regions regions)) ok.regions ∙ ap (map grant_of) (heap_beside (user_region start pages rights) old.regions refl);
  words = words_added old new start pages rights kept ok.added;
}
beside_joined (Err e) old new start pages rights ok err kept = record { regions = ap grants_of err; words = λ at word. ap (λ p. word_reached p at) err }

pub beside_left : {A B : Type 0} (answer : Result A B) (old new : Paged) (start pages : ℕ) →
    OnOk answer (IsLeft old new start pages) → OnOk answer (CanUnmap old start pages) → OnErr answer (new ≡ old) →
    IsPagedKept old → IsPagedKept new → KeepsHeapWords old new
beside_left (Ok a) old new start pages ok can err kept kept' =
    let same : grants_of new ≡ grants_of old =
    ap (λ regions. map grant_of (heap_regions regions)) ok.regions ∙ ap (map grant_of) (heap_left start pages 0 (2 ^ 64) old.regions kept.laid can.there) in
    record { regions = same; words = words_left old new start pages can.range.1.some kept kept' same ok }
beside_left (Err e) old new start pages ok can err kept kept' = record { regions = ap grants_of err; words = λ at word. ap (λ p. word_reached p at) err }
