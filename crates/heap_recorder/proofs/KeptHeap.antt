-- The regions that are noted are those of the heap.
use Rattle.std.proofs.Common.{◌≡◌, ◌<◌, ◌≤◌, ℕ, zero, suc, ◌+◌, Bool, true, false, ◌&&◌, nat_eq, nat_le, nat_lt, List, [], ◌∷◌, ◌++◌, length, map, Option, Some, None, refl, sym, ◌∙◌, ap, subst, arith}
use Rattle.std.specs.Prelude.{if◌then◌else◌, ⊤}
use Rattle.std.specs.List.{AllByRecursion}
use Rattle.heap_history.specs.declared.history.Held.{Held}
use Rattle.machine_model.specs.declared.answer.Answer.{Answer}
use Rattle.machine_model.specs.declared.answer.Reply.{Reply}
use Rattle.machine_model.specs.declared.answer.Reply.TheVariants.{Block as Placed, Done, Bytes, Byte, Accepted, Released}
use Rattle.machine_model.specs.declared.call.Call.{Call}
use Rattle.machine_model.specs.declared.call.Call.TheVariants.{Malloc, Calloc, Realloc, CRealloc, Free, Write, Read, Map, Unmap, Probe, SetGranularity, Reset}
use Rattle.machine_model.specs.declared.region.Region.{Region}
use Rattle.machine_model.specs.Answer.{NewPages, after, changed, new_pages, slots_of, with_regions}
use Rattle.machine_model.specs.Run.{AreRegionsInOrder, IsAllowedRun, IsHeapRegion, IsGood}
use Rattle.machine_model.specs.State.{State, end_of_region, start}
use Rattle.heap_recorder.specs.Regions.{RegionNotes, has_same_pages, new_held, ended, held_from, regions_from, going, now_after, stays_on, gone_after, regions_noted, regions_at_end}
use Rattle.heap_recorder.specs.Run.{Notes, nothing, noted, notes_from, heap_noted}
use Rattle.heap_recorder.specs.Shown.{count_shown, is_heap_part, shows_part, is_region, state_after, EachRegionIsDrawnOnce}
use Rattle.heap_recorder.proofs.DrawnOnce.{one_more, moments_all}
use Rattle.heap_recorder.proofs.Later.{less_true, less_false, least_true}
use Rattle.heap_recorder.proofs.Merged.{shows_now, IsAfter, AreRising, IsHeldAfter, AreHeldRising, shows_all}
use Rattle.heap_recorder.proofs.Tracked.{bit, left_true, right_true, same_number}

-- ---- regions in their order

rising_one : (s : State) (region : Region) (rest : List Region) → IsHeapRegion s region →
    AllByRecursion (λ later. end_of_region region ≤ later.start) rest → IsAfter region.start rest
rising_one s region [] is order = tt
rising_one s region (next ∷ rest) is order = let some = is.0.1.some in let past = order.0 in omega (arith, some, past)

rising : (s : State) (heap : List Region) → AllByRecursion (IsHeapRegion s) heap → AreRegionsInOrder heap → AreRising heap
rising s [] are order = tt
rising s (region ∷ rest) are order = (rising_one s region rest are.0 order.0, rising s rest are.1 order.1)

-- each that is noted has the address and the pages of one of the heap's
abbrev pub AreSame : List Held → List Region → Type 0
AreSame [] [] = ⊤
AreSame [] (region ∷ heap) = ⊥
AreSame (held ∷ now) [] = ⊥
AreSame (held ∷ now) (region ∷ heap) = (held.start ≡ region.start) × (held.pages ≡ region.pages) × AreSame now heap

held_after : (held : Held) (now : List Held) (region : Region) (heap : List Region) → held.start ≡ region.start →
    AreSame now heap → IsAfter region.start heap → IsHeldAfter held.start now
held_after held [] region [] at same above = tt
held_after held [] region (next ∷ heap) at same above = absurd same
held_after held (one ∷ now) region [] at same above = absurd same
held_after held (one ∷ now) region (next ∷ heap) at same above = let here = same.0 in omega (arith, at, here, above)

held_rising : (now : List Held) (heap : List Region) → AreSame now heap → AreRising heap → AreHeldRising now
held_rising [] [] same are = tt
held_rising [] (region ∷ heap) same are = absurd same
held_rising (held ∷ now) [] same are = absurd same
held_rising (held ∷ now) (region ∷ heap) same are = (held_after held now region heap same.0 same.2 are.0, held_rising now heap same.2 are.1)

going_same : (n : ℕ) (region : Region) (held : List Held) → ((going n region held).start ≡ region.start) × ((going n region held).pages ≡ region.pages)
going_same n region [] = (refl, refl)
going_same n region (h ∷ held) = go (has_same_pages h region) refl
  where
    go : (b : Bool) → has_same_pages h region ≡ b → ((if b then h else new_held n region).start ≡ region.start) × ((if b
        then h
        else new_held n region).pages ≡ region.pages)
    go true is = (
      same_number h.start region.start (left_true (nat_eq h.start region.start) (nat_eq h.pages region.pages)
          is),
      same_number h.pages region.pages (right_true (nat_eq h.start region.start) (nat_eq h.pages region.pages) is),
    )
    go false is = (refl, refl)

after_same : (n : ℕ) (now : List Held) (list : List Region) → AreSame (now_after n now list) list
after_same n now [] = tt
after_same n now (region ∷ list) = (let same = going_same n region (held_from region.start now) in
    (same.0, same.1, after_same n (held_from region.start now) list))

-- ---- when they came and went

abbrev pub AreBegun : ℕ → List Held → Type 0
AreBegun n [] = ⊤
AreBegun n (held ∷ now) = (held.born < n) × AreBegun n now

abbrev pub AreOver : ℕ → List Held → Type 0
AreOver n [] = ⊤
AreOver n (held ∷ gone) = (held.end < n) × AreOver n gone

begun_later : (n : ℕ) (now : List Held) → AreBegun n now → AreBegun (suc n) now
begun_later n [] are = tt
begun_later n (held ∷ now) are = (let less = are.0 in (omega (arith, less)), begun_later n now are.1)

over_later : (n : ℕ) (gone : List Held) → AreOver n gone → AreOver (suc n) gone
over_later n [] are = tt
over_later n (held ∷ gone) are = (let less = are.0 in (omega (arith, less)), over_later n gone are.1)

over_both : (n : ℕ) (gone more : List Held) → AreOver n gone → AreOver n more → AreOver n (gone ++ more)
over_both n [] more are others = others
over_both n (held ∷ gone) more are others = (are.0, over_both n gone more are.1 others)

begun_from : (n start : ℕ) (now : List Held) → AreBegun n now → AreBegun n (held_from start now)
begun_from n start [] are = tt
begun_from n start (held ∷ now) are = go (nat_lt held.start start) (begun_from n start now are.1)
  where
    go : (b : Bool) → AreBegun n (held_from start now) → AreBegun n (if b then held_from start now else held ∷ now)
    go true rest = rest
    go false rest = are

going_begun : (n : ℕ) (region : Region) (now : List Held) → AreBegun n now → (going n region now).born < suc n
going_begun n region [] are = omega arith
going_begun n region (held ∷ now) are = go (has_same_pages held region)
  where
    go : (b : Bool) → (if b then held else new_held n region).born < suc n
    go true = let less = are.0 in omega (arith, less)
    go false = omega arith

after_begun : (n : ℕ) (now : List Held) (list : List Region) → AreBegun n now → AreBegun (suc n) (now_after n now list)
after_begun n now [] are = tt
after_begun n now (region ∷ list) are = (let from = begun_from n region.start now are in
    (going_begun n region (held_from region.start now) from, after_begun n (held_from region.start now) list from))

gone_over : (n : ℕ) (now : List Held) (list : List Region) → AreOver (suc n) (gone_after n now list)
gone_over n [] list = tt
gone_over n (held ∷ now) list = go (stays_on held (regions_from held.start list)) (gone_over n now (regions_from held.start list))
  where
    go : (b : Bool) → AreOver (suc n) (gone_after n now (regions_from held.start list)) →
        AreOver (suc n) (if b then gone_after n now (regions_from held.start list) else ended n held ∷ gone_after n now
        (regions_from held.start list))
    go true rest = rest
    go false rest = (omega arith, rest)

-- ---- what shows of a call

shown_both : (test : Held → Bool) (gone more : List Held) → count_shown test (gone ++ more) ≡ count_shown test
    gone + count_shown test more
shown_both test [] more = omega arith
shown_both test (held ∷ gone) more = let rest = shown_both test gone more in omega (arith, rest)

abbrev pub all_shown : ℕ → ℕ → ℕ → RegionNotes → ℕ
all_shown call start pages notes = count_shown (shows_now call start pages) notes.now + count_shown (shows_part call start pages) notes.gone

-- of an earlier call the same shows after one that lists regions
shown_after : (n k start pages : ℕ) (list : List Region) (notes : RegionNotes) → k < n → AreHeldRising notes.now →
    AreRising list → all_shown k start pages (regions_noted n list notes) ≡ all_shown k start pages notes
shown_after n k start pages list notes less held are =
    let all = shows_all n k start pages notes.now list less held are in
    let both = shown_both (shows_part k start pages) notes.gone (gone_after n notes.now list) in
    omega (arith, all, both)

-- of the last call those show that the heap has
now_shown : (n start pages : ℕ) (now : List Held) (heap : List Region) → AreBegun (suc n) now → AreSame now heap →
    count_shown (shows_now n start pages) now ≡ count_shown (is_region start pages) heap
now_shown n start pages [] [] are same = refl
now_shown n start pages [] (region ∷ heap) are same = absurd same
now_shown n start pages (held ∷ now) [] are same = absurd same
now_shown n start pages (held ∷ now) (region ∷ heap) are same =
    (λ i. bit (least_true held.born n (let less = are.0 in omega (arith, less)) i &&
    (nat_eq (same.0 i) start && nat_eq (same.1 i) pages)) + now_shown n start pages now heap are.1 same.2 i)

none_shown : (n start pages : ℕ) (gone : List Held) → AreOver (suc n) gone → count_shown (shows_part n start pages) gone ≡ 0
none_shown n start pages [] are = refl
none_shown n start pages (held ∷ gone) are =
    let rest = none_shown n start pages gone are.1 in
    let over : shows_part n start pages held ≡ false =
    (λ i. nat_le held.born n && (less_false n held.end (let less = are.0 in omega (arith, less)) i && is_heap_part start
    pages held)) ∙ never (nat_le held.born n) in
    let one = ap (λ (b : Bool). bit b + count_shown (shows_part n start pages) gone) over in
    omega (arith, one, rest)
  where
    never : (b : Bool) → (b && false) ≡ false
    never true = refl
    never false = refl

-- ---- the heap of a state

pub changed_heap : (s : State) (call : Call) (reply : Reply) → (changed s call reply).heap ≡ s.heap
changed_heap s (Malloc size align) (Placed number address) = refl
changed_heap s (Calloc size align) (Placed number address) = refl
changed_heap s (Realloc number size) (Placed given address) = refl
changed_heap s (CRealloc number size) (Placed given address) = refl
changed_heap s (Free number) Done = refl
changed_heap s (Write number offset bytes) Done = refl
changed_heap s (Read number offset count) (Bytes bytes) = refl
changed_heap s (Map start pages rights) Done = refl
changed_heap s (Unmap start pages) Done = refl
changed_heap s (Probe at access user) (Byte byte) = refl
changed_heap s (SetGranularity granularity) (Accepted true) = refl
changed_heap s (SetGranularity granularity) (Accepted false) = refl
changed_heap s Reset (Released bytes) = refl
changed_heap s call reply = refl

-- the regions that are noted are the heap's, and came and went before so many calls
record IsKept (n : ℕ) (heap : List Region) (notes : RegionNotes) : Type 0 where
  same : AreSame notes.now heap
  rising : AreRising heap
  begun : AreBegun n notes.now
  over : AreOver n notes.gone

unlisted_heap : (s : State) (new : Option NewPages) (slots : List ℕ) → (with_regions s None new slots).heap ≡ s.heap
unlisted_heap s None slots = refl
unlisted_heap s (Some new) slots = refl

listed_heap : (s : State) (list : List Region) (new : Option NewPages) (slots : List ℕ) → (with_regions s (Some list) new slots).heap ≡ list
listed_heap s list None slots = refl
listed_heap s list (Some new) slots = refl

kept_unlisted : (n : ℕ) (heap : List Region) (notes : RegionNotes) → IsKept n heap notes → IsKept (suc n) heap notes
kept_unlisted n heap notes is = record { same = is.same; rising = is.rising; begun = begun_later n notes.now is.begun; over = over_later n notes.gone is.over }

kept_listed : (n : ℕ) (heap list : List Region) (notes : RegionNotes) → AreRising list → IsKept n heap notes → IsKept (suc n) list (regions_noted n list notes)
kept_listed n heap list notes listed is = record {
  same = after_same n notes.now list;
  rising = listed;
  begun = after_begun n notes.now list is.begun;
  over = over_both (suc n) notes.gone (gone_after n notes.now list) (over_later n notes.gone is.over) (gone_over n notes.now list);
}

-- so it is after each call
kept_after : (s : State) (n : ℕ) (call : Call) (reply : Reply) (regions : Option (List Region)) (new : Option NewPages) (slots : List ℕ) (notes : RegionNotes) →
    AreRising (with_regions (changed s call reply) regions new slots).heap → IsKept n s.heap notes →
    IsKept (suc n) (with_regions (changed s call reply) regions new slots).heap (heap_noted n regions notes)
kept_after s n call reply None new slots notes listed is =
    subst (λ (heap : List Region). IsKept (suc n) heap notes) (sym (unlisted_heap (changed s call reply) new slots
    ∙ changed_heap s call reply)) (kept_unlisted n s.heap notes is)
kept_after s n call reply (Some list) new slots notes listed is =
    let heap = listed_heap (changed s call reply) list new slots in
    subst (λ (regions : List Region). IsKept (suc n) regions (regions_noted n list notes)) (sym heap)
    (kept_listed n s.heap list notes (subst (λ (regions : List Region). AreRising regions) heap listed) is)

-- and shows what showed of earlier calls
showed_after : (s : State) (n k start pages : ℕ) (call : Call) (reply : Reply) (regions : Option (List Region))
    (new : Option NewPages) (slots : List ℕ) (notes : RegionNotes) → k < n →
    AreRising (with_regions (changed s call reply) regions new slots).heap → IsKept n s.heap notes →
    all_shown k start pages (heap_noted n regions notes) ≡ all_shown k start pages notes
showed_after s n k start pages call reply None new slots notes less listed is = refl
showed_after s n k start pages call reply (Some list) new slots notes less listed is =
    shown_after n k start pages list notes less (held_rising notes.now s.heap is.same is.rising)
    (subst (λ (regions : List Region). AreRising regions) (listed_heap (changed s call reply) list new slots) listed)

good_rising : (s : State) → IsGood s → AreRising s.heap
good_rising s good = rising s s.heap good.heap good.heap_order

kept_one : (s : State) (notes : Notes) (call : Call) (answer : Answer) → IsGood (after s call answer) →
    IsKept (length notes.moments) s.heap notes.regions → IsKept (length (noted notes call answer).moments)
    (after s call answer).heap (noted notes call answer).regions
kept_one s notes call answer good is =
    subst (λ (n : ℕ). IsKept n (after s call answer).heap (noted notes call answer).regions) (sym (one_more notes call answer))
    (kept_after s (length notes.moments) call answer.reply answer.regions (new_pages s call answer.reply answer.regions)
    (slots_of answer.large) notes.regions (good_rising (after s call answer) good) is)

-- later calls change nothing of what shows
showed : (s : State) (notes : Notes) (calls : List Call) (answers : List Answer) (k start pages : ℕ) →
    IsAllowedRun s (map Some calls) (map Some answers) → IsKept (length notes.moments) s.heap notes.regions →
    k < length notes.moments →
    all_shown k start pages (notes_from notes calls answers).regions ≡ all_shown k start pages notes.regions
showed s notes [] [] k start pages run is less = refl
showed s notes (call ∷ calls) (answer ∷ answers) k start pages run is less =
    showed (after s call answer) (noted notes call answer) calls answers k start pages run.1
    (kept_one s notes call answer run.0.1 is) (let one = one_more notes call answer in omega (arith, one, less))
    ∙ showed_after s (length notes.moments) k start pages call answer.reply answer.regions
    (new_pages s call answer.reply answer.regions) (slots_of answer.large) notes.regions less
    (good_rising (after s call answer) run.0.1) is
showed s notes [] (answer ∷ answers) k start pages run is less = absurd run
showed s notes (call ∷ calls) [] k start pages run is less = absurd run

last_shown : (n m start pages : ℕ) (heap : List Region) (notes : RegionNotes) → m ≡ suc n → IsKept m heap notes →
    all_shown n start pages notes ≡ count_shown (is_region start pages) heap
last_shown n m start pages heap notes next is =
    let one = now_shown n start pages notes.now heap (subst (λ (k : ℕ). AreBegun k notes.now) next is.begun) is.same in
    let none = none_shown n start pages notes.gone (subst (λ (k : ℕ). AreOver k notes.gone) next is.over) in
    omega (arith, one, none)

shown_then : (s : State) (notes : Notes) (calls : List Call) (answers : List Answer) (k start pages : ℕ) →
    IsAllowedRun s (map Some calls) (map Some answers) → IsKept (length notes.moments) s.heap notes.regions →
    k < length calls →
    all_shown (length notes.moments + k) start pages (notes_from notes calls answers).regions ≡ count_shown
    (is_region start pages) (state_after s calls answers (suc k)).heap
shown_then s notes [] [] k start pages run is less = absurd (omega (arith, less))
shown_then s notes (call ∷ calls) (answer ∷ answers) zero start pages run is less =
    let next = kept_one s notes call answer run.0.1 is in
    let n = length notes.moments in
    let here : n + zero ≡ n = omega arith in
    ap (λ (m : ℕ). all_shown m start pages (notes_from (noted notes call answer) calls answers).regions) here
    ∙ showed (after s call answer) (noted notes call answer) calls answers n start pages run.1 next (let one = one_more notes call answer in omega (arith, one))
    ∙ last_shown n (length (noted notes call answer).moments) start pages (after s call answer).heap
    (noted notes call answer).regions (one_more notes call answer) next
shown_then s notes (call ∷ calls) (answer ∷ answers) (suc k) start pages run is less =
    let next = kept_one s notes call answer run.0.1 is in
    let there : length notes.moments + suc k ≡ length (noted notes call answer).moments + k = (let one = one_more notes call answer in omega (arith, one)) in
    ap (λ (m : ℕ). all_shown m start pages (notes_from (noted notes call answer) calls answers).regions) there
    ∙ shown_then (after s call answer) (noted notes call answer) calls answers k start pages run.1 next (omega (arith, less))
shown_then s notes [] (answer ∷ answers) k start pages run is less = absurd run
shown_then s notes (call ∷ calls) [] k start pages run is less = absurd run

-- at the end of the run each that goes on ends
ended_shown : (calls k start pages : ℕ) (now : List Held) → k < calls →
    count_shown (shows_part k start pages) (map (ended calls) now) ≡ count_shown (shows_now k start pages) now
ended_shown calls k start pages [] less = refl
ended_shown calls k start pages (held ∷ now) less = (λ i. bit (nat_le held.born k &&
    (less_true k calls less i && is_heap_part start pages held)) + ended_shown calls k start pages now less i)

end_shown : (calls k start pages : ℕ) (notes : RegionNotes) → k < calls →
    count_shown (shows_part k start pages) (regions_at_end calls notes) ≡ all_shown k start pages notes
end_shown calls k start pages notes less =
    let both = shown_both (shows_part k start pages) notes.gone (map (ended calls) notes.now) in
    let now = ended_shown calls k start pages notes.now less in
    omega (arith, both, now)

pub parts_drawn : EachRegionIsDrawnOnce
parts_drawn config calls answers run k start_at pages less =
    let notes = notes_from nothing calls answers in
    let count : length notes.moments ≡ length calls = (let all = moments_all (start config) nothing calls answers run in omega (arith, all)) in
    let here : k ≡ 0 + k = omega arith in
    end_shown (length notes.moments) k start_at pages notes.regions (omega (arith, count, less))
    ∙ ap (λ (m : ℕ). all_shown m start_at pages notes.regions) here
    ∙ shown_then (start config) nothing calls answers k start_at pages run (record { same = tt; rising = tt; begun = tt; over = tt }) less
