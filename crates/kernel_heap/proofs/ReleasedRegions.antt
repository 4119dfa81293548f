-- The regions of a paged system after runs were given back: the heap's are cut, and the user's are as they were.
use Rattle.std.proofs.Common.{◌≡◌, ℕ, ◌+◌, ◌-◌, ◌*◌, ◌/◌, ◌%◌, ◌^◌, ◌<◌, ◌≤◌, ◌⊎◌, inl, inr, Bool, true, false, cond, nat_lt, List, [], ◌∷◌, length, map, refl, sym, ap, ◌∙◌, subst, arith, IsTrue, IsSome, Option, Some, None}
use Rattle.std.specs.Prelude.{if◌then◌else◌, ⊤}
use Rattle.std.specs.List.{AllByRecursion, list_any}
use Rattle.std.proofs.lemmas.Bool.{cases_lt}
use Rattle.std.proofs.lemmas.Bool.Decides.{nat_tests}
use Rattle.paging_core.specs.Address.{is_canonical, IsCanonicalRange}
use Rattle.paging_core.specs.PageChanges.{among}
use Rattle.paging_core.specs.Prefix.{prefix_of}
use Rattle.paging_core.specs.Walk.{reach, large_of, walk_of, reached, top}
use Rattle.paging_core.proofs.Ranges.{page_in}
use Rattle.page_ranges.specs.RangeUnmapping.{AreUnmapped, cuts_large_page}
use Rattle.page_ranges.proofs.Unmapped.{among_is, slot_in, cut_or_not, cut_one, cut_none, cut_is as cut_page_is}
use Rattle.heap_memory.specs.Events.{Event, Granted, Refused, Released}
use Rattle.heap_memory.specs.Regions.{IsApart}
use Rattle.heap_memory.specs.Runs.{IsRun, IsWithin}
use Rattle.machine_model.specs.declared.region.Region.{Region}
use Rattle.machine_model.specs.State.{end_of_region}
use Rattle.machine_model.specs.Slots.{IsSlot, slot_number, has_whole, is_whole_in}
use Rattle.machine_model.specs.Cut.{AreCut}
use Rattle.machine_model.specs.Machine.{Paged, is_of_user}
use Rattle.machine_model.proofs.Booleans.{or_cases}
use Rattle.machine_model.proofs.Settled.{cut_slots}
use Rattle.machine_model.proofs.Slots.{page_slot, page_number, whole_bounds}
use Rattle.mapped_regions.specs.Regions.{AreLaid}
use Rattle.mapped_regions.proofs.Laying.{laid_cut}
use Rattle.mapped_regions.specs.Mapped.{AreGone}
use Rattle.mapped_regions.proofs.Looked.{first_canonical}
use Rattle.paged_systems.specs.Layout.{IsPagedKept}
use Rattle.paged_systems.specs.Released.{IsReleasedFor}
use Rattle.paged_systems.specs.Follows.{Follows, still_none}
use Rattle.paged_systems.specs.Words.{heap_regions, grant_of, grants_of}
use Rattle.paged_systems.proofs.HeapRegions.{granted_same, not_of_user}
use Rattle.paged_systems.proofs.Numbers.{is_less, not_less}
use Rattle.paged_systems.proofs.ReleasedWords.{cut_range, kept_cut}
use Rattle.paged_systems.proofs.RunPages.{AreBeside, is_own, own_granted, none_of_user, begins, count_is, run_own}
use Rattle.paged_systems.proofs.Still.{kept_still}
use Rattle.kernel_heap.proofs.ShortenedRegions.{user_regions, cut_are, users_apart, users_stay, AreShortened, some_not_none, shortened_still, shortened_then, shortened_on}

-- the slot that a range cuts which leaves from a page on
abbrev pub slot_cut : Paged → ℕ → Option ℕ
slot_cut p page = if cuts_large_page p.words p.root page then Some (page / 512 * 2 ^ 21) else None

module _ (old new : Paged) (at size left : ℕ) (kept : IsPagedKept old) (is : IsReleasedFor old new at size left) (less : left < size) where
  laid : AreLaid 0 old.regions (2 ^ 64)
  laid = kept.laid

  gone : AreGone old new (at + left) ((size - left) / 4096)
  gone = is.gone less

  low_page : (at + left) % 4096 ≡ 0
  low_page = let begin = begins 0 (2 ^ 64) at size left old.regions laid is.run less is.in_pages in let pages = is.in_pages in omega arith

  high_is : at + left + 4096 * ((size - left) / 4096) ≡ at + size
  high_is = count_is 0 (2 ^ 64) at size left old.regions laid is.run less is.in_pages

  -- no page of the user is among those that are cut
  other_page : (address k : ℕ) → is_of_user old.regions address ≡ true → k < (size - left) / 4096 → address / 4096 ≡ (at + left) / 4096 + k → ⊥
  other_page address k user among same =
      let l = low_page in
      let h = high_is in
      not_of_user 0 (2 ^ 64) (at + left + 4096 * k) address old.regions laid (omega arith)
      (sym (granted_same (heap_regions old.regions) (at + left + 4096 * k)) ∙ is.run.granted (at + left + 4096 * k) (omega arith) (omega arith)) user

  page_same : (address : ℕ) → IsTrue (is_canonical address) → is_of_user old.regions address ≡ true →
      walk_of new.words old.root (address / 4096) ≡ walk_of old.words old.root (address / 4096)
  page_same address canonical user = gone.gone.others (address / 4096) (first_canonical address canonical)
      (λ k among same. other_page address k user among same)

  abbrev first : ℕ
  first = (at + left) / 4096

  abbrev pages : ℕ
  pages = (size - left) / 4096

  range : IsCanonicalRange first pages
  range = (cut_range old at size left kept is.run less is.in_pages).1

  first_page : IsTrue (is_canonical (first * 4096))
  first_page = range.canonical

  to_root : (words : List ℕ) (level number : ℕ) → reach words new.root level number ≡ reach words old.root level number
  to_root words level number = ap (λ r. reach words r level number) gone.gone.root

  to_large : (words : List ℕ) (number : ℕ) → large_of words new.root number ≡ large_of words old.root number
  to_large words number = ap (λ r. large_of words r number) gone.gone.root

  un : AreUnmapped old.words new.words old.free new.free old.root first pages
  un = gone.gone.gone

  -- the four indices of a page of a slot
  index_of : (k : ℕ) → k < pages → 512 * prefix_of (first + k) 3 + (first + k) % 512 ≡ prefix_of (first + k) 4
  index_of k among = omega arith

  in_range : (k : ℕ) → k < pages → reach new.words old.root 4 (prefix_of (first + k) 4) ≡ None
  in_range k less = un.gone (prefix_of (first + k) 4) (let a = page_in first pages k range less in
      among_is first pages (prefix_of (first + k) 4) (omega arith) (omega arith))

  no_larger : (number : ℕ) → number < 2 ^ 27 → IsSome (large_of new.words new.root number) → IsSome (large_of old.words old.root number)
  no_larger number small some = elim (slot_in first pages number range) [
    | inl inside ↦ absurd (some_not_none (large_of new.words new.root number) some
        (to_large new.words number ∙ (ap (large_of new.words old.root) inside.1.1 ∙ un.large_gone inside.0 inside.1.0)))
    | inr beside ↦ subst IsSome (to_large new.words number ∙ un.larges_stay number beside) some
  ]

  page_gone : (number : ℕ) → number < 2 ^ 27 → IsSome (large_of old.words old.root number) → large_of new.words new.root number ≡ None →
      (k : ℕ) × (k < 512) × (reach new.words new.root 4 (512 * number + k) ≡ None)
  page_gone number small some none = elim (slot_in first pages number range) [
    | inl inside ↦ (
      (first + inside.0) % 512,
      omega arith,
      to_root new.words 4 (512 * number + (first + inside.0) % 512)
          ∙ (ap (λ n. reach new.words old.root 4 (512 * n + (first + inside.0) % 512)) inside.1.1
          ∙ (ap (reach new.words old.root 4) (index_of inside.0 inside.1.0) ∙ in_range inside.0 inside.1.0)),
    )
    | inr beside ↦ absurd (some_not_none (large_of old.words old.root number) some
        (sym (un.larges_stay number beside) ∙ (sym (to_large new.words number) ∙ none)))
  ]

  none_comes : (number : ℕ) → reach old.words old.root 4 number ≡ None → reach new.words new.root 4 number ≡ None
  none_comes number none = to_root new.words 4 number ∙ go (among first pages number) refl
    where
      go : (b : Bool) → among first pages number ≡ b → reach new.words old.root 4 number ≡ None
      go true inside = un.gone number inside
      go false beside = un.pages_stay number beside ∙ none

  -- the slot in which the range begins
  abbrev begun : ℕ
  begun = first / 512 * 2 ^ 21

  begun_number : slot_number begun ≡ prefix_of first 3
  begun_number = page_number first

  walks_by : (cut : Bool) → cuts_large_page old.words old.root first ≡ cut → (level number : ℕ) → level < 4 →
      ((one : ℕ) → (if cut then Some begun else None) ≡ Some one → level ≡ 3 → number ≡ slot_number one → ⊥) →
      reach new.words new.root level number ≡ reach old.words old.root level number
  walks_by true cut level number low other = to_root new.words level number
      ∙ un.tables_stay level number low (λ three at. absurd (other begun refl three (at ∙ sym begun_number)))
  walks_by false none level number low other = to_root new.words level number ∙ un.tables_stay level number low (λ three at. none)

  table_by : (cut : Bool) → cuts_large_page old.words old.root first ≡ cut → (one : ℕ) →
      (if cut then Some begun else None) ≡ Some one → IsSome (reach new.words new.root 3 (slot_number one))
  table_by false none one is = absurd (cc)
  table_by true cut one is = elim (cut_or_not old.words old.root first) [
    | inl page ↦ (
        let one_is : begun ≡ one = cc in
        let there = un.table page.0 page.1 in
        let there' : reach new.words new.root 3 (slot_number one) ≡ Some (top (page.0.frame + first % 512)) =
        ap (λ slot. reach new.words new.root 3 (slot_number slot)) (sym one_is)
        ∙ (ap (reach new.words new.root 3) begun_number ∙ (to_root new.words 3 (prefix_of first 3) ∙ there)) in
        rw there' refl)
    | inr none ↦ absurd (cc)
  ]

  large_by : (cut : Bool) → cuts_large_page old.words old.root first ≡ cut → (one : ℕ) →
      (if cut then Some begun else None) ≡ Some one → IsSlot one × IsSome (large_of old.words old.root (slot_number one))
  large_by false none one is = absurd (cc)
  large_by true cut one is = elim (cut_or_not old.words old.root first) [
    | inl page ↦ (
        let one_is : begun ≡ one = cc in
        let there : large_of old.words old.root (slot_number one) ≡ Some page.0 =
        ap (λ slot. large_of old.words old.root (slot_number slot)) (sym one_is)
        ∙ (ap (large_of old.words old.root) begun_number ∙ page.1.there) in
        (subst IsSlot one_is (page_slot first first_page), rw there refl))
    | inr none ↦ absurd (cc)
  ]

  tables_by : (cut : Bool) → cuts_large_page old.words old.root first ≡ cut → new.tables ≡ old.tables + length (cut_slots (if cut then Some begun else None))
  tables_by true cut = gone.gone.tables ∙ ap (λ n. old.tables + n) (cut_one old.words old.root first cut)
  tables_by false none = gone.gone.tables ∙ ap (λ n. old.tables + n) (cut_none old.words old.root first none)

  run_shortened : AreShortened old new (slot_cut old first)
  run_shortened =
      let g = gone in
      record {
        base = g.gone.base;
        pages_is = g.gone.pages_is;
        root = g.gone.root;
        tables = tables_by (cuts_large_page old.words old.root first) refl;
        joins = g.gone.joins;
        slots = g.gone.slots;
        laid = subst (λ rs. AreLaid 0 rs (2 ^ 64)) (sym g.regions) (laid_cut (at + left) ((size - left) / 4096) 0 (2 ^ 64) old.regions low_page laid);
        cut = subst (AreCut old.regions) (sym g.regions) (cut_are (at + left) ((size - left) / 4096) low_page 0 (2 ^ 64) old.regions laid);
        users = ap user_regions g.regions ∙ users_stay (at + left) ((size - left) / 4096) old.regions
            (users_apart (at + left) ((size - left) / 4096) 0 (2 ^ 64) old.regions laid (let h = high_is in omega arith)
            (λ address from before. none_of_user 0 (2 ^ 64) address old.regions laid
            (run_own 0 (2 ^ 64) at size left old.regions laid is.run less is.in_pages address (omega (arith, from))
            (let h = high_is in omega (arith, before, h)))));
        size = un.size;
        walks = walks_by (cuts_large_page old.words old.root first) refl;
        table = table_by (cuts_large_page old.words old.root first) refl;
        was_large = large_by (cuts_large_page old.words old.root first) refl;
        larges = no_larger;
        large_gone = page_gone;
        pages_go = none_comes;
        user_pages = λ address canonical user. ap (λ r. walk_of new.words r (address / 4096)) g.gone.root ∙ page_same address canonical user;
        user_bytes = λ address canonical user some. ap (λ r. reached new.words r address) g.gone.root
            ∙ g.gone.bytes address (subst IsSome (sym (page_same address canonical user)) some);
      }

-- ---- whole runs cut no slot

own_from : (from to address : ℕ) (regions : List Region) → AreLaid from regions to → list_any (is_own address) regions ≡ true → from ≤ address
own_from from to address [] laid is = absurd (let no : false ≡ true = is in cc)
own_from from to address (region ∷ rest) laid is = elim (or_cases (is_own address region) (list_any (is_own address) rest) is) [
  | inl here ↦ (let low = laid.0 in grind (arith, nat_tests))
  | inr later ↦ (let low = laid.0 in let behind = own_from (end_of_region region) to address rest laid.3 later in omega (arith, low, behind))
]

whole_from : (from to slot : ℕ) (regions : List Region) → AreLaid from regions to → is_whole_in regions slot ≡ true → from ≤ slot
whole_from from to slot [] laid is = absurd (let no : false ≡ true = is in cc)
whole_from from to slot (region ∷ rest) laid is = elim (or_cases (has_whole slot region) (is_whole_in rest slot) is) [
  | inl here ↦ (let low = laid.0 in let bounds = whole_bounds slot region here in omega (arith, low, bounds.0))
  | inr later ↦ (let low = laid.0 in let behind = whole_from (end_of_region region) to slot rest laid.3 later in omega (arith, low, behind))
]

-- No region has all of a slot in which a run begins behind the first byte: the run is made of whole regions.
none_whole : (low high slot from to : ℕ) (regions : List Region) → AreLaid from regions to → low < high → slot < low →
    low < slot + 2 ^ 21 → AreBeside low high regions →
    list_any (is_own low) regions ≡ true → is_whole_in regions slot ≡ true → ⊥
none_whole low high slot from to [] laid some after before beside own whole = let no : false ≡ true = own in cc
none_whole low high slot from to (region ∷ rest) laid some after before beside own whole =
    go region.heap refl (or_cases (is_own low region) (list_any (is_own low) rest) own) (or_cases (has_whole slot region) (is_whole_in rest slot) whole)
    (λ all. none_whole low high slot (end_of_region region) to rest laid.3 some after before all)
  where
    go : (heap : Bool) → region.heap ≡ heap → (is_own low region ≡ true) ⊎ (list_any (is_own low) rest ≡ true) →
        (has_whole slot region ≡ true) ⊎ (is_whole_in rest slot ≡ true) →
        (AreBeside low high rest → list_any (is_own low) rest ≡ true → is_whole_in rest slot ≡ true → ⊥) → ⊥
    -- it has the run's first byte, so it is the region that begins the run, or one of the user, and then no other has the byte
    go true heap at (inl all) later =
        let each = subst (λ (b : Bool). AllByRecursion (λ grant. IsApart low high grant ⊎ IsWithin low high grant)
        (map grant_of (cond b (region ∷ heap_regions rest) (heap_regions rest)))) heap beside in
        let bounds = whole_bounds slot region all in
        elim each.0 [
          | inl (inl below) ↦ omega (arith, bounds.1, below)
          | inl (inr above) ↦ omega (arith, bounds.0, above)
          | inr within ↦ (let from' = within.0 in omega (arith, bounds.0, from'))
        ]
    go false user (inl here) all later = grind (arith, nat_tests)
    go false user (inr at) (inl all) later = (let bounds = whole_bounds slot region all in let behind =
        own_from (end_of_region region) to low rest laid.3 at in omega (arith, bounds.1, behind))
    go true heap (inl here) (inr all) later = (let behind = whole_from (end_of_region region) to slot rest laid.3 all in grind (arith, nat_tests))
    go true heap (inr at) (inr all) later =
        later (subst (λ (b : Bool). AllByRecursion (λ grant. IsApart low high grant ⊎ IsWithin low high grant)
        (map grant_of (cond b (region ∷ heap_regions rest) (heap_regions rest)))) heap beside).1 at all
    go false user (inr at) (inr all) later =
        later (subst (λ (b : Bool). AllByRecursion (λ grant. IsApart low high grant ⊎ IsWithin low high grant)
        (map grant_of (cond b (region ∷ heap_regions rest) (heap_regions rest)))) user beside) at all

-- a whole run cuts no slot
whole_run : (old : Paged) (at size : ℕ) → IsPagedKept old → IsRun (grants_of old) at (at + size) → 0 < size →
    IsTrue (is_canonical (at / 4096 * 4096)) → at % 4096 ≡ 0 → slot_cut old (at / 4096) ≡ None
whole_run old at size kept run some canonical page = elim (cut_or_not old.words old.root (at / 4096)) [
  | inr none ↦ rw none refl
  | inl cut ↦ absurd (
      let slot = at / 4096 / 512 * 2 ^ 21 in
      let there : IsSome (large_of old.words old.root (slot_number (at / 4096 / 512 * 2 ^ 21))) =
      (let at_slot : large_of old.words old.root (slot_number (at / 4096 / 512 * 2 ^ 21)) ≡ Some cut.0 =
      ap (large_of old.words old.root) (page_number (at / 4096)) ∙ cut.1.there in rw at_slot refl) in
      let whole = kept.mapped.larges (at / 4096 / 512 * 2 ^ 21) (page_slot (at / 4096) canonical) there in
      let behind = cut.1.behind in
      none_whole at (at + size) (at / 4096 / 512 * 2 ^ 21) 0 (2 ^ 64) old.regions kept.laid run.some
      (omega (arith, behind, page)) (omega (arith, page)) run.whole
      (sym (own_granted at old.regions) ∙ run.granted at (omega arith) (omega (arith, some))) whole)
]

-- ---- events

-- the slot that is cut where what is behind the first `left` bytes of a run goes
abbrev pub slot_of_event : Paged → ℕ → ℕ → ℕ → Option ℕ
slot_of_event p at size left = if nat_lt left size then slot_cut p ((at + left) / 4096) else None

pub released_shortened : (old new : Paged) (at size left : ℕ) → IsPagedKept old → IsReleasedFor old new at size left →
    AreShortened old new (slot_of_event old at size left)
released_shortened old new at size left kept is = elim (cases_lt left size) [
  | inr more ↦ (let test : nat_lt left size ≡ false = not_less left size more in
      rw test (subst (λ (p : Paged). AreShortened old p None) (sym (is.none (let w = is.within in omega arith)))
      (shortened_still old old kept.laid (still_none old))))
  | inl less ↦ (let test : nat_lt left size ≡ true = is_less left size less in rw test (run_shortened old new at size left kept is less))
]

-- a whole run, which cuts no slot
pub whole_shortened : (old new : Paged) (at size : ℕ) → IsPagedKept old → IsReleasedFor old new at size 0 → AreShortened old new None
whole_shortened old new at size kept is = subst (AreShortened old new) (none (cases_lt 0 size)) (released_shortened old new at size 0 kept is)
  where
    none : (0 < size) ⊎ (size ≤ 0) → slot_of_event old at size 0 ≡ None
    none (inr empty) = let test : nat_lt 0 size ≡ false = not_less 0 size empty in rw test refl
    none (inl some) =
        let test : nat_lt 0 size ≡ true = is_less 0 size some in
        let same : at + 0 ≡ at = omega arith in
        let begin = begins 0 (2 ^ 64) at size 0 old.regions kept.laid is.run some (omega arith) in
        let range = (cut_range old at size 0 kept is.run some (omega arith)).1 in
        let canonical : IsTrue (is_canonical (at / 4096 * 4096)) = subst (λ (a : ℕ). IsTrue (is_canonical (a / 4096 * 4096))) same range.canonical in
        rw test (ap (λ (a : ℕ). slot_cut old (a / 4096)) same ∙ whole_run old at size kept is.run some canonical begin)

-- only runs were given back, whole but perhaps the first
abbrev IsWholeRelease : Event → Type 0
IsWholeRelease (Granted asked grant) = ⊥
IsWholeRelease (Refused asked fault) = ⊥
IsWholeRelease (Released at size left) = left ≡ 0

abbrev pub AreWholeReleases : List Event → Type 0
AreWholeReleases events = AllByRecursion IsWholeRelease events

abbrev pub AreReleases : List Event → Type 0
AreReleases [] = ⊤
AreReleases (Granted asked grant ∷ events) = ⊥
AreReleases (Refused asked fault ∷ events) = ⊥
AreReleases (Released at size left ∷ events) = AreWholeReleases events

-- what a system keeps, it keeps where a run was given back
pub kept_released : (old new : Paged) (at size left : ℕ) → IsPagedKept old → IsReleasedFor old new at size left → IsPagedKept new
kept_released old new at size left kept is = elim (cases_lt left size) [
  | inr more ↦ subst IsPagedKept (sym (is.none (let w = is.within in omega arith))) kept
  | inl less ↦ (
      let begin = begins 0 (2 ^ 64) at size left old.regions kept.laid is.run less is.in_pages in
      let whole = is.in_pages in
      kept_cut old new (at + left) ((size - left) / 4096) (omega arith) (is.gone less) kept is.mapped)
]

pub follows_whole : (old new : Paged) (events : List Event) → IsPagedKept old → AreWholeReleases events → Follows old events new → AreShortened old new None
follows_whole old new [] kept all still = shortened_still old new kept.laid still
follows_whole old new (Granted asked grant ∷ events) kept all follows = absurd all.0
follows_whole old new (Refused asked fault ∷ events) kept all follows = absurd all.0
follows_whole old new (Released at size left ∷ events) kept all follows =
    let before : Paged = follows.0 in
    let later : Paged = follows.1 in
    let kept_before : IsPagedKept before = kept_still old before kept follows.2 in
    let one = shortened_still old before kept.laid follows.2 in
    let two = whole_shortened before later at size kept_before (subst (IsReleasedFor before later at size) all.0 follows.3) in
    shortened_on old before new None one (shortened_on before later new None two
    (follows_whole later new events (kept_released before later at size left kept_before follows.3) all.1 follows.4))

-- The slot that was cut, if one was: it begins before the first event's end of what stays, and ends behind it.
pub record IsShortenedBy (old new : Paged) (events : List Event) : Type 0 where
  pub slot : Option ℕ
  pub short : AreShortened old new slot
  pub cut : (one : ℕ) → slot ≡ Some one → (at : ℕ) × (size : ℕ) × (left : ℕ) × (more : List Event) × (events ≡ Released at
      size left ∷ more) × (0 < left) × (left < size) × (one < at + left) × (at + left < one + 2 ^ 21)

pub follows_shortened : (old new : Paged) (events : List Event) → IsPagedKept old → AreReleases events → Follows old events new → IsShortenedBy old new events
follows_shortened old new [] kept all still = record { slot = None; short = shortened_still old new kept.laid still; cut = λ one is. absurd (cc) }
follows_shortened old new (Granted asked grant ∷ events) kept all follows = absurd all
follows_shortened old new (Refused asked fault ∷ events) kept all follows = absurd all
follows_shortened old new (Released at size left ∷ events) kept all follows =
    let before : Paged = follows.0 in
    let later : Paged = follows.1 in
    let kept_before : IsPagedKept before = kept_still old before kept follows.2 in
    let one = shortened_still old before kept.laid follows.2 in
    let rest = follows_whole later new events (kept_released before later at size left kept_before follows.3) all follows.4 in
    elim (cases_lt 0 left) [
      | inl some ↦ record {
        slot = slot_of_event before at size left;
        short = shortened_then old before new (slot_of_event before at size left) one
            (shortened_on before later new (slot_of_event before at size left)
            (released_shortened before later at size left kept_before follows.3) rest);
        cut = λ slot is. part_of before later at size left events kept_before follows.3 some slot is;
      }
      | inr none ↦ record {
        slot = None;
        short = shortened_on old before new None one
            (shortened_on before later new None (whole_shortened before later at size kept_before
            (subst (IsReleasedFor before later at size) (let e : left ≡ 0 = omega arith in e) follows.3)) rest);
        cut = λ slot is. absurd (cc);
      }
    ]
  where
    part_of : (before later : Paged) (at size left : ℕ) (more : List Event) → IsPagedKept before →
        IsReleasedFor before later at size left → 0 < left → (one : ℕ) → slot_of_event before at size left ≡ Some one →
        (at' : ℕ) × (size' : ℕ) × (left' : ℕ) × (more' : List Event) × (Released at size left ∷ more ≡ Released at' size'
        left' ∷ more') × (0 < left') × (left' < size') × (one < at' + left') × (at' + left' < one + 2 ^ 21)
    part_of before later at size left more kept is some one of = elim (cases_lt left size) [
      | inr more_left ↦ absurd (let test : nat_lt left size ≡ false = not_less left size more_left in let none : None ≡ Some one = rw test at of in cc)
      | inl less ↦ (
          let test : nat_lt left size ≡ true = is_less left size less in
          let begin = begins 0 (2 ^ 64) at size left before.regions kept.laid is.run less is.in_pages in
          let pages = is.in_pages in
          let of_page : slot_cut before ((at + left) / 4096) ≡ Some one = rw test at of in
          elim (cut_or_not before.words before.root ((at + left) / 4096)) [
            | inr none ↦ absurd (let no : None ≡ Some one = rw none at of_page in cc)
            | inl page ↦ (
                let behind = page.1.behind in
                let is_cut_there = cut_page_is before.words before.root ((at + left) / 4096) page.0 page.1 in
                let same : Some ((at + left) / 4096 / 512 * 2 ^ 21) ≡ Some one = rw is_cut_there at of_page in
                let one_is : (at + left) / 4096 / 512 * 2 ^ 21 ≡ one = cc in
                (at, size, left, more, refl, some, less, omega (arith, behind, one_is, begin, pages), omega (arith, one_is, begin, pages)))
          ])
    ]
