-- Runs of the heap were given back: the machine stands for the state with the regions that are left.
use Rattle.std.proofs.Common.{◌≡◌, ℕ, ◌+◌, ◌*◌, ◌/◌, ◌^◌, ◌<◌, ◌≤◌, inl, not, nat_lt, List, [], ◌∷◌, ◌++◌, length, map, find, fold, refl, sym, ap, ◌∙◌, subst, arith, mul_comm, Bool, true, false, cond, IsTrue, Option, Some, None, option_map}
use Rattle.std.specs.List.{list_any, AllByRecursion, filter}
use Rattle.std.proofs.lemmas.Bool.Decides.{nat_tests}
use Rattle.paging_core.specs.Address.{is_canonical}
use Rattle.paging_core.specs.Pool.{free_count}
use Rattle.paging_core.specs.Prefix.{Prefix}
use Rattle.paging_core.specs.Walk.{reached}
use Rattle.paging_core.specs.PageBits.{bits_of}
use Rattle.paging_core.specs.declared.page_table.Rights.{Rights}
use Rattle.machine_model.specs.declared.live.Live.{Live}
use Rattle.machine_model.specs.declared.region.Region.{Region}
use Rattle.machine_model.specs.State.{State, Block, end_of_region, is_within, total_pages, region_at}
use Rattle.machine_model.specs.Tables.{used_frames}
use Rattle.machine_model.specs.Slots.{slot_prefix, is_whole_in, is_part_in}
use Rattle.machine_model.specs.Place.{meets_any, with_region, all_regions}
use Rattle.machine_model.specs.Answer.{settled}
use Rattle.machine_model.specs.Cut.{AreCut}
use Rattle.machine_model.specs.Memory.{HoldsBytes}
use Rattle.machine_model.specs.Run.{IsGood, AreRegionsInOrder}
use Rattle.machine_model.specs.Machine.{Paged, Seen, Stands, outline}
use Rattle.machine_model.proofs.Booleans.{or_neither}
use Rattle.machine_model.proofs.Cut.{cut_heap}
use Rattle.machine_model.proofs.Settled.{AreSettled, cut_slots, settled_larges, settled_tables, settled_count}
use Rattle.machine_model.proofs.Regions.{not_within, within_bounds, find_behind, find_same}
use Rattle.machine_model.proofs.Mapped.{reached_walk}
use Rattle.machine_model.proofs.Moved.{user_of_machine}
use Rattle.mapped_regions.specs.Regions.{AreLaid, kind_at}
use Rattle.mapped_regions.proofs.AllRegions.{Sorted, sorted_with}
use Rattle.mapped_regions.specs.Mapped.{IsMapped}
use Rattle.paged_systems.specs.Words.{heap_regions}
use Rattle.paged_systems.proofs.HeapRegions.{all_more, heap_first, user_first, heap_of_all, user_any, within_canonical}
use Rattle.kernel_heap.proofs.ShortenedRegions.{user_regions, AreShortened}
use Rattle.kernel_heap.proofs.ReleasedSlots.{are_settled}
use Rattle.kernel_heap.proofs.UserRegions.{all_of_heap, all_of_users, sorted}

-- all regions, where some of the user join some of the heap
abbrev pub joined : List Region → List Region → List Region
joined heap users = fold (λ list region. with_region region list) heap users

user_skipped : (first : Region) (rest : List Region) → first.heap ≡ true → user_regions (first ∷ rest) ≡ user_regions rest
user_skipped first rest is = ap (λ (b : Bool). cond (not b) (first ∷ user_regions rest) (user_regions rest)) is

user_kept : (first : Region) (rest : List Region) → first.heap ≡ false → user_regions (first ∷ rest) ≡ first ∷ user_regions rest
user_kept first rest is = ap (λ (b : Bool). cond (not b) (first ∷ user_regions rest) (user_regions rest)) is

all_some : (test : Region → Bool) (P : Region → Type 0) (list : List Region) → AllByRecursion P list → AllByRecursion P (filter test list)
all_some test P [] all = tt
all_some test P (first ∷ rest) all = go (test first) (all_some test P rest all.1)
  where
    go : (b : Bool) → AllByRecursion P (filter test rest) → AllByRecursion P (cond b (first ∷ filter test rest) (filter test rest))
    go true later = (all.0, later)
    go false later = later

starts_behind : (from to : ℕ) (list : List Region) → AreLaid from list to → AllByRecursion (λ region. from ≤ region.start) list
starts_behind from to [] laid = tt
starts_behind from to (first ∷ rest) laid = (
  laid.0,
  all_more (λ region. end_of_region first ≤ region.start) (λ region. from ≤ region.start)
      (λ region behind. (let low = laid.0 in omega (arith, low, behind))) rest
      (starts_behind (end_of_region first) to rest laid.3),
)

-- ---- regions of both, by address

goes_first : (region : Region) (list : List Region) → AllByRecursion (λ later. region.start < later.start) list → with_region region list ≡ region ∷ list
goes_first region [] all = refl
goes_first region (first ∷ rest) all = (let less = all.0 in let test : nat_lt region.start first.start ≡ true = grind (arith, nat_tests) in rw test refl)

stays_first : (first : Region) (list users : List Region) → AllByRecursion (λ user. first.start ≤ user.start) users →
    joined (first ∷ list) users ≡ first ∷ joined list users
stays_first first list [] all = refl
stays_first first list (user ∷ users) all = ap (λ (regions : List Region). joined regions users) behind ∙ stays_first first (with_region user list) users all.1
  where
    behind : with_region user (first ∷ list) ≡ first ∷ with_region user list
    behind = (let low = all.0 in let test : nat_lt user.start first.start ≡ false = grind (arith, nat_tests) in rw test refl)

-- a list by address is that of its regions of the heap, which those of the user joined
pub parts_joined : (from to : ℕ) (list : List Region) → AreLaid from list to → joined (heap_regions list) (user_regions list) ≡ list
parts_joined from to [] laid = refl
parts_joined from to (first ∷ rest) laid = go first.heap refl (parts_joined (end_of_region first) to rest laid.3)
  where
    behind : AllByRecursion (λ region. end_of_region first ≤ region.start) rest
    behind = starts_behind (end_of_region first) to rest laid.3

    users_behind : AllByRecursion (λ user. first.start ≤ user.start) (user_regions rest)
    users_behind = all_some (λ region. not region.heap) (λ region. first.start ≤ region.start) rest
        (all_more (λ region. end_of_region first ≤ region.start) (λ region. first.start ≤ region.start) (λ region low. omega (arith, low)) rest behind)

    heap_behind : AllByRecursion (λ region. first.start < region.start) (heap_regions rest)
    heap_behind = all_some (λ region. region.heap) (λ region. first.start < region.start) rest
        (all_more (λ region. end_of_region first ≤ region.start) (λ region. first.start < region.start)
        (λ region low. (let some = laid.2 in omega (arith, low, some))) rest behind)

    whole : joined (heap_regions rest) (user_regions rest) ≡ rest → joined (first ∷ heap_regions rest) (user_regions rest) ≡ first ∷ rest
    whole later = stays_first first (heap_regions rest) (user_regions rest) users_behind ∙ ap (λ (regions : List Region). first ∷ regions) later

    go : (heap : Bool) → first.heap ≡ heap → joined (heap_regions rest) (user_regions rest) ≡ rest →
        joined (heap_regions (first ∷ rest)) (user_regions (first ∷ rest)) ≡ first ∷ rest
    go true is later = (λ i. joined (heap_first first rest is i) (user_skipped first rest is i)) ∙ whole later
    go false is later = (λ i. joined (user_first first rest is i) (user_kept first rest is i))
        ∙ (ap (λ (regions : List Region). joined regions (user_regions rest)) (goes_first first (heap_regions rest) heap_behind) ∙ whole later)

-- the user's among those of a state
user_with : (user : Region) (list : List Region) → user.heap ≡ false → Sorted list → user_regions (with_region user list) ≡ with_region user (user_regions list)
user_with user [] is order = user_kept user [] is
user_with user (first ∷ rest) is order = go (nat_lt user.start first.start) refl first.heap refl (user_with user rest is order.1)
  where
    go : (before : Bool) → nat_lt user.start first.start ≡ before → (heap : Bool) → first.heap ≡ heap →
        user_regions (with_region user rest) ≡ with_region user (user_regions rest) →
        user_regions (with_region user (first ∷ rest)) ≡ with_region user (user_regions (first ∷ rest))
    go true before heap of later =
        let less : user.start < first.start = grind (arith, nat_tests) in
        let all = all_some (λ region. not region.heap) (λ region. user.start < region.start) (first ∷ rest)
        (less, all_more (λ region. first.start ≤ region.start) (λ region. user.start < region.start) (λ region low. omega (arith, less, low)) rest order.0) in
        rw before (user_kept user (first ∷ rest) is ∙ sym (goes_first user (user_regions (first ∷ rest)) all))
    go false before true of later = rw before (user_skipped first (with_region user rest) of
        ∙ (later ∙ sym (ap (with_region user) (user_skipped first rest of))))
    go false before false of later =
        let there : with_region user (first ∷ user_regions rest) ≡ first ∷ with_region user (user_regions rest) = rw before refl in
        rw before (user_kept first (with_region user rest) of ∙ (ap (λ (regions : List Region). first ∷ regions) later
        ∙ (sym there ∙ sym (ap (with_region user) (user_kept first rest of)))))

users_joined : (list users : List Region) → Sorted list → AllByRecursion (λ region. region.heap ≡ false) users →
    user_regions (joined list users) ≡ joined (user_regions list) users
users_joined list [] order all = refl
users_joined list (user ∷ users) order all = users_joined (with_region user list) users (sorted_with user list order) all.1
    ∙ ap (λ (regions : List Region). joined regions users) (user_with user list all.0 order)

alone : (users : List Region) → AreRegionsInOrder users → joined [] users ≡ users
alone [] order = refl
alone (user ∷ users) order = stays_first user [] users (all_more (λ later. end_of_region user ≤ later.start)
    (λ later. user.start ≤ later.start) (λ later behind. omega (arith, behind)) users order.0)
    ∙ ap (λ (regions : List Region). user ∷ regions) (alone users order.1)

none_of_users : (list : List Region) → AllByRecursion (λ region. region.heap ≡ true) list → user_regions list ≡ []
none_of_users [] all = refl
none_of_users (first ∷ rest) all = user_skipped first rest all.0 ∙ none_of_users rest all.1

pub users_of_all : (s : State) → IsGood s → user_regions (all_regions s) ≡ s.users
users_of_all s good = users_joined s.heap s.users (sorted s.heap good.heap_order) (all_of_users s.heap s.users good.users)
    ∙ (ap (λ (regions : List Region). joined regions s.users) (none_of_users s.heap (all_of_heap s s.heap good.heap)) ∙ alone s.users good.user_order)

-- ---- what is found among both, and the pages of both

none_ahead : (at : ℕ) (list : List Region) → AllByRecursion (λ region. at < region.start) list → list_any (is_within at) list ≡ false
none_ahead at [] all = refl
none_ahead at (first ∷ rest) all = or_neither (is_within at first) (list_any (is_within at) rest) (not_within at first (inl all.0)) (none_ahead at rest all.1)

pub found_in_parts : (at from to : ℕ) (list : List Region) → AreLaid from list to →
    find (is_within at) (heap_regions list ++ user_regions list) ≡ find (is_within at) list
found_in_parts at from to [] laid = refl
found_in_parts at from to (first ∷ rest) laid = go (is_within at first) refl first.heap refl (found_in_parts at (end_of_region first) to rest laid.3)
  where
    go : (here : Bool) → is_within at first ≡ here → (heap : Bool) → first.heap ≡ heap →
        find (is_within at) (heap_regions rest ++ user_regions rest) ≡ find (is_within at) rest →
        find (is_within at) (heap_regions (first ∷ rest) ++ user_regions (first ∷ rest)) ≡ find (is_within at) (first ∷ rest)
    go true here true is later =
        let one : find (is_within at) (first ∷ (heap_regions rest ++ user_regions rest)) ≡ Some first = rw here refl in
        let other : find (is_within at) (first ∷ rest) ≡ Some first = rw here refl in
        (λ i. find (is_within at) (heap_first first rest is i ++ user_skipped first rest is i)) ∙ (one ∙ sym other)
    go true here false is later =
        let bounds = within_bounds at first here in
        let ahead = all_some (λ region. region.heap) (λ region. at < region.start) rest
        (all_more (λ region. end_of_region first ≤ region.start) (λ region. at < region.start)
        (λ region behind. (let high = bounds.1 in omega (arith, high, behind))) rest
        (starts_behind (end_of_region first) to rest laid.3)) in
        let one : find (is_within at) (first ∷ user_regions rest) ≡ Some first = rw here refl in
        let other : find (is_within at) (first ∷ rest) ≡ Some first = rw here refl in
        (λ i. find (is_within at) (user_first first rest is i ++ user_kept first rest is i))
        ∙ (find_behind (is_within at) (heap_regions rest) (first ∷ user_regions rest) (none_ahead at (heap_regions rest) ahead) ∙ (one ∙ sym other))
    go false here true is later =
        let one : find (is_within at) (first ∷ (heap_regions rest ++ user_regions rest)) ≡ find (is_within at)
        (heap_regions rest ++ user_regions rest) = rw here refl in
        let other : find (is_within at) (first ∷ rest) ≡ find (is_within at) rest = rw here refl in
        (λ i. find (is_within at) (heap_first first rest is i ++ user_skipped first rest is i)) ∙ (one ∙ (later ∙ sym other))
    go false here false is later =
        let one : find (is_within at) (first ∷ user_regions rest) ≡ find (is_within at) (user_regions rest) = rw here refl in
        let other : find (is_within at) (first ∷ rest) ≡ find (is_within at) rest = rw here refl in
        (λ i. find (is_within at) (user_first first rest is i ++ user_kept first rest is i))
        ∙ (find_same (is_within at) (heap_regions rest) (user_regions rest) (first ∷ user_regions rest) one ∙ (later ∙ sym other))

pub pages_of_parts : (list : List Region) → total_pages list ≡ total_pages (heap_regions list) + total_pages (user_regions list)
pages_of_parts [] = refl
pages_of_parts (first ∷ rest) = go first.heap refl (pages_of_parts rest)
  where
    go : (heap : Bool) → first.heap ≡ heap → total_pages rest ≡ total_pages (heap_regions rest) + total_pages (user_regions rest) →
        total_pages (first ∷ rest) ≡ total_pages (heap_regions (first ∷ rest)) + total_pages (user_regions (first ∷ rest))
    go true is later = (let heap = ap total_pages (heap_first first rest is) in let users =
        ap total_pages (user_skipped first rest is) in omega (arith, later, heap, users))
    go false is later = (let heap = ap total_pages (user_first first rest is) in let users =
        ap total_pages (user_kept first rest is) in omega (arith, later, heap, users))

-- ---- the machine

-- the state with other regions of the heap, and other blocks
abbrev pub left_state : State → List Region → List (Option Block) → State
left_state s heap blocks = settled (record s { heap = heap; blocks = blocks })

module _ (m : Seen) (new : Paged) (s : State) (slot : Option ℕ) (good : IsGood s) (stands : Stands m s)
    (mapped_before : IsMapped m.paged) (mapped : IsMapped new) (short : AreShortened m.paged new slot)
    (part_left : (one : ℕ) → slot ≡ Some one → IsTrue (meets_any one 512 new.regions)) where
  pub heap_before : heap_regions m.paged.regions ≡ s.heap
  heap_before = ap heap_regions stands.regions ∙ heap_of_all s good

  users_now : user_regions new.regions ≡ s.users
  users_now = short.users ∙ (ap user_regions stands.regions ∙ users_of_all s good)

  pub regions_cut : AreCut s.heap (heap_regions new.regions)
  regions_cut = subst (λ (regions : List Region). AreCut regions (heap_regions new.regions)) heap_before (cut_heap m.paged.regions new.regions short.cut)

  -- as many frames more are free or tables as pages went
  pub frames_left : free_count new.free + new.tables + total_pages (heap_regions new.regions) ≡ free_count m.paged.free + m.paged.tables + total_pages s.heap
  frames_left =
      let now = mapped.count in
      let before = mapped_before.count in
      let size = ap (λ (n : ℕ). n / 512) short.size in
      let parts = pages_of_parts new.regions in
      let old_parts = pages_of_parts m.paged.regions in
      let users = ap total_pages short.users in
      let heap = ap total_pages heap_before in
      omega (arith, now, before, size, parts, old_parts, users, heap)

  -- the regions of the state are those that are left
  pub regions_now : (blocks : List (Option Block)) → all_regions (record s { heap = heap_regions new.regions; blocks = blocks }) ≡ new.regions
  regions_now blocks = (λ i. joined (heap_regions new.regions) (sym users_now i)) ∙ parts_joined 0 (2 ^ 64) new.regions short.laid

  settles : AreSettled m.paged.words new.words m.paged.root new.root new.regions slot
  settles = are_settled m.paged new slot mapped short part_left

  abbrev pub tables_left : List Prefix
  tables_left = s.tables ++ map slot_prefix (filter (is_part_in new.regions) s.large)

  abbrev pub larges_left : List ℕ
  larges_left = filter (is_whole_in new.regions) s.large

  pub left_is : (blocks : List (Option Block)) → left_state s (heap_regions new.regions)
      blocks ≡ record s { heap = heap_regions new.regions; blocks = blocks; tables = tables_left; large = larges_left }
  left_is blocks = ap (λ (regions : List Region). record s {
    heap = heap_regions new.regions;
    blocks = blocks;
    tables =
        s.tables ++ map slot_prefix (filter (is_part_in regions) s.large);
    large = filter (is_whole_in regions) s.large;
  })
      (regions_now blocks)

  tables_count : length tables_left ≡ length s.tables + length (cut_slots slot)
  tables_count = settled_count m.paged.words new.words m.paged.root new.root new.regions slot settles s.large s.tables
      good.are_slots good.no_slot_twice stands.larges_met stands.tables_met

  table_count : new.tables ≡ 1 + length tables_left
  table_count = (let a = short.tables in let b = stands.table_count in let c = tables_count in omega (arith, a, b, c))

  -- the frames suffice
  pub enough_left : (blocks : List (Option Block)) → used_frames (left_state s (heap_regions new.regions) blocks) ≤ s.frames
  enough_left blocks = subst (λ (left : State). used_frames left ≤ s.frames) (sym (left_is blocks)) (
      let count = mapped.count in
      let tables = table_count in
      let parts = pages_of_parts new.regions in
      let users = ap total_pages users_now in
      let size = ap (λ (n : ℕ). n / 512) short.size in
      let frames = stands.frames in
      omega (arith, count, tables, parts, users, size, frames))

  module _ (lives : List (Option Live)) (blocks : List (Option Block)) (same : lives ≡ map (option_map outline) blocks)
      (holds : HoldsBytes (reached new.words new.root) blocks) where
    abbrev s' : State
    s' = record s { heap = heap_regions new.regions; blocks = blocks; tables = tables_left; large = larges_left }

    -- the byte of a user stays
    zero_left : (address : ℕ) → list_any (is_within address) s.users ≡ true → reached new.words new.root address ≡ Some 0
    zero_left address user =
        let of_user = user_of_machine m s address good stands user in
        let canonical = within_canonical m.paged.base m.paged.pages address m.paged.regions mapped_before.regions (user_any address m.paged.regions of_user) in
        let zero = stands.zeros address user in
        short.user_bytes address canonical of_user (reached_walk m.paged.words m.paged.root address 0 zero) ∙ zero

    stands_there : Stands (record m { paged = new; blocks = lives }) s'
    stands_there = record {
      root = short.root ∙ stands.root;
      tree = mapped.tree;
      free_frames = (
          let count = mapped.count in
          let tables = table_count in
          let parts = pages_of_parts new.regions in
          let users = ap total_pages users_now in
          let size = ap (λ (n : ℕ). n / 512) short.size in
          let frames = stands.frames in
          omega (arith, count, tables, parts, users, size, frames));
      table_count = table_count;
      pages_found = λ page canonical.
          mapped.found page (subst (λ (a : ℕ). IsTrue (is_canonical a)) (mul_comm 4096 page) canonical)
          ∙ (kinds (4096 * page) ∙ sym (ap (option_map (λ (region : Region). bits_of region.rights)) (in_state (4096 * page))));
      tables_met = settled_tables m.paged.words new.words m.paged.root new.root new.regions slot settles s.large s.tables
          good.are_slots good.no_slot_twice stands.larges_met stands.tables_met;
      larges_met = settled_larges m.paged.words new.words m.paged.root new.root new.regions slot settles s.large s.tables
          good.are_slots good.no_slot_twice stands.larges_met stands.tables_met;
      regions = sym (regions_now blocks);
      blocks = same;
      base = short.base ∙ stands.base;
      pages = short.pages_is ∙ stands.pages;
      granularity = stands.granularity;
      frames = ap (λ (n : ℕ). n / 512) short.size ∙ stands.frames;
      bytes = holds;
      zeros = zero_left;
    }
      where
        -- what is found is one region, of the heap or of the user
        in_state : (at : ℕ) → region_at s' at ≡ find (is_within at) new.regions
        in_state at = (λ i. find (is_within at) (heap_regions new.regions ++ sym users_now i)) ∙ found_in_parts at 0 (2 ^ 64) new.regions short.laid

        kinds : (at : ℕ) → option_map (λ (kind : Bool × Rights). bits_of kind.1) (kind_at new.regions at) ≡ option_map
            (λ (region : Region). bits_of region.rights) (find (is_within at) new.regions)
        kinds at = go (find (is_within at) new.regions)
          where
            go : (o : Option Region) → option_map (λ (kind : Bool × Rights). bits_of kind.1)
                (option_map (λ (region : Region). (region.heap, region.rights)) o) ≡ option_map
                (λ (region : Region). bits_of region.rights) o
            go None = refl
            go (Some region) = refl

    pub stands_left : Stands (record m { paged = new; blocks = lives }) (left_state s (heap_regions new.regions) blocks)
    stands_left = subst (Stands (record m { paged = new; blocks = lives })) (sym (left_is blocks)) stands_there
