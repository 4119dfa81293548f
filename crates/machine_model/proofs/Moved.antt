-- While nothing is granted, given back or mapped, a machine stands for the state with what it holds of its blocks.
use Rattle.std.proofs.Common.{◌≡◌, ℕ, ◌/◌, ◌%◌, ◌^◌, ◌≤◌, List, map, refl, ap, ◌∙◌, arith, Option, option_map, Bool, true, false, not, ◌&&◌, ◌||◌, [], ◌∷◌}
use Rattle.std.specs.List.{list_any, AllByRecursion}
use Rattle.paging_core.specs.Walk.{reach, large_of, walk_of, reached}
use Rattle.paging_core.specs.PageBits.{bits_at}
use Rattle.machine_model.specs.declared.live.Live.{Live}
use Rattle.machine_model.specs.declared.region.Region.{Region}
use Rattle.machine_model.specs.State.{State, Block, is_within}
use Rattle.machine_model.specs.Memory.{HoldsBytes}
use Rattle.machine_model.specs.Slots.{slot_number}
use Rattle.machine_model.specs.Machine.{Paged, OnlyHeapBytesChange, is_of_user, Seen, Stands, outline}
use Rattle.machine_model.specs.Run.{IsGood, IsUserRegion}
use Rattle.machine_model.proofs.Booleans.{or_right}
use Rattle.machine_model.proofs.Regions.{any_all}

-- ---- bytes of the user

of_user : (heap users : List Region) (address : ℕ) → AllByRecursion (IsUserRegion heap) users →
    list_any (is_within address) users ≡ true → is_of_user users address ≡ true
of_user heap [] address all is = cc
of_user heap (region ∷ rest) address all is = go (is_within address region) is (of_user heap rest address all.1)
  where
    go : (b : Bool) → (b || list_any (is_within address) rest) ≡ true → (list_any (is_within address) rest ≡ true → is_of_user rest address ≡ true) →
        (not region.heap && b || is_of_user rest address) ≡ true
    go true any later = rw all.0.0 refl
    go false any later = (let l = later any in rw all.0.0 l)

-- a byte of a user region of the state is the user's in a machine that stands for it
pub user_of_machine : (m : Seen) (s : State) (address : ℕ) → IsGood s → Stands m s →
    list_any (is_within address) s.users ≡ true → is_of_user m.paged.regions address ≡ true
user_of_machine m s address good stands is =
    ap (λ regions. is_of_user regions address) stands.regions
    ∙ (any_all (λ region. not region.heap && is_within address region) s.heap s.users
    ∙ or_right (list_any (λ region. not region.heap && is_within address region) s.heap) (is_of_user s.users address)
    (of_user s.heap s.users address good.users is))

-- ---- the machine

pub stands_moved : (m : Seen) (s : State) (new : Paged) (lives : List (Option Live)) (blocks : List (Option Block)) →
    IsGood s → Stands m s → OnlyHeapBytesChange m.paged new →
    lives ≡ map (option_map outline) blocks → HoldsBytes (reached new.words new.root) blocks →
    Stands (record m { paged = new; blocks = lives }) (record s { blocks = blocks })
unfolding walk_of
stands_moved m s new lives blocks good stands still same holds =
    let root : new.root ≡ m.paged.root = ap (λ p. p.root) still.others in
    let free : new.free ≡ m.paged.free = ap (λ p. p.free) still.others in
    let same_reach : (level n : ℕ) → level ≤ 4 → reach new.words new.root level n ≡ reach m.paged.words m.paged.root level n =
    λ level n low. ap (λ r. reach new.words r level n) root ∙ still.walks level n low in
    let same_large : (n : ℕ) → large_of new.words new.root n ≡ large_of m.paged.words m.paged.root n =
    λ n. ap (λ r. large_of new.words r n) root ∙ still.larges n in
    let same_reached : (a : ℕ) → reached new.words new.root a ≡ reached new.words m.paged.root a = λ a. ap (λ r. reached new.words r a) root in
    record {
      root = root ∙ stands.root;
      tree = rw (root, free) (still.tree stands.tree);
      free_frames = rw free stands.free_frames;
      table_count = ap (λ p. p.tables) still.others ∙ stands.table_count;
      pages_found = λ page canonical. ap (option_map bits_at) (same_reach 4 (page % 2 ^ 36) (omega arith)) ∙ stands.pages_found page canonical;
      tables_met = λ level n some less. rw (same_reach level n (omega arith)) (stands.tables_met level n some less);
      larges_met = λ slot is. rw (same_large (slot_number slot)) (stands.larges_met slot is);
      regions = ap (λ p. p.regions) still.others ∙ stands.regions;
      blocks = same;
      base = ap (λ p. p.base) still.others ∙ stands.base;
      pages = ap (λ p. p.pages) still.others ∙ stands.pages;
      granularity = stands.granularity;
      frames = ap (λ n. n / 512) still.size ∙ stands.frames;
      bytes = holds;
      zeros = λ address user. same_reached address ∙ (still.users address (user_of_machine m s address good stands user) ∙ stands.zeros address user);
    }

-- ---- without blocks

-- a good state without its blocks is good
pub good_bare : (s : State) → IsGood s → IsGood (record s { blocks = [] })
good_bare s good = record {
  each = λ number block is. absurd (cc);
  apart = λ i j a b is_a is_b differ. absurd (cc);
  heap_order = good.heap_order;
  user_order = good.user_order;
  heap = good.heap;
  users = good.users;
  frames = good.frames;
  slots = good.slots;
  are_slots = good.are_slots;
  no_slot_twice = good.no_slot_twice;
}

pub holds_none : (reached : ℕ → Option ℕ) → HoldsBytes reached []
holds_none reached = record { known = λ number k byte block is cell. absurd (cc) }

-- ---- slots that are handed out

-- the slots that a machine keeps until they are asked for are nothing that a state has
pub stands_taken : (m : Seen) (s : State) (slots : List ℕ) → Stands m s → Stands (record m { paged = record m.paged { slots = slots } }) s
stands_taken m s slots stands = record {
  root = stands.root;
  tree = stands.tree;
  free_frames = stands.free_frames;
  table_count = stands.table_count;
  pages_found = stands.pages_found;
  tables_met = stands.tables_met;
  larges_met = stands.larges_met;
  regions = stands.regions;
  blocks = stands.blocks;
  base = stands.base;
  pages = stands.pages;
  granularity = stands.granularity;
  frames = stands.frames;
  bytes = stands.bytes;
  zeros = stands.zeros;
}
