-- A machine that stands for a good state holds its live blocks.
use Rattle.std.proofs.Common.{◌≡◌, ℕ, ◌+◌, ◌*◌, ◌/◌, ◌%◌, ◌^◌, ◌<◌, ◌≤◌, inl, inr, IfSome, List, [], ◌∷◌, ◌++◌, find, refl, sym, ap, ◌∙◌, subst, arith, Bool, true, false, cond, Option, Some, None, option_map, IsTrue}
use Rattle.std.proofs.lemmas.Bool.Decides.{nat_tests}
use Rattle.std.specs.List.{list_any, AllByRecursion}
use Rattle.paging_core.specs.Address.{is_canonical}
use Rattle.paging_core.specs.Memory.{word_at, byte_of, frame_count}
use Rattle.paging_core.specs.Walk.{Place, walk_of, reached}
use Rattle.paging_core.specs.ProcessorWalk.{Outcome, NotPresent, Reserved, AtPage, processor_walk, page_of}
use Rattle.paging_core.specs.Plain.{ArePlain}
use Rattle.paging_core.proofs.ProcessorWalk.{walks_alike}
use Rattle.paging_core.specs.declared.page_table.Rights.{Rights}
use Rattle.machine_model.specs.declared.config.Config.{Config}
use Rattle.machine_model.specs.declared.region.Region.{Region}
use Rattle.machine_model.specs.State.{State, Block, is_within, region_at, block_at, cell_at, cover, start}
use Rattle.machine_model.specs.Room.{heap_rights}
use Rattle.machine_model.specs.Run.{IsGood, IsWholePages, IsHeapRegion}
use Rattle.machine_model.specs.Machine.{Seen, Stands, rights_of}
use Rattle.machine_model.proofs.Found.{rights_alike}
use Rattle.machine_model.proofs.Regions.{within_canonical}
use Rattle.kernel_heap.specs.declared.machine.Machine.{Machine}
use Rattle.kernel_heap.specs.Machine.{seen}
use Rattle.heap_program.specs.Generated.{IsGenerated}
use Rattle.heap_program.specs.Stepped.{IsGeneratedByNew}
use Rattle.heap_program.specs.LiveBlocks.{IsByteHeld, HoldsBlocks, HoldsEachBlock}

abbrev region_rights : Option Region → Option Rights
region_rights found = option_map (λ region. region.rights) found

-- a whole region has a page exactly where it has an address of it
with_page : (at : ℕ) (region : Region) → IsWholePages region → (b : Bool) → is_within at region ≡ b → is_within (4096 * (at / 4096)) region ≡ b
with_page at region whole b is = let start : region.start % 4096 ≡ 0 = whole.0 in grind (arith, nat_tests)

-- the page of an address in a heap region has the rights of the heap
page_rights : (s : State) (at : ℕ) (heap users : List Region) → AllByRecursion (IsHeapRegion s) heap → list_any (is_within at) heap ≡ true →
    region_rights (find (is_within (4096 * (at / 4096))) (heap ++ users)) ≡ Some heap_rights
page_rights s at [] users all there = absurd (cc)
page_rights s at (region ∷ rest) users all there = go (is_within at region) refl (page_rights s at rest users all.1)
  where
    go : (b : Bool) → is_within at region ≡ b → (list_any (is_within at) rest ≡ true →
        region_rights (find (is_within (4096 * (at / 4096))) (rest ++ users)) ≡ Some heap_rights) →
        region_rights (cond (is_within (4096 * (at / 4096)) region) (Some region) (find (is_within (4096 * (at / 4096))) (rest ++ users))) ≡ Some heap_rights
    go true is later =
        let page : is_within (4096 * (at / 4096)) region ≡ true = with_page at region all.0.0 true is in
        rw page (ap (λ (r : Region). Some r.rights) all.0.3)
    go false is later =
        let page : is_within (4096 * (at / 4096)) region ≡ false = with_page at region all.0.0 false is in
        rw page (later (rw is at there))

-- a page with the rights of the heap
record IsWritable (found : Option Place) : Type 0 where
  pub page : Place
  pub is : found ≡ Some page
  pub writable : IsTrue page.write

writable_page : (found : Option Place) → option_map rights_of found ≡ Some heap_rights → IsWritable found
writable_page None is = absurd (cc)
writable_page (Some page) is =
    let same : rights_of page ≡ heap_rights = cc in
    record { page = page; is = refl; writable = ap (λ (r : Rights). r.write) same }

-- the walk finds it at each address in a heap region
walked : (m : Seen) (s : State) (at : ℕ) → IsGood s → Stands m s → list_any (is_within at) s.heap ≡ true → IsWritable (walk_of m.paged.words m.top (at / 4096))
walked m s at good stands there =
    let canonical : IsTrue (is_canonical (at / 4096 * 4096)) = within_canonical (IsHeapRegion s) (λ region h. h.0) at s.heap good.heap there in
    let page : at / 4096 * 4096 ≡ 4096 * (at / 4096) = omega arith in
    subst (λ root. IsWritable (walk_of m.paged.words root (at / 4096))) stands.root
    (writable_page (walk_of m.paged.words m.paged.root (at / 4096))
    (rights_alike (λ (region : Region). region.rights) (walk_of m.paged.words m.paged.root (at / 4096)) (region_at s (4096 * (at / 4096)))
    (stands.pages_found (at / 4096) (subst (λ a. IsTrue (is_canonical a)) page canonical)) ∙ page_rights s at s.heap s.users good.heap there))

-- a walk that finds a page ends there
ends_there : (outcome : Outcome) (page : Place) → page_of outcome ≡ Some page → outcome ≡ AtPage page
ends_there (NotPresent step) page is = absurd (cc)
ends_there (Reserved step) page is = absurd (cc)
ends_there (AtPage place) page is = let same : place ≡ page = cc in ap AtPage same

-- the byte that is reached is the one in the page
byte_in : (words : List ℕ) (root address value : ℕ) (page : Place) → walk_of words root (address / 4096) ≡ Some page → reached words root address ≡ Some value →
    byte_of (word_at words page.frame (address % 4096 / 8)) (address % 8) ≡ value
byte_in words root address value page found is =
    let here : Some (byte_of (word_at words page.frame (address % 4096 / 8)) (address % 8)) ≡ Some value =
    sym (ap (option_map (λ (place : Place). byte_of (word_at words place.frame (address % 4096 / 8)) (address % 8))) found) ∙ is in
    cc

-- a known byte of a block is held
held_at : (m : Seen) (s : State) (width i k : ℕ) (a : Block) → IsGood s → Stands m s →
    4096 * frame_count m.paged.words ≤ 2 ^ width → block_at s.blocks i ≡ Some a →
    k < cover a → IsByteHeld width m.paged.words m.top (a.address + k) (cell_at a.cells k)
held_at m s width i k a good stands reaches is less =
    let found = walked m s (a.address + k) good stands ((good.each i a is).granted k less) in
    let plain : ArePlain m.paged.words m.top = subst (ArePlain m.paged.words) stands.root stands.tree.plain in
    let alike = walks_alike m.paged.words m.top ((a.address + k) / 4096) width plain reaches in
    let ends : processor_walk width m.paged.words m.top ((a.address + k) / 4096) ≡ AtPage found.page =
    ends_there (processor_walk width m.paged.words m.top ((a.address + k) / 4096)) found.page (alike.0 ∙ found.is) in
    record {
      page = found.page;
      found = ends;
      writable = found.writable;
      inside = alike.2 found.page ends;
      byte = λ value known.
          byte_in m.paged.words m.top (a.address + k) value found.page found.is
          (ap (λ root. reached m.paged.words root (a.address + k)) (sym stands.root) ∙ stands.bytes.known i k value a is known);
    }

pub holds_blocks : HoldsEachBlock
holds_blocks m s good stands = record {
  live = stands.blocks;
  aligned = λ i a is. (good.each i a is).aligned;
  held = λ width i k a reaches is less. held_at m s width i k a good stands reaches is less;
  apart = λ i j k l a b is_a is_b differ less_a less_b same. elim (good.apart i j a b is_a is_b differ) [ inl before ↦ omega arith | inr after ↦ omega arith ];
}

-- ---- the machine at the end of a run

pub generated_live : (machine : Option Machine) (config : Config) (seed count : ℕ) (before after : Option (List ℕ)) (flushed : Option ℕ) →
    IfSome machine (IsGeneratedByNew config seed count before after flushed) →
    IfSome machine (λ m. (run : IsGenerated (start config) seed count before after flushed m) × HoldsBlocks (seen m) run.state.blocks)
generated_live None config seed count before after flushed done = tt
generated_live (Some m) config seed count before after flushed done = let run = done.2.run in (run, holds_blocks (seen m) run.state run.good run.stands)
