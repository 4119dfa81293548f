-- A processor's walk finds the pages of a machine's regions, and leaves the tables as they are.
use Rattle.std.proofs.Common.{◌≡◌, ◌∙◌, ◌*◌, false, ap, subst, option_map}
use Rattle.paging_core.specs.ProcessorWalk.{processor_walk, page_of, is_refused}
use Rattle.paging_core.specs.Memory.{word_at}
use Rattle.paging_core.specs.PageBits.{bits_of, bits_at}
use Rattle.paging_core.specs.Plain.{ArePlain}
use Rattle.paging_core.proofs.ProcessorWalk.{walks_alike}
use Rattle.paging_core.proofs.Plain.{unmarked}
use Rattle.machine_model.specs.State.{region_at}
use Rattle.heap_program.specs.ProcessorRegions.{FindsEachRegion, LeavesEachTable}

pub finds_regions : FindsEachRegion
finds_regions m s width page stands reaches canonical =
    let alike = walks_alike m.paged.words m.paged.root page width stands.tree.plain reaches in
    subst
    (λ root.
    (option_map bits_at (page_of (processor_walk width m.paged.words root page)) ≡ option_map (λ region. bits_of region.rights) (region_at s (4096 * page)))
    × (is_refused (processor_walk width m.paged.words root page) ≡ false))
    stands.root (ap (option_map bits_at) alike.0 ∙ stands.pages_found page canonical, alike.1)

pub leaves_tables : LeavesEachTable
leaves_tables m s level number index table writes stands low less met present =
    let plain : ArePlain m.paged.words m.top = subst (ArePlain m.paged.words) stands.root stands.tree.plain in
    unmarked m.paged.words level (word_at m.paged.words table.frame index) writes (plain.each level number index table low less met present)
