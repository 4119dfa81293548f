-- The regions of a paged system, as a heap over it sees them: the heap's alone.
use Rattle.std.specs.Prelude.{◌*◌, List, map, filter}
use Rattle.heap_memory.specs.declared.grant.Grant.{Grant}
use Rattle.machine_model.specs.declared.region.Region.{Region}
use Rattle.machine_model.specs.Machine.{Paged}

-- the regions of the heap among these
abbrev pub heap_regions : List Region → List Region
heap_regions regions = filter (λ region. region.heap) regions

-- a region of the heap, as a heap sees it
abbrev pub grant_of : Region → Grant
grant_of region = record { base = region.start; size = 4096 * region.pages; flags = 0 }

-- the heap's regions as a heap sees its system's grants
abbrev pub grants_of : Paged → List Grant
grants_of p = map grant_of (heap_regions p.regions)
