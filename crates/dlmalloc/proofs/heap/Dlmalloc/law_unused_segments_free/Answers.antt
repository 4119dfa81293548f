use Rattle.dlmalloc.proofs.Extents.FreeParted.{each_free}
use Rattle.dlmalloc.proofs.heap.Dlmalloc.law_unused_segments_free.Goals as goal

pub returns : goal.returns
returns g c = each_free c.requires.sound c.requires.unused
