use Rattle.dlmalloc.proofs.Names.{segments_of}
use Rattle.dlmalloc.proofs.Extents.FreeParted.{all_parted}
use Rattle.dlmalloc.proofs.heap.Dlmalloc.law_free_extents_parted.Goals as goal

pub returns : goal.returns
returns g c = all_parted (g.A.Links.regions c.args.self.now.system) (g.A.Links.word c.args.self.now.system)
    (segments_of g.A.Links.word c.args.self.now) c.requires.segments
