use Rattle.dlmalloc.proofs.Names.{◌≡◌, ◌+◌, ◌∙◌, ap, Bool, true, false, not, refl, if◌then◌else◌, Used, Free, free_of}
use Rattle.dlmalloc.proofs.Extents.Lookup.{same_extent}
use Rattle.dlmalloc.proofs.heap.Dlmalloc.chunk_at.Goals as goal

turned : (b : Bool) → (if not b then Used else Free) ≡ (if b then Free else Used)
turned true = refl
turned false = refl

pub returns : goal.returns
returns g c =
    let head = g.A.Links.word c.args.self.now.system (c.args.at + 8) in
    same_extent refl c.size.ensures.value (c.kind_where.ensures ∙ (ap (λ b. if b then Used else Free) c.inuse.ensures.value ∙ turned (free_of head)))
