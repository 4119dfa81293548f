-- One of some extents.
use Rattle.dlmalloc.proofs.Names.{◌≡◌, inl, inr, List, [], ◌∷◌, Some, subst, Extent, IsAmong, extent_at}
use Rattle.dlmalloc.proofs.Extents.Lookup.{found_here}
use Rattle.dlmalloc.proofs.Extents.OneMoreUsed.{AreDistinct}
use Rattle.dlmalloc.proofs.Segments.Among.{distinct_later}

-- it is found where it begins, if each of them begins elsewhere
pub among_found : (extent : Extent) (extents : List Extent) → AreDistinct extents → IsAmong extent extents → extent_at extent.at extents ≡ Some extent
among_found extent [] distinct h = absurd h
among_found extent (first ∷ extents) distinct (inl is) = subst (λ e. extent_at e.at (first ∷ extents) ≡ Some e) is (found_here first extents)
among_found extent (first ∷ extents) distinct (inr later) = distinct_later (first ∷ []) extents extent.at distinct (among_found extent extents distinct.1 later)
