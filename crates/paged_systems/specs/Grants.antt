-- A request to a paged system, as a heap over it sees what is answered.
use Rattle.std.specs.Prelude.{◌≡◌, ℕ, ◌+◌, ◌%◌, ◌<◌, ◌≤◌, [], ◌∷◌}
use Rattle.std.specs.List.{AllByRecursion}
use Rattle.heap_memory.specs.declared.grant.Grant.{Grant}
use Rattle.heap_memory.specs.declared.grant.GrantFault.{GrantFault}
use Rattle.heap_memory.specs.Events.{Granted, Refused}
use Rattle.heap_memory.specs.Regions.{IsApart, IsGoodGrant, with_grant}
use Rattle.machine_model.specs.Machine.{Paged}
use Rattle.mapped_regions.specs.Mapped.{word_reached}
use Rattle.paged_systems.specs.Follows.{Follows}
use Rattle.paged_systems.specs.Layout.{MayDeny}
use Rattle.paged_systems.specs.Words.{grants_of}

-- A request for a number of bytes was granted: a good grant joined the others, apart from them all, and its words are zero.
pub record IsGrantSeen (old new : Paged) (asked : ℕ) (grant : Grant) : Type 0 where
  pub good : IsGoodGrant asked grant
  pub apart : AllByRecursion (IsApart grant.base (grant.base + grant.size)) (grants_of old)
  pub flags : grant.flags ≡ 0
  pub regions : grants_of new ≡ with_grant grant (grants_of old)
  pub zeros : (at : ℕ) → grant.base ≤ at → at < grant.base + grant.size → at % 8 ≡ 0 → word_reached new at ≡ 0
  pub follows : Follows old (Granted asked grant ∷ []) new

-- A request was denied, with a fault that the system may deny it with.
pub record IsDenialSeen (old new : Paged) (asked : ℕ) (fault : GrantFault) : Type 0 where
  pub may : MayDeny old asked fault
  pub follows : Follows old (Refused asked fault ∷ []) new
