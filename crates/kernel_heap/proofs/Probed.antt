-- What the rights at an address say of the region that has it.
use Rattle.std.proofs.Common.{◌≡◌, refl, ap, Bool, true, false, Option, Some, None, option_map, IsSome}
use Rattle.paging_core.specs.declared.page_table.Rights.{Rights}
use Rattle.paging_core.specs.declared.processor_access.AccessKind.{AccessKind}
use Rattle.machine_model.specs.Probe.{is_access_granted}

-- where an access is granted, a region has the address
pub granted_there : (rights : Option Rights) (kind : Option (Bool × Rights)) (access : AccessKind) (user : Bool) →
    rights ≡ option_map (λ k. k.1) kind → is_access_granted rights access user ≡ true → IsSome kind
granted_there rights None access user same granted = absurd (let denied : is_access_granted rights access user ≡ false =
    ap (λ r. is_access_granted r access user) same in cc)
granted_there rights (Some k) access user same granted = refl
