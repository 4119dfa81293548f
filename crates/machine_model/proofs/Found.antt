-- The rights of a page are a part of its bits.
use Rattle.std.proofs.Common.{◌≡◌, ap, refl, Option, Some, None, option_map}
use Rattle.paging_core.specs.declared.page_table.PageBits.{PageBits}
use Rattle.paging_core.specs.declared.page_table.Rights.{Rights}
use Rattle.paging_core.specs.Walk.{Place}
use Rattle.paging_core.specs.PageBits.{bits_of, bits_at}
use Rattle.machine_model.specs.Machine.{rights_of}

abbrev rights_in : PageBits → Rights
rights_in bits = record { write = bits.write; user = bits.user; fetch = bits.fetch }

-- a page that has the bits of one who holds it has the rights of this one
pub rights_alike : {A : Type 0} (rights : A → Rights) (place : Option Place) (holder : Option A) →
    option_map bits_at place ≡ option_map (λ held. bits_of (rights held)) holder → option_map rights_of place ≡ option_map rights holder
rights_alike rights None None same = refl
rights_alike rights None (Some held) same = absurd (cc)
rights_alike rights (Some found) None same = absurd (cc)
rights_alike rights (Some found) (Some held) same = ap (option_map rights_in) same
