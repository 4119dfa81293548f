-- Where the walk of an address arrives.
use Rattle.std.specs.Prelude.{ℕ, ◌+◌, ◌*◌, ◌/◌, ◌%◌, List, ◌++◌, codes, Option, Some, None, if◌then◌else◌}
use Rattle.std.specs.Option.{option_map}
use Rattle.paging_core.specs.Address.{is_canonical}
use Rattle.paging_core.specs.Walk.{walk_of}
use Rattle.machine_model.specs.Machine.{Paged}
use Rattle.heap_program.specs.Text.{hexadecimal}
use Rattle.kernel_heap.specs.Machine.{system_of}
use Rattle.paged_systems.specs.System.{paged}
use Rattle.kernel_heap.specs.Parts.{Parts}

-- the physical address at which the walk over the raw words arrives, from a canonical address whose page is mapped
abbrev pub place_from : Paged → ℕ → Option ℕ
place_from p at = option_map (λ place. place.frame * 4096 + at % 4096) (walk_of p.words p.root (at / 4096))

-- from any address
abbrev pub place_walked : Paged → ℕ → Option ℕ
place_walked p at = if is_canonical at then place_from p at else None

abbrev pub place_text : Option ℕ → List ℕ
place_text (Some place) = hexadecimal place
place_text None = codes "none"

-- CR2, and the place of an address
abbrev pub cr2_line : Parts → ℕ → List ℕ
cr2_line machine at =
    codes "cr2 " ++ (hexadecimal machine.cpu.cr2 ++ (codes " walk " ++ (place_text (place_walked (paged (system_of machine.heap)) at) ++ codes "\n")))
