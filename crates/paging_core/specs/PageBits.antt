-- The bits of an entry that maps a page: what a kernel chooses for it beside the frame.
use Rattle.std.specs.Prelude.{false}
use Rattle.paging_core.specs.Walk.{Place}
use Rattle.paging_core.specs.declared.page_table.PageBits.{PageBits}
use Rattle.paging_core.specs.declared.page_table.Rights.{Rights}

-- those of a page with these rights, of type 0, as usual memory, and not global
abbrev pub bits_of : Rights → PageBits
bits_of rights = record { write = rights.write; user = rights.user; fetch = rights.fetch; through = false; uncached = false; global = false }

-- those that a walk to this place tells
abbrev pub bits_at : Place → PageBits
bits_at place = record { write = place.write; user = place.user; fetch = place.fetch; through = place.through; uncached = place.uncached; global = place.global }
