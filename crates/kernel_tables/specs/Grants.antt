-- What the entries of mapped pages are given.
use Rattle.std.specs.Prelude.{Bool, Some}
use Rattle.paging_core.specs.Entry.{page_entry}
use Rattle.paging_core.specs.PageChanges.{Change}
use Rattle.paging_core.specs.Walk.{Place, place_with}
use Rattle.paging_core.specs.declared.page_table.PageBits.{PageBits}
use Rattle.paging_core.specs.declared.page_table.Rights.{Rights}
use Rattle.kernel_tables.specs.declared.grants.Grant.{Grant}
use Rattle.kernel_tables.specs.declared.grants.Grant.TheVariants.{All, Only}

-- these bits, whatever the page had
abbrev pub all_bits : PageBits → Place → PageBits
all_bits bits was = bits

-- these rights: the page keeps its type, and stays global or not
abbrev pub with_rights : Rights → Place → PageBits
with_rights rights was =
    record { write = rights.write; user = rights.user; fetch = rights.fetch; through = was.through; uncached = was.uncached; global = was.global }

-- what a page that led to a place is given
abbrev pub given_by : Grant → Place → PageBits
given_by (All bits) = all_bits bits
given_by (Only rights) = with_rights rights

-- users reach the page then
abbrev pub user_of : Grant → Bool
user_of (All bits) = bits.user
user_of (Only rights) = rights.user

-- what becomes of a page that led to a place: it keeps its frame
abbrev pub granting : (Place → PageBits) → Change
granting bits = record { entry = λ was. page_entry was.frame (bits was); leads = λ was. Some (place_with was.frame (bits was)) }
