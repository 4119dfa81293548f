-- A space as a plain map: two pages are mapped, written, protected and copied; then two are mapped between them and
-- three leave.
use Rattle.std.proofs.Common.{◌≡◌, refl, true, false, [], ◌∷◌, Some, None}
use Rattle.paging_core.specs.declared.page_table.Rights.{Rights}
use Rattle.address_space.specs.PageMap.{PageMap, mapped, unmapped, protected, duplicated, stored}

abbrev writable : Rights
writable = record { write = true; user = false; fetch = false }

abbrev readable : Rights
readable = record { write = false; user = false; fetch = false }

abbrev empty : PageMap
empty = record { rights = λ page. None; byte = λ address. None }

-- two pages, the second of which may be read alone, and their copy
abbrev copied : PageMap
copied = duplicated 1 2 5 (protected 2 1 readable (stored 8190 (1 ∷ 2 ∷ 3 ∷ 4 ∷ []) (mapped 1 2 writable empty)))

first_byte : copied.byte 8191 ≡ Some 2
first_byte = refl

byte_behind : copied.byte 8192 ≡ Some 3
byte_behind = refl

copied_byte : copied.byte 24577 ≡ Some 4
copied_byte = refl

copied_rights : copied.rights 6 ≡ Some readable
copied_rights = refl

-- two pages more, and three that leave
abbrev cut : PageMap
cut = unmapped 2 3 (mapped 3 2 writable copied)

gone : cut.rights 2 ≡ None
gone = refl

gone_byte : cut.byte 8192 ≡ None
gone_byte = refl

stays : cut.rights 5 ≡ Some writable
stays = refl
