-- Which pages a command makes the processor forget (AMD64 manual, volume 3, INVLPG, INVLPGB and INVPCID; volume 2, section
-- 5.5). Identifiers of address spaces are not looked at, so a command may cover more than it names.
use Rattle.std.specs.Prelude.{ℕ, ◌+◌, ◌*◌, ◌/◌, ◌%◌, ◌^◌, Bool, true, ◌&&◌, ◌==◌, nat_le, nat_lt, max, if◌then◌else◌}
use Rattle.x86_instructions.specs.declared.tlb.FlushCommand.{FlushCommand}
use Rattle.x86_instructions.specs.declared.tlb.FlushCommand.TheVariants.{Invlpg, ReloadCr3, Invpcid, Invlpgb}

-- the page is one of a number of pages from another on
abbrev pub is_among : ℕ → ℕ → ℕ → Bool
is_among first pages page = nat_le first page && nat_lt page (first + pages)

-- the pages of 4 KiB in a page of the size that ECX names: 2 MiB if bit 31 is set
abbrev pub pages_each : ℕ → ℕ
pages_each ecx = if ecx / 2 ^ 31 == 1 then 512 else 1

-- the page of that size which has the address in bits 12 to 63 of RAX, by its first page of 4 KiB
abbrev pub first_page : ℕ → ℕ → ℕ
first_page rax ecx = rax / 4096 / pages_each ecx * pages_each ecx

-- as many pages of that size as bits 0 to 15 of ECX say, and one if they are 0
abbrev pub named_pages : ℕ → ℕ
named_pages ecx = max 1 (ecx % 2 ^ 16) * pages_each ecx

-- whether a command covers the page. INVLPGB covers all if bit 0 of RAX says that it has no address
abbrev pub covers : FlushCommand → ℕ → Bool
covers (Invlpg address) page = page == address / 4096
covers ReloadCr3 page = true
covers (Invpcid kind pcid address) page = if kind == 0 then page == address / 4096 else true
covers (Invlpgb rax ecx edx) page = if rax % 2 == 1 then is_among (first_page rax ecx) (named_pages ecx) page else true
