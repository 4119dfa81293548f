-- A paged system with a cache of its translations.
use Rattle.std.specs.Prelude.{◌≡◌, ℕ, ◌+◌, ◌*◌, ◌/◌, ◌<◌, ◌≤◌, nat_lt, is_some, if◌then◌else◌, Bool, true, false, IsTrue, IsFalse, List, Option, Some, None, option_map}
use Rattle.std.specs.List.{list_any}
use Rattle.paging_core.specs.Address.{is_canonical}
use Rattle.paging_core.specs.Memory.{frame_count}
use Rattle.paging_core.specs.Steps.{half_pages, position, page_at}
use Rattle.paging_core.specs.Walk.{walk_of, reached}
use Rattle.paging_core.specs.declared.page_table.Rights.{Rights}
use Rattle.x86_registers.specs.declared.cpu.Cpu.{Cpu}
use Rattle.x86_instructions.specs.declared.tlb.FlushCommand.{FlushCommand}
use Rattle.x86_instructions.specs.Invlpgb.{commands, limits_of, whole}
use Rattle.x86_flags.specs.PageFaultErrorCode.{page_fault_bits}
use Rattle.paging_core.specs.declared.processor_access.AccessKind.{AccessKind}
use Rattle.machine_model.specs.Machine.{Paged, rights_of}
use Rattle.paging_core.specs.ProcessorAccess.{fault_code}
use Rattle.machine_model.specs.Probe.{is_access_granted}
use Rattle.mapped_regions.specs.Mapped.{IsPageRange}
use Rattle.mapped_regions.specs.UserRegions.{IsUnmapRefused}
use Rattle.tlb_cache.specs.Covered.{covers}
use Rattle.tlb_cache.specs.declared.probed.Probed.{Probed}
use Rattle.tlb_cache.specs.declared.probed.Probed.TheVariants.{Byte, Fault, NotCanonical}
use Rattle.tlb_cache.specs.declared.cached_fault.CachedFault.{CachedFault}
use Rattle.tlb_cache.specs.declared.cached_fault.CachedFault.TheVariants.{Unmap, OutOfMemory}

-- what may be done at the page of an address, if the walk finds it
abbrev pub walked_rights : Paged → ℕ → Option Rights
walked_rights p at = option_map rights_of (walk_of p.words p.root (at / 4096))

-- What an access to one byte gives, by the walk alone: no cache is named here. (AMD64 manual, volume 2, sections 5.6 and
-- 8.4.2.)
abbrev pub IsProbed : Paged → ℕ → AccessKind → Bool → Probed → Type 0
IsProbed p at access user NotCanonical = IsFalse (is_canonical at)
IsProbed p at access user (Fault code) =
    IsTrue (is_canonical at) × IsFalse (is_access_granted (walked_rights p at) access user) × (page_fault_bits code ≡ fault_code (is_some (walked_rights p at)) false access user)
IsProbed p at access user (Byte byte) = IsTrue (is_canonical at) × IsTrue (is_access_granted (walked_rights p at) access user) × (reached p.words p.root at ≡ Some byte)

-- a page, and the page that comes next after a number of pages from it on, unless they hold the last one of the address
-- space
abbrev pub range_of : ℕ → ℕ → Option (ℕ × ℕ)
range_of first pages =
    if nat_lt (position 4096 first + pages) (2 * half_pages 4096) then Some (first, page_at 4096 (position 4096 first + pages)) else None

-- the commands for a number of pages from an address on: those of INVLPGB for them, or the one for all pages
abbrev pub flush_of : Cpu → ℕ → ℕ → List FlushCommand
flush_of cpu start pages =
    commands 4096 (record (whole (limits_of cpu)) { pages = range_of (start / 4096) pages }) (range_of (start / 4096) pages)

-- commands cover a number of pages from an address on
abbrev pub Flushes : List FlushCommand → ℕ → ℕ → Type 0
Flushes list start pages = (k : ℕ) → k < pages → IsTrue (list_any (λ (command : FlushCommand). covers command (start / 4096 + k)) list)

-- Why a region of the user is not unmapped: the causes of the system, or want of memory for the commands of a range.
abbrev pub IsCachedRefused : Paged → ℕ → ℕ → CachedFault → Type 0
IsCachedRefused p start pages (Unmap fault) = IsUnmapRefused p start pages fault
IsCachedRefused p start pages OutOfMemory = IsPageRange start pages × (pages ≤ frame_count p.words)

-- a processor that has INVLPGB with a greatest count, and else is as it starts
abbrev pub cached_cpu : Cpu → ℕ → Cpu
cached_cpu cpu count_max = record cpu { invlpgb = true; invlpgb_count_max = count_max }
