-- What an access gives, if the walk finds its page.
use Rattle.std.proofs.Common.{◌≡◌, ℕ, ◌/◌, ◌%◌, Bool, true, false, is_some, IsTrue, Option, Some, option_map, sym, ap, ◌∙◌}
use Rattle.paging_core.specs.Address.{is_canonical}
use Rattle.paging_core.specs.Memory.{word_at, byte_of}
use Rattle.paging_core.specs.Walk.{Place, walk_of}
use Rattle.x86_flags.specs.PageFaultErrorCode.{page_fault_bits}
use Rattle.x86_flags.specs.declared.page_fault_error_code.PageFaultErrorCode.{PageFaultErrorCode}
use Rattle.paging_core.specs.declared.processor_access.AccessKind.{AccessKind}
use Rattle.machine_model.specs.Machine.{Paged, rights_of}
use Rattle.paging_core.specs.ProcessorAccess.{fault_code}
use Rattle.machine_model.specs.Probe.{is_access_granted}
use Rattle.tlb_cache.specs.Cached.{IsProbed}
use Rattle.tlb_cache.specs.declared.probed.Probed.TheVariants.{Byte, Fault}

pub probed_byte :
    (p : Paged) (at : ℕ) (access : AccessKind) (user : Bool) (place : Place) (byte : ℕ) → IsTrue (is_canonical at) →
    Some place ≡ walk_of p.words p.root (at / 4096) →
    is_access_granted (Some (rights_of place)) access user ≡ true → byte_of (word_at p.words place.frame (at % 4096 / 8))
    (at % 8) ≡ byte → IsProbed p at access user (Byte byte)
probed_byte p at access user place byte canonical found granted is = (
  canonical,
  ap (λ (found : Option Place). is_access_granted (option_map rights_of found) access user) (sym found) ∙ granted,
  ap (λ (found : Option Place). option_map (λ (place : Place). byte_of (word_at p.words place.frame (at % 4096 / 8))
      (at % 8)) found) (sym found) ∙ ap (λ (byte : ℕ). Some byte) is,
)

pub probed_fault :
    (p : Paged) (at : ℕ) (access : AccessKind) (user : Bool) (found : Option Place) (code : PageFaultErrorCode) →
    IsTrue (is_canonical at) → found ≡ walk_of p.words p.root (at / 4096) →
    is_access_granted (option_map rights_of found) access user ≡ false → page_fault_bits code ≡ fault_code
    (is_some (option_map rights_of found)) false access user → IsProbed p at access user (Fault code)
probed_fault p at access user found code canonical is denied bits = (
  canonical,
  ap (λ (found : Option Place). is_access_granted (option_map rights_of found) access user) (sym is) ∙ denied,
  bits ∙ ap (λ (found : Option Place). fault_code (is_some (option_map rights_of found)) false access user) is,
)
