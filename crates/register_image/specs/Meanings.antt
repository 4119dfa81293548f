-- What vectors and error codes of exceptions mean.
use Rattle.std.specs.Prelude.{ℕ, ◌^◌, List, [], ◌∷◌, ◌++◌, ◌==◌, nat_lt, if◌then◌else◌, codes}
use Rattle.std.specs.Int.RustNames.{bit_and}
use Rattle.paging_core.specs.Field.{field_of}
use Rattle.x86_tables.specs.ExceptionVector.{vector_number}
use Rattle.x86_tables.specs.SelectorErrorCode.{is_external, selector_table}
use Rattle.x86_tables.specs.declared.idt.exception_vector.ExceptionVector.{ExceptionVector}
use Rattle.x86_tables.specs.declared.idt.exception_vector.ExceptionVector.TheVariants.{Division, Debug, NonMaskableInterrupt, Breakpoint, Overflow, BoundRange, InvalidOpcode, DeviceNotAvailable, Double, InvalidTss, SegmentNotPresent, Stack, GeneralProtection, Page, X87FloatingPoint, AlignmentCheck, MachineCheck, SimdFloatingPoint, Virtualization, ControlProtection, HypervisorInjection, VmmCommunication, Security}
use Rattle.x86_tables.specs.declared.idt.selector_error_code.DescriptorTable.{DescriptorTable}
use Rattle.x86_tables.specs.declared.idt.selector_error_code.DescriptorTable.TheVariants.{Gdt, Idt, Ldt}
use Rattle.register_image.specs.Numbers.{number_text}

abbrev pub exception_name : ExceptionVector → List ℕ
exception_name Division = codes "Division"
exception_name Debug = codes "Debug"
exception_name NonMaskableInterrupt = codes "NonMaskableInterrupt"
exception_name Breakpoint = codes "Breakpoint"
exception_name Overflow = codes "Overflow"
exception_name BoundRange = codes "BoundRange"
exception_name InvalidOpcode = codes "InvalidOpcode"
exception_name DeviceNotAvailable = codes "DeviceNotAvailable"
exception_name Double = codes "Double"
exception_name InvalidTss = codes "InvalidTss"
exception_name SegmentNotPresent = codes "SegmentNotPresent"
exception_name Stack = codes "Stack"
exception_name GeneralProtection = codes "GeneralProtection"
exception_name Page = codes "Page"
exception_name X87FloatingPoint = codes "X87FloatingPoint"
exception_name AlignmentCheck = codes "AlignmentCheck"
exception_name MachineCheck = codes "MachineCheck"
exception_name SimdFloatingPoint = codes "SimdFloatingPoint"
exception_name Virtualization = codes "Virtualization"
exception_name ControlProtection = codes "ControlProtection"
exception_name HypervisorInjection = codes "HypervisorInjection"
exception_name VmmCommunication = codes "VmmCommunication"
exception_name Security = codes "Security"

abbrev pub exceptions : List ExceptionVector
exceptions =
    Division ∷ Debug ∷ NonMaskableInterrupt ∷ Breakpoint ∷ Overflow ∷ BoundRange ∷ InvalidOpcode ∷ DeviceNotAvailable ∷ Double ∷ InvalidTss ∷ SegmentNotPresent ∷ Stack
    ∷ GeneralProtection ∷ Page ∷ X87FloatingPoint ∷ AlignmentCheck ∷ MachineCheck ∷ SimdFloatingPoint ∷ Virtualization ∷ ControlProtection ∷ HypervisorInjection
    ∷ VmmCommunication ∷ Security ∷ []

-- the name of the first of some exceptions that has this number, or that none has it
unfoldable pub name_among : List ExceptionVector → ℕ → List ℕ
name_among [] number = codes "none"
name_among (exception ∷ rest) number = if vector_number exception == number then exception_name exception else name_among rest number

-- the name of an exception by its vector, after a space
abbrev pub exception_text : ℕ → List ℕ
exception_text number = codes " " ++ name_among exceptions number

abbrev pub table_word : DescriptorTable → List ℕ
table_word Gdt = codes " gdt"
table_word Idt = codes " idt"
table_word Ldt = codes " ldt"

-- the table and the index of the selector that raised an exception, and whether an event from outside did; an error code of
-- 16 bits that is 0 names no selector
abbrev pub selector_text : ℕ → List ℕ
selector_text code =
    if nat_lt code (2 ^ 16)
    then (if code == 0 then codes " null"
    else table_word (selector_table code) ++ (number_text (field_of code 3 16) ++ (if is_external code then codes " external" else [])))
    else codes " none"

-- a word, if the bit is set
abbrev pub word_if : ℕ → ℕ → List ℕ → List ℕ
word_if code bit word = if bit_and code bit == bit then word else []

-- which flags of the error code of a page fault are set
abbrev pub page_fault_text : ℕ → List ℕ
page_fault_text code =
    word_if code 1 (codes " PROTECTION_VIOLATION") ++ (word_if code 2 (codes " CAUSED_BY_WRITE") ++ (word_if code 4 (codes " USER_MODE")
    ++ (word_if code 8 (codes " MALFORMED_TABLE") ++ word_if code 16 (codes " INSTRUCTION_FETCH"))))
