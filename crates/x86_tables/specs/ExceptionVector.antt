-- The numbers of the processor's exceptions (AMD64 manual, volume 2, section 8.2).
use Rattle.std.specs.Prelude.{ℕ}
use Rattle.x86_tables.specs.declared.idt.exception_vector.ExceptionVector.{ExceptionVector}
use Rattle.x86_tables.specs.declared.idt.exception_vector.ExceptionVector.TheVariants.{Division, Debug, NonMaskableInterrupt, Breakpoint, Overflow, BoundRange, InvalidOpcode, DeviceNotAvailable, Double, InvalidTss, SegmentNotPresent, Stack, GeneralProtection, Page, X87FloatingPoint, AlignmentCheck, MachineCheck, SimdFloatingPoint, Virtualization, ControlProtection, HypervisorInjection, VmmCommunication, Security}

-- the number of an exception's vector
abbrev pub vector_number : ExceptionVector → ℕ
vector_number Division = 0x00
vector_number Debug = 0x01
vector_number NonMaskableInterrupt = 0x02
vector_number Breakpoint = 0x03
vector_number Overflow = 0x04
vector_number BoundRange = 0x05
vector_number InvalidOpcode = 0x06
vector_number DeviceNotAvailable = 0x07
vector_number Double = 0x08
vector_number InvalidTss = 0x0A
vector_number SegmentNotPresent = 0x0B
vector_number Stack = 0x0C
vector_number GeneralProtection = 0x0D
vector_number Page = 0x0E
vector_number X87FloatingPoint = 0x10
vector_number AlignmentCheck = 0x11
vector_number MachineCheck = 0x12
vector_number SimdFloatingPoint = 0x13
vector_number Virtualization = 0x14
vector_number ControlProtection = 0x15
vector_number HypervisorInjection = 0x1C
vector_number VmmCommunication = 0x1D
vector_number Security = 0x1E
