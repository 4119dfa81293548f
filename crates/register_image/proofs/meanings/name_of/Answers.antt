use Rattle.std.proofs.Common.{◌≡◌, ◌≢◌, ℕ, List, [], ◌∷◌, codes, ap, refl, ◌∙◌, arith}
use Rattle.x86_tables.specs.ExceptionVector.{vector_number}
use Rattle.x86_tables.specs.declared.idt.exception_vector.ExceptionVector.{ExceptionVector}
use Rattle.x86_tables.specs.declared.idt.exception_vector.ExceptionVector.TheVariants.{Division, Debug, NonMaskableInterrupt, Breakpoint, Overflow, BoundRange, InvalidOpcode, DeviceNotAvailable, Double, InvalidTss, SegmentNotPresent, Stack, GeneralProtection, Page, X87FloatingPoint, AlignmentCheck, MachineCheck, SimdFloatingPoint, Virtualization, ControlProtection, HypervisorInjection, VmmCommunication, Security}
use Rattle.register_image.specs.Meanings.{exception_name, exceptions, name_among}
use Rattle.register_image.proofs.meanings.name_of.Goals as goal

-- an exception's own number leads to its name
own_name : (exception : ExceptionVector) → exception_name exception ≡ name_among exceptions (vector_number exception)
unfolding name_among
own_name Division = refl
own_name Debug = refl
own_name NonMaskableInterrupt = refl
own_name Breakpoint = refl
own_name Overflow = refl
own_name BoundRange = refl
own_name InvalidOpcode = refl
own_name DeviceNotAvailable = refl
own_name Double = refl
own_name InvalidTss = refl
own_name SegmentNotPresent = refl
own_name Stack = refl
own_name GeneralProtection = refl
own_name Page = refl
own_name X87FloatingPoint = refl
own_name AlignmentCheck = refl
own_name MachineCheck = refl
own_name SimdFloatingPoint = refl
own_name Virtualization = refl
own_name ControlProtection = refl
own_name HypervisorInjection = refl
own_name VmmCommunication = refl
own_name Security = refl

-- a number that no exception has leads to none
no_name : (some : List ExceptionVector) (number : ℕ) → ((exception : ExceptionVector) → vector_number exception ≢ number) →
    codes "none" ≡ name_among some number
unfolding name_among
no_name [] number none = refl
no_name (exception ∷ rest) number none = grind (arith, none exception, no_name rest number none)

pub returns-in-Ok : goal.returns-in-Ok
returns-in-Ok c = c.exception_name.ensures ∙ own_name c.in-Ok.exception ∙ ap (name_among exceptions) c.in-Ok.ensures

pub returns-in-Err : goal.returns-in-Err
returns-in-Err c = no_name exceptions c.args.number c.in-Err.ensures.1
