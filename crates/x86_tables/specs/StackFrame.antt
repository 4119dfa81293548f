-- What the processor pushes as it calls an interrupt handler (AMD64 manual, volume 2, section 8.9.3).
use Rattle.std.specs.Prelude.{ℕ}
use Rattle.std.specs.Borrow.{Lends, MutBor, Fml}
use Rattle.x86_flags.specs.declared.rflags.RFlags.{RFlags}
use Rattle.x86_flags.specs.declared.segment_selector.SegmentSelector.{SegmentSelector}
use Rattle.x86_tables.specs.declared.idt.stack_frame.InterruptStackFrame.{InterruptStackFrame}
use Rattle.x86_tables.specs.declared.idt.stack_frame.InterruptStackFrameValue.{InterruptStackFrameValue}
use Rattle.x86_tables.specs.contracts.idt.stack_frame.InterruptStackFrame.{the_row}
use Rattle.x86_tables.specs.contracts.idt.stack_frame.InterruptStackFrameValue.{the_row as value_row}

-- the values of a frame, from the lowest address to the highest
abbrev pub frame_value : ℕ → SegmentSelector → RFlags → ℕ → SegmentSelector → InterruptStackFrameValue
frame_value rip cs rflags rsp ss = record {
  instruction_pointer = rip;
  code_segment = cs;
  cpu_flags = rflags;
  stack_pointer = rsp;
  stack_segment = ss;
}

-- the frame ends with the last values behind the reference
abbrev pub lends_value : MutBor InterruptStackFrame → MutBor InterruptStackFrameValue → Fml
lends_value frame value = Lends the_row value_row frame value (λ last. record { 0 = last })
