-- The register file.
use Rattle.std.specs.Prelude.{false}
use Rattle.x86_registers.specs.declared.cpu.Cpu.{Cpu}

-- the SIMD errors are masked, bit 1 of the flags is set as always, and all else is 0 or off (own)
abbrev pub new_cpu : Cpu
new_cpu = record {
  cr0 = 0;
  cr2 = 0;
  cr3 = 0;
  cr4 = 0;
  cr8 = 0;
  dr0 = 0;
  dr1 = 0;
  dr2 = 0;
  dr3 = 0;
  dr6 = 0;
  dr7 = 0;
  xcr0 = 0;
  rflags = 2;
  efer = 0;
  fs_base = 0;
  gs_base = 0;
  kernel_gs_base = 0;
  star = 0;
  lstar = 0;
  sfmask = 0;
  u_cet = 0;
  s_cet = 0;
  apic_base = 0;
  mxcsr = 0x1F80;
  nasid = 0;
  cs = 0;
  ss = 0;
  ds = 0;
  es = 0;
  fs = 0;
  gs = 0;
  tr = 0;
  invlpgb_count_max = 0;
  gdtr = record { limit = 0; base = 0 };
  idtr = record { limit = 0; base = 0 };
  smap = false;
  invlpgb = false;
  tlb_flush_nested = false;
}
