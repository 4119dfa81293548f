-- Accesses to the ports of devices (AMD64 manual, volume 1, section 3.8).
use Rattle.std.specs.Prelude.{ℕ, ◌≡◌, ◌%◌, ◌^◌, true, false, Option, Some}
use Rattle.x86_instructions.specs.declared.port.ports.PortAccessed.{PortAccessed}
use Rattle.x86_instructions.specs.declared.port.memory_ports.MemoryPorts.{MemoryPorts}

-- a port of a width in bits was read, and answered the value
abbrev pub was_read : ℕ → ℕ → ℕ → PortAccessed
was_read port width value = record { port = port; width = width; write = false; value = value }

-- the value was written to a port of a width in bits
abbrev pub was_written : ℕ → ℕ → ℕ → PortAccessed
was_written port width value = record { port = port; width = width; write = true; value = value }

-- what ports in memory answer, and the last access to them
abbrev pub port_value : MemoryPorts → ℕ
port_value ports = ports.value

-- the last access to the ports; None before the first
abbrev pub last_port_access : MemoryPorts → Option PortAccessed
last_port_access ports = ports.last

-- one access to ports in memory: it is the last one, a read answers the low bits of what they answer, and they go on
-- to answer that
pub record IsAccess (before : MemoryPorts) (access : PortAccessed) (after : MemoryPorts) : Type 0 where
  pub last : last_port_access after ≡ Some access
  pub value : access.write ≡ false → access.value ≡ port_value before % 2 ^ access.width
  pub answer : port_value after ≡ port_value before
