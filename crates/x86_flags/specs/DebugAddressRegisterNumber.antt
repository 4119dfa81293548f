use Rattle.std.specs.Prelude.{ℕ}
use Rattle.x86_flags.specs.declared.debug_address_register_number.DebugAddressRegisterNumber.{DebugAddressRegisterNumber}
use Rattle.x86_flags.specs.declared.debug_address_register_number.DebugAddressRegisterNumber.TheVariants.{Dr0, Dr1, Dr2, Dr3}

-- the number of a debug address register
abbrev pub register_number : DebugAddressRegisterNumber → ℕ
register_number Dr0 = 0
register_number Dr1 = 1
register_number Dr2 = 2
register_number Dr3 = 3
