use Rattle.std.specs.Prelude.{ℕ}
use Rattle.x86_flags.specs.declared.privilege_level.PrivilegeLevel.{PrivilegeLevel}
use Rattle.x86_flags.specs.declared.privilege_level.PrivilegeLevel.TheVariants.{Ring0, Ring1, Ring2, Ring3}

-- the number of a ring
abbrev pub level_number : PrivilegeLevel → ℕ
level_number Ring0 = 0
level_number Ring1 = 1
level_number Ring2 = 2
level_number Ring3 = 3
