use Rattle.std.proofs.Common.{◌≡◌, ◌++◌, take, string_bytes}
use Rattle.std.specs.List.{flat_map}
use Rattle.heap_time.specs.Addresses.{address_text}
use Rattle.heap_time.proofs.addresses.push_addresses.Given as goal

abbrev pub invariant-loop-band : goal.invariant-loop-band
invariant-loop-band l = string_bytes l.out ≡ string_bytes l.fn.out ++ flat_map address_text (take l.band-index l.bands)
