-- Which calls write bytes.
use Rattle.std.proofs.Common.{◌≡◌, ℕ, List, Option, Some, None, IsSome, sym, subst}
use Rattle.std.proofs.lemmas.Bool.{false≢true}
use Rattle.machine_model.specs.declared.call.Call.{Call}
use Rattle.call_lines.specs.Grammar.{IsWrite, write_call}

with_bytes : (block offset : ℕ) (bytes : Option (List ℕ)) → IsSome bytes → IsWrite (write_call (Some block) (Some offset) bytes)
with_bytes block offset (Some bytes) is = tt
with_bytes block offset None is = absurd (false≢true is)

pub asks_to_write : (item : Option Call) (block offset : ℕ) (bytes : Option (List ℕ)) →
    item ≡ write_call (Some block) (Some offset) bytes → IsSome bytes → IsWrite item
asks_to_write item block offset bytes same is = subst IsWrite (sym same) (with_bytes block offset bytes is)
