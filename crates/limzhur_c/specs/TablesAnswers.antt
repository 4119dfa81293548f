-- What the calls that change pages answer to C (own).
use Rattle.std.specs.Prelude.{◌≡◌, ◌≢◌, ℕ, ◌/◌, ◌^◌, ◌<◌, Bool, nat_lt, if◌then◌else◌, Option, Some}
use Rattle.kernel_tables.specs.Changes.{ChangesOnly}
use Rattle.kernel_tables.specs.Flush.{pages_of_range}
use Rattle.kernel_tables.specs.TableState.{TableState}
use Rattle.kernel_tables.specs.declared.range_fault.RangeFault.{RangeFault}
use Rattle.paging_core.specs.Walk.{Place, place_with}
use Rattle.limzhur_c.specs.declared.tables_flags.FlaggedPlace.{FlaggedPlace}
use Rattle.limzhur_c.specs.TablesCodes.{range_code, fault_detail, flag_bits, flagged}

-- C is told this number: 0 if the pages are changed, and else why not. Only these pages change, and none if the number is not 0.
pub record IsChangeTold (pages : ℕ → Bool) (code : ℕ) (old : TableState) (answer : ℕ) (new : TableState) : Type 0 where
  pub answer_is : answer ≡ code
  pub only : ChangesOnly pages old new
  pub same : answer ≢ 0 → new ≡ old

-- The same of a range, from the page of an address on: C is told the number of the cause, and its detail.
pub record IsRangeTold (address pages : ℕ) (cause : Option RangeFault) (old : TableState) (before answer told : ℕ) (new : TableState) : Type 0 where
  pub change : IsChangeTold (pages_of_range (address / 4096) pages) (range_code cause) old answer new
  pub detail : told ≡ fault_detail cause before

-- The same if a word of flags names the bits: if one of its bits is unknown, C is told so by a number of its own.
pub record IsFlaggedRangeTold (flags address pages : ℕ) (cause : Option RangeFault) (old : TableState) (before answer told : ℕ) (new : TableState) : Type 0 where
  pub change : IsChangeTold (pages_of_range (address / 4096) pages) (flagged flags (range_code cause)) old answer new
  pub detail : told ≡ (if nat_lt flags 64 then fault_detail cause before else before)

-- C is told where a page leads, with all its bits, by a word of known flags.
pub record IsFlaggedPlaceTold (place : Option Place) (told : FlaggedPlace) : Type 0 where
  pub is : place ≡ Some (place_with told.frame (flag_bits told.flags))
  pub known : told.flags < 64
