-- What an answer of `large_page` says of the slot.
use Rattle.std.proofs.Common.{◌≡◌, Option, None, Some, true, false, sym}
use Rattle.std.specs.Prelude.{IsSome}
use Rattle.std.specs.Option.{option_map, is_some}
use Rattle.paging_core.specs.Walk.{Place, mapped_place}
use Rattle.paging_core.specs.declared.page_walk.Mapped.{Mapped}

pub none_of : (o : Option Mapped) (p : Option Place) → option_map mapped_place o ≡ p → is_some o ≡ false → p ≡ None
none_of None p e t = sym e
none_of (Some x) p e t = absurd (cc)

pub some_of : (o : Option Mapped) (p : Option Place) → option_map mapped_place o ≡ p → is_some o ≡ true → IsSome p
some_of None p e t = absurd (cc)
some_of (Some x) p e t = rw (← e) (let h : IsSome (Some (mapped_place x)) = cc in h)
