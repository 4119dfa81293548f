-- What contracts see of a space.
use Rattle.std.specs.Prelude.{◌≡◌, Result, OnErr}
use Rattle.meminterval.specs.Tree.{entries}
use Rattle.address_space.specs.Space.{Tables}
use Rattle.address_space.specs.declared.space.Space.{Space}

-- what the definitions see of a space: the words of memory, the root's frame, the free frames, and the runs of mapped pages
abbrev pub tables_of : Space → Tables
tables_of space = record { words = space.frames; root = space.root; free = space.pool; runs = entries space.runs }

-- an error changes nothing
abbrev pub KeptIfErr : {A E : Type 0} → Result A E → Space → Space → Type 0
KeptIfErr result old new = OnErr result (tables_of new ≡ tables_of old)
