-- What an entry of a look-up refers to.
use Rattle.meminterval.specs.declared.entry.Entry.{Entry}
use Rattle.meminterval.specs.declared.interval.Interval.{Interval}

-- the interval and its value
abbrev pub pair_of : {T V : Type 0} → Entry T V → Interval T × V
pair_of e = (e.interval.now, e.value.now)
