-- Kinds of extents.
use Rattle.std.specs.Prelude.{Bool, true, false}
use Rattle.dlmalloc_chunks.specs.declared.extent.Kind.{Kind}
use Rattle.dlmalloc_chunks.specs.declared.extent.Kind.TheVariants.{Used, Free, Victim, Top, Record, Foot}

-- whether an extent is free
abbrev pub is_free : Kind → Bool
is_free Used = false
is_free Free = true
is_free Victim = true
is_free Top = true
is_free Record = false
is_free Foot = false

abbrev pub is_named_victim : Kind → Bool
is_named_victim Used = false
is_named_victim Free = false
is_named_victim Victim = true
is_named_victim Top = false
is_named_victim Record = false
is_named_victim Foot = false

abbrev pub is_top : Kind → Bool
is_top Used = false
is_top Free = false
is_top Victim = false
is_top Top = true
is_top Record = false
is_top Foot = false

abbrev pub is_foot : Kind → Bool
is_foot Used = false
is_foot Free = false
is_foot Victim = false
is_foot Top = false
is_foot Record = false
is_foot Foot = true

-- whether a segment ends with an extent
abbrev pub ends_segment : Kind → Bool
ends_segment Used = false
ends_segment Free = false
ends_segment Victim = false
ends_segment Top = false
ends_segment Record = true
ends_segment Foot = true
