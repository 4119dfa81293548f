-- What a heap's memory consists of.
use Rattle.std.specs.Prelude.{ℕ, Bool, true, false, List, codes, if◌then◌else◌}
use Rattle.std.specs.List.{count_by, sum_by}
use Rattle.dlmalloc_chunks.specs.declared.extent.Extent.{Extent}
use Rattle.dlmalloc_chunks.specs.declared.extent.Kind.{Kind}
use Rattle.dlmalloc_chunks.specs.declared.extent.Kind.TheVariants.{Used, Free, Victim as Dv, Top as End, Record, Foot}
use Rattle.heap_map.specs.declared.classes.Class.{Class}
use Rattle.heap_map.specs.declared.classes.Class.TheVariants.{Block, Binned, Victim, Top, Own}

-- whether extents of a kind are of a class
abbrev pub is_of_class : Class → Kind → Bool
is_of_class Block Used = true
is_of_class Block Free = false
is_of_class Block Dv = false
is_of_class Block End = false
is_of_class Block Record = false
is_of_class Block Foot = false
is_of_class Binned Used = false
is_of_class Binned Free = true
is_of_class Binned Dv = false
is_of_class Binned End = false
is_of_class Binned Record = false
is_of_class Binned Foot = false
is_of_class Victim Used = false
is_of_class Victim Free = false
is_of_class Victim Dv = true
is_of_class Victim End = false
is_of_class Victim Record = false
is_of_class Victim Foot = false
is_of_class Top Used = false
is_of_class Top Free = false
is_of_class Top Dv = false
is_of_class Top End = true
is_of_class Top Record = false
is_of_class Top Foot = false
is_of_class Own Used = false
is_of_class Own Free = false
is_of_class Own Dv = false
is_of_class Own End = false
is_of_class Own Record = true
is_of_class Own Foot = true

-- its colour, as the class of a rectangle
abbrev pub class_name : Class → List ℕ
class_name Block = codes "u"
class_name Binned = codes "f"
class_name Victim = codes "v"
class_name Top = codes "t"
class_name Own = codes "o"

-- its place in the legend
abbrev pub class_place : Class → ℕ
class_place Block = 0
class_place Binned = 1
class_place Victim = 2
class_place Top = 3
class_place Own = 4

-- what it is called in the legend
abbrev pub class_words : Class → List ℕ
class_words Block = codes "blocks"
class_words Binned = codes "free chunks in bins"
class_words Victim = codes "victim: cut first"
class_words Top = codes "top: the end of the heap"
class_words Own = codes "records and foot"

-- how many extents are of a class
abbrev pub number_in : Class → List Extent → ℕ
number_in class extents = count_by (λ extent. is_of_class class extent.kind) extents

-- and how many bytes they have
abbrev pub bytes_in : Class → List Extent → ℕ
bytes_in class extents = sum_by (λ extent. if is_of_class class extent.kind then extent.size else 0) extents

-- the bytes of all extents
abbrev pub all_bytes : List Extent → ℕ
all_bytes extents = sum_by (λ extent. extent.size) extents

-- what an extent is called in the map
abbrev pub kind_words : Kind → List ℕ
kind_words Used = codes "block"
kind_words Free = codes "free"
kind_words Dv = codes "victim"
kind_words End = codes "top"
kind_words Record = codes "record"
kind_words Foot = codes "foot"

-- the class of the letters on an extent
abbrev pub letters : Kind → List ℕ
letters Used = codes "m in"
letters Free = codes "m on"
letters Dv = codes "m in"
letters End = codes "m faint"
letters Record = codes "m in"
letters Foot = codes "m in"
