-- What a `Bitmap` holds.
use Rattle.std.specs.Prelude.{Bool, List}
use Rattle.number_set.specs.Bitmap.{flags_of, summary_of}
use Rattle.number_set.specs.declared.bitmap.Bitmap.{Bitmap}

-- the flag of each number below its bound
abbrev pub flags : Bitmap → List Bool
flags bitmap = flags_of bitmap.words.items bitmap.bound

-- for each word, whether one of its flags is set
abbrev pub summary : Bitmap → List Bool
summary bitmap = summary_of bitmap.words.items
