-- What a cell says of its bytes.
use Rattle.std.specs.Prelude.{◌≡◌, ◌≢◌, ◌<◌, ℕ, ◌+◌, List}
use Rattle.heap_map.specs.declared.classes.Class.{Class}
use Rattle.heap_map.specs.declared.classes.Class.TheVariants.{Block, Binned, Victim, Top, Own}
use Rattle.heap_map.specs.declared.pieces.Piece.{Piece}
use Rattle.heap_map.specs.declared.cells.Cell.{Cell}
use Rattle.heap_map.specs.Classes.{class_place}
use Rattle.heap_map.specs.Cells.{held_in, drawn_cell}

-- the bytes of a cell are all of one class
pub record IsOfOne (class : Class) (cell low : ℕ) (line : List Piece) : Type 0 where
  pub all : held_in class low (low + cell) line ≡ cell
  pub none : (other : Class) → class_place other ≢ class_place class → held_in other low (low + cell) line ≡ 0

-- a cell has the colour of one class alone, from the ground to the top
abbrev pub HasOneColour : Class → Cell → Type 0
HasOneColour Block cell = (cell.used ≡ 18) × (cell.held ≡ 18)
HasOneColour Binned cell = (cell.used ≡ 0) × (cell.held ≡ 18) × (cell.rest ≡ Binned)
HasOneColour Victim cell = (cell.used ≡ 0) × (cell.held ≡ 18) × (cell.rest ≡ Victim)
HasOneColour Top cell = (cell.used ≡ 0) × (cell.held ≡ 18) × (cell.rest ≡ Top)
HasOneColour Own cell = (cell.used ≡ 0) × (cell.held ≡ 18) × (cell.rest ≡ Own)

-- a cell whose bytes are all of one class has its colour alone
abbrev pub CellsAreTheirBytes : Type 0
CellsAreTheirBytes = (class : Class) (cell low : ℕ) (line : List Piece) → 0 < cell → IsOfOne class cell low line → HasOneColour class (drawn_cell cell low line)
