-- The cells of a row: it has 512, each 2 pixels wide, and neighbours that look the same are one rectangle.
use Rattle.std.specs.Prelude.{ℕ, zero, suc, ◌+◌, ◌-◌, ◌*◌, ◌/◌, min, max, Bool, ◌&&◌, nat_eq, nat_lt, nat_le, List, [], ◌++◌, codes, if◌then◌else◌}
use Rattle.std.specs.List.{sum_by}
use Rattle.heap_map.specs.declared.classes.Class.{Class}
use Rattle.heap_map.specs.declared.classes.Class.TheVariants.{Block, Binned, Victim, Top, Own}
use Rattle.heap_map.specs.declared.pieces.Piece.{Piece}
use Rattle.heap_map.specs.declared.cells.Cell.{Cell}
use Rattle.heap_map.specs.Classes.{is_of_class, class_name, class_place}
use Rattle.heap_map.specs.Shapes.{rect}

-- the bytes from one address to another that a line has of a class
abbrev pub held_in : Class → ℕ → ℕ → List Piece → ℕ
held_in class low high line = sum_by (λ piece. if is_of_class class piece.of.kind then min piece.end high - max piece.start low else 0) line

-- the pixels of some bytes of a cell, rounded up; a cell has 18
abbrev pub pixels : ℕ → ℕ → ℕ
pixels bytes cell = min 18 ((18 * bytes + (cell - 1)) / cell)

-- the class that has most of these bytes; of equals the first
abbrev pub most_of : ℕ → ℕ → ℕ → ℕ → Class
most_of binned victim top own =
    if nat_le victim binned && (nat_le top binned && nat_le own binned) then Binned
    else if nat_le top victim && nat_le own victim then Victim
    else if nat_le own top then Top else Own

-- A cell from an address on: from the ground up as many pixels as its blocks have bytes, and above them those of all other extents, in
-- the colour of the class that has most of these.
unfoldable pub drawn_cell : ℕ → ℕ → List Piece → Cell
drawn_cell cell low line =
    let high = low + cell in
    let block = held_in Block low high line in
    let binned = held_in Binned low high line in
    let victim = held_in Victim low high line in
    let top = held_in Top low high line in
    let own = held_in Own low high line in
    record { used = pixels block cell; held = pixels (block + (binned + (victim + (top + own)))) cell; rest = most_of binned victim top own }

-- whether two cells look the same
abbrev pub look_same : Cell → Cell → Bool
look_same one other = nat_eq one.used other.used && (nat_eq one.held other.held && nat_eq (class_place one.rest) (class_place other.rest))

-- the cells from one to another, which look the same, in a row at a height
unfoldable pub run_text : ℕ → ℕ → ℕ → Cell → List ℕ
run_text y start end cell =
    (if nat_eq cell.used 0 then [] else rect (codes "u") (144 + 2 * start) (y + 18 - cell.used) (2 * (end - start)) cell.used)
    ++ (if nat_lt cell.used cell.held then rect (class_name cell.rest) (144 + 2 * start) (y + 18 - cell.held) (2 * (end - start)) (cell.held - cell.used) else [])

-- the cells of a row
unfoldable pub row_cells : ℕ
row_cells = 512

-- The cells that are left, where those from `start` to `next` look the same.
abbrev pub runs_from : ℕ → ℕ → ℕ → List Piece → ℕ → ℕ → Cell → ℕ → List ℕ
runs_from cell base y line start next same zero = run_text y start next same
runs_from cell base y line start next same (suc left) =
    if look_same same (drawn_cell cell (base + cell * next) line) then runs_from cell base y line start (next + 1) same left
    else run_text y start next same ++ runs_from cell base y line next (next + 1) (drawn_cell cell (base + cell * next) line) left

-- the cells of a row that begins at an address
unfoldable pub row_cells_text : ℕ → ℕ → ℕ → List Piece → List ℕ
row_cells_text cell base y line = runs_from cell base y line 0 1 (drawn_cell cell base line) (row_cells - 1)
