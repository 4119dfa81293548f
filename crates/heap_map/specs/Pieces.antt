-- The lines of a map. A row has `row` bytes of addresses, and begins at a multiple of them.
use Rattle.std.specs.Prelude.{ℕ, zero, suc, ◌+◌, ◌-◌, ◌*◌, ◌/◌, ◌%◌, ◌^◌, ◌≡◌, ◌<◌, min, max, Bool, ◌&&◌, nat_eq, nat_lt, nat_le, List, [], ◌∷◌, ◌++◌, length, if◌then◌else◌}
use Rattle.std.specs.List.{flat_map, sum_by, AllByRecursion}
use Rattle.dlmalloc_chunks.specs.declared.extent.Extent.{Extent}
use Rattle.heap_map.specs.declared.pieces.Piece.{Piece}

-- the part of an extent from one address to another, where there is one
abbrev pub span : Extent → ℕ → ℕ → List Piece
span extent start end = if nat_lt start end then record { start = start; end = end; of = extent } ∷ [] else []

-- the first address from there on at which a row begins
abbrev pub row_from : ℕ → ℕ → ℕ
row_from row address = address + (row - 1) - (address + (row - 1)) % row

-- An extent, cut where rows that lie wholly in it begin and end: what it has of the row in which it begins, the whole rows, and what
-- it has of the row in which it ends.
abbrev pub cut_at_rows : ℕ → Extent → List Piece
cut_at_rows row extent =
    let end = extent.at + extent.size in
    let head = min (row_from row extent.at) end in
    let body = max (end - end % row) head in
    span extent extent.at head ++ (span extent head body ++ span extent body end)

-- all extents, cut
abbrev pub pieces_of : ℕ → List Extent → List Piece
pieces_of row extents = flat_map (cut_at_rows row) extents

-- the address at which a line begins
abbrev pub line_start : List Piece → ℕ
line_start [] = 0
line_start (piece ∷ pieces) = piece.start

-- The lines that follow when one has begun: a piece that begins in the same row is of it, and each other begins the next one.
abbrev pub row_lines_from : ℕ → List Piece → List Piece → List (List Piece)
row_lines_from row line [] = line ∷ []
row_lines_from row line (piece ∷ pieces) =
    if nat_eq (line_start line / row) (piece.start / row) then row_lines_from row (line ++ piece ∷ []) pieces
    else line ∷ row_lines_from row (piece ∷ []) pieces

-- the lines of all pieces
abbrev pub piece_lines : ℕ → List Piece → List (List Piece)
piece_lines row [] = []
piece_lines row (piece ∷ pieces) = row_lines_from row (piece ∷ []) pieces

-- the lines of a map whose rows have `row` bytes
abbrev pub map_lines : ℕ → List Extent → List (List Piece)
map_lines row extents = piece_lines row (pieces_of row extents)

-- the least row
abbrev pub least_row : ℕ
least_row = 512

-- the bytes from which on a row grows no more
abbrev pub most_row : ℕ
most_row = 2 ^ 52

-- the lines that a map may have, while its rows can grow
abbrev pub most_lines : ℕ
most_lines = 20

-- A row of some bytes, doubled while it takes too many lines, but at most this many times.
abbrev pub row_grown : ℕ → ℕ → List Extent → ℕ
row_grown zero row extents = row
row_grown (suc times) row extents =
    if nat_lt row most_row && nat_lt most_lines (length (map_lines row extents)) then row_grown times (2 * row) extents else row

-- The bytes of a row: the least power of two from 512 on with which there are at most 20 lines; none passes 2 ^ 52.
unfoldable pub row_bytes : List Extent → ℕ
row_bytes extents = row_grown 50 least_row extents

-- Each byte of each extent is in one line: the lines, joined, are the pieces of the extents in order, and the pieces of an extent have
-- its bytes together. No line is empty.
pub record AreLines (row : ℕ) (extents : List Extent) : Type 0 where
  pub each_once : flat_map (λ line. line) (map_lines row extents) ≡ pieces_of row extents
  pub bytes : sum_by (λ piece. piece.end - piece.start) (pieces_of row extents) ≡ sum_by (λ extent. extent.size) extents
  pub some : AllByRecursion (λ line. 0 < length line) (map_lines row extents)

-- the lines of a map have all bytes of all extents, each in one piece, for all heaps
abbrev pub LinesAreTheHeap : Type 0
LinesAreTheHeap = (row : ℕ) (extents : List Extent) → 0 < row → AreLines row extents
