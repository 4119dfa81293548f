-- Lines, one behind the other.
use Rattle.std.proofs.Common.{◌≡◌, ◌≤◌, ◌<◌, ℕ, zero, suc, ◌+◌, ◌-◌, ◌*◌, ◌/◌, ◌%◌, ◌^◌, ◌&&◌, Bool, true, false, List, [], ◌∷◌, ◌++◌, length, get_or, take, drop, nat_eq, nat_lt, min, max, refl, sym, ◌∙◌, ap, add-one, arith, length-drop, drop-cons, append_assoc}
use Rattle.std.specs.Prelude.{if◌then◌else◌}
use Rattle.std.specs.List.{flat_map, sum_by, AllByRecursion}
use Rattle.std.proofs.lemmas.Bool.Decides.{nat_tests}
use Rattle.std.proofs.lemmas.Nat.{mod_below}
use Rattle.std.proofs.lemmas.List.Sums.{sum_by-cons, sum_by-append}
use Rattle.std.proofs.lemmas.List.{take_more, take_all, drop_all, get_or-drop, append-nil}
use Rattle.dlmalloc_chunks.specs.declared.extent.Extent.{Extent}
use Rattle.dlmalloc_chunks.specs.declared.extent.Kind.TheVariants.{Used}
use Rattle.heap_map.specs.declared.pieces.Piece.{Piece}
use Rattle.heap_map.specs.Pieces.{span, row_from, cut_at_rows, pieces_of, map_lines, row_grown, row_bytes, line_start, row_lines_from, piece_lines, LinesAreTheHeap}

-- what is taken for a piece where there is none
abbrev pub none : Piece
none = record { start = 0; end = 0; of = record { at = 0; size = 0; kind = Used } }

rest_at : (pieces : List Piece) (i : ℕ) → i < length pieces → drop i pieces ≡ get_or pieces i none ∷ drop (i + 1) pieces
rest_at pieces i within = drop-cons pieces i none within ∙ ap (λ (n : ℕ). get_or pieces i none ∷ drop n pieces) (sym (add-one i))

one_from : (pieces : List Piece) (i : ℕ) → i < length pieces → take (i + 1 - i) (drop i pieces) ≡ get_or pieces i none ∷ []
one_from pieces i within =
    let one : i + 1 - i ≡ 1 = omega arith in
    ap (λ (n : ℕ). take n (drop i pieces)) one ∙ ap (λ (ps : List Piece). take 1 ps) (rest_at pieces i within)

more_from : (pieces : List Piece) (from i : ℕ) → from < i → i < length pieces →
    take (i + 1 - from) (drop from pieces) ≡ take (i - from) (drop from pieces) ++ get_or pieces i none ∷ []
more_from pieces from i some within =
    let long : i - from < length (drop from pieces) = omega (arith, length-drop from pieces, some, within) in
    let size : i + 1 - from ≡ (i - from) + 1 = omega (arith, some) in
    let place : from + (i - from) ≡ i = omega (arith, some) in
    ap (λ (n : ℕ). take n (drop from pieces)) size
    ∙ take_more (drop from pieces) (i - from) none long
    ∙ ap (λ (p : Piece). take (i - from) (drop from pieces) ++ p ∷ []) (get_or-drop from pieces (i - from) none ∙ ap (λ (n : ℕ). get_or pieces n none) place)

-- how the lines go on at a piece behind one that has begun
pub lines_step : (row : ℕ) (pieces : List Piece) (from i : ℕ) → from < i → i < length pieces →
    row_lines_from row (take (i - from) (drop from pieces)) (drop i pieces) ≡ (if nat_eq
    (line_start (take (i - from) (drop from pieces)) / row) ((get_or pieces i
    (record { start = 0; end = 0; of = record { at = 0; size = 0; kind = Used } })).start / row)
    then row_lines_from row (take (i + 1 - from) (drop from pieces)) (drop (i + 1) pieces)
    else take (i - from) (drop from pieces) ∷ row_lines_from row (take (i + 1 - i) (drop i pieces)) (drop (i + 1) pieces))
lines_step row pieces from i some within =
    let p = get_or pieces i none in
    let ps = drop (i + 1) pieces in
    let line = take (i - from) (drop from pieces) in
    let on = λ (one more : List Piece). (if nat_eq (line_start line / row) (p.start / row) then row_lines_from row more ps
    else line ∷ row_lines_from row one ps) in
    ap (row_lines_from row line) (rest_at pieces i within)
    ∙ ap (λ (one : List Piece). on one (line ++ p ∷ [])) (sym (one_from pieces i within))
    ∙ ap (λ (more : List Piece). on (take (i + 1 - i) (drop i pieces)) more) (sym (more_from pieces from i some within))

-- nothing is behind the last line
pub lines_last : (row : ℕ) (pieces : List Piece) (from i : ℕ) → length pieces ≤ i →
    row_lines_from row (take (i - from) (drop from pieces)) (drop i pieces) ≡ take (length pieces - from)
    (drop from pieces) ∷ []
lines_last row pieces from i all =
    let long = length-drop from pieces in
    ap (row_lines_from row (take (i - from) (drop from pieces))) (drop_all i pieces all)
    ∙ ap (λ (line : List Piece). line ∷ []) (take_all (i - from) (drop from pieces) (omega (arith, long, all))
    ∙ sym (take_all (length pieces - from) (drop from pieces) (omega (arith, long))))

-- and the first begins with the first piece
pub lines_first : (row : ℕ) (pieces : List Piece) → 0 < length pieces → row_lines_from row (take 1 pieces) (drop 1 pieces) ≡ piece_lines row pieces
lines_first row [] some = absurd (omega (arith, some))
lines_first row (p ∷ ps) some = refl

joined_from : (row : ℕ) (line ps : List Piece) → flat_map (λ one. one) (row_lines_from row line ps) ≡ line ++ ps
joined_from row line [] = refl
joined_from row line (p ∷ ps) = go (nat_eq (line_start line / row) (p.start / row)) (joined_from row (line ++ p ∷ []) ps) (joined_from row (p ∷ []) ps)
  where
    go : (b : Bool) → flat_map (λ one. one) (row_lines_from row (line ++ p ∷ []) ps) ≡ (line ++ p ∷ []) ++ ps →
        flat_map (λ one. one) (row_lines_from row (p ∷ []) ps) ≡ p ∷ ps →
        flat_map (λ one. one) (if b then row_lines_from row (line ++ p ∷ []) ps else line ∷ row_lines_from row (p ∷ []) ps) ≡ line ++ p ∷ ps
    go true same other = same ∙ append_assoc line (p ∷ []) ps
    go false same other = ap (λ (rest : List Piece). line ++ rest) other

pub joined : (row : ℕ) (ps : List Piece) → flat_map (λ one. one) (piece_lines row ps) ≡ ps
joined row [] = refl
joined row (p ∷ ps) = joined_from row (p ∷ []) ps

some_from : (row : ℕ) (p : Piece) (more ps : List Piece) → AllByRecursion (λ one. 0 < length one) (row_lines_from row (p ∷ more) ps)
some_from row p more [] = (omega arith, tt)
some_from row p more (x ∷ ps) = go (nat_eq (p.start / row) (x.start / row)) (some_from row p (more ++ x ∷ []) ps) (some_from row x [] ps)
  where
    go : (b : Bool) → AllByRecursion (λ one. 0 < length one) (row_lines_from row (p ∷ (more ++ x ∷ [])) ps) →
        AllByRecursion (λ one. 0 < length one) (row_lines_from row (x ∷ []) ps) →
        AllByRecursion (λ one. 0 < length one) (if b then row_lines_from row (p ∷ (more ++ x ∷ [])) ps else (p ∷ more) ∷ row_lines_from row (x ∷ []) ps)
    go true same other = same
    go false same other = (omega arith, other)

pub some : (row : ℕ) (ps : List Piece) → AllByRecursion (λ one. 0 < length one) (piece_lines row ps)
some row [] = tt
some row (p ∷ ps) = some_from row p [] ps

-- a row is doubled, or is the last
pub grown_step : (times row : ℕ) (extents : List Extent) → times < 50 →
    row_grown (50 - times) row extents ≡ (if nat_lt row (2 ^ 52) && nat_lt 20 (length (map_lines row extents))
    then row_grown (50 - (times + 1)) (row * 2) extents else row)
grown_step times row extents few =
    let left : 50 - times ≡ suc (50 - (times + 1)) = omega (arith, few) in
    ap (λ (n : ℕ). row_grown n row extents) left
    ∙ ap (λ (n : ℕ). if nat_lt row (2 ^ 52) && nat_lt 20 (length (map_lines row extents)) then row_grown (50 - (times + 1)) n extents else row) (omega arith)

pub grown_last : (times row : ℕ) (extents : List Extent) → 50 ≤ times → row_grown (50 - times) row extents ≡ row
grown_last times row extents all =
    let left : 50 - times ≡ zero = omega (arith, all) in
    ap (λ (n : ℕ). row_grown n row extents) left

pub grown_begin : (times row : ℕ) (extents : List Extent) → times ≡ 0 → row ≡ 512 → row_grown (50 - times) row extents ≡ row_bytes extents
unfolding row_bytes
grown_begin times row extents first least = ap (λ (n : ℕ). row_grown (50 - n) row extents) first ∙ ap (λ (n : ℕ). row_grown 50 n extents) least

-- the bytes of the parts of an extent are its own
abbrev piece_size : Piece → ℕ
piece_size piece = piece.end - piece.start

span_size : (e : Extent) (a b : ℕ) → sum_by piece_size (span e a b) ≡ b - a
span_size e a b = go (nat_lt a b) refl
  where
    go : (t : Bool) → nat_lt a b ≡ t → sum_by piece_size (if t then record { start = a; end = b; of = e } ∷ [] else []) ≡ b - a
    go true less = omega arith
    go false most = let none : b - a ≡ 0 = grind (arith, nat_tests, most) in sym none

row_from_least : (row a : ℕ) → 0 < row → a ≤ row_from row a
row_from_least row a some = let rest = mod_below (a + (row - 1)) row some in omega (arith, rest, some)

cut_size : (row : ℕ) (e : Extent) → 0 < row → sum_by piece_size (cut_at_rows row e) ≡ e.size
cut_size row e some =
    let end = e.at + e.size in
    let head = min (row_from row e.at) end in
    let body = max (end - end % row) head in
    let low = row_from_least row e.at some in
    let one = span_size e e.at head in
    let two = span_size e head body in
    let three = span_size e body end in
    sum_by-append piece_size (span e e.at head) (span e head body ++ span e body end)
    ∙ ap (λ (n : ℕ). sum_by piece_size (span e e.at head) + n) (sum_by-append piece_size (span e head body) (span e body end))
    ∙ omega (arith, one, two, three, low)

all_sizes : (row : ℕ) (es : List Extent) → 0 < row → sum_by piece_size (flat_map (cut_at_rows row) es) ≡ sum_by
    (λ e. e.size) es
all_sizes row [] some = refl
all_sizes row (e ∷ es) some =
    sum_by-append piece_size (cut_at_rows row e) (flat_map (cut_at_rows row) es)
    ∙ ap (λ (n : ℕ). n + sum_by piece_size (flat_map (cut_at_rows row) es)) (cut_size row e some)
    ∙ ap (λ (n : ℕ). e.size + n) (all_sizes row es some)
    ∙ sym (sum_by-cons (λ (e : Extent). e.size) e es)

pub lines_are : LinesAreTheHeap
lines_are row es positive = record { each_once = joined row (pieces_of row es); bytes = all_sizes row es positive; some = some row (pieces_of row es) }
