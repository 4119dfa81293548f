-- The uses of frames, by one line more before the others.
use Rattle.std.proofs.Common.{◌≡◌, ◌<◌, ◌≤◌, ◌⊎◌, inl, inr, ℕ, zero, suc, ◌+◌, ◌-◌, Bool, true, false, nat_lt, List, [], ◌∷◌, ◌++◌, length, get_or, take, drop, replicate, refl, sym, ◌∙◌, ap, arith, add-one, length-append, length-drop}
use Rattle.std.specs.Prelude.{min, if◌then◌else◌}
use borrow.Rule.Slice.PartMut.{post_of, put_mid}
use Rattle.std.proofs.lemmas.Bool.Decides.{nat_tests}
use Rattle.std.proofs.lemmas.List.{drop_all, ext_get_or, get_or_at, get_or-take, get_or-drop, get_or_append_left, get_or-append_right, get_or-replicate, length-take-le, length-replicate, replicate-append-replicate}
use Rattle.heap_tables.specs.declared.lines.Line.{Line}
use Rattle.heap_tables.specs.declared.uses.Use.{Use}
use Rattle.heap_tables.specs.declared.uses.Use.TheVariants.{Free}
use Rattle.heap_tables.specs.Rows.{frames_of}
use Rattle.heap_tables.specs.Uses.{has_frame, use_in, use_of, uses_of}
use Rattle.heap_tables.proofs.Drawn.{uses_number}

-- in the place of a frame stands what it is used for
uses_at : (lines : List Line) (frames frame : ℕ) → frame < frames → get_or (uses_of lines frames) frame Free ≡ use_of frame lines
uses_at lines zero frame within = absurd (omega (arith, within))
uses_at lines (suc frames) frame within = go (nat_lt frame frames) refl (λ before. uses_at lines frames frame before)
  where
    go : (b : Bool) → nat_lt frame frames ≡ b → (frame < frames → get_or (uses_of lines frames) frame Free ≡ use_of frame
        lines) → get_or (uses_of lines (suc frames)) frame Free ≡ use_of frame lines
    go true before earlier =
        let less : frame < frames = grind (arith, nat_tests, before) in
        let long = uses_number lines frames in
        get_or_append_left (uses_of lines frames) (use_of frames lines ∷ []) Free frame (omega (arith, long, less)) ∙ earlier less
    go false after earlier =
        let same : frames ≡ frame = grind (arith, nat_tests, within, after) in
        get_or_at (uses_of lines frames) (use_of frames lines) [] Free frame (uses_number lines frames ∙ same) ∙ ap (λ (n : ℕ). use_of n lines) same

below_it : (line : Line) (frame : ℕ) → frame < line.frame → has_frame frame line ≡ false
below_it line frame below = grind (arith, nat_tests, below)

in_it : (line : Line) (frame : ℕ) → line.frame ≤ frame → frame < line.frame + frames_of line → has_frame frame line ≡ true
in_it line frame from to = grind (arith, nat_tests, from, to)

after_it : (line : Line) (frame : ℕ) → line.frame + frames_of line ≤ frame → has_frame frame line ≡ false
after_it line frame past = grind (arith, nat_tests, past)

-- a list of which `n` elements from `a` on were replaced
module _ (xs ys : List Use) (a n : ℕ) (fits : a + n ≤ length xs) (many : length ys ≡ n) where
  put_length : length (put_mid a n xs ys) ≡ length xs
  put_length =
      let front = length-take-le a xs (omega (arith, fits)) in
      let both = length-append (take a xs) (ys ++ post_of a n xs) in
      let back = length-append ys (post_of a n xs) in
      let rest = length-drop n (drop a xs) in
      let from = length-drop a xs in
      omega (arith, fits, many, front, both, back, rest, from)

  put_inside : (i : ℕ) → a ≤ i → i < a + n → get_or (put_mid a n xs ys) i Free ≡ get_or ys (i - a) Free
  put_inside i low high =
      get_or-append_right (take a xs) (ys ++ post_of a n xs) a i Free (length-take-le a xs (omega (arith, fits))) low
      ∙ get_or_append_left ys (post_of a n xs) Free (i - a) (omega (arith, low, high, many))

  put_outside : (i : ℕ) → (i < a) ⊎ (a + n ≤ i) → get_or (put_mid a n xs ys) i Free ≡ get_or xs i Free
  put_outside i (inl low) =
      let front = length-take-le a xs (omega (arith, fits)) in
      get_or_append_left (take a xs) (ys ++ post_of a n xs) Free i (omega (arith, front, low)) ∙ get_or-take a xs i Free low
  put_outside i (inr high) =
      get_or-append_right (take a xs) (ys ++ post_of a n xs) a i Free (length-take-le a xs (omega (arith, fits))) (omega (arith, high))
      ∙ (get_or-append_right ys (post_of a n xs) n (i - a) Free many (omega (arith, high))
      ∙ (get_or-drop n (drop a xs) (i - a - n) Free ∙ (get_or-drop a xs (n + (i - a - n)) Free ∙ ap (λ (k : ℕ). get_or xs k Free) (omega (arith, high)))))

-- the frames of a line that exist, in a list of uses by the lines after it
pub painted : (line : Line) (lines : List Line) (frames first n : ℕ) (old part : List Use) → length old ≡ frames → old ≡ uses_of lines frames →
    first ≡ min line.frame frames → first + n ≡ min (line.frame + frames_of line) frames → part ≡ replicate n (use_in line) →
    put_mid first n old part ≡ uses_of (line ∷ lines) frames
painted line lines frames first n old part long is low high filled =
    ext_get_or Free (put_mid first n old part) (uses_of (line ∷ lines) frames) same_length
    (λ i within. go i (nat_lt i first) refl (nat_lt i (first + n)) refl
    (let whole = put_length old part first n fits many in omega (arith, whole, long, within)))
  where
    fits : first + n ≤ length old
    fits = omega (arith, long, high)

    many : length part ≡ n
    many = ap length filled ∙ length-replicate n (use_in line)

    same_length : length (put_mid first n old part) ≡ length (uses_of (line ∷ lines) frames)
    same_length = put_length old part first n fits many ∙ (long ∙ sym (uses_number (line ∷ lines) frames))

    before : (i : ℕ) → i < frames → get_or old i Free ≡ use_of i lines
    before i within = ap (λ (us : List Use). get_or us i Free) is ∙ uses_at lines frames i within

    go : (i : ℕ) (b : Bool) → nat_lt i first ≡ b → (c : Bool) → nat_lt i (first + n) ≡ c → i < frames →
        get_or (put_mid first n old part) i Free ≡ get_or (uses_of (line ∷ lines) frames) i Free
    go i true below c end within =
        let less : i < first = grind (arith, nat_tests, below) in
        put_outside old part first n fits many i (inl less)
        ∙ (before i within
        ∙ (sym (ap (λ (b : Bool). if b then use_in line else use_of i lines) (below_it line i (omega (arith, less, low))))
        ∙ sym (uses_at (line ∷ lines) frames i within)))
    go i false begun true end within =
        let from : first ≤ i = grind (arith, nat_tests, begun) in
        let to : i < first + n = grind (arith, nat_tests, end) in
        put_inside old part first n fits many i from to
        ∙ (ap (λ (us : List Use). get_or us (i - first) Free) filled
        ∙ (get_or-replicate n (i - first) (use_in line) Free (omega (arith, from, to))
        ∙ (sym (ap (λ (b : Bool). if b then use_in line else use_of i lines) (in_it line i (omega (arith, from, low, within)) (omega (arith, to, high))))
        ∙ sym (uses_at (line ∷ lines) frames i within))))
    go i false begun false end within =
        let past : first + n ≤ i = grind (arith, nat_tests, end) in
        put_outside old part first n fits many i (inr past)
        ∙ (before i within
        ∙ (sym (ap (λ (b : Bool). if b then use_in line else use_of i lines) (after_it line i (omega (arith, past, high, within))))
        ∙ sym (uses_at (line ∷ lines) frames i within)))

-- by no line each frame is free
pub uses_none : (frames : ℕ) → uses_of [] frames ≡ replicate frames Free
uses_none zero = refl
uses_none (suc frames) =
    ap (λ (us : List Use). us ++ Free ∷ []) (uses_none frames)
    ∙ (replicate-append-replicate frames 1 Free ∙ ap (λ (n : ℕ). replicate n Free) (add-one frames))

pub none_left : (lines : List Line) (place frames : ℕ) → length lines ≤ place → uses_of (drop place lines) frames ≡ replicate frames Free
none_left lines place frames all = ap (λ (ls : List Line). uses_of ls frames) (drop_all place lines all) ∙ uses_none frames
