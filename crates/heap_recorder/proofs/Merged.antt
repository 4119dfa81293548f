-- The regions that the heap had, and those that a call lists: each that it had goes on or ends, and of earlier calls it shows
-- what it showed.
use Rattle.std.proofs.Common.{◌≡◌, ◌<◌, ℕ, ◌+◌, Bool, true, false, ◌&&◌, nat_eq, nat_le, nat_lt, List, [], ◌∷◌, refl, sym, ◌∙◌, ap, subst, arith}
use Rattle.std.specs.Prelude.{if◌then◌else◌, ⊤}
use Rattle.std.proofs.lemmas.Bool.Decides.{nat_tests}
use Rattle.heap_history.specs.declared.history.Held.{Held}
use Rattle.machine_model.specs.declared.region.Region.{Region}
use Rattle.heap_recorder.specs.Regions.{has_same_pages, new_held, ended, held_from, regions_from, going, now_after, stays_on, gone_after}
use Rattle.heap_recorder.specs.Shown.{count_shown, is_heap_part, shows_part}
use Rattle.heap_recorder.proofs.Tracked.{bit, left_false}
use Rattle.heap_recorder.proofs.Later.{less_true, less_false, least_false}

-- whether a region that goes on shows after a call
abbrev pub shows_now : ℕ → ℕ → ℕ → Held → Bool
shows_now call start pages held = nat_le held.born call && is_heap_part start pages held

-- the first of these begins after an address
abbrev pub IsAfter : ℕ → List Region → Type 0
IsAfter start [] = ⊤
IsAfter start (region ∷ list) = start < region.start

-- each begins after the one before it
abbrev pub AreRising : List Region → Type 0
AreRising [] = ⊤
AreRising (region ∷ list) = IsAfter region.start list × AreRising list

abbrev pub IsHeldAfter : ℕ → List Held → Type 0
IsHeldAfter start [] = ⊤
IsHeldAfter start (held ∷ now) = start < held.start

abbrev pub AreHeldRising : List Held → Type 0
AreHeldRising [] = ⊤
AreHeldRising (held ∷ now) = IsHeldAfter held.start now × AreHeldRising now

-- ---- the merge, step by step

now_later : (n : ℕ) (h : Held) (now : List Held) (r : Region) (list : List Region) → nat_lt h.start r.start ≡ true →
    now_after n (h ∷ now) (r ∷ list) ≡ now_after n now (r ∷ list)
now_later n h now r list is =
    let from : held_from r.start (h ∷ now) ≡ held_from r.start now = ap (λ (b : Bool). if b then held_from r.start now else h ∷ now) is in
    ap (λ (hs : List Held). going n r hs ∷ now_after n hs list) from

now_here : (n : ℕ) (h : Held) (now : List Held) (r : Region) (list : List Region) → nat_lt h.start r.start ≡ false →
    now_after n (h ∷ now) (r ∷ list) ≡ going n r (h ∷ now) ∷ now_after n (h ∷ now) list
now_here n h now r list is =
    let from : held_from r.start (h ∷ now) ≡ h ∷ now = ap (λ (b : Bool). if b then held_from r.start now else h ∷ now) is in
    ap (λ (hs : List Held). going n r hs ∷ now_after n hs list) from

gone_here : (n : ℕ) (h : Held) (now : List Held) (r : Region) (list : List Region) → nat_lt r.start h.start ≡ false →
    gone_after n (h ∷ now) (r ∷ list) ≡ (if has_same_pages h r then gone_after n now (r ∷ list) else ended n h ∷ gone_after n now (r ∷ list))
gone_here n h now r list is =
    let from : regions_from h.start (r ∷ list) ≡ r ∷ list = ap (λ (b : Bool). if b then regions_from h.start list else r ∷ list) is in
    ap (λ (rs : List Region). if stays_on h rs then gone_after n now rs else ended n h ∷ gone_after n now rs) from

gone_later : (n : ℕ) (h : Held) (now : List Held) (r : Region) (list : List Region) → nat_lt r.start h.start ≡ true →
    gone_after n (h ∷ now) (r ∷ list) ≡ gone_after n (h ∷ now) list
gone_later n h now r list is =
    let from : regions_from h.start (r ∷ list) ≡ regions_from h.start list = ap (λ (b : Bool). if b then regions_from h.start list else r ∷ list) is in
    ap (λ (rs : List Region). if stays_on h rs then gone_after n now rs else ended n h ∷ gone_after n now rs) from

now_past : (n : ℕ) (h : Held) (now : List Held) (list : List Region) → IsAfter h.start list → now_after n (h ∷ now) list ≡ now_after n now list
now_past n h now [] less = refl
now_past n h now (r ∷ list) less = now_later n h now r list (less_true h.start r.start less)

gone_past : (n : ℕ) (now : List Held) (r : Region) (list : List Region) → IsHeldAfter r.start now → gone_after n now (r ∷ list) ≡ gone_after n now list
gone_past n [] r list less = refl
gone_past n (h ∷ now) r list less = gone_later n h now r list (less_true r.start h.start less)

-- ---- what shows

no_sameness : (h : Held) (r : Region) → nat_eq h.start r.start ≡ false → has_same_pages h r ≡ false
no_sameness h r is = left_false (nat_eq h.start r.start) (nat_eq h.pages r.pages) is

not_new : (n k start pages : ℕ) (r : Region) → k < n → shows_now k start pages (new_held n r) ≡ false
not_new n k start pages r less = left_false (nat_le n k) (is_heap_part start pages (new_held n r)) (least_false n k less)

still : (n k start pages : ℕ) (h : Held) → k < n → shows_part k start pages (ended n h) ≡ shows_now k start pages h
still n k start pages h less = (λ i. nat_le h.born k && (less_true k n less i && is_heap_part start pages h))

-- of a region that begins, nothing shows of earlier calls
new_shows : (n k start pages : ℕ) (h : Held) (now : List Held) (r : Region) → k < n → has_same_pages h r ≡ false →
    bit (shows_now k start pages (going n r (h ∷ now))) ≡ 0
new_shows n k start pages h now r less is =
    ap (λ (b : Bool). bit (shows_now k start pages (if b then h else new_held n r))) is
    ∙ ap bit (not_new n k start pages r less)

same_shows : (n k start pages : ℕ) (h : Held) (now : List Held) (r : Region) → has_same_pages h r ≡ true →
    bit (shows_now k start pages (going n r (h ∷ now))) ≡ bit (shows_now k start pages h)
same_shows n k start pages h now r is = ap (λ (b : Bool). bit (shows_now k start pages (if b then h else new_held n r))) is

all_new : (n k start pages : ℕ) (list : List Region) → k < n → count_shown (shows_now k start pages)
    (now_after n [] list) ≡ 0
all_new n k start pages [] less = refl
all_new n k start pages (r ∷ list) less = (λ i. bit (not_new n k start pages r less i) + all_new n k start pages list less i)

all_gone : (n k start pages : ℕ) (now : List Held) → k < n → count_shown (shows_part k start pages)
    (gone_after n now []) ≡ count_shown (shows_now k start pages) now
all_gone n k start pages [] less = refl
all_gone n k start pages (h ∷ now) less = (λ i. bit (still n k start pages h less i) + all_gone n k start pages now less i)

-- of an earlier call, those that go on and those that end show what showed
abbrev pub ShowsAll : ℕ → ℕ → ℕ → ℕ → List Held → List Region → Type 0
ShowsAll n k start pages now list = count_shown (shows_now k start pages) (now_after n now list) + count_shown
    (shows_part k start pages) (gone_after n now list) ≡ count_shown (shows_now k start pages) now

-- the first that the heap had begins before all that are listed: it ends
before : (n k start pages : ℕ) (h : Held) (now : List Held) (r : Region) (list : List Region) → k < n → h.start < r.start →
    ShowsAll n k start pages now (r ∷ list) → ShowsAll n k start pages (h ∷ now) (r ∷ list)
before n k start pages h now r list less first rest =
    let other : has_same_pages h r ≡ false = no_sameness h r (grind (arith, nat_tests, first)) in
    let on = ap (count_shown (shows_now k start pages)) (now_later n h now r list (less_true h.start r.start first)) in
    let off : count_shown (shows_part k start pages) (gone_after n (h ∷ now) (r ∷ list)) ≡ bit
    (shows_now k start pages h) + count_shown
    (shows_part k start pages) (gone_after n now (r ∷ list)) =
    ap (count_shown (shows_part k start pages)) (gone_here n h now r list
    (less_false r.start h.start (omega (arith, first)))
    ∙ ap (λ (b : Bool). if b then gone_after n now (r ∷ list) else ended n h ∷ gone_after n now (r ∷ list)) other)
    ∙ ap (λ (b : Bool). bit b + count_shown (shows_part k start pages) (gone_after n now (r ∷ list))) (still n k start pages h less) in
    omega (arith, on, off, rest)

-- the first that is listed begins before all that the heap had: it is new
behind : (n k start pages : ℕ) (h : Held) (now : List Held) (r : Region) (list : List Region) → k < n → r.start < h.start →
    ShowsAll n k start pages (h ∷ now) list → ShowsAll n k start pages (h ∷ now) (r ∷ list)
behind n k start pages h now r list less first rest =
    let other : has_same_pages h r ≡ false = no_sameness h r (grind (arith, nat_tests, first)) in
    let on : count_shown (shows_now k start pages) (now_after n (h ∷ now) (r ∷ list)) ≡ bit
    (shows_now k start pages (going n r (h ∷ now))) + count_shown (shows_now k start pages) (now_after n (h ∷ now) list) =
    ap (count_shown (shows_now k start pages)) (now_here n h now r list (less_false h.start r.start (omega (arith, first)))) in
    let none = new_shows n k start pages h now r less other in
    let off = ap (count_shown (shows_part k start pages)) (gone_later n h now r list (less_true r.start h.start first)) in
    omega (arith, on, none, off, rest)

-- both begin at one address: what goes on
on_there : (n k start pages : ℕ) (h : Held) (now : List Held) (r : Region) (list : List Region) → h.start ≡ r.start → IsAfter r.start list →
    count_shown (shows_now k start pages) (now_after n (h ∷ now) (r ∷ list)) ≡ bit
    (shows_now k start pages (going n r (h ∷ now))) + count_shown (shows_now k start pages) (now_after n now list)
on_there n k start pages h now r list at above =
    let past = now_past n h now list (subst (λ (s : ℕ). IsAfter s list) (sym at) above) in
    ap (count_shown (shows_now k start pages)) (now_here n h now r list (less_false h.start r.start (omega (arith, at)))
    ∙ ap (λ (hs : List Held). going n r (h ∷ now) ∷ hs) past)

-- and what ends
off_there : (n : ℕ) (h : Held) (now : List Held) (r : Region) (list : List Region) → h.start ≡ r.start → IsHeldAfter h.start now →
    gone_after n (h ∷ now) (r ∷ list) ≡ (if has_same_pages h r then gone_after n now list else ended n h ∷ gone_after n now
    list)
off_there n h now r list at above =
    let over = gone_past n now r list (subst (λ (s : ℕ). IsHeldAfter s now) at above) in
    gone_here n h now r list (less_false r.start h.start (omega (arith, at))) ∙ ap (λ (hs : List Held). if has_same_pages h r then hs else ended n h ∷ hs) over

-- it goes on if it is the same, and else ends, and another one begins
beside : (n k start pages : ℕ) (h : Held) (now : List Held) (r : Region) (list : List Region) → k < n → h.start ≡ r.start →
    IsHeldAfter h.start now → IsAfter r.start list →
    ShowsAll n k start pages now list → ShowsAll n k start pages (h ∷ now) (r ∷ list)
beside n k start pages h now r list less at held_above above rest = go (has_same_pages h r) refl
  where
    go : (b : Bool) → has_same_pages h r ≡ b → ShowsAll n k start pages (h ∷ now) (r ∷ list)
    go true is =
        let on = on_there n k start pages h now r list at above in
        let same = same_shows n k start pages h now r is in
        let off = ap (count_shown (shows_part k start pages)) (off_there n h now r list at held_above
        ∙ ap (λ (b : Bool). if b then gone_after n now list else ended n h ∷ gone_after n now list) is) in
        omega (arith, on, same, off, rest)
    go false is =
        let on = on_there n k start pages h now r list at above in
        let none = new_shows n k start pages h now r less is in
        let off : count_shown (shows_part k start pages) (gone_after n (h ∷ now) (r ∷ list)) ≡ bit
        (shows_now k start pages h) + count_shown (shows_part k start pages) (gone_after n now list) =
        ap (count_shown (shows_part k start pages)) (off_there n h now r list at held_above
        ∙ ap (λ (b : Bool). if b then gone_after n now list else ended n h ∷ gone_after n now list) is)
        ∙ ap (λ (b : Bool). bit b + count_shown (shows_part k start pages) (gone_after n now list)) (still n k start pages h less) in
        omega (arith, on, none, off, rest)

pub shows_all : (n k start pages : ℕ) (now : List Held) (list : List Region) → k < n → AreHeldRising now → AreRising list → ShowsAll n k start pages now list
shows_all n k start pages [] list less rising listed = let none = all_new n k start pages list less in omega (arith, none)
shows_all n k start pages (h ∷ now) [] less rising listed = let all = all_gone n k start pages (h ∷ now) less in omega (arith, all)
shows_all n k start pages (h ∷ now) (r ∷ list) less rising listed =
    compared (shows_all n k start pages now (r ∷ list) less rising.1 listed)
    (shows_all n k start pages (h ∷ now) list less rising listed.1) (shows_all n k start pages now list less rising.1
    listed.1)
  where
    compared : ShowsAll n k start pages now (r ∷ list) → ShowsAll n k start pages (h ∷ now) list →
        ShowsAll n k start pages now list → ShowsAll n k start pages (h ∷ now) (r ∷ list)
    compared one two three = go (nat_lt h.start r.start) (nat_lt r.start h.start) refl refl
      where
        go : (b c : Bool) → nat_lt h.start r.start ≡ b → nat_lt r.start h.start ≡ c → ShowsAll n k start pages (h ∷ now) (r ∷ list)
        go true c is other = before n k start pages h now r list less (grind (arith, nat_tests, is)) one
        go false true is other = behind n k start pages h now r list less (grind (arith, nat_tests, other)) two
        go false false is other = beside n k start pages h now r list less (grind (arith, nat_tests, is, other)) rising.0 listed.0 three
