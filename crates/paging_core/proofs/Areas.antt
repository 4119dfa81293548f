-- What lies in an area of frames.
use Rattle.std.proofs.Common.{◌≡◌, ℕ, ◌+◌, ◌/◌, ◌<◌, ◌≤◌, Bool, true, false, List, Some, refl, sym, ap, ◌∙◌, ◌⊎◌, inl, inr, arith}
use Rattle.std.proofs.lemmas.Bool.{cases_Bool}
use Rattle.std.proofs.lemmas.Bool.Decides.{nat_tests}
use Rattle.paging_core.specs.Area.{Area, Whole, Part, in_area}
use Rattle.paging_core.specs.Pool.{is_frame_free, FreeBelow, FreeIn}
use Rattle.paging_core.specs.Tree.{IsTreeIn, IsUnmet, IsRunUnmet, last_own}
use Rattle.paging_core.specs.Walk.{Place, reach, walk_of, reached}
use Rattle.paging_core.specs.Outcomes.{IsBeside, KeepsBytes, KeepsBytesOf}
use Rattle.paging_core.specs.Prefix.{prefix_of}
use Rattle.paging_core.proofs.Prefixes.{walk_reach}

-- free frames lie below the count, and in the area
pub free_below : (area : Area) (free : List Bool) (count : ℕ) → FreeIn area free count → FreeBelow free count
free_below Whole free count known = known
free_below (Part first end) free count known = λ f is. (known f is).1

pub free_inside : (area : Area) (free : List Bool) (count : ℕ) → FreeIn area free count → (f : ℕ) → is_frame_free free f ≡ true → in_area area f ≡ true
free_inside Whole free count known f is = refl
free_inside (Part first end) free count known f is = (known f is).0

pub free_in : (area : Area) (free : List Bool) (count : ℕ) → FreeBelow free count →
    ((f : ℕ) → is_frame_free free f ≡ true → in_area area f ≡ true) → FreeIn area free count
free_in Whole free count below inside = below
free_in (Part first end) free count below inside = λ f is. (inside f is, below f is)

-- as free frames were, if none was given back
pub free_stays : (area : Area) (free free' : List Bool) (count count' : ℕ) → FreeIn area free count → count' ≡ count →
    ((f : ℕ) → is_frame_free free f ≡ false → is_frame_free free' f ≡ false) → FreeIn area free' count'
free_stays area free free' count count' known same fewer =
    free_in area free' count'
    (λ f is. let b = free_below area free count known f (before f is) in omega arith)
    (λ f is. free_inside area free count known f (before f is))
  where
    before : (f : ℕ) → is_frame_free free' f ≡ true → is_frame_free free f ≡ true
    before f is = go (cases_Bool (is_frame_free free f))
      where
        go : (is_frame_free free f ≡ true) ⊎ (is_frame_free free f ≡ false) → is_frame_free free f ≡ true
        go (inl h) = h
        go (inr h) = let x = fewer f h in absurd (cc)

-- the levels at which a tree has frames for itself alone
pub own_met : (area : Area) (l : ℕ) → l ≤ last_own area → l ≤ 4
own_met Whole l le = le
own_met (Part first end) l le = omega arith

pub own_table : (area : Area) (l : ℕ) → l < 4 → l ≤ last_own area
own_table Whole l lt = omega arith
own_table (Part first end) l lt = omega arith

pub own_whole : (area : Area) → 4 ≤ last_own area → area ≡ Whole
own_whole Whole le = refl
own_whole (Part first end) le = absurd (omega arith)

-- in the whole memory a frame that may be mapped is no table's and no page's
pub unmet_at : (area : Area) (words : List ℕ) (root frame : ℕ) → IsUnmet area words root frame → area ≡ Whole →
    (l n : ℕ) (b : Place) → l ≤ 4 → reach words root l n ≡ Some b → b.frame ≡ frame → ⊥
unmet_at Whole words root frame unmet whole l n b le is e = unmet l n b le is e
unmet_at (Part first end) words root frame unmet whole l n b le is e = absurd (cc)

pub run_unmet_at : (area : Area) (words : List ℕ) (root first : ℕ) → IsRunUnmet area words root first → area ≡ Whole →
    (k l n : ℕ) (b : Place) → k < 512 → l ≤ 4 → reach words root l n ≡ Some b → b.frame ≡ first + k → ⊥
run_unmet_at Whole words root first unmet whole k l n b lk le is e = unmet k l n b lk le is e
run_unmet_at (Part from end) words root first unmet whole k l n b lk le is e = absurd (cc)

-- the frame of a page that leads to no table is none of a table, and none that is free
pub beside_table : (area : Area) (words : List ℕ) (root : ℕ) (free : List Bool) (page : ℕ) (place : Place) → IsTreeIn area words root free →
    walk_of words root page ≡ Some place → IsBeside area words root page →
    (l n : ℕ) (b : Place) → l < 4 → reach words root l n ≡ Some b → place.frame ≡ b.frame → ⊥
beside_table Whole words root free page place tree at beside l n b lt is e =
    let d = tree.distinct 4 (prefix_of page 4) l n place b (omega arith) (omega arith) (sym (walk_reach words root page) ∙ at) is e in
    absurd (omega (arith, d.0))
beside_table (Part first end) words root free page place tree at beside l n b lt is e =
    let i : in_area (Part first end) b.frame ≡ true = tree.inside l n b lt is in
    let o : in_area (Part first end) place.frame ≡ false = beside place at in
    let s : in_area (Part first end) place.frame ≡ in_area (Part first end) b.frame = ap (in_area (Part first end)) e in
    absurd (cc)

pub beside_free : (area : Area) (words : List ℕ) (root : ℕ) (free : List Bool) (page : ℕ) (place : Place) (count made : ℕ) → IsTreeIn area words root free →
    FreeIn area free count → walk_of words root page ≡ Some place → IsBeside area words root page →
    is_frame_free free made ≡ true → place.frame ≡ made → ⊥
beside_free Whole words root free page place count made tree known at beside is e =
    let u : is_frame_free free place.frame ≡ false = tree.used 4 (prefix_of page 4) place (omega arith) (sym (walk_reach words root page) ∙ at) in
    let s : is_frame_free free place.frame ≡ is_frame_free free made = ap (is_frame_free free) e in
    absurd (cc)
beside_free (Part first end) words root free page place count made tree known at beside is e =
    let i : in_area (Part first end) made ≡ true = free_inside (Part first end) free count known made is in
    let o : in_area (Part first end) place.frame ≡ false = beside place at in
    let s : in_area (Part first end) place.frame ≡ in_area (Part first end) made = ap (in_area (Part first end)) e in
    absurd (cc)

pub beside_moved : (area : Area) (old new : List ℕ) (root page : ℕ) → walk_of new root page ≡ walk_of old root page → IsBeside area old root page →
    IsBeside area new root page
beside_moved Whole old new root page same beside = beside
beside_moved (Part first end) old new root page same beside = λ place at. beside place (sym same ∙ at)

pub bytes_kept : (area : Area) (old new : List ℕ) (root : ℕ) →
    ((address : ℕ) → IsBeside area old root (address / 4096) → reached new root address ≡ reached old root address) → KeepsBytes area old new root
bytes_kept Whole old new root each = λ address. each address tt
bytes_kept (Part first end) old new root each = each

pub bytes_kept_of : (area : Area) (pages : ℕ → Type 0) (old new : List ℕ) (root : ℕ) →
    ((address : ℕ) → pages (address / 4096) → IsBeside area old root (address / 4096) → reached new root address ≡ reached old root address) →
    KeepsBytesOf area pages old new root
bytes_kept_of Whole pages old new root each = λ address is. each address is tt
bytes_kept_of (Part first end) pages old new root each = each

pub bytes_moved : (area area' : Area) (old new : List ℕ) (root : ℕ) → area' ≡ area → KeepsBytes area old new root → KeepsBytes area' old new root
bytes_moved area area' old new root e kept = rw e kept

pub bytes_of_moved : (area area' : Area) (pages : ℕ → Type 0) (old new : List ℕ) (root : ℕ) → area' ≡ area →
    KeepsBytesOf area pages old new root → KeepsBytesOf area' pages old new root
bytes_of_moved area area' pages old new root e kept = rw e kept

-- a tree in an area, by another name of it
pub tree_moved : (area area' : Area) (words : List ℕ) (root : ℕ) (free : List Bool) → area' ≡ area →
    IsTreeIn area words root free → IsTreeIn area' words root free
tree_moved area area' words root free e tree = rw e tree

pub known_moved : (area area' : Area) (free : List Bool) (count : ℕ) → area' ≡ area → FreeIn area free count → FreeIn area' free count
known_moved area area' free count e known = rw e known

-- a frame of a part
pub in_part : (area : Area) (first end f : ℕ) → Part first end ≡ area → in_area area f ≡ true → (first ≤ f) × (f < end)
in_part area first end f e is =
    let h : in_area (Part first end) f ≡ true = ap (λ a. in_area a f) e ∙ is in
    (grind (arith, nat_tests), grind (arith, nat_tests))
