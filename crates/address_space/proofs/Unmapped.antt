-- A space after pages left.
use Rattle.std.proofs.Common.{◌≡◌, ◌∙◌, ap, sym, refl, ℕ, ◌+◌, ◌-◌, ◌*◌, ◌/◌, ◌^◌, ◌<◌, ◌≤◌, ◌==◌, ◌&&◌, ◌||◌, not, Bool, true, false, cond, Option, Some, None, option_map, List, subst, arith, ◌⊎◌, inl, inr}
use Rattle.std.proofs.lemmas.Bool.{cases_lt}
use Rattle.std.proofs.lemmas.Bool.Decides.{nat_tests}
use Rattle.std.specs.Prelude.{nat_lt, IsTrue, IsSome, is_some}
use Rattle.paging_core.specs.Address.{IsCanonicalRange, is_canonical}
use Rattle.paging_core.specs.Memory.{frame_count}
use Rattle.paging_core.specs.PageChanges.{ArePagesChanged, ArePagesFreed, removal, among}
use Rattle.paging_core.proofs.PageChanged.{changed_more, none_changed}
use Rattle.paging_core.proofs.Prefixes.{walk_reach}
use Rattle.paging_core.specs.Pool.{is_frame_free, FreeBelow, free_count}
use Rattle.paging_core.specs.Prefix.{prefix_of}
use Rattle.paging_core.specs.Tree.{IsTree}
use Rattle.paging_core.specs.Walk.{Place, reach, walk_of, reached}
use Rattle.paging_core.specs.PageBits.{bits_of, bits_at}
use Rattle.paging_core.specs.declared.page_table.Rights.{Rights}
use Rattle.meminterval.specs.declared.interval.Interval.{Interval}
use Rattle.address_space.specs.Runs.{rights_in, is_among}
use Rattle.address_space.specs.RunChanges.{AreTaken, AreFree}
use Rattle.address_space.specs.PageMap.{IsMap, unmapped, mapped_count}
use Rattle.address_space.specs.Changing.{IsUnmapped, is_mapped_in}
use Rattle.address_space.specs.Space.{Tables, AreTablesKept, page_map_of}
use Rattle.address_space.proofs.Mapped.{canonical_in, walks}
use Rattle.address_space.proofs.Cutting.{side_of, then_in, else_out}
use Rattle.address_space.proofs.Counting.{count_split, count_same, count_full, count_free}

-- ---- ranges

-- fewer pages of a range
pub part_of_range : (first pages from count : ℕ) → IsCanonicalRange first pages → first ≤ from →
    from + count ≤ first + pages → 0 < count → IsCanonicalRange from count
part_of_range first pages from count range h k some = record {
  some = some;
  canonical = canonical_in first pages from range h (omega (arith, k, some));
  one_half = (let one = range.one_half in omega (arith, one, h, k, some));
}

pub not_there : {A : Type 0} (o : Option A) → o ≡ None → IsSome o → ⊥
not_there {A} None h some = absurd (cc)
not_there {A} (Some a) h some = let no : Some a ≡ None = h in absurd (cc)

-- ---- the space after it

pub record AreUnmapped (old : Tables) (words : List ℕ) (free : List Bool) (runs : List (Interval ℕ × Rights)) (first pages : ℕ) : Type 0 where
  pub kept : AreTablesKept old
  pub range : IsCanonicalRange first pages
  pub freed : ArePagesFreed old.words words old.free free old.root (among first pages)
  pub tree : IsTree words old.root free
  pub count : free_count free ≡ free_count old.free + pages
  pub known : FreeBelow free (frame_count words)
  pub gone : (k : ℕ) → k < pages → walk_of words old.root (first + k) ≡ None
  pub elsewhere : (other : ℕ) → IsTrue (is_canonical (other * 4096)) → ((k : ℕ) → k < pages → other ≡ first + k → ⊥) →
      walk_of words old.root other ≡ walk_of old.words old.root other
  pub bytes : (address : ℕ) → IsSome (walk_of words old.root (address / 4096)) → reached words old.root address ≡ reached old.words old.root address
  pub taken : AreTaken old.runs runs first (first + pages)

pub not_among : (first pages page k : ℕ) → (page < first) ⊎ (first + pages ≤ page) → k < pages → page ≡ first + k → ⊥
not_among first pages page k (inl h) less is = absurd (omega (arith, h, is))
not_among first pages page k (inr h) less is = absurd (omega (arith, h, less, is))

pub unmapped_kept : (old : Tables) (words : List ℕ) (free : List Bool) (runs : List (Interval ℕ × Rights))
    (first pages : ℕ) → AreUnmapped old words free runs first pages →
    AreTablesKept (record { words = words; root = old.root; free = free; runs = runs })
unmapped_kept old words free runs first pages m =
    let count : frame_count words ≡ frame_count old.words = ap (λ n. n / 512) m.freed.removed.size in
    record {
      tree = m.tree;
      known = m.known;
      flags = m.freed.flags ∙ (m.kept.flags ∙ sym count);
      root_in = (let r = m.kept.root_in in omega (arith, count, r));
      few_frames = (let r = m.kept.few_frames in omega (arith, count, r));
      canonical = λ page some. is_there page (side_of first (first + pages) page) some;
      found = λ page canonical. finds page canonical (side_of first (first + pages) page);
      accounted = λ frame less unmet. at_frame frame (omega (arith, count, less)) unmet (is_frame_free free frame) refl;
      no_large = λ slot. m.freed.removed.larges slot ∙ m.kept.no_large slot;
      follow = m.taken.follow;
      longest = m.taken.longest;
    } where
      is_there : (page : ℕ) → ((first ≤ page) × (page < first + pages)) ⊎ ((page < first) ⊎ (first + pages ≤ page)) →
          IsSome (rights_in runs page) → IsTrue (is_canonical (page * 4096))
      is_there page (inl k) some = absurd (not_there (rights_in runs page)
          (m.taken.pages page ∙ then_in first (first + pages) page None (rights_in old.runs page) k.0 k.1) some)
      is_there page (inr k) some = m.kept.canonical page (subst IsSome (m.taken.pages page
          ∙ else_out first (first + pages) page None (rights_in old.runs page) k) some)

      finds : (page : ℕ) → IsTrue (is_canonical (page * 4096)) →
          ((first ≤ page) × (page < first + pages)) ⊎ ((page < first) ⊎ (first + pages ≤ page)) →
          option_map bits_at (walk_of words old.root page) ≡ option_map bits_of (rights_in runs page)
      finds page canonical (inl k) =
          let at : first + (page - first) ≡ page = omega (arith, k.0) in
          ap (option_map bits_at) (ap (walk_of words old.root) (sym at) ∙ m.gone (page - first) (omega (arith, k.0, k.1)))
          ∙ sym (ap (option_map bits_of) (m.taken.pages page ∙ then_in first (first + pages) page None (rights_in old.runs page) k.0 k.1))
      finds page canonical (inr k) =
          ap (option_map bits_at) (m.elsewhere page canonical (λ j less is. not_among first pages page j k less is))
          ∙ (m.kept.found page canonical
          ∙ sym (ap (option_map bits_of) (m.taken.pages page ∙ else_out first (first + pages) page None (rights_in old.runs page) k)))

      clash : (frame : ℕ) (n : ℕ) (place : Place) → is_frame_free free frame ≡ false → among first pages n ≡ true →
          reach old.words old.root 4 n ≡ Some place → place.frame ≡ frame → ⊥
      clash frame n place is gone at same =
          let no : true ≡ false = sym (m.freed.given n place gone at) ∙ (ap (is_frame_free free) same ∙ is) in absurd (cc)

      unmet_before : (frame : ℕ) → is_frame_free free frame ≡ false → ((level number : ℕ) (met : Place) → level ≤ 4 →
          reach words old.root level number ≡ Some met → met.frame ≡ frame → ⊥) →
          (level number : ℕ) (met : Place) → level ≤ 4 → reach old.words old.root level number ≡ Some met → met.frame ≡ frame → ⊥
      unmet_before frame is unmet level number met le at same = by_level (level == 4) refl (among first pages number) refl where
        by_level : (t : Bool) → (level == 4) ≡ t → (g : Bool) → among first pages number ≡ g → ⊥
        by_level false t g k = unmet level number met le (m.freed.removed.stayed level number le (λ four. absurd (grind (arith, nat_tests, t, four))) ∙ at) same
        by_level true t false k = unmet level number met le (m.freed.removed.stayed level number le (λ four. k) ∙ at) same
        by_level true t true k =
            let four : level ≡ 4 = grind (arith, nat_tests, t) in
            clash frame number met is k (subst (λ (l : ℕ). reach old.words old.root l number ≡ Some met) four at) same

      at_frame : (frame : ℕ) → frame < frame_count old.words → ((level number : ℕ) (met : Place) → level ≤ 4 →
          reach words old.root level number ≡ Some met → met.frame ≡ frame → ⊥) → (t : Bool) →
          is_frame_free free frame ≡ t →
          is_frame_free free frame ≡ true
      at_frame frame less unmet true is = is
      at_frame frame less unmet false is =
          m.freed.kept frame (λ n place gone at same. clash frame n place is gone at same) ∙ m.kept.accounted frame less (unmet_before frame is unmet)

byte_none : (o : Option Rights) (a b : Option ℕ) → o ≡ None → cond (is_some o) a None ≡ None
byte_none o a b h = rw h refl

pub unmapped_map : (old : Tables) (words : List ℕ) (free : List Bool) (runs : List (Interval ℕ × Rights))
    (first pages : ℕ) → AreUnmapped old words free runs first pages →
    IsMap (page_map_of (record { words = words; root = old.root; free = free; runs = runs }))
    (unmapped first pages (page_map_of old))
unmapped_map old words free runs first pages m = record {
  rights = m.taken.pages;
  bytes = λ address. by_side address (side_of first (first + pages) (address / 4096));
} where
  same_byte : (address : ℕ) → (address / 4096 < first) ⊎ (first + pages ≤ address / 4096) → (o : Option Rights) → rights_in old.runs (address / 4096) ≡ o →
      cond (is_some o) (reached words old.root address) None ≡ cond (is_some o) (reached old.words old.root address) None
  same_byte address k None is = refl
  same_byte address k (Some r) is =
      let page = address / 4096 in
      let there = walks old (address / 4096) r m.kept is in
      let canonical = m.kept.canonical (address / 4096) (rw is refl) in
      m.bytes address (subst IsSome (sym (m.elsewhere (address / 4096) canonical (λ j less at. not_among first pages (address / 4096) j k less at))) there)

  by_side : (address : ℕ) → ((first ≤ address / 4096) × (address / 4096 < first + pages)) ⊎ ((address / 4096 < first) ⊎ (first + pages ≤ address / 4096)) →
      cond (is_some (rights_in runs (address / 4096))) (reached words old.root address) None
      ≡ cond (is_among first pages (address / 4096)) None (cond (is_some (rights_in old.runs (address / 4096))) (reached old.words old.root address) None)
  by_side address (inl k) =
      byte_none (rights_in runs (address / 4096)) (reached words old.root address) None
      (m.taken.pages (address / 4096) ∙ then_in first (first + pages) (address / 4096) None
      (rights_in old.runs (address / 4096)) k.0 k.1)
      ∙ sym (then_in first (first + pages) (address / 4096) None (cond (is_some (rights_in old.runs (address / 4096)))
      (reached old.words old.root address) None) k.0 k.1)
  by_side address (inr k) =
      ap (λ (o : Option Rights). cond (is_some o) (reached words old.root address) None)
      (m.taken.pages (address / 4096) ∙ else_out first (first + pages) (address / 4096) None
      (rights_in old.runs (address / 4096)) k)
      ∙ (same_byte address k (rights_in old.runs (address / 4096)) refl
      ∙ sym (else_out first (first + pages) (address / 4096) None (cond (is_some (rights_in old.runs (address / 4096)))
      (reached old.words old.root address) None) k))

-- ---- more pages than those that were mapped

among_more : (first pages more n : ℕ) → pages ≤ more → among first more n ≡ false → among first pages n ≡ false
among_more first pages more n le h = go (not (nat_lt n (prefix_of first 4))) (nat_lt n (prefix_of first 4 + pages)) refl refl where
  go : (a b : Bool) → not (nat_lt n (prefix_of first 4)) ≡ a → nat_lt n (prefix_of first 4 + pages) ≡ b → (a && b) ≡ false
  go false b h1 h2 = refl
  go true false h1 h2 = refl
  go true true h1 h2 =
      let less : n < prefix_of first 4 + more = (let l : n < prefix_of first 4 + pages = grind (arith, nat_tests, h2) in omega (arith, l, le)) in
      let t : nat_lt n (prefix_of first 4 + more) ≡ true = grind (arith, nat_tests, less) in
      let no : true ≡ false = rw t at (rw h1 at h) in absurd (cc)

-- a page of a range that is in no run is met by no walk
not_met : (t : Tables) (first pages n : ℕ) → AreTablesKept t → IsCanonicalRange first pages → among first pages n ≡ true →
    rights_in t.runs (first + (n - prefix_of first 4)) ≡ None → is_some (reach t.words t.root 4 n) ≡ false
not_met t first pages n kept range h none =
    let low : prefix_of first 4 ≤ n = grind (arith, nat_tests, h) in
    let high : n < prefix_of first 4 + pages = grind (arith, nat_tests, h) in
    let one = range.one_half in
    let page = first + (n - prefix_of first 4) in
    let number : prefix_of page 4 ≡ n = omega (arith, one, low, high) in
    let met : reach t.words t.root 4 n ≡ walk_of t.words t.root page = ap (reach t.words t.root 4) (sym number) ∙ sym (walk_reach t.words t.root page) in
    let found = kept.found page (canonical_in first pages page range (omega arith) (omega (arith, low, high))) ∙ ap (option_map bits_of) none in
    ap is_some met ∙ unfound (walk_of t.words t.root page) found where
      unfound : (o : Option Place) → option_map bits_at o ≡ None → is_some o ≡ false
      unfound None h = refl
      unfound (Some place) h = let no : Some (bits_at place) ≡ None = h in absurd (cc)

pub none_mapped : (t : Tables) (first pages n : ℕ) → AreTablesKept t → IsCanonicalRange first pages →
    AreFree t.runs first (first + pages) → is_mapped_in t first pages n ≡ false
none_mapped t first pages n kept range free = go (among first pages n) refl where
  go : (b : Bool) → among first pages n ≡ b → (b && is_some (reach t.words t.root 4 n)) ≡ false
  go false h = refl
  go true h =
      let high : n < prefix_of first 4 + pages = grind (arith, nat_tests, h) in
      let low : prefix_of first 4 ≤ n = grind (arith, nat_tests, h) in
      not_met t first pages n kept range h (free (first + (n - prefix_of first 4)) (omega arith) (omega (arith, low, high)))

pub none_of_none : (t : Tables) (first pages n : ℕ) → pages ≡ 0 → is_mapped_in t first pages n ≡ false
none_of_none t first pages n none = (let no : among first pages n ≡ false = grind (arith, nat_tests, none) in
    ap (λ (b : Bool). b && is_some (reach t.words t.root 4 n)) no)

-- the pages that leave are those of the wider range that are mapped
module _ (old : Tables) (words : List ℕ) (free : List Bool) (runs : List (Interval ℕ × Rights)) (first pages more : ℕ)
    (m : AreUnmapped old words free runs first pages)
    (wide : IsCanonicalRange first more)
    (le : pages ≤ more)
    (gone : AreFree old.runs (first + pages) (first + more)) where
  same_pages : (n : ℕ) → is_mapped_in old first more n ≡ (among first pages n || false)
  same_pages n = go (among first pages n) refl (among first more n) refl where
    met : (place : Place) → reach old.words old.root 4 n ≡ Some place → is_some (reach old.words old.root 4 n) ≡ true
    met place at = ap is_some at

    go : (a : Bool) → among first pages n ≡ a → (b : Bool) → among first more n ≡ b → (b && is_some (reach old.words old.root 4 n)) ≡ (a || false)
    go true h true k = let p = m.freed.removed.mapped n h in met p.0 p.1
    go true h false k = (let no : among first pages n ≡ false = among_more first pages more n le k in absurd (cc))
    go false h false k = refl
    go false h true k =
        let low : prefix_of first 4 ≤ n = grind (arith, nat_tests, k) in
        let high : n < prefix_of first 4 + more = grind (arith, nat_tests, k) in
        let past : prefix_of first 4 + pages ≤ n = grind (arith, nat_tests, h, low) in
        not_met old first more n m.kept wide k (gone (first + (n - prefix_of first 4)) (omega (arith, past)) (omega (arith, low, high)))

  pub left_pages : ArePagesChanged old.words words old.root removal (is_mapped_in old first more)
  left_pages =
      changed_more old.words words words old.root removal (among first pages) (λ n. false) (is_mapped_in old first more) m.freed.removed
      (none_changed words old.root removal (λ n. false) (λ n. refl)) same_pages old.free m.kept.tree (λ n h. refl)

pub unmapped_part : (old new : Tables) (first pages more : ℕ) → AreUnmapped old new.words new.free new.runs first pages →
    new.root ≡ old.root → IsCanonicalRange first more → pages ≤ more → AreFree old.runs (first + pages) (first + more) →
    ((page : ℕ) → first ≤ page → page < first + pages → IsSome (rights_in old.runs page)) → IsUnmapped old new first more pages
unmapped_part old new first pages more m root wide le free full = record {
  map = record {
    rights = λ page. m.taken.pages page ∙ wider page (rights_in old.runs page) (λ h k. free page h k);
    bytes = λ address. ap (λ (r : ℕ). cond (is_some (rights_in new.runs (address / 4096))) (reached new.words r address) None) root
        ∙ ((unmapped_map old new.words new.free new.runs first pages m).bytes address
        ∙ wider (address / 4096) (cond (is_some (rights_in old.runs (address / 4096))) (reached old.words old.root address) None)
        (λ h k. byte_none (rights_in old.runs (address / 4096)) (reached old.words old.root address) None (free (address / 4096) h k)));
  };
  count_is = counted;
  free = m.count;
  root = root;
  entries = left_pages old new.words new.free new.runs first pages more m wide le free;
} where
  wider : {A : Type 0} (page : ℕ) (o : Option A) → (first + pages ≤ page → page < first + more → o ≡ None) →
      cond (is_among first pages page) None o ≡ cond (is_among first more page) None o
  wider {A} page o none = go (side_of first (first + pages) page) (side_of first (first + more) page) where
    go : ((first ≤ page) × (page < first + pages)) ⊎ ((page < first) ⊎ (first + pages ≤ page)) →
        ((first ≤ page) × (page < first + more)) ⊎ ((page < first) ⊎ (first + more ≤ page)) →
        cond (is_among first pages page) None o ≡ cond (is_among first more page) None o
    go (inl h) k = then_in first (first + pages) page None o h.0 h.1 ∙ sym (then_in first (first + more) page None o h.0 (omega (arith, h.1, le)))
    go (inr (inl h)) k = else_out first (first + pages) page None o (inl h) ∙ sym (else_out first (first + more) page None o (inl h))
    go (inr (inr h)) (inl k) = else_out first (first + pages) page None o (inr h) ∙ (none h k.1 ∙ sym (then_in first (first + more) page None o k.0 k.1))
    go (inr (inr h)) (inr k) = else_out first (first + pages) page None o (inr h) ∙ sym (else_out first (first + more) page None o k)

  counted : pages ≡ mapped_count (rights_in old.runs) first more
  counted =
      let is : pages + (more - pages) ≡ more = omega (arith, le) in
      let both = count_split (rights_in old.runs) first pages (more - pages) in
      let same : mapped_count (rights_in old.runs) first (pages + (more - pages)) ≡ mapped_count (rights_in old.runs) first
      more = ap (mapped_count (rights_in old.runs) first) is in
      let all = count_full (rights_in old.runs) first pages full in
      let none = count_free (rights_in old.runs) (first + pages) (more - pages) (λ page h k. free page h (omega (arith, k, le))) in
      omega (arith, both, same, all, none)

pub unmapped_none : (t : Tables) (first pages : ℕ) → ((n : ℕ) → is_mapped_in t first pages n ≡ false) →
    AreFree t.runs first (first + pages) → IsUnmapped t t first pages 0
unmapped_none t first pages none free = record {
  map = record {
    rights = λ page. nothing page (rights_in t.runs page) (λ h k. free page h k);
    bytes = λ address. nothing (address / 4096) (cond (is_some (rights_in t.runs (address / 4096))) (reached t.words t.root address) None)
        (λ h k. byte_none (rights_in t.runs (address / 4096)) (reached t.words t.root address) None (free (address / 4096) h k));
  };
  count_is = sym (count_free (rights_in t.runs) first pages free);
  free = omega arith;
  root = refl;
  entries = none_changed t.words t.root removal (is_mapped_in t first pages) none;
} where
  nothing : {A : Type 0} (page : ℕ) (o : Option A) → (first ≤ page → page < first + pages → o ≡ None) → o ≡ cond (is_among first pages page) None o
  nothing {A} page o none = go (side_of first (first + pages) page) where
    go : ((first ≤ page) × (page < first + pages)) ⊎ ((page < first) ⊎ (first + pages ≤ page)) → o ≡ cond (is_among first pages page) None o
    go (inl h) = none h.0 h.1 ∙ sym (then_in first (first + pages) page None o h.0 h.1)
    go (inr h) = sym (else_out first (first + pages) page None o h)

-- ---- one range after another

pub among_parts : (first half pages more n : ℕ) → IsCanonicalRange first (pages + more) → half ≡ first + pages →
    among first (pages + more) n ≡ false → (among first pages n ≡ false) × (among half more n ≡ false)
among_parts first half pages more n range is h =
    (among_more first pages (pages + more) n (omega arith) h, go (nat_lt n (prefix_of half 4)) (nat_lt n (prefix_of half 4 + more)) refl refl) where
      go : (a b : Bool) → nat_lt n (prefix_of half 4) ≡ a → nat_lt n (prefix_of half 4 + more) ≡ b → (not a && b) ≡ false
      go true b h1 h2 = refl
      go false false h1 h2 = refl
      go false true h1 h2 =
          let one = range.one_half in
          let from : prefix_of half 4 ≤ n = grind (arith, nat_tests, h1) in
          let to : n < prefix_of half 4 + more = grind (arith, nat_tests, h2) in
          let next : prefix_of half 4 ≡ prefix_of first 4 + pages = moved one (omega (arith, from, to)) in
          let t : nat_lt n (prefix_of first 4 + (pages + more)) ≡ true = grind (arith, nat_tests, to, next) in
          let u : nat_lt n (prefix_of first 4) ≡ false = grind (arith, nat_tests, from, next) in
          let no : true ≡ false = rw t at (rw u at h) in absurd (cc) where
            moved : (first + (pages + more) - 1) / 2 ^ 35 ≡ first / 2 ^ 35 → 0 < more → prefix_of half 4 ≡ prefix_of first 4 + pages
            moved one some = omega (arith, one, some, is)

-- the pages of both ranges
module _ (old one new : Tables) (first half pages more count : ℕ)
    (tree : IsTree old.words old.root old.free)
    (range : IsCanonicalRange first (pages + more))
    (is : half ≡ first + pages)
    (u : IsUnmapped old one half more count) where
  next_half : 0 < more → prefix_of half 4 ≡ prefix_of first 4 + pages
  next_half some = (let one = range.one_half in omega (arith, one, some, is))

  is_after : (n : ℕ) → among half more n ≡ true → (among first pages n ≡ false) × (among first (pages + more) n ≡ true)
  is_after n h = (
      let low : prefix_of half 4 ≤ n = grind (arith, nat_tests, h) in
      let high : n < prefix_of half 4 + more = grind (arith, nat_tests, h) in
      let next : prefix_of half 4 ≡ prefix_of first 4 + pages = next_half (omega (arith, low, high)) in
      (grind (arith, nat_tests, low, next), grind (arith, nat_tests, low, high, next))
      )

  is_before : (n : ℕ) → among half more n ≡ false → among first (pages + more) n ≡ among first pages n
  is_before n h = go (cases_lt 0 more) where
    go : (0 < more) ⊎ (more ≤ 0) → among first (pages + more) n ≡ among first pages n
    go (inr none) = let z : pages + more ≡ pages = omega (arith, none) in ap (λ (p : ℕ). among first p n) z
    go (inl some) = by_pages (among first pages n) refl where
      next : prefix_of half 4 ≡ prefix_of first 4 + pages
      next = next_half some

      by_pages : (b : Bool) → among first pages n ≡ b → among first (pages + more) n ≡ b
      by_pages true k = grind (arith, nat_tests, k)
      by_pages false k = grind (arith, nat_tests, h, k, next)

  left_then : ℕ → Bool
  left_then n = among first pages n && is_some (reach one.words old.root 4 n)

  left_both : (n : ℕ) → is_mapped_in old first (pages + more) n ≡ (is_mapped_in old half more n || left_then n)
  unfolding left_then
  left_both n = go (among half more n) refl where
    or_not : (a : Bool) → a ≡ (a || false)
    or_not true = refl
    or_not false = refl

    go : (b : Bool) → among half more n ≡ b → is_mapped_in old first (pages + more) n ≡ ((b && is_some (reach old.words old.root 4 n)) || left_then n)
    go true h =
        let k = is_after n h in
        ap (λ (b : Bool). b && is_some (reach old.words old.root 4 n)) k.1
        ∙ (or_not (is_some (reach old.words old.root 4 n))
        ∙ ap (λ (b : Bool). is_some (reach old.words old.root 4 n) || (b && is_some (reach one.words old.root 4 n))) (sym k.0))
    go false h =
        let same : reach one.words old.root 4 n ≡ reach old.words old.root 4 n =
        u.entries.stayed 4 n (omega arith) (λ four. ap (λ (b : Bool). b && is_some (reach old.words old.root 4 n)) h) in
        ap (λ (b : Bool). b && is_some (reach old.words old.root 4 n)) (is_before n h) ∙ ap (λ (o : Option Place). among first pages n && is_some o) (sym same)

  left_apart : (n : ℕ) → is_mapped_in old half more n ≡ true → left_then n ≡ false
  unfolding left_then
  left_apart n h = go (among half more n) refl h where
    go : (b : Bool) → among half more n ≡ b → (b && is_some (reach old.words old.root 4 n)) ≡ true → left_then n ≡ false
    go true k h = ap (λ (b : Bool). b && is_some (reach one.words old.root 4 n)) (is_after n k).0
    go false k h = absurd (cc)

  pub left_more : (counted : ℕ) → IsUnmapped one new first pages counted →
      ArePagesChanged old.words new.words old.root removal (is_mapped_in old first (pages + more))
  unfolding left_then
  left_more counted v =
      let then : ArePagesChanged one.words new.words old.root removal left_then =
      subst (λ (r : ℕ). ArePagesChanged one.words new.words r removal (λ n. among first pages n && is_some (reach one.words r 4 n))) u.root v.entries in
      changed_more old.words one.words new.words old.root removal (is_mapped_in old half more) left_then
      (is_mapped_in old first (pages + more)) u.entries then left_both old.free tree left_apart

pub unmapped_on : (old one new : Tables) (first half pages more count counted : ℕ) → IsTree old.words old.root old.free →
    IsCanonicalRange first (pages + more) → half ≡ first + pages → IsUnmapped old one half more count →
    IsUnmapped one new first pages counted →
    IsUnmapped old new first (pages + more) (count + counted)
unmapped_on old one new first half pages more count counted tree range is u v = record {
  map = record {
    rights = λ page. v.map.rights page ∙ joined page (rights_in old.runs page) (rights_in one.runs page) (u.map.rights page);
    bytes = λ address. v.map.bytes address ∙ joined (address / 4096) ((page_map_of old).byte address) ((page_map_of one).byte address) (u.map.bytes address);
  };
  count_is = (let split = count_split (rights_in old.runs) first pages more in
      let later : mapped_count (rights_in old.runs) (first + pages) more ≡ mapped_count (rights_in old.runs) half more =
      ap (λ (p : ℕ). mapped_count (rights_in old.runs) p more) (sym is) in
      let same = count_same (rights_in one.runs) (rights_in old.runs) first pages
      (λ page h k. u.map.rights page ∙ else_out half (half + more) page None (rights_in old.runs page)
      (inl (omega (arith, k, is)))) in
      let a = u.count_is in
      let b = v.count_is in
      omega (arith, split, later, same, a, b));
  free = (let a = u.free in let b = v.free in omega (arith, a, b));
  root = v.root ∙ u.root;
  entries = left_more old one new first half pages more count tree range is u counted v;
} where
  joined : {A : Type 0} (page : ℕ) (o p : Option A) → p ≡ cond (is_among half more page) None o →
      cond (is_among first pages page) None p ≡ cond (is_among first (pages + more) page) None o
  joined {A} page o p h = go (side_of first (first + pages) page) (side_of half (half + more) page) where
    go : ((first ≤ page) × (page < first + pages)) ⊎ ((page < first) ⊎ (first + pages ≤ page)) →
        ((half ≤ page) × (page < half + more)) ⊎ ((page < half) ⊎ (half + more ≤ page)) →
        cond (is_among first pages page) None p ≡ cond (is_among first (pages + more) page) None o
    go (inl k) l = then_in first (first + pages) page None p k.0 k.1 ∙ sym (then_in first (first + (pages + more)) page None o k.0 (omega (arith, k.1)))
    go (inr k) (inl l) =
        else_out first (first + pages) page None p k ∙ (h ∙ (then_in half (half + more) page None o l.0 l.1
        ∙ sym (then_in first (first + (pages + more)) page None o (omega (arith, l.0, is)) (omega (arith, l.1, is)))))
    go (inr (inl k)) (inr l) =
        else_out first (first + pages) page None p (inl k) ∙ (h ∙ (else_out half (half + more) page None o l
        ∙ sym (else_out first (first + (pages + more)) page None o (inl k))))
    go (inr (inr k)) (inr (inl l)) = absurd (omega (arith, k, l, is))
    go (inr (inr k)) (inr (inr l)) =
        else_out first (first + pages) page None p (inr k) ∙ (h ∙ (else_out half (half + more) page None o (inr l)
        ∙ sym (else_out first (first + (pages + more)) page None o (inr (omega (arith, l, is))))))

-- ---- run by run, from the end of a range

pub record AreUnmappedTo (old new : Tables) (first top at count : ℕ) : Type 0 where
  pub from : first ≤ at
  pub to : at ≤ top
  pub few : count + at ≤ top
  pub gone : IsUnmapped old new at (top - at) count
  -- nothing has left, or the run before has
  pub next : ((at ≡ top) × (new ≡ old)) ⊎ (rights_in new.runs at ≡ None)

pub unmapped_init : (t : Tables) (first top : ℕ) → first ≤ top → AreUnmappedTo t t first top top 0
unmapped_init t first top order = record {
  from = order;
  to = omega arith;
  few = omega arith;
  gone = unmapped_none t top (top - top) (λ n. none_of_none t top (top - top) n (omega arith)) (λ page h k. absurd (omega (arith, h, k)));
  next = inl (refl, refl);
}

pub unmapped_step : (old one new : Tables) (first top at count from more : ℕ) → IsTree old.words old.root old.free →
    IsCanonicalRange first (top - first) → AreUnmappedTo old one first top at count →
    IsUnmapped one new from (at - from) more → first ≤ from → from < at → from + more ≤ at →
    AreUnmappedTo old new first top from (count + more)
unmapped_step old one new first top at count from more tree range u v low less few =
    let to = u.to in
    let most = u.few in
    let sum : at - from + (top - at) ≡ top - from = omega (arith, less, to) in
    let part = part_of_range first (top - first) from (at - from + (top - at)) range low (omega (arith, less, to, low)) (omega (arith, less)) in
    record {
      from = low;
      to = omega (arith, less, to);
      few = omega (arith, most, few);
      gone = subst (λ (n : ℕ). IsUnmapped old new from n (count + more)) sum
          (unmapped_on old one new from at (at - from) (top - at) count more tree part (omega (arith, less)) u.gone v);
      next = inr (v.map.rights from ∙ then_in from (from + (at - from)) from None (rights_in one.runs from) (omega arith) (omega (arith, less)));
    }

-- if the page after it is mapped, nothing has left
pub untouched : (old new : Tables) (first top at count : ℕ) → AreUnmappedTo old new first top at count → IsSome (rights_in new.runs at) → new ≡ old
untouched old new first top at count u some = go u.next where
  go : ((at ≡ top) × (new ≡ old)) ⊎ (rights_in new.runs at ≡ None) → new ≡ old
  go (inl h) = h.1
  go (inr h) = absurd (not_there (rights_in new.runs at) h some)
