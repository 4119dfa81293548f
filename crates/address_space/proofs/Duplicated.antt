-- Pages that got the rights and the bytes of others, and a space after it.
use Rattle.std.proofs.Common.{◌≡◌, ◌∙◌, ap, sym, refl, ℕ, ◌+◌, ◌-◌, ◌*◌, ◌/◌, ◌%◌, ◌^◌, ◌<◌, ◌≤◌, ◌==◌, ◌||◌, ◌&&◌, not, Bool, true, false, cond, Option, Some, None, option_map, List, length, subst, arith, ◌⊎◌, inl, inr}
use Rattle.std.proofs.lemmas.Bool.{cases_lt}
use Rattle.std.proofs.lemmas.Bool.Decides.{nat_tests}
use Rattle.std.specs.Prelude.{nat_lt, IsTrue, IsSome, IfSome, is_some}
use Rattle.paging_core.specs.Address.{IsCanonicalRange, is_canonical}
use Rattle.paging_core.specs.Memory.{frame_count, IsFrameCopied}
use Rattle.paging_core.specs.Mapping.{IsRangeAdded}
use Rattle.paging_core.specs.PageChanges.{ArePagesChanged, regrant, among, only}
use Rattle.paging_core.specs.Pool.{FreeBelow}
use Rattle.paging_core.specs.Prefix.{prefix_of}
use Rattle.paging_core.specs.Tree.{IsTree}
use Rattle.paging_core.specs.Walk.{Place, reach, large_of, walk_of, reached, place_with}
use Rattle.paging_core.specs.PageBits.{bits_of, bits_at}
use Rattle.paging_core.specs.declared.page_table.PageBits.{PageBits}
use Rattle.paging_core.specs.declared.page_table.Rights.{Rights}
use Rattle.meminterval.specs.declared.interval.Interval.{Interval}
use Rattle.address_space.specs.Runs.{rights_in, is_among}
use Rattle.address_space.specs.RunChanges.{AreRightsCopied}
use Rattle.address_space.specs.PageMap.{IsMap, duplicated}
use Rattle.address_space.specs.PageCopies.{ArePagesCopied}
use Rattle.address_space.specs.Changing.{IsDuplicated, AreWordsCopied}
use Rattle.address_space.specs.Space.{Tables, AreTablesKept, page_map_of}
use Rattle.address_space.proofs.Mapped.{canonical_in, is_some_of}
use Rattle.address_space.proofs.Cutting.{side_of, then_in, else_out}
use Rattle.address_space.proofs.Unmapped.{among_parts, not_among}
use Rattle.address_space.proofs.Protected.{granted_bits, mapped_walks, byte_out}
use Rattle.address_space.proofs.Written.{walk_same}
use Rattle.address_space.proofs.CopiedWords.{one_words, one_entries, one_others, more_words, more_entries, more_others}

-- ---- one page

only_among : (page n : ℕ) → among page 1 n ≡ false → only page n ≡ false
only_among page n h = go (n == prefix_of page 4) refl where
  go : (t : Bool) → (n == prefix_of page 4) ≡ t → t ≡ false
  go false t = refl
  go true t =
      let a : nat_lt n (prefix_of page 4) ≡ false = grind (arith, nat_tests, t) in
      let b : nat_lt n (prefix_of page 4 + 1) ≡ true = grind (arith, nat_tests, t) in
      let no : true ≡ false = rw b at (rw a at h) in absurd (cc)

reached_same : (words : List ℕ) (root a b : ℕ) → a ≡ b → reached words root a ≡ reached words root b
reached_same words root a b h = ap (reached words root) h

-- the words were copied, and then the rights were given
pub record IsOneCopied (old one new : List ℕ) (root source target : ℕ) (place : Place) : Type 0 where
  pub there : walk_of one root source ≡ Some place
  pub mapped : IsSome (walk_of one root target)
  pub size : length one ≡ length old
  pub walks : (level number : ℕ) → level ≤ 4 → reach one root level number ≡ reach old root level number
  pub larges : (slot : ℕ) → large_of one root slot ≡ large_of old root slot
  pub tree : (free : List Bool) → IsTree old root free → IsTree one root free
  pub tree_on : (free : List Bool) → IsTree one root free → IsTree new root free
  pub copied : (k : ℕ) → k < 4096 → reached one root (4096 * target + k) ≡ reached old root (4096 * source + k)
  pub others : (address : ℕ) → IsTrue (is_canonical address) → (address / 4096 ≡ target → ⊥) → reached one root address ≡ reached old root address
  pub changed : ArePagesChanged one new root (regrant (bits_at place)) (only target)
  pub gave : IfSome (walk_of one root target) (λ met. walk_of new root target ≡ Some (place_with met.frame (bits_at place)))
  pub elsewhere : (other : ℕ) → IsTrue (is_canonical (other * 4096)) → (other ≡ target → ⊥) → walk_of new root other ≡ walk_of one root other
  pub bytes : (address : ℕ) → reached new root address ≡ reached one root address
  pub free : List Bool
  pub was : IsTree old root free
  pub at_source : walk_of old root source ≡ Some place
  pub to : Place
  pub at_target : walk_of old root target ≡ Some to
  pub frames : IfSome (walk_of old root source) (λ s. IfSome (walk_of old root target) (λ t. IsFrameCopied old one s.frame t.frame))

pub one_copied : (old one new : List ℕ) (root source target : ℕ) (place : Place) →
    IsOneCopied old one new root source target place → ArePagesCopied old new root source 1 target
one_copied old one new root source target place c = record {
  size = c.changed.size ∙ c.size;
  tree = λ free t. c.tree_on free (c.tree free t);
  tables = λ level number less. c.changed.stayed level number (omega (arith, less))
      (λ four. absurd (omega (arith, less, four))) ∙ c.walks level number (omega (arith, less));
  larges = λ slot. c.changed.larges slot ∙ c.larges slot;
  outside = λ number out. c.changed.stayed 4 number (omega arith) (λ four. only_among target number out) ∙ c.walks 4 number (omega arith);
  frames = λ number met at. by_only number met (c.walks 4 number (omega arith) ∙ at) (only target number) refl;
  elsewhere = λ other canonical out. c.elsewhere other canonical (λ is. out 0 (omega arith) (omega (arith, is))) ∙ walk_same old one root other c.walks;
  rights = λ k less. first_rights k (omega (arith, less));
  copied = λ k offset less small. first_byte k offset (omega (arith, less)) small;
  bytes = λ address canonical out. c.bytes address ∙ c.others address canonical (λ is. out 0 (omega arith) (omega (arith, is)));
  words = one_words old one new root source target (bits_at place) c.free (c.tree c.free c.was) c.walks c.frames
      place c.at_source c.to c.at_target c.changed;
  entries = one_entries old one new root source target (bits_at place) c.free (c.tree c.free c.was) c.walks c.frames
      place c.at_source c.to c.at_target c.changed;
  others = one_others old one new root source target (bits_at place) c.free (c.tree c.free c.was) c.walks c.frames
      place c.at_source c.to c.at_target c.changed;
} where
  by_only : (number : ℕ) (met : Place) → reach one root 4 number ≡ Some met → (t : Bool) → only target number ≡ t →
      (now : Place) × (reach new root 4 number ≡ Some now) × (now.frame ≡ met.frame)
  by_only number met at true is = (place_with met.frame (bits_at place), c.changed.changed number met is at, refl)
  by_only number met at false is = (met, c.changed.stayed 4 number (omega arith) (λ four. is) ∙ at, refl)

  first_rights : (k : ℕ) → k ≡ 0 → option_map bits_at (walk_of new root (target + k)) ≡ option_map bits_at (walk_of old root (source + k))
  first_rights k zero =
      let t : target + k ≡ target = omega (arith, zero) in
      let s : source + k ≡ source = omega (arith, zero) in
      let given = granted_bits (walk_of one root target) (walk_of new root target) (bits_at place) c.mapped c.gave in
      let from : option_map bits_at (walk_of old root source) ≡ Some (bits_at place) =
      ap (option_map bits_at) (sym (walk_same old one root source c.walks) ∙ c.there) in
      ap (λ (p : ℕ). option_map bits_at (walk_of new root p)) t
      ∙ (given ∙ (sym from ∙ ap (λ (p : ℕ). option_map bits_at (walk_of old root p)) (sym s)))

  first_byte : (k offset : ℕ) → k ≡ 0 → offset < 4096 → reached new root (4096 * (target + k) + offset) ≡ reached old root (4096 * (source + k) + offset)
  first_byte k offset zero small =
      reached_same new root (4096 * (target + k) + offset) (4096 * target + offset) (omega (arith, zero))
      ∙ (c.bytes (4096 * target + offset) ∙ (c.copied offset small ∙ reached_same old root (4096 * source + offset)
      (4096 * (source + k) + offset) (omega (arith, zero))))

-- ---- page after page

pub none_copied : (words : List ℕ) (root from to : ℕ) → ArePagesCopied words words root from 0 to
none_copied words root from to = record {
  size = refl;
  tree = λ free t. t;
  tables = λ level number less. refl;
  larges = λ slot. refl;
  outside = λ number out. refl;
  frames = λ number place at. (place, at, refl);
  elsewhere = λ other canonical out. refl;
  rights = λ k less. absurd (omega (arith, less));
  copied = λ k offset less small. absurd (omega (arith, less));
  bytes = λ address canonical out. refl;
  words = λ k i source target less small at at'. absurd (omega (arith, less));
  entries = λ n i f place small g table at. absurd (no_page n i g);
  others = λ f i small away apart. refl;
} where
  no_page : (n i : ℕ) → among to 0 (512 * n + i) ≡ true → ⊥
  no_page n i g = (let none : among to 0 (512 * n + i) ≡ false = grind (arith, nat_tests) in absurd (cc))

pub more_copied : (old one new : List ℕ) (root from pages to source target : ℕ) (free : List Bool) → IsTree old root free →
    IsCanonicalRange to (pages + 1) → IsTrue (is_canonical ((from + pages) * 4096)) →
    ((k : ℕ) → k < pages → from + pages ≡ to + k → ⊥) →
    source ≡ from + pages → target ≡ to + pages → ArePagesCopied old one root from pages to →
    ArePagesCopied one new root source 1 target → ArePagesCopied old new root from (pages + 1) to
more_copied old one new root from pages to source target free was range canonical_source apart s t c d = record {
  size = d.size ∙ c.size;
  tree = λ free tr. d.tree free (c.tree free tr);
  tables = λ level number less. d.tables level number less ∙ c.tables level number less;
  larges = λ slot. d.larges slot ∙ c.larges slot;
  outside = λ number out. (let parts = among_parts to target pages 1 number range t out in d.outside number parts.1 ∙ c.outside number parts.0);
  frames = λ number place at. later number place (c.frames number place at);
  elsewhere = λ other canonical out. d.elsewhere other canonical (λ k less is.
      out pages (omega arith) (omega (arith, less, is, t))) ∙ c.elsewhere other canonical
      (λ k less is. out k (omega (arith, less)) is);
  rights = λ k less. by_rights k (cases_lt k pages) less;
  copied = λ k offset less small. by_byte k offset (cases_lt k pages) less small;
  bytes = λ address canonical out. d.bytes address canonical (λ k less is.
      out pages (omega arith) (omega (arith, less, is, t))) ∙ c.bytes address canonical
      (λ k less is. out k (omega (arith, less)) is);
  words = more_words old one new root from pages to source target free was range canonical_source apart s t c d;
  entries = more_entries old one new root from pages to source target free was range canonical_source apart s t c d;
  others = more_others old one new root from pages to source target free was range canonical_source apart s t c d;
} where
  later : (number : ℕ) (place : Place) → (now : Place) × (reach one root 4 number ≡ Some now) × (now.frame ≡ place.frame) →
      (now : Place) × (reach new root 4 number ≡ Some now) × (now.frame ≡ place.frame)
  later number place met = (let next = d.frames number met.0 met.1 in (next.0, next.1, next.2 ∙ met.2))

  by_rights : (k : ℕ) → (k < pages) ⊎ (pages ≤ k) → k < pages + 1 → option_map bits_at
      (walk_of new root (to + k)) ≡ option_map bits_at (walk_of old root (from + k))
  by_rights k (inl h) less =
      ap (option_map bits_at) (d.elsewhere (to + k) (canonical_in to (pages + 1) (to + k) range (omega arith)
      (omega (arith, less))) (λ j few is. omega (arith, few, is, t, h))) ∙ c.rights k h
  by_rights k (inr h) less =
      let last : to + k ≡ target + 0 = omega (arith, h, less, t) in
      let first : source + 0 ≡ from + pages = omega (arith, s) in
      let here : from + pages ≡ from + k = omega (arith, h, less) in
      ap (λ (p : ℕ). option_map bits_at (walk_of new root p)) last
      ∙ (d.rights 0 (omega arith)
      ∙ (ap (λ (p : ℕ). option_map bits_at (walk_of one root p)) first
      ∙ (ap (option_map bits_at) (c.elsewhere (from + pages) canonical_source (λ j few is. apart j few is))
      ∙ ap (λ (p : ℕ). option_map bits_at (walk_of old root p)) here)))

  half : (page offset : ℕ) → offset < 4096 → IsTrue (is_canonical (page * 4096)) → IsTrue (is_canonical (4096 * page + offset))
  half page offset small h =
      let same : (4096 * page + offset) / 2 ^ 47 ≡ page * 4096 / 2 ^ 47 = omega (arith, small) in
      ap (λ (n : ℕ). n == 0 || n == 2 ^ 17 - 1) same ∙ h

  page_of : (page offset : ℕ) → offset < 4096 → (4096 * page + offset) / 4096 ≡ page
  page_of page offset small = omega (arith, small)

  by_byte : (k offset : ℕ) → (k < pages) ⊎ (pages ≤ k) → k < pages + 1 → offset < 4096 →
      reached new root (4096 * (to + k) + offset) ≡ reached old root (4096 * (from + k) + offset)
  by_byte k offset (inl h) less small =
      d.bytes (4096 * (to + k) + offset) (half (to + k) offset small (canonical_in to (pages + 1) (to + k) range (omega arith) (omega (arith, less))))
      (λ j few is. (let p = page_of (to + k) offset small in omega (arith, few, is, p, t, h)))
      ∙ c.copied k offset h small
  by_byte k offset (inr h) less small =
      reached_same new root (4096 * (to + k) + offset) (4096 * (target + 0) + offset) (omega (arith, h, less, t))
      ∙ (d.copied 0 offset (omega arith) small
      ∙ (reached_same one root (4096 * (source + 0) + offset) (4096 * (from + pages) + offset) (omega (arith, s))
      ∙ (c.bytes (4096 * (from + pages) + offset) (half (from + pages) offset small canonical_source)
      (λ j few is. apart j few (let p = page_of (from + pages) offset small in sym p ∙ is))
      ∙ reached_same old root (4096 * (from + pages) + offset) (4096 * (from + k) + offset) (omega (arith, h, less)))))

-- ---- the space after it

pub record AreDuplicated (old : Tables) (one words : List ℕ) (free : List Bool) (runs : List (Interval ℕ × Rights))
    (from pages to : ℕ) (rights : PageBits) : Type 0 where
  pub kept : AreTablesKept old
  pub source : IsCanonicalRange from pages
  pub target : IsCanonicalRange to pages
  pub full : (page : ℕ) → from ≤ page → page < from + pages → IsSome (rights_in old.runs page)
  pub clear : (page : ℕ) → to ≤ page → page < to + pages → rights_in old.runs page ≡ None
  pub added : IsRangeAdded old.words one old.free free old.root to pages rights
  pub known : FreeBelow free (frame_count one)
  pub elsewhere : (other : ℕ) → IsTrue (is_canonical (other * 4096)) → ((k : ℕ) → k < pages → other ≡ to + k → ⊥) →
      walk_of one old.root other ≡ walk_of old.words old.root other
  pub bytes : (address : ℕ) → IsSome (walk_of old.words old.root (address / 4096)) → reached one old.root address ≡ reached old.words old.root address
  pub copied : ArePagesCopied one words old.root from pages to
  pub runs_copied : AreRightsCopied old.runs runs from pages to

gone : (o : Option Rights) → o ≡ None → IsSome o → ⊥
gone None h some = absurd (cc)
gone (Some a) h some = let no : Some a ≡ None = h in absurd (cc)

-- no page is both of the source and of the target
pub ranges_apart : (runs : List (Interval ℕ × Rights)) (from pages to j k : ℕ) →
    ((page : ℕ) → from ≤ page → page < from + pages → IsSome (rights_in runs page)) →
    ((page : ℕ) → to ≤ page → page < to + pages → rights_in runs page ≡ None) →
    j < pages → k < pages → from + j ≡ to + k → ⊥
ranges_apart runs from pages to j k full clear h l is =
    gone (rights_in runs (to + k)) (clear (to + k) (omega arith) (omega (arith, l)))
    (subst (λ (p : ℕ). IsSome (rights_in runs p)) is (full (from + j) (omega arith) (omega (arith, h))))

pub duplicated_kept : (old : Tables) (one words : List ℕ) (free : List Bool) (runs : List (Interval ℕ × Rights))
    (from pages to : ℕ) (rights : PageBits) → AreDuplicated old one words free runs from pages to rights →
    AreTablesKept (record { words = words; root = old.root; free = free; runs = runs })
duplicated_kept old one words free runs from pages to rights m =
    let count : frame_count words ≡ frame_count old.words = ap (λ n. n / 512) (m.copied.size ∙ m.added.size) in
    let count_one : frame_count words ≡ frame_count one = ap (λ n. n / 512) m.copied.size in
    record {
      tree = m.copied.tree free m.added.tree;
      known = subst (λ (n : ℕ). FreeBelow free n) (sym count_one) m.known;
      flags = m.added.flags ∙ (m.kept.flags ∙ sym count);
      root_in = (let r = m.kept.root_in in omega (arith, count, r));
      few_frames = (let r = m.kept.few_frames in omega (arith, count, r));
      canonical = λ page some. is_there page (side_of to (to + pages) page) some;
      found = λ page canonical. finds page canonical (side_of to (to + pages) page);
      accounted = λ frame less unmet. m.added.kept frame (m.kept.accounted frame (omega (arith, count, less)) (unmet_old frame unmet)) (unmet_one frame unmet);
      no_large = λ slot. m.copied.larges slot ∙ (m.added.larges slot ∙ m.kept.no_large slot);
      follow = m.runs_copied.follow;
      longest = m.runs_copied.longest;
    } where
      is_there : (page : ℕ) → ((to ≤ page) × (page < to + pages)) ⊎ ((page < to) ⊎ (to + pages ≤ page)) →
          IsSome (rights_in runs page) → IsTrue (is_canonical (page * 4096))
      is_there page (inl k) some = canonical_in to pages page m.target k.0 k.1
      is_there page (inr k) some = m.kept.canonical page (subst IsSome (m.runs_copied.pages_are page
          ∙ else_out to (to + pages) page (rights_in old.runs (page - to + from)) (rights_in old.runs page) k) some)

      finds : (page : ℕ) → IsTrue (is_canonical (page * 4096)) →
          ((to ≤ page) × (page < to + pages)) ⊎ ((page < to) ⊎ (to + pages ≤ page)) →
          option_map bits_at (walk_of words old.root page) ≡ option_map bits_of (rights_in runs page)
      finds page canonical (inl k) =
          let at : to + (page - to) ≡ page = omega (arith, k.0) in
          let few : page - to < pages = omega (arith, k.0, k.1) in
          let source : from + (page - to) ≡ page - to + from = omega arith in
          let there = canonical_in from pages (from + (page - to)) m.source (omega arith) (omega (arith, few)) in
          ap (λ (p : ℕ). option_map bits_at (walk_of words old.root p)) (sym at)
          ∙ (m.copied.rights (page - to) few
          ∙ (ap (option_map bits_at) (m.elsewhere (from + (page - to)) there
          (λ j less is. ranges_apart old.runs from pages to (page - to) j m.full m.clear few less is))
          ∙ (m.kept.found (from + (page - to)) there
          ∙ ap (option_map bits_of) (ap (rights_in old.runs) source ∙ sym (m.runs_copied.pages_are page
          ∙ then_in to (to + pages) page (rights_in old.runs (page - to + from)) (rights_in old.runs page) k.0 k.1)))))
      finds page canonical (inr k) =
          ap (option_map bits_at) (m.copied.elsewhere page canonical
          (λ j less is. not_among to pages page j k less is) ∙ m.elsewhere page canonical
          (λ j less is. not_among to pages page j k less is))
          ∙ (m.kept.found page canonical ∙ sym (ap (option_map bits_of) (m.runs_copied.pages_are page
          ∙ else_out to (to + pages) page (rights_in old.runs (page - to + from)) (rights_in old.runs page) k)))

      unmet_one : (frame : ℕ) → ((level number : ℕ) (met : Place) → level ≤ 4 → reach words old.root level number ≡ Some met → met.frame ≡ frame → ⊥) →
          (level number : ℕ) (met : Place) → level ≤ 4 → reach one old.root level number ≡ Some met → met.frame ≡ frame → ⊥
      unmet_one frame unmet level number met le at same = go (cases_lt level 4) where
        go : (level < 4) ⊎ (4 ≤ level) → ⊥
        go (inl h) = unmet level number met le (m.copied.tables level number h ∙ at) same
        go (inr h) =
            let four : level ≡ 4 = omega (arith, h, le) in
            let now = m.copied.frames number met (subst (λ (l : ℕ). reach one old.root l number ≡ Some met) four at) in
            unmet 4 number now.0 (omega arith) now.1 (now.2 ∙ same)

      unmet_old : (frame : ℕ) → ((level number : ℕ) (met : Place) → level ≤ 4 → reach words old.root level number ≡ Some met → met.frame ≡ frame → ⊥) →
          (level number : ℕ) (met : Place) → level ≤ 4 → reach old.words old.root level number ≡ Some met → met.frame ≡ frame → ⊥
      unmet_old frame unmet level number met le at same = unmet_one frame unmet level number met le (m.added.stayed level number met le at) same

pub duplicated_map : (old : Tables) (one words : List ℕ) (free : List Bool) (runs : List (Interval ℕ × Rights))
    (from pages to : ℕ) (rights : PageBits) → AreDuplicated old one words free runs from pages to rights →
    IsMap (page_map_of (record { words = words; root = old.root; free = free; runs = runs })) (duplicated from pages to (page_map_of old))
duplicated_map old one words free runs from pages to rights m = record {
  rights = m.runs_copied.pages_are;
  bytes = λ address. by_side address (side_of to (to + pages) (address / 4096));
} where
  canonical_of : (address : ℕ) → IsTrue (is_canonical (address / 4096 * 4096)) → IsTrue (is_canonical address)
  canonical_of address h =
      let same : address / 2 ^ 47 ≡ address / 4096 * 4096 / 2 ^ 47 = omega arith in
      ap (λ (n : ℕ). n == 0 || n == 2 ^ 17 - 1) same ∙ h

  -- a byte of the target is that of the source
  moved : (address : ℕ) → to ≤ address / 4096 → address / 4096 < to + pages →
      reached words old.root address ≡ reached old.words old.root (address - 4096 * to + 4096 * from)
  moved address h k =
      let few : address / 4096 - to < pages = omega (arith, h, k) in
      let source : (address - 4096 * to + 4096 * from) / 4096 ≡ from + (address / 4096 - to) = omega (arith, h) in
      let there : IsSome (walk_of old.words old.root (from + (address / 4096 - to))) =
      mapped_walks old (from + (address / 4096 - to)) m.kept (m.full (from + (address / 4096 - to)) (omega arith)
      (omega (arith, few))) in
      reached_same words old.root address (4096 * (to + (address / 4096 - to)) + address % 4096) (omega (arith, h))
      ∙ (m.copied.copied (address / 4096 - to) (address % 4096) few (omega arith)
      ∙ (reached_same one old.root (4096 * (from + (address / 4096 - to)) + address % 4096) (address - 4096 * to + 4096 * from) (omega (arith, h))
      ∙ m.bytes (address - 4096 * to + 4096 * from) (subst (λ (p : ℕ). IsSome (walk_of old.words old.root p)) (sym source) there)))

  kept_byte : (address : ℕ) → (address / 4096 < to) ⊎ (to + pages ≤ address / 4096) → (o : Option Rights) → rights_in old.runs (address / 4096) ≡ o →
      cond (is_some o) (reached words old.root address) None ≡ cond (is_some o) (reached old.words old.root address) None
  kept_byte address k None is = refl
  kept_byte address k (Some r) is =
      let some : IsSome (rights_in old.runs (address / 4096)) = rw is refl in
      m.copied.bytes address (canonical_of address (m.kept.canonical (address / 4096) some)) (λ j less at. not_among to pages (address / 4096) j k less at)
      ∙ m.bytes address (mapped_walks old (address / 4096) m.kept some)

  by_side : (address : ℕ) → ((to ≤ address / 4096) × (address / 4096 < to + pages)) ⊎ ((address / 4096 < to) ⊎ (to + pages ≤ address / 4096)) →
      cond (is_some (rights_in runs (address / 4096))) (reached words old.root address) None
      ≡ cond (is_among to pages (address / 4096)) (cond (is_some (rights_in old.runs
      ((address - 4096 * to + 4096 * from) / 4096))) (reached old.words old.root (address - 4096 * to + 4096 * from))
      None)
      (cond (is_some (rights_in old.runs (address / 4096))) (reached old.words old.root address) None)
  by_side address (inl k) =
      let page : (address - 4096 * to + 4096 * from) / 4096 ≡ address / 4096 - to + from = omega (arith, k.0) in
      byte_out (rights_in runs (address / 4096)) (rights_in old.runs ((address - 4096 * to + 4096 * from) / 4096))
      (reached words old.root address) (reached old.words old.root (address - 4096 * to + 4096 * from))
      (m.runs_copied.pages_are (address / 4096) ∙ (then_in to (to + pages) (address / 4096)
      (rights_in old.runs (address / 4096 - to + from)) (rights_in old.runs (address / 4096)) k.0 k.1
      ∙ ap (rights_in old.runs) (sym page)))
      (moved address k.0 k.1)
      ∙ sym (then_in to (to + pages) (address / 4096) (cond (is_some (rights_in old.runs
      ((address - 4096 * to + 4096 * from) / 4096))) (reached old.words old.root (address - 4096 * to + 4096 * from))
      None)
      (cond (is_some (rights_in old.runs (address / 4096))) (reached old.words old.root address) None) k.0 k.1)
  by_side address (inr k) =
      ap (λ (o : Option Rights). cond (is_some o) (reached words old.root address) None)
      (m.runs_copied.pages_are (address / 4096) ∙ else_out to (to + pages) (address / 4096)
      (rights_in old.runs (address / 4096 - to + from)) (rights_in old.runs (address / 4096)) k)
      ∙ (kept_byte address k (rights_in old.runs (address / 4096)) refl
      ∙ sym (else_out to (to + pages) (address / 4096) (cond (is_some (rights_in old.runs
      ((address - 4096 * to + 4096 * from) / 4096))) (reached old.words old.root (address - 4096 * to + 4096 * from))
      None)
      (cond (is_some (rights_in old.runs (address / 4096))) (reached old.words old.root address) None) k))

walk_is : (words : List ℕ) (root page : ℕ) → walk_of words root page ≡ reach words root 4 (prefix_of page 4)
unfolding walk_of
walk_is words root page = ap (reach words root 4) (omega arith)

below_of : (n limit : ℕ) → nat_lt n limit ≡ true → n < limit
below_of n limit h = grind (arith, nat_tests, h)

from_of : (n limit : ℕ) → nat_lt n limit ≡ false → limit ≤ n
from_of n limit h = grind (arith, nat_tests, h)

-- a prefix of no page of a range is outside of it
not_in_range : (to pages n : ℕ) → (to + pages - 1) / 2 ^ 35 ≡ to / 2 ^ 35 → ((k : ℕ) → k < pages → n ≡ prefix_of (to + k) 4 → ⊥) → among to pages n ≡ false
not_in_range to pages n one away = go (nat_lt n (prefix_of to 4)) (nat_lt n (prefix_of to 4 + pages)) refl refl where
  at : prefix_of to 4 ≤ n → n < prefix_of to 4 + pages → n ≡ prefix_of (to + (n - prefix_of to 4)) 4
  at low high = omega (arith, one, low, high)

  go : (a b : Bool) → nat_lt n (prefix_of to 4) ≡ a → nat_lt n (prefix_of to 4 + pages) ≡ b → (not a && b) ≡ false
  go true b h1 h2 = refl
  go false false h1 h2 = refl
  go false true h1 h2 =
      let low = from_of n (prefix_of to 4) h1 in
      let high = below_of n (prefix_of to 4 + pages) h2 in
      absurd (away (n - prefix_of to 4) (omega (arith, low, high)) (at low high))

-- the page that has its prefix in a range
pub page_of_number : (to pages n : ℕ) → (to + pages - 1) / 2 ^ 35 ≡ to / 2 ^ 35 → among to pages n ≡ true → (k : ℕ) × (k < pages) × (n ≡ prefix_of (to + k) 4)
page_of_number to pages n one h =
    let low : prefix_of to 4 ≤ n = grind (arith, nat_tests, h) in
    let high : n < prefix_of to 4 + pages = grind (arith, nat_tests, h) in
    (n - prefix_of to 4, omega (arith, low, high), omega (arith, one, low, high))

pub duplicated_is : (old new : Tables) (one : List ℕ) (from pages to : ℕ) (rights : PageBits) →
    AreDuplicated old one new.words new.free new.runs from pages to rights → new.root ≡ old.root →
    IsMap (page_map_of new) (duplicated from pages to (page_map_of old)) → AreWordsCopied old new from pages to → IsDuplicated old new from pages to
duplicated_is old new one from pages to rights m root map words = record {
  map = map;
  count = m.added.count;
  root = root;
  size = m.copied.size ∙ m.added.size;
  others = λ l n le out. by_level l n le out (cases_lt l 4);
  stayed = λ l n place le at. by_met l n place le at (cases_lt l 4);
  words = words;
} where
  not_in : (n : ℕ) → ((k : ℕ) → k < pages → n ≡ prefix_of (to + k) 4 → ⊥) → among to pages n ≡ false
  not_in n away = not_in_range to pages n m.target.one_half away

  -- a page that is mapped is none of the target
  not_mapped : (n : ℕ) (place : Place) → reach old.words old.root 4 n ≡ Some place → among to pages n ≡ false
  not_mapped n place at = not_in n (λ k less is. missed k less (walk_is old.words old.root (to + k) ∙ (ap (reach old.words old.root 4) (sym is) ∙ at))) where
    missed : (k : ℕ) → k < pages → walk_of old.words old.root (to + k) ≡ Some place → ⊥
    missed k less found =
        let there = canonical_in to pages (to + k) m.target (omega arith) (omega (arith, less)) in
        let no : Some (bits_at place) ≡ None = ap (option_map bits_at) (sym found)
        ∙ (m.kept.found (to + k) there ∙ ap (option_map bits_of) (m.clear (to + k) (omega arith) (omega (arith, less)))) in absurd (cc)

  by_level : (l n : ℕ) → l ≤ 4 → ((k : ℕ) → k < pages → n ≡ prefix_of (to + k) l → ⊥) → (l < 4) ⊎ (4 ≤ l) →
      reach new.words old.root l n ≡ reach old.words old.root l n
  by_level l n le out (inl h) = m.copied.tables l n h ∙ m.added.others l n le out
  by_level l n le out (inr h) =
      let four : 4 ≡ l = omega (arith, h, le) in
      subst (λ (i : ℕ). reach new.words old.root i n ≡ reach old.words old.root i n) four
      (m.copied.outside n (not_in n (λ k less is. out k less (is ∙ ap (prefix_of (to + k)) four)))
      ∙ m.added.others 4 n (omega arith) (λ k less is. out k less (is ∙ ap (prefix_of (to + k)) four)))

  by_met : (l n : ℕ) (place : Place) → l ≤ 4 → reach old.words old.root l n ≡ Some place → (l < 4) ⊎ (4 ≤ l) → reach new.words old.root l n ≡ Some place
  by_met l n place le at (inl h) = m.copied.tables l n h ∙ m.added.stayed l n place le at
  by_met l n place le at (inr h) =
      let four : l ≡ 4 = omega (arith, h, le) in
      let was : reach old.words old.root 4 n ≡ Some place = subst (λ (i : ℕ). reach old.words old.root i n ≡ Some place) four at in
      subst (λ (i : ℕ). reach new.words old.root i n ≡ Some place) (sym four)
      (m.copied.outside n (not_mapped n place was) ∙ m.added.stayed 4 n place (omega arith) was)

-- ---- the pages before they are copied

pub source_mapped : (old : Tables) (one : List ℕ) (from pages to k : ℕ) → AreTablesKept old → IsCanonicalRange from pages →
    ((page : ℕ) → from ≤ page → page < from + pages → IsSome (rights_in old.runs page)) →
    ((page : ℕ) → to ≤ page → page < to + pages → rights_in old.runs page ≡ None) →
    ((other : ℕ) → IsTrue (is_canonical (other * 4096)) → ((k : ℕ) → k < pages → other ≡ to + k → ⊥) →
    walk_of one old.root other ≡ walk_of old.words old.root other) →
    k < pages → IsSome (walk_of one old.root (from + k))
source_mapped old one from pages to k kept source full clear elsewhere less =
    subst IsSome (sym (elsewhere (from + k) (canonical_in from pages (from + k) source (omega arith) (omega (arith, less)))
    (λ j few is. ranges_apart old.runs from pages to k j full clear less few is)))
    (mapped_walks old (from + k) kept (full (from + k) (omega arith) (omega (arith, less))))

pub target_mapped : (old one : List ℕ) (free free' : List Bool) (root first pages k : ℕ) (rights : PageBits) →
    IsRangeAdded old one free free' root first pages rights → k < pages → IsSome (walk_of one root (first + k))
target_mapped old one free free' root first pages k rights added less = let new = added.mapped k less in
    is_some_of (walk_of one root (first + k)) (place_with new.frame rights) new.found
