-- A space after pages were mapped.
use Rattle.std.proofs.Common.{◌≡◌, ◌∙◌, ap, sym, refl, ℕ, ◌+◌, ◌-◌, ◌*◌, ◌/◌, ◌^◌, ◌<◌, ◌≤◌, ◌==◌, ◌||◌, Bool, true, false, cond, Option, Some, None, option_map, List, subst, arith, inl, inr}
use Rattle.std.proofs.lemmas.Bool.Decides.{nat_tests}
use Rattle.std.specs.Prelude.{IsTrue, IsSome, is_some}
use Rattle.paging_core.specs.Address.{IsCanonicalRange, is_canonical}
use Rattle.paging_core.specs.Memory.{frame_count}
use Rattle.paging_core.specs.Pool.{FreeBelow}
use Rattle.paging_core.specs.Prefix.{prefix_of}
use Rattle.paging_core.specs.Walk.{Place, reach, large_of, walk_of, reached}
use Rattle.paging_core.specs.PageBits.{bits_of, bits_at}
use Rattle.paging_core.proofs.Prefixes.{walk_reach}
use Rattle.paging_core.proofs.Reach.{either_way}
use Rattle.paging_core.specs.Mapping.{IsRangeAdded}
use Rattle.paging_core.specs.declared.page_table.Rights.{Rights}
use Rattle.meminterval.specs.declared.interval.Interval.{Interval}
use Rattle.address_space.specs.Runs.{rights_in, is_among}
use Rattle.address_space.specs.Joining.{IsRunAdded}
use Rattle.address_space.specs.PageMap.{IsMap, mapped, AreNoneMapped}
use Rattle.address_space.specs.Space.{Tables, AreTablesKept, page_map_of}

-- ---- ranges

half_of : (page : ℕ) → page * 4096 / 2 ^ 47 ≡ page / 2 ^ 35
half_of page = omega arith

pub canonical_in : (first pages page : ℕ) → IsCanonicalRange first pages → first ≤ page → page < first + pages → IsTrue (is_canonical (page * 4096))
canonical_in first pages page range h k =
    let one = range.one_half in
    let same : page / 2 ^ 35 ≡ first / 2 ^ 35 = omega (arith, one, h, k) in
    let halves : page * 4096 / 2 ^ 47 ≡ first * 4096 / 2 ^ 47 = half_of page ∙ (same ∙ sym (half_of first)) in
    ap (λ (n : ℕ). n == 0 || n == 2 ^ 17 - 1) halves ∙ range.canonical

no_place : (o : Option Place) → option_map bits_at o ≡ None → o ≡ None
no_place None h = refl
no_place (Some place) h = absurd (cc)

-- the walk finds no page of a range of which none is mapped
pub clear_walks :
    (t : Tables) (first pages : ℕ) → AreTablesKept t → IsCanonicalRange first pages → AreNoneMapped (page_map_of t) first pages →
    (k : ℕ) → k < pages → walk_of t.words t.root (first + k) ≡ None
clear_walks t first pages kept range clear k less = no_place (walk_of t.words t.root (first + k))
    (kept.found (first + k) (canonical_in first pages (first + k) range (omega arith) (omega (arith, less)))
    ∙ ap (option_map bits_of) (clear (first + k) (omega arith) (omega (arith, less))))

pub among_from : (first pages page : ℕ) → is_among first pages page ≡ true → first ≤ page
among_from first pages page h = grind (arith, nat_tests, h)

pub among_to : (first pages page : ℕ) → is_among first pages page ≡ true → page < first + pages
among_to first pages page h = grind (arith, nat_tests, h)

pub among_not : (first pages page k : ℕ) → is_among first pages page ≡ false → k < pages → page ≡ first + k → ⊥
among_not first pages page k h less is = grind (arith, nat_tests, h, less, is)

-- ---- what the walk finds of a page that is mapped

some_of : {A B : Type 0} (f : A → B) (o : Option A) (b : B) → option_map f o ≡ Some b → IsSome o
some_of {A} {B} f None b h = absurd (cc)
some_of {A} {B} f (Some a) b h = refl

pub is_some_of : {A : Type 0} (o : Option A) (a : A) → o ≡ Some a → IsSome o
is_some_of {A} o a h = rw h refl

pub walks : (t : Tables) (page : ℕ) (rights : Rights) → AreTablesKept t → rights_in t.runs page ≡ Some rights → IsSome (walk_of t.words t.root page)
walks t page rights kept is = some_of bits_at (walk_of t.words t.root page) (bits_of rights)
    (kept.found page (kept.canonical page (is_some_of (rights_in t.runs page) rights is)) ∙ ap (option_map bits_of) is)

-- a page that is mapped has an entry in the table of its slot, if there are no large pages
pub by_table : (words : List ℕ) (root page : ℕ) → ((slot : ℕ) → large_of words root slot ≡ None) →
    IsSome (walk_of words root page) → IsSome (reach words root 3 (prefix_of page 3))
by_table words root page no_large some = go (walk_of words root page) refl some
  where
    go : (o : Option Place) → walk_of words root page ≡ o → IsSome o → IsSome (reach words root 3 (prefix_of page 3))
    go None is none = absurd (cc)
    go (Some place) is some = elim (either_way words root (prefix_of page 4) place (sym (walk_reach words root page) ∙ is)) [
      | inl e ↦ (let number : prefix_of page 4 / 512 ≡ prefix_of page 3 = omega arith in
          is_some_of (reach words root 3 (prefix_of page 3)) e.table (ap (reach words root 3) (sym number) ∙ e.met))
      | inr l ↦ absurd (let none = no_large (prefix_of page 4 / 512) in let no : None ≡ Some l.large = sym none ∙ l.met in cc)
    ]

-- ---- the space after it

pub record AreMapped (old : Tables) (words : List ℕ) (free : List Bool) (runs : List (Interval ℕ × Rights)) (first pages : ℕ) (rights : Rights) : Type 0 where
  pub kept : AreTablesKept old
  pub range : IsCanonicalRange first pages
  pub added : IsRangeAdded old.words words old.free free old.root first pages (bits_of rights)
  pub known : FreeBelow free (frame_count words)
  pub elsewhere : (other : ℕ) → IsTrue (is_canonical (other * 4096)) → ((k : ℕ) → k < pages → other ≡ first + k → ⊥) →
      walk_of words old.root other ≡ walk_of old.words old.root other
  pub zeros : (address k : ℕ) → k < pages → address / 4096 ≡ first + k → reached words old.root address ≡ Some 0
  pub bytes : (address : ℕ) → IsSome (walk_of old.words old.root (address / 4096)) → reached words old.root address ≡ reached old.words old.root address
  pub runs_added : IsRunAdded old.runs runs first (first + pages) rights

pub mapped_kept : (old : Tables) (words : List ℕ) (free : List Bool) (runs : List (Interval ℕ × Rights)) (first pages : ℕ)
    (rights : Rights) → AreMapped old words free runs first pages rights →
    AreTablesKept (record { words = words; root = old.root; free = free; runs = runs })
mapped_kept old words free runs first pages rights m =
    let count : frame_count words ≡ frame_count old.words = ap (λ n. n / 512) m.added.size in
    record {
      tree = m.added.tree;
      known = m.known;
      flags = m.added.flags ∙ (m.kept.flags ∙ sym count);
      root_in = (let r = m.kept.root_in in omega (arith, count, r));
      few_frames = (let r = m.kept.few_frames in omega (arith, count, r));
      canonical = λ page some. is_there page (is_among first pages page) refl (subst IsSome (m.runs_added.pages page) some);
      found = λ page canonical. finds page canonical (is_among first pages page) refl ∙ sym (ap (option_map bits_of) (m.runs_added.pages page));
      accounted = λ frame less unmet. m.added.kept frame (m.kept.accounted frame (omega (arith, count, less))
          (λ l n met le at is. unmet l n met le (m.added.stayed l n met le at) is)) unmet;
      no_large = λ slot. m.added.larges slot ∙ m.kept.no_large slot;
      follow = m.runs_added.follow;
      longest = m.runs_added.longest;
    } where
      is_there : (page : ℕ) (t : Bool) → is_among first pages page ≡ t →
          IsSome (cond (is_among first pages page) (Some rights) (rights_in old.runs page)) →
          IsTrue (is_canonical (page * 4096))
      is_there page true is some = canonical_in first pages page m.range (among_from first pages page is) (among_to first pages page is)
      is_there page false is some = m.kept.canonical page (rw is at some)

      finds : (page : ℕ) → IsTrue (is_canonical (page * 4096)) → (t : Bool) → is_among first pages page ≡ t →
          option_map bits_at (walk_of words old.root page) ≡ option_map bits_of (cond (is_among first pages page) (Some rights) (rights_in old.runs page))
      finds page canonical true is =
          let from = among_from first pages page is in
          let to = among_to first pages page is in
          let new = m.added.mapped (page - first) (omega (arith, from, to)) in
          let at : first + (page - first) ≡ page = omega (arith, from) in
          rw is (ap (option_map bits_at) (ap (walk_of words old.root) (sym at) ∙ new.found))
      finds page canonical false is =
          rw is (ap (option_map bits_at) (m.elsewhere page canonical
          (λ k less at. among_not first pages page k is less at)) ∙ m.kept.found page canonical)

pub mapped_map : (old : Tables) (words : List ℕ) (free : List Bool) (runs : List (Interval ℕ × Rights)) (first pages : ℕ)
    (rights : Rights) → AreMapped old words free runs first pages rights →
    IsMap (page_map_of (record { words = words; root = old.root; free = free; runs = runs })) (mapped first pages rights (page_map_of old))
mapped_map old words free runs first pages rights m = record {
  rights = m.runs_added.pages;
  bytes = λ address. byte address (is_among first pages (address / 4096)) refl;
} where
  there : (o : Option Rights) (r : Rights) (a b : Option ℕ) → o ≡ Some r → cond (is_some o) a b ≡ a
  there o r a b h = rw h refl

  old_byte : (address : ℕ) (o : Option Rights) → rights_in old.runs (address / 4096) ≡ o →
      cond (is_some o) (reached words old.root address) None ≡ cond (is_some o) (reached old.words old.root address) None
  old_byte address None is = refl
  old_byte address (Some r) is = m.bytes address (walks old (address / 4096) r m.kept is)

  byte : (address : ℕ) (t : Bool) → is_among first pages (address / 4096) ≡ t →
      cond (is_some (rights_in runs (address / 4096))) (reached words old.root address) None
      ≡ cond (is_among first pages (address / 4096)) (Some 0) (cond (is_some (rights_in old.runs (address / 4096))) (reached old.words old.root address) None)
  byte address true is =
      let page = address / 4096 in
      let from = among_from first pages (address / 4096) is in
      let to = among_to first pages (address / 4096) is in
      let some : rights_in runs (address / 4096) ≡ Some rights = m.runs_added.pages (address / 4096) ∙ rw is refl in
      there (rights_in runs (address / 4096)) rights (reached words old.root address) None some
      ∙ (m.zeros address (address / 4096 - first) (omega (arith, from, to)) (omega (arith, from)) ∙ rw is refl)
  byte address false is =
      let some : rights_in runs (address / 4096) ≡ rights_in old.runs (address / 4096) = m.runs_added.pages (address / 4096) ∙ rw is refl in
      ap (λ (o : Option Rights). cond (is_some o) (reached words old.root address) None) some
      ∙ (old_byte address (rights_in old.runs (address / 4096)) refl ∙ rw is refl)
