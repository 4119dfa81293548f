-- A space after pages got other rights.
use Rattle.std.proofs.Common.{◌≡◌, ◌∙◌, ap, sym, refl, ℕ, ◌+◌, ◌-◌, ◌*◌, ◌/◌, ◌<◌, ◌≤◌, ◌==◌, Bool, true, false, cond, Option, Some, None, option_map, List, subst, arith, ◌⊎◌, inl, inr}
use Rattle.std.proofs.lemmas.Bool.Decides.{nat_tests}
use Rattle.std.specs.Prelude.{IsTrue, IsSome, IfSome, is_some}
use Rattle.paging_core.specs.Address.{IsCanonicalRange, is_canonical}
use Rattle.paging_core.specs.Memory.{frame_count}
use Rattle.paging_core.specs.PageChanges.{ArePagesChanged, regrant, among}
use Rattle.paging_core.specs.Pool.{FreeBelow}
use Rattle.paging_core.specs.Tree.{IsTree}
use Rattle.paging_core.specs.Walk.{Place, reach, walk_of, reached, place_with}
use Rattle.paging_core.specs.PageBits.{bits_of, bits_at}
use Rattle.paging_core.specs.declared.page_table.PageBits.{PageBits}
use Rattle.paging_core.specs.declared.page_table.Rights.{Rights}
use Rattle.meminterval.specs.declared.interval.Interval.{Interval}
use Rattle.address_space.specs.Runs.{rights_in}
use Rattle.address_space.specs.Joining.{IsRunAdded}
use Rattle.address_space.specs.PageMap.{IsMap, protected}
use Rattle.address_space.specs.Space.{Tables, AreTablesKept, page_map_of}
use Rattle.address_space.proofs.Mapped.{canonical_in, walks, is_some_of}
use Rattle.address_space.proofs.Cutting.{side_of, then_in, else_out}
use Rattle.address_space.proofs.Unmapped.{not_among}

pub record AreProtected (old : Tables) (words : List ℕ) (runs : List (Interval ℕ × Rights)) (first pages : ℕ) (rights : Rights) : Type 0 where
  pub kept : AreTablesKept old
  pub range : IsCanonicalRange first pages
  pub full : (page : ℕ) → first ≤ page → page < first + pages → IsSome (rights_in old.runs page)
  pub changed : ArePagesChanged old.words words old.root (regrant (bits_of rights)) (among first pages)
  pub tree : IsTree words old.root old.free
  pub there : (k : ℕ) → k < pages → IfSome (walk_of old.words old.root (first + k))
      (λ place. walk_of words old.root (first + k) ≡ Some (place_with place.frame (bits_of rights)))
  pub elsewhere : (other : ℕ) → IsTrue (is_canonical (other * 4096)) → ((k : ℕ) → k < pages → other ≡ first + k → ⊥) →
      walk_of words old.root other ≡ walk_of old.words old.root other
  pub bytes : (address : ℕ) → reached words old.root address ≡ reached old.words old.root address
  pub added : IsRunAdded old.runs runs first (first + pages) rights

-- a page that was given these bits has them
pub granted_bits : (o w : Option Place) (bits : PageBits) → IsSome o → IfSome o
    (λ place. w ≡ Some (place_with place.frame bits)) → option_map bits_at w ≡ Some bits
granted_bits None w bits some is = absurd (cc)
granted_bits (Some place) w bits some is = ap (option_map bits_at) is

-- the rights of a page that is mapped
some_rights : (o : Option Rights) → IsSome o → (r : Rights) × (o ≡ Some r)
some_rights None h = absurd (cc)
some_rights (Some r) h = (r, refl)

pub mapped_walks : (t : Tables) (page : ℕ) → AreTablesKept t → IsSome (rights_in t.runs page) → IsSome (walk_of t.words t.root page)
mapped_walks t page kept some = let r = some_rights (rights_in t.runs page) some in walks t page r.0 kept r.1

pub protected_kept : (old : Tables) (words : List ℕ) (runs : List (Interval ℕ × Rights)) (first pages : ℕ)
    (rights : Rights) → AreProtected old words runs first pages rights →
    AreTablesKept (record { words = words; root = old.root; free = old.free; runs = runs })
protected_kept old words runs first pages rights m =
    let count : frame_count words ≡ frame_count old.words = ap (λ n. n / 512) m.changed.size in
    record {
      tree = m.tree;
      known = subst (λ (n : ℕ). FreeBelow old.free n) (sym count) m.kept.known;
      flags = m.kept.flags ∙ sym count;
      root_in = (let r = m.kept.root_in in omega (arith, count, r));
      few_frames = (let r = m.kept.few_frames in omega (arith, count, r));
      canonical = λ page some. is_there page (side_of first (first + pages) page) some;
      found = λ page canonical. finds page canonical (side_of first (first + pages) page);
      accounted = λ frame less unmet. m.kept.accounted frame (omega (arith, count, less)) (unmet_before frame unmet);
      no_large = λ slot. m.changed.larges slot ∙ m.kept.no_large slot;
      follow = m.added.follow;
      longest = m.added.longest;
    } where
      is_there : (page : ℕ) → ((first ≤ page) × (page < first + pages)) ⊎ ((page < first) ⊎ (first + pages ≤ page)) →
          IsSome (rights_in runs page) → IsTrue (is_canonical (page * 4096))
      is_there page (inl k) some = canonical_in first pages page m.range k.0 k.1
      is_there page (inr k) some = m.kept.canonical page (subst IsSome (m.added.pages page
          ∙ else_out first (first + pages) page (Some rights) (rights_in old.runs page) k) some)

      finds : (page : ℕ) → IsTrue (is_canonical (page * 4096)) →
          ((first ≤ page) × (page < first + pages)) ⊎ ((page < first) ⊎ (first + pages ≤ page)) →
          option_map bits_at (walk_of words old.root page) ≡ option_map bits_of (rights_in runs page)
      finds page canonical (inl k) =
          let at : first + (page - first) ≡ page = omega (arith, k.0) in
          let was : IsSome (walk_of old.words old.root (first + (page - first))) =
          mapped_walks old (first + (page - first)) m.kept (m.full (first + (page - first)) (omega arith)
          (omega (arith, k.0, k.1))) in
          ap (λ (p : ℕ). option_map bits_at (walk_of words old.root p)) (sym at)
          ∙ (granted_bits (walk_of old.words old.root (first + (page - first)))
          (walk_of words old.root (first + (page - first))) (bits_of rights) was (m.there (page - first)
          (omega (arith, k.0, k.1)))
          ∙ sym (ap (option_map bits_of) (m.added.pages page ∙ then_in first (first + pages) page (Some rights) (rights_in old.runs page) k.0 k.1)))
      finds page canonical (inr k) =
          ap (option_map bits_at) (m.elsewhere page canonical (λ j less is. not_among first pages page j k less is))
          ∙ (m.kept.found page canonical
          ∙ sym (ap (option_map bits_of) (m.added.pages page ∙ else_out first (first + pages) page (Some rights) (rights_in old.runs page) k)))

      unmet_before : (frame : ℕ) → ((level number : ℕ) (met : Place) → level ≤ 4 → reach words old.root level number ≡ Some met → met.frame ≡ frame → ⊥) →
          (level number : ℕ) (met : Place) → level ≤ 4 → reach old.words old.root level number ≡ Some met → met.frame ≡ frame → ⊥
      unmet_before frame unmet level number met le at same = by_level (level == 4) refl (among first pages number) refl where
        by_level : (t : Bool) → (level == 4) ≡ t → (g : Bool) → among first pages number ≡ g → ⊥
        by_level false t g k = unmet level number met le (m.changed.stayed level number le (λ four. absurd (grind (arith, nat_tests, t, four))) ∙ at) same
        by_level true t false k = unmet level number met le (m.changed.stayed level number le (λ four. k) ∙ at) same
        by_level true t true k =
            let four : level ≡ 4 = grind (arith, nat_tests, t) in
            let before : reach old.words old.root 4 number ≡ Some met = subst (λ (l : ℕ). reach old.words old.root l number ≡ Some met) four at in
            unmet 4 number (place_with met.frame (bits_of rights)) (omega arith) (m.changed.changed number met k before) same

byte_in : (o p : Option Rights) (a b : Option ℕ) → IsSome o → IsSome p → a ≡ b → cond (is_some o) a None ≡ cond (is_some p) b None
byte_in None p a b h k same = absurd (cc)
byte_in (Some o) None a b h k same = absurd (cc)
byte_in (Some o) (Some p) a b h k same = same

pub byte_out : (o p : Option Rights) (a b : Option ℕ) → o ≡ p → a ≡ b → cond (is_some o) a None ≡ cond (is_some p) b None
byte_out o p a b h same = ap (λ (q : Option Rights). cond (is_some q) a None) h ∙ ap (λ (c : Option ℕ). cond (is_some p) c None) same

pub protected_map : (old : Tables) (words : List ℕ) (runs : List (Interval ℕ × Rights)) (first pages : ℕ)
    (rights : Rights) → AreProtected old words runs first pages rights →
    IsMap (page_map_of (record { words = words; root = old.root; free = old.free; runs = runs })) (protected first pages rights (page_map_of old))
protected_map old words runs first pages rights m = record {
  rights = m.added.pages;
  bytes = λ address. by_side address (side_of first (first + pages) (address / 4096));
} where
  by_side : (address : ℕ) → ((first ≤ address / 4096) × (address / 4096 < first + pages)) ⊎ ((address / 4096 < first) ⊎ (first + pages ≤ address / 4096)) →
      cond (is_some (rights_in runs (address / 4096))) (reached words old.root address) None ≡ cond
      (is_some (rights_in old.runs (address / 4096))) (reached old.words old.root address) None
  by_side address (inl k) =
      byte_in (rights_in runs (address / 4096)) (rights_in old.runs (address / 4096)) (reached words old.root address) (reached old.words old.root address)
      (is_some_of (rights_in runs (address / 4096)) rights (m.added.pages (address / 4096)
      ∙ then_in first (first + pages) (address / 4096) (Some rights) (rights_in old.runs (address / 4096)) k.0 k.1))
      (m.full (address / 4096) k.0 k.1) (m.bytes address)
  by_side address (inr k) =
      byte_out (rights_in runs (address / 4096)) (rights_in old.runs (address / 4096)) (reached words old.root address) (reached old.words old.root address)
      (m.added.pages (address / 4096) ∙ else_out first (first + pages) (address / 4096) (Some rights) (rights_in old.runs (address / 4096)) k) (m.bytes address)
