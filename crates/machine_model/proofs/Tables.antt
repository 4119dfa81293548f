-- Which tables there are after those of some pages joined, and how many were missing.
use Rattle.std.proofs.Common.{◌≡◌, ℕ, zero, suc, ◌+◌, ◌/◌, ◌<◌, inl, inr, ◌&&◌, ◌||◌, not, List, [], ◌∷◌, length, map, filter, Contains, refl, sym, ap, ◌∙◌, arith, Bool, true, false, cond}
use Rattle.std.proofs.lemmas.Bool.Decides.{nat_tests}
use Rattle.std.proofs.lemmas.List.Folds.{list_any-append}
use Rattle.std.proofs.lemmas.List.Sums.{length-filter}
use Rattle.std.proofs.Common.{length-append}
use Rattle.paging_core.specs.Address.{IsCanonicalRange}
use Rattle.paging_core.proofs.PrefixLists.{prefixes_of_pages, pages_of_prefixes}
use Rattle.paging_core.specs.Prefix.{Prefix, prefix_of, prefixes_of}
use Rattle.machine_model.specs.Tables.{is_same, has_table, missing, with_tables}
use Rattle.machine_model.specs.Slots.{slot_prefix}
use Rattle.machine_model.proofs.Booleans.{or_left, or_right, or_cases}

-- ---- prefixes that are the same

pub same_refl : (p : Prefix) → is_same p p ≡ true
same_refl p = grind (arith, nat_tests)

pub same_parts : (p q : Prefix) → is_same p q ≡ true → (p.level ≡ q.level) × (p.number ≡ q.number)
same_parts p q is = (grind (arith, nat_tests), grind (arith, nat_tests))

pub same_is : (p q : Prefix) → is_same p q ≡ true → p ≡ q
same_is p q is =
    let e = same_parts p q is in
    ap (λ l. record { level = l; number = p.number }) e.0 ∙ ap (λ n. record { level = q.level; number = n }) e.1

-- ---- tables that joined

-- one table more of a list from which those that are there are left out, and those that are never made
joined_one : (there never here is later out left : Bool) → (is ≡ true → (here ≡ there) × (out ≡ never)) → (here || left) ≡ (here || (later && not out)) →
    (here || cond (not there && not never) (is || left) left) ≡ (here || ((is || later) && not out))
joined_one there never true is later out left same rest = refl
joined_one true never false false later out left same rest = rest
joined_one false true false false later out left same rest = rest
joined_one false false false false later out left same rest = rest
joined_one true never false true later out left same rest = absurd (let e : false ≡ true = (same refl).0 in cc)
joined_one false true false true true true left same rest = rest
joined_one false true false true false true left same rest = rest
joined_one false true false true later false left same rest = absurd (let e : false ≡ true = (same refl).1 in cc)
joined_one false false false true later true left same rest = absurd (let e : true ≡ false = (same refl).1 in cc)
joined_one false false false true later false left same rest = refl

-- those of a list that join: neither there nor left out
abbrev joining : List Prefix → List Prefix → List Prefix → List Prefix
joining tables never more = filter (λ q. not (has_table tables q) && not (has_table never q)) more

joined_any : (tables never more : List Prefix) (p : Prefix) →
    (has_table tables p || has_table (joining tables never more) p) ≡ (has_table tables p || (has_table more p && not (has_table never p)))
joined_any tables never [] p = refl
joined_any tables never (first ∷ rest) p = go (has_table tables first) (has_table never first) refl refl (joined_any tables never rest p)
  where
    same : (there out : Bool) → has_table tables first ≡ there → has_table never first ≡ out → is_same p first ≡ true →
        (has_table tables p ≡ there) × (has_table never p ≡ out)
    same there out is is_out s = let e : p ≡ first = same_is p first s in (ap (has_table tables) e ∙ is, ap (has_table never) e ∙ is_out)

    go : (there out : Bool) → has_table tables first ≡ there → has_table never first ≡ out →
        (has_table tables p || has_table (joining tables never rest) p) ≡ (has_table tables p || (has_table rest p && not (has_table never p))) →
        (has_table tables p || has_table (cond (not there && not out) (first ∷ joining tables never rest) (joining tables never rest)) p)
        ≡ (has_table tables p || ((is_same p first || has_table rest p) && not (has_table never p)))
    go true out is is_out later = joined_one true out (has_table tables p) (is_same p first) (has_table rest p)
        (has_table never p) (has_table (joining tables never rest) p) (same true out is is_out) later
    go false true is is_out later = joined_one false true (has_table tables p) (is_same p first) (has_table rest p)
        (has_table never p) (has_table (joining tables never rest) p) (same false true is is_out) later
    go false false is is_out later = joined_one false false (has_table tables p) (is_same p first) (has_table rest p)
        (has_table never p) (has_table (joining tables never rest) p) (same false false is is_out) later

-- a table is there afterwards if it was, or is one of those of the pages, but for those of the slots
pub has_table-with_tables : (tables : List Prefix) (address pages : ℕ) (slots : List ℕ) (p : Prefix) →
    has_table (with_tables tables address pages slots) p ≡ (has_table tables p ||
    (has_table (prefixes_of (address / 4096) pages) p && not (has_table (map slot_prefix slots) p)))
has_table-with_tables tables address pages slots p =
    list_any-append (is_same p) tables (joining tables (map slot_prefix slots) (prefixes_of (address / 4096) pages))
    ∙ joined_any tables (map slot_prefix slots) (prefixes_of (address / 4096) pages) p

-- ---- how many joined

-- tests that agree on the list keep the same of it
pub filter_same : (f g : Prefix → Bool) (ps : List Prefix) → ((p : Prefix) → has_table ps p ≡ true → f p ≡ g p) → filter f ps ≡ filter g ps
filter_same f g [] same = refl
filter_same f g (first ∷ rest) same =
    let here : f first ≡ g first = same first (or_left (is_same first first) (has_table rest first) (same_refl first)) in
    rw here (ap (λ xs. cond (g first) (first ∷ xs) xs) (filter_same f g rest (λ p is. same p (or_right (is_same p first) (has_table rest p) is))))

-- of those that pass a test, each passes another one or does not
abbrev those_without : (Prefix → Bool) → (Prefix → Bool) → List Prefix → List Prefix
those_without f g ps = filter (λ p. f p && not (g p)) ps

abbrev those_with : (Prefix → Bool) → (Prefix → Bool) → List Prefix → List Prefix
those_with f g ps = filter (λ p. f p && g p) ps

both_counts : (f g : Prefix → Bool) (ps : List Prefix) → length (those_without f g ps) + length (those_with f g ps) ≡ length (filter f ps)
both_counts f g [] = refl
both_counts f g (first ∷ rest) = go (f first) (g first) (both_counts f g rest)
  where
    go : (a b : Bool) → length (those_without f g rest) + length (those_with f g rest) ≡ length (filter f rest) →
        length (cond (a && not b) (first ∷ those_without f g rest) (those_without f g rest)) + length
        (cond (a && b) (first ∷ those_with f g rest) (those_with f g rest)) ≡ length
        (cond a (first ∷ filter f rest) (filter f rest))
    go true true later = omega (arith, later)
    go true false later = omega (arith, later)
    go false b later = later

-- a prefix of the list is missing afterwards if it was and is left out
still_missing : (there out : Bool) → not (there || (true && not out)) ≡ (not there && out)
still_missing true out = refl
still_missing false true = refl
still_missing false false = refl

-- as many joined as were missing and are not now
pub length-with_tables : (tables : List Prefix) (address pages : ℕ) (slots : List ℕ) →
    length (with_tables tables address pages slots) + missing (with_tables tables address pages slots) address
    pages ≡ length tables + missing tables address pages
length-with_tables tables address pages slots =
    let ps = prefixes_of (address / 4096) pages in
    let never = map slot_prefix slots in
    let more = length-append tables (joining tables never ps) in
    let lacked = length-filter (λ p. not (has_table tables p)) ps in
    let lacks = sym (length-filter (λ p. not (has_table (with_tables tables address pages slots) p)) ps)
    ∙ ap length (filter_same (λ p. not (has_table (with_tables tables address pages slots) p)) (λ p. not (has_table tables p) && has_table never p) ps
    (λ p is. ap not (has_table-with_tables tables address pages slots p
    ∙ ap (λ b. has_table tables p || (b && not (has_table never p))) is)
    ∙ still_missing (has_table tables p) (has_table never p))) in
    let both = both_counts (λ p. not (has_table tables p)) (has_table never) ps in
    omega (arith, more, lacked, lacks, both)

-- ---- the prefixes of pages

-- what is in the list passes the test, and the other way round
has_listed : (ps : List Prefix) (p : Prefix) → has_table ps p ≡ true → Contains ps p
has_listed [] p is = absurd (cc)
has_listed (first ∷ rest) p is = elim (or_cases (is_same p first) (has_table rest p) is) [
  | inl here ↦ (0, (let l : 0 < suc (length rest) = omega arith in l), sym (same_is p first here))
  | inr later ↦ (let h = has_listed rest p later in (suc h.0, (let l : suc h.0 < suc (length rest) = omega (arith, h.1) in l), h.2))
]

listed_has : (ps : List Prefix) (p : Prefix) → Contains ps p → has_table ps p ≡ true
listed_has [] p (k, less, is) = absurd (omega arith)
listed_has (first ∷ rest) p (zero, less, is) = or_left (is_same p first) (has_table rest p) (ap (is_same p) is ∙ same_refl p)
listed_has (first ∷ rest) p (suc k, less, is) = or_right (is_same p first) (has_table rest p) (listed_has rest p (k, omega arith, is))

-- a prefix of one to three indices of one of the pages
pub record IsPrefixOf (first pages : ℕ) (p : Prefix) : Type 0 where
  pub below_root : 0 < p.level
  pub above_last : p.level < 4
  pub page : ℕ
  pub in_range : page < pages
  pub is : p.number ≡ prefix_of (first + page) p.level

pub prefixes_have : (first pages : ℕ) (p : Prefix) → IsCanonicalRange first pages → has_table (prefixes_of first pages) p ≡ true → IsPrefixOf first pages p
prefixes_have first zero p range is = absurd (omega (arith, range.some))
prefixes_have first (suc more) p range is =
    let h = prefixes_of_pages first more p.level p.number range (has_listed (prefixes_of first (suc more)) p is) in
    record { below_root = h.0; above_last = h.1; page = h.2.0; in_range = h.2.1.0; is = h.2.1.1 }

pub have_prefixes : (first pages : ℕ) (p : Prefix) → IsCanonicalRange first pages → IsPrefixOf first pages p → has_table (prefixes_of first pages) p ≡ true
have_prefixes first zero p range of = absurd (omega (arith, range.some))
have_prefixes first (suc more) p range of =
    listed_has (prefixes_of first (suc more)) p (pages_of_prefixes first more p.level p.number range of.below_root
    of.above_last (of.page, (of.in_range, of.is)))
