-- The entries of a cache, as one leaves and one joins.
use Rattle.std.proofs.Common.{◌≡◌, ◌*◌, IsTrue, IfSome, Contains, option_map, ℕ, zero, suc, ◌+◌, ◌-◌, ◌<◌, ◌≤◌, Bool, true, false, cond, not, ◌||◌, ◌==◌, List, [], ◌∷◌, ◌++◌, length, filter, take, drop, get_or, slice_get, slice_index, Option, Some, None, refl, sym, ap, ◌∙◌, subst, arith, append_assoc, length-append}
use Rattle.std.proofs.lemmas.Bool.{eq-eqb, ne_eqb, eqb-false}
use Rattle.std.proofs.lemmas.List.{append-nil, drop-append-le, drop_more, take_more}
use Rattle.std.specs.List.{AllByRecursion}
use Rattle.circular_buffer.specs.Buffer.{keep_last}
use Rattle.paging_core.specs.Address.{is_canonical}
use Rattle.paging_core.specs.Memory.{frame_count}
use Rattle.paging_core.specs.Walk.{walk_of, mapped_place}
use Rattle.paging_core.specs.declared.page_walk.Mapped.{Mapped}
use Rattle.tlb_cache.specs.Cache.{Cache, cached_pages, has_page, AreOfDistinctPages, IsEntryFound, AgreesWithTables, kept}
use Rattle.tlb_cache.specs.declared.entry.TlbEntry.{TlbEntry}

-- ---- the entry of an age

pub got : {X : Type 0} (xs : List X) (k : ℕ) (x d : X) → slice_get xs k ≡ Some x → (k < length xs) × (get_or xs k d ≡ x)
got [] k x d h = cc
got (y ∷ ys) zero x d h = (omega arith, cc)
got (y ∷ ys) (suc k) x d h = let rest = got ys k x d h in (omega (arith, rest.0), rest.1)

pub page_got : (entries : List TlbEntry) (age : ℕ) (entry : TlbEntry) → slice_get entries age ≡ Some entry → slice_index (cached_pages entries) age ≡ entry.page
page_got [] age entry h = cc
page_got (x ∷ xs) zero entry h = let same : x ≡ entry = cc in ap (λ (e : TlbEntry). e.page) same
page_got (x ∷ xs) (suc age) entry h = page_got xs age entry h

pub not_past : (entries : List TlbEntry) (age : ℕ) → slice_get entries age ≡ None → length entries ≤ age
not_past [] age h = omega arith
not_past (x ∷ xs) zero h = cc
not_past (x ∷ xs) (suc age) h = omega (arith, not_past xs age h)

pub length_pages : (entries : List TlbEntry) → length (cached_pages entries) ≡ length entries
length_pages [] = refl
length_pages (x ∷ xs) = ap suc (length_pages xs)

pub pages_push : (entries : List TlbEntry) (entry : TlbEntry) → cached_pages (entries ++ entry ∷ []) ≡ cached_pages entries ++ entry.page ∷ []
pages_push [] entry = refl
pages_push (x ∷ xs) entry = ap (λ (pages : List ℕ). x.page ∷ pages) (pages_push xs entry)

-- the page of the oldest comes first
pub first_page : (entries : List TlbEntry) (entry : TlbEntry) → slice_get entries 0 ≡ Some entry →
    cached_pages entries ≡ entry.page ∷ cached_pages (drop 1 entries)
first_page [] entry h = cc
first_page (x ∷ xs) entry h = let same : x ≡ entry = cc in ap (λ (e : TlbEntry). e.page ∷ cached_pages xs) same

-- ---- whether a page has an entry

or_true : (b : Bool) → (b || true) ≡ true
or_true true = refl
or_true false = refl

or_none : (a b : Bool) → (a || b) ≡ false → (a ≡ false) × (b ≡ false)
or_none true b h = (h, cc)
or_none false b h = (refl, h)

neither : (a b : Bool) → a ≡ false → b ≡ false → (a || b) ≡ false
neither true b h k = h
neither false b h k = k

pub has_at : (entries : List TlbEntry) (page age : ℕ) → age < length entries → slice_index (cached_pages entries) age ≡ page → has_page entries page ≡ true
has_at [] page age h e = absurd (omega arith)
has_at (x ∷ xs) page zero h e = ap (λ (b : Bool). b || has_page xs page) (eq-eqb x.page page e)
has_at (x ∷ xs) page (suc age) h e = ap (λ (b : Bool). x.page == page || b) (has_at xs page age (omega arith) e) ∙ or_true (x.page == page)

pub none_at : (entries : List TlbEntry) (page : ℕ) → ((age : ℕ) → age < length entries →
    slice_index (cached_pages entries) age ≡ page → ⊥) → has_page entries page ≡ false
none_at [] page h = refl
none_at (x ∷ xs) page h =
    neither (x.page == page) (has_page xs page) (ne_eqb x.page page (h zero (omega arith))) (none_at xs page (λ age l. h (suc age) (omega (arith, l))))

pub has_push : (entries : List TlbEntry) (entry : TlbEntry) (page : ℕ) → has_page entries page ≡ false →
    (entry.page ≡ page → ⊥) → has_page (entries ++ entry ∷ []) page ≡ false
has_push [] entry page h other = neither (entry.page == page) false (ne_eqb entry.page page other) refl
has_push (x ∷ xs) entry page h other =
    let parts = or_none (x.page == page) (has_page xs page) h in
    neither (x.page == page) (has_page (xs ++ entry ∷ []) page) parts.0 (has_push xs entry page parts.1 other)

pub has_drop : (n : ℕ) (entries : List TlbEntry) (page : ℕ) → has_page entries page ≡ false → has_page (drop n entries) page ≡ false
has_drop zero entries page h = h
has_drop (suc n) [] page h = refl
has_drop (suc n) (x ∷ xs) page h = has_drop n xs page (or_none (x.page == page) (has_page xs page) h).1

-- ---- no page has two

pub distinct_push : (entries : List TlbEntry) (entry : TlbEntry) → AreOfDistinctPages entries →
    has_page entries entry.page ≡ false → AreOfDistinctPages (entries ++ entry ∷ [])
distinct_push [] entry d h = (refl, tt)
distinct_push (x ∷ xs) entry d h =
    let parts = or_none (x.page == entry.page) (has_page xs entry.page) h in
    let other : x.page ≡ entry.page → ⊥ = eqb-false x.page entry.page parts.0 in
    (has_push xs entry x.page d.0 (λ e. other (sym e)), distinct_push xs entry d.1 parts.1)

pub distinct_drop : (entries : List TlbEntry) → AreOfDistinctPages entries → AreOfDistinctPages (drop 1 entries)
distinct_drop [] d = tt
distinct_drop (x ∷ xs) d = d.1

-- the oldest entry's page has no other
pub first_alone : (entries : List TlbEntry) (entry : TlbEntry) → AreOfDistinctPages entries →
    slice_get entries 0 ≡ Some entry →
    has_page (drop 1 entries) entry.page ≡ false
first_alone [] entry d h = cc
first_alone (x ∷ xs) entry d h = let same : x ≡ entry = cc in subst (λ (e : TlbEntry). has_page xs e.page ≡ false) same d.0

-- ---- an entry joins if there is room, or the oldest leaves

pub kept_last :
    (capacity : ℕ) (entries : List TlbEntry) (entry : TlbEntry) → 0 < capacity →
    drop (length entries + 1 - capacity) entries ++ entry ∷ [] ≡ keep_last capacity (entries ++ entry ∷ [])
kept_last capacity entries entry some =
    let few : length entries + 1 - capacity ≤ length entries = omega arith in
    sym (drop-append-le (length entries + 1 - capacity) entries (entry ∷ []) few)
    ∙ ap (λ (n : ℕ). drop (n - capacity) (entries ++ entry ∷ [])) (sym (length-append entries (entry ∷ [])))

pub keep_room : (capacity : ℕ) (entries : List TlbEntry) (entry : TlbEntry) → length entries < capacity →
    keep_last capacity (entries ++ entry ∷ []) ≡ entries ++ entry ∷ []
keep_room capacity entries entry room =
    let none : length (entries ++ entry ∷ []) - capacity ≡ 0 = omega (arith, length-append entries (entry ∷ [])) in
    ap (λ (n : ℕ). drop n (entries ++ entry ∷ [])) none

-- ---- entries that pass a test come round

filter-append : (test : TlbEntry → Bool) (xs ys : List TlbEntry) → filter test (xs ++ ys) ≡ filter test xs ++ filter test ys
filter-append test [] ys = refl
filter-append test (x ∷ xs) ys = go (test x) (filter-append test xs ys) where
  go : (b : Bool) → filter test (xs ++ ys) ≡ filter test xs ++ filter test ys →
      cond b (x ∷ filter test (xs ++ ys)) (filter test (xs ++ ys)) ≡ cond b (x ∷ filter test xs) (filter test xs) ++ filter test ys
  go true rest = ap (λ (zs : List TlbEntry). x ∷ zs) rest
  go false rest = rest

-- after a number of turns, the rest is in front of those that came round
abbrev pub turned : (TlbEntry → Bool) → List TlbEntry → ℕ → List TlbEntry
turned test xs turns = drop turns xs ++ filter test (take turns xs)

pub turned_none : (test : TlbEntry → Bool) (xs : List TlbEntry) → turned test xs 0 ≡ xs
turned_none test [] = refl
turned_none test (x ∷ xs) = append-nil (x ∷ xs)

pub turned_all : (test : TlbEntry → Bool) (xs : List TlbEntry) → turned test xs (length xs) ≡ filter test xs
turned_all test xs = simp (drop_full xs, take_full xs) where
  drop_full : (ys : List TlbEntry) → drop (length ys) ys ≡ []
  drop_full [] = refl
  drop_full (y ∷ ys) = drop_full ys

  take_full : (ys : List TlbEntry) → take (length ys) ys ≡ ys
  take_full [] = refl
  take_full (y ∷ ys) = ap (λ (zs : List TlbEntry). y ∷ zs) (take_full ys)

-- the next turn: the first one leaves, and comes round if it passes
pub turn_first : (test : TlbEntry → Bool) (xs : List TlbEntry) (turns : ℕ) → turns < length xs → (d : TlbEntry) →
    turned test xs turns ≡ get_or xs turns d ∷ (drop (turns + 1) xs ++ filter test (take turns xs))
turn_first test xs turns h d = ap (λ (zs : List TlbEntry). zs ++ filter test (take turns xs)) (drop_more xs turns d h)

pub turn_gone : (test : TlbEntry → Bool) (xs : List TlbEntry) (turns : ℕ) → turns < length xs → (d : TlbEntry) → test (get_or xs turns d) ≡ false →
    drop (turns + 1) xs ++ filter test (take turns xs) ≡ turned test xs (turns + 1)
turn_gone test xs turns h d fails =
    ap (λ (zs : List TlbEntry). drop (turns + 1) xs ++ zs) (sym (ap (filter test) (take_more xs turns d h)
    ∙ (filter-append test (take turns xs) (get_or xs turns d ∷ []) ∙ last)))
  where
    last : filter test (take turns xs) ++ filter test (get_or xs turns d ∷ []) ≡ filter test (take turns xs)
    last = rw fails (append-nil (filter test (take turns xs)))

pub turn_back : (test : TlbEntry → Bool) (xs : List TlbEntry) (turns : ℕ) → turns < length xs → (d : TlbEntry) → test (get_or xs turns d) ≡ true →
    (drop (turns + 1) xs ++ filter test (take turns xs)) ++ get_or xs turns d ∷ [] ≡ turned test xs (turns + 1)
turn_back test xs turns h d passes =
    append_assoc (drop (turns + 1) xs) (filter test (take turns xs)) (get_or xs turns d ∷ [])
    ∙ ap (λ (zs : List TlbEntry). drop (turns + 1) xs ++ zs) (sym (ap (filter test) (take_more xs turns d h)
    ∙ (filter-append test (take turns xs) (get_or xs turns d ∷ []) ∙ last)))
  where
    last : filter test (take turns xs) ++ filter test (get_or xs turns d ∷ []) ≡ filter test (take turns xs) ++ get_or xs turns d ∷ []
    last = rw passes refl

-- a turn, as what it does to the list
pub turn_once : (test : TlbEntry → Bool) (xs : List TlbEntry) (turns : ℕ) → turns < length xs → (d : TlbEntry) →
    drop 1 (turned test xs turns) ++ filter test (take 1 (turned test xs turns)) ≡ turned test xs (turns + 1)
turn_once test xs turns h d =
    ap (λ (zs : List TlbEntry). drop 1 zs ++ filter test (take 1 zs)) (turn_first test xs turns h d)
    ∙ go (test (get_or xs turns d)) refl
  where
    go : (b : Bool) → test (get_or xs turns d) ≡ b →
        (drop (turns + 1) xs ++ filter test (take turns xs)) ++ cond (test (get_or xs turns d)) (get_or xs turns d ∷ []) [] ≡ turned test xs (turns + 1)
    go true is = rw is (turn_back test xs turns h d is)
    go false is = rw is (append-nil (drop (turns + 1) xs ++ filter test (take turns xs)) ∙ turn_gone test xs turns h d is)

pub turn_next : (test : TlbEntry → Bool) (xs : List TlbEntry) (turns : ℕ) → turns < length xs →
    drop 1 (turned test xs turns) ++ filter test (take 1 (turned test xs turns)) ≡ turned test xs (turns + 1)
turn_next test [] turns h = absurd (omega arith)
turn_next test (x ∷ xs) turns h = turn_once test (x ∷ xs) turns h x

-- the oldest entry's turn: it leaves, or comes back, or there is none
pub turn_out : (test : TlbEntry → Bool) (xs : List TlbEntry) (x : TlbEntry) → slice_get xs 0 ≡ Some x → test x ≡ false →
    drop 1 xs ++ filter test (take 1 xs) ≡ drop 1 xs
turn_out test [] x h fails = cc
turn_out test (y ∷ ys) x h fails =
    let same : y ≡ x = cc in
    ap (λ (b : Bool). ys ++ cond b (y ∷ []) []) (ap test same ∙ fails) ∙ append-nil ys

pub turn_in : (test : TlbEntry → Bool) (xs : List TlbEntry) (x : TlbEntry) → slice_get xs 0 ≡ Some x → test x ≡ true →
    drop 1 xs ++ filter test (take 1 xs) ≡ drop 1 xs ++ x ∷ []
turn_in test [] x h passes = cc
turn_in test (y ∷ ys) x h passes =
    let same : y ≡ x = cc in
    ap (λ (b : Bool). ys ++ cond b (y ∷ []) []) (ap test same ∙ passes) ∙ ap (λ (e : TlbEntry). ys ++ e ∷ []) same

pub turn_none : (test : TlbEntry → Bool) (xs : List TlbEntry) → slice_get xs 0 ≡ None → drop 1 xs ++ filter test (take 1 xs) ≡ drop 1 xs
turn_none test [] h = refl
turn_none test (y ∷ ys) h = cc

-- if no page that is tested has an entry, all stay
pub filter_kept : (covered : ℕ → Bool) (xs : List TlbEntry) → ((page : ℕ) → covered page ≡ true →
    has_page xs page ≡ false) → filter (λ (x : TlbEntry). not (covered x.page)) xs ≡ xs
filter_kept covered [] h = refl
filter_kept covered (x ∷ xs) h = go (covered x.page) refl (filter_kept covered xs
    (λ page is. (or_none (x.page == page) (has_page xs page) (h page is)).1)) where
      go : (b : Bool) → covered x.page ≡ b → filter (λ (e : TlbEntry). not (covered e.page)) xs ≡ xs →
          cond (not (covered x.page)) (x ∷ filter (λ (e : TlbEntry). not (covered e.page)) xs) (filter (λ (e : TlbEntry). not (covered e.page)) xs) ≡ x ∷ xs
      go true is rest = absurd (eqb-false x.page x.page (or_none (x.page == x.page) (has_page xs x.page) (h x.page is)).0 refl)
      go false is rest = rw is (ap (λ (zs : List TlbEntry). x ∷ zs) rest)

-- tests that agree leave the same
pub filter_same : (f g : ℕ → Bool) (xs : List TlbEntry) → ((page : ℕ) → f page ≡ g page) →
    filter (λ (x : TlbEntry). not (f x.page)) xs ≡ filter (λ (x : TlbEntry). not (g x.page)) xs
filter_same f g [] h = refl
filter_same f g (x ∷ xs) h = rw (h x.page) (ap (λ (zs : List TlbEntry). cond (not (g x.page)) (x ∷ zs) zs) (filter_same f g xs h))

-- if none fails, all stay
pub filter_all : (test : TlbEntry → Bool) (xs : List TlbEntry) → AllByRecursion (λ x. test x ≡ true) xs → filter test xs ≡ xs
filter_all test [] h = refl
filter_all test (x ∷ xs) h = rw h.0 (ap (λ (zs : List TlbEntry). x ∷ zs) (filter_all test xs h.1))

-- if all fail, none does
pub filter_none : (test : TlbEntry → Bool) (xs : List TlbEntry) → ((x : TlbEntry) → test x ≡ false) → filter test xs ≡ []
filter_none test [] h = refl
filter_none test (x ∷ xs) h = rw (h x) (filter_none test xs h)

-- ---- what is said of each entry

pub all_append : (P : TlbEntry → Type 0) (xs ys : List TlbEntry) → AllByRecursion P xs → AllByRecursion P ys → AllByRecursion P (xs ++ ys)
all_append P [] ys a b = b
all_append P (x ∷ xs) ys a b = (a.0, all_append P xs ys a.1 b)

pub all_drop : (P : TlbEntry → Type 0) (n : ℕ) (xs : List TlbEntry) → AllByRecursion P xs → AllByRecursion P (drop n xs)
all_drop P zero xs a = a
all_drop P (suc n) [] a = tt
all_drop P (suc n) (x ∷ xs) a = all_drop P n xs a.1

pub all_filter : (P : TlbEntry → Type 0) (test : TlbEntry → Bool) (xs : List TlbEntry) → AllByRecursion P xs → AllByRecursion P (filter test xs)
all_filter P test [] a = tt
all_filter P test (x ∷ xs) a = go (test x) (all_filter P test xs a.1) where
  go : (b : Bool) → AllByRecursion P (filter test xs) → AllByRecursion P (cond b (x ∷ filter test xs) (filter test xs))
  go true rest = (a.0, rest)
  go false rest = rest

pub all_at : (P : TlbEntry → Type 0) (xs : List TlbEntry) (k : ℕ) (d : TlbEntry) → AllByRecursion P xs → k < length xs → P (get_or xs k d)
all_at P [] k d a h = absurd (omega arith)
all_at P (x ∷ xs) zero d a h = a.0
all_at P (x ∷ xs) (suc k) d a h = all_at P xs k d a.1 (omega arith)

-- ---- each entry is what the walk finds

pub found_at : (words : List ℕ) (root : ℕ) (entries : List TlbEntry) (entry : TlbEntry) →
    AgreesWithTables words root entries →
    Contains entries entry → IsEntryFound words root entry
found_at words root entries entry agrees (k, within, is) = subst (IsEntryFound words root) is (all_at (IsEntryFound words root) entries k entry agrees within)

pub agrees_kept :
    (words : List ℕ) (root : ℕ) (cache : Cache) (page : ℕ) (found : Option Mapped) → IsTrue (is_canonical (page * 4096)) →
    option_map mapped_place found ≡ walk_of words root page →
    IfSome found (λ (mapped : Mapped). mapped.frame < frame_count words) → AgreesWithTables words root cache.entries →
    AgreesWithTables words root (kept cache page found).entries
agrees_kept words root cache page None canonical walked below agrees = agrees
agrees_kept words root cache page (Some mapped) canonical walked below agrees =
    let entry : TlbEntry = record { page = page; mapped = mapped } in
    let is : IsEntryFound words root entry = record { canonical = canonical; walked = sym walked; frame = below } in
    all_drop (IsEntryFound words root) (length (cache.entries ++ entry ∷ []) - cache.capacity) (cache.entries ++ entry ∷ [])
    (all_append (IsEntryFound words root) cache.entries (entry ∷ []) agrees (is, tt))
