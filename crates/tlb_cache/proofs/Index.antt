-- An index when the oldest entry leaves, and when one joins.
use Rattle.std.proofs.Common.{◌≡◌, ◌≢◌, ℕ, suc, ◌+◌, ◌<◌, ◌≤◌, ◌⊎◌, inl, inr, List, [], ◌∷◌, ◌++◌, length, set, slice_index, refl, sym, ap, ◌∙◌, subst, arith, length-set, get_or-set_same, get_or-set_other}
use Rattle.std.proofs.lemmas.Bool.{cases_eq, cases_lt}
use Rattle.std.proofs.lemmas.List.{length_push, get_or_push, get_or_append_left}
use Rattle.tlb_cache.specs.Chains.{AreChains, Leads, hash_at, hash_of, place_at, age_at, next_place, count_up_to}
use Rattle.tlb_cache.proofs.Places.{none_up_to, new_up_to, place_after, fewer_up_to, places_differ}
use Rattle.tlb_cache.proofs.Chains.{leads_later, leads_still, leads_other, leads_new}

-- ---- without entries

leads_none : (hash : ℕ → ℕ) (wanted count : ℕ) → count ≡ 0 → Leads hash wanted 0 count
leads_none hash wanted count none = record {
  within = omega (arith, none);
  past = λ age below _. absurd (omega (arith, below));
  own = λ last age is below _. absurd (omega (arith, below));
}

pub none_chained : (newest older : List ℕ) (oldest : ℕ) → AreChains newest older oldest []
none_chained newest older oldest = record {
  fits = omega arith;
  heads = λ hash _. leads_none (hash_at (length newest) []) hash _ (none_up_to (length older) oldest (slice_index newest hash));
  links = λ age below. absurd (omega (arith, below));
}

-- ---- the oldest leaves

leads_as : (hash : ℕ → ℕ) (wanted limit limit' count count' : ℕ) → limit ≡ limit' → count ≡ count' →
    Leads hash wanted limit count → Leads hash wanted limit' count'
leads_as hash wanted limit limit' count count' e k leads = subst (λ (c : ℕ). Leads hash wanted limit' c) k
    (subst (λ (l : ℕ). Leads hash wanted l count) e leads)

pub popped :
    (newest older : List ℕ) (oldest page : ℕ) (pages : List ℕ) → oldest < length older →
    ((hash : ℕ) → slice_index newest hash < length older) → ((place : ℕ) → slice_index older place < length older) →
    AreChains newest older oldest (page ∷ pages) → AreChains newest older (next_place (length older) oldest) pages
popped newest older oldest page pages starts heads_in links_in chains = record {
  fits = omega (arith, chains.fits);
  heads = λ hash below.
      leads_as (hash_at (length newest) pages) hash (length pages) (length pages) _ _ refl
      (sym (fewer_up_to (length older) oldest (slice_index newest hash) (length pages) starts (heads_in hash) chains.fits))
      (leads_later (hash_at (length newest) (page ∷ pages)) (hash_at (length newest) pages) hash (length pages) _ (λ _. refl) (chains.heads hash below));
  links = λ age below.
      let within : suc age < length older = omega (arith, below, chains.fits) in
      let few : suc age ≤ length older = omega (arith, within) in
      let was = slice_index older (place_at (length older) oldest (suc age)) in
      let same : slice_index older (place_at (length older) (next_place (length older) oldest) age) ≡ was =
      ap (slice_index older) (place_after (length older) oldest age starts within) in
      leads_as (hash_at (length newest) pages) (hash_at (length newest) pages age) age age _ _ refl
      (sym (fewer_up_to (length older) oldest was age starts (links_in (place_at (length older) oldest (suc age))) few)
      ∙ ap (λ (p : ℕ). count_up_to (length older) (next_place (length older) oldest) p age) (sym same))
      (leads_later (hash_at (length newest) (page ∷ pages)) (hash_at (length newest) pages)
      (hash_at (length newest) pages age) age _ (λ _. refl) (chains.links (suc age) (omega (arith, below))));
}

-- ---- one joins

up_to_more : (hash hash' : ℕ → ℕ) (wanted len places oldest place : ℕ) → ((k : ℕ) → k < len → hash' k ≡ hash k) → hash' len ≢ wanted →
    Leads hash wanted len (count_up_to places oldest place len) → Leads hash' wanted (len + 1) (count_up_to places oldest place (len + 1))
unfolding count_up_to
up_to_more hash hash' wanted len places oldest place same other leads = leads_other hash hash' wanted len (age_at places oldest place) same other leads

module _ (newest older newest' older' : List ℕ) (oldest page hash place : ℕ) (pages : List ℕ)
    (starts : oldest < length older) (room : length pages < length older)
    (hash_is : hash ≡ hash_of (length newest) page) (hash_in : hash < length newest) (place_is : place ≡ place_at (length older) oldest (length pages))
    (newest_is : newest' ≡ set newest hash place) (older_is : older' ≡ set older place (slice_index newest hash))
    (place_in : place < length older) (chains : AreChains newest older oldest pages) where
  hashes : length newest' ≡ length newest
  hashes = ap length newest_is ∙ length-set newest hash place

  places : length older' ≡ length older
  places = ap length older_is ∙ length-set older place (slice_index newest hash)

  more : length pages + 1 ≡ length (pages ++ page ∷ [])
  more = sym (length_push pages page)

  was : ℕ → ℕ
  was = hash_at (length newest) pages

  now : ℕ → ℕ
  now = hash_at (length newest') (pages ++ page ∷ [])

  same : (age : ℕ) → age < length pages → now age ≡ was age
  unfolding was now
  same age below = ap (λ (m : ℕ). hash_of m (slice_index (pages ++ page ∷ []) age)) hashes
      ∙ ap (hash_of (length newest)) (get_or_append_left pages (page ∷ []) 0 age below)

  new_hash : now (length pages) ≡ hash
  unfolding now
  new_hash =
      ap (λ (m : ℕ). hash_of m (slice_index (pages ++ page ∷ []) (length pages))) hashes
      ∙ (ap (hash_of (length newest)) (get_or_push pages page 0 (length pages) refl) ∙ sym hash_is)

  head : (other : ℕ) → (other ≡ hash) ⊎ (other ≡ hash → ⊥) → other < length newest →
      Leads now other (length (pages ++ page ∷ [])) (count_up_to (length older') oldest (slice_index newest' other) (length (pages ++ page ∷ [])))
  unfolding was
  head other (inl is) below =
      let at : slice_index newest' other ≡ place_at (length older) oldest (length pages) =
      ap (slice_index newest') is ∙ (ap (λ (l : List ℕ). slice_index l hash) newest_is ∙ (get_or-set_same newest hash place 0 hash_in ∙ place_is)) in
      let count = new_up_to (length older) oldest (length pages) starts room in
      leads_as now other (length pages + 1) _ (length pages + 1) _ more
      (sym count ∙ (ap (λ (p : ℕ). count_up_to (length older) oldest p (length pages + 1)) (sym at)
      ∙ (ap (λ (n : ℕ). count_up_to n oldest (slice_index newest' other) (length pages + 1)) (sym places)
      ∙ ap (λ (l : ℕ). count_up_to (length older') oldest (slice_index newest' other) l) more)))
      (leads_new now other (length pages) (new_hash ∙ sym is))
  head other (inr not) below =
      let at : slice_index newest' other ≡ slice_index newest other = ap (λ (l : List ℕ). slice_index l other) newest_is
      ∙ get_or-set_other newest hash other place 0 not in
      leads_as now other (length pages + 1) _ _ _ more
      (ap (λ (p : ℕ). count_up_to (length older) oldest p (length pages + 1)) (sym at)
      ∙ (ap (λ (n : ℕ). count_up_to n oldest (slice_index newest' other) (length pages + 1)) (sym places)
      ∙ ap (λ (l : ℕ). count_up_to (length older') oldest (slice_index newest' other) l) more))
      (up_to_more was now other (length pages) (length older) oldest (slice_index newest other) same (λ e. not (sym e ∙ new_hash)) (chains.heads other below))

  link : (age : ℕ) → (age < length pages) ⊎ (length pages ≤ age) → age < length (pages ++ page ∷ []) →
      Leads now (now age) age (count_up_to (length older') oldest (slice_index older' (place_at (length older') oldest age))
      age)
  unfolding was count_up_to
  link age (inl old) below =
      let apart : place_at (length older) oldest age ≢ place =
      λ e. places_differ (length older) oldest age (length pages) starts old room (e ∙ place_is) in
      let at : slice_index older' (place_at (length older') oldest age) ≡ slice_index older (place_at (length older) oldest age) =
      ap (λ (n : ℕ). slice_index older' (place_at n oldest age)) places
      ∙ (ap (λ (l : List ℕ). slice_index l (place_at (length older) oldest age)) older_is
      ∙ get_or-set_other older place (place_at (length older) oldest age) (slice_index newest hash) 0 apart) in
      leads_as now (now age) age age _ _ refl
      (ap (λ (p : ℕ). count_up_to (length older) oldest p age) (sym at) ∙ ap (λ (n : ℕ).
      count_up_to n oldest (slice_index older' (place_at (length older') oldest age)) age) (sym places))
      (leads_still was now (was age) (now age) age (length pages) _ (omega arith) same (sym (same age old)) (chains.links age old))
  link age (inr new) below =
      let is : age ≡ length pages = omega (arith, more) in
      let here : place_at (length older') oldest age ≡ place =
      ap (λ (n : ℕ). place_at n oldest age) places ∙ (ap (place_at (length older) oldest) is ∙ sym place_is) in
      let at : slice_index older' (place_at (length older') oldest age) ≡ slice_index newest hash =
      ap (slice_index older') here ∙ (ap (λ (l : List ℕ). slice_index l place) older_is ∙ get_or-set_same older place (slice_index newest hash) 0 place_in) in
      leads_as now (now age) (length pages) age _ _ (sym is)
      (ap (λ (p : ℕ). count_up_to (length older) oldest p (length pages)) (sym at)
      ∙ (ap (λ (n : ℕ). count_up_to n oldest (slice_index older' (place_at (length older') oldest age)) (length pages)) (sym places)
      ∙ ap (λ (l : ℕ). count_up_to (length older') oldest (slice_index older' (place_at (length older') oldest age)) l)
      (sym is)))
      (leads_still was now hash (now age) (length pages) (length pages) _ (omega arith) same (sym (ap now is ∙ new_hash)) (chains.heads hash hash_in))

  pub joined : AreChains newest' older' oldest (pages ++ page ∷ [])
  unfolding was now
  joined = record {
    fits = omega (arith, more, places);
    heads = λ other below. head other (cases_eq other hash) (omega (arith, hashes, below));
    links = λ age below. link age (cases_lt age (length pages)) below;
  }
