-- The chains of an index, when the oldest entry leaves and when one joins.
use Rattle.std.proofs.Common.{◌≡◌, ◌≢◌, ℕ, suc, ◌+◌, ◌-◌, ◌<◌, ◌≤◌, ◌⊎◌, inl, inr, nat_lt, if◌then◌else◌, sym, ◌∙◌, subst, arith}
use Rattle.std.proofs.lemmas.Bool.{cases_lt}
use Rattle.std.proofs.lemmas.Bool.Decides.{nat_tests}
use Rattle.tlb_cache.specs.Chains.{Leads}

-- ---- the oldest entry leaves

pub leads_later :
    (hash hash' : ℕ → ℕ) (wanted limit count : ℕ) → ((age : ℕ) → hash' age ≡ hash (suc age)) →
    Leads hash wanted (suc limit) count → Leads hash' wanted limit (count - 1)
leads_later hash hash' wanted limit count same leads = record {
  within = omega (arith, leads.within);
  past = λ age below is. let at = leads.past (suc age) (omega arith) (sym (same age) ∙ is) in omega (arith, at);
  own = λ last age counted below is. same last ∙ leads.own (suc last) (suc age) (omega (arith, counted)) (omega arith) (sym (same age) ∙ is);
}

-- ---- an entry joins

-- what is said of older entries stays
pub leads_still :
    (hash hash' : ℕ → ℕ) (wanted wanted' limit len count : ℕ) → limit ≤ len → ((age : ℕ) → age < len → hash' age ≡ hash age) → wanted ≡ wanted' →
    Leads hash wanted limit count → Leads hash' wanted' limit count
leads_still hash hash' wanted wanted' limit len count few same is_wanted leads = record {
  within = leads.within;
  past = λ age below is. leads.past age below (sym (same age (omega arith)) ∙ (is ∙ sym is_wanted));
  own = λ last age counted below is.
      let own = leads.own last age counted below (sym (same age (omega arith)) ∙ (is ∙ sym is_wanted)) in
      same last (omega (arith, counted, leads.within)) ∙ (own ∙ is_wanted);
}

-- how many are no newer than the one with an age, of a number of entries
abbrev pub counted : ℕ → ℕ → ℕ
counted age limit = if nat_lt age limit then age + 1 else 0

counted_more : (age limit : ℕ) → counted age limit ≤ counted age (limit + 1)
counted_more age limit = grind (arith, nat_tests)

counted_below : (age limit k : ℕ) → k < counted age limit → counted age limit ≡ counted age (limit + 1)
counted_below age limit k h = grind (arith, nat_tests)

counted_within : (age limit : ℕ) → counted age limit ≤ limit
counted_within age limit = grind (arith, nat_tests)

-- the chain of another hash
pub leads_other :
    (hash hash' : ℕ → ℕ) (wanted len age : ℕ) → ((k : ℕ) → k < len → hash' k ≡ hash k) → hash' len ≢ wanted →
    Leads hash wanted len (counted age len) → Leads hash' wanted (len + 1) (counted age (len + 1))
leads_other hash hash' wanted len age same other leads = record {
  within = counted_within age (len + 1);
  past = λ k below is. let at = leads.past k (older k below is) (was k below is) in omega (arith, at, counted_more age len);
  own = λ last k is_count below is.
      let at = leads.past k (older k below is) (was k below is) in
      let both = counted_below age len k at in
      same last (omega (arith, both, is_count, counted_within age len)) ∙ leads.own last k (both ∙ is_count) (older k below is) (was k below is);
}
  where
    older : (k : ℕ) → k < len + 1 → hash' k ≡ wanted → k < len
    older k below is = go (cases_lt k len) where
      go : (k < len) ⊎ (len ≤ k) → k < len
      go (inl h) = h
      go (inr h) = let e : k ≡ len = omega arith in absurd (other (subst (λ n. hash' n ≡ wanted) e is))

    was : (k : ℕ) → k < len + 1 → hash' k ≡ wanted → hash k ≡ wanted
    was k below is = sym (same k (older k below is)) ∙ is

-- that of the new entry's
pub leads_new : (hash' : ℕ → ℕ) (wanted len : ℕ) → hash' len ≡ wanted → Leads hash' wanted (len + 1) (len + 1)
leads_new hash' wanted len is = record {
  within = omega arith;
  past = λ k below _. below;
  own = λ last k is_count below _. let e : len ≡ last = omega (arith, is_count) in subst (λ n. hash' n ≡ wanted) e is;
}
