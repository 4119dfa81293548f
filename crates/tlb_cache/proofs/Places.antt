-- Places and ages in a ring.
use Rattle.std.proofs.Common.{◌≡◌, ℕ, suc, ◌+◌, ◌-◌, ◌<◌, ◌≤◌, arith}
use Rattle.std.proofs.lemmas.Bool.Decides.{nat_tests}
use Rattle.tlb_cache.specs.Chains.{place_at, age_at, count_up_to, next_place}

pub age_of_place : (places oldest age : ℕ) → oldest < places → age < places → age_at places oldest (place_at places oldest age) ≡ age
unfolding age_at place_at
age_of_place places oldest age h k = grind (arith, nat_tests)

pub place_within : (places oldest age : ℕ) → oldest < places → age < places → place_at places oldest age < places
unfolding place_at
place_within places oldest age h k = grind (arith, nat_tests)

-- two ages have two places
pub places_differ : (places oldest a b : ℕ) → oldest < places → a < b → b < places → place_at places oldest a ≡ place_at places oldest b → ⊥
unfolding place_at
places_differ places oldest a b h k l e = grind (arith, nat_tests)

-- ---- when the oldest entry left

pub next_within : (places oldest : ℕ) → oldest < places → next_place places oldest < places
unfolding next_place
next_within places oldest h = grind (arith, nat_tests)

pub place_after : (places oldest age : ℕ) → oldest < places → suc age < places →
    place_at places (next_place places oldest) age ≡ place_at places oldest (suc age)
unfolding place_at next_place
place_after places oldest age h k = grind (arith, nat_tests)

pub fewer_up_to :
    (places oldest place limit : ℕ) → oldest < places → place < places → suc limit ≤ places →
    count_up_to places (next_place places oldest) place limit ≡ count_up_to places oldest place (suc limit) - 1
unfolding count_up_to age_at next_place
fewer_up_to places oldest place limit h k l = grind (arith, nat_tests)

-- ---- the first entries of none, and up to the new one

pub none_up_to : (places oldest place : ℕ) → count_up_to places oldest place 0 ≡ 0
unfolding count_up_to
none_up_to places oldest place = grind (arith, nat_tests)

pub new_up_to : (places oldest len : ℕ) → oldest < places → len < places → count_up_to places oldest (place_at places oldest len) (len + 1) ≡ len + 1
unfolding count_up_to
new_up_to places oldest len h k = rw age_of_place (grind (arith, nat_tests))
