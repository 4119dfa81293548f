-- Places in a ring, and what chains of entries say of them. Entries have ages: that of the oldest is 0. A place is where an entry is
-- in the ring, and keeps while the entry stays.
use Rattle.std.specs.Prelude.{◌≡◌, ℕ, ◌+◌, ◌-◌, ◌*◌, ◌/◌, ◌%◌, ◌^◌, ◌<◌, ◌≤◌, nat_lt, nat_le, if◌then◌else◌, List, length, slice_index}

-- the hash of a page: the high half of its product with 2^64 over the golden ratio, brought below a count
unfoldable pub hash_of : ℕ → ℕ → ℕ
hash_of hashes page = page * 0x9e37_79b9_7f4a_7c15 % 2 ^ 64 / 2 ^ 32 * hashes / 2 ^ 32

-- the place of the entry with an age, in a ring of a number of places whose oldest entry has a place
unfoldable pub place_at : ℕ → ℕ → ℕ → ℕ
place_at places oldest age = if nat_lt (oldest + age) places then oldest + age else oldest + age - places

-- and back
unfoldable pub age_at : ℕ → ℕ → ℕ → ℕ
age_at places oldest place = if nat_le oldest place then place - oldest else place + places - oldest

-- the place after another
unfoldable pub next_place : ℕ → ℕ → ℕ
next_place places oldest = if nat_lt (oldest + 1) places then oldest + 1 else 0

-- how many entries are no newer than the one at a place, if that is one of a number of oldest entries, and else 0
unfoldable pub count_up_to : ℕ → ℕ → ℕ → ℕ → ℕ
count_up_to places oldest place limit = if nat_lt (age_at places oldest place) limit then age_at places oldest place + 1 else 0

-- Among the oldest entries, `limit` of them, those with a hash are among the first `count`; and if there is one, the last of
-- these has it. `hash` has the hash of the entry with an age.
pub record Leads (hash : ℕ → ℕ) (wanted limit count : ℕ) : Type 0 where
  pub within : count ≤ limit
  pub past : (age : ℕ) → age < limit → hash age ≡ wanted → age < count
  pub own : (last age : ℕ) → count ≡ last + 1 → age < limit → hash age ≡ wanted → hash last ≡ wanted

-- the hash of the page with an age
abbrev pub hash_at : ℕ → List ℕ → ℕ → ℕ
hash_at hashes pages age = hash_of hashes (slice_index pages age)

-- Chains of the entries of these pages, the oldest first. Each hash leads to the place of the newest entry that has it, and
-- each place of an entry to that of the next older one with its hash.
pub record AreChains (newest older : List ℕ) (oldest : ℕ) (pages : List ℕ) : Type 0 where
  pub fits : length pages ≤ length older
  pub heads :
      (hash : ℕ) → hash < length newest →
      Leads (hash_at (length newest) pages) hash (length pages) (count_up_to (length older) oldest (slice_index newest hash) (length pages))
  pub links :
      (age : ℕ) → age < length pages →
      Leads (hash_at (length newest) pages) (hash_at (length newest) pages age) age (count_up_to (length older) oldest (slice_index older (place_at (length older) oldest age)) age)
