-- What a stay shows of a call does not change with later calls.
use Rattle.std.proofs.Common.{◌≡◌, ◌<◌, ◌≤◌, ◌⊎◌, ℕ, suc, ◌+◌, Bool, true, false, ◌&&◌, ◌||◌, nat_eq, nat_le, nat_lt, List, [], ◌∷◌, ◌++◌, map, inl, inr, Option, None, Some, refl, sym, ◌∙◌, ap, subst, arith}
use Rattle.std.specs.Prelude.{if◌then◌else◌, find, ⊤}
use Rattle.std.proofs.lemmas.Bool.Decides.{nat_tests}
use Rattle.heap_history.specs.declared.history.Ending.{Ending}
use Rattle.heap_history.specs.declared.history.Ending.TheVariants.{Live, Freed, Reset as AllEnded}
use Rattle.heap_history.specs.declared.history.Stay.{Stay}
use Rattle.machine_model.specs.declared.answer.Reply.{Reply}
use Rattle.machine_model.specs.declared.answer.Reply.TheVariants.{Block as Placed, Done, Released}
use Rattle.machine_model.specs.declared.call.Call.{Call}
use Rattle.machine_model.specs.declared.call.Call.TheVariants.{Malloc, Calloc, Realloc, CRealloc, Free, Reset}
use Rattle.heap_recorder.specs.Shown.{is_spot, count_shown, shows_stay}
use Rattle.heap_recorder.specs.Stays.{StayNotes, is_live, has_not_ended, is_stay_of, is_stay_at, why, new_stay, ended, ended_of, ended_now, resized_from, stays_after, closed_stay}
use Rattle.heap_recorder.proofs.Tracked.{alive, bit, left_true, why_over}

pub less_true : (m n : ℕ) → m < n → nat_lt m n ≡ true
less_true m n less = grind (arith, nat_tests, less)

pub less_false : (m n : ℕ) → n ≤ m → nat_lt m n ≡ false
less_false m n least = grind (arith, nat_tests, least)

pub least_true : (m n : ℕ) → m ≤ n → nat_le m n ≡ true
least_true m n least = grind (arith, nat_tests, least)

pub least_false : (m n : ℕ) → n < m → nat_le m n ≡ false
least_false m n less = grind (arith, nat_tests, less)

-- whether a stay shows after a call, if it ends later or not at all
abbrev pub showing : ℕ → ℕ → ℕ → ℕ → Stay → Bool
showing call number address size stay = nat_le stay.born call && ((has_not_ended stay || nat_lt call stay.end) && is_spot number address size stay)

-- a stay after a call: the same, or one that went on and ends with it
abbrev pub Turned : ℕ → Stay → Stay → Type 0
Turned call old new = (new ≡ old) ⊎ ((ending : Ending) × (has_not_ended old ≡ true) × (is_live ending ≡ false) × (new ≡ ended call ending old))

-- a stay that began with it
pub record IsNew (call : ℕ) (stay : Stay) : Type 0 where
  pub born : stay.born ≡ call
  pub on : has_not_ended stay ≡ true

abbrev pub AreNew : ℕ → List Stay → Type 0
AreNew call [] = ⊤
AreNew call (stay ∷ stays) = IsNew call stay × AreNew call stays

-- the stays after a call: each that was there, and those that began
abbrev pub Later : ℕ → List Stay → List Stay → Type 0
Later call [] new = AreNew call new
Later call (stay ∷ stays) [] = ⊥
Later call (stay ∷ stays) (other ∷ new) = Turned call stay other × Later call stays new

later_map : (call : ℕ) (change : Stay → Stay) → ((stay : Stay) → Turned call stay (change stay)) → (stays new : List Stay) →
    AreNew call new → Later call stays (map change stays ++ new)
later_map call change turns [] new are = are
later_map call change turns (x ∷ xs) new are = (turns x, later_map call change turns xs new are)

later_map_none : (call : ℕ) (change : Stay → Stay) → ((stay : Stay) → Turned call stay (change stay)) →
    (stays : List Stay) → Later call stays (map change stays)
later_map_none call change turns [] = tt
later_map_none call change turns (x ∷ xs) = (turns x, later_map_none call change turns xs)

later_same : (call : ℕ) (stays new : List Stay) → AreNew call new → Later call stays (stays ++ new)
later_same call [] new are = are
later_same call (x ∷ xs) new are = (inl refl, later_same call xs new are)

later_none : (call : ℕ) (stays : List Stay) → Later call stays stays
later_none call [] = tt
later_none call (x ∷ xs) = (inl refl, later_none call xs)

turned_of : (call number : ℕ) (ending : Ending) → is_live ending ≡ false → (stay : Stay) → Turned call stay (ended_of number call ending stay)
turned_of call number ending over stay = go (is_stay_of number stay) refl
  where
    go : (b : Bool) → is_stay_of number stay ≡ b → Turned call stay (if b then ended call ending stay else stay)
    go true is = inr (ending, left_true (has_not_ended stay) (nat_eq stay.block number) is, over, refl)
    go false is = inl refl

turned_now : (call : ℕ) (stay : Stay) → Turned call stay (ended_now call stay)
turned_now call stay = go (has_not_ended stay) refl
  where
    go : (b : Bool) → has_not_ended stay ≡ b → Turned call stay (if b then ended call AllEnded stay else stay)
    go true is = inr (AllEnded, is, refl, refl)
    go false is = inl refl

new_one : (call number address size : ℕ) → AreNew call (new_stay call number address size ∷ [])
new_one call number address size = (record { born = refl; on = refl }, tt)

later_resized : (call number address size : ℕ) (notes : StayNotes) (found : Option Stay) →
    Later call notes.stays (resized_from call number address size found notes).stays
later_resized call number address size notes None = later_none call notes.stays
later_resized call number address size notes (Some stay) = go (is_stay_at address size stay)
  where
    go : (b : Bool) → Later call notes.stays (if b then notes else record {
      begun = notes.begun;
      stays =
          map (ended_of number call (why address stay)) notes.stays ++ new_stay call number address size ∷ [];
    }).stays
    go true = later_none call notes.stays
    go false = later_map call (ended_of number call (why address stay))
        (turned_of call number (why address stay) (why_over address stay)) notes.stays
        (new_stay call number address size ∷ []) (new_one call number address size)

pub later : (call : ℕ) (made : Call) (reply : Reply) (notes : StayNotes) → Later call notes.stays (stays_after call made reply notes).stays
later call (Malloc size align) (Placed number address) notes = later_same call notes.stays
    (new_stay call notes.begun address size ∷ []) (new_one call notes.begun address size)
later call (Calloc size align) (Placed number address) notes = later_same call notes.stays
    (new_stay call notes.begun address size ∷ []) (new_one call notes.begun address size)
later call (Realloc number size) (Placed given address) notes = later_resized call number address size notes (find (is_stay_of number) notes.stays)
later call (CRealloc number size) (Placed given address) notes = later_resized call number address size notes (find (is_stay_of number) notes.stays)
later call (Free number) Done notes = later_map_none call (ended_of number call Freed) (turned_of call number Freed refl) notes.stays
later call Reset (Released bytes) notes = later_map_none call (ended_now call) (turned_now call) notes.stays
later call made reply notes = later_none call notes.stays

-- a stay of so many calls: it began before, and ended before if it ended
pub record IsPast (calls : ℕ) (stay : Stay) : Type 0 where
  pub born : stay.born < calls
  pub end : has_not_ended stay ≡ false → stay.end < calls

abbrev pub ArePast : ℕ → List Stay → Type 0
ArePast calls [] = ⊤
ArePast calls (stay ∷ stays) = IsPast calls stay × ArePast calls stays

past_turned : (call : ℕ) (old new : Stay) → Turned call old new → IsPast call old → IsPast (suc call) new
past_turned call old new (inl same) past = subst (λ (stay : Stay). IsPast (suc call) stay) (sym same)
    (record {
      born = (let less = past.born in omega (arith, less));
      end =
          λ over. (let less = past.end over in omega (arith, less));
    })
past_turned call old new (inr ends) past = subst (λ (stay : Stay). IsPast (suc call) stay) (sym ends.3)
    (record { born = (let less = past.born in omega (arith, less)); end = λ over. omega arith })

past_new : (call : ℕ) (new : List Stay) → AreNew call new → ArePast (suc call) new
past_new call [] are = tt
past_new call (x ∷ xs) are = (
  record {
    born = (let is = are.0.born in omega (arith, is));
    end =
        λ over. absurd (let on = are.0.on in let wrong : true ≡ false = sym on ∙ over in cc);
  },
  past_new call xs are.1,
)

pub past_later : (call : ℕ) (old new : List Stay) → Later call old new → ArePast call old → ArePast (suc call) new
past_later call [] new later past = past_new call new later
past_later call (x ∷ xs) [] later past = absurd later
past_later call (x ∷ xs) (y ∷ ys) later past = (past_turned call x y later.0 past.0, past_later call xs ys later.1 past.1)

showing_turned : (call k number address size : ℕ) (old new : Stay) → k < call → Turned call old new →
    showing k number address size new ≡ showing k number address size old
showing_turned call k number address size old new less (inl same) = ap (showing k number address size) same
showing_turned call k number address size old new less (inr ends) =
    ap (showing k number address size) ends.3
    ∙ (λ i. nat_le old.born k && ((ends.2 i || nat_lt k call) && is_spot number address size old))
    ∙ (λ i. nat_le old.born k && (less_true k call less i && is_spot number address size old))
    ∙ sym (λ i. nat_le old.born k && ((ends.1 i || nat_lt k old.end) && is_spot number address size old))

showing_new : (call k number address size : ℕ) (new : List Stay) → k < call → AreNew call new → count_shown (showing k number address size) new ≡ 0
showing_new call k number address size [] less are = refl
showing_new call k number address size (x ∷ xs) less are =
    let not_yet : nat_le x.born k ≡ false = least_false x.born k (let is = are.0.born in omega (arith, is, less)) in
    (λ i. bit (not_yet i && ((has_not_ended x || nat_lt k x.end) && is_spot number address size x)) + showing_new call k number address size xs less are.1 i)

-- of a call before it shows what showed
pub showing_later : (call k number address size : ℕ) (old new : List Stay) → k < call → Later call old new →
    count_shown (showing k number address size) new ≡ count_shown (showing k number address size) old
showing_later call k number address size [] new less later = showing_new call k number address size new less later
showing_later call k number address size (x ∷ xs) [] less later = absurd later
showing_later call k number address size (x ∷ xs) (y ∷ ys) less later =
    (λ i. bit (showing_turned call k number address size x y less later.0 i) + showing_later call k number address size xs ys less later.1 i)

showing_one : (call number address size : ℕ) (stay : Stay) → IsPast (suc call) stay → showing call number address size stay ≡ alive number address size stay
showing_one call number address size stay past =
    (λ i. least_true stay.born call (let less = past.born in omega (arith, less)) i &&
    ((has_not_ended stay || nat_lt call stay.end) && is_spot number address size stay))
    ∙ go (has_not_ended stay) refl
  where
    go : (b : Bool) → has_not_ended stay ≡ b → ((b || nat_lt call stay.end) && is_spot number address size stay) ≡ (b && is_spot number address size stay)
    go true is = refl
    go false is = (λ i. less_false call stay.end (let less = past.end is in omega (arith, less)) i && is_spot number address size stay)

-- of the last call those show that go on
pub showing_last : (call number address size : ℕ) (stays : List Stay) → ArePast (suc call) stays →
    count_shown (showing call number address size) stays ≡ count_shown (alive number address size) stays
showing_last call number address size [] past = refl
showing_last call number address size (x ∷ xs) past = (λ i. bit (showing_one call number address size x past.0
    i) + showing_last call number address size xs past.1 i)

shows_one : (calls k number address size : ℕ) (stay : Stay) → k < calls →
    shows_stay k number address size (closed_stay calls stay) ≡ showing k number address size stay
shows_one calls k number address size stay less = go (has_not_ended stay) refl
  where
    go : (b : Bool) → has_not_ended stay ≡ b → shows_stay k number address size
        (if b then ended calls Live stay else stay) ≡ (nat_le
        stay.born k && ((b || nat_lt k stay.end) && is_spot number address size stay))
    go true is = (λ i. nat_le stay.born k && (less_true k calls less i && is_spot number address size stay))
    go false is = refl

-- at the end of the run too
pub shows_all : (calls k number address size : ℕ) (stays : List Stay) → k < calls →
    count_shown (shows_stay k number address size) (map (closed_stay calls) stays) ≡ count_shown
    (showing k number address size) stays
shows_all calls k number address size [] less = refl
shows_all calls k number address size (x ∷ xs) less = (λ i. bit (shows_one calls k number address size x less i) + shows_all
    calls k number address size xs less i)
