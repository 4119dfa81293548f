-- The stays that go on are the live blocks.
use Rattle.std.proofs.Common.{◌≡◌, ◌≤◌, ℕ, zero, suc, ◌+◌, ◌-◌, Bool, true, false, ◌&&◌, nat_eq, nat_le, List, [], ◌∷◌, ◌++◌, length, length-append, map, Option, None, Some, MatchOption, option_map, slice_set, refl, sym, ◌∙◌, ap, subst, arith}
use Rattle.std.specs.Prelude.{if◌then◌else◌, cond, find}
use Rattle.std.proofs.lemmas.Bool.Decides.{nat_tests}
use Rattle.heap_history.specs.declared.history.Ending.{Ending}
use Rattle.heap_history.specs.declared.history.Ending.TheVariants.{Freed, Reset as AllEnded, Moved, Resized}
use Rattle.heap_history.specs.declared.history.Stay.{Stay}
use Rattle.machine_model.specs.declared.answer.Answer.{Answer}
use Rattle.machine_model.specs.declared.answer.Reply.{Reply}
use Rattle.machine_model.specs.declared.answer.Reply.TheVariants.{Block as Placed, Done, Bytes, Byte, Accepted, Released}
use Rattle.machine_model.specs.declared.call.Call.{Call}
use Rattle.machine_model.specs.declared.call.Call.TheVariants.{Malloc, Calloc, Realloc, CRealloc, Free, Write, Read, Map, Unmap, Probe, SetGranularity, Reset}
use Rattle.machine_model.specs.declared.region.Region.{Region}
use Rattle.machine_model.specs.State.{State, Block, Cell, Fresh, Known, block_at}
use Rattle.machine_model.specs.Refusal.{own_align, least_align}
use Rattle.machine_model.specs.Answer.{IsReply, IsAllowed, NewPages, after, all_ended, changed, known_block, new_block, new_pages, resized_block, seen_block, slots_of, with_block, with_regions}
use Rattle.heap_recorder.specs.Shown.{is_spot, count_shown, lies}
use Rattle.heap_recorder.specs.Stays.{StayNotes, is_live, has_not_ended, is_stay_of, is_stay_at, why, new_stay, ended, ended_of, ended_now, begun, with_block_freed, resized, resized_from, stays_after}
use Rattle.heap_recorder.proofs.Places.{some_is, none_some, not_true, not_both}

abbrev pub bit : Bool → ℕ
bit b = if b then 1 else 0

-- whether there is a live block at the address with the size
abbrev pub has : List (Option Block) → ℕ → ℕ → ℕ → Bool
has blocks number address size = lies address size (block_at blocks number)

-- whether a stay goes on, and is at the address with the size
abbrev pub alive : ℕ → ℕ → ℕ → Stay → Bool
alive number address size stay = has_not_ended stay && is_spot number address size stay

pub same_number : (m n : ℕ) → nat_eq m n ≡ true → m ≡ n
same_number m n same = grind (arith, nat_tests, same)

equal : (n : ℕ) → nat_eq n n ≡ true
equal n = grind (arith, nat_tests)

turned : (m n : ℕ) (b : Bool) → nat_eq m n ≡ b → nat_eq n m ≡ b
turned m n true same = (let e = same_number m n same in ap (λ (k : ℕ). nat_eq n k) e ∙ equal n)
turned m n false other = not_true (nat_eq n m) (λ same. not_both (nat_eq m n) ((let e = same_number n m same in ap (λ (k : ℕ). nat_eq m k) e ∙ equal m)) other)

pub both_true : (a b : Bool) → a ≡ true → b ≡ true → (a && b) ≡ true
both_true a b one other = ap (λ (v : Bool). v && b) one ∙ other

pub left_true : (a b : Bool) → (a && b) ≡ true → a ≡ true
left_true true b both = refl
left_true false b both = both

pub right_true : (a b : Bool) → (a && b) ≡ true → b ≡ true
right_true true b both = both
right_true false b both = absurd (not_both false both refl)

pub left_false : (a b : Bool) → a ≡ false → (a && b) ≡ false
left_false a b is = ap (λ (v : Bool). v && b) is

pub right_false : (a b : Bool) → b ≡ false → (a && b) ≡ false
right_false true b is = is
right_false false b is = refl

-- ---- blocks

not_zero : (n : ℕ) → nat_eq (suc n) zero ≡ false
not_zero n = not_true (nat_eq (suc n) zero) (λ same. (let e = same_number (suc n) zero same in omega (arith, e)))

zero_not : (n : ℕ) → nat_eq zero (suc n) ≡ false
zero_not n = not_true (nat_eq zero (suc n)) (λ same. (let e = same_number zero (suc n) same in omega (arith, e)))

suc_both : (m n : ℕ) → nat_eq (suc m) (suc n) ≡ nat_eq m n
suc_both m n = go (nat_eq m n) refl
  where
    go : (v : Bool) → nat_eq m n ≡ v → nat_eq (suc m) (suc n) ≡ v
    go true same = (let e = same_number m n same in ap (λ (k : ℕ). nat_eq (suc k) (suc n)) e ∙ equal (suc n))
    go false other = not_true (nat_eq (suc m) (suc n)) (λ same. not_both (nat_eq m n)
        (let e = same_number (suc m) (suc n) same in let f : m ≡ n = omega (arith, e) in ap (λ (k : ℕ). nat_eq k n) f
        ∙ equal n) other)

plus_zero : (n : ℕ) → n + 0 ≡ n
plus_zero n = omega arith

zero_plus : (n : ℕ) → 0 + n ≡ n
zero_plus n = omega arith

at_push : (blocks : List (Option Block)) (b : Option Block) (number : ℕ) →
    block_at (blocks ++ b ∷ []) number ≡ (if nat_eq number (length blocks) then b else block_at blocks number)
at_push [] b zero = refl
at_push [] b (suc number) = ap (λ (v : Bool). if v then b else None) (sym (not_zero number))
at_push (x ∷ xs) b zero = ap (λ (v : Bool). if v then b else x) (sym (zero_not (length xs)))
at_push (x ∷ xs) b (suc number) = at_push xs b number ∙ ap (λ (v : Bool). if v then b else block_at xs number) (sym (suc_both number (length xs)))

at_end : (blocks : List (Option Block)) (number : ℕ) → length blocks ≤ number → block_at blocks number ≡ None
at_end [] number past = refl
at_end (x ∷ xs) zero past = absurd (omega (arith, past))
at_end (x ∷ xs) (suc number) past = at_end xs number (omega (arith, past))

at_set : (blocks : List (Option Block)) (m : ℕ) (b : Option Block) (number : ℕ) → (block_at blocks m ≡ None → b ≡ None) →
    block_at (slice_set blocks m b) number ≡ (if nat_eq number m then b else block_at blocks number)
at_set [] m b number fits = go (nat_eq number m)
  where
    go : (v : Bool) → None ≡ (if v then b else None)
    go true = sym (fits refl)
    go false = refl
at_set (x ∷ xs) zero b zero fits = refl
at_set (x ∷ xs) zero b (suc number) fits = ap (λ (v : Bool). if v then b else block_at xs number) (sym (not_zero number))
at_set (x ∷ xs) (suc m) b zero fits = ap (λ (v : Bool). if v then b else x) (sym (zero_not m))
at_set (x ∷ xs) (suc m) b (suc number) fits = at_set xs m b number fits ∙ ap (λ (v : Bool). if v then b else block_at xs number) (sym (suc_both number m))

at_ended : (blocks : List (Option Block)) (number : ℕ) → block_at (all_ended blocks) number ≡ None
at_ended [] number = refl
at_ended (x ∷ xs) zero = refl
at_ended (x ∷ xs) (suc number) = at_ended xs number

-- a change that moves no block
abbrev Stands : (Block → Block) → Type 0
Stands change = (block : Block) → ((change block).address ≡ block.address) × ((change block).size ≡ block.size)

lies_same : (change : Block → Block) → Stands change → (address size : ℕ) (b : Option Block) → lies address size (option_map change b) ≡ lies address size b
lies_same change stands address size None = refl
lies_same change stands address size (Some block) = (λ i. nat_eq ((stands block).0 i) address && nat_eq ((stands block).1 i) size)

has_kept : (blocks : List (Option Block)) (m : ℕ) (change : Block → Block) → Stands change → (number address size : ℕ) →
    has (with_block blocks m change) number address size ≡ has blocks number address size
has_kept [] m change stands number address size = refl
has_kept (x ∷ xs) zero change stands zero address size = lies_same change stands address size x
has_kept (x ∷ xs) zero change stands (suc number) address size = refl
has_kept (x ∷ xs) (suc m) change stands zero address size = refl
has_kept (x ∷ xs) (suc m) change stands (suc number) address size = has_kept xs m change stands number address size

has_all : (blocks : List (Option Block)) (change : Block → Block) → Stands change → (number address size : ℕ) →
    has (map (option_map change) blocks) number address size ≡ has blocks number address size
has_all [] change stands number address size = refl
has_all (x ∷ xs) change stands zero address size = lies_same change stands address size x
has_all (x ∷ xs) change stands (suc number) address size = has_all xs change stands number address size

length_set : (blocks : List (Option Block)) (m : ℕ) (b : Option Block) → length (slice_set blocks m b) ≡ length blocks
length_set [] m b = refl
length_set (x ∷ xs) zero b = refl
length_set (x ∷ xs) (suc m) b = ap suc (length_set xs m b)

length_all : (f : Option Block → Option Block) (blocks : List (Option Block)) → length (map f blocks) ≡ length blocks
length_all f [] = refl
length_all f (x ∷ xs) = ap suc (length_all f xs)

-- ---- counts

pub shown_push : (test : Stay → Bool) (stays : List Stay) (stay : Stay) → count_shown test (stays ++ stay ∷ []) ≡ count_shown test stays + bit (test stay)
shown_push test [] stay = omega arith
shown_push test (x ∷ xs) stay = let rest = shown_push test xs stay in omega (arith, rest)

shown_map : (test : Stay → Bool) (change : Stay → Stay) → ((stay : Stay) → test (change stay) ≡ test stay) →
    (stays : List Stay) → count_shown test (map change stays) ≡ count_shown test stays
shown_map test change same [] = refl
shown_map test change same (x ∷ xs) = (λ i. bit (same x i) + shown_map test change same xs i)

shown_none : (test : Stay → Bool) (change : Stay → Stay) → ((stay : Stay) → test (change stay) ≡ false) →
    (stays : List Stay) → count_shown test (map change stays) ≡ 0
shown_none test change none [] = refl
shown_none test change none (x ∷ xs) = (λ i. bit (none x i) + shown_none test change none xs i)

-- ---- one block's stay ends

alive_of : (number address size : ℕ) (stay : Stay) → is_stay_of number stay ≡ false → alive number address size stay ≡ false
alive_of number address size stay fails = go (has_not_ended stay) refl
  where
    go : (b : Bool) → has_not_ended stay ≡ b → (b && is_spot number address size stay) ≡ false
    go true is = left_false (nat_eq stay.block number) (nat_eq stay.address address && nat_eq stay.size size)
        (ap (λ (v : Bool). v && nat_eq stay.block number) (sym is) ∙ fails)
    go false is = refl

alive_ended : (call m : ℕ) (ending : Ending) (number address size : ℕ) → is_live ending ≡ false → m ≡ number →
    (stay : Stay) → alive number address size (ended_of m call ending stay) ≡ false
alive_ended call m ending number address size over same stay = go (is_stay_of m stay) refl
  where
    go : (b : Bool) → is_stay_of m stay ≡ b → alive number address size (if b then ended call ending stay else stay) ≡ false
    go true is = left_false (is_live ending) (is_spot number address size stay) over
    go false is = alive_of number address size stay (ap (λ (n : ℕ). is_stay_of n stay) (sym same) ∙ is)

alive_other : (call m : ℕ) (ending : Ending) (number address size : ℕ) → is_live ending ≡ false → nat_eq m number ≡ false →
    (stay : Stay) → alive number address size (ended_of m call ending stay) ≡ alive number address size stay
alive_other call m ending number address size over other stay = go (is_stay_of m stay) refl
  where
    go : (b : Bool) → is_stay_of m stay ≡ b → alive number address size (if b then ended call ending stay else stay) ≡ alive number address size stay
    go true is =
        (let block : stay.block ≡ m = same_number stay.block m (right_true (has_not_ended stay) (nat_eq stay.block m) is) in
        left_false (is_live ending) (is_spot number address size stay) over
        ∙ sym (right_false (has_not_ended stay) (is_spot number address size stay)
        (left_false (nat_eq stay.block number) (nat_eq stay.address address && nat_eq stay.size size)
        (ap (λ (n : ℕ). nat_eq n number) block ∙ other))))
    go false is = refl

alive_reset : (call number address size : ℕ) (stay : Stay) → alive number address size (ended_now call stay) ≡ false
alive_reset call number address size stay = go (has_not_ended stay) refl
  where
    go : (b : Bool) → has_not_ended stay ≡ b → alive number address size
        (if b then ended call AllEnded stay else stay) ≡ false
    go true is = refl
    go false is = left_false (has_not_ended stay) (is_spot number address size stay) is

-- ---- the block's stay is found

alive_self : (number : ℕ) (stay : Stay) → is_stay_of number stay ≡ true → alive number stay.address stay.size stay ≡ true
alive_self number stay is =
    both_true (has_not_ended stay) (is_spot number stay.address stay.size stay) (left_true (has_not_ended stay) (nat_eq stay.block number) is)
    (both_true (nat_eq stay.block number) (nat_eq stay.address stay.address && nat_eq stay.size stay.size)
    (right_true (has_not_ended stay) (nat_eq stay.block number) is)
    (both_true (nat_eq stay.address stay.address) (nat_eq stay.size stay.size) (equal stay.address) (equal stay.size)))

-- what is found is the block's, and counts
record IsFound (number : ℕ) (stays : List Stay) (found : Stay) : Type 0 where
  of : is_stay_of number found ≡ true
  counts : 1 ≤ count_shown (alive number found.address found.size) stays

found_step : (number : ℕ) (x : Stay) (xs : List Stay) (found : Stay) → find (is_stay_of number) (x ∷ xs) ≡ Some found →
    (find (is_stay_of number) xs ≡ Some found → IsFound number xs found) → IsFound number (x ∷ xs) found
found_step number x xs found is rest = go (is_stay_of number x) refl is
  where
    go : (b : Bool) → is_stay_of number x ≡ b → cond {A = Option Stay} b (Some x) (find (is_stay_of number) xs) ≡ Some found → IsFound number (x ∷ xs) found
    go true of here =
        (let same : x ≡ found = some_is x found here in
        let is_found : is_stay_of number found ≡ true = ap (is_stay_of number) (sym same) ∙ of in
        let one : bit (alive number found.address found.size x) ≡ 1 = ap bit
        (ap (alive number found.address found.size) same ∙ alive_self number found is_found) in
        record { of = is_found; counts = omega (arith, one) })
    go false of later = (let more = rest later in let least = more.counts in record { of = more.of; counts = omega (arith, least) })

found_counts : (number : ℕ) (stays : List Stay) (found : Stay) → find (is_stay_of number) stays ≡ Some found → IsFound number stays found
found_counts number [] found is = absurd (none_some found is)
found_counts number (x ∷ xs) found is = found_step number x xs found is (found_counts number xs found)

none_step : (number address size : ℕ) (x : Stay) (xs : List Stay) → find (is_stay_of number) (x ∷ xs) ≡ None →
    (find (is_stay_of number) xs ≡ None → count_shown (alive number address size) xs ≡ 0) →
    count_shown (alive number address size) (x ∷ xs) ≡ 0
none_step number address size x xs is rest = go (is_stay_of number x) refl is
  where
    go : (b : Bool) → is_stay_of number x ≡ b → cond {A = Option Stay} b (Some x) (find (is_stay_of number) xs) ≡ None →
        count_shown (alive number address size) (x ∷ xs) ≡ 0
    go true of here = absurd (none_some x (sym here))
    go false of later = (λ i. bit (alive_of number address size x of i) + rest later i)

none_counts : (number address size : ℕ) (stays : List Stay) → find (is_stay_of number) stays ≡ None → count_shown (alive number address size) stays ≡ 0
none_counts number address size [] is = refl
none_counts number address size (x ∷ xs) is = none_step number address size x xs is (none_counts number address size xs)

-- ---- after each call

-- the stays that go on are the live blocks, and as many blocks began
pub record Tracks (blocks : List (Option Block)) (notes : StayNotes) : Type 0 where
  pub counts : (number address size : ℕ) → count_shown (alive number address size) notes.stays ≡ bit (has blocks number address size)
  pub begun : notes.begun ≡ length blocks

begun_counts : (call address size align : ℕ) (cell : Cell) (blocks : List (Option Block)) (notes : StayNotes) → Tracks blocks notes → (number a n : ℕ) →
    count_shown (alive number a n) (notes.stays ++ new_stay call notes.begun address size ∷ []) ≡ bit
    (has (blocks ++ new_block address size align cell ∷ []) number a n)
begun_counts call address size align cell blocks notes tracks number a n =
    shown_push (alive number a n) notes.stays (new_stay call notes.begun address size) ∙ go (nat_eq notes.begun number) refl
  where
    here : Bool
    here = nat_eq address a && nat_eq size n

    put : Option Block
    put = new_block address size align cell

    go : (v : Bool) → nat_eq notes.begun number ≡ v → count_shown (alive number a n) notes.stays + bit
        (nat_eq notes.begun number && here) ≡ bit (has (blocks ++ put ∷ []) number a n)
    go true is =
        (let same : notes.begun ≡ number = same_number notes.begun number is in
        let last : number ≡ length blocks = sym same ∙ tracks.begun in
        let none : count_shown (alive number a n) notes.stays ≡ 0 = tracks.counts number a n
        ∙ ap (λ (o : Option Block). bit (lies a n o)) (at_end blocks number (omega (arith, last))) in
        let found : nat_eq number (length blocks) ≡ true = ap (λ (k : ℕ). nat_eq number k) (sym last) ∙ equal number in
        (λ i. none i + bit (is i && here))
        ∙ zero_plus (bit here)
        ∙ sym (ap (λ (o : Option Block). bit (lies a n o)) (at_push blocks put number ∙ ap (λ (v : Bool). if v then put else block_at blocks number) found)))
    go false is =
        (let other : nat_eq number (length blocks) ≡ false = ap (λ (k : ℕ). nat_eq number k) (sym tracks.begun) ∙ turned notes.begun number false is in
        (λ i. tracks.counts number a n i + bit (is i && here))
        ∙ plus_zero (bit (has blocks number a n))
        ∙ sym (ap (λ (o : Option Block). bit (lies a n o)) (at_push blocks put number ∙ ap (λ (v : Bool). if v then put else block_at blocks number) other)))

tracked_begun : (call address size align : ℕ) (cell : Cell) (blocks : List (Option Block)) (notes : StayNotes) →
    Tracks blocks notes → Tracks (blocks ++ new_block address size align cell ∷ []) (begun call address size notes)
tracked_begun call address size align cell blocks notes tracks = record {
  counts = begun_counts call address size align cell blocks notes tracks;
  begun = let more = length-append blocks (new_block address size align cell ∷ []) in let same = tracks.begun in omega (arith, more, same);
}

freed_counts : (call m : ℕ) (blocks : List (Option Block)) (notes : StayNotes) → Tracks blocks notes → (number a n : ℕ) →
    count_shown (alive number a n) (map (ended_of m call Freed) notes.stays) ≡ bit
    (has (slice_set blocks m None) number a n)
freed_counts call m blocks notes tracks number a n = go (nat_eq m number) refl
  where
    go : (v : Bool) → nat_eq m number ≡ v → count_shown (alive number a n) (map (ended_of m call Freed) notes.stays) ≡ bit
        (has (slice_set blocks m None) number a n)
    go true is =
        shown_none (alive number a n) (ended_of m call Freed) (alive_ended call m Freed number a n refl (same_number m number is)) notes.stays
        ∙ sym (ap (λ (o : Option Block). bit (lies a n o)) (at_set blocks m None number (λ none. refl)
        ∙ ap (λ (v : Bool). if v then None else block_at blocks number) (turned m number true is)))
    go false is =
        shown_map (alive number a n) (ended_of m call Freed) (alive_other call m Freed number a n refl is) notes.stays
        ∙ tracks.counts number a n
        ∙ sym (ap (λ (o : Option Block). bit (lies a n o)) (at_set blocks m None number (λ none. refl)
        ∙ ap (λ (v : Bool). if v then None else block_at blocks number) (turned m number false is)))

tracked_freed : (call m : ℕ) (blocks : List (Option Block)) (notes : StayNotes) → Tracks blocks notes →
    Tracks (slice_set blocks m None) (with_block_freed call m notes)
tracked_freed call m blocks notes tracks = record { counts = freed_counts call m blocks notes tracks; begun = tracks.begun ∙ sym (length_set blocks m None) }

-- what is at a number after a block has another place or size
has_resized : (address size : ℕ) (align : Block → ℕ) (m : ℕ) (block : Block) (blocks : List (Option Block)) →
    block_at blocks m ≡ Some block → (number a n : ℕ) →
    has (with_block blocks m (resized_block address size align)) number a
    n ≡ (if nat_eq number m then (nat_eq address a && nat_eq size n) else has blocks number a n)
has_resized address size align m block blocks is number a n =
    ap (λ (o : Option Block). has (slice_set blocks m (option_map (resized_block address size align) o)) number a n) is
    ∙ ap (lies a n) (at_set blocks m (Some (resized_block address size align block)) number (λ none. absurd (none_some block (sym none ∙ is))))
    ∙ go (nat_eq number m)
  where
    go : (v : Bool) → lies a n (if v then Some (resized_block address size align block) else block_at blocks number) ≡ (if v
        then (nat_eq address a && nat_eq size n) else has blocks number a n)
    go true = refl
    go false = refl

bit_one : (b : Bool) → 1 ≤ bit b → b ≡ true
bit_one true one = refl
bit_one false one = absurd (omega (arith, one))

-- the block's stay is where the block is
record IsWhere (block : Block) (found : Stay) : Type 0 where
  address : block.address ≡ found.address
  size : block.size ≡ found.size

where_found : (m : ℕ) (block : Block) (blocks : List (Option Block)) (notes : StayNotes) (found : Stay) →
    Tracks blocks notes → block_at blocks m ≡ Some block → find (is_stay_of m) notes.stays ≡ Some found →
    IsWhere block found
where_found m block blocks notes found tracks at is =
    let counts = (found_counts m notes.stays found is).counts in
    let count : count_shown (alive m found.address found.size) notes.stays ≡ bit
    (nat_eq block.address found.address && nat_eq block.size found.size) = tracks.counts m found.address found.size
    ∙ ap (λ (o : Option Block). bit (lies found.address found.size o)) at in
    let both = bit_one (nat_eq block.address found.address && nat_eq block.size found.size) (subst (λ (k : ℕ). 1 ≤ k) count counts) in
    record {
      address = same_number block.address found.address (left_true (nat_eq block.address found.address) (nat_eq block.size found.size) both);
      size = same_number block.size found.size (right_true (nat_eq block.address found.address) (nat_eq block.size found.size) both);
    }

never_none : (m : ℕ) (block : Block) (blocks : List (Option Block)) (notes : StayNotes) → Tracks blocks notes →
    block_at blocks m ≡ Some block → find (is_stay_of m) notes.stays ≡ None → ⊥
never_none m block blocks notes tracks at none =
    let count : count_shown (alive m block.address block.size) notes.stays ≡ bit
    (nat_eq block.address block.address && nat_eq block.size block.size) = tracks.counts m block.address block.size
    ∙ ap (λ (o : Option Block). bit (lies block.address block.size o)) at in
    let one : bit (nat_eq block.address block.address && nat_eq block.size block.size) ≡ 1 =
    ap bit (both_true (nat_eq block.address block.address) (nat_eq block.size block.size) (equal block.address)
    (equal block.size)) in
    let zero_is = none_counts m block.address block.size notes.stays none in
    let wrong : 0 ≡ 1 = sym zero_is ∙ count ∙ one in
    omega (arith, wrong)

-- it had this address and size already
stayed_counts : (address size : ℕ) (align : Block → ℕ) (m : ℕ) (block : Block) (blocks : List (Option Block))
    (notes : StayNotes) → Tracks blocks notes → block_at blocks m ≡ Some block → block.address ≡ address →
    block.size ≡ size → (number a n : ℕ) →
    count_shown (alive number a n) notes.stays ≡ bit (has (with_block blocks m (resized_block address size align)) number a
    n)
stayed_counts address size align m block blocks notes tracks at here long number a n = tracks.counts number a n
    ∙ sym (ap bit (has_resized address size align m block blocks at number a n ∙ go (nat_eq number m) refl))
  where
    go : (v : Bool) → nat_eq number m ≡ v → (if v then (nat_eq address a && nat_eq size n) else has blocks number a n) ≡ has blocks number a n
    go true is = sym (ap (λ (k : ℕ). has blocks k a n) (same_number number m is) ∙ ap (lies a n) at ∙ (λ i. nat_eq (here i) a && nat_eq (long i) n))
    go false is = refl

-- it had another one
moved_counts : (call address size : ℕ) (align : Block → ℕ) (m : ℕ) (ending : Ending) (block : Block)
    (blocks : List (Option Block)) (notes : StayNotes) → is_live ending ≡ false → Tracks blocks notes →
    block_at blocks m ≡ Some block → (number a n : ℕ) →
    count_shown (alive number a n) (map (ended_of m call ending) notes.stays ++ new_stay call m address size ∷ []) ≡ bit
    (has (with_block blocks m (resized_block address size align)) number a n)
moved_counts call address size align m ending block blocks notes over tracks at number a n =
    shown_push (alive number a n) (map (ended_of m call ending) notes.stays) (new_stay call m address size)
    ∙ go (nat_eq m number) refl ∙ sym (ap bit (has_resized address size align m block blocks at number a n))
  where
    go : (v : Bool) → nat_eq m number ≡ v →
        count_shown (alive number a n) (map (ended_of m call ending) notes.stays) + bit
        (nat_eq m number && (nat_eq address a && nat_eq size n)) ≡ bit
        (if nat_eq number m then (nat_eq address a && nat_eq size n) else has blocks number a n)
    go true is =
        (let none : count_shown (alive number a n) (map (ended_of m call ending) notes.stays) ≡ 0 =
        shown_none (alive number a n) (ended_of m call ending) (alive_ended call m ending number a n over
        (same_number m number is)) notes.stays in
        (λ i. none i + bit (is i && (nat_eq address a && nat_eq size n)))
        ∙ zero_plus (bit (nat_eq address a && nat_eq size n))
        ∙ sym (ap (λ (v : Bool). bit (if v then (nat_eq address a && nat_eq size n) else has blocks number a n)) (turned m number true is)))
    go false is =
        (let same : count_shown (alive number a n) (map (ended_of m call ending) notes.stays) ≡ bit (has blocks number a n) =
        shown_map (alive number a n) (ended_of m call ending) (alive_other call m ending number a n over is) notes.stays ∙ tracks.counts number a n in
        (λ i. same i + bit (is i && (nat_eq address a && nat_eq size n)))
        ∙ plus_zero (bit (has blocks number a n))
        ∙ sym (ap (λ (v : Bool). bit (if v then (nat_eq address a && nat_eq size n) else has blocks number a n)) (turned m number false is)))

pub why_over : (address : ℕ) (stay : Stay) → is_live (why address stay) ≡ false
why_over address stay = go (nat_eq stay.address address)
  where
    go : (b : Bool) → is_live (if b then Resized else Moved) ≡ false
    go true = refl
    go false = refl

tracked_resized : (call address size : ℕ) (align : Block → ℕ) (m : ℕ) (block : Block) (blocks : List (Option Block))
    (notes : StayNotes) → Tracks blocks notes → block_at blocks m ≡ Some block →
    Tracks (with_block blocks m (resized_block address size align)) (resized call m address size notes)
tracked_resized call address size align m block blocks notes tracks at = go (find (is_stay_of m) notes.stays) refl
  where
    long : notes.begun ≡ length (with_block blocks m (resized_block address size align))
    long = tracks.begun ∙ sym (length_set blocks m (option_map (resized_block address size align) (block_at blocks m)))

    go_at : (found : Stay) → IsWhere block found → (v : Bool) → is_stay_at address size found ≡ v →
        Tracks (with_block blocks m (resized_block address size align)) (if v then notes
        else record {
          begun = notes.begun;
          stays = map (ended_of m call (why address found)) notes.stays ++ new_stay
              call m address size ∷ [];
        })
    go_at found is true here = record {
      counts = stayed_counts address size align m block blocks notes tracks at
          (is.address ∙ same_number found.address address (left_true (nat_eq found.address address) (nat_eq found.size size) here))
          (is.size ∙ same_number found.size size (right_true (nat_eq found.address address) (nat_eq found.size size) here));
      begun = long;
    }
    go_at found is false other = record {
      counts = moved_counts call address size align m (why address found) block blocks
          notes (why_over address found) tracks at;
      begun = long;
    }

    go : (o : Option Stay) → find (is_stay_of m) notes.stays ≡ o → Tracks (with_block blocks m
        (resized_block address size align)) (resized_from call m address size o notes)
    go None none = absurd (never_none m block blocks notes tracks at none)
    go (Some found) is = go_at found (where_found m block blocks notes found tracks at is) (is_stay_at address size found)
        refl

tracked_found : (Q : Block → Type 0) (call address size : ℕ) (align : Block → ℕ) (m : ℕ) (blocks : List (Option Block))
    (notes : StayNotes) (found : Option Block) → Tracks blocks notes → block_at blocks m ≡ found → MatchOption found ⊥ Q →
    Tracks (with_block blocks m (resized_block address size align)) (resized call m address size notes)
tracked_found Q call address size align m blocks notes None tracks is live = absurd live
tracked_found Q call address size align m blocks notes (Some block) tracks is live = tracked_resized call address size align m block blocks notes tracks is

reset_counts : (call : ℕ) (blocks : List (Option Block)) (notes : StayNotes) (number a n : ℕ) →
    count_shown (alive number a n) (map (ended_now call) notes.stays) ≡ bit (has (all_ended blocks) number a n)
reset_counts call blocks notes number a n = shown_none (alive number a n) (ended_now call) (alive_reset call number a n)
    notes.stays ∙ sym (ap (λ (o : Option Block). bit (lies a n o)) (at_ended blocks number))

seen_stands : (at byte : ℕ) → Stands (seen_block at byte)
seen_stands at byte block = go (nat_le block.address at)
  where
    go : (b : Bool) → ((if b then known_block (at - block.address) (byte ∷ []) block
        else block).address ≡ block.address) × ((if b then known_block (at - block.address) (byte ∷ []) block
        else block).size ≡ block.size)
    go true = (refl, refl)
    go false = (refl, refl)

tracked_kept : (m : ℕ) (change : Block → Block) → Stands change → (blocks : List (Option Block)) (notes : StayNotes) →
    Tracks blocks notes → Tracks (with_block blocks m change) notes
tracked_kept m change stands blocks notes tracks = record {
  counts = λ number a n. tracks.counts number a n ∙ sym (ap bit (has_kept blocks m change stands number a n));
  begun = tracks.begun ∙ sym (length_set blocks m (option_map change (block_at blocks m)));
}

-- what the reply changes of the blocks, it changes of the stays
reply_tracked : (number : ℕ) (s : State) (call : Call) (reply : Reply) (regions : Option (List Region))
    (notes : StayNotes) → IsReply s call reply regions → Tracks s.blocks notes →
    Tracks (changed s call reply).blocks (stays_after number call reply notes)
reply_tracked k s (Malloc size align) (Placed number address) regions notes is tracks = tracked_begun k address size align Fresh s.blocks notes tracks
reply_tracked k s (Calloc size align) (Placed number address) regions notes is tracks = tracked_begun k address size align (Known 0) s.blocks notes tracks
reply_tracked k s (Realloc number size) (Placed given address) regions notes is tracks =
    tracked_found _ k address size own_align number s.blocks notes (block_at s.blocks number) tracks refl is.1.1
reply_tracked k s (CRealloc number size) (Placed given address) regions notes is tracks =
    tracked_found _ k address size least_align number s.blocks notes (block_at s.blocks number) tracks refl is.1.1
reply_tracked k s (Free number) Done regions notes is tracks = tracked_freed k number s.blocks notes tracks
reply_tracked k s (Write number offset bytes) Done regions notes is tracks =
    tracked_kept number (known_block offset bytes) (λ block. (refl, refl)) s.blocks notes tracks
reply_tracked k s (Read number offset count) (Bytes bytes) regions notes is tracks =
    tracked_kept number (known_block offset bytes) (λ block. (refl, refl)) s.blocks notes tracks
reply_tracked k s (Map start pages rights) Done regions notes is tracks = tracks
reply_tracked k s (Unmap start pages) Done regions notes is tracks = tracks
reply_tracked k s (Probe at access user) (Byte byte) regions notes is tracks = record {
  counts = λ number a n. tracks.counts number a n ∙ sym (ap bit (has_all s.blocks (seen_block at byte) (seen_stands at byte) number a n));
  begun = tracks.begun ∙ sym (length_all (option_map (seen_block at byte)) s.blocks);
}
reply_tracked k s (SetGranularity granularity) (Accepted true) regions notes is tracks = tracks
reply_tracked k s (SetGranularity granularity) (Accepted false) regions notes is tracks = tracks
reply_tracked k s Reset (Released bytes) regions notes is tracks = record {
  counts = reset_counts k s.blocks notes;
  begun =
      tracks.begun ∙ sym (length_all (λ (block : Option Block). None) s.blocks);
}
reply_tracked k s call reply regions notes is tracks = tracks

-- regions change no block
regions_blocks : (s : State) (regions : Option (List Region)) (new : Option NewPages) (slots : List ℕ) → (with_regions s regions new slots).blocks ≡ s.blocks
regions_blocks s None None slots = refl
regions_blocks s None (Some new) slots = refl
regions_blocks s (Some list) None slots = refl
regions_blocks s (Some list) (Some new) slots = refl

pub tracked : (number : ℕ) (s : State) (call : Call) (answer : Answer) (notes : StayNotes) → IsAllowed s call answer →
    Tracks s.blocks notes → Tracks (after s call answer).blocks (stays_after number call answer.reply notes)
tracked number s call answer notes allowed tracks =
    subst (λ (blocks : List (Option Block)). Tracks blocks (stays_after number call answer.reply notes))
    (sym (regions_blocks (changed s call answer.reply) answer.regions (new_pages s call answer.reply answer.regions) (slots_of answer.large)))
    (reply_tracked number s call answer.reply answer.regions notes allowed.reply tracks)
