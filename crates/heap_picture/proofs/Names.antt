-- The blocks that a run leaves have their names.
use Rattle.std.proofs.Common.{◌≡◌, ◌<◌, ℕ, suc, ◌+◌, ◌-◌, Bool, true, false, ◌&&◌, nat_eq, nat_le, nat_lt, List, [], ◌∷◌, length, length-append, map, inl, inr, Option, None, Some, refl, sym, ◌∙◌, ap, arith}
use Rattle.std.specs.Prelude.{◌↔◌, IsTrue, find, if◌then◌else◌, cond}
use Rattle.std.specs.Option.{option_map}
use Rattle.std.specs.BTreeMap.{BTreeMap, get, is_at}
use Rattle.std.specs.Ordering.{nat_cmp}
use Rattle.std.proofs.lemmas.Bool.Decides.{nat_tests}
use Rattle.heap_history.specs.declared.history.Stay.{Stay}
use Rattle.heap_map.specs.Blocks.{named_at}
use Rattle.heap_map.specs.declared.blocks.NamedBlock.{NamedBlock}
use Rattle.machine_model.specs.declared.answer.Answer.{Answer}
use Rattle.machine_model.specs.declared.call.Call.{Call}
use Rattle.machine_model.specs.Answer.{after}
use Rattle.machine_model.specs.Run.{IsAllowedRun, IsGood, last_state}
use Rattle.machine_model.specs.State.{State, Block, block_at, start}
use Rattle.heap_recorder.specs.Run.{Notes, nothing, noted, notes_from, moment, bytes_after, history_of}
use Rattle.heap_recorder.specs.Shown.{count_shown, shows_stay, lies, has_block, state_after, EachBlockIsDrawnOnce}
use Rattle.heap_recorder.specs.Sizes.{sizes_after}
use Rattle.heap_picture.specs.Blocks.{remains, remains_at, name_of, block_at_end, EachBlockHasItsName}

-- ---- a map of the blocks

same_test : (a b : ℕ) → is_at (nat_cmp a) b ≡ nat_eq a b
same_test a b = grind (arith, nat_tests)

-- the block of a stay that is there is put at its address
pub block_put : (calls : ℕ) (stay : Stay) (old new : BTreeMap ℕ NamedBlock) (key : ℕ) (value : NamedBlock) →
    remains calls stay ≡ true → key ≡ stay.address → value ≡ name_of stay →
    ((q : ℕ) → get nat_cmp new q ≡ cond (is_at (nat_cmp key) q) (Some value) (get nat_cmp old q)) → (address : ℕ) →
    named_at new address ≡ (if remains_at calls address stay then Some (name_of stay) else named_at old address)
block_put calls stay old new key value there key_is value_is put address =
    put address
    ∙ ap (λ (k : ℕ). if is_at (nat_cmp k) address then Some value else named_at old address) key_is
    ∙ ap (λ (b : NamedBlock). if is_at (nat_cmp stay.address) address then Some b else named_at old address) value_is
    ∙ ap (λ (t : Bool). if t then Some (name_of stay) else named_at old address) (same_test stay.address address)
    ∙ sym (ap (λ (t : Bool). if t && nat_eq stay.address address then Some (name_of stay) else named_at old address) there)

-- and no other
pub block_passed : (calls : ℕ) (stay : Stay) (old : BTreeMap ℕ NamedBlock) → remains calls stay ≡ false → (address : ℕ) →
    named_at old address ≡ (if remains_at calls address stay then Some (name_of stay) else named_at old address)
block_passed calls stay old gone address = sym (ap (λ (t : Bool). if t && nat_eq stay.address address then Some (name_of stay) else named_at old address) gone)

-- one stay more, at the front
pub block_step : (calls : ℕ) (stay : Stay) (stays : List Stay) (address : ℕ) →
    block_at_end calls (stay ∷ stays) address ≡ (if remains_at calls address stay then Some (name_of stay) else block_at_end
    calls stays address)
block_step calls stay stays address = go (remains_at calls address stay)
  where
    go : (b : Bool) → option_map name_of (cond b (Some stay) (find (remains_at calls address) stays)) ≡ (if b then Some
        (name_of stay) else block_at_end calls stays address)
    go true = refl
    go false = refl

-- ---- what shows after the last call

none_some : {A : Type 0} (x : A) → None ≡ Some x → ⊥
none_some x is = cc

some_is : {A : Type 0} (x y : A) → Some x ≡ Some y → x ≡ y
some_is x y is = cc

same_number : (m n : ℕ) → nat_eq m n ≡ true → m ≡ n
same_number m n same = grind (arith, nat_tests, same)

left_true : (a b : Bool) → (a && b) ≡ true → a ≡ true
left_true true b both = refl
left_true false b both = both

right_true : (a b : Bool) → (a && b) ≡ true → b ≡ true
right_true true b both = both
right_true false b both = absurd (let wrong : false ≡ true = both in cc)

abbrev bit : Bool → ℕ
bit b = if b then 1 else 0

-- a stay that is there shows
there_shows : (calls : ℕ) (stay : Stay) (address : ℕ) → 0 < calls → remains_at calls address stay ≡ true →
    shows_stay (calls - 1) stay.block address stay.size stay ≡ true
there_shows calls stay address some there =
    let born = left_true (nat_lt stay.born calls) (nat_le calls stay.end) (left_true (remains calls stay) (nat_eq stay.address address) there) in
    let end = right_true (nat_lt stay.born calls) (nat_le calls stay.end) (left_true (remains calls stay) (nat_eq stay.address address) there) in
    let at = right_true (remains calls stay) (nat_eq stay.address address) there in
    grind (arith, nat_tests, some, born, end, at)

-- and one that shows is there
shows_there : (calls number address size : ℕ) (stay : Stay) → 0 < calls →
    shows_stay (calls - 1) number address size stay ≡ true → remains_at calls address stay ≡ true
shows_there calls number address size stay some is =
    let born = left_true (nat_le stay.born (calls - 1)) (nat_lt (calls - 1) stay.end &&
    (nat_eq stay.block number && (nat_eq stay.address address && nat_eq stay.size size))) is in
    let rest = right_true (nat_le stay.born (calls - 1)) (nat_lt (calls - 1) stay.end &&
    (nat_eq stay.block number && (nat_eq stay.address address && nat_eq stay.size size))) is in
    let end = left_true (nat_lt (calls - 1) stay.end) (nat_eq stay.block number && (nat_eq stay.address address && nat_eq stay.size size)) rest in
    let spot = right_true (nat_lt (calls - 1) stay.end) (nat_eq stay.block number && (nat_eq stay.address address && nat_eq stay.size size)) rest in
    let at = left_true (nat_eq stay.address address) (nat_eq stay.size size)
    (right_true (nat_eq stay.block number) (nat_eq stay.address address && nat_eq stay.size size) spot) in
    grind (arith, nat_tests, some, born, end, at)

-- the block at an address is that of a stay which shows
found_shows : (calls : ℕ) (stays : List Stay) (address : ℕ) (block : NamedBlock) → 0 < calls →
    block_at_end calls stays address ≡ Some block → 0 < count_shown (shows_stay (calls - 1) block.number address block.size)
    stays
found_shows calls [] address block some is = absurd (none_some block is)
found_shows calls (stay ∷ stays) address block some is = go (remains_at calls address stay) refl
    (found_shows calls stays address block some) (sym (block_step calls stay stays address) ∙ is)
  where
    go : (b : Bool) → remains_at calls address stay ≡ b → (block_at_end calls stays address ≡ Some block →
        0 < count_shown (shows_stay (calls - 1) block.number address block.size) stays) →
        (if b then Some (name_of stay) else block_at_end calls stays address) ≡ Some block →
        0 < bit (shows_stay (calls - 1) block.number address block.size stay) + count_shown
        (shows_stay (calls - 1) block.number address block.size) stays
    go true there on is =
        (let same = some_is (name_of stay) block is in
        let one : shows_stay (calls - 1) block.number address block.size stay ≡ true =
        ap (λ (b : NamedBlock). shows_stay (calls - 1) b.number address b.size stay) (sym same)
        ∙ there_shows calls stay address some there in
        let here : bit (shows_stay (calls - 1) block.number address block.size stay) ≡ 1 = ap (λ (v : Bool). bit v) one in
        omega (arith, here))
    go false other on is = (let more = on is in omega (arith, more))

-- and where a stay shows there is a block
shows_found : (calls : ℕ) (stays : List Stay) (number address size : ℕ) → 0 < calls →
    0 < count_shown (shows_stay (calls - 1) number address size) stays → (block : NamedBlock) × (block_at_end calls stays
    address ≡ Some block)
shows_found calls [] number address size some less = absurd (omega (arith, less))
shows_found calls (stay ∷ stays) number address size some less =
    let found = go (remains_at calls address stay) refl (shows_found calls stays number address size some) in
    (found.0, block_step calls stay stays address ∙ found.1)
  where
    rest : (v : Bool) → shows_stay (calls - 1) number address size stay ≡ v → remains_at calls address stay ≡ false →
        0 < bit v + count_shown (shows_stay (calls - 1) number address size) stays →
        0 < count_shown (shows_stay (calls - 1) number address size) stays
    rest true is other less = absurd (let wrong : true ≡ false = sym (shows_there calls number address size stay some is) ∙ other in cc)
    rest false is other less = omega (arith, less)

    go : (b : Bool) → remains_at calls address stay ≡ b → (0 < count_shown (shows_stay (calls - 1) number address size)
        stays →
        (block : NamedBlock) × (block_at_end calls stays address ≡ Some block)) →
        (block : NamedBlock) × ((if b then Some (name_of stay) else block_at_end calls stays address) ≡ Some block)
    go true there on = (name_of stay, refl)
    go false other on = on (rest (shows_stay (calls - 1) number address size stay) refl other less)

-- ---- the last state

-- a live block is at its address, with its size
record Lies (address size : ℕ) (found : Option Block) : Type 0 where
  block : Block
  is : found ≡ Some block
  at : block.address ≡ address
  has : block.size ≡ size

lies_of : (address size : ℕ) (found : Option Block) → lies address size found ≡ true → Lies address size found
lies_of address size None is = absurd (let wrong : false ≡ true = is in cc)
lies_of address size (Some block) is = record {
  block = block;
  is = refl;
  at = same_number block.address address (left_true (nat_eq block.address address) (nat_eq block.size size) is);
  has = same_number block.size size (right_true (nat_eq block.address address) (nat_eq block.size size) is);
}

-- two live blocks at one address are one
one_block : (s : State) (address i j size other : ℕ) → IsGood s → has_block s i address size ≡ true →
    has_block s j address other ≡ true → (i ≡ j) × (size ≡ other)
one_block s address i j size other good one two = go (nat_eq i j) refl
  where
    first : Lies address size (block_at s.blocks i)
    first = lies_of address size (block_at s.blocks i) one

    second : Lies address other (block_at s.blocks j)
    second = lies_of address other (block_at s.blocks j) two

    go : (b : Bool) → nat_eq i j ≡ b → (i ≡ j) × (size ≡ other)
    go true is =
        (let same = same_number i j is in
        let blocks : first.block ≡ second.block = some_is first.block second.block (sym first.is ∙ ap (block_at s.blocks) same ∙ second.is) in
        (same, sym first.has ∙ ap (λ (b : Block). b.size) blocks ∙ second.has))
    go false is = absurd (elim (good.apart i j first.block second.block first.is second.is
        (λ same. (let wrong : nat_eq i j ≡ true = grind (arith, nat_tests, same) in let no : true ≡ false = sym wrong ∙ is
        in cc))) [
          | inl below ↦ (let a = first.at in let b = second.at in omega (arith, below, a, b))
          | inr above ↦ (let a = first.at in let b = second.at in omega (arith, above, a, b))
        ])

last_is : (s : State) (calls : List Call) (answers : List Answer) → IsAllowedRun s (map Some calls) (map Some answers) →
    state_after s calls answers (length calls) ≡ last_state s (map Some calls) (map Some answers)
last_is s [] [] run = refl
last_is s (call ∷ calls) (answer ∷ answers) run = last_is (after s call answer) calls answers run.1
last_is s [] (answer ∷ answers) run = absurd run
last_is s (call ∷ calls) [] run = absurd run

last_good : (s : State) (call : Call) (answer : Answer) (calls : List Call) (answers : List Answer) →
    IsAllowedRun s (map Some (call ∷ calls)) (map Some (answer ∷ answers)) →
    IsGood (last_state s (map Some (call ∷ calls)) (map Some (answer ∷ answers)))
last_good s call answer [] [] run = run.0.1
last_good s call answer (next ∷ calls) (given ∷ answers) run = last_good (after s call answer) next given calls answers run.1
last_good s call answer [] (given ∷ answers) run = absurd run.1
last_good s call answer (next ∷ calls) [] run = absurd run.1

one_more : (notes : Notes) (call : Call) (answer : Answer) → length (noted notes call answer).moments ≡ suc (length notes.moments)
one_more notes call answer = let more = length-append notes.moments (moment (sizes_after notes.sizes call answer.reply)
    (bytes_after answer.regions notes.bytes) ∷ []) in omega (arith, more)

moments_all : (s : State) (notes : Notes) (calls : List Call) (answers : List Answer) →
    IsAllowedRun s (map Some calls) (map Some answers) → length (notes_from notes calls answers).moments ≡ length
    notes.moments + length calls
moments_all s notes [] [] run = omega arith
moments_all s notes (call ∷ calls) (answer ∷ answers) run =
    let rest = moments_all (after s call answer) (noted notes call answer) calls answers run.1 in
    let one = one_more notes call answer in
    omega (arith, rest, one)
moments_all s notes [] (answer ∷ answers) run = absurd run
moments_all s notes (call ∷ calls) [] run = absurd run

is_one : (b : Bool) → 0 < bit b → b ≡ true
is_one true less = refl
is_one false less = absurd (omega (arith, less))

-- ---- all together

one_name : (a b : NamedBlock) → a.number ≡ b.number → a.size ≡ b.size → Some a ≡ Some b
one_name a b number size = (λ i. Some (record { number = number i; size = size i }))

-- a state, and stays of which after the last call just its live blocks show
both : (calls : ℕ) (stays : List Stay) (s : State) → 0 < calls → IsGood s →
    ((number address size : ℕ) → count_shown (shows_stay (calls - 1) number address size) stays ≡ bit
    (has_block s number address size)) →
    (address : ℕ) (block : NamedBlock) → (block_at_end calls stays address ≡ Some block) ↔ IsTrue (has_block s block.number address block.size)
both calls stays s some good counts address block = (to block, from)
  where
    to : (b : NamedBlock) → block_at_end calls stays address ≡ Some b → has_block s b.number address b.size ≡ true
    to b is =
        is_one (has_block s b.number address b.size)
        (let less = found_shows calls stays address b some is in
        let count = counts b.number address b.size in
        omega (arith, less, count))

    from : has_block s block.number address block.size ≡ true → block_at_end calls stays address ≡ Some block
    from is =
        (let count : count_shown (shows_stay (calls - 1) block.number address block.size) stays ≡ 1 =
        counts block.number address block.size ∙ ap (λ (v : Bool). bit v) is in
        let found = shows_found calls stays block.number address block.size some (omega (arith, count)) in
        let same = one_block s address found.0.number block.number found.0.size block.size good (to found.0 found.1) is in
        found.1 ∙ one_name found.0 block same.0 same.1)

pub names : EachBlockIsDrawnOnce → EachBlockHasItsName
names each config [] [] run address block = ((λ is. absurd (none_some block is)), (λ is. absurd (let wrong : false ≡ true = is in cc)))
names each config [] (answer ∷ answers) run address block = absurd run
names each config (call ∷ calls) [] run address block = absurd run
names each config (call ∷ calls) (answer ∷ answers) run address block =
    let all = call ∷ calls in
    let given = answer ∷ answers in
    let history = history_of all given in
    let moments : length history.moments ≡ 0 + suc (length calls) = moments_all (start config) nothing all given run in
    let some : 0 < length history.moments = omega (arith, moments) in
    let before : length history.moments - 1 < suc (length calls) = omega (arith, moments) in
    let end : suc (length history.moments - 1) ≡ suc (length calls) = omega (arith, moments) in
    both (length history.moments) history.stays (last_state (start config) (map Some all) (map Some given)) some
    (last_good (start config) call answer calls answers run)
    (λ n at size.
    each config all given run (length history.moments - 1) n at size before
    ∙ ap (λ (k : ℕ). bit (has_block (state_after (start config) all given k) n at size)) end
    ∙ ap (λ (s : State). bit (has_block s n at size)) (last_is (start config) all given run))
    address block
