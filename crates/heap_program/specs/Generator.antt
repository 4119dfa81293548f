-- The calls that are drawn from a seed.
use Rattle.std.specs.Prelude.{ℕ, ◌+◌, ◌-◌, ◌*◌, ◌/◌, ◌%◌, ◌^◌, min, bit_xor, ◌==◌, ◌&&◌, nat_le, List, [], ◌∷◌, slice_index_or, if◌then◌else◌}
use Rattle.machine_model.specs.declared.answer.Answer.{Answer}
use Rattle.machine_model.specs.declared.answer.Reply.{Reply}
use Rattle.machine_model.specs.declared.answer.Reply.TheVariants.{Block, Refused}
use Rattle.machine_model.specs.declared.call.Call.{Call}
use Rattle.machine_model.specs.declared.call.Call.TheVariants.{Malloc, Calloc, Realloc, Write, Free}

-- A draw from a state of 64 bits: the xorshift generator with the shifts 13, 7 and 17. The number drawn is the next state.
unfoldable pub drawn : ℕ → ℕ
drawn x =
    let left = bit_xor x (x * 2 ^ 13 % 2 ^ 64) in
    let right = bit_xor left (left / 2 ^ 7) in
    bit_xor right (right * 2 ^ 17 % 2 ^ 64)

-- the first state; at 0 every draw is 0
abbrev pub first_state : ℕ → ℕ
first_state seed = if seed == 0 then 1 else seed

-- one of the last 64 numbers given
abbrev pub pick : ℕ → ℕ → ℕ
pick given c = given - 1 - c / 2 ^ 8 % min given 64

-- which call it is; if no number is given there is no block to name
abbrev pub call_kind : ℕ → ℕ → ℕ
call_kind given a = if given == 0 && nat_le 3 (a % 8) then 0 else a % 8

-- the call of three numbers drawn, if this many numbers were given
unfoldable pub call_of_draws : ℕ → ℕ → ℕ → ℕ → Call
call_of_draws given a b c =
    let size = b % 4096 in
    let block = pick given c in
    slice_index_or (Malloc size 16 ∷ Malloc size (2 ^ (c % 16)) ∷ Calloc size 16 ∷ Realloc block size ∷ Write block 0 (b % 256 ∷ []) ∷ []) (call_kind given a) (Free block)

-- the call that comes next from a state of the generator
unfoldable pub drawn_call : ℕ → ℕ → Call
drawn_call state given = let a = drawn state in let b = drawn a in call_of_draws given a b (drawn b)

-- the state after its three draws
unfoldable pub drawn_thrice : ℕ → ℕ
drawn_thrice state = drawn (drawn (drawn state))

-- how many numbers the reply to a call gives
abbrev pub numbers_given : Call → Reply → ℕ
numbers_given (Malloc size align) (Block number address) = 1
numbers_given (Calloc size align) (Block number address) = 1
numbers_given call reply = 0

-- The calls to which these are the answers: each is drawn from the state that the one before left and from the numbers given by
-- the answers before.
abbrev pub drawn_calls : ℕ → ℕ → List Answer → List Call
drawn_calls state given [] = []
drawn_calls state given (answer ∷ answers) =
    let call = drawn_call state given in call ∷ drawn_calls (drawn_thrice state) (given + numbers_given call answer.reply) answers

-- how many numbers were given by these answers
abbrev pub blocks_given : ℕ → ℕ → List Answer → ℕ
blocks_given state given [] = given
blocks_given state given (answer ∷ answers) = blocks_given (drawn_thrice state) (given + numbers_given (drawn_call state given) answer.reply) answers

-- how many refusals a reply is
abbrev pub refusals : Reply → ℕ
refusals (Refused why) = 1
refusals reply = 0

-- how many of the answers are refusals
abbrev pub refused_count : List Answer → ℕ
refused_count [] = 0
refused_count (answer ∷ answers) = refusals answer.reply + refused_count answers
