-- What a line asks for, and how long the line of a call is.
use Rattle.std.proofs.Common.{◌≡◌, ℕ, suc, ◌+◌, ◌*◌, ◌<◌, ◌≤◌, ◌^◌, ◌&&◌, Bool, true, false, List, [], ◌∷◌, ◌++◌, length, length-append, drop, Option, Some, None, option_map, Result, Ok, Err, codes, decimal, refl, subst, arith, lit<, lit≤, le_refl, ltb-true}
use Rattle.std.specs.Prelude.{⊤, if◌then◌else◌, nat_eq, nat_lt, nat_le}
use Rattle.std.specs.Char.{is_digit}
use Rattle.std.specs.List.{list_all, starts_with}
use Rattle.std.specs.Str.{bytes_eq}
use Rattle.std.specs.Result.{result_ok}
use Rattle.std.specs.Str.Parse.{digits_value}
use Rattle.hex.specs.Hex.{IsBytes, decode_of, encode_lower, lower_digits}
use Rattle.hex.specs.declared.error.FromHexError.{FromHexError}
use Rattle.hex.proofs.HexLemmas.{decode_of-ok, length-encode_with}
use Rattle.paging_core.specs.declared.page_table.Rights.{Rights}
use Rattle.paging_core.specs.declared.processor_access.AccessKind.{AccessKind}
use Rattle.paging_core.specs.declared.processor_access.AccessKind.TheVariants.{Read as Reading, Write as Writing, Fetch as Fetching}
use Rattle.machine_model.specs.declared.call.Call.{Call}
use Rattle.machine_model.specs.declared.call.Call.TheVariants.{Malloc, Calloc, Realloc, CRealloc, Free, Write, Read, Map, Unmap, Probe, Trim, SetRate, SetGranularity, Reset, Extents}
use Rattle.call_lines.specs.Asked.{CanBeAsked, AsksForNoOther, IsShort}
use Rattle.call_lines.specs.CallLine.{call_line, with_number, with_numbers, request_line, access_word, by_user}
use Rattle.call_lines.specs.Grammar.{one_number, both_numbers, two_numbers, request_of, bytes_from_digits, write_call, read_call, map_call, probe_call, malloc_of, calloc_of, realloc_of, c_realloc_of, free_call, write_of, read_of, map_of, unmap_of, probe_of, trim_of, rate_of, granularity_of, rights_of_letters, access_named, user_of, alone, call_of, item_of}
use Rattle.call_lines.specs.Number.{numeral_of, number_of}
use Rattle.call_lines.specs.Words.{words_of}
use Rattle.call_lines.specs.Written.{hexadecimal, rights_word}
use Rattle.call_lines.proofs.Printed.{decimal_short, hexadecimal_short}

-- ---- what is read fits

abbrev NumberFits : Option ℕ → Type 0
NumberFits None = ⊤
NumberFits (Some n) = n < 2 ^ 64

abbrev BothFit : Option (ℕ × ℕ) → Type 0
BothFit None = ⊤
BothFit (Some both) = (both.0 < 2 ^ 64) × (both.1 < 2 ^ 64)

abbrev BytesFit : Option (List ℕ) → Type 0
BytesFit None = ⊤
BytesFit (Some bytes) = IsBytes bytes × (0 < length bytes)

abbrev ItemFits : Option Call → Type 0
ItemFits None = ⊤
ItemFits (Some call) = CanBeAsked call

either : {A : Type 0} (P : Option A → Type 0) (b : Bool) (x y : Option A) → P x → P y → P (if b then x else y)
either P true x y px py = px
either P false x y px py = py

numeral_fits : (base most : ℕ) (digits : List ℕ) → NumberFits (numeral_of base most digits)
numeral_fits base most digits = go (nat_lt 0 (length digits)) (nat_le (length digits) most)
    (list_all (λ b. is_digit b base) digits) (nat_lt (digits_value base digits) (2 ^ 64)) (digits_value base digits) refl
  where
    go : (a b c d : Bool) (n : ℕ) → nat_lt n (2 ^ 64) ≡ d → NumberFits (if a && b && c && d then Some n else None)
    go true true true true n e = ltb-true n (2 ^ 64) e
    go true true true false n e = tt
    go true true false d n e = tt
    go true false c d n e = tt
    go false b c d n e = tt

number_fits : (word : List ℕ) → NumberFits (number_of word)
number_fits word = either NumberFits (starts_with nat_eq word (codes "0x")) (numeral_of 16 16 (drop 2 word))
    (numeral_of 10 20 word) (numeral_fits 16 16 (drop 2 word)) (numeral_fits 10 20 word)

both_fit : (first second : Option ℕ) → NumberFits first → NumberFits second → BothFit (both_numbers first second)
both_fit (Some first) (Some second) one two = (one, two)
both_fit (Some first) None one two = tt
both_fit None second one two = tt

two_fit : (words : List (List ℕ)) → BothFit (two_numbers words)
two_fit [] = tt
two_fit (first ∷ []) = tt
two_fit (first ∷ second ∷ []) = both_fit (number_of first) (number_of second) (number_fits first) (number_fits second)
two_fit (first ∷ second ∷ third ∷ words) = tt

request_fits : (words : List (List ℕ)) → BothFit (request_of words)
request_fits [] = tt
request_fits (size ∷ []) = both_fit (number_of size) (Some 16) (number_fits size) (lit< tt)
request_fits (size ∷ align ∷ []) = both_fit (number_of size) (number_of align) (number_fits size) (number_fits align)
request_fits (size ∷ align ∷ third ∷ words) = tt

bytes_fit : (word : List ℕ) → BytesFit (bytes_from_digits word)
bytes_fit [] = tt
bytes_fit (digit ∷ digits) = go (decode_of (digit ∷ digits)) refl
  where
    go : (r : Result (List ℕ) FromHexError) → decode_of (digit ∷ digits) ≡ r → BytesFit (result_ok r)
    go (Ok bytes) e =
        let ok = decode_of-ok (digit ∷ digits) bytes e in
        let long : suc (length digits) ≡ 2 * length bytes = ok.2 in
        (ok.3, omega (arith, long))
    go (Err why) e = tt

-- ---- each call's arguments

one_fits : (call : ℕ → Call) → ((n : ℕ) → n < 2 ^ 64 → CanBeAsked (call n)) → (words : List (List ℕ)) → ItemFits (option_map call (one_number words))
one_fits call is [] = tt
one_fits call is (word ∷ []) = go (number_of word) (number_fits word)
  where
    go : (o : Option ℕ) → NumberFits o → ItemFits (option_map call o)
    go None fits = tt
    go (Some n) fits = is n fits
one_fits call is (word ∷ second ∷ words) = tt

pair_fits : (call : ℕ × ℕ → Call) → ((both : ℕ × ℕ) → (both.0 < 2 ^ 64) × (both.1 < 2 ^ 64) → CanBeAsked (call both)) →
    (o : Option (ℕ × ℕ)) → BothFit o → ItemFits (option_map call o)
pair_fits call is None fits = tt
pair_fits call is (Some both) fits = is both fits

malloc_fits : (words : List (List ℕ)) → ItemFits (malloc_of words)
malloc_fits words = pair_fits (λ asked. Malloc asked.0 asked.1) (λ both fits. fits) (request_of words) (request_fits words)

calloc_fits : (words : List (List ℕ)) → ItemFits (calloc_of words)
calloc_fits words = pair_fits (λ asked. Calloc asked.0 asked.1) (λ both fits. fits) (request_of words) (request_fits words)

realloc_fits : (words : List (List ℕ)) → ItemFits (realloc_of words)
realloc_fits words = pair_fits (λ asked. Realloc asked.0 asked.1) (λ both fits. fits) (two_numbers words) (two_fit words)

c_realloc_fits : (words : List (List ℕ)) → ItemFits (c_realloc_of words)
c_realloc_fits words = pair_fits (λ asked. CRealloc asked.0 asked.1) (λ both fits. fits) (two_numbers words) (two_fit words)

unmap_fits : (words : List (List ℕ)) → ItemFits (unmap_of words)
unmap_fits words = pair_fits (λ range. Unmap range.0 range.1) (λ both fits. fits) (two_numbers words) (two_fit words)

free_fits : (words : List (List ℕ)) → ItemFits (free_call words)
free_fits words = one_fits Free (λ n fits. fits) words

trim_fits : (words : List (List ℕ)) → ItemFits (trim_of words)
trim_fits words = one_fits Trim (λ n fits. fits) words

rate_fits : (words : List (List ℕ)) → ItemFits (rate_of words)
rate_fits words = one_fits SetRate (λ n fits. fits) words

granularity_fits : (words : List (List ℕ)) → ItemFits (granularity_of words)
granularity_fits words = one_fits SetGranularity (λ n fits. fits) words

write_fits : (words : List (List ℕ)) → ItemFits (write_of words)
write_fits [] = tt
write_fits (block ∷ []) = tt
write_fits (block ∷ offset ∷ []) = tt
write_fits (block ∷ offset ∷ bytes ∷ []) = go (number_of block) (number_of offset) (bytes_from_digits bytes)
    (number_fits block) (number_fits offset) (bytes_fit bytes)
  where
    go : (block offset : Option ℕ) (bytes : Option (List ℕ)) → NumberFits block → NumberFits offset → BytesFit bytes → ItemFits (write_call block offset bytes)
    go (Some block) (Some offset) (Some bytes) one two three = (one, two, three.0, three.1)
    go (Some block) (Some offset) None one two three = tt
    go (Some block) None bytes one two three = tt
    go None offset bytes one two three = tt
write_fits (block ∷ offset ∷ bytes ∷ fourth ∷ words) = tt

read_fits : (words : List (List ℕ)) → ItemFits (read_of words)
read_fits [] = tt
read_fits (block ∷ []) = tt
read_fits (block ∷ offset ∷ []) = tt
read_fits (block ∷ offset ∷ count ∷ []) = go (number_of block) (number_of offset) (number_of count) (number_fits block) (number_fits offset) (number_fits count)
  where
    go : (block offset count : Option ℕ) → NumberFits block → NumberFits offset → NumberFits count → ItemFits (read_call block offset count)
    go (Some block) (Some offset) (Some count) one two three = (one, two, three)
    go (Some block) (Some offset) None one two three = tt
    go (Some block) None count one two three = tt
    go None offset count one two three = tt
read_fits (block ∷ offset ∷ count ∷ fourth ∷ words) = tt

map_fits : (words : List (List ℕ)) → ItemFits (map_of words)
map_fits [] = tt
map_fits (start ∷ []) = tt
map_fits (start ∷ pages ∷ []) = tt
map_fits (start ∷ pages ∷ rights ∷ []) = go (number_of start) (number_of pages) (rights_of_letters rights) (number_fits start) (number_fits pages)
  where
    go : (start pages : Option ℕ) (rights : Option Rights) → NumberFits start → NumberFits pages → ItemFits (map_call start pages rights)
    go (Some start) (Some pages) (Some rights) one two = (one, two)
    go (Some start) (Some pages) None one two = tt
    go (Some start) None rights one two = tt
    go None pages rights one two = tt
map_fits (start ∷ pages ∷ rights ∷ fourth ∷ words) = tt

probe_fits : (words : List (List ℕ)) → ItemFits (probe_of words)
probe_fits [] = tt
probe_fits (at ∷ []) = tt
probe_fits (at ∷ access ∷ words) = go (number_of at) (access_named access) (user_of words) (number_fits at)
  where
    go : (at : Option ℕ) (access : Option AccessKind) (user : Option Bool) → NumberFits at → ItemFits (probe_call at access user)
    go (Some at) (Some access) (Some user) fits = fits
    go (Some at) (Some access) None fits = tt
    go (Some at) None user fits = tt
    go None access user fits = tt

alone_fits : (call : Call) (words : List (List ℕ)) → CanBeAsked call → ItemFits (alone call words)
alone_fits call [] is = is
alone_fits call (word ∷ words) is = tt

-- ---- whichever call is named

named : (words : List (List ℕ)) (b0 b1 b2 b3 b4 b5 b6 b7 b8 b9 b10 b11 b12 b13 b14 : Bool)
    → ItemFits (if b0 then malloc_of words else (if b1 then calloc_of words
    else (if b2 then realloc_of words else (if b3 then c_realloc_of words
    else (if b4 then free_call words else (if b5 then write_of words else (if b6 then read_of words
    else (if b7 then map_of words else (if b8 then unmap_of words else (if b9 then probe_of words
    else (if b10 then trim_of words else (if b11 then rate_of words else (if b12 then granularity_of words
    else (if b13 then alone Reset words else (if b14 then alone Extents words else None)))))))))))))))
named words true b1 b2 b3 b4 b5 b6 b7 b8 b9 b10 b11 b12 b13 b14 = malloc_fits words
named words false true b2 b3 b4 b5 b6 b7 b8 b9 b10 b11 b12 b13 b14 = calloc_fits words
named words false false true b3 b4 b5 b6 b7 b8 b9 b10 b11 b12 b13 b14 = realloc_fits words
named words false false false true b4 b5 b6 b7 b8 b9 b10 b11 b12 b13 b14 = c_realloc_fits words
named words false false false false true b5 b6 b7 b8 b9 b10 b11 b12 b13 b14 = free_fits words
named words false false false false false true b6 b7 b8 b9 b10 b11 b12 b13 b14 = write_fits words
named words false false false false false false true b7 b8 b9 b10 b11 b12 b13 b14 = read_fits words
named words false false false false false false false true b8 b9 b10 b11 b12 b13 b14 = map_fits words
named words false false false false false false false false true b9 b10 b11 b12 b13 b14 = unmap_fits words
named words false false false false false false false false false true b10 b11 b12 b13 b14 = probe_fits words
named words false false false false false false false false false false true b11 b12 b13 b14 = trim_fits words
named words false false false false false false false false false false false true b12 b13 b14 = rate_fits words
named words false false false false false false false false false false false false true b13 b14 = granularity_fits words
named words false false false false false false false false false false false false false true b14 = alone_fits Reset words tt
named words false false false false false false false false false false false false false false true = alone_fits Extents words tt
named words false false false false false false false false false false false false false false false = tt

call_fits : (words : List (List ℕ)) → ItemFits (call_of words)
call_fits [] = tt
call_fits (name ∷ words) =
    named words (bytes_eq name (codes "malloc")) (bytes_eq name (codes "calloc")) (bytes_eq name (codes "realloc")) (bytes_eq name (codes "c_realloc"))
    (bytes_eq name (codes "free")) (bytes_eq name (codes "write")) (bytes_eq name (codes "read")) (bytes_eq name (codes "map"))
    (bytes_eq name (codes "unmap")) (bytes_eq name (codes "probe")) (bytes_eq name (codes "trim")) (bytes_eq name (codes "rate"))
    (bytes_eq name (codes "granularity")) (bytes_eq name (codes "reset")) (bytes_eq name (codes "extents"))

item_fits : (line : List ℕ) → ItemFits (item_of line)
unfolding item_of
item_fits line = either ItemFits (nat_lt 8192 (length line)) None (call_of (words_of line)) tt (call_fits (words_of line))

pub asks_for_no_other : AsksForNoOther
asks_for_no_other line call is = subst ItemFits is (item_fits line)

-- ---- how long lines are

-- a space between two parts
spaced_short : (front rest : List ℕ) (m n : ℕ) → length front ≤ m → length rest ≤ n → length (front ++ 32 ∷ rest) ≤ m + suc n
spaced_short front rest m n one two =
    let whole : length (front ++ 32 ∷ rest) ≡ length front + suc (length rest) = length-append front (32 ∷ rest) in
    omega (arith, whole, one, two)

number_short : (name : List ℕ) (n : ℕ) → n < 2 ^ 64 → length (with_number name n) ≤ length name + 21
number_short name n fits = spaced_short name (decimal n) (length name) 20 (le_refl (length name)) (decimal_short n fits)

numbers_short : (name : List ℕ) (m n : ℕ) → m < 2 ^ 64 → n < 2 ^ 64 → length (with_numbers name m n) ≤ length name + 42
numbers_short name m n one two =
    spaced_short name (decimal m ++ 32 ∷ decimal n) (length name) 41 (le_refl (length name))
    (spaced_short (decimal m) (decimal n) 20 20 (decimal_short m one) (decimal_short n two))

request_short : (name : List ℕ) (size align : ℕ) → length name ≤ 6 → size < 2 ^ 64 → align < 2 ^ 64 → length (request_line name size align) ≤ 8192
request_short name size align few one two = go (nat_eq align 16)
  where
    go : (b : Bool) → length (if b then with_number name size else with_numbers name size align) ≤ 8192
    go true = let short : length (with_number name size) ≤ 8192 = omega (arith, few, number_short name size one) in short
    go false = let short : length (with_numbers name size align) ≤ 8192 = omega (arith, few, numbers_short name size align one two) in short

write_short : (block offset : ℕ) (bytes : List ℕ) → block < 2 ^ 64 → offset < 2 ^ 64 → length bytes ≤ 4072 →
    length (call_line (Write block offset bytes)) ≤ 8192
write_short block offset bytes one two few =
    let digits : length (encode_lower bytes) ≡ 2 * length bytes = length-encode_with lower_digits bytes in
    spaced_short (with_numbers (codes "write") block offset) (encode_lower bytes) 47 8144
    (numbers_short (codes "write") block offset one two) (omega (arith, digits, few))

read_short : (block offset count : ℕ) → block < 2 ^ 64 → offset < 2 ^ 64 → count < 2 ^ 64 → length (call_line (Read block offset count)) ≤ 8192
read_short block offset count one two three =
    let short : length (call_line (Read block offset count)) ≤ 46 + suc 20 =
    spaced_short (with_numbers (codes "read") block offset) (decimal count) 46 20
    (numbers_short (codes "read") block offset one two) (decimal_short count three) in
    omega (arith, short)

-- a name with a space, and what follows it
named_rest : (name rest : List ℕ) → length name ≤ 6 → length rest ≤ 100 → length (name ++ rest) ≤ 8192
named_rest name rest few short = omega (arith, few, short, length-append name rest)

map_short : (start pages : ℕ) (rights : Rights) → start < 2 ^ 64 → pages < 2 ^ 64 → length (call_line (Map start pages rights)) ≤ 8192
map_short start pages rights one two =
    let rest : length (hexadecimal start ++ 32 ∷ (decimal pages ++ 32 ∷ rights_word rights)) ≤ 18 + suc (20 + suc 4) =
    spaced_short (hexadecimal start) (decimal pages ++ 32 ∷ rights_word rights) 18 (20 + suc 4) (hexadecimal_short start one)
    (spaced_short (decimal pages) (rights_word rights) 20 4 (decimal_short pages two) (rights_short rights.write rights.user rights.fetch)) in
    named_rest (codes "map ") (hexadecimal start ++ 32 ∷ (decimal pages ++ 32 ∷ rights_word rights)) (lit≤ tt) (omega (arith, rest))
  where
    rights_short : (write user fetch : Bool) → length (rights_word (record { write = write; user = user; fetch = fetch })) ≤ 4
    rights_short true true true = lit≤ tt
    rights_short true true false = lit≤ tt
    rights_short true false true = lit≤ tt
    rights_short true false false = lit≤ tt
    rights_short false true true = lit≤ tt
    rights_short false true false = lit≤ tt
    rights_short false false true = lit≤ tt
    rights_short false false false = lit≤ tt

unmap_short : (start pages : ℕ) → start < 2 ^ 64 → pages < 2 ^ 64 → length (call_line (Unmap start pages)) ≤ 8192
unmap_short start pages one two =
    let rest : length (hexadecimal start ++ 32 ∷ decimal pages) ≤ 18 + suc 20 =
    spaced_short (hexadecimal start) (decimal pages) 18 20 (hexadecimal_short start one) (decimal_short pages two) in
    named_rest (codes "unmap ") (hexadecimal start ++ 32 ∷ decimal pages) (lit≤ tt) (omega (arith, rest))

probe_short : (at : ℕ) (access : AccessKind) (user : Bool) → at < 2 ^ 64 → length (call_line (Probe at access user)) ≤ 8192
probe_short at access user fits =
    let rest : length (hexadecimal at ++ 32 ∷ (access_word access ++ by_user user)) ≤ 18 + suc 10 =
    spaced_short (hexadecimal at) (access_word access ++ by_user user) 18 10 (hexadecimal_short at fits) (few access user) in
    named_rest (codes "probe ") (hexadecimal at ++ 32 ∷ (access_word access ++ by_user user)) (lit≤ tt) (omega (arith, rest))
  where
    few : (access : AccessKind) (user : Bool) → length (access_word access ++ by_user user) ≤ 10
    few Reading true = lit≤ tt
    few Reading false = lit≤ tt
    few Writing true = lit≤ tt
    few Writing false = lit≤ tt
    few Fetching true = lit≤ tt
    few Fetching false = lit≤ tt

-- a name of at most eleven letters and a number
named_short : (name : List ℕ) (n : ℕ) → length name ≤ 11 → n < 2 ^ 64 → length (with_number name n) ≤ 8192
named_short name n few fits = omega (arith, few, number_short name n fits)

named_shorts : (name : List ℕ) (m n : ℕ) → length name ≤ 11 → m < 2 ^ 64 → n < 2 ^ 64 → length (with_numbers name m n) ≤ 8192
named_shorts name m n few one two = omega (arith, few, numbers_short name m n one two)

pub is_short : IsShort
is_short (Malloc size align) is few = request_short (codes "malloc") size align (lit≤ tt) is.0 is.1
is_short (Calloc size align) is few = request_short (codes "calloc") size align (lit≤ tt) is.0 is.1
is_short (Realloc block size) is few = named_shorts (codes "realloc") block size (lit≤ tt) is.0 is.1
is_short (CRealloc block size) is few = named_shorts (codes "c_realloc") block size (lit≤ tt) is.0 is.1
is_short (Free block) is few = named_short (codes "free") block (lit≤ tt) is
is_short (Write block offset bytes) is few = write_short block offset bytes is.0 is.1 few
is_short (Read block offset count) is few = read_short block offset count is.0 is.1 is.2
is_short (Map start pages rights) is few = map_short start pages rights is.0 is.1
is_short (Unmap start pages) is few = unmap_short start pages is.0 is.1
is_short (Probe at access user) is few = probe_short at access user is
is_short (Trim pad) is few = named_short (codes "trim") pad (lit≤ tt) is
is_short (SetRate rate) is few = named_short (codes "rate") rate (lit≤ tt) is
is_short (SetGranularity granularity) is few = named_short (codes "granularity") granularity (lit≤ tt) is
is_short Reset is few = lit≤ tt
is_short Extents is few = lit≤ tt
