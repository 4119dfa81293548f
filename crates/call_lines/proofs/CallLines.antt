-- The line of a call is read as the call.
use Rattle.std.proofs.Common.{◌≡◌, ℕ, ◌<◌, ◌≤◌, ◌^◌, ◌==◌, Bool, true, false, List, [], ◌∷◌, ◌++◌, length, append_assoc, Option, Some, None, option_map, codes, decimal, refl, sym, ◌∙◌, ap, true-eqb}
use Rattle.std.specs.Prelude.{if◌then◌else◌, nat_eq}
use Rattle.std.specs.List.{onto_first}
use Rattle.std.proofs.lemmas.Bool.{le-ltb}
use Rattle.std.proofs.lemmas.List.Splits.{slice_split-cons_no}
use Rattle.hex.specs.Hex.{encode_lower}
use Rattle.paging_core.specs.declared.page_table.Rights.{Rights}
use Rattle.paging_core.specs.declared.processor_access.AccessKind.{AccessKind}
use Rattle.paging_core.specs.declared.processor_access.AccessKind.TheVariants.{Read as Reading, Write as Writing, Fetch as Fetching}
use Rattle.machine_model.specs.declared.call.Call.{Call}
use Rattle.machine_model.specs.declared.call.Call.TheVariants.{Malloc, Calloc, Realloc, CRealloc, Free, Write, Read, Map, Unmap, Probe, Trim, SetRate, SetGranularity, Reset, Extents}
use Rattle.call_lines.specs.Asked.{CanBeAsked, ReadsBack}
use Rattle.call_lines.specs.CallLine.{call_line, with_number, with_numbers, access_word, by_user}
use Rattle.call_lines.specs.Grammar.{call_of, item_of, both_numbers, write_call, read_call, map_call, probe_call}
use Rattle.call_lines.specs.Number.{number_of}
use Rattle.call_lines.specs.Words.{words_of}
use Rattle.call_lines.specs.Written.{hexadecimal, rights_word}
use Rattle.call_lines.proofs.Printed.{IsWord, decimal_word, decimal_read, hexadecimal_word, hexadecimal_read, bytes_word, bytes_read, rights_word_is, rights_read}

-- ---- words

-- a word, a space and more words
more_words : (word rest : List ℕ) → IsWord word → words_of (word ++ 32 ∷ rest) ≡ word ∷ words_of rest
more_words [] rest is = refl
more_words (b ∷ word) rest is = slice_split-cons_no (λ (c : ℕ). c == 32) b (word ++ 32 ∷ rest) is.0 ∙ ap (onto_first b) (more_words word rest is.1)

one_word : (word : List ℕ) → IsWord word → words_of word ≡ word ∷ []
one_word [] is = refl
one_word (b ∷ word) is = slice_split-cons_no (λ (c : ℕ). c == 32) b word is.0 ∙ ap (onto_first b) (one_word word is.1)

two_words : (first second : List ℕ) → IsWord first → IsWord second → words_of (first ++ 32 ∷ second) ≡ first ∷ second ∷ []
two_words first second one two = more_words first second one ∙ ap (λ (l : List (List ℕ)). first ∷ l) (one_word second two)

three_words : (first second third : List ℕ) → IsWord first → IsWord second → IsWord third →
    words_of (first ++ 32 ∷ (second ++ 32 ∷ third)) ≡ first ∷ second ∷ third ∷ []
three_words first second third one two three = more_words first (second ++ 32 ∷ third) one
    ∙ ap (λ (l : List (List ℕ)). first ∷ l) (two_words second third two three)

-- ---- calls with a name and numbers

-- what stands after a name is two numbers
numbers : (first second : ℕ) → first < 2 ^ 64 → second < 2 ^ 64 → words_of (decimal first ++ 32 ∷ decimal second) ≡ decimal first ∷ decimal second ∷ []
numbers first second one two = two_words (decimal first) (decimal second) (decimal_word first one) (decimal_word second two)

both_read : (first second : ℕ) → first < 2 ^ 64 → second < 2 ^ 64 → both_numbers (number_of (decimal first)) (number_of (decimal second)) ≡ Some (first, second)
both_read first second one two = λ i. both_numbers (decimal_read first one i) (decimal_read second two i)

malloc_read : (size align : ℕ) (b : Bool) → nat_eq align 16 ≡ b → size < 2 ^ 64 → align < 2 ^ 64
    → call_of (words_of (if b then with_number (codes "malloc") size else with_numbers (codes "malloc") size align)) ≡ Some (Malloc size align)
malloc_read size align true is one two =
    ap (λ (l : List (List ℕ)). call_of (codes "malloc" ∷ l)) (one_word (decimal size) (decimal_word size one))
    ∙ ap (λ (n : Option ℕ). option_map (λ (asked : ℕ × ℕ). Malloc asked.0 asked.1) (both_numbers n (Some 16))) (decimal_read size one)
    ∙ ap (λ (n : ℕ). Some (Malloc size n)) (sym (true-eqb align 16 (sym is)))
malloc_read size align false is one two =
    ap (λ (l : List (List ℕ)). call_of (codes "malloc" ∷ l)) (numbers size align one two)
    ∙ ap (option_map (λ (asked : ℕ × ℕ). Malloc asked.0 asked.1)) (both_read size align one two)

calloc_read : (size align : ℕ) (b : Bool) → nat_eq align 16 ≡ b → size < 2 ^ 64 → align < 2 ^ 64
    → call_of (words_of (if b then with_number (codes "calloc") size else with_numbers (codes "calloc") size align)) ≡ Some (Calloc size align)
calloc_read size align true is one two =
    ap (λ (l : List (List ℕ)). call_of (codes "calloc" ∷ l)) (one_word (decimal size) (decimal_word size one))
    ∙ ap (λ (n : Option ℕ). option_map (λ (asked : ℕ × ℕ). Calloc asked.0 asked.1) (both_numbers n (Some 16))) (decimal_read size one)
    ∙ ap (λ (n : ℕ). Some (Calloc size n)) (sym (true-eqb align 16 (sym is)))
calloc_read size align false is one two =
    ap (λ (l : List (List ℕ)). call_of (codes "calloc" ∷ l)) (numbers size align one two)
    ∙ ap (option_map (λ (asked : ℕ × ℕ). Calloc asked.0 asked.1)) (both_read size align one two)

-- ---- calls with three arguments

write_read : (block offset : ℕ) (bytes : List ℕ) → CanBeAsked (Write block offset bytes) →
    call_of (words_of (call_line (Write block offset bytes))) ≡ Some (Write block offset bytes)
write_read block offset bytes is =
    ap (λ (l : List ℕ). call_of (words_of (codes "write " ++ l))) (append_assoc (decimal block) (32 ∷ decimal offset) (32 ∷ encode_lower bytes))
    ∙ ap (λ (l : List (List ℕ)). call_of (codes "write" ∷ l))
    (three_words (decimal block) (decimal offset) (encode_lower bytes) (decimal_word block is.0) (decimal_word offset is.1) (bytes_word bytes is.2))
    ∙ (λ i. write_call (decimal_read block is.0 i) (decimal_read offset is.1 i) (bytes_read bytes is.2 is.3 i))

read_read : (block offset count : ℕ) → CanBeAsked (Read block offset count) →
    call_of (words_of (call_line (Read block offset count))) ≡ Some (Read block offset count)
read_read block offset count is =
    ap (λ (l : List ℕ). call_of (words_of (codes "read " ++ l))) (append_assoc (decimal block) (32 ∷ decimal offset) (32 ∷ decimal count))
    ∙ ap (λ (l : List (List ℕ)). call_of (codes "read" ∷ l))
    (three_words (decimal block) (decimal offset) (decimal count) (decimal_word block is.0) (decimal_word offset is.1) (decimal_word count is.2))
    ∙ (λ i. read_call (decimal_read block is.0 i) (decimal_read offset is.1 i) (decimal_read count is.2 i))

map_read : (start pages : ℕ) (rights : Rights) → CanBeAsked (Map start pages rights) →
    call_of (words_of (call_line (Map start pages rights))) ≡ Some (Map start pages rights)
map_read start pages rights is =
    ap (λ (l : List (List ℕ)). call_of (codes "map" ∷ l))
    (three_words (hexadecimal start) (decimal pages) (rights_word rights) (hexadecimal_word start is.0) (decimal_word pages is.1) (rights_word_is rights))
    ∙ (λ i. map_call (hexadecimal_read start is.0 i) (decimal_read pages is.1 i) (rights_read rights i))

-- the words after the address of a probe: what the access does, and whose it is
probe_read : (at : ℕ) (access : AccessKind) (user : Bool) → at < 2 ^ 64 → call_of (words_of (call_line (Probe at access user))) ≡ Some (Probe at access user)
probe_read at access user fits =
    ap (λ (l : List (List ℕ)). call_of (codes "probe" ∷ l)) (more_words (hexadecimal at) (access_word access ++ by_user user) (hexadecimal_word at fits))
    ∙ by access user
  where
    by : (access : AccessKind) (user : Bool) → call_of (codes "probe" ∷ hexadecimal at ∷ words_of
        (access_word access ++ by_user user)) ≡ Some (Probe at access user)
    by Reading true = ap (λ (n : Option ℕ). probe_call n (Some Reading) (Some true)) (hexadecimal_read at fits)
    by Reading false = ap (λ (n : Option ℕ). probe_call n (Some Reading) (Some false)) (hexadecimal_read at fits)
    by Writing true = ap (λ (n : Option ℕ). probe_call n (Some Writing) (Some true)) (hexadecimal_read at fits)
    by Writing false = ap (λ (n : Option ℕ). probe_call n (Some Writing) (Some false)) (hexadecimal_read at fits)
    by Fetching true = ap (λ (n : Option ℕ). probe_call n (Some Fetching) (Some true)) (hexadecimal_read at fits)
    by Fetching false = ap (λ (n : Option ℕ). probe_call n (Some Fetching) (Some false)) (hexadecimal_read at fits)

-- ---- every call

call_read : (call : Call) → CanBeAsked call → call_of (words_of (call_line call)) ≡ Some call
call_read (Malloc size align) is = malloc_read size align (nat_eq align 16) refl is.0 is.1
call_read (Calloc size align) is = calloc_read size align (nat_eq align 16) refl is.0 is.1
call_read (Realloc block size) is =
    ap (λ (l : List (List ℕ)). call_of (codes "realloc" ∷ l)) (numbers block size is.0 is.1)
    ∙ ap (option_map (λ (asked : ℕ × ℕ). Realloc asked.0 asked.1)) (both_read block size is.0 is.1)
call_read (CRealloc block size) is =
    ap (λ (l : List (List ℕ)). call_of (codes "c_realloc" ∷ l)) (numbers block size is.0 is.1)
    ∙ ap (option_map (λ (asked : ℕ × ℕ). CRealloc asked.0 asked.1)) (both_read block size is.0 is.1)
call_read (Free block) is = ap (λ (l : List (List ℕ)). call_of (codes "free" ∷ l))
    (one_word (decimal block) (decimal_word block is)) ∙ ap (option_map Free) (decimal_read block is)
call_read (Write block offset bytes) is = write_read block offset bytes is
call_read (Read block offset count) is = read_read block offset count is
call_read (Map start pages rights) is = map_read start pages rights is
call_read (Unmap start pages) is =
    ap (λ (l : List (List ℕ)). call_of (codes "unmap" ∷ l)) (two_words (hexadecimal start) (decimal pages)
    (hexadecimal_word start is.0) (decimal_word pages is.1))
    ∙ (λ i. option_map (λ (range : ℕ × ℕ). Unmap range.0 range.1) (both_numbers (hexadecimal_read start is.0 i) (decimal_read pages is.1 i)))
call_read (Probe at access user) is = probe_read at access user is
call_read (Trim pad) is = ap (λ (l : List (List ℕ)). call_of (codes "trim" ∷ l))
    (one_word (decimal pad) (decimal_word pad is)) ∙ ap (option_map Trim) (decimal_read pad is)
call_read (SetRate rate) is = ap (λ (l : List (List ℕ)). call_of (codes "rate" ∷ l))
    (one_word (decimal rate) (decimal_word rate is)) ∙ ap (option_map SetRate) (decimal_read rate is)
call_read (SetGranularity granularity) is =
    ap (λ (l : List (List ℕ)). call_of (codes "granularity" ∷ l)) (one_word (decimal granularity) (decimal_word granularity is))
    ∙ ap (option_map SetGranularity) (decimal_read granularity is)
call_read Reset is = refl
call_read Extents is = refl

-- a line of at most 8192 bytes
short_line : (line : List ℕ) → length line ≤ 8192 → item_of line ≡ call_of (words_of line)
unfolding item_of
short_line line short = ap (λ (b : Bool). if b then None else call_of (words_of line)) (le-ltb 8192 (length line) short)

pub reads_back : ReadsBack
reads_back call is short = short_line (call_line call) short ∙ call_read call is
