-- The letters and words of lines: with one more, and after the last.
use Rattle.std.proofs.Common.{◌≡◌, ◌≤◌, ◌<◌, ℕ, ◌+◌, max, nat_eq, List, [], ◌∷◌, ◌++◌, length, get_or, drop}
use Rattle.std.specs.Prelude.{if◌then◌else◌}
use Rattle.std.proofs.lemmas.List.{at_drop_more, at_drop_all}
use Rattle.heap_curves.specs.Calls.{plain, longest_from, longest_word, words_number, most_words, word_text, words_text, upright_text, uprights_text}

pub longest_step : (letters : ℕ) (line : List ℕ) (i d : ℕ) → i < length line →
    longest_from letters (drop i line) ≡ (if nat_eq (get_or line i d) 32 then max letters
    (longest_from 0 (drop (i + 1) line)) else longest_from (letters + 1) (drop (i + 1) line))
longest_step letters line i d within = at_drop_more (longest_from letters) line i d within

pub longest_last : (letters : ℕ) (line : List ℕ) (i : ℕ) → length line ≤ i → longest_from letters (drop i line) ≡ letters
longest_last letters line i all = at_drop_all (longest_from letters) line i all

pub word_step : (lines : List (List ℕ)) (i : ℕ) (d : List ℕ) → i < length lines →
    longest_word (drop i lines) ≡ max (longest_from 0 (get_or lines i d)) (longest_word (drop (i + 1) lines))
word_step lines i d within = at_drop_more longest_word lines i d within

pub word_last : (lines : List (List ℕ)) (i : ℕ) → length lines ≤ i → longest_word (drop i lines) ≡ 0
word_last lines i all = at_drop_all longest_word lines i all

pub number_step : (line : List ℕ) (i d : ℕ) → i < length line → words_number
    (drop i line) ≡ (if nat_eq (get_or line i d) 32 then 1 + words_number (drop (i + 1) line) else words_number
    (drop (i + 1) line))
number_step line i d within = at_drop_more words_number line i d within

pub number_last : (line : List ℕ) (i : ℕ) → length line ≤ i → words_number (drop i line) ≡ 1
number_last line i all = at_drop_all words_number line i all

pub most_step : (lines : List (List ℕ)) (i : ℕ) (d : List ℕ) → i < length lines →
    most_words (drop i lines) ≡ max (words_number (get_or lines i d)) (most_words (drop (i + 1) lines))
most_step lines i d within = at_drop_more most_words lines i d within

pub most_last : (lines : List (List ℕ)) (i : ℕ) → length lines ≤ i → most_words (drop i lines) ≡ 0
most_last lines i all = at_drop_all most_words lines i all

pub words_step : (x y place : ℕ) (word line : List ℕ) (i d : ℕ) → i < length line →
    words_text x y place word (drop i line) ≡ (if nat_eq (get_or line i d) 32 then word_text x y place word ++ words_text x y (place + 1) [] (drop (i + 1) line)
    else words_text x y place (word ++ plain (get_or line i d) ∷ []) (drop (i + 1) line))
words_step x y place word line i d within = at_drop_more (words_text x y place word) line i d within

pub words_last : (x y place : ℕ) (word line : List ℕ) (i : ℕ) → length line ≤ i → words_text x y place word (drop i line) ≡ word_text x y place word
words_last x y place word line i all = at_drop_all (words_text x y place word) line i all

pub uprights_step : (top y calls call : ℕ) (lines : List (List ℕ)) (i : ℕ) (d : List ℕ) → i < length lines →
    uprights_text top y calls call (drop i lines) ≡ upright_text top y calls call (get_or lines i d) ++ uprights_text top y
    calls (call + 1) (drop (i + 1) lines)
uprights_step top y calls call lines i d within = at_drop_more (uprights_text top y calls call) lines i d within

pub uprights_last : (top y calls call : ℕ) (lines : List (List ℕ)) (i : ℕ) → length lines ≤ i → uprights_text top y calls call (drop i lines) ≡ []
uprights_last top y calls call lines i all = at_drop_all (uprights_text top y calls call) lines i all
