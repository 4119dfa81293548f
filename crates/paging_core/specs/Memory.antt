-- Physical memory as the list of its words, 512 per frame.
use Rattle.std.specs.Prelude.{◌≡◌, ℕ, ◌+◌, ◌*◌, ◌/◌, ◌%◌, ◌^◌, ◌<◌, ◌≤◌, List, ◌++◌, length, slice_index, take, drop, replicate}

-- the word of a frame at an index; 0 if the memory has no such frame
abbrev pub word_at : List ℕ → ℕ → ℕ → ℕ
word_at words frame index = slice_index words (512 * frame + index)

-- how many frames the words make
abbrev pub frame_count : List ℕ → ℕ
frame_count words = length words / 512

-- the words with `count` zeros from `base` on
unfoldable pub with_zeros : List ℕ → ℕ → ℕ → List ℕ
with_zeros words base count = take base words ++ (replicate count 0 ++ drop (base + count) words)

-- the words with those of the frame 0
abbrev pub cleared : List ℕ → ℕ → List ℕ
cleared words frame = with_zeros words (512 * frame) 512

-- byte `byte` of a word: its bits 8 * byte to 8 * byte + 7
abbrev pub byte_of : ℕ → ℕ → ℕ
byte_of word byte = word / 2 ^ (8 * byte) % 256

-- The words of one frame were copied to another. `old` is the words before, `new` after.
pub record IsFrameCopied (old new : List ℕ) (from to : ℕ) : Type 0 where
  pub size : length new ≡ length old
  pub copied : (i : ℕ) → i < 512 → word_at new to i ≡ word_at old from i
  pub others : (f i : ℕ) → i < 512 → (f ≡ to → ⊥) → word_at new f i ≡ word_at old f i

-- A run of words was written to a frame, from `index` on.
pub record AreWordsWritten (old new : List ℕ) (frame index : ℕ) (run : List ℕ) : Type 0 where
  pub size : length new ≡ length old
  pub written : (k : ℕ) → k < length run → word_at new frame (index + k) ≡ slice_index run k
  pub others :
      (f i : ℕ) → i < 512 → (f ≡ frame → index ≤ i → i < index + length run → ⊥) → word_at new f i ≡ word_at old f i

-- A run of words is that of a frame, from `index` on.
pub record AreFrameWords (words : List ℕ) (frame index : ℕ) (run : List ℕ) : Type 0 where
  pub read : (k : ℕ) → k < length run → slice_index run k ≡ word_at words frame (index + k)
