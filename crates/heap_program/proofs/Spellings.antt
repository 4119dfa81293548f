-- Texts that cannot be read in two ways.
use Rattle.std.proofs.Common.{◌^◌, ◌≡◌, ◌<◌, ◌≤◌, ◌+◌, ◌/◌, ◌%◌, ℕ, zero, suc, ◌==◌, get_or, Bool, true, false, List, [], ◌∷◌, ◌++◌, length, Option, None, Some, codes, decimal, refl, sym, ◌∙◌, ap, subst, arith, append_assoc, lit≤}
use Rattle.std.proofs.lemmas.List.{append_cancel_left}
use Rattle.std.specs.Prelude.{if◌then◌else◌}
use Rattle.hex.specs.Hex.{IsBytes, decode_of, encode_lower, encode_with, lower_digits}
use Rattle.hex.proofs.HexLemmas.{decode_of-encode_lower, decode_of-same}
use Rattle.std.specs.Char.{digit_value}
use Rattle.std.specs.List.{flat_map, AllByRecursion}
use Rattle.std.specs.Str.Parse.{AllDigits}
use Rattle.dlmalloc_chunks.specs.declared.extent.Extent.{Extent}
use Rattle.dlmalloc_chunks.specs.declared.extent.Kind.{Kind}
use Rattle.dlmalloc_chunks.specs.declared.extent.Kind.TheVariants.{Used, Free, Victim, Top, Record, Foot}
use Rattle.x86_flags.specs.PageFaultErrorCode.{page_fault_bits}
use Rattle.x86_flags.specs.declared.page_fault_error_code.PageFaultErrorCode.{PageFaultErrorCode}
use Rattle.machine_model.specs.declared.answer.Answer.{Answer}
use Rattle.machine_model.specs.declared.answer.Reply.{Reply}
use Rattle.machine_model.specs.declared.answer.Reply.TheVariants.{Block, Done, Bytes, Byte, Fault, Trimmed, Accepted, Released, Extents, Refused}
use Rattle.machine_model.specs.declared.answer.Refusal.{Refusal}
use Rattle.machine_model.specs.declared.answer.Refusal.TheVariants.{BadAlign, TooLarge, NoSpace, NoFrames, UnknownBlock, OutOfBlock, BadRange, HeapRegion, Overlap, UnknownRegion, NotCanonical}
use Rattle.machine_model.specs.declared.region.Region.{Region}
use Rattle.machine_model.specs.Room.{heap_region}
use Rattle.machine_model.specs.Place.{all_regions}
use Rattle.machine_model.specs.Tables.{free_frames}
use Rattle.machine_model.specs.State.{State}
use Rattle.heap_program.specs.Progress.{texts_of}
use Rattle.heap_program.specs.Spelling.{ExtentFits, ReplyFits, RegionFits, RegionsFit, SlotsFit, AnswerFits, SpellsOne}
use Rattle.call_lines.specs.Written.{hexadecimal}
use Rattle.heap_program.specs.Text.{span_text, kind_word, spaced, extent_text, reply_text, pages_text, heap_regions_text, region_line, heap_line, large_line, text_of, line_text, counts_line, end_text_of}
use Rattle.heap_program.proofs.Endings.{head_of, tail_of, told_end, digits_end, decimal_end, hex_end, span_end, Ends, items_end}

-- the two numbers of a block, and what follows
abbrev block_onto : ℕ → ℕ → List ℕ → List ℕ
block_onto number address r = decimal number ++ 32 ∷ (hexadecimal address ++ 10 ∷ r)

block_text : (number address : ℕ) (r : List ℕ) → reply_text (Block number address) ++ r ≡ codes "block " ++ block_onto number address r
block_text number address r =
    ap (λ (l : List ℕ). codes "block " ++ l)
    (append_assoc (decimal number) (32 ∷ (hexadecimal address ++ 10 ∷ [])) r
    ∙ ap (λ (l : List ℕ). decimal number ++ 32 ∷ l) (append_assoc (hexadecimal address) (10 ∷ []) r))

block_end : (m a n b : ℕ) (r s : List ℕ) → ReplyFits (Block m a) → ReplyFits (Block n b) →
    reply_text (Block m a) ++ r ≡ reply_text (Block n b) ++ s → (Block m a ≡ Block n b) × (r ≡ s)
block_end m a n b r s fm fn h =
    let k = append_cancel_left (codes "block ") (block_onto m a r) (block_onto n b s) (sym (block_text m a r) ∙ h ∙ block_text n b s) in
    let first = decimal_end m n 32 32 (hexadecimal a ++ 10 ∷ r) (hexadecimal b ++ 10 ∷ s) fm.0 fn.0 (lit≤ tt) (lit≤ tt) k in
    let second = hex_end a b 10 10 r s fm.1 fn.1 (lit≤ tt) (lit≤ tt) (tail_of first.1) in
    ((λ i. Block (first.0 i) (second.0 i)), tail_of second.1)

-- the seventh and the eighth letter tell the refusals apart, and so does their sum; of what is unknown the ninth does
abbrev refusal_of : List ℕ → Refusal
refusal_of text =
    let sum = get_or text 14 0 + get_or text 15 0 in
    if sum == 208 then BadAlign else if sum == 217 then TooLarge else if sum == 200 then NoSpace else if sum == 210
    then NoFrames else if sum == 155 then (if get_or text 16 0 == 98 then UnknownBlock else UnknownRegion) else if sum
    == 143 then OutOfBlock else if sum == 213 then BadRange else if sum == 204 then HeapRegion else if sum == 122
    then Overlap else NotCanonical

refusal_told : (why : Refusal) (r : List ℕ) → refusal_of (reply_text (Refused why) ++ r) ≡ why
refusal_told BadAlign r = refl
refusal_told TooLarge r = refl
refusal_told NoSpace r = refl
refusal_told NoFrames r = refl
refusal_told UnknownBlock r = refl
refusal_told OutOfBlock r = refl
refusal_told BadRange r = refl
refusal_told HeapRegion r = refl
refusal_told Overlap r = refl
refusal_told UnknownRegion r = refl
refusal_told NotCanonical r = refl

refused_end : (v w : Refusal) (r s : List ℕ) → reply_text (Refused v) ++ r ≡ reply_text (Refused w) ++ s → (Refused v ≡ Refused w) × (r ≡ s)
refused_end v w r s h = let k = told_end (λ why. reply_text (Refused why)) refusal_of refusal_told v w r s h in (ap Refused k.0, k.1)

-- the sixteen digits
digits_at : (t : List ℕ) (k : ℕ) → AllDigits 16 t → k < length t → digit_value (get_or t k 0) < 16
digits_at [] k all less = absurd (omega arith)
digits_at (x ∷ xs) zero all less = all.0
digits_at (x ∷ xs) (suc k) all less = digits_at xs k all.1 (omega arith)

lower_all : AllDigits 16 lower_digits
lower_all = (
  lit≤ tt,
  (
    lit≤ tt,
    (
      lit≤ tt,
      (
        lit≤ tt,
        (
          lit≤ tt,
          (
            lit≤ tt,
            (lit≤ tt, (lit≤ tt, (lit≤ tt, (lit≤ tt, (lit≤ tt, (lit≤ tt, (lit≤ tt, (lit≤ tt, (lit≤ tt, (lit≤ tt, tt)))))))))),
          ),
        ),
      ),
    ),
  ),
)

encode_digits : (bytes : List ℕ) → IsBytes bytes → AllDigits 16 (encode_lower bytes)
unfolding encode_with
encode_digits [] small = tt
encode_digits (byte ∷ bytes) small =
    let first : byte < 256 = small 0 in (
      digits_at lower_digits (byte / 16) lower_all (omega arith),
      (
        digits_at lower_digits (byte % 16) lower_all
            (omega arith),
        encode_digits bytes (λ i. small (suc i)),
      ),
    )

-- bytes up to the end of the line
hexes_end : (xs ys : List ℕ) (r s : List ℕ) → IsBytes xs → IsBytes ys → encode_lower xs ++ 10 ∷ r ≡ encode_lower ys ++ 10 ∷ s → (xs ≡ ys) × (r ≡ s)
hexes_end xs ys r s small_x small_y h =
    let k = digits_end 16 (encode_lower xs) (encode_lower ys) 10 10 r s (encode_digits xs small_x) (encode_digits ys small_y) (lit≤ tt) (lit≤ tt) h in
    (decode_of-same (encode_lower xs) xs ys (decode_of-encode_lower xs small_x) (ap decode_of k.0 ∙ decode_of-encode_lower ys small_y), tail_of k.1)

bytes_end : (xs ys : List ℕ) (r s : List ℕ) → IsBytes xs → IsBytes ys →
    reply_text (Bytes xs) ++ r ≡ reply_text (Bytes ys) ++ s → (Bytes xs ≡ Bytes ys) × (r ≡ s)
bytes_end [] [] r s fx fy h = (refl, append_cancel_left (codes "bytes\n") r s h)
bytes_end [] (y ∷ ys) r s fx fy h = absurd (let k : 10 ≡ 32 = head_of (tail_of (tail_of (tail_of (tail_of (tail_of h))))) in omega (arith, k))
bytes_end (x ∷ xs) [] r s fx fy h = absurd (let k : 32 ≡ 10 = head_of (tail_of (tail_of (tail_of (tail_of (tail_of h))))) in omega (arith, k))
bytes_end (x ∷ xs) (y ∷ ys) r s fx fy h =
    let onto : (zs t : List ℕ) → codes "bytes " ++ (encode_lower zs ++ 10 ∷ t) ≡ (codes
    "bytes " ++ (encode_lower zs ++ 10 ∷ [])) ++ t = λ zs t. ap (λ (l : List ℕ). codes "bytes " ++ l)
    (sym (append_assoc (encode_lower zs) (10 ∷ []) t)) in
    let k = hexes_end (x ∷ xs) (y ∷ ys) r s fx fy
    (append_cancel_left (codes "bytes ") (encode_lower (x ∷ xs) ++ 10 ∷ r) (encode_lower (y ∷ ys) ++ 10 ∷ s) (onto (x ∷ xs) r ∙ h ∙ sym (onto (y ∷ ys) s))) in
    ((λ i. Bytes (k.0 i)), k.1)

-- a byte
byte_end : (x y : ℕ) (r s : List ℕ) → IsBytes (x ∷ []) → IsBytes (y ∷ []) → reply_text (Byte x) ++ r ≡ reply_text (Byte y) ++ s → (Byte x ≡ Byte y) × (r ≡ s)
byte_end x y r s fx fy h =
    let onto : (z : ℕ) (t : List ℕ) → codes "byte " ++ (encode_lower (z ∷ []) ++ 10 ∷ t) ≡ (codes
    "byte " ++ (encode_lower (z ∷ []) ++ 10 ∷ [])) ++ t = λ z t. ap (λ (l : List ℕ). codes "byte " ++ l)
    (sym (append_assoc (encode_lower (z ∷ [])) (10 ∷ []) t)) in
    let k = hexes_end (x ∷ []) (y ∷ []) r s fx fy
    (append_cancel_left (codes "byte ") (encode_lower (x ∷ []) ++ 10 ∷ r) (encode_lower (y ∷ []) ++ 10 ∷ s) (onto x r ∙ h ∙ sym (onto y s))) in
    (ap (λ (l : List ℕ). Byte (get_or l 0 0)) k.0, k.1)

-- the code of a fault
fault_onto : (code : PageFaultErrorCode) (r : List ℕ) → codes "fault " ++ (hexadecimal (page_fault_bits code) ++ 10 ∷ r) ≡ reply_text (Fault code) ++ r
fault_onto code r = ap (λ (l : List ℕ). codes "fault " ++ l) (sym (append_assoc (hexadecimal (page_fault_bits code)) (10 ∷ []) r))

fault_end : (x y : PageFaultErrorCode) (r s : List ℕ) → page_fault_bits x < 2 ^ 64 → page_fault_bits y < 2 ^ 64 →
    reply_text (Fault x) ++ r ≡ reply_text (Fault y) ++ s → (Fault x ≡ Fault y) × (r ≡ s)
fault_end x y r s fx fy h =
    let k = append_cancel_left (codes "fault ") (hexadecimal (page_fault_bits x) ++ 10 ∷ r)
    (hexadecimal (page_fault_bits y) ++ 10 ∷ s) (fault_onto x r ∙ h ∙ sym (fault_onto y s)) in
    let bits = hex_end (page_fault_bits x) (page_fault_bits y) 10 10 r s fx fy (lit≤ tt) (lit≤ tt) k in
    ((λ i. Fault (record { 0 = bits.0 i })), tail_of bits.1)

-- whether bytes went back, and whether a number was accepted
trimmed_told : (b : Bool) (r : List ℕ) → (get_or (reply_text (Trimmed b) ++ r) 8 0 == 116) ≡ b
trimmed_told true r = refl
trimmed_told false r = refl

trimmed_end : (x y : Bool) (r s : List ℕ) → reply_text (Trimmed x) ++ r ≡ reply_text (Trimmed y) ++ s → (Trimmed x ≡ Trimmed y) × (r ≡ s)
trimmed_end x y r s h = let k = told_end (λ b. reply_text (Trimmed b)) (λ text. get_or text 8 0 == 116) trimmed_told x y r s h in (ap Trimmed k.0, k.1)

accepted_told : (b : Bool) (r : List ℕ) → (get_or (reply_text (Accepted b) ++ r) 9 0 == 116) ≡ b
accepted_told true r = refl
accepted_told false r = refl

accepted_end : (x y : Bool) (r s : List ℕ) → reply_text (Accepted x) ++ r ≡ reply_text (Accepted y) ++ s → (Accepted x ≡ Accepted y) × (r ≡ s)
accepted_end x y r s h = let k = told_end (λ b. reply_text (Accepted b)) (λ text. get_or text 9 0 == 116) accepted_told x y r s h in (ap Accepted k.0, k.1)

-- how many bytes a reset gave back
released_onto : (bytes : ℕ) (r : List ℕ) → codes "released " ++ (decimal bytes ++ 10 ∷ r) ≡ reply_text (Released bytes) ++ r
released_onto bytes r = ap (λ (l : List ℕ). codes "released " ++ l) (sym (append_assoc (decimal bytes) (10 ∷ []) r))

released_end : (x y : ℕ) (r s : List ℕ) → x < 2 ^ 64 → y < 2 ^ 64 → reply_text (Released x) ++ r ≡ reply_text
    (Released y) ++ s → (Released x ≡ Released y) × (r ≡ s)
released_end x y r s fx fy h =
    let k = append_cancel_left (codes "released ") (decimal x ++ 10 ∷ r) (decimal y ++ 10 ∷ s) (released_onto x r ∙ h ∙ sym (released_onto y s)) in
    let bytes = decimal_end x y 10 10 r s fx fy (lit≤ tt) (lit≤ tt) k in
    (ap Released bytes.0, tail_of bytes.1)

-- the first two letters tell the kinds of extents apart, and so does their sum
abbrev kind_of : List ℕ → Kind
kind_of text =
    let sum = get_or text 0 0 + get_or text 1 0 in
    if sum == 232 then Used else if sum == 216 then Free else if sum == 223 then Victim else if sum == 227 then Top else if sum == 215 then Record else Foot

kind_told : (kind : Kind) (r : List ℕ) → kind_of (kind_word kind ++ r) ≡ kind
kind_told Used r = refl
kind_told Free r = refl
kind_told Victim r = refl
kind_told Top r = refl
kind_told Record r = refl
kind_told Foot r = refl

-- an extent, before a byte that is no digit
extent_onto : (x : Extent) (c : ℕ) (r : List ℕ) → extent_text x ++ c ∷ r ≡ kind_word x.kind ++ 58 ∷ (span_text x.at x.size ++ c ∷ r)
extent_onto x c r = append_assoc (kind_word x.kind) (58 ∷ span_text x.at x.size) (c ∷ r)

extent_end : Ends Extent extent_text ExtentFits
extent_end x y c d r s fx fy nc nd h =
    let kind = told_end kind_word kind_of kind_told x.kind y.kind (58 ∷ (span_text x.at x.size ++ c ∷ r))
    (58 ∷ (span_text y.at y.size ++ d ∷ s)) (sym (extent_onto x c r) ∙ h ∙ extent_onto y d s) in
    let span = span_end x.at x.size y.at y.size c d r s fx fy (omega (arith, nc)) (omega (arith, nd)) (tail_of kind.1) in
    ((λ i. record { at = span.0 i; size = span.1 i; kind = kind.0 i }), span.2)

-- the second and the fifth letter tell the kinds of replies apart, and so does their sum
abbrev letters : Reply → ℕ
letters (Block number address) = 215
letters Done = 121
letters (Bytes bytes) = 236
letters (Byte byte) = 153
letters (Fault code) = 213
letters (Trimmed released) = 223
letters (Accepted accepted) = 211
letters (Released bytes) = 198
letters (Extents extents) = 230
letters (Refused why) = 216

letters_are : (p : Reply) (r : List ℕ) → get_or (reply_text p ++ r) 1 0 + get_or (reply_text p ++ r) 4 0 ≡ letters p
letters_are (Block number address) r = refl
letters_are Done r = refl
letters_are (Bytes bytes) r = refl
letters_are (Byte byte) r = refl
letters_are (Fault code) r = refl
letters_are (Trimmed true) r = refl
letters_are (Trimmed false) r = refl
letters_are (Accepted true) r = refl
letters_are (Accepted false) r = refl
letters_are (Released bytes) r = refl
letters_are (Extents extents) r = refl
letters_are (Refused why) r = refl

letters_same : (p q : Reply) (r s : List ℕ) → reply_text p ++ r ≡ reply_text q ++ s → letters p ≡ letters q
letters_same p q r s h = sym (letters_are p r) ∙ (ap (λ (l : List ℕ). get_or l 1 0 + get_or l 4 0) h ∙ letters_are q s)

reply_end : (p q : Reply) (r s : List ℕ) → ReplyFits p → ReplyFits q → reply_text p ++ r ≡ reply_text q ++ s → (p ≡ q) × (r ≡ s)
reply_end (Block m a) (Block n b) r s fp fq h = block_end m a n b r s fp fq h
reply_end Done Done r s fp fq h = (refl, append_cancel_left (codes "done\n") r s h)
reply_end (Bytes xs) (Bytes ys) r s fp fq h = bytes_end xs ys r s fp fq h
reply_end (Byte x) (Byte y) r s fp fq h = byte_end x y r s fp fq h
reply_end (Fault x) (Fault y) r s fp fq h = fault_end x y r s fp fq h
reply_end (Trimmed x) (Trimmed y) r s fp fq h = trimmed_end x y r s h
reply_end (Accepted x) (Accepted y) r s fp fq h = accepted_end x y r s h
reply_end (Released x) (Released y) r s fp fq h = released_end x y r s fp fq h
reply_end (Extents xs) (Extents ys) r s fp fq h = let k = items_end extent_text ExtentFits extent_end (codes "extents") xs
    ys r s fp fq h in ((λ i. Extents (k.0 i)), k.1)
reply_end (Refused v) (Refused w) r s fp fq h = refused_end v w r s h
reply_end p q r s fp fq h = absurd (let k : letters p ≡ letters q = letters_same p q r s h in omega (arith, k))

-- a region of a heap line, before a byte that is no digit
region_end : Ends Region pages_text RegionFits
region_end x y c d r s fx fy nc nd h =
    let span = span_end x.start x.pages y.start y.pages c d r s (fx.0, fx.1) (fy.0, fy.1) (omega (arith, nc)) (omega (arith, nd)) h in
    (fx.2 ∙ (λ i. heap_region (span.0 i) (span.1 i)) ∙ sym fy.2, span.2)

-- neither a heap line nor a large line begins there
pub record NoMore (r : List ℕ) : Type 0 where
  pub no_heap : (t : List ℕ) → r ≡ 104 ∷ t → ⊥
  pub no_large : (t : List ℕ) → r ≡ 108 ∷ t → ⊥

some_end : (xs ys : List Region) (r s : List ℕ) → AllByRecursion RegionFits xs → AllByRecursion RegionFits ys →
    heap_line (Some xs) ++ r ≡ heap_line (Some ys) ++ s → (xs ≡ ys) × (r ≡ s)
some_end [] [] r s fx fy h = (refl, append_cancel_left (codes "heap none\n") r s h)
some_end [] (y ∷ ys) r s fx fy h = absurd (let k : 110 ≡ 48 = head_of (tail_of (tail_of (tail_of (tail_of (tail_of h))))) in omega (arith, k))
some_end (x ∷ xs) [] r s fx fy h = absurd (let k : 48 ≡ 110 = head_of (tail_of (tail_of (tail_of (tail_of (tail_of h))))) in omega (arith, k))
some_end (x ∷ xs) (y ∷ ys) r s fx fy h = items_end pages_text RegionFits region_end (codes "heap") (x ∷ xs) (y ∷ ys) r s fx fy h

-- no heap line begins there
abbrev NoHeap : List ℕ → Type 0
NoHeap r = (t : List ℕ) → r ≡ 104 ∷ t → ⊥

heap_end : (p q : Option (List Region)) (r s : List ℕ) → RegionsFit p → RegionsFit q → NoHeap r → NoHeap s →
    heap_line p ++ r ≡ heap_line q ++ s → (p ≡ q) × (r ≡ s)
heap_end None None r s fp fq nr ns h = (refl, h)
heap_end None (Some ys) r s fp fq nr ns h = absurd (nr (codes "eap" ++ ((heap_regions_text ys ++ 10 ∷ []) ++ s)) h)
heap_end (Some xs) None r s fp fq nr ns h = absurd (ns (codes "eap" ++ ((heap_regions_text xs ++ 10 ∷ []) ++ r)) (sym h))
heap_end (Some xs) (Some ys) r s fp fq nr ns h = let k = some_end xs ys r s fp fq h in ((λ i. Some (k.0 i)), k.1)

-- a slot, before a byte that is no digit of base 16
slot_end : (x y c d : ℕ) (r s : List ℕ) → x < 2 ^ 64 → y < 2 ^ 64 → 16 ≤ digit_value c → 16 ≤ digit_value d →
    hexadecimal x ++ c ∷ r ≡ hexadecimal y ++ d ∷ s → (x ≡ y) × (c ∷ r ≡ d ∷ s)
slot_end x y c d r s fx fy nc nd h = hex_end x y c d r s fx fy nc nd h

large_end : (p q : Option (List ℕ)) (r s : List ℕ) → SlotsFit p → SlotsFit q → NoMore r → NoMore s → large_line p ++ r ≡ large_line q ++ s → (p ≡ q) × (r ≡ s)
large_end None None r s fp fq nr ns h = (refl, h)
large_end None (Some ys) r s fp fq nr ns h = absurd (nr.no_large (codes "arge" ++ ((spaced hexadecimal ys ++ 10 ∷ []) ++ s)) h)
large_end (Some xs) None r s fp fq nr ns h = absurd (ns.no_large (codes "arge" ++ ((spaced hexadecimal xs ++ 10 ∷ []) ++ r)) (sym h))
large_end (Some xs) (Some ys) r s fp fq nr ns h =
    let k = items_end hexadecimal (λ slot. slot < 2 ^ 64) slot_end (codes "large") xs ys r s fp fq h in
    ((λ i. Some (k.0 i)), k.1)

-- no heap line begins with a large line, or where none begins
large_head : (p : Option (List ℕ)) (r : List ℕ) → NoMore r → NoHeap (large_line p ++ r)
large_head None r none t h = none.no_heap t h
large_head (Some slots) r none t h = let k : 108 ≡ 104 = head_of h in omega (arith, k)

-- the lines behind a reply, and what follows
abbrev lines_onto : Answer → List ℕ → List ℕ
lines_onto a r = heap_line a.regions ++ (large_line a.large ++ r)

answer_onto : (a : Answer) (r : List ℕ) → text_of a ++ r ≡ reply_text a.reply ++ lines_onto a r
unfolding text_of
answer_onto a r =
    append_assoc (reply_text a.reply) (heap_line a.regions ++ large_line a.large) r
    ∙ ap (λ (l : List ℕ). reply_text a.reply ++ l) (append_assoc (heap_line a.regions) (large_line a.large) r)

answer_end : (a b : Answer) (r s : List ℕ) → AnswerFits (Some a) → AnswerFits (Some b) → NoMore r → NoMore s →
    text_of a ++ r ≡ text_of b ++ s → (a ≡ b) × (r ≡ s)
answer_end a b r s fa fb nr ns h =
    let k = reply_end a.reply b.reply (lines_onto a r) (lines_onto b s) fa.0 fb.0 (sym (answer_onto a r) ∙ h ∙ answer_onto b s) in
    let l = heap_end a.regions b.regions (large_line a.large ++ r) (large_line b.large ++ s) fa.1 fb.1
    (large_head a.large r nr) (large_head b.large s ns) k.1 in
    let m = large_end a.large b.large r s fa.2 fb.2 nr ns l.1 in
    ((λ i. record { reply = k.0 i; regions = l.0 i; large = m.0 i }), m.1)

-- the first byte of a reply's text is no h, and its second no a
reply_differs : (p : Reply) (r s t : List ℕ) → reply_text p ++ r ≡ codes "bad line\n" ++ s → ⊥
reply_differs (Block m a) r s t h = let k : 108 ≡ 97 = head_of (tail_of h) in omega (arith, k)
reply_differs Done r s t h = let k : 100 ≡ 98 = head_of h in omega (arith, k)
reply_differs (Bytes bytes) r s t h = let k : 121 ≡ 97 = head_of (tail_of h) in omega (arith, k)
reply_differs (Byte byte) r s t h = let k : 121 ≡ 97 = head_of (tail_of h) in omega (arith, k)
reply_differs (Fault code) r s t h = let k : 102 ≡ 98 = head_of h in omega (arith, k)
reply_differs (Trimmed released) r s t h = let k : 116 ≡ 98 = head_of h in omega (arith, k)
reply_differs (Accepted accepted) r s t h = let k : 97 ≡ 98 = head_of h in omega (arith, k)
reply_differs (Released bytes) r s t h = let k : 114 ≡ 98 = head_of h in omega (arith, k)
reply_differs (Extents extents) r s t h = let k : 101 ≡ 98 = head_of h in omega (arith, k)
reply_differs (Refused why) r s t h = let k : 114 ≡ 98 = head_of h in omega (arith, k)

line_end : (x y : Option Answer) (r s : List ℕ) → AnswerFits x → AnswerFits y → NoMore r → NoMore s → line_text x ++ r ≡ line_text y ++ s → (x ≡ y) × (r ≡ s)
unfolding line_text
line_end None None r s fx fy nr ns h = (refl, append_cancel_left (codes "bad line\n") r s h)
line_end None (Some b) r s fx fy nr ns h = absurd (reply_differs b.reply (lines_onto b s) r [] (sym (answer_onto b s) ∙ sym h))
line_end (Some a) None r s fx fy nr ns h = absurd (reply_differs a.reply (lines_onto a r) s [] (sym (answer_onto a r) ∙ h))
line_end (Some a) (Some b) r s fx fy nr ns h = let k = answer_end a b r s fx fy nr ns h in ((λ i. Some (k.0 i)), k.1)

-- neither h nor l is the first byte
begins : (b : ℕ) (r : List ℕ) → (b ≡ 104 → ⊥) → (b ≡ 108 → ⊥) → NoMore (b ∷ r)
begins b r h l = record { no_heap = λ t e. h (head_of e); no_large = λ t e. l (head_of e) }

reply_head : (p : Reply) (r : List ℕ) → NoMore (reply_text p ++ r)
reply_head (Block m a) r = begins 98 _ (λ e. omega (arith, e)) (λ e. omega (arith, e))
reply_head Done r = begins 100 _ (λ e. omega (arith, e)) (λ e. omega (arith, e))
reply_head (Bytes bytes) r = begins 98 _ (λ e. omega (arith, e)) (λ e. omega (arith, e))
reply_head (Byte byte) r = begins 98 _ (λ e. omega (arith, e)) (λ e. omega (arith, e))
reply_head (Fault code) r = begins 102 _ (λ e. omega (arith, e)) (λ e. omega (arith, e))
reply_head (Trimmed released) r = begins 116 _ (λ e. omega (arith, e)) (λ e. omega (arith, e))
reply_head (Accepted accepted) r = begins 97 _ (λ e. omega (arith, e)) (λ e. omega (arith, e))
reply_head (Released bytes) r = begins 114 _ (λ e. omega (arith, e)) (λ e. omega (arith, e))
reply_head (Extents extents) r = begins 101 _ (λ e. omega (arith, e)) (λ e. omega (arith, e))
reply_head (Refused why) r = begins 114 _ (λ e. omega (arith, e)) (λ e. omega (arith, e))

line_head : (x : Option Answer) (r : List ℕ) → NoMore (line_text x ++ r)
unfolding line_text
line_head None r = begins 98 _ (λ e. omega (arith, e)) (λ e. omega (arith, e))
line_head (Some a) r = subst NoMore (sym (answer_onto a r)) (reply_head a.reply (lines_onto a r))

region_lines_head : (rs : List Region) (r : List ℕ) → NoMore r → NoMore (flat_map region_line rs ++ r)
region_lines_head [] r none = none
region_lines_head (x ∷ rs) r none = begins 114 _ (λ e. omega (arith, e)) (λ e. omega (arith, e))

end_head : (d : State) → NoMore (end_text_of d)
unfolding end_text_of
end_head d = region_lines_head (all_regions d) (counts_line (free_frames d) (1 + length d.tables))
    (begins 102 _ (λ e. omega (arith, e)) (λ e. omega (arith, e)))

lines_head : (xs : List (Option Answer)) (d : State) → NoMore (texts_of xs ++ end_text_of d)
lines_head [] d = end_head d
lines_head (x ∷ xs) d = subst NoMore (sym (append_assoc (line_text x) (texts_of xs) (end_text_of d))) (line_head x (texts_of xs ++ end_text_of d))

pub spells_one : SpellsOne
spells_one [] [] d e len fx fy h = refl
spells_one [] (y ∷ ys) d e len fx fy h = absurd (omega (arith, len))
spells_one (x ∷ xs) [] d e len fx fy h = absurd (omega (arith, len))
spells_one (x ∷ xs) (y ∷ ys) d e len fx fy h =
    let k = line_end x y (texts_of xs ++ end_text_of d) (texts_of ys ++ end_text_of e) fx.0 fy.0 (lines_head xs d) (lines_head ys e)
    (sym (append_assoc (line_text x) (texts_of xs) (end_text_of d)) ∙ h ∙ append_assoc (line_text y) (texts_of ys) (end_text_of e)) in
    (λ i. k.0 i ∷ spells_one xs ys d e (omega (arith, len)) fx.1 fy.1 k.1 i)
