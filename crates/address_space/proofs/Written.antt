-- Bytes that are written to mapped pages.
use Rattle.std.proofs.Common.{◌≡◌, ◌∙◌, ap, sym, refl, ℕ, ◌+◌, ◌-◌, ◌*◌, ◌/◌, ◌%◌, ◌^◌, ◌<◌, ◌≤◌, ◌==◌, ◌||◌, ◌&&◌, Bool, cond, Option, Some, None, option_map, List, length, take, drop, slice_index, subst, arith, ◌⊎◌, inl, inr}
use Rattle.std.proofs.lemmas.Bool.{cases_lt, cases_eq}
use Rattle.std.proofs.lemmas.List.{length-drop, length-take-le, get_or-take, get_or-drop}
use Rattle.std.specs.Prelude.{nat_le, nat_lt, IsTrue, IsSome, IfSome, is_some}
use Rattle.paging_core.specs.Address.{is_canonical}
use Rattle.paging_core.specs.Memory.{frame_count, word_at, byte_of, AreFrameWords, AreWordsWritten}
use Rattle.paging_core.specs.Pool.{FreeBelow}
use Rattle.paging_core.specs.Tree.{IsTree}
use Rattle.paging_core.specs.Walk.{Place, reach, large_of, walk_of, reached}
use Rattle.paging_core.specs.PageBits.{bits_at}
use Rattle.paging_core.specs.declared.page_table.Rights.{Rights}
use Rattle.address_space.specs.Runs.{rights_in}
use Rattle.address_space.specs.PageMap.{IsMap, stored}
use Rattle.address_space.specs.Access.{IsGoodSpan, byte_at, AreBytesPut, AreWritten, LiesIn, AreOtherWordsKept}
use Rattle.address_space.specs.Space.{Tables, AreTablesKept, page_map_of}
use Rattle.address_space.proofs.Cutting.{side_of, then_in, else_out}

-- every address of bytes in one canonical half is canonical
pub canonical_span : (at count any : ℕ) → IsGoodSpan at count → at ≤ any → any < at + count → IsTrue (is_canonical any)
canonical_span at count any span h k =
    let one = span.one_half in
    let same : any / 2 ^ 47 ≡ at / 2 ^ 47 = omega (arith, one, h, k) in
    ap (λ (n : ℕ). n == 0 || n == 2 ^ 17 - 1) same ∙ span.canonical

pub walk_same : (old new : List ℕ) (root page : ℕ) → ((level number : ℕ) → level ≤ 4 →
    reach new root level number ≡ reach old root level number) → walk_of new root page ≡ walk_of old root page
unfolding walk_of
walk_same old new root page same = same 4 (page % 2 ^ 36) (omega arith)

-- the byte of a run at an address, by its place in the run
byte_from : (run : List ℕ) (address index : ℕ) → index ≤ address % 4096 / 8 →
    byte_of (slice_index run (address % 4096 / 8 - index)) (address % 8) ≡ byte_at run (address % 4096 - 8 * index)
byte_from run address index low =
    let word : address % 4096 / 8 - index ≡ (address % 4096 - 8 * index) / 8 = omega (arith, low) in
    let rest : address % 8 ≡ (address % 4096 - 8 * index) % 8 = omega (arith, low) in
    ap (λ (i : ℕ). byte_of (slice_index run i) (address % 8)) word ∙ ap (byte_of (slice_index run ((address % 4096 - 8 * index) / 8))) rest

-- a byte of a mapped page, of which words were read from `index` on
pub reached_in : (words : List ℕ) (root address index : ℕ) (o : Option Place) → walk_of words root (address / 4096) ≡ o →
    (run : List ℕ) → IfSome o (λ place. AreFrameWords words place.frame index run) → IsSome o →
    index ≤ address % 4096 / 8 → address % 4096 / 8 < index + length run → reached words root address ≡ Some (byte_at run (address % 4096 - 8 * index))
reached_in words root address index None is run of_frame some low high = absurd (cc)
reached_in words root address index (Some place) is run of_frame some low high =
    let k : index + (address % 4096 / 8 - index) ≡ address % 4096 / 8 = omega (arith, low) in
    let word : slice_index run (address % 4096 / 8 - index) ≡ word_at words place.frame (address % 4096 / 8) =
    of_frame.read (address % 4096 / 8 - index) (omega (arith, low, high)) ∙ ap (λ (i : ℕ). word_at words place.frame i) k in
    ap (option_map (λ (p : Place). byte_of (word_at words p.frame (address % 4096 / 8)) (address % 8))) is
    ∙ ap (λ (b : ℕ). Some b) (ap (λ (w : ℕ). byte_of w (address % 8)) (sym word) ∙ byte_from run address index low)

-- ---- words of one page

-- the words in which bytes lie were read, changed and written
pub record IsPartWritten (old new words put bytes : List ℕ) (root at page first : ℕ) (place : Place) : Type 0 where
  pub there : walk_of old root page ≡ Some place
  pub page_is : page ≡ at / 4096
  pub first_is : first ≡ at % 4096 / 8
  pub some : 0 < length bytes
  pub fits : at % 4096 + length bytes ≤ 4096
  pub size : length words ≡ (at % 8 + length bytes + 7) / 8
  pub of_frame : AreFrameWords old place.frame first words
  pub bytes_put : AreBytesPut words put (at % 8) (length bytes) bytes
  pub words_put : AreWordsWritten old new place.frame first put

module _ (old new words put bytes : List ℕ) (root at page first : ℕ) (place : Place)
    (m : IsPartWritten old new words put bytes root at page first place) where
  put_size : length put ≡ (at % 8 + length bytes + 7) / 8
  put_size = m.bytes_put.size ∙ m.size

  pub part_fits : first + length put ≤ 512
  part_fits = let f = m.first_is in let few = m.fits in let s = put_size in omega (arith, f, few, s)

  -- a word of the part has a byte that is written
  pub part_words : AreOtherWordsKept old new root at (length bytes)
  part_words = record {
    kept = λ f i less apart. m.words_put.others f i less
        (λ same low high. inside f i less same low high (cases_lt i (first + 1)) apart);
  } where
    inside : (f i : ℕ) → i < 512 → f ≡ place.frame → first ≤ i → i < first + length put →
        (i < first + 1) ⊎ (first + 1 ≤ i) → ((address : ℕ) → at ≤ address → address < at + length bytes →
        LiesIn old root address f i → ⊥) → ⊥
    inside f i less same low high (inl h) apart =
        let f_is = m.first_is in
        let some = m.some in
        apart at (omega arith) (omega (arith, some)) (record {
          place = place;
          found = ap (walk_of old root) (sym m.page_is) ∙ m.there;
          in_frame = sym same;
          at_index = omega (arith, f_is, low, h);
        })
    inside f i less same low high (inr h) apart =
        let f_is = m.first_is in
        let p_is = m.page_is in
        let s = put_size in
        let page_of : (4096 * page + 8 * i) / 4096 ≡ page = omega (arith, less) in
        apart (4096 * page + 8 * i) (omega (arith, h, f_is, p_is)) (omega (arith, high, f_is, p_is, s)) (record {
          place = place;
          found = ap (walk_of old root) page_of ∙ m.there;
          in_frame = sym same;
          at_index = omega (arith, less);
        })

  pub part_written :
      ((address : ℕ) → address / 4096 ≡ page → first ≤ address % 4096 / 8 → address % 4096 / 8 < first + length put →
      reached new root address ≡ Some (byte_of (slice_index put (address % 4096 / 8 - first)) (address % 8))) →
      ((address : ℕ) → IsTrue (is_canonical address) → (address / 4096 ≡ page → first ≤ address % 4096 / 8 →
      address % 4096 / 8 < first + length put → ⊥) → reached new root address ≡ reached old root address) →
      AreWritten (reached old root) (reached new root) at (length bytes) bytes
  part_written inside outside = record { each = λ address canonical. by_page address canonical (cases_eq (address / 4096) page) } where
    -- a byte of the words
    in_words : (address : ℕ) → address / 4096 ≡ page → first ≤ address % 4096 / 8 →
        address % 4096 / 8 < first + length put → ((at ≤ address) × (address < at + length
        bytes)) ⊎ ((address < at) ⊎ (at + length bytes ≤ address)) →
        reached new root address ≡ cond (nat_le at address && nat_lt address (at + length bytes))
        (Some (slice_index bytes (address - at))) (reached old root address)
    in_words address h low high side = go side where
      f_is : first ≡ at % 4096 / 8
      f_is = m.first_is

      p_is : page ≡ at / 4096
      p_is = m.page_is

      small : address % 4096 - 8 * first < 8 * length words
      small = let s = m.bytes_put.size in omega (arith, low, high, s)

      now : reached new root address ≡ Some (byte_at put (address % 4096 - 8 * first))
      now = inside address h low high ∙ ap (λ (b : ℕ). Some b) (byte_from put address first low)

      was : reached old root address ≡ Some (byte_at words (address % 4096 - 8 * first))
      was = reached_in old root address first (Some place) (ap (walk_of old root) h ∙ m.there) words m.of_frame refl low
          (let s = m.bytes_put.size in omega (arith, high, s))

      go : ((at ≤ address) × (address < at + length bytes)) ⊎ ((address < at) ⊎ (at + length bytes ≤ address)) →
          reached new root address ≡ cond (nat_le at address && nat_lt address (at + length bytes))
          (Some (slice_index bytes (address - at))) (reached old root address)
      go (inl k) =
          let from : at % 8 ≤ address % 4096 - 8 * first = omega (arith, f_is, p_is, h, low, k.0) in
          let to : address % 4096 - 8 * first < at % 8 + length bytes = omega (arith, f_is, p_is, h, low, k.1) in
          let place : address % 4096 - 8 * first - at % 8 ≡ address - at = omega (arith, f_is, p_is, h, low, k.0) in
          now
          ∙ (ap (λ (b : ℕ). Some b) (m.bytes_put.each (address % 4096 - 8 * first) small
          ∙ (then_in (at % 8) (at % 8 + length bytes) (address % 4096 - 8 * first)
          (slice_index bytes (address % 4096 - 8 * first - at % 8)) (byte_at words (address % 4096 - 8 * first)) from to
          ∙ ap (slice_index bytes) place))
          ∙ sym (then_in at (at + length bytes) address (Some (slice_index bytes (address - at))) (reached old root address) k.0 k.1))
      go (inr k) =
          now
          ∙ (ap (λ (b : ℕ). Some b) (m.bytes_put.each (address % 4096 - 8 * first) small
          ∙ else_out (at % 8) (at % 8 + length bytes) (address % 4096 - 8 * first)
          (slice_index bytes (address % 4096 - 8 * first - at % 8)) (byte_at words (address % 4096 - 8 * first))
          (out k))
          ∙ (sym was ∙ sym (else_out at (at + length bytes) address (Some (slice_index bytes (address - at))) (reached old root address) k))) where
            out : (address < at) ⊎ (at + length bytes ≤ address) → (address % 4096 - 8 * first < at % 8) ⊎ (at % 8 + length bytes ≤ address % 4096 - 8 * first)
            out (inl l) = inl (omega (arith, l, f_is, p_is, h, low))
            out (inr l) = inr (omega (arith, l, f_is, p_is, h, low))

    -- one of no such word
    out_of_words : (address : ℕ) → IsTrue (is_canonical address) → (address / 4096 ≡ page → first ≤ address % 4096 / 8 →
        address % 4096 / 8 < first + length put → ⊥) →
        ((at ≤ address) × (address < at + length bytes)) ⊎ ((address < at) ⊎ (at + length bytes ≤ address)) →
        reached new root address ≡ cond (nat_le at address && nat_lt address (at + length bytes))
        (Some (slice_index bytes (address - at))) (reached old root address)
    out_of_words address canonical apart (inl k) =
        let f_is = m.first_is in
        let p_is = m.page_is in
        let few = m.fits in
        let s = put_size in
        absurd (apart (omega (arith, p_is, few, k.0, k.1)) (omega (arith, f_is, few, k.0, k.1)) (omega (arith, f_is, few, s, k.0, k.1)))
    out_of_words address canonical apart (inr k) = outside address canonical apart
        ∙ sym (else_out at (at + length bytes) address (Some (slice_index bytes (address - at))) (reached old root address)
        k)

    by_page : (address : ℕ) → IsTrue (is_canonical address) → (address / 4096 ≡ page) ⊎ (address / 4096 ≡ page → ⊥) →
        reached new root address ≡ cond (nat_le at address && nat_lt address (at + length bytes))
        (Some (slice_index bytes (address - at))) (reached old root address)
    by_page address canonical (inr h) = out_of_words address canonical (λ same low high. h same) (side_of at (at + length bytes) address)
    by_page address canonical (inl h) = by_words (side_of first (first + length put) (address % 4096 / 8)) where
      by_words : ((first ≤ address % 4096 / 8) × (address % 4096 / 8 < first + length
          put)) ⊎ ((address % 4096 / 8 < first) ⊎ (first + length put ≤ address % 4096 / 8)) →
          reached new root address ≡ cond (nat_le at address && nat_lt address (at + length bytes))
          (Some (slice_index bytes (address - at))) (reached old root address)
      by_words (inl k) = in_words address h k.0 k.1 (side_of at (at + length bytes) address)
      by_words (inr (inl k)) = out_of_words address canonical (λ same low high. omega (arith, low, k)) (side_of at (at + length bytes) address)
      by_words (inr (inr k)) = out_of_words address canonical (λ same low high. omega (arith, high, k)) (side_of at (at + length bytes) address)

-- ---- part by part

pub record AreWrittenTo (old new : List ℕ) (root at done : ℕ) (bytes : List ℕ) : Type 0 where
  pub written : AreWritten (reached old root) (reached new root) at done bytes
  pub size : length new ≡ length old
  pub tree : (free : List Bool) → IsTree old root free → IsTree new root free
  pub walks : (level number : ℕ) → level ≤ 4 → reach new root level number ≡ reach old root level number
  pub larges : (slot : ℕ) → large_of new root slot ≡ large_of old root slot
  pub words : AreOtherWordsKept old new root at done
  pub within : done ≤ length bytes

pub none_written : (words : List ℕ) (root at : ℕ) (bytes : List ℕ) → AreWrittenTo words words root at 0 bytes
none_written words root at bytes = record {
  written = record {
    each = λ address canonical. sym (else_out at (at + 0) address (Some (slice_index bytes (address - at)))
        (reached words root address) (out address (side_of at (at + 0) address)));
  };
  size = refl;
  tree = λ free t. t;
  walks = λ level number le. refl;
  larges = λ slot. refl;
  words = record { kept = λ f i less apart. refl };
  within = omega arith;
} where
  out : (address : ℕ) → ((at ≤ address) × (address < at + 0)) ⊎ ((address < at) ⊎ (at + 0 ≤ address)) → (address < at) ⊎ (at + 0 ≤ address)
  out address (inl h) = absurd (omega (arith, h.0, h.1))
  out address (inr h) = h

pub written_on : (old one new : List ℕ) (root at done count from : ℕ) (bytes part : List ℕ) →
    AreWrittenTo old one root at done bytes → from ≡ at + done → count ≡ length part → done + count ≤ length bytes →
    ((k : ℕ) → k < count → slice_index part k ≡ slice_index bytes (done + k)) →
    AreWritten (reached one root) (reached new root) from (length part) part → length new ≡ length one →
    ((free : List Bool) → IsTree one root free → IsTree new root free) →
    ((level number : ℕ) → level ≤ 4 → reach new root level number ≡ reach one root level number) →
    ((slot : ℕ) → large_of new root slot ≡ large_of one root slot) → AreOtherWordsKept one new root from (length part) →
    AreWrittenTo old new root at (done + count) bytes
written_on old one new root at done count from bytes part w is counted few same more size tree walks larges words = record {
  written = record {
    each = λ address canonical. more.each address canonical
        ∙ by_side address canonical (side_of from (from + length part) address) (side_of at (at + done) address);
  };
  size = size ∙ w.size;
  tree = λ free t. tree free (w.tree free t);
  walks = λ level number le. walks level number le ∙ w.walks level number le;
  larges = λ slot. larges slot ∙ w.larges slot;
  words = record {
    kept = λ f i less apart.
        words.kept f i less (λ address h k lies. apart address (omega (arith, h, is)) (omega (arith, k, is, counted)) (lies_before address f i lies))
        ∙ w.words.kept f i less (λ address h k lies. apart address h (omega (arith, k)) lies);
  };
  within = few;
} where
  lies_before : (address f i : ℕ) → LiesIn one root address f i → LiesIn old root address f i
  lies_before address f i lies = record {
    place = lies.place;
    found = sym (walk_same old one root (address / 4096) w.walks) ∙ lies.found;
    in_frame = lies.in_frame;
    at_index = lies.at_index;
  }

  by_side : (address : ℕ) → IsTrue (is_canonical address) → ((from ≤ address) × (address < from + length
      part)) ⊎ ((address < from) ⊎ (from + length part ≤ address)) →
      ((at ≤ address) × (address < at + done)) ⊎ ((address < at) ⊎ (at + done ≤ address)) →
      cond (nat_le from address && nat_lt address (from + length part)) (Some (slice_index part (address - from))) (reached one root address)
      ≡ cond (nat_le at address && nat_lt address (at + (done + count))) (Some (slice_index bytes (address - at))) (reached old root address)
  by_side address canonical (inl h) k =
      then_in from (from + length part) address (Some (slice_index part (address - from))) (reached one root address) h.0 h.1
      ∙ (ap (λ (b : ℕ). Some b) (same (address - from) (omega (arith, h.0, h.1, counted)) ∙ ap (slice_index bytes) (omega (arith, h.0, is)))
      ∙ sym (then_in at (at + (done + count)) address (Some (slice_index bytes (address - at))) (reached old root address)
      (omega (arith, h.0, is)) (omega (arith, h.1, is, counted))))
  by_side address canonical (inr h) (inl k) =
      else_out from (from + length part) address (Some (slice_index part (address - from))) (reached one root address) h
      ∙ (w.written.each address canonical
      ∙ (then_in at (at + done) address (Some (slice_index bytes (address - at))) (reached old root address) k.0 k.1
      ∙ sym (then_in at (at + (done + count)) address (Some (slice_index bytes (address - at))) (reached old root address) k.0 (omega (arith, k.1)))))
  by_side address canonical (inr h) (inr k) =
      else_out from (from + length part) address (Some (slice_index part (address - from))) (reached one root address) h
      ∙ (w.written.each address canonical
      ∙ (else_out at (at + done) address (Some (slice_index bytes (address - at))) (reached old root address) k
      ∙ sym (else_out at (at + (done + count)) address (Some (slice_index bytes (address - at))) (reached old root address) (out h k)))) where
        out : (address < from) ⊎ (from + length part ≤ address) → (address < at) ⊎ (at + done ≤ address) → (address < at) ⊎ (at + (done + count) ≤ address)
        out h (inl k) = inl k
        out (inl h) (inr k) = absurd (omega (arith, h, k, is))
        out (inr h) (inr k) = inr (omega (arith, h, is, counted))

-- ---- a part of the bytes

pub part_length : (bytes : List ℕ) (done count : ℕ) → done + count ≤ length bytes → length (take (done + count - done) (drop done bytes)) ≡ count
part_length bytes done count few =
    let rest = length-drop done bytes in
    let n = length-take-le (done + count - done) (drop done bytes) (omega (arith, rest, few)) in
    omega (arith, n)

pub part_byte : (bytes : List ℕ) (done count k : ℕ) → k < count → slice_index (take (done + count - done) (drop done bytes)) k ≡ slice_index bytes (done + k)
part_byte bytes done count k less = get_or-take (done + count - done) (drop done bytes) k 0 (omega (arith, less)) ∙ get_or-drop done bytes k 0

-- ---- the space after it

pub written_kept : (old : Tables) (words : List ℕ) (at : ℕ) (bytes : List ℕ) → AreTablesKept old →
    length words ≡ length old.words → ((free : List Bool) → IsTree old.words old.root free → IsTree words old.root free) →
    ((level number : ℕ) → level ≤ 4 → reach words old.root level number ≡ reach old.words old.root level number) →
    ((slot : ℕ) → large_of words old.root slot ≡ large_of old.words old.root slot) →
    AreTablesKept (record { words = words; root = old.root; free = old.free; runs = old.runs })
written_kept old words at bytes kept size tree walks larges =
    let count : frame_count words ≡ frame_count old.words = ap (λ n. n / 512) size in
    record {
      tree = tree old.free kept.tree;
      known = subst (λ (n : ℕ). FreeBelow old.free n) (sym count) kept.known;
      flags = kept.flags ∙ sym count;
      root_in = (let r = kept.root_in in omega (arith, count, r));
      few_frames = (let r = kept.few_frames in omega (arith, count, r));
      canonical = kept.canonical;
      found = λ page canonical. ap (option_map bits_at) (walk_same old.words words old.root page walks) ∙ kept.found page canonical;
      accounted = λ frame less unmet. kept.accounted frame (omega (arith, count, less))
          (λ level number met le at. unmet level number met le (walks level number le ∙ at));
      no_large = λ slot. larges slot ∙ kept.no_large slot;
      follow = kept.follow;
      longest = kept.longest;
    }

pub written_map : (old : Tables) (words : List ℕ) (at : ℕ) (bytes : List ℕ) → AreTablesKept old →
    AreWritten (reached old.words old.root) (reached words old.root) at (length bytes) bytes →
    IsGoodSpan at (length bytes) →
    ((any : ℕ) → at ≤ any → any < at + length bytes → IsSome (rights_in old.runs (any / 4096))) →
    IsMap (page_map_of (record { words = words; root = old.root; free = old.free; runs = old.runs })) (stored at bytes (page_map_of old))
written_map old words at bytes kept w span mapped = record {
  rights = λ page. refl;
  bytes = λ address. by_page address (rights_in old.runs (address / 4096)) refl (side_of at (at + length bytes) address);
} where
  canonical_of : (address : ℕ) → IsTrue (is_canonical (address / 4096 * 4096)) → IsTrue (is_canonical address)
  canonical_of address h =
      let same : address / 2 ^ 47 ≡ address / 4096 * 4096 / 2 ^ 47 = omega arith in
      ap (λ (n : ℕ). n == 0 || n == 2 ^ 17 - 1) same ∙ h

  by_page : (address : ℕ) (o : Option Rights) → rights_in old.runs (address / 4096) ≡ o →
      ((at ≤ address) × (address < at + length bytes)) ⊎ ((address < at) ⊎ (at + length bytes ≤ address)) →
      cond (is_some (rights_in old.runs (address / 4096))) (reached words old.root address) None
      ≡ cond (nat_le at address && nat_lt address (at + length bytes)) (Some (slice_index bytes (address - at)))
      (cond (is_some (rights_in old.runs (address / 4096))) (reached old.words old.root address) None)
  by_page address None is (inl k) = let no : IsSome (rights_in old.runs (address / 4096)) = mapped address k.0 k.1 in
      absurd (gone (rights_in old.runs (address / 4096)) is no) where
        gone : (o : Option Rights) → o ≡ None → IsSome o → ⊥
        gone None h some = absurd (cc)
        gone (Some a) h some = let no : Some a ≡ None = h in absurd (cc)
  by_page address None is (inr k) =
      let left : cond (is_some (rights_in old.runs (address / 4096))) (reached words old.root address) None ≡ None = rw is refl in
      let right : cond (is_some (rights_in old.runs (address / 4096))) (reached old.words old.root address) None ≡ None = rw is refl in
      left ∙ (sym right ∙ sym (else_out at (at + length bytes) address (Some (slice_index bytes (address - at)))
      (cond (is_some (rights_in old.runs (address / 4096))) (reached old.words old.root address) None) k))
  by_page address (Some r) is side =
      let canonical = canonical_of address (kept.canonical (address / 4096) (rw is refl)) in
      let now : cond (is_some (rights_in old.runs (address / 4096))) (reached words old.root address) None ≡ reached words old.root address = rw is refl in
      let before : cond (is_some (rights_in old.runs (address / 4096))) (reached old.words old.root address) None ≡ reached
      old.words old.root address = rw is refl in
      now ∙ (w.each address canonical ∙ ap (λ (b : Option ℕ). cond (nat_le at address && nat_lt address (at + length bytes))
      (Some (slice_index bytes (address - at))) b) (sym before))
