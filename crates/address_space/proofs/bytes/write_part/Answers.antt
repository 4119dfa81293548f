use Rattle.std.proofs.Common.{◌≡◌, ◌∙◌, ℕ, ◌+◌, ◌-◌, ◌*◌, ◌/◌, ◌%◌, ◌^◌, ◌<◌, ◌≤◌, ◌==◌, ◌||◌, length, option_map, ap, sym, refl, subst, arith}
use Rattle.std.specs.Prelude.{IsSome, IsTrue}
use Rattle.paging_core.specs.Address.{is_canonical}
use Rattle.paging_core.specs.Walk.{walk_of, mapped_place}
use Rattle.paging_core.specs.Memory.{word_at}
use Rattle.paging_core.proofs.PageWritten.{written_walks, written_larges, written_tree, run_bytes, run_others}
use Rattle.address_space.proofs.Unmapped.{not_there}
use Rattle.address_space.proofs.Written.{IsPartWritten, part_fits, part_words, part_written}
use Rattle.address_space.proofs.bytes.write_part.Goals as goal

pub unreachable-requires : goal.unreachable-requires
unreachable-requires c =
    let page = c.containing_address-page.ensures in
    let at = c.new.ensures in
    let same : c.args.at / 4096 ≡ c.containing_address-page.result = omega (arith, page, at) in
    not_there (walk_of c.args.frames.now c.args.root c.containing_address-page.result) (sym c.walk.ensures.found ∙ ap (option_map mapped_place) c.in_default.is)
    (subst (λ (p : ℕ). IsSome (walk_of c.args.frames.now c.args.root p)) same c.requires.mapped)

pub read_words-requires-clause-fits : goal.read_words-requires-clause-fits
read_words-requires-clause-fits c = let size = c.requires.words in let few = c.requires.fits in omega (arith, size, few)

pub put_bytes-requires-clause-fits : goal.put_bytes-requires-clause-fits
put_bytes-requires-clause-fits c = let size = c.requires.words in let read = c.read_words.ensures.length in omega (arith, size, read)

pub put_bytes-requires-clause-few : goal.put_bytes-requires-clause-few
put_bytes-requires-clause-few c = let size = c.requires.words in let few = c.requires.fits in let read =
    c.read_words.ensures.length in omega (arith, size, few, read)

pub write_words-requires-clause-fits : goal.write_words-requires-clause-fits
write_words-requires-clause-fits c =
    let size = c.requires.words in
    let few = c.requires.fits in
    let read = c.read_words.ensures.length in
    let put = c.put_bytes.ensures.size in
    omega (arith, size, few, read, put)

part : (c : goal.After-write_words) → IsPartWritten c.args.frames.now c.write_words.new.self c.read_words.new.words
    c.put_bytes.new.words c.args.bytes.now c.args.root c.args.at c.containing_address-page.result (c.args.at % 4096 / 8)
    (mapped_place c.in-Some.place)
part c = record {
  there = sym c.in-Some.ensures.found;
  page_is = (let page = c.containing_address-page.ensures in let at = c.new.ensures in omega (arith, page, at));
  first_is = refl;
  some = c.requires.some;
  fits = c.requires.fits;
  size = c.read_words.ensures.length ∙ c.requires.words;
  of_frame = c.read_words.ensures.read;
  bytes_put = c.put_bytes.ensures;
  words_put = c.write_words.ensures;
}

fits : (c : goal.After-write_words) → c.args.at % 4096 / 8 + length c.put_bytes.new.words ≤ 512
fits c =
    part_fits c.args.frames.now c.write_words.new.self c.read_words.new.words c.put_bytes.new.words c.args.bytes.now
    c.args.root c.args.at c.containing_address-page.result (c.args.at % 4096 / 8) (mapped_place c.in-Some.place) (part c)

elsewhere : (c : goal.After-write_words) → (f i : ℕ) → i < 512 → (f ≡ c.in-Some.place.frame → ⊥) →
    word_at c.write_words.new.self f i ≡ word_at c.args.frames.now f i
elsewhere c = λ f i less other. c.write_words.ensures.others f i less (λ same low high. other same)

pub returns : goal.returns
returns c =
    let old = c.args.frames.now in
    let new = c.write_words.new.self in
    let root = c.args.root in
    let page_number = c.containing_address-page.result in
    let place = mapped_place c.in-Some.place in
    let found = sym c.in-Some.ensures.found in
    let same = c.write_words.ensures.size in
    let t = c.requires.tree in
    let half : page_number * 4096 / 2 ^ 47 ≡ c.args.at / 2 ^ 47 = omega (arith, c.containing_address-page.ensures, c.new.ensures) in
    let canonical : IsTrue (is_canonical (page_number * 4096)) = ap (λ (n : ℕ). n == 0 || n == 2 ^ 17 - 1) half ∙ c.requires.canonical in
    record {
      size = same;
      tree = λ free tree. written_tree old new root page_number place free found same (elsewhere c) tree;
      walks = written_walks old new root page_number place t.0 found same (elsewhere c) t.1;
      larges = written_larges old new root page_number place t.0 found same (elsewhere c) t.1;
      bytes = part_written old new c.read_words.new.words c.put_bytes.new.words c.args.bytes.now root c.args.at page_number
          (c.args.at % 4096 / 8) place (part c)
          (run_bytes old new root page_number (c.args.at % 4096 / 8) c.put_bytes.new.words place t.0 found (fits c) c.write_words.ensures t.1)
          (run_others old new root page_number (c.args.at % 4096 / 8) c.put_bytes.new.words place t.0 found (fits c) c.write_words.ensures t.1 canonical);
      words = part_words old new c.read_words.new.words c.put_bytes.new.words c.args.bytes.now root c.args.at page_number
          (c.args.at % 4096 / 8) place (part c);
    }
