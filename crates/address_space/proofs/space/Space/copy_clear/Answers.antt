use Rattle.std.proofs.Common.{ℕ, ◌∙◌, refl, sym, subst, arith}
use Rattle.meminterval.specs.Tree.{entries}
use Rattle.address_space.specs.RunChanges.{AreRightsCopied}
use Rattle.address_space.specs.PageCopies.{ArePagesCopied, IsMappedRange}
use Rattle.address_space.specs.Seen.{tables_of}
use Rattle.address_space.proofs.Mapped.{clear_walks}
use Rattle.address_space.proofs.Duplicated.{AreDuplicated, duplicated_kept, duplicated_map, duplicated_is, ranges_apart, source_mapped, target_mapped}
use Rattle.address_space.proofs.DuplicatedWords.{duplicated_words}
use Rattle.address_space.proofs.space.Space.copy_clear.Goals as goal

pub map_range-requires-clause-mappable : goal.map_range-requires-clause-mappable
map_range-requires-clause-mappable c = record {
  range = c.requires.target;
  unmapped = clear_walks (tables_of c.args.self.now) c.args.target c.args.pages c.args.self.now.kept c.requires.target c.requires.clear;
  room = c.requires.frames;
}

pub copy_pages-requires-clause-tables : goal.copy_pages-requires-clause-tables
copy_pages-requires-clause-tables c =
    let size = c.map_range.ensures.added.size in
    let below = c.args.self.now.kept.root_in in
    record {
      below = omega (arith, size, below);
      tree = (c.map_range.new.pool, c.map_range.ensures.added.tree);
      no_large = λ slot. c.map_range.ensures.added.larges slot ∙ c.args.self.now.kept.no_large slot;
    }

pub copy_pages-requires-clause-source : goal.copy_pages-requires-clause-source
copy_pages-requires-clause-source c =
    let t = tables_of c.args.self.now in
    subst (λ (n : ℕ). IsMappedRange c.map_range.new.frames t.root n c.args.pages) (sym c.number-from.ensures.value)
    (record {
      canonical = c.requires.source;
      mapped = λ k less. source_mapped t c.map_range.new.frames c.args.source c.args.pages c.args.target k c.args.self.now.kept
          c.requires.source c.requires.full c.requires.clear c.map_range.ensures.clear.elsewhere less;
    })

pub copy_pages-requires-clause-target : goal.copy_pages-requires-clause-target
copy_pages-requires-clause-target c =
    let t = tables_of c.args.self.now in
    subst (λ (n : ℕ). IsMappedRange c.map_range.new.frames t.root n c.args.pages) (sym c.number-to.ensures.value)
    (record {
      canonical = c.requires.target;
      mapped = λ k less. target_mapped t.words c.map_range.new.frames t.free c.map_range.new.pool t.root c.args.target c.args.pages k _ c.map_range.ensures.added less;
    })

pub copy_pages-requires-clause-apart : goal.copy_pages-requires-clause-apart
copy_pages-requires-clause-apart c = λ j k few less is.
    let from_is = c.number-from.ensures.value in
    let to_is = c.number-to.ensures.value in
    ranges_apart (entries c.args.self.now.runs) c.args.source c.args.pages c.args.target j k c.requires.full
    c.requires.clear few less (omega (arith, from_is, to_is, is))

pub invariant_of-self-2 : goal.invariant_of-self-2
invariant_of-self-2 c =
    let t = tables_of c.args.self.now in
    let one = c.map_range.new.frames in
    let words = c.copy_pages.new.frames in
    let runs = entries c.copy.new.runs in
    let m : AreDuplicated t one words c.map_range.new.pool runs c.args.source c.args.pages c.args.target
    c.bits.result = record {
      kept = c.args.self.now.kept;
      source = c.requires.source;
      target = c.requires.target;
      full = c.requires.full;
      clear = c.requires.clear;
      added = c.map_range.ensures.added;
      known = c.map_range.ensures.known;
      elsewhere = c.map_range.ensures.clear.elsewhere;
      bytes = c.map_range.ensures.clear.bytes;
      copied = subst (λ (n : ℕ). ArePagesCopied one words t.root n c.args.pages c.args.target) c.number-from.ensures.value
          (subst (λ (n : ℕ). ArePagesCopied one words t.root c.number-from.result c.args.pages n) c.number-to.ensures.value c.copy_pages.ensures);
      runs_copied = subst (λ (n : ℕ). AreRightsCopied t.runs runs n c.args.pages c.args.target) c.number-from.ensures.value
          (subst (λ (n : ℕ). AreRightsCopied t.runs runs c.number-from.result c.args.pages n) c.number-to.ensures.value c.in_ok-copy.ensures.ok);
    } in
    record {
      kept = duplicated_kept t one words c.map_range.new.pool runs c.args.source c.args.pages c.args.target
          c.bits.result m;
    }

pub returns-clause-ok : goal.returns-clause-ok
returns-clause-ok c =
    let t = tables_of c.args.self.now in
    let one = c.map_range.new.frames in
    let words = c.copy_pages.new.frames in
    let runs = entries c.copy.new.runs in
    let m : AreDuplicated t one words c.map_range.new.pool runs c.args.source c.args.pages c.args.target
    c.bits.result = record {
      kept = c.args.self.now.kept;
      source = c.requires.source;
      target = c.requires.target;
      full = c.requires.full;
      clear = c.requires.clear;
      added = c.map_range.ensures.added;
      known = c.map_range.ensures.known;
      elsewhere = c.map_range.ensures.clear.elsewhere;
      bytes = c.map_range.ensures.clear.bytes;
      copied = subst (λ (n : ℕ). ArePagesCopied one words t.root n c.args.pages c.args.target) c.number-from.ensures.value
          (subst (λ (n : ℕ). ArePagesCopied one words t.root c.number-from.result c.args.pages n) c.number-to.ensures.value c.copy_pages.ensures);
      runs_copied = subst (λ (n : ℕ). AreRightsCopied t.runs runs n c.args.pages c.args.target) c.number-from.ensures.value
          (subst (λ (n : ℕ). AreRightsCopied t.runs runs c.number-from.result c.args.pages n) c.number-to.ensures.value c.in_ok-copy.ensures.ok);
    } in
    duplicated_is t (record { words = words; root = t.root; free = c.map_range.new.pool; runs = runs }) one c.args.source
    c.args.pages c.args.target c.bits.result m refl
    (duplicated_map t one words c.map_range.new.pool runs c.args.source c.args.pages c.args.target c.bits.result m)
    (duplicated_words t (record { words = words; root = t.root; free = c.map_range.new.pool; runs = runs }) one
    c.args.source c.args.pages c.args.target c.bits.result m)
