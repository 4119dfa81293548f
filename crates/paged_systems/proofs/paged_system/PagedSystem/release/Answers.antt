use Rattle.std.proofs.Common.{◌≡◌, ℕ, ◌+◌, ◌-◌, ◌/◌, ◌<◌, ◌≤◌, inl, inr, refl, sym, subst, arith}
use Rattle.std.proofs.lemmas.Bool.{cases_lt}
use Rattle.heap_memory.specs.Runs.{without_run}
use Rattle.heap_memory.specs.RunLaws.{run_bounded}
use Rattle.mapped_regions.specs.Shown.{paged_view}
use Rattle.paged_systems.specs.Ordered.{regions_whole}
use Rattle.paged_systems.specs.System.{paged}
use Rattle.paged_systems.specs.Words.{grants_of}
use Rattle.paged_systems.proofs.ReleasedWords.{cut_range, cut_held, cut_ends, none_behind, released_regions, released_words, released_frames, kept_cut}
use Rattle.paged_systems.proofs.paged_system.PagedSystem.release.Goals as goal

below : (left size : ℕ) → left ≤ size → (left ≡ size → ⊥) → left < size
below left size within other = elim (cases_lt left size) [ inl less ↦ less | inr more ↦ absurd (other (omega (arith, within, more))) ]

pub returns-then-left-size-clause-regions : goal.returns-then-left-size-clause-regions
returns-then-left-size-clause-regions c =
    subst (λ (left : ℕ). grants_of (paged c.args.self.now) ≡ without_run (c.args.at + left) (c.args.at + c.args.size)
    (grants_of (paged c.args.self.now))) (sym c.if-left-size.true)
    (sym (none_behind c.args.at (c.args.at + c.args.size) (grants_of (paged c.args.self.now)) (omega arith) c.requires.run.whole))

pub overflow_add-at : goal.overflow_add-at
overflow_add-at c =
    let end = run_bounded c.args.at (c.args.at + c.args.size) (grants_of (paged c.args.self.now)) c.requires.run
    (regions_whole (paged c.args.self.now) c.args.self.now.kept) in
    omega (arith, end, c.requires.within)

pub cut-requires-clause-range : goal.cut-requires-clause-range
cut-requires-clause-range c = cut_range (paged c.args.self.now) c.args.at c.args.size c.args.left c.args.self.now.kept c.requires.run
    (below c.args.left c.args.size c.requires.within c.if-left-size.false) c.requires.in_pages

pub cut-requires-clause-held : goal.cut-requires-clause-held
cut-requires-clause-held c = cut_held (paged c.args.self.now) c.args.at c.args.size c.args.left c.args.self.now.kept c.requires.run
    (below c.args.left c.args.size c.requires.within c.if-left-size.false) c.requires.in_pages

pub cut-requires-clause-ends : goal.cut-requires-clause-ends
cut-requires-clause-ends c = cut_ends (paged c.args.self.now) c.args.at c.args.size c.args.left c.args.self.now.kept c.requires.run
    (below c.args.left c.args.size c.requires.within c.if-left-size.false) c.requires.in_pages

pub invariant_of-self : goal.invariant_of-self
invariant_of-self c =
    let range = cut_range (paged c.args.self.now) c.args.at c.args.size c.args.left c.args.self.now.kept c.requires.run
    (below c.args.left c.args.size c.requires.within c.if-left-size.false) c.requires.in_pages in
    record {
      kept = kept_cut (paged c.args.self.now) (paged_view c.cut.new.self) (c.args.at + c.args.left)
          ((c.args.size - c.args.left) / 4096) range.0 c.cut.ensures c.args.self.now.kept c.cut.new.self.mapped;
    }

pub returns-clause-regions : goal.returns-clause-regions
returns-clause-regions c = released_regions (paged c.args.self.now) (paged_view c.cut.new.self) c.args.at c.args.size
    c.args.left c.args.self.now.kept c.requires.run
    (below c.args.left c.args.size c.requires.within c.if-left-size.false) c.requires.in_pages c.cut.ensures

pub returns-clause-words : goal.returns-clause-words
returns-clause-words c = released_words (paged c.args.self.now) (paged_view c.cut.new.self) c.args.at c.args.size
    c.args.left c.args.self.now.kept c.requires.run
    (below c.args.left c.args.size c.requires.within c.if-left-size.false) c.requires.in_pages c.cut.ensures

pub returns-clause-released : goal.returns-clause-released
returns-clause-released c = record {
  run = c.requires.run;
  within = c.requires.within;
  in_pages = c.requires.in_pages;
  gone = λ less. c.cut.ensures;
  none = λ same. absurd (c.if-left-size.false same);
  mapped = c.cut.new.self.mapped;
  frames = released_frames (paged c.args.self.now) (paged_view c.cut.new.self) c.args.at c.args.size
      c.args.left c.args.self.now.kept c.requires.run
      (below c.args.left c.args.size c.requires.within c.if-left-size.false) c.requires.in_pages c.cut.ensures;
}

pub returns-then-left-size-clause-released : goal.returns-then-left-size-clause-released
returns-then-left-size-clause-released c = record {
  run = c.requires.run;
  within = c.requires.within;
  in_pages = c.requires.in_pages;
  gone = λ less. absurd (omega (arith, less, c.if-left-size.true));
  none = λ all. refl;
  mapped = c.args.self.now.kept.mapped;
  frames = λ whole page frame above below is. absurd (omega (arith, c.if-left-size.true, whole, above, below));
}
