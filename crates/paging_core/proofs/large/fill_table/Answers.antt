use Rattle.std.proofs.Common.{◌≡◌, ℕ, ◌+◌, ◌*◌, ◌<◌, ap, refl, ◌∙◌, inl, inr, set, length, arith, length-set}
use Rattle.std.proofs.lemmas.Bool.{cases_eq}
use Rattle.paging_core.specs.Area.{in_area}
use Rattle.paging_core.specs.Entry.{page_entry}
use Rattle.paging_core.specs.Memory.{word_at, frame_count}
use Rattle.paging_core.proofs.Words.{word_at_set_same, word_at_set_other}
use Rattle.paging_core.proofs.large.fill_table.Goals as goal

pub loop-index-init : goal.loop-index-init
loop-index-init g c = record {
  area = refl;
  size = refl;
  filled = λ k lt. absurd (omega arith);
  others = λ f i li ne. refl;
}

pub set_word-requires-clause-entry : goal.set_word-requires-clause-entry
set_word-requires-clause-entry g c = record {
  inside = ap (λ a. in_area a c.args.table) c.loop-index.invariant.area ∙ c.requires.inside;
  below = let s = c.loop-index.invariant.size in omega (arith, c.requires.table);
  bounded = omega (arith, c.requires.count);
}

pub loop-index-preserved : goal.loop-index-preserved
loop-index-preserved g c =
    let inside : c.args.table < frame_count (g.M.PhysicalMemory.words c.loop-index.frames) = let s =
    c.loop-index.invariant.size in omega (arith, c.requires.table) in
    let now : g.M.PhysicalMemory.words c.set_word.new.self ≡ set (g.M.PhysicalMemory.words c.loop-index.frames)
    (512 * c.args.table + c.loop-index.index) (page_entry (c.args.first + c.loop-index.index) c.args.rights) =
    c.set_word.ensures.words
    ∙ ap (set (g.M.PhysicalMemory.words c.loop-index.frames) (512 * c.args.table + c.loop-index.index))
    (c.bits.ensures ∙ (c.to_page-entry.ensures.value ∙ ap (λ f. page_entry f c.args.rights) (c.after.ensures ∙ ap (λ i. c.args.first + i) c.from.ensures))) in
    let other : (f i : ℕ) → i < 512 → (f ≡ c.args.table → i ≡ c.loop-index.index → ⊥) →
    word_at (g.M.PhysicalMemory.words c.set_word.new.self) f i ≡ word_at (g.M.PhysicalMemory.words c.loop-index.frames)
    f i =
    λ f i li ne.
    ap (λ w. word_at w f i) now
    ∙ word_at_set_other (g.M.PhysicalMemory.words c.loop-index.frames) c.args.table c.loop-index.index
    (page_entry (c.args.first + c.loop-index.index) c.args.rights) f i (omega arith) li ne in
    record {
      area = c.set_word.ensures.area ∙ c.loop-index.invariant.area;
      size = ap length now
          ∙ (length-set (g.M.PhysicalMemory.words c.loop-index.frames) (512 * c.args.table + c.loop-index.index)
          (page_entry (c.args.first + c.loop-index.index) c.args.rights)
          ∙ c.loop-index.invariant.size);
      filled = λ k lt.
          elim (cases_eq k c.loop-index.index) [
            | inl e ↦ rw e (ap (λ w. word_at w c.args.table c.loop-index.index) now
                ∙ word_at_set_same (g.M.PhysicalMemory.words c.loop-index.frames) c.args.table c.loop-index.index
                (page_entry (c.args.first + c.loop-index.index) c.args.rights) inside (omega arith))
            | inr ne ↦ other c.args.table k (omega arith) (λ _ e. ne e) ∙ c.loop-index.invariant.filled k (omega arith)
          ];
      others = λ f i li ne.
          other f i li (λ e x. ne e (omega arith)) ∙ c.loop-index.invariant.others f i li (λ e lt. ne e (omega arith));
    }

pub set_word-requires-clause-seen : goal.set_word-requires-clause-seen
set_word-requires-clause-seen g c =
    c.requires.seen (set (g.M.PhysicalMemory.words c.loop-index.frames) (512 * c.args.table + c.loop-index.index) c.bits.result) (record {
      size = length-set (g.M.PhysicalMemory.words c.loop-index.frames) (512 * c.args.table + c.loop-index.index) c.bits.result ∙ c.loop-index.invariant.size;
      others = λ f i li ne.
          word_at_set_other (g.M.PhysicalMemory.words c.loop-index.frames) c.args.table c.loop-index.index c.bits.result f i (omega arith) li (λ e _. ne e)
          ∙ c.loop-index.invariant.others f i li (λ e _. ne e);
    })
