use Rattle.std.proofs.Common.{length, sym, subst}
use Rattle.machine_model.specs.Machine.{Paged, OnlyHeapBytesChange}
use Rattle.mapped_regions.specs.Shown.{paged_view}
use Rattle.mapped_regions.specs.Mapped.{word_reached}
use Rattle.paged_systems.specs.Layout.{IsPagedKept}
use Rattle.paged_systems.specs.System.{paged}
use Rattle.paged_systems.specs.Words.{grants_of}
use Rattle.paged_systems.specs.Written.{ArePut}
use Rattle.paged_systems.proofs.StillRuns.{first_mapped, still_put, kept_put, run_put}
use Rattle.paged_systems.proofs.paged_system.PagedSystem.set_words.Goals as goal

pub set_words-requires : goal.set_words-requires
set_words-requires c = record {
  word = first_mapped (paged c.args.self.now) c.args.at (length c.args.words.now)
      c.args.self.now.kept c.requires;
  fits = c.requires.page;
}

pub invariant_of-self : goal.invariant_of-self
invariant_of-self c = record {
  kept = subst IsPagedKept (sym c.set_words.ensures.others) (kept_put (paged c.args.self.now)
      (paged_view c.set_words.new.self).words c.args.words.now c.args.at c.args.self.now.kept c.requires
      c.set_words.ensures.kept.size c.set_words.ensures.set c.set_words.ensures.kept.walks c.set_words.ensures.kept.larges
      c.set_words.ensures.kept.tree c.set_words.ensures.other_bytes);
}

pub returns-clause-still : goal.returns-clause-still
returns-clause-still c = subst (OnlyHeapBytesChange (paged c.args.self.now)) (sym c.set_words.ensures.others)
    (still_put (paged c.args.self.now) (paged_view c.set_words.new.self).words c.args.words.now c.args.at
    c.args.self.now.kept
    c.requires
    c.set_words.ensures.kept.size c.set_words.ensures.set c.set_words.ensures.kept.walks c.set_words.ensures.kept.larges
    c.set_words.ensures.kept.tree c.set_words.ensures.other_bytes)

pub returns-clause-put : goal.returns-clause-put
returns-clause-put c = subst (λ (p : Paged). ArePut (grants_of (paged c.args.self.now))
    (word_reached (paged c.args.self.now)) c.args.at c.args.words.now (word_reached p)) (sym c.set_words.ensures.others)
    (run_put (paged c.args.self.now) (paged_view c.set_words.new.self).words c.args.words.now c.args.at c.args.self.now.kept c.requires
    c.set_words.ensures.kept.size c.set_words.ensures.set c.set_words.ensures.kept.walks c.set_words.ensures.kept.larges
    c.set_words.ensures.kept.tree c.set_words.ensures.other_bytes)
