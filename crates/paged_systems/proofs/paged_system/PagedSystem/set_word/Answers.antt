use Rattle.std.proofs.Common.{refl, sym, subst}
use Rattle.heap_memory.specs.Words.{IsStored}
use Rattle.machine_model.specs.Machine.{Paged, OnlyHeapBytesChange}
use Rattle.mapped_regions.specs.Shown.{paged_view}
use Rattle.paged_systems.specs.Layout.{IsPagedKept}
use Rattle.paged_systems.specs.System.{paged}
use Rattle.paged_systems.specs.Words.{grants_of}
use Rattle.mapped_regions.specs.Mapped.{word_reached}
use Rattle.paged_systems.proofs.Still.{mapped_word, still_stored, kept_stored, is_stored}
use Rattle.paged_systems.proofs.paged_system.PagedSystem.set_word.Goals as goal

pub set_word-requires : goal.set_word-requires
set_word-requires c = record { word = mapped_word (paged c.args.self.now) c.args.at c.args.self.now.kept c.requires }

pub invariant_of-self : goal.invariant_of-self
invariant_of-self c = record {
  kept = subst IsPagedKept (sym c.set_word.ensures.others) (kept_stored (paged c.args.self.now)
      (paged_view c.set_word.new.self).words c.args.at c.args.value c.args.at c.args.self.now.kept c.requires refl
      c.set_word.ensures.kept.size c.set_word.ensures.set c.set_word.ensures.kept.walks c.set_word.ensures.kept.larges
      c.set_word.ensures.kept.tree c.set_word.ensures.put.stored c.set_word.ensures.put.other_words c.set_word.ensures.put.others);
}

pub returns-clause-still : goal.returns-clause-still
returns-clause-still c = subst (OnlyHeapBytesChange (paged c.args.self.now)) (sym c.set_word.ensures.others)
    (still_stored (paged c.args.self.now) (paged_view c.set_word.new.self).words c.args.at c.args.value c.args.at
    c.args.self.now.kept c.requires refl
    c.set_word.ensures.kept.size c.set_word.ensures.set c.set_word.ensures.kept.walks c.set_word.ensures.kept.larges
    c.set_word.ensures.kept.tree c.set_word.ensures.put.stored c.set_word.ensures.put.other_words c.set_word.ensures.put.others)

pub returns-clause-stored : goal.returns-clause-stored
returns-clause-stored c = subst (λ (p : Paged). IsStored (grants_of (paged c.args.self.now))
    (word_reached (paged c.args.self.now)) c.args.at c.args.value (word_reached p)) (sym c.set_word.ensures.others)
    (is_stored (paged c.args.self.now) (paged_view c.set_word.new.self).words c.args.at c.args.value c.args.at c.args.self.now.kept c.requires refl
    c.set_word.ensures.kept.size c.set_word.ensures.set c.set_word.ensures.kept.walks c.set_word.ensures.kept.larges
    c.set_word.ensures.kept.tree c.set_word.ensures.put.stored c.set_word.ensures.put.other_words c.set_word.ensures.put.others)
