use Rattle.dlmalloc.proofs.Names.{◌+◌, ◌-◌, [], ◌∷◌, refl, sym, ◌∙◌, ap, subst, arith, extents_in, extent_at, freed, IsFreeAround, HasOneMore, state_of, IsFreeAt, KeepsOrder}
use Rattle.dlmalloc.proofs.Frees.WhatCallsWant.{head_there, foot_there, behind_there, behind_small, end_below, foot_fits}
use Rattle.dlmalloc.proofs.Frees.NeighboursUnbinned.{left_free, left_none, right_free, right_none}
use Rattle.dlmalloc.proofs.Frees.OfChunkAndBins.{two, joined_other, still_there, from_still, to_still, joined_loose}
use Rattle.dlmalloc.proofs.Segments.HeadTop.{some_segment}
use Rattle.dlmalloc.proofs.Bins.Order.{lessened_on, in_order, bins_kept}
use Rattle.dlmalloc.proofs.Moves.WithBins.{rebinned_on, turned}
use Rattle.dlmalloc.proofs.heap.Dlmalloc.dispose_chunk.Goals as goal

pub free_begin-from-requires : goal.free_begin-from-requires
free_begin-from-requires g c = record {
  head = head_there c.requires.intact.sound c.requires.chunk;
  foot = foot_there c.requires.intact.sound c.requires.chunk;
  fits = foot_fits c.requires.intact.sound c.requires.chunk refl;
}

pub overflow_add-at : goal.overflow_add-at
overflow_add-at g c = let small = behind_small c.requires.intact.sound c.requires.chunk in omega arith

pub free_end-to-requires : goal.free_end-to-requires
free_end-to-requires g c = record { head = behind_there c.requires.intact.sound c.requires.chunk; fits = end_below c.requires.intact.sound c.requires.chunk }

-- ---- the free chunks beside it leave their bins

pub unbin_between-requires : goal.unbin_between-requires
unbin_between-requires g c = record {
  sound = c.requires.intact.sound;
  free = left_free c.requires.intact.sound c.requires.chunk c.free_begin-from.ensures.value;
  none = left_none c.requires.intact.sound c.requires.chunk c.free_begin-from.ensures.value;
  binned = ([], c.requires.intact.linked, λ none. none);
}

pub unbin_between-requires-2 : goal.unbin_between-requires-2
unbin_between-requires-2 g c =
    let begin = c.free_begin-from.ensures.value in let end = c.free_end-to.ensures.value in
    let there = some_segment g.A.Links.word c.args.self.now c.args.at c.requires.chunk in let state = c.unbin_between.ensures.bins.same.state in
    record {
      sound = c.unbin_between.ensures.bins.same.sound;
      free = λ more. subst (λ s. IsFreeAt s (c.args.at + c.args.size) (c.free_end-to.result - (c.args.at + c.args.size))) (sym state)
          (right_free c.requires.intact.sound c.requires.chunk begin end there more);
      none = λ less n free. right_none c.requires.intact.sound c.requires.chunk begin end there less n
          (subst (λ s. IsFreeAt s (c.args.at + c.args.size) n) state free);
      binned = (
        c.free_begin-from.result ∷ [],
        (c.unbin_between.ensures.bins.loose [] c.requires.intact.linked (λ none. none)).0,
        two c.requires.intact.sound c.requires.chunk
            begin end,
      );
    }

-- ---- they are joined to it

pub join_free-requires : goal.join_free-requires
join_free-requires g c =
    let begin = c.free_begin-from.ensures.value in let end = c.free_end-to.ensures.value in
    let left = rebinned_on g.A.Links.regions g.A.Links.word g.A.Links.follows g.A.Links.follows_on c.unbin_between.ensures.bins.same
    c.unbin_between-2.ensures.bins.same in
    record {
      sound = left.sound;
      chunk = still_there c.requires.intact.sound c.requires.chunk begin end left;
      from = from_still c.requires.intact.sound c.requires.chunk begin end left;
      to = to_still c.requires.intact.sound c.requires.chunk begin end left;
    }

-- ---- and what they are goes into its bin

pub bin_joined-requires-clause-sound : goal.bin_joined-requires-clause-sound
bin_joined-requires-clause-sound g c = c.join_free.ensures.moves.moved.sound

pub bin_joined-requires-clause-joined : goal.bin_joined-requires-clause-joined
bin_joined-requires-clause-joined g c = c.join_free.ensures.joined

pub returns : goal.returns
returns g c =
    let word = g.A.Links.word in let old = c.args.self.now in let new = c.bin_joined.new.self in
    let left = rebinned_on g.A.Links.regions word g.A.Links.follows g.A.Links.follows_on c.unbin_between.ensures.bins.same c.unbin_between-2.ensures.bins.same in
    let e = c.join_free.ensures in let last = c.bin_joined.ensures.same in let from = c.free_begin-from.result in
    let to = c.free_end-to.result in let begin = c.free_begin-from.ensures.value in
    let end = c.free_end-to.ensures.value in
    let order : KeepsOrder g.A.Links.regions word old new = λ b.
    let one = c.unbin_between.ensures.bins.loose [] b (λ none. none) in
    let second = c.unbin_between-2.ensures.bins.loose (from ∷ []) one.0 (two c.requires.intact.sound c.requires.chunk begin end) in
    let joined = joined_loose c.requires.intact.sound c.requires.chunk begin end left c.law_index_stays.ensures second.0
    e.moves.moved e.moves.free e.victim e.moves.bins in
    let after = c.bin_joined.ensures.binned joined in (
      after.0,
      in_order (to - from) from b.index second.0.index after.0.index (lessened_on b.index one.0.index second.0.index one.1 second.1) after.1
          (λ is. joined_other c.requires.intact.sound c.requires.chunk begin end (b.holds.free from (to - from) is)),
    ) in
    record {
      freed = record {
        state = last.state ∙ (e.freed.state ∙ ap (λ s. freed s c.args.at) left.state);
        less = subst (λ s. HasOneMore s (state_of word old) c.args.at) (sym last.state)
            (subst (λ s. HasOneMore (state_of word c.join_free.new.self) s c.args.at) left.state e.freed.less);
        records = λ one is there. ap (λ s. extent_at one.at (extents_in s)) last.state
            ∙ e.freed.records one is (ap (λ s. extent_at one.at (extents_in s)) left.state ∙ there);
      };
      around = subst (λ s. IsFreeAround s c.args.at c.free_begin-from.result) (sym last.state) e.around;
      turned = record {
        moved = turned g.A.Links.regions word g.A.Links.follows g.A.Links.follows_on left e.moves.moved last;
        bins = bins_kept order c.requires.intact.linked;
      };
      counted = omega arith;
    }

pub bin_joined-requires-clause-loose : goal.bin_joined-requires-clause-loose
bin_joined-requires-clause-loose g c =
    let first = c.unbin_between.ensures.bins in let second = c.unbin_between-2.ensures.bins in let e = c.join_free.ensures in
    let begin = c.free_begin-from.ensures.value in let end = c.free_end-to.ensures.value in
    let left = rebinned_on g.A.Links.regions g.A.Links.word g.A.Links.follows g.A.Links.follows_on first.same second.same in
    let one = first.loose [] c.requires.intact.linked (λ none. none) in
    let loose = second.loose (c.free_begin-from.result ∷ []) one.0 (two c.requires.intact.sound c.requires.chunk begin end) in
    joined_loose c.requires.intact.sound c.requires.chunk begin end left c.law_index_stays.ensures loose.0 e.moves.moved e.moves.free e.victim e.moves.bins
