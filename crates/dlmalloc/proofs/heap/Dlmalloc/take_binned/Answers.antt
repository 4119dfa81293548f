use Rattle.dlmalloc.proofs.Names.{◌+◌, ◌-◌, ◌≢◌, [], refl, sym, ◌∙◌, ap, subst, arith, Free, extents_in, extent_at, taken, HasOneMore, state_of, IsFreeAt, KeepsOrder}
use Rattle.dlmalloc.proofs.Extents.Lookup.{extent}
use Rattle.dlmalloc.proofs.Cuts.ChunkPlace.{end_small}
use Rattle.dlmalloc.proofs.Moves.WithBins.{turned}
use Rattle.dlmalloc.proofs.Bins.Changes.{not_rebinned, renamed}
use Rattle.dlmalloc.proofs.Bins.Order.{lessened_as, added_as, order_less, in_order, bins_kept}
use Rattle.dlmalloc.proofs.Cuts.BinsMeanwhile.{whole_taken, rest_came, small_taken, small_other, large_taken, large_other, old_victim_free, old_victim_none}
use Rattle.dlmalloc.proofs.heap.Dlmalloc.take_binned.Goals as goal

pub unbin_fit-requires : goal.unbin_fit-requires
unbin_fit-requires g c = record {
  sound = c.requires.intact.sound;
  free = c.requires.cut.chunk;
  other = c.requires.other;
  member = (c.args.n, c.requires.member);
  binned = ([], c.requires.intact.linked, λ none. none);
}

pub cut_chunk-requires-clause-sound : goal.cut_chunk-requires-clause-sound
cut_chunk-requires-clause-sound g c = c.unbin_fit.ensures.bins.same.sound

pub cut_chunk-requires-clause-cut : goal.cut_chunk-requires-clause-cut
cut_chunk-requires-clause-cut g c = record {
  chunk = ap (λ s. extent_at c.args.at (extents_in s)) c.unbin_fit.ensures.bins.same.state ∙ c.requires.cut.chunk;
  bytes = c.requires.cut.bytes;
  fits = c.requires.cut.fits;
}

-- ---- no rest

pub returns-then-rest-lt-LEAST_CHUNK : goal.returns-then-rest-lt-LEAST_CHUNK
returns-then-rest-lt-LEAST_CHUNK g c =
    let regions = g.A.Links.regions in let word = g.A.Links.word in let old = c.args.self.now in
    let new = c.cut_chunk.new.self in let one = c.unbin_fit.ensures.bins in let e = c.cut_chunk.ensures.cut in
    let less = c.if-rest-lt-LEAST_CHUNK.true in let fits = c.requires.cut.fits in
    let order : KeepsOrder regions word old new = λ b.
    let left = one.loose [] b (λ none. none) in
    let after = whole_taken c.law_index_stays.ensures one.same.sound e (λ is. c.requires.other (is ∙ ap (λ h. h.victim) one.same.fields)) left.0 (omega arith) in
    (after, order_less b.index left.0.index (lessened_as c.args.size c.args.at b.index left.0.index left.1)) in
    record {
      took = record {
        taken = record {
          state = e.taken.state ∙ ap (λ s. taken s (extent c.args.at c.args.size Free) c.args.n) one.same.state;
          more = subst (λ s. HasOneMore s (state_of word new) c.args.at) one.same.state e.taken.more;
        };
        turned = record {
          moved = turned regions word g.A.Links.follows g.A.Links.follows_on one.same e.moves.moved
              (not_rebinned g.A.Links.follows e.moves.moved.sound (g.A.Links.follows_none new.system));
          bins = bins_kept order c.requires.intact.linked;
        };
      };
      counted = omega arith;
    }

-- ---- the rest is the victim, and the old one goes into its bin

pub bin_some-requires : goal.bin_some-requires
bin_some-requires g c =
    let one = c.unbin_fit.ensures.bins in let e = c.cut_chunk.ensures.cut in let stays = c.law_index_stays.ensures in
    let at = ap (λ h. h.victim) one.same.fields in let size = ap (λ h. h.victim_size) one.same.fields in
    let more = c.if-rest-lt-LEAST_CHUNK.false in let fits = c.requires.cut.fits in let small = c.if-n-lt-LEAST_LARGE.true in
    let other : c.args.at ≢ c.unbin_fit.new.self.victim = λ is. c.requires.other (is ∙ at) in
    let new = state_of g.A.Links.word c.cut_chunk.new.self in
    record {
      sound = e.moves.moved.sound;
      free = λ some. subst (λ v. IsFreeAt new v c.args.self.now.victim_size) at (subst (λ n. IsFreeAt new c.unbin_fit.new.self.victim n) size
          (old_victim_free stays one.same.sound e other (λ none. some (sym size ∙ none))));
      none = λ none n free. old_victim_none stays one.same.sound e (size ∙ none) n (subst (λ v. IsFreeAt new v n) (sym at) free);
      other = λ some is. small_other stays one.same.sound e other (omega arith) small (λ none. some (sym size ∙ none)) (at ∙ is);
      loose = ([], renamed at (small_taken stays one.same.sound e other (omega arith) small (one.loose [] c.requires.intact.linked (λ none. none)).0));
    }

pub returns-then-n-lt-LEAST_LARGE : goal.returns-then-n-lt-LEAST_LARGE
returns-then-n-lt-LEAST_LARGE g c =
    let regions = g.A.Links.regions in let word = g.A.Links.word in let old = c.args.self.now in
    let one = c.unbin_fit.ensures.bins in let e = c.cut_chunk.ensures.cut in
    let last = c.bin_some.ensures.bins in let at = ap (λ h. h.victim) one.same.fields in
    let more = c.if-rest-lt-LEAST_CHUNK.false in let fits = c.requires.cut.fits in
    let order : KeepsOrder regions word old c.bin_some.new.self = λ b.
    let left = one.loose [] b (λ none. none) in
    let loose = renamed at (small_taken c.law_index_stays.ensures one.same.sound e (λ is. c.requires.other (is ∙ at)) (omega arith) c.if-n-lt-LEAST_LARGE.true
    left.0) in
    let after = last.binned [] loose (λ none. none) in (
      after.0,
      in_order old.victim_size old.victim b.index left.0.index after.0.index (lessened_as c.args.size c.args.at b.index left.0.index left.1) after.1
          (λ is. b.holds.no_victim old.victim old.victim_size is refl),
    ) in
    record {
      took = record {
        taken = record {
          state = last.same.state ∙ (e.taken.state ∙ ap (λ s. taken s (extent c.args.at c.args.size Free) c.args.n) one.same.state);
          more = subst (λ s. HasOneMore (state_of word old) s c.args.at) (sym last.same.state)
              (subst (λ s. HasOneMore s (state_of word c.cut_chunk.new.self) c.args.at) one.same.state e.taken.more);
        };
        turned = record {
          moved = turned regions word g.A.Links.follows g.A.Links.follows_on one.same e.moves.moved last.same;
          bins = bins_kept order c.requires.intact.linked;
        };
      };
      counted = omega arith;
    }

-- ---- the rest goes into its bin

pub overflow_add-at : goal.overflow_add-at
overflow_add-at g c =
    let e = end_small c.requires.intact.sound c.requires.cut.chunk refl in
    let f = c.requires.cut.fits in grind arith

pub bin-requires : goal.bin-requires
bin-requires g c =
    let one = c.unbin_fit.ensures.bins in let e = c.cut_chunk.ensures.cut in let stays = c.law_index_stays.ensures in
    let more = c.if-rest-lt-LEAST_CHUNK.false in let fits = c.requires.cut.fits in let many = c.if-n-lt-LEAST_LARGE.false in
    let other : c.args.at ≢ c.unbin_fit.new.self.victim = λ is. c.requires.other (is ∙ ap (λ h. h.victim) one.same.fields) in
    record {
      sound = e.moves.moved.sound;
      free = e.rest (omega arith);
      other = large_other stays one.same.sound e other (omega arith) many;
      loose = ([], large_taken stays one.same.sound e other (omega arith) many (one.loose [] c.requires.intact.linked (λ none. none)).0);
    }

pub returns : goal.returns
returns g c =
    let regions = g.A.Links.regions in let word = g.A.Links.word in let old = c.args.self.now in
    let one = c.unbin_fit.ensures.bins in let e = c.cut_chunk.ensures.cut in let last = c.bin.ensures.bins in
    let more = c.if-rest-lt-LEAST_CHUNK.false in let fits = c.requires.cut.fits in let rest = c.args.at + c.args.n in
    let other : c.args.at ≢ c.unbin_fit.new.self.victim = λ is. c.requires.other (is ∙ ap (λ h. h.victim) one.same.fields) in
    let order : KeepsOrder regions word old c.bin.new.self = λ b.
    let left = one.loose [] b (λ none. none) in
    let loose = large_taken c.law_index_stays.ensures one.same.sound e other (omega arith) c.if-n-lt-LEAST_LARGE.false left.0 in
    let after = last.binned [] loose (λ none. none) in
    let new_one = rest_came c.law_index_stays.ensures one.same.sound e other (omega arith) in (
      after.0,
      in_order (c.args.size - c.args.n) rest b.index left.0.index after.0.index (lessened_as c.args.size c.args.at b.index left.0.index left.1)
          (added_as (c.args.size - c.args.n) rest left.0.index after.0.index after.1) (λ is. new_one (c.args.size - c.args.n) (subst (λ s. IsFreeAt s rest
          (c.args.size - c.args.n)) (sym one.same.state) (b.holds.free rest (c.args.size - c.args.n) is))
          (let least = c.requires.cut.bytes.least in omega arith)),
    ) in
    record {
      took = record {
        taken = record {
          state = last.same.state ∙ (e.taken.state ∙ ap (λ s. taken s (extent c.args.at c.args.size Free) c.args.n) one.same.state);
          more = subst (λ s. HasOneMore (state_of word old) s c.args.at) (sym last.same.state)
              (subst (λ s. HasOneMore s (state_of word c.cut_chunk.new.self) c.args.at) one.same.state e.taken.more);
        };
        turned = record {
          moved = turned regions word g.A.Links.follows g.A.Links.follows_on one.same e.moves.moved last.same;
          bins = bins_kept order c.requires.intact.linked;
        };
      };
      counted = omega arith;
    }
