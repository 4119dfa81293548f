use Rattle.dlmalloc.proofs.Names.{[], refl, ◌∙◌, arith, ap}
use Rattle.dlmalloc.proofs.Resizing.Split.{end_small}
use Rattle.dlmalloc.proofs.Bins.Changes.{binned_beside}
use Rattle.dlmalloc.proofs.Resizing.SplitAndFreed.{tail_state, tail_first, tail_others, tail_words}
use Rattle.dlmalloc.proofs.Bins.Order.{bins_kept}
use Rattle.dlmalloc.proofs.heap.Dlmalloc.free_tail.Goals as goal

pub overflow_add-at : goal.overflow_add-at
overflow_add-at g c =
    let end = end_small c.requires.intact.sound c.requires.split in
    let room = c.requires.split.room in grind arith

pub dispose_chunk-requires-clause-intact : goal.dispose_chunk-requires-clause-intact
dispose_chunk-requires-clause-intact g c =
    let e = c.split.ensures.split in
    record {
      sound = e.moves.moved.sound;
      linked = binned_beside c.law_index_stays.ensures c.requires.intact.sound e.moves (ap (λ s. s.victim) e.state) c.requires.intact.linked;
    }

pub returns : goal.returns
returns g c =
    let e = c.split.ensures.split in let freed = c.dispose_chunk.ensures in let sound = c.requires.intact.sound in
    let can = c.requires.split in
    record {
      state = tail_state sound can e freed.turned.moved freed.freed.state freed.freed.less;
      first = tail_first sound can e freed.turned.moved freed.freed.state freed.freed.less;
      resized = record {
        others = tail_others sound can e freed.turned.moved freed.freed.state freed.freed.less;
        turned = record {
          moved = record {
            sound = freed.turned.moved.sound;
            words = tail_words sound can e freed.turned.moved freed.freed.state freed.freed.less;
            regions_same = freed.turned.moved.regions_same ∙ e.moves.moved.regions_same;
            followed = g.A.Links.follows_on _ _ _ [] [] [] e.moves.moved.followed freed.turned.moved.followed refl;
          };
          bins = bins_kept (λ b. freed.turned.bins.order (binned_beside c.law_index_stays.ensures sound e.moves (ap (λ s. s.victim) e.state) b))
              c.requires.intact.linked;
        };
      };
      counted = (let told = c.split.ensures.counted in let more = freed.counted in omega arith);
    }
