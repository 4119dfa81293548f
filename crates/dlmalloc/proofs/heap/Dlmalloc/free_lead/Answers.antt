use Rattle.dlmalloc.proofs.Names.{ap, arith}
use Rattle.heap_memory.specs.AskLaws.{asks_on}
use Rattle.dlmalloc.proofs.Bins.Changes.{binned_beside}
use Rattle.dlmalloc.proofs.Resizing.SplitAndFreed.{lead_state, lead_second, lead_others, lead_kept, lead_words}
use Rattle.dlmalloc.proofs.Bins.Order.{bins_kept}
use Rattle.dlmalloc.proofs.heap.Dlmalloc.free_lead.Goals as goal

pub dispose_chunk-requires-clause-intact : goal.dispose_chunk-requires-clause-intact
dispose_chunk-requires-clause-intact g c =
    let e = c.split.ensures.split in
    record {
      sound = e.moves.moved.sound;
      linked = binned_beside c.law_index_stays.ensures c.requires.intact.sound e.moves (ap (λ s. s.victim) e.state) c.requires.intact.linked;
    }

pub returns : goal.returns
returns g c =
    let e = c.split.ensures.split in let freed = c.dispose_chunk.ensures in let sound = c.requires.intact.sound in
    let can = c.requires.split in
    record {
      state = lead_state sound can e freed.turned.moved freed.freed.state freed.freed.less;
      second = lead_second sound can e freed.turned.moved freed.freed.state freed.freed.less;
      lead = record {
        others = lead_others sound can e freed.turned.moved freed.freed.state freed.freed.less;
        kept = lead_kept sound can e freed.turned.moved freed.freed.state freed.freed.less;
        sound = freed.turned.moved.sound;
        bins = bins_kept (λ b. freed.turned.bins.order (binned_beside c.law_index_stays.ensures sound e.moves (ap (λ s. s.victim) e.state) b))
            c.requires.intact.linked;
        asks = asks_on (record { regions = e.moves.moved.regions_same; follows = e.moves.moved.followed })
            (record { regions = freed.turned.moved.regions_same; follows = freed.turned.moved.followed });
      };
      words = lead_words sound can e freed.turned.moved freed.freed.state freed.freed.less;
      counted = (let told = c.split.ensures.counted in let more = freed.counted in omega arith);
    }
