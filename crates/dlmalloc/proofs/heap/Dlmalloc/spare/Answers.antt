use Rattle.dlmalloc.proofs.Names.{◌≡◌, ◌+◌, ◌-◌, ◌*◌, ◌/◌, sym, ◌∙◌, ap, arith}
use Rattle.dlmalloc.proofs.Returns.TrimmedBytes.{cut_is, cut_whole, cut_room}
use Rattle.dlmalloc.proofs.heap.Dlmalloc.spare.Goals as goal

pub returns : goal.returns
returns g c =
    let heap = c.args.self.now in let told = c.saturating_sub.ensures in
    let is : c.saturating_sub.result ≡ heap.top_size - (c.args.pad + 81) = omega arith in
    let bytes : c.saturating_sub.result / heap.granularity * heap.granularity ≡ (heap.top_size - (c.args.pad + 81)) /
    heap.granularity * heap.granularity = ap (λ n. n / heap.granularity * heap.granularity) is in
    record {
      is = bytes ∙ sym (cut_is c.requires.sound c.requires.there c.args.pad);
      whole = cut_whole c.requires.sound c.requires.there c.args.pad bytes;
      room = cut_room c.requires.sound c.requires.there c.args.pad bytes;
    }
