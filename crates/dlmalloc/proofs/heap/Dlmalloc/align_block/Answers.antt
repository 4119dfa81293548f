use Rattle.dlmalloc.proofs.Names.{◌+◌, ◌-◌, ◌≡◌, ◌∙◌, [], refl, inr, sym, ap, subst, IsWordOf, IsOwn, lead_freed, tail_cut, state_of, HoldsBinned}
use Rattle.dlmalloc.proofs.Blocks.Chunks.{block_chunk, block_head}
use Rattle.dlmalloc.proofs.Requests.LeadAndTail.{moved_on, kept_on}
use Rattle.dlmalloc.proofs.Requests.Aligned.{HasAlignedPlace, chunk_whole, chunk_small, place_here}
use Rattle.dlmalloc.proofs.heap.Dlmalloc.align_block.Goals as goal
use Rattle.dlmalloc.proofs.heap.Dlmalloc.align_block.Goals.{After-aligned_place-place}

pub size-size-requires : goal.size-size-requires
size-size-requires g c = block_head g.A.Links.regions g.A.Links.word c.args.self.now c.requires.intact.sound
    c.args.ptr (c.args.n + c.args.align + 24) c.requires.block

pub aligned_place-place-requires-clause-small : goal.aligned_place-place-requires-clause-small
aligned_place-place-requires-clause-small g c = chunk_small c.requires.intact.sound c.args.n c.args.align c.requires.block c.requires.bytes.least

pub aligned_place-place-requires-clause-whole : goal.aligned_place-place-requires-clause-whole
aligned_place-place-requires-clause-whole g c = chunk_whole c.requires.intact.sound c.args.n c.args.align c.requires.block

-- where the aligned place lies in the chunk
placed : (g : _) (c : After-aligned_place-place g) → HasAlignedPlace c.args.align (c.args.ptr - 16) c.size-size.result c.args.n c.aligned_place-place.result
placed g c = place_here c.requires.intact.sound c.args.n c.args.align c.requires.block c.requires.align.0 c.requires.align.1 c.requires.bytes.least
    c.size-size.ensures.value c.aligned_place-place.ensures.place

pub free_before-requires : goal.free_before-requires
free_before-requires g c =
    let p = placed g (goal.at.free_before-requires g c).After-aligned_place-place in
    record {
      intact = c.requires.intact;
      can = record {
        chunk = block_chunk g.A.Links.regions g.A.Links.word c.args.self.now c.requires.intact.sound c.args.ptr (c.args.n + c.args.align + 24) c.requires.block
            c.size-size.result c.size-size.ensures.value;
        lead = p.lead;
        whole = p.whole;
        room = p.room;
      };
    }

pub overflow_sub-size : goal.overflow_sub-size
overflow_sub-size g c = (placed g (goal.at.overflow_sub-size g c).After-aligned_place-place).first

pub free_behind-requires : goal.free_behind-requires
free_behind-requires g c = record {
  intact = record { sound = c.free_before.ensures.lead.sound; linked = c.free_before.ensures.lead.bins.linked };
  can = record {
    chunk = c.free_before.ensures.chunk;
    bytes = c.requires.bytes;
    room = (placed g (goal.at.free_behind-requires g c).After-aligned_place-place).rest;
  };
}

pub returns-clause-aligned : goal.returns-clause-aligned
returns-clause-aligned g c =
    let p = placed g (goal.at.returns-clause-aligned g c).After-aligned_place-place in
    let before = c.free_before.ensures in let behind = c.free_behind.ensures in let at = c.aligned_place-place.result in
    record {
      place = c.aligned_place-place.ensures.place;
      multiple = p.multiple;
      small = p.small;
      state = subst (λ p. state_of g.A.Links.word c.free_behind.new.self ≡ tail_cut (lead_freed (state_of g.A.Links.word c.args.self.now) (c.args.ptr - 16) p) p
          c.args.n) c.aligned_place-place.ensures.place (behind.state ∙ ap (λ s. tail_cut s at c.args.n) before.state);
      held = behind.held;
      others = moved_on before.lead.others behind.resized.others;
      kept = kept_on c.args.self.now before.lead.others before.lead.kept before.lead.sound behind.resized.others behind.resized.turned.moved;
      words = λ k inside passed.
          let lead = λ (own : IsOwn (state_of g.A.Links.word c.free_before.new.self) k). passed.1 (subst (λ s. IsOwn s k) before.state own) in
          behind.resized.turned.moved.words k (subst (λ rs. IsWordOf rs k) (sym before.lead.regions) inside) (λ free. lead (inr free)) passed.2
          ∙ before.words k inside passed.0 lead;
      sound = behind.resized.turned.moved.sound;
      regions_same = behind.resized.turned.moved.regions_same ∙ before.lead.regions;
      followed = g.A.Links.follows_on _ _ _ [] [] [] before.lead.follows behind.resized.turned.moved.followed refl;
      order = λ b.
          let lead = before.lead.bins.order b in let tail = behind.resized.turned.bins.order lead.0 in
          (lead.0.index, subst (λ s. HoldsBinned s lead.0.index) before.state lead.0.holds, lead.1, tail);
    }
