use Rattle.std.proofs.Common.{◌≢◌, List, ℕ, subst, sym}
use Rattle.dlmalloc.specs.State.{HeapState}
use Rattle.dlmalloc.specs.Heap.{state_of}
use Rattle.dlmalloc.specs.declared.heap.Dlmalloc.{Dlmalloc}
use Rattle.heap_cache.specs.Held.{AreHeld, IsLive}
use Rattle.heap_cache.specs.Live.{IsOtherBlock}
use Rattle.heap_cache.specs.Resized.{HasMovedOut}
use Rattle.heap_cache.proofs.LiveLemmas.{less_bytes}
use Rattle.heap_cache.proofs.cached.CachedHeap.move_out.Goals as goal

pub free-requires : goal.free-requires
free-requires g c = subst (λ (state : HeapState). IsLive state c.self.inside.stacks.rows c.args.from) (sym c.copy.ensures.copied.stays.state)
    (subst (λ (was : Dlmalloc g.row.A.Denot × List ℕ). IsLive (state_of g.A.Links.word was.0) was.1 c.args.from) (sym c.self.view_is) c.requires.from)

pub returns : goal.returns
returns g c =
    let heap = c.self.inside.heap in
    let rows = c.self.inside.stacks.rows in
    subst (λ (was : Dlmalloc g.row.A.Denot × List ℕ). HasMovedOut g.A.Links.regions g.A.Links.word g.A.Links.follows g.A.Allocator.frees g.A.Allocator.parts g.A.Allocator.unit was.0 was.1 c.args.from c.args.to c.args.count c.free.new.self.0 c.free.new.self.1)
    c.self.view_is (record {
      middle = c.copy.new.heap;
      copied = c.copy.ensures.copied;
      others = less_bytes g.A.Links.word heap c.copy.new.heap (IsOtherBlock (state_of g.A.Links.word heap) c.args.to) (λ block. IsLive (state_of g.A.Links.word heap) rows block × (block ≢ c.args.to)) (λ block is. (is.0.0, is.1)) c.copy.ensures.others;
      freed = c.free.ensures.freed;
      given_up = c.free.ensures.given_up;
    })
