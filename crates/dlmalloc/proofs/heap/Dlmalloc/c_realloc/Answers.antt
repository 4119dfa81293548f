use Rattle.dlmalloc.proofs.Names.{◌≡◌, ℕ, ◌-◌, ◌≤◌, ◌==◌, refl, arith, Used, extents_in, size_where, IsBlock, state_of}
use Rattle.dlmalloc.proofs.Extents.Lookup.{extent}
use Rattle.dlmalloc.proofs.Blocks.Chunks.{block_chunk, block_head}
use Rattle.dlmalloc.proofs.Resizing.InPlaceOrElsewhere.{size_at, block_told}
use Rattle.dlmalloc.proofs.Blocks.GivenSize.{given_size}
use Rattle.dlmalloc.proofs.Bins.Members.{on_both}
use Rattle.dlmalloc.proofs.Blocks.Allocated.{allocated_low}
use Rattle.dlmalloc.proofs.heap.Dlmalloc.c_realloc.Goals as goal
use Rattle.dlmalloc.proofs.heap.Dlmalloc.c_realloc.Goals.{In-Some, After-size-size}

-- the block that is given
block : (g : _) (c : In-Some g) → (size : ℕ) × IsBlock (state_of g.A.Links.word c.args.self.now) c.in-Some.address size
block g c = block_told (state_of g.A.Links.word c.args.self.now) c.in-Some.is c.requires.block

-- the size that was read is the chunk's
size_read : (g : _) (c : After-size-size g) →
    size_where (λ extent. extent.at == c.in-Some.address - 16) (extents_in (state_of g.A.Links.word c.args.self.now)) ≡ c.size-size.result
size_read g c =
    let there = block_told (state_of g.A.Links.word c.args.self.now) c.in-Some.is c.requires.block in let address = c.in-Some.address in
    size_at (state_of g.A.Links.word c.args.self.now) (address - 16) (extent (address - 16) c.size-size.result Used) (block_chunk g.A.Links.regions
    g.A.Links.word c.args.self.now c.requires.intact.sound address there.0 there.1 c.size-size.result c.size-size.ensures.value)

-- its chunk has room for a head
long : (g : _) (c : After-size-size g) → 8 ≤ c.size-size.result
long g c =
    let there = block_told (state_of g.A.Links.word c.args.self.now) c.in-Some.is c.requires.block in
    let least = size_at (state_of g.A.Links.word c.args.self.now) (c.in-Some.address - 16) there.1.extent there.1.there in
    let holds = there.1.holds in let read = size_read g c in
    omega arith

pub size-size-requires : goal.size-size-requires
size-size-requires g c =
    let block = block g (goal.at.size-size-requires g c).In-Some in
    block_head g.A.Links.regions g.A.Links.word c.args.self.now c.requires.intact.sound c.in-Some.address block.0 block.1

pub overflow_sub-size : goal.overflow_sub-size
overflow_sub-size g c = long g (goal.at.overflow_sub-size g c).After-size-size

pub resize_or_move-requires-clause-holds : goal.resize_or_move-requires-clause-holds
resize_or_move-requires-clause-holds g c =
    let at = goal.at.resize_or_move-requires-clause-holds g c in
    let read = size_read g at.After-size-size in let long = long g at.After-size-size in
    record { intact = c.requires.intact; align = (4, refl); block = block g at.In-Some; held = omega arith }

pub returns-in-Some-clause-reallocated : goal.returns-in-Some-clause-reallocated
returns-in-Some-clause-reallocated g c =
    let at = goal.at.returns-in-Some-clause-reallocated g c in
    rw (c.in-Some.is, size_read g at.After-size-size) (on_both c.resize_or_move.result (λ address resized member. record {
      resized = resized;
      given = given_size g.A.Links.follows_on c.requires.intact.sound (4, refl) (block g at.In-Some).1 resized;
      member = member;
    }) c.resize_or_move.ensures.resized c.resize_or_move.ensures.member)

pub returns-in-None-clause-reallocated : goal.returns-in-None-clause-reallocated
returns-in-None-clause-reallocated g c =
    rw c.in-None.is (on_both c.c_malloc.result (λ address served member. allocated_low {align = 16} (4, refl) (omega arith) served member)
    c.c_malloc.ensures.served c.c_malloc.ensures.member)

pub returns-in-Some-clause-counted : goal.returns-in-Some-clause-counted
returns-in-Some-clause-counted g c = λ some.
    let read = c.size-size.ensures.counted in let moved = c.resize_or_move.ensures.counted some in
    rw (c.in-Some.is, size_read g (goal.at.returns-in-Some-clause-counted g c).After-size-size) (omega arith)
