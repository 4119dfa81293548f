use Rattle.heap_arena.proofs.TraitClauses.{told_good_among, told_apart_among, told_regions_among, told_follows_among, told_same_among, told_zeros, told_units, told_taken}
use Rattle.heap_arena.proofs.arenas_allocator.ArenasAllocator.TheImpl.Goals as goal

pub alloc-tells : goal.alloc-tells
alloc-tells g c = record {
  good = told_good_among c.args.size _ _ c.result c.ensures.ok;
  apart = told_apart_among c.args.size _ _ c.result c.ensures.ok;
  regions = told_regions_among c.args.size _ _ c.result c.ensures.ok;
  zeros = told_zeros _ c.result;
  follows = told_follows_among c.args.size _ _ c.result c.ensures.ok;
  words = c.ensures.words;
  err = search told_same_among;
  err_follows = c.ensures.err_follows;
  err_refuses = c.ensures.same;
  denied = c.ensures.denied;
}

pub free_part-tells : goal.free_part-tells
free_part-tells g c = search (told_units, told_taken)

pub free-tells : goal.free-tells
free-tells g c = search told_taken
