use Rattle.heap_arena.proofs.TraitClauses.{told_good, told_apart, told_regions, told_same, told_zeros, told_units, told_taken, told_words, told_kept}
use Rattle.heap_arena.proofs.arena_allocator.ArenaAllocator.TheImpl.Goals as goal

pub alloc-tells : goal.alloc-tells
alloc-tells g c = record {
  good = told_good c.args.size _ _ c.result c.ensures.ok;
  apart = told_apart c.args.size _ _ c.result c.ensures.ok;
  regions = told_regions c.args.size _ _ c.result c.ensures.ok;
  zeros = told_zeros _ c.result;
  follows = c.ensures.follows;
  words = search told_words;
  err = search told_same;
  err_follows = c.ensures.err_follows;
  err_refuses = c.ensures.same;
  denied = c.ensures.denied;
}

pub free_part-tells : goal.free_part-tells
free_part-tells g c = search (told_units, told_taken, told_kept)

pub free-tells : goal.free-tells
free-tells g c = search (told_taken, told_kept)
