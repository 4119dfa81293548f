-- The names that proofs share: those of the library, of the crates below, and of specs/.
pub use Rattle.std.proofs.Common.{Bool, Err, IfOk, IfSome, IsTrue, List, None, Ok, Option, Result, Some, [], ap, append_assoc, arith, cond, false, filter, if◌then◌else◌, inl, inr, length, length-append, map, max, min, nat_le, nat_lt, not, option_map, pow_mono, refl, rules, subst, suc, sym, take, true, zero, ℕ, ◌%◌, ◌&&◌, ◌*◌, ◌++◌, ◌+◌, ◌-◌, ◌/◌, ◌<◌, ◌==◌, ◌^◌, ◌||◌, ◌∙◌, ◌∷◌, ◌≡◌, ◌≢◌, ◌≤◌, ◌⊎◌}
pub use Rattle.std.proofs.Math.Nat.{mul-mod_left}
pub use Rattle.std.proofs.lemmas.Bool.Decides.{nat_tests}
pub use Rattle.std.proofs.lemmas.Grind.{flat_map-append}
pub use Rattle.std.proofs.lemmas.List.{append-nil, map-append}
pub use Rattle.std.proofs.lemmas.List.Elements.{filter-append}
pub use Rattle.std.proofs.lemmas.List.Folds.{find-append, list_any-append}
pub use Rattle.std.proofs.lemmas.Result.{IfOk-weaker}
pub use Rattle.std.specs.Int.{IsPowerOfTwo}
pub use Rattle.std.specs.List.{All, AllByRecursion, flat_map, list_any}
pub use Rattle.std.specs.Option.{option_or}
pub use Rattle.std.specs.Prelude.{find, position, unwrap_or, ⊤}
pub use native.Mathlib.Decide.{dec_lt}
pub use Rattle.heap_memory.specs.Allocator.{IsFixed}
pub use Rattle.heap_memory.specs.Events.{Event, Granted, Released}
pub use Rattle.heap_memory.specs.RegionLaws.{whole_each}
pub use Rattle.heap_memory.specs.Regions.{IsApart, IsGoodGrant, IsWhole, IsWordOf, is_granted, with_grant}
pub use Rattle.heap_memory.specs.RunLaws.{granted_before, granted_without}
pub use Rattle.heap_memory.specs.Runs.{IsRun, begins_in, up_to, without_run}
pub use Rattle.heap_memory.specs.Words.{AreCopied, AreWordsOf, IsBeside, IsStored}
pub use Rattle.heap_memory.specs.declared.grant.Grant.{Grant}
pub use Rattle.dlmalloc_chunks.proofs.PowersOfTwo.{power_from_test}
pub use Rattle.dlmalloc_chunks.specs.Chunk.{AreStored, HasFoot, HasHead}
pub use Rattle.dlmalloc_chunks.specs.Head.{free_of, head_of, pinuse_of, size_of, with_pinuse, without_pinuse}
pub use Rattle.dlmalloc_chunks.specs.HeadLaws.{cinuse_of-head_of, pinuse_of-head_of, size_of-head_of, with_pinuse-head_of}
pub use Rattle.dlmalloc_chunks.specs.Kinds.{ends_segment, is_foot, is_free, is_named_victim}
pub use Rattle.dlmalloc_chunks.specs.Request.{round_up}
unfoldable pub use Rattle.dlmalloc_chunks.specs.Request.{enlarged, limit, padded}
pub use Rattle.dlmalloc_chunks.specs.Tiling.{IsSize}
pub use Rattle.dlmalloc_chunks.specs.declared.extent.Extent.{Extent}
pub use Rattle.dlmalloc_chunks.specs.declared.extent.Kind.{Kind}
pub use Rattle.dlmalloc_chunks.specs.declared.extent.Kind.TheVariants.{Foot, Free, Record, Top, Used, Victim}
pub use Rattle.bins.specs.Index.{AreDistinct, IsIn, removed, with_chunk, without_chunk}
pub use Rattle.bins.specs.Laws.{IndexStays}
pub use Rattle.bins.specs.Linked.{OnlyLinksChange}
pub use Rattle.bins.specs.declared.bins.Bins.{Bins}
pub use Rattle.dlmalloc.specs.AfterFree.{IsFreed, IsSettled, is_above_check}
pub use Rattle.dlmalloc.specs.Aligned.{HasOneMoved, KeepsOthers, aligned, aligned_place, lead_freed, tail_cut}
pub use Rattle.dlmalloc.specs.Binned.{FreeMoves, HoldsBinned, HoldsBut, IsBinned, IsBinnedBut, IsFreeAt, IsIntact, IsMember, IsRebinned, IsSameBins, IsVictimAfter, OnlyFreeChange}
pub use Rattle.dlmalloc.specs.Blocks.{HasOneMore, IsBlock, IsFull, IsInside, KeepsBlocks}
pub use Rattle.dlmalloc.specs.Boundaries.{IsBoundary, IsInFree, IsInRecord, IsOwn, OnlyBoundariesChange, OnlyOwnChange, OnlyOwnOrTagsChange, OnlyTagsChange}
pub use Rattle.dlmalloc.specs.Chained.{HaveLeft, IsChained, IsLinked, IsVisited}
pub use Rattle.dlmalloc.specs.Choice.{IsChosen, OfBins, TheTop, TheVictim, choose, chosen, least_fit, least_from}
pub use Rattle.dlmalloc.specs.Counts.{pass_steps}
pub use Rattle.dlmalloc.specs.Extents.{HasChunk, IsChunkSize, MayStand, Tiles, extent_at, is_used, kind_of, last_kind, told_size}
unfoldable pub use Rattle.dlmalloc.specs.Extents.{chunks_from}
pub use Rattle.dlmalloc.specs.Freed.{before, freed, freed_in, has, victim_in}
pub use Rattle.dlmalloc.specs.GivenBack.{AreGivenBack, IsCounted, IsPassed, told_of}
pub use Rattle.dlmalloc.specs.Granted.{granted, is_before, is_behind, is_put_before, opened, put_before, top_and_foot}
pub use Rattle.dlmalloc.specs.Grown.{HasRoomFor, HasSameUsed, IsAdmitted, IsFreshGrant, IsPrepended}
pub use Rattle.dlmalloc.specs.Heap.{AreTold, IsGranularity, IsSound, segments_of, state_of}
pub use Rattle.dlmalloc.specs.Moved.{IsElsewhere, IsGivenSize, IsInPlace, IsResized}
pub use Rattle.dlmalloc.specs.Moves.{AllSpare, HasMore, IsMove, IsRunOf, IsSpared, used_of}
pub use Rattle.dlmalloc.specs.Order.{AreInOrder, IsPart, IsReindexed, KeepsBinsInOrder, KeepsOrder, TurnsInOrder, after_pass, after_trim, after_visit, after_visits}
pub use Rattle.dlmalloc.specs.OneChunk.{CanTakeOfTop, IsAligned, IsChunkCut, IsPartJoined, IsSplit}
pub use Rattle.dlmalloc.specs.Prepended.{IsHeadBehind, IsToldBehind, payload_behind}
pub use Rattle.dlmalloc.specs.Record.{IsRecordAt}
pub use Rattle.dlmalloc.specs.Released.{IsFreeAround, bytes_of, counted, handed_out, is_counted, is_own, is_unused, left_by_count, may_leave, passed, regions_without, releases, staying, taken_back}
pub use Rattle.dlmalloc.specs.Requested.{IsFound, IsHandedOut, IsMemberServed, IsServedAligned, IsServedAt, asked, spans}
pub use Rattle.dlmalloc.specs.Resized.{CanSplit, CanTakeFree, HasSameOthers, exchanged, grown_into, halves, has_room, in_place, joined, replaced_both, tail_freed}
pub use Rattle.dlmalloc.specs.Segments.{AreApart, AreRecords, AreSegments, IsApartFrom, IsFlaggedRun, IsSegment, IsWithin, has_byte_in, record_of}
unfoldable pub use Rattle.dlmalloc.specs.Segments.{records_from}
pub use Rattle.dlmalloc.specs.Listed.{AreSpans}
pub use Rattle.dlmalloc.specs.Served.{IsBehindTop, IsCutOut, IsObtained, IsServed, IsTakenFromGrant}
pub use Rattle.dlmalloc.specs.Disposed.{IsDisposed}
pub use Rattle.dlmalloc.specs.Turned.{IsMoved, IsTurned, MovesBesideBins}
pub use Rattle.dlmalloc.specs.Resting.{KeepsRegions, OnlyBlocksChange, regions_in}
pub use Rattle.dlmalloc.specs.Shortened.{IsCutBack, IsShortened, IsTrimmed}
pub use Rattle.dlmalloc.specs.State.{HeapState, Segment, by_address, countdown_from, extents_in, is_binned, is_free_below_top, is_victim, shown, size_where, trim_threshold, with_item}
pub use Rattle.dlmalloc.specs.Stored.{CanHoldTwo}
pub use Rattle.dlmalloc.specs.Taken.{cut, in_segments, replaced, taken, victim_after}
pub use Rattle.dlmalloc.specs.Trimmed.{after_cut, cut_of, cut_top, given_up, gives_back, is_cut, is_trimmed, regions_cut, regions_trimmed, trimmed, without_end}
pub use Rattle.dlmalloc.specs.Walk.{AreChunks, IsAmong, IsChunkKind, IsChunkRun, binned_sizes, chunks_between, span_extents}
pub use Rattle.dlmalloc.specs.Written.{IsSameHeap, words_in}
pub use Rattle.dlmalloc.specs.declared.heap.Dlmalloc.{Dlmalloc}
pub use Rattle.dlmalloc.specs.declared.record.SegmentRecord.{SegmentRecord}
pub use Rattle.dlmalloc.specs.declared.walk.Span.{Span}
pub use Rattle.dlmalloc.specs.declared.walk.Tail.TheVariants.{TopAndFoot}
