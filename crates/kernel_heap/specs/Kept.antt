-- What a call leaves as it was, and what its answer shows.
use Rattle.std.specs.Prelude.{◌≡◌, ℕ, ⊤, Bool, true, false, Option, Some, None, not, IsTrue}
use Rattle.paging_core.specs.Walk.{reached}
use Rattle.machine_model.specs.declared.call.Call.{Call}
use Rattle.machine_model.specs.declared.call.Call.TheVariants.{Realloc, CRealloc, Write, Unmap, Probe, SetRate, SetGranularity}
use Rattle.machine_model.specs.declared.answer.Answer.{Answer}
use Rattle.machine_model.specs.declared.answer.Reply.{Reply}
use Rattle.machine_model.specs.declared.answer.Reply.TheVariants.{Bytes, Byte, Fault, Accepted, Extents as Listed, Refused}
use Rattle.machine_model.specs.State.{State}
use Rattle.machine_model.specs.Answer.{NewPages, new_pages}
use Rattle.machine_model.specs.Machine.{Paged}
use Rattle.mapped_regions.specs.Mapped.{AreRunsUsed}
use Rattle.kernel_heap.specs.declared.numbered_heap.NumberedHeap.{NumberedHeap}
use Rattle.kernel_heap.specs.Machine.{seen_with}

-- the byte is the one that the walk reaches, where the call is a probe
abbrev pub IsReachedBy : Paged → Call → ℕ → Type 0
IsReachedBy p (Probe at access user) byte = reached p.words p.root at ≡ Some byte
IsReachedBy p call byte = ⊤

-- a byte that a probe shows is the one that the walk reaches
abbrev pub IsReachedByte : Paged → Call → Reply → Type 0
IsReachedByte p call (Byte byte) = IsReachedBy p call byte
IsReachedByte p call reply = ⊤

-- Whether a call takes no memory: a write, an unmap, a probe or a setting. Such a call is always answered.
abbrev pub is_always_answered : Call → Bool
is_always_answered (Write number offset bytes) = true
is_always_answered (Unmap start pages) = true
is_always_answered (Probe at access user) = true
is_always_answered (SetRate rate) = true
is_always_answered (SetGranularity granularity) = true
is_always_answered call = false

-- The pages that an answer to a call maps, if no page leaves in the same call: those of a map, or those that were granted for a
-- new block.
abbrev pub lasting_pages : State → Call → Answer → Option NewPages
lasting_pages s (Realloc number size) answer = None
lasting_pages s (CRealloc number size) answer = None
lasting_pages s call answer = new_pages s call answer.reply answer.regions

-- If a slot lies whole among them, had no table, and is not mapped by one entry now, no run of frames is free that it could have.
abbrev pub AreRunsUsedFor : Paged → Paged → Option NewPages → Type 0
AreRunsUsedFor old new None = ⊤
AreRunsUsedFor old new (Some pages) = AreRunsUsed old new pages.start pages.pages

-- Whether a reply says that nothing was changed: the call was refused, or looked at bytes, at a byte or at the extents, or met a
-- fault, or a setting was not accepted.
abbrev pub leaves_all : Reply → Bool
leaves_all (Refused why) = true
leaves_all (Bytes bytes) = true
leaves_all (Byte byte) = true
leaves_all (Fault code) = true
leaves_all (Listed list) = true
leaves_all (Accepted accepted) = not accepted
leaves_all reply = false

-- Then the same is seen of a numbered heap as before, whatever frame is in CR3.
abbrev pub IsSeenAsBefore : Reply → NumberedHeap → NumberedHeap → Type 0
IsSeenAsBefore reply old new = IsTrue (leaves_all reply) → (top : ℕ) → seen_with top new ≡ seen_with top old
