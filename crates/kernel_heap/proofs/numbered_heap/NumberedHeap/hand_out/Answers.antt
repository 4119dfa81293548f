use Rattle.std.proofs.Common.{rules, arith, ℕ, ◌+◌, ◌≤◌, vec_capacity, ◌≡◌, ◌∙◌, ap, refl, subst, length, List, Option, None, Some, Bool, true, false}
use Rattle.std.specs.Int.{is_power_of_two}
use Rattle.std.proofs.lemmas.Result.{IfOk-weaker, on_err_weaker}
use Rattle.dlmalloc_chunks.specs.Request.{padded, wanted}
use Rattle.dlmalloc_chunks.proofs.PowersOfTwo.{power_from_test}
use Rattle.dlmalloc.specs.Requested.{asked, IsServedAt, IsMemberServed}
use Rattle.dlmalloc.specs.Written.{IsServedCleared}
use Rattle.dlmalloc.specs.declared.heap.Dlmalloc.{Dlmalloc}
use Rattle.machine_model.specs.declared.answer.Refusal.TheVariants.{BadAlign}
use Rattle.machine_model.specs.declared.answer.Reply.TheVariants.{Block as Placed}
use Rattle.machine_model.specs.Refusal.{refuse_request}
use Rattle.machine_model.specs.Machine.{Stands}
use Rattle.machine_model.specs.Run.{IsGood}
use Rattle.machine_model.specs.State.{State}
use Rattle.paged_systems.specs.System.{paged}
use Rattle.kernel_heap.specs.Heap.{regions, word, zeros, follows}
use Rattle.kernel_heap.specs.Machine.{system_of, seen_with}
use Rattle.kernel_heap.specs.Blocks.{request, IsServedFor}
use Rattle.kernel_heap.specs.Kept.{lasting_pages, leaves_all}
use Rattle.kernel_heap.specs.Moves.{AreRegionsTold, IsToldFrom, AreSlotsTold, HeapMoves}
use Rattle.kernel_heap.specs.declared.numbered_heap.Marks.{Marks}
use Rattle.kernel_heap.specs.declared.numbered_heap.NumberedHeap.{NumberedHeap}
use Rattle.paged_systems.specs.declared.paged_system.PagedSystem.{PagedSystem}
use Rattle.kernel_heap.proofs.Laid.{laid_handed, laid_denied, seen_denied}
use Rattle.kernel_heap.proofs.Found.{few_regions}
use Rattle.kernel_heap.proofs.Handed.{step_request}
use Rattle.kernel_heap.proofs.Told.{slots_told, step_told, runs_told, told_from}
use Rattle.kernel_heap.proofs.Refused.{step_denied, step_refused, refused_large, not_refused, wanted_asked, request_refused, request_wants}
use Rattle.kernel_heap.proofs.Served.{served_refused, unserved, answered}
use Rattle.kernel_heap.proofs.WantOfRoom.{none_for, left_refused, request_refused_moves, other_reply}
use Rattle.kernel_heap.proofs.numbered_heap.NumberedHeap.hand_out.Goals as goal

pub hand_out-requires : goal.hand_out-requires
hand_out-requires c = let power : is_power_of_two c.args.align ≡ true = search rules in record { align = power_from_test c.args.align power }

-- the block is cleared if that is asked for
served_for : (cleared : Bool) (old : Dlmalloc PagedSystem) (size align address : ℕ) (new : Dlmalloc PagedSystem) →
    (cleared ≡ false → IsServedAt regions word zeros follows old size align address new) →
    (cleared ≡ true → IsServedCleared regions word zeros follows old size align address new) →
    IsServedFor cleared old size align address new
served_for false old size align address new plain all = plain refl
served_for true old size align address new plain all = all refl

-- how the heap moves is told by the request
moves_request : (cleared : Bool) (old : NumberedHeap) (size align number address : ℕ) (large : Option (List ℕ))
    (new : NumberedHeap) (heap : Dlmalloc PagedSystem) → IsServedFor cleared old.heap size align address heap →
    IsToldFrom heap new.heap → AreSlotsTold old.heap heap large → IsMemberServed regions word old.heap size align address →
    HeapMoves old (request cleared size align) (Placed number address) large new
moves_request false old size align number address large new heap served told slots member = (heap, served, told, slots, member)
moves_request true old size align number address large new heap served told slots member = (heap, served, told, slots, member)

-- the list has a place for one region more
pub changed_regions-requires-clause-places : goal.changed_regions-requires-clause-places
changed_regions-requires-clause-places c =
    let few = few_regions c.args.self.now.heap c.hand_out.new.self (padded (asked c.args.size c.args.align))
    c.in-Ok.ensures.ok.handed.found in
    let same = ap (λ heap. length (paged heap.system).regions) c.add_block.ensures.heap in
    let count : c.region_count-count.result ≡ length (paged c.args.self.now.heap.system).regions =
    c.region_count-count.ensures.count ∙ ap (λ system. length (paged system).regions) c.system.ensures in
    let places : c.region_count-count.result + 1 ≤ vec_capacity c.add_block.new.self.list = search rules in
    omega arith

-- with the block the heap is sound, before its new slots are told
pub new_slots-requires : goal.new_slots-requires
new_slots-requires c =
    let power : is_power_of_two c.args.align ≡ true = search rules in
    record {
      sound = rw (
        c.changed_regions.ensures.heap,
        c.changed_regions.ensures.blocks,
        c.add_block.ensures.heap,
        c.add_block.ensures.blocks,
        c.in_ok-reserve.ensures.items,
      )
          (laid_handed c.args.self.now.heap c.hand_out.new.self c.args.self.now.blocks.items c.args.size c.args.align
          c.in-Ok.address c.requires.sound c.in-Ok.ensures.ok.handed (power_from_test c.args.align power));
    }

pub returns-in-Ok-clause-sound : goal.returns-in-Ok-clause-sound
returns-in-Ok-clause-sound c = c.new_slots.ensures.sound

-- the regions and the slots that are told are those since the marks
pub returns-in-Ok-clause-served : goal.returns-in-Ok-clause-served
returns-in-Ok-clause-served c = answered (
    let power : is_power_of_two c.args.align ≡ true = search rules in
    let out = c.in-Ok.ensures.ok in
    let told = c.new_slots.ensures.told in
    let heap = c.changed_regions.ensures.heap ∙ c.add_block.ensures.heap in
    let regions = subst (λ (m : Marks). AreRegionsTold (paged c.hand_out.new.self.system) m c.changed_regions.result) c.marks-before.ensures
    (subst (λ (h : Dlmalloc PagedSystem). AreRegionsTold (paged h.system) c.marks-before.result c.changed_regions.result) c.add_block.ensures.heap
    c.changed_regions.ensures.told) in
    let slots = slots_told c.changed_regions.new.self c.new_slots.new.self told c.args.self.now.heap c.hand_out.new.self c.marks-before.ensures heap in
    let step = λ (top : ℕ) (s : State) (good : IsGood s) (stands : Stands (seen_with top c.args.self.now) s).
    step_request c.args.self.now.heap c.hand_out.new.self c.args.self.now.blocks.items c.args.size c.args.align
    c.in-Ok.address c.requires.sound out.handed c.law_blocks_placed.ensures c.law_blocks_placed-in-Ok.ensures
    c.hand_out.ensures.apart s good stands power c.changed_regions.result c.new_slots.result regions slots
    c.args.cleared (λ asked. out.are_zero asked) in
    record {
      allowed = λ top s good stands. step_told c.changed_regions.new.self c.new_slots.new.self told top s (request c.args.cleared c.args.size c.args.align) _
          (rw (
            c.changed_regions.ensures.heap,
            c.changed_regions.ensures.blocks,
            c.add_block.ensures.heap,
            c.add_block.ensures.blocks,
            c.add_block.ensures.reply,
            c.in_ok-reserve.ensures.items,
          ) (step top s good stands).0);
      runs = λ top s good stands. runs_told c.changed_regions.new.self c.new_slots.new.self told (paged (system_of c.args.self.now))
          (lasting_pages s (request c.args.cleared c.args.size c.args.align)
          (record { reply = c.add_block.result; regions = c.changed_regions.result; large = c.new_slots.result }))
          (rw (c.changed_regions.ensures.heap, c.add_block.ensures.heap, c.add_block.ensures.reply, c.in_ok-reserve.ensures.items) (step top s good stands).1);
      heap = rw c.add_block.ensures.reply
          (moves_request c.args.cleared c.args.self.now c.args.size c.args.align _ c.in-Ok.address c.new_slots.result
          c.new_slots.new.self c.hand_out.new.self
          (served_for c.args.cleared c.args.self.now.heap c.args.size c.args.align c.in-Ok.address c.hand_out.new.self out.served out.served_cleared)
          (told_from c.changed_regions.new.self c.new_slots.new.self told c.hand_out.new.self heap) slots out.member);
      kept = other_reply c.add_block.result c.args.self.now c.new_slots.new.self (ap leaves_all c.add_block.ensures.reply);
      reached = rw c.add_block.ensures.reply tt;
    })

pub returns-in-Err-clause-sound : goal.returns-in-Err-clause-sound
returns-in-Err-clause-sound c =
    rw c.in_ok-reserve.ensures.items (laid_denied c.args.self.now.heap c.hand_out.new.self c.args.self.now.blocks.items
    (asked c.args.size c.args.align) c.in-Err.error c.in-Err.ensures.err c.requires.sound)

pub returns-in-Err-clause-served : goal.returns-in-Err-clause-served
returns-in-Err-clause-served c =
    let power : is_power_of_two c.args.align ≡ true = search rules in
    let denied = c.in-Err.ensures.err in
    let large = asked c.args.size c.args.align in
    record {
      ok = IfOk-weaker c.refused_by.result _ _ (λ answer given. served_refused given.0 given.2
          (λ top s good stands. rw c.in_ok-reserve.ensures.items
          (step_denied c.args.self.now.heap c.hand_out.new.self c.law_intact.ensures.sound.granularity c.args.self.now.blocks.items
          c.requires.sound s good stands (request c.args.cleared c.args.size c.args.align) large
          (wanted c.args.size c.args.align)
          (wanted_asked c.args.size c.args.align power)
          (λ most. request_refused c.args.cleared s c.args.size c.args.align ∙ refused_large s.granularity c.args.size c.args.align power most)
          (λ less. request_refused c.args.cleared s c.args.size c.args.align ∙ not_refused s.granularity c.args.size c.args.align power less)
          (request_wants c.args.cleared s c.args.size c.args.align) c.in-Err.error denied given.0 given.1))
          (request_refused_moves c.args.cleared c.args.self.now c.args.size c.args.align given.0 None _
          (left_refused c.args.self.now.heap c.hand_out.new.self large c.in-Err.error given.0 given.1 denied)
          (none_for c.args.self.now.heap c.args.size c.args.align c.in-Err.error given.0 given.1 denied.refused))
          (λ top. rw c.in_ok-reserve.ensures.items (seen_denied c.args.self.now.heap c.hand_out.new.self c.args.self.now.blocks.items large c.in-Err.error denied top)))
          c.refused_by.ensures.ok;
      err = on_err_weaker c.refused_by.result (λ none. record {
        same = λ top. rw c.in_ok-reserve.ensures.items (seen_denied c.args.self.now.heap c.hand_out.new.self
            c.args.self.now.blocks.items (asked c.args.size c.args.align) c.in-Err.error denied top);
        still = (denied.same.state, denied.same.index);
      }) c.refused_by.ensures.err;
    }

-- no other power of two is told
bad_align : (granularity size align : ℕ) → is_power_of_two align ≡ false → refuse_request granularity size align ≡ Some BadAlign
bad_align granularity size align other = rw other refl

pub returns-then-not-is_power_of_two-clause-served : goal.returns-then-not-is_power_of_two-clause-served
returns-then-not-is_power_of_two-clause-served c = answered (
    let no : is_power_of_two c.args.align ≡ false = search rules in
    served_refused BadAlign c.refused.ensures
    (λ top s good stands. step_refused (seen_with top c.args.self.now) s (request c.args.cleared c.args.size c.args.align) BadAlign
    (request_refused c.args.cleared s c.args.size c.args.align ∙ bad_align s.granularity c.args.size c.args.align no) good stands)
    (request_refused_moves c.args.cleared c.args.self.now c.args.size c.args.align BadAlign None c.args.self.now refl (λ room. absurd (cc)))
    (λ top. refl))

pub returns-in_err-reserve-clause-served : goal.returns-in_err-reserve-clause-served
returns-in_err-reserve-clause-served c = unserved c.from_residual.result _ c.from_residual.ensures.1 refl c.reserve.ensures.items

pub returns-in_err-reserve-2-clause-served : goal.returns-in_err-reserve-2-clause-served
returns-in_err-reserve-2-clause-served c = unserved c.from_residual-in_err-reserve-2.result _ c.from_residual-in_err-reserve-2.ensures.1 refl c.in_ok-reserve.ensures.items
