use Rattle.std.proofs.Common.{◌≡◌, ℕ, ap, subst, sym, arith, List, Option, Some, None}
use Rattle.std.proofs.lemmas.Result.{IfOk-weaker, on_err_weaker}
use Rattle.dlmalloc.specs.declared.heap.Dlmalloc.{Dlmalloc}
use Rattle.machine_model.specs.declared.call.Call.TheVariants.{Map}
use Rattle.machine_model.specs.declared.answer.Reply.TheVariants.{Done}
use Rattle.machine_model.specs.declared.region.Region.{Region}
use Rattle.machine_model.specs.Room.{user_region}
use Rattle.machine_model.specs.Machine.{Paged, AreLargeSlots, IsStep}
use Rattle.mapped_regions.specs.Mapped.{IsRegionJoined}
use Rattle.paged_systems.specs.System.{paged}
use Rattle.kernel_heap.specs.Machine.{system_of, seen_with}
use Rattle.kernel_heap.specs.Moves.{marks_of}
use Rattle.kernel_heap.specs.declared.numbered_heap.Marks.{Marks}
use Rattle.kernel_heap.specs.declared.numbered_heap.NumberedHeap.{NumberedHeap}
use Rattle.paged_systems.specs.declared.paged_system.PagedSystem.{PagedSystem}
use Rattle.kernel_heap.proofs.Refused.{refused_with}
use Rattle.kernel_heap.proofs.Served.{served_refused, answered}
use Rattle.kernel_heap.proofs.Laid.{laid_still, seen_beside, seen_refused, still_on}
use Rattle.kernel_heap.proofs.Told.{step_told, runs_told}
use Rattle.kernel_heap.proofs.UserRegions.{step_map, map_denied}
use Rattle.kernel_heap.proofs.numbered_heap.NumberedHeap.map.Goals as goal

-- the same blocks over another heap
abbrev with_heap : NumberedHeap → Dlmalloc PagedSystem → NumberedHeap
with_heap numbered heap = record numbered { heap = heap }

-- a region joined since the marks
joined_since : (old new : Paged) (region : Region) (before : Marks) → IsRegionJoined old new region → before ≡ marks_of old → new.joins ≡ before.joins → ⊥
joined_since old new region before joined is same = (let more = joined.joins in let mark = ap (λ (m : Marks). m.joins) is in omega arith)

pub new_slots-requires : goal.new_slots-requires
new_slots-requires c =
    let kept = c.map.ensures.kept in
    record { sound = laid_still c.args.self.now.heap c.map.new.heap c.args.self.now.blocks.items c.requires.sound kept.regions_same kept.still.0 }

pub returns-in-Ok-clause-sound : goal.returns-in-Ok-clause-sound
returns-in-Ok-clause-sound c = c.new_slots.ensures.sound

pub returns-in-Ok-clause-served : goal.returns-in-Ok-clause-served
returns-in-Ok-clause-served c = answered (
    let joined = c.in-Ok.ensures.ok.joined in
    let new = paged c.map.new.heap.system in
    let now = with_heap c.args.self.now c.map.new.heap in
    let told = c.new_slots.ensures.told in
    let since = joined_since (paged (system_of c.args.self.now)) new (user_region c.args.start c.args.pages c.args.rights)
    c.marks-before.result joined c.marks-before.ensures in
    let large = subst (λ root. AreLargeSlots new.words root c.args.start c.args.pages new.slots) (sym joined.added.root) joined.added.slots in
    record {
      allowed = λ top s good stands. step_told now c.new_slots.new.self told top s (Map c.args.start c.args.pages c.args.rights) _
          (subst (λ (large : Option (List ℕ)). IsStep s (Map c.args.start c.args.pages c.args.rights)
          (record { reply = Done; regions = None; large = large }) (seen_with top now)) (sym (told.slots since))
          (subst (IsStep s (Map c.args.start c.args.pages c.args.rights) _) (sym
          (seen_beside top c.args.self.now.heap c.map.new.heap c.args.self.now.blocks.items c.map.ensures.kept))
          (step_map (seen_with top c.args.self.now) s c.args.start c.args.pages good stands c.args.rights new c.in-Ok.ensures.ok.can joined)));
      runs = λ top s good stands. runs_told now c.new_slots.new.self told (paged (system_of c.args.self.now))
          (Some (record { start = c.args.start; pages = c.args.pages })) joined.runs;
      heap = (
        still_on c.args.self.now.heap c.map.new.heap c.new_slots.new.self.heap c.map.ensures.kept.still told.still,
        record {
          slots = new.slots;
          exactly = subst (λ (p : Paged). AreLargeSlots p.words p.root c.args.start c.args.pages new.slots) (sym (told.taken since)) large;
          listed = told.slots since;
        },
      );
      kept = λ same. absurd (cc);
      reached = tt;
    })

pub returns-in-Err-clause-sound : goal.returns-in-Err-clause-sound
returns-in-Err-clause-sound c =
    let kept = c.map.ensures.kept in
    laid_still c.args.self.now.heap c.map.new.heap c.args.self.now.blocks.items c.requires.sound kept.regions_same kept.still.0

pub returns-in-Err-clause-served : goal.returns-in-Err-clause-served
returns-in-Err-clause-served c =
    let same = λ (top : ℕ). seen_refused top c.args.self.now.heap c.map.new.heap c.args.self.now.blocks.items c.map.ensures.kept c.in-Err.ensures.err.same in
    record {
      ok = IfOk-weaker c.refused_map.result _ _ (λ answer given. served_refused given.0 given.2
          (λ top s good stands. subst (IsStep s (Map c.args.start c.args.pages c.args.rights) (refused_with given.0)) (sym (same top))
          (map_denied (seen_with top c.args.self.now) s c.args.start c.args.pages good stands c.args.rights c.in-Err.fault c.in-Err.ensures.err.why given.0 given.1))
          c.map.ensures.kept.still same)
          c.refused_map.ensures.ok;
      err = on_err_weaker c.refused_map.result (λ none. record {
        same = λ top. seen_refused top c.args.self.now.heap c.map.new.heap c.args.self.now.blocks.items c.map.ensures.kept c.in-Err.ensures.err.same;
        still = c.map.ensures.kept.still;
      }) c.refused_map.ensures.err;
    }
