-- The call for the extents.
use Rattle.std.proofs.Common.{◌≡◌, ℕ, List, [], ◌∷◌, inl, inr, Option, None, Some, refl, sym, ◌∙◌, ap, subst}
use Rattle.std.specs.Prelude.{sum}
use Rattle.dlmalloc.specs.Served.{IsListed as IsListOf}
use Rattle.dlmalloc.specs.declared.heap.Dlmalloc.{Dlmalloc}
use Rattle.dlmalloc_chunks.specs.declared.extent.Extent.{Extent}
use Rattle.machine_model.specs.declared.answer.Answer.{Answer}
use Rattle.machine_model.specs.declared.answer.Reply.{Reply}
use Rattle.machine_model.specs.declared.answer.Reply.TheVariants.{Extents as Listing, Refused}
use Rattle.machine_model.specs.declared.call.Call.TheVariants.{Extents}
use Rattle.machine_model.specs.declared.region.Region.{Region}
use Rattle.machine_model.specs.State.{State}
use Rattle.machine_model.specs.Answer.{IsAllowed, IsReply, after, changed, new_pages, slots_of, with_regions}
use Rattle.machine_model.specs.Extents.{IsTiling}
use Rattle.kernel_heap.specs.declared.machine.Machine.{Machine}
use Rattle.paged_systems.specs.declared.paged_system.PagedSystem.{PagedSystem}
use Rattle.kernel_heap.specs.Heap.{word}
use Rattle.kernel_heap.specs.Moves.{HeapMoves}
use Rattle.kernel_heap.specs.Steps.{StepsTo}
use Rattle.heap_program.specs.Progress.{IsAt}
use Rattle.heap_report.specs.declared.listed.Listed.{Listed}
use Rattle.heap_report.specs.declared.replay.Replay.{Replay}
use Rattle.heap_report.specs.Extents.{AreTheHeapsExtents}
use Rattle.heap_report.specs.Listed.{IsListedByReplay}
use Rattle.heap_report.specs.Replaying.{IsCallAnswered}
use Rattle.heap_report.proofs.Serving.{answered_one}

-- a reply with extents, which tile the heap; no region is new
record IsListing (s : State) (reply : Reply) (regions : Option (List Region)) : Type 0 where
  extents : List Extent
  lists : reply ≡ Listing extents
  none : regions ≡ None
  tiles : IsTiling s extents

-- the extents are never refused
never_refused : (s : State) (reply : Reply) (regions : Option (List Region)) → IsReply s Extents reply regions → IsListing s reply regions
never_refused s (Listing extents) regions is = record { extents = extents; lists = refl; none = is.1.0; tiles = is.1.1 }
never_refused s (Refused refusal) regions is = absurd (elim is.1 [ inl must ↦ cc must | inr may ↦ may.1 ])
never_refused s reply regions is = absurd is.1

-- the call changes nothing
same_state : (s : State) (reply : Reply) (extents : List Extent) (regions : Option (List Region)) (slots : List ℕ) →
    reply ≡ Listing extents → regions ≡ None → with_regions (changed s Extents reply) regions
    (new_pages s Extents reply regions) slots ≡ s
same_state s reply extents regions slots lists none =
    ap (λ (r : Reply). with_regions (changed s Extents r) regions (new_pages s Extents r regions) slots) lists
    ∙ ap (λ (r : Option (List Region)). with_regions (changed s Extents (Listing extents)) r (new_pages s Extents (Listing extents) r) slots) none

-- the answer to it
pub record IsAnswerOf (s : State) (answer : Answer) (state : State) : Type 0 where
  pub extents : List Extent
  pub lists : answer.reply ≡ Listing extents
  pub tiles : IsTiling state extents

pub lists_extents : (s : State) (answer : Answer) → IsAllowed s Extents answer → IsAnswerOf s answer (after s Extents answer)
lists_extents s answer allowed =
    let listing = never_refused s answer.reply answer.regions allowed.reply in
    let same = same_state s answer.reply listing.extents answer.regions (slots_of answer.large) listing.lists listing.none in
    record { extents = listing.extents; lists = listing.lists; tiles = subst (λ (e : State). IsTiling e listing.extents) (sym same) listing.tiles }

-- the heap listed them, and is as it was
listed_by : (old new : Machine) (answer : Answer) (extents : List Extent) →
    HeapMoves old.heap Extents answer.reply answer.large new.heap → answer.reply ≡ Listing extents →
    AreTheHeapsExtents new extents
listed_by old new answer extents moves lists =
    let listed : HeapMoves old.heap Extents (Listing extents) answer.large new.heap =
    subst (λ (r : Reply). HeapMoves old.heap Extents r answer.large new.heap) lists moves in
    subst (λ (heap : Dlmalloc PagedSystem). IsListOf word heap extents) (sym listed.0) listed.1

pub extents_same : (xs ys : List Extent) → Listing xs ≡ Listing ys → xs ≡ ys
extents_same xs ys same = cc

-- what a run is whose last call asked for the extents
pub listed_from : (replay served : Replay) (answer : Answer) (listed : Listed) →
    IsCallAnswered replay Extents answer served →
    ((extents : List Extent) → answer.reply ≡ Listing extents → listed.extents ≡ extents)
    → listed.machine ≡ served.machine → listed.live ≡ sum served.sizes → listed.peak ≡ served.peak →
    IsListedByReplay replay listed
listed_from replay served answer listed is found machine sums top = λ s follows least.
    let one = answered_one s replay served served Extents answer follows least is refl refl refl in
    let list = lists_extents s answer (is.stepped.allowed s follows.at.good follows.at.stands).allowed in
    let same : listed.extents ≡ list.extents = found list.extents list.lists in
    let lists : answer.reply ≡ Listing listed.extents = list.lists ∙ ap (λ (l : List Extent). Listing l) (sym same) in
    record {
      answer = answer;
      state = after s Extents answer;
      run = one.run;
      steps = subst (λ (m : Machine). StepsTo replay.machine (Some Extents ∷ []) (Some answer ∷ []) m) (sym machine) one.steps;
      lists = lists;
      tiles = subst (λ (l : List Extent). IsTiling (after s Extents answer) l) (sym same) list.tiles;
      of_heap = subst (λ (m : Machine). AreTheHeapsExtents m listed.extents) (sym machine)
          (listed_by replay.machine served.machine answer listed.extents is.stepped.heap lists);
      at = subst (λ (m : Machine). IsAt m (after s Extents answer)) (sym machine) one.follows.at;
      live_is = sums ∙ ap sum one.follows.sizes;
      peak_is = top ∙ one.peak_is;
    }
