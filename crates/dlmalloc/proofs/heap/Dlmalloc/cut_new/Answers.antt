use Rattle.dlmalloc.proofs.Names.{rules, sym, round_up, IsFull, ◌≡◌, ℕ, ◌+◌, ◌≤◌, ◌∙◌, false, List, [], ◌∷◌, refl, ap, subst, arith, Event, Granted, is_put_before, granted, HasSameUsed, segments_of, state_of, IsSound, IsFreshGrant, IsBinned, IsCutOut, IsInFree}
use Rattle.heap_memory.specs.Events.{Refused}
use Rattle.heap_memory.specs.declared.grant.GrantFault.{GrantFault}
use Rattle.dlmalloc.proofs.Segments.RegionsMore.{word_kept, word_new}
use Rattle.dlmalloc.proofs.Grants.NewRegion.{granted_sound, granted_same, granted_binned, fresh_grant}
use Rattle.dlmalloc.proofs.Grants.CutFromStart.{cut_before}
use Rattle.dlmalloc.proofs.Laws.{as_it_was, as_binned}
use Rattle.dlmalloc.proofs.Requests.Plain.{if_err}
use Rattle.dlmalloc.proofs.Bins.Order.{order_same, bins_kept}
use Rattle.dlmalloc.proofs.Cuts.Grown.{IsGrown}
use Rattle.dlmalloc.proofs.Extents.NoRoom.{full}
use Rattle.dlmalloc.proofs.Bins.Changes.{binned_beside}
use Rattle.dlmalloc.proofs.Cuts.Chosen.{top_below}
use Rattle.dlmalloc.proofs.Cuts.OneStepOrTwo.{cut_new}
use Rattle.dlmalloc.proofs.heap.Dlmalloc.cut_new.Goals as goal
use Rattle.dlmalloc.proofs.heap.Dlmalloc.cut_new.Goals.{In_ok-grant, After-join}

pub returns-in_err-grant-clause-err : goal.returns-in_err-grant-clause-err
returns-in_err-grant-clause-err g c =
    let heap = c.args.self.now in let denied = c.in_err-grant.ensures in
    let events : ℕ → GrantFault → List Event = λ bytes fault. Refused bytes fault ∷ [] in
    let followed = subst (λ bytes. g.A.Links.follows heap.system (events bytes c.in_err-grant.field-0.0) c.alloc.new.self)
    c.asked-asked.ensures.asked denied.err_follows in
    if_err c.from_residual.result _ c.from_residual.ensures.1
    (as_it_was g.A.Links.regions g.A.Links.word heap c.requires.intact.sound c.law_index_stays.ensures denied.err denied.words followed denied.err_refuses)

-- ---- the heap is as it was, with a fresh grant beside it

-- what is asked for has room for a chunk and the end of a segment
long : (g : _) (c : In_ok-grant g) → 128 ≤ c.asked-asked.result
long g c = let enough = c.asked-asked.ensures.enough in let least = c.requires.bytes.least in omega arith

sound : (g : _) (c : In_ok-grant g) → IsSound g.A.Links.regions g.A.Links.word (record c.args.self.now { system = c.alloc.new.self })
sound g c =
    let given = c.in_ok-grant.ensures in
    granted_sound c.requires.intact.sound c.alloc.new.self (long g c) given.good given.apart given.regions given.words

same : (g : _) (c : In_ok-grant g) → state_of g.A.Links.word (record c.args.self.now { system = c.alloc.new.self }) ≡ state_of g.A.Links.word c.args.self.now
same g c =
    let given = c.in_ok-grant.ensures in
    granted_same c.requires.intact.sound c.alloc.new.self (long g c) given.good given.apart given.regions given.words

abbrev binned : (g : _) (c : In_ok-grant g) → IsBinned g.A.Links.regions g.A.Links.word c.args.self.now →
    IsBinned g.A.Links.regions g.A.Links.word (record c.args.self.now { system = c.alloc.new.self })
binned g c =
    let given = c.in_ok-grant.ensures in
    granted_binned c.requires.intact.sound c.alloc.new.self (long g c) given.good given.apart given.regions given.words c.law_index_stays.ensures

fresh : (g : _) (c : In_ok-grant g) →
    IsFreshGrant (g.A.Links.regions c.alloc.new.self) (segments_of g.A.Links.word (record c.args.self.now { system = c.alloc.new.self })) c.in_ok-grant.grant
fresh g c =
    let given = c.in_ok-grant.ensures in
    fresh_grant c.requires.intact.sound c.alloc.new.self (long g c) given.good given.apart given.regions given.words

pub segment_behind-requires : goal.segment_behind-requires
segment_behind-requires g c = record { sound = sound g (goal.at.segment_behind-requires g c).In_ok-grant; high = c.in_ok-grant.ensures.good.high }

pub put_before-requires : goal.put_before-requires
put_before-requires g c =
    let now = (goal.at.put_before-requires g c).In_ok-grant in
    record {
      intact = record { sound = sound g now; linked = binned g now c.requires.intact.linked };
      before = record {
        room = record {
          fresh = fresh g now;
          bytes = c.requires.bytes;
          room = (let e = c.asked-asked.ensures.enough in let long = c.in_ok-grant.ensures.good.long in omega arith);
        };
        behind = c.in-Some.ensures.found;
      };
    }

pub join-requires : goal.join-requires
join-requires g c =
    let now = (goal.at.join-requires g c).In_ok-grant in
    record {
      intact = record { sound = sound g now; linked = binned g now c.requires.intact.linked };
      fresh = fresh g now;
      apart = c.in-None.ensures.none refl;
    }

pub returns-in-Some-clause-cut : goal.returns-in-Some-clause-cut
returns-in-Some-clause-cut g c =
    let heap = c.args.self.now in let grant = c.in_ok-grant.grant in let given = c.in_ok-grant.ensures in let asked = c.asked-asked.result in
    let middle = c.alloc.new.self in let new = c.put_before.new.self in let put = c.put_before.ensures.put in
    let followed = g.A.Links.follows_on heap.system middle new.system (Granted asked grant ∷ []) []
    (Granted asked grant ∷ []) given.follows put.followed refl in
    cut_before c.requires.intact.sound c.requires.bytes.least c.asked-asked.ensures.enough c.requires.none given.good given.apart given.regions given.words
    given.zeros c.in-Some.ensures.some put (subst (λ bytes. g.A.Links.follows heap.system (Granted bytes grant ∷ []) new.system)
    c.asked-asked.ensures.asked followed)

-- the grant became the top, or part of it, in which the chunk has room
grown : (g : _) (c : After-join g) →
    IsGrown g.A.Links.regions g.A.Links.word g.A.Allocator.zeros g.A.Links.follows c.args.self.now c.args.n c.join.new.self
grown g c =
    let regions = g.A.Links.regions in let word = g.A.Links.word in let heap = c.args.self.now in
    let grant = c.in_ok-grant.grant in let given = c.in_ok-grant.ensures in let asked = c.asked-asked.result in
    let enough : c.args.n + 96 ≤ asked = c.asked-asked.ensures.enough in
    let least = c.requires.bytes.least in let middle = c.alloc.new.self in let new = c.join.new.self in
    let joined = c.join.ensures.joined in let long = given.good.long in let room = joined.room in
    let same = same g (goal.at.After-join g c).In_ok-grant in
    let followed = g.A.Links.follows_on heap.system middle new.system (Granted asked grant ∷ []) []
    (Granted asked grant ∷ []) given.follows joined.followed refl in
    record {
      grant = grant;
      followed = subst (λ bytes. g.A.Links.follows heap.system (Granted bytes grant ∷ []) new.system) c.asked-asked.ensures.asked followed;
      apart = subst (λ ss. is_put_before grant ss ≡ false) (λ i. (same i).segments) (c.in-None.ensures.none refl);
      state = joined.state c.args.n ∙ ap (granted grant c.args.n) same;
      sound = joined.sound;
      there = joined.there;
      room = omega arith;
      long = omega arith;
      begins = joined.begins;
      with_it = joined.regions_same ∙ given.regions;
      fresh = given.apart;
      used = subst (λ s. HasSameUsed s (state_of word new)) same joined.used;
      words = λ k inside was own recorded. joined.words k (word_kept grant given.regions inside)
          (λ f. was (subst (λ s. IsInFree s k) same f)) own recorded ∙ given.words k inside;
      new_words = λ zeros k low high multiple a b. joined.new_words k (word_new grant (regions heap.system) given.regions k low high multiple) low high a b
          ∙ given.zeros zeros k low high multiple;
    }

pub take_top-requires : goal.take_top-requires
take_top-requires g c =
    let grown = grown g (goal.at.take_top-requires g c).After-join in
    record { sound = grown.sound; there = grown.there; bytes = c.requires.bytes; fits = grown.room }

pub returns-in-None-clause-cut : goal.returns-in-None-clause-cut
returns-in-None-clause-cut g c =
    let heap = c.args.self.now in let middle = c.join.new.self in let new = c.take_top.new.self in
    let grown = grown g (goal.at.returns-in-None-clause-cut g c).After-join in let e = c.take_top.ensures.cut in
    let events = Granted (round_up (c.args.n + 96) heap.granularity) grown.grant ∷ [] in
    subst (λ k. IsCutOut g.A.Links.regions g.A.Links.word g.A.Allocator.zeros g.A.Links.follows heap c.args.n k new) (sym c.take_top.ensures.chunk)
    (cut_new c.requires.intact.sound c.args.n grown e.taken.state e.taken.more e.moves.moved e.head e.foot e.others c.requires.none
    (top_below grown.sound grown.there) (g.A.Links.follows_on heap.system middle.system new.system events [] events grown.followed e.moves.moved.followed refl))

pub returns-in_err-grant-clause-denied : goal.returns-in_err-grant-clause-denied
returns-in_err-grant-clause-denied g c =
    let full : IsFull (state_of g.A.Links.word c.args.self.now) (c.args.n + 256) = full c.requires.intact.sound c.args.n c.requires.none in
    search rules

pub returns-in_err-grant-clause-bins : goal.returns-in_err-grant-clause-bins
returns-in_err-grant-clause-bins g c =
    let denied = c.in_err-grant.ensures in
    bins_kept (λ b. (
      as_binned g.A.Links.regions g.A.Links.word c.args.self.now c.requires.intact.sound c.law_index_stays.ensures c.alloc.new.self
          denied.err denied.words b,
      order_same b.index,
    )) c.requires.intact.linked

pub returns-in-Some-clause-bins : goal.returns-in-Some-clause-bins
returns-in-Some-clause-bins g c =
    bins_kept (λ b. c.put_before.ensures.bins.order (binned g (goal.at.returns-in-Some-clause-bins g c).In_ok-grant b)) c.requires.intact.linked

pub returns-in-None-clause-bins : goal.returns-in-None-clause-bins
returns-in-None-clause-bins g c =
    let now = goal.at.returns-in-None-clause-bins g c in
    let grown = grown g now.After-join in let e = c.take_top.ensures.cut in
    bins_kept (λ b. (let after = c.join.ensures.bins.order (binned g now.In_ok-grant b) in
    (binned_beside c.law_index_stays.ensures grown.sound e.moves (ap (λ s. s.victim) e.taken.state) after.0, after.1))) c.requires.intact.linked
