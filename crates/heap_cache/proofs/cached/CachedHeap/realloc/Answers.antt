use Rattle.std.proofs.Common.{◌≤◌, ◌∙◌, ℕ, min, inl, inr, arith, ap, subst, sym, refl}
use Rattle.std.proofs.Math.Nat.{min-le_left, min-le_right}
use Rattle.dlmalloc.specs.Heap.{state_of}
use Rattle.heap_cache.specs.Held.{IsLive}
use Rattle.heap_cache.specs.Resized.{StaysInPlace, HasMovedOut}
use Rattle.heap_cache.proofs.MoveLemmas.{stays_for_callers, moved_for_callers}
use Rattle.heap_cache.proofs.cached.CachedHeap.realloc.Goals as goal

pub returns-then-stays_in_place-clause-ok : goal.returns-then-stays_in_place-clause-ok
returns-then-stays_in_place-clause-ok g c = inl (subst (λ (bytes : ℕ). StaysInPlace bytes c.args.size) c.usable_size-held.ensures (c.stays_in_place.ensures.yes c.if-stays_in_place.true), refl, refl, refl)

pub returns-then-stays_in_place-clause-resized : goal.returns-then-stays_in_place-clause-resized
returns-then-stays_in_place-clause-resized g c = stays_for_callers g.A.Links.word c.args.self.now.0 c.args.self.now.1 c.args.address c.args.size c.requires
    (subst (λ (bytes : ℕ). StaysInPlace bytes c.args.size) c.usable_size-held.ensures (c.stays_in_place.ensures.yes c.if-stays_in_place.true)).0

pub move_out-requires-clause-from : goal.move_out-requires-clause-from
move_out-requires-clause-from g c = c.in-Ok.ensures.gained.live.kept c.args.address c.requires

pub move_out-requires-clause-to : goal.move_out-requires-clause-to
move_out-requires-clause-to g c = c.in-Ok.ensures.gained.live.here

pub move_out-requires-clause-apart : goal.move_out-requires-clause-apart
move_out-requires-clause-apart g c same = c.in-Ok.ensures.gained.live.new (subst (λ (k : ℕ). IsLive (state_of g.A.Links.word c.args.self.now.0) c.args.self.now.1 k) (sym same) c.requires)

pub move_out-requires-clause-within : goal.move_out-requires-clause-within
move_out-requires-clause-within g c =
    let is = c.common.ensures in
    let held = c.usable_size-held.ensures in
    let left = min-le_left c.usable_size-held.result c.args.size in
    let same = c.in-Ok.ensures.gained.bytes.sizes c.args.address c.requires in
    omega (arith, is, held, left, same)

pub move_out-requires-clause-room : goal.move_out-requires-clause-room
move_out-requires-clause-room g c =
    let is = c.common.ensures in
    let right = min-le_right c.usable_size-held.result c.args.size in
    let enough = c.in-Ok.ensures.enough in
    omega (arith, is, right, enough)

pub returns-in-Ok-clause-ok : goal.returns-in-Ok-clause-ok
returns-in-Ok-clause-ok g c = inr (
  (λ stays. c.stays_in_place.ensures.no c.if-stays_in_place.false (subst (λ (bytes : ℕ). StaysInPlace bytes c.args.size) (sym c.usable_size-held.ensures) stays)),
  record {
    middle = c.malloc.new.self.0;
    between = c.malloc.new.self.1;
    served = c.in-Ok.ensures.ok;
    moved = (subst (λ (count : ℕ). HasMovedOut g.A.Links.regions g.A.Links.word g.A.Links.follows g.A.Allocator.frees g.A.Allocator.parts g.A.Allocator.unit c.malloc.new.self.0 c.malloc.new.self.1 c.args.address c.in-Ok.to count c.move_out.new.self.0 c.move_out.new.self.1)
        (c.common.ensures ∙ ap (λ (held : ℕ). min held c.args.size) c.usable_size-held.ensures) c.move_out.ensures);
  },
)

pub returns-in-Ok-clause-resized : goal.returns-in-Ok-clause-resized
returns-in-Ok-clause-resized g c =
    let gained = c.in-Ok.ensures.gained in
    let from_block = (gained.live.kept c.args.address c.requires).0 in
    let from_at = (c.law_blocks_placed.ensures c.args.address from_block.0 from_block.1).aligned in
    let to_at = (c.law_blocks_placed.ensures c.in-Ok.to c.args.size c.in-Ok.ensures.block).aligned in
    moved_for_callers g.A.Links.regions g.A.Links.word g.A.Links.follows g.A.Allocator.frees g.A.Allocator.parts g.A.Allocator.unit c.args.self.now.0 c.args.self.now.1 c.args.address c.args.size c.in-Ok.to
    c.malloc.new.self.0 c.malloc.new.self.1 c.move_out.new.self.0 c.move_out.new.self.1 c.requires gained c.in-Ok.ensures.enough (omega (arith, from_at)) (omega (arith, to_at)) (subst (λ (count : ℕ). HasMovedOut g.A.Links.regions g.A.Links.word g.A.Links.follows g.A.Allocator.frees g.A.Allocator.parts g.A.Allocator.unit c.malloc.new.self.0 c.malloc.new.self.1 c.args.address c.in-Ok.to count c.move_out.new.self.0 c.move_out.new.self.1)
    (c.common.ensures ∙ ap (λ (held : ℕ). min held c.args.size) c.usable_size-held.ensures) c.move_out.ensures)

pub returns-in-Err-clause-moves : goal.returns-in-Err-clause-moves
returns-in-Err-clause-moves g c = (λ stays. c.stays_in_place.ensures.no c.if-stays_in_place.false (subst (λ (bytes : ℕ). StaysInPlace bytes c.args.size) (sym c.usable_size-held.ensures) stays))
