-- How many segments a heap has after a call, and so what a release pass takes then.
use Rattle.dlmalloc.proofs.Names.{◌≡◌, ◌≢◌, ℕ, ◌*◌, inl, inr, Bool, true, false, if◌then◌else◌, List, [], ◌∷◌, None, refl, sym, ◌∙◌, ap, length, Grant, Event, HeapState, Segment, chosen, freed, freed_in, cut_of, cut_top, is_cut, after_cut, IsFound, spans, pass_steps}
use Rattle.dlmalloc.specs.Trimmed.{shortened}
use Rattle.std.proofs.lemmas.List.{length-map}

-- a freed chunk leaves the segments
pub freed_pass : (old : HeapState) (at : ℕ) {new : HeapState} → new ≡ freed old at → pass_steps new ≡ pass_steps old
freed_pass old at is = ap pass_steps is ∙ ap (λ n. 512 * n) (length-map old.segments (λ segment. record segment { extents = freed_in at segment.extents }))

-- what does not look at the head segment is the same after a cut of the top
cut_keeps : {B : Type 0} (of : List Segment → B) → ((one other : Segment) (rest : List Segment) → of (one ∷ rest) ≡ of (other ∷ rest)) →
    (less : ℕ) (segments : List Segment) (victim granularity rate countdown trim_check : ℕ) → of (cut_top less
    (record { segments = segments; victim = victim; granularity = granularity; rate = rate; countdown = countdown; trim_check = trim_check })).segments ≡ of
    segments
cut_keeps of same less [] victim granularity rate countdown trim_check = refl
cut_keeps of same less (head ∷ rest) victim granularity rate countdown trim_check = same (shortened less head) head rest

pub after_cut_keeps : {B : Type 0} (of : List Segment → B) → ((one other : Segment) (rest : List Segment) → of (one ∷ rest) ≡ of (other ∷ rest)) →
    (parts : Bool) (unit pad : ℕ) (old : HeapState) → of (after_cut parts unit pad old).segments ≡ of old.segments
after_cut_keeps of same parts unit pad old = go (is_cut parts unit pad old)
  where
    go : (b : Bool) → of (if b then cut_top (cut_of old pad) old else old).segments ≡ of old.segments
    go true = cut_keeps of same (cut_of old pad) old.segments old.victim old.granularity old.rate old.countdown old.trim_check
    go false = refl

pub after_cut_pass : (parts : Bool) (unit pad : ℕ) (old : HeapState) {new : HeapState} → new ≡ after_cut parts unit pad old → pass_steps new ≡ pass_steps old
after_cut_pass parts unit pad old is = ap pass_steps is ∙ ap (λ n. 512 * n) (after_cut_keeps length (λ one other rest. refl) parts unit pad old)

-- and what is cut from an extent that is chosen
pub found_pass : {A : Type 0} (follows : A → List Event → A → Type 0) (regions : A → List Grant) (system : A) (old : HeapState) (n : ℕ) (system' : A)
    (new : HeapState) → IsFound follows regions system old n system' new → chosen old n ≢ None → pass_steps new ≡ pass_steps old
found_pass follows regions system old n system' new (inl here) some =
    ap (λ k. 512 * k) (sym (many new) ∙ (ap length here.0 ∙ many old))
  where
    many : (heap : HeapState) → length (spans heap) ≡ length heap.segments
    many heap = length-map heap.segments (λ segment. record segment { extents = [] })
found_pass follows regions system old n system' new (inr there) some = absurd (some there.1)
