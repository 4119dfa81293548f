-- The free extents beside one that is freed.
use Rattle.dlmalloc.proofs.Names.{◌≡◌, ◌≢◌, ℕ, ◌+◌, ◌-◌, ◌%◌, ◌≤◌, ◌⊎◌, inl, inr, true, false, ◌==◌, if◌then◌else◌, List, [], ◌∷◌, ◌++◌, Some, IsTrue, refl, sym, ◌∙◌, ap, subst, arith, append_assoc, append-nil, Grant, Extent, Kind, Used, Free, Victim, Top, Record, Foot, size_of, pinuse_of, free_of, head_of, size_of-head_of, pinuse_of-head_of, cinuse_of-head_of, is_free, ends_segment, is_used, Segment, is_free_below_top, MayStand, told_size, HasChunk, Tiles, last_kind, IsRunOf, used_of, AreSegments, IsChunkKind}
use Rattle.dlmalloc_chunks.specs.Tiling.{extent_at}
use Rattle.dlmalloc.proofs.Extents.Lookup.{extent, end_of, found, found_here, the_one}
use Rattle.dlmalloc.proofs.Extents.Tiling.{tiles_le, tiles_append, tiles_split}
use Rattle.dlmalloc.proofs.Moves.OfLists.{last_append}
use Rattle.dlmalloc.proofs.Cuts.FreeExtent.{told_whole, behind_free}
use Rattle.dlmalloc.proofs.Extents.RunReplaced.{HasNext, has_next, with_next, behind}
use Rattle.dlmalloc.proofs.Frees.StateAfter.{IsBeside, joint_kind}

-- where the free chunks beside a chunk begin and end, as words say
abbrev pub IsFrom : (ℕ → ℕ) → ℕ → ℕ → Type 0
IsFrom words at from = from ≡ (if pinuse_of (words (at + 8)) then at else at - words at)

abbrev pub IsTo : (ℕ → ℕ) → ℕ → ℕ → ℕ → Type 0
IsTo words top at to = to ≡ (if at == top then at else if free_of (words (at + 8)) then at + size_of (words (at + 8)) else at)

-- all of them are of one kind
abbrev pub AllAre : Kind → List Extent → Type 0
AllAre kind extents = (k : ℕ) (one : Extent) → extent_at k extents ≡ Some one → one.kind ≡ kind

none_are : (kind : Kind) → AllAre kind []
none_are kind k one there = absurd (cc)

pub one_is : (extent : Extent) {kind : Kind} → extent.kind ≡ kind → AllAre kind (extent ∷ [])
one_is extent is k one there = ap (λ e. e.kind) (sym (the_one k extent there)) ∙ is

-- ---- what is found among them

pub found_place : (k : ℕ) (one : Extent) {other : Extent} → extent_at k (one ∷ []) ≡ Some other → one.at ≡ k
found_place k one there = (found k one (one ∷ []) (there ∙ ap Some (sym (the_one k one there)))).place

-- one that is joined begins where they do
pub beside_place : (words : ℕ → ℕ) (before : Kind) (from : ℕ) (extents : List Extent) (to : ℕ) → IsBeside extents →
    Tiles words before from extents to → (k : ℕ) {one : Extent} → extent_at k extents ≡ Some one → k ≡ from
beside_place words before from [] to beside h k there = absurd (cc)
beside_place words before from (extent ∷ []) to beside h k there = sym (found_place k extent there) ∙ h.0
beside_place words before from (extent ∷ next ∷ extents) to beside h k there = absurd beside

-- where extents begin, one does
pub first_there : (words : ℕ → ℕ) (before : Kind) (from : ℕ) (extents : List Extent) (next : Extent) (to : ℕ) →
    Tiles words before from (extents ++ next ∷ []) to → (one : Extent) × (extent_at from (extents ++ next ∷ []) ≡ Some one)
first_there words before from [] next to h = (next, subst (λ a. extent_at a (next ∷ []) ≡ Some next) h.0 (found_here next []))
first_there words before from (extent ∷ extents) next to h =
    (extent, subst (λ a. extent_at a (extent ∷ (extents ++ next ∷ [])) ≡ Some extent) h.0 (found_here extent (extents ++ next ∷ [])))

-- they begin at whole places
pub begins_whole : (words : ℕ → ℕ) (before : Kind) (from : ℕ) (front : List Extent) (extent : Extent) (back : List Extent) (to : ℕ) →
    Tiles words before from (front ++ extent ∷ back) to → from % 16 ≡ 0
begins_whole words before from [] extent back to h = let place = h.0 in let whole = h.1.whole in omega arith
begins_whole words before from (first ∷ front) extent back to h = let place = h.0 in let whole = h.1.whole in omega arith

-- the extents before one at an address: those that stay, and the free one that is joined, if there is one
pub record Left (words : ℕ → ℕ) (base : ℕ) (extents : List Extent) (at from : ℕ) : Type 0 where
  pub front : List Extent
  pub lefts : List Extent
  pub is : extents ≡ front ++ lefts
  pub beside : IsBeside lefts
  pub used : last_kind Used front ≡ Used
  pub front_stand : Tiles words Used base front from
  pub lefts_stand : Tiles words Used from lefts at
  pub free : AllAre Free lefts
  pub none : used_of lefts ≡ []

pub record LastOf (extents : List Extent) : Type 0 where
  pub front : List Extent
  pub last : Extent
  pub is : extents ≡ front ++ last ∷ []

last_of : (first : Extent) (extents : List Extent) → LastOf (first ∷ extents)
last_of first [] = record { front = []; last = first; is = refl }
last_of first (next ∷ extents) = let rest = last_of next extents in record { front = first ∷ rest.front; last = rest.last; is = ap (λ es. first ∷ es) rest.is }

pub left_of : (words : ℕ → ℕ) (base : ℕ) (extents : List Extent) (at : ℕ) → Tiles words Used base extents at →
    IsChunkKind (last_kind Used extents) → Left words base extents at (if is_used (last_kind Used extents) then at else at - words at)
left_of words base extents at h (inl used) =
    subst (λ f. Left words base extents at f) (ap (λ k. if is_used k then at else at - words at) (sym used)) (record {
      front = extents;
      lefts = [];
      is = sym (append-nil extents);
      beside = tt;
      used = used;
      front_stand = h;
      lefts_stand = refl;
      free = none_are Free;
      none = refl;
    })
left_of words base [] at h (inr free) = absurd (cc)
left_of words base (first ∷ more) at h (inr free) =
    let l = last_of first more in
    let s = tiles_split words Used base l.front (l.last ∷ []) at (subst (λ es. Tiles words Used base es at) l.is h) in
    let kind : l.last.kind ≡ Free = sym (last_append Used l.front (l.last ∷ [])) ∙ (ap (last_kind Used) (sym l.is) ∙ free) in
    let place : l.last.at ≡ s.middle = s.second.0 in
    let ends : s.middle + l.last.size ≡ at = s.second.2 in
    let foot : words (l.last.at + l.last.size) ≡ l.last.size = s.second.1.foot (subst (λ k. IsTrue (is_free_below_top k)) (sym kind) refl) in
    let here : l.last.at + l.last.size ≡ at = omega arith in
    let size : words at ≡ l.last.size = ap words (sym here) ∙ foot in
    let from : s.middle ≡ at - words at = omega arith in
    let used : last_kind Used l.front ≡ Used = subst (MayStand (last_kind Used l.front)) kind s.second.1.kind in
    subst (λ f. Left words base (first ∷ more) at f) (from ∙ ap (λ k. if is_used k then at else at - words at) (sym free)) (record {
      front = l.front;
      lefts = l.last ∷ [];
      is = l.is;
      beside = ap is_free kind;
      used = used;
      front_stand = s.first;
      lefts_stand = subst (λ k. Tiles words k s.middle (l.last ∷ []) at) used s.second;
      free = one_is l.last kind;
      none = (let unused = ap is_used kind in rw unused refl);
    })

-- so they are before an extent in use of a run
pub left_at : {words : ℕ → ℕ} {segments : List Segment} {at size to : ℕ} {rest : List Extent} (r : IsRunOf words segments at to (extent at size Used ∷ rest))
    {from : ℕ} → IsFrom words at from → Left words r.segment.base r.first at from
left_at {words} {at = at} {size = size} r from_is =
    let whole : size % 8 ≡ 0 = (let w = r.here.1.size.0 in omega arith) in
    let told : pinuse_of (words (at + 8)) ≡ is_used (last_kind Used r.first) =
    ap pinuse_of r.here.1.head ∙ pinuse_of-head_of size (is_used (last_kind Used r.first)) true whole in
    subst (λ f. Left words r.segment.base r.first at f) (ap (λ b. if b then at else at - words at) (sym told) ∙ sym from_is)
    (left_of words r.segment.base r.first at r.first_stand r.here.1.kind)

-- ---- a run in two lists

module _ (words : ℕ → ℕ) (segments : List Segment) where
  -- what stands before it goes into the run
  abbrev pub with_left : {at to : ℕ} {run : List Extent} (r : IsRunOf words segments at to run) {from : ℕ}
      (l : Left words r.segment.base r.first at from) → IsRunOf words segments from to (l.lefts ++ run)
  with_left {at} {to} {run} r {from} l = record {
    front = r.front;
    segment = r.segment;
    back = r.back;
    is = r.is;
    first = l.front;
    last = r.last;
    extents = r.extents ∙ (ap (λ es. es ++ (run ++ r.last)) l.is ∙ (append_assoc l.front l.lefts (run ++ r.last)
        ∙ ap (λ es. l.front ++ es) (sym (append_assoc l.lefts run r.last))));
    first_stand = l.front_stand;
    here = tiles_append words (last_kind Used l.front) from l.lefts run at to (subst (λ k. Tiles words k from l.lefts at) (sym l.used) l.lefts_stand)
        (subst (λ k. Tiles words k at run to) (ap (last_kind Used) l.is ∙ last_append Used l.front l.lefts) r.here);
    last_stand = subst (λ k. Tiles words k to r.last (r.segment.base + r.segment.size)) (ap (λ k. last_kind k run)
        (ap (last_kind Used) l.is ∙ last_append Used l.front l.lefts) ∙ sym (last_append (last_kind Used l.front) l.lefts run)) r.last_stand;
    some = (let s = r.some in let low = tiles_le words Used from l.lefts at l.lefts_stand in omega arith);
  }

-- an extent in use with what is free after it, which ends at an address, and with the extent there
pub record Right (words : ℕ → ℕ) (segments : List Segment) (at size to : ℕ) (kind : Kind) : Type 0 where
  pub rights : List Extent
  pub next : Extent
  pub run : IsRunOf words segments at (to + next.size) (extent at size Used ∷ (rights ++ next ∷ []))
  pub place : next.at ≡ to
  pub stays : is_free next.kind ≡ false
  pub beside : IsBeside rights
  pub joint : joint_kind rights ≡ kind
  pub joins : (kind ≡ Free) ⊎ (kind ≡ Top)
  pub are : AllAre kind rights
  pub none : used_of rights ≡ []
  pub stands : HasChunk words (last_kind Used rights) next
  pub reach : at + size ≤ to

-- if that is a free chunk or nothing
pub record RightChunk (words : ℕ → ℕ) (segments : List Segment) (at size to : ℕ) : Type 0 where
  pub right : Right words segments at size to Free
  pub kind : (right.next.kind ≡ Used) ⊎ (right.next.kind ≡ Record)
  pub told : to ≢ at + size → pinuse_of (words (to + 8)) ≡ false

module _ (regions : List Grant) {words : ℕ → ℕ} {segments : List Segment} (parts : AreSegments regions words segments) {at size : ℕ}
    (r : IsRunOf words segments at (at + size) (extent at size Used ∷ [])) where
  abbrev pub next_one : HasNext r.last
  next_one = has_next regions parts r refl

  stand : Tiles words Used (at + size) (next_one.next ∷ next_one.rest) (r.segment.base + r.segment.size)
  stand = behind regions parts r next_one

  right_used : (next_one.next.kind ≡ Used) ⊎ (next_one.next.kind ≡ Record) → RightChunk words segments at size (end_of words (at + size))
  right_used kind =
      let whole = told_whole next_one.next.kind next_one.next.size stand.1.size in
      let told_size = told_size next_one.next.kind next_one.next.size in
      let head : words (at + size + 8) ≡ head_of told_size true true =
      ap (λ a. words (a + 8)) (sym stand.0) ∙ (stand.1.head ∙ ap (λ u. head_of told_size true u)
      (elim kind [ inl is ↦ ap is_used is | inr is ↦ ap is_used is ])) in
      let told : free_of (words (at + size + 8)) ≡ false = ap free_of head
      ∙ rw (pinuse_of-head_of told_size true true whole, cinuse_of-head_of told_size true true whole) refl in
      subst (λ t. RightChunk words segments at size t) (ap (λ b. if b then at + size + size_of (words (at + size + 8)) else at + size) (sym told)) (record {
        right = record {
          rights = [];
          next = next_one.next;
          run = with_next regions parts r next_one;
          place = stand.0;
          stays = elim kind [ inl is ↦ ap is_free is | inr is ↦ ap is_free is ];
          beside = tt;
          joint = refl;
          joins = inl refl;
          are = none_are Free;
          none = refl;
          stands = stand.1;
          reach = omega arith;
        };
        kind = kind;
        told = λ more. absurd (more refl);
      })

  right_free : next_one.next.kind ≡ Free → RightChunk words segments at size (end_of words (at + size))
  right_free free =
      let q = next_one.next in let run = with_next regions parts r next_one in
      let n = has_next regions parts run (ap ends_segment free) in let b = behind regions parts run n in
      let kind = behind_free n.next.kind (subst (λ k. MayStand k n.next.kind) free b.1.kind) in
      let whole = told_whole q.kind q.size stand.1.size in
      let is_size : told_size q.kind q.size ≡ q.size = ap (λ k. told_size k q.size) free in
      let sized : q.size % 8 ≡ 0 = subst (λ n. n % 8 ≡ 0) is_size whole in
      let head : words (at + size + 8) ≡ head_of q.size true false =
      ap (λ a. words (a + 8)) (sym stand.0) ∙ (stand.1.head ∙ ((λ i. head_of (is_size i) true (is_used (free i))))) in
      let told : free_of (words (at + size + 8)) ≡ true = ap free_of head
      ∙ rw (pinuse_of-head_of q.size true false sized, cinuse_of-head_of q.size true false sized) refl in
      let bytes : size_of (words (at + size + 8)) ≡ q.size = ap size_of head ∙ size_of-head_of q.size true false sized in
      let unused : is_used q.kind ≡ false = ap is_used free in
      let ends : at + size + q.size ≡ end_of words (at + size) = ap (λ n. at + size + n) (sym bytes)
      ∙ ap (λ b. if b then at + size + size_of (words (at + size + 8)) else at + size) (sym told) in
      subst (λ t. RightChunk words segments at size t) ends (record {
        right = record {
          rights = q ∷ [];
          next = n.next;
          run = with_next regions parts run n;
          place = b.0;
          stays = elim kind [ inl is ↦ ap is_free is | inr is ↦ ap is_free is ];
          beside = ap is_free free;
          joint = free;
          joins = inl refl;
          are = one_is q free;
          none = (rw unused refl);
          stands = b.1;
          reach = omega arith;
        };
        kind = kind;
        told = λ more.
            let t = told_size n.next.kind n.next.size in
            let head_next : words (at + size + q.size + 8) ≡ head_of t false (is_used n.next.kind) =
            ap (λ a. words (a + 8)) (sym b.0) ∙ (b.1.head ∙ ap (λ u. head_of t u (is_used n.next.kind)) unused) in
            ap pinuse_of head_next ∙ pinuse_of-head_of t false (is_used n.next.kind) (told_whole n.next.kind n.next.size b.1.size);
      })

  -- no top stands after it
  pub right_of : next_one.next.kind ≢ Top → RightChunk words segments at size (end_of words (at + size))
  right_of no_top = go next_one.next.kind refl stand.1.kind
    where
      go : (kind : Kind) → next_one.next.kind ≡ kind → MayStand Used kind → RightChunk words segments at size (end_of words (at + size))
      go Used is may = right_used (inl is)
      go Free is may = right_free is
      go Victim is may = absurd may
      go Top is may = absurd (no_top is)
      go Record is may = right_used (inr is)
      go Foot is may = absurd (cc)
