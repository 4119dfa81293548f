-- A request at an alignment above 16: its sizes, and the block that it is given.
use Rattle.dlmalloc.proofs.Names.{◌≡◌, ℕ, ◌+◌, ◌-◌, ◌*◌, ◌/◌, ◌%◌, ◌^◌, ◌<◌, ◌≤◌, ◌⊎◌, Bool, true, false, ◌==◌, nat_lt, if◌then◌else◌, List, refl, sym, ◌∙◌, ap, subst, arith, IsPowerOfTwo, nat_tests, Grant, Event, IsWordOf, padded, enlarged, limit, Used, size_of, extent_at, extents_in, IsBlock, IsInside, HasOneMore, aligned_place, lead_freed, aligned, state_of, IsSound, IsServed, IsServedAligned, IsAligned, Dlmalloc}
use Rattle.dlmalloc.specs.Requested.{IsPassedOver}
use Rattle.dlmalloc.specs.Order.{KeepsOrderThrough}
use Rattle.dlmalloc.proofs.Extents.Lookup.{extent, the_extent}
use Rattle.dlmalloc.proofs.Blocks.WordsKept.{keeps_on}
use Rattle.dlmalloc.proofs.Blocks.Chunks.{block_place, block_inside, block_placed, block_chunk}
use Rattle.dlmalloc.proofs.Requests.AlignedPlace.{IsAlignedPlace, is_place}
use Rattle.dlmalloc.proofs.Requests.LeadAndTail.{more_on}

-- ---- sizes

pub limit_small : (granularity : ℕ) → 16 ≤ granularity → limit granularity + 119 ≤ 2 ^ 64
unfolding limit
limit_small granularity least = go (granularity == 16) refl
  where
    go : (b : Bool) → (granularity == 16) ≡ b → (if b then 2 ^ 64 - 135 else 2 ^ 64 - granularity - 103) + 119 ≤ 2 ^ 64
    go true is = omega arith
    go false is = omega arith

pub padded_holds : (size : ℕ) → size + 8 ≤ padded size
unfolding padded
padded_holds size = go (nat_lt size 23) refl
  where
    go : (b : Bool) → nat_lt size 23 ≡ b → size + 8 ≤ (if b then 32 else (size + 8 + (16 - 1)) / 16 * 16)
    go true small = let less : size < 23 = grind (arith, nat_tests) in omega arith
    go false large = omega arith

pub enlarged_is : (size align : ℕ) {n : ℕ} → n ≡ padded size → n + align + 24 ≡ enlarged size align
unfolding enlarged
enlarged_is size align is = ap (λ m. m + align + 24) is

pub too_large : (bound size align : ℕ) → bound ≤ size + align → bound ≤ enlarged size align
too_large bound size align more =
    let holds = padded_holds size in
    let is = enlarged_is size align {n = (padded size)} refl in
    omega arith

-- ---- the chunk of a block, and the aligned place in it

-- what is before an aligned place in a chunk, and after it
pub record HasAlignedPlace (align at size n place : ℕ) : Type 0 where
  pub lead : (place ≡ at) ⊎ (at + 32 ≤ place)
  pub whole : (place - at) % 16 ≡ 0
  pub first : place - at ≤ size
  pub room : place - at + 32 ≤ size
  pub rest : n ≤ size - (place - at)
  pub multiple : (place + 16) % align ≡ 0
  pub small : place + 16 < 2 ^ 64

module _ {A : Type 0} {regions : A → List Grant} {word : A → ℕ → ℕ} {heap : Dlmalloc A} (sound : IsSound regions word heap) {ptr : ℕ}
    (n align : ℕ) (block : IsBlock (state_of word heap) ptr (n + align + 24)) where
  place : block.extent.at ≡ ptr - 16
  place = block_place sound block

  inside : IsInside (regions heap.system) block.extent
  inside = block_inside sound block

  pub chunk_whole : (ptr - 16) % 16 ≡ 0
  chunk_whole = subst (λ a. a % 16 ≡ 0) place inside.whole

  pub chunk_small : 32 ≤ n → ptr - 16 + align + 64 < 2 ^ 64
  chunk_small least = omega (arith, inside.high, place)

  pub place_here : IsPowerOfTwo align → 16 < align → 32 ≤ n → {told : ℕ} → told ≡ size_of (word heap.system (ptr - 16 + 8)) → {at : ℕ} →
      at ≡ aligned_place (ptr - 16) align → HasAlignedPlace align (ptr - 16) told n at
  place_here power large least {told} is_told {at} is =
      let there = block_chunk regions word heap sound ptr (n + align + 24) block told is_told in
      let same : block.extent.size ≡ told = ap (λ e. e.size) (the_extent (sym block.there ∙ there)) in
      let long : n + align + 32 ≤ told = omega arith in
      let end : ptr - 16 + told + 16 < 2 ^ 64 = omega (arith, inside.high, place) in
      let p = subst (IsAlignedPlace (ptr - 16) align) (sym is) (is_place (ptr - 16) align power large chunk_whole) in
      let first : at - (ptr - 16) + n ≤ told = omega arith in
      record {
        lead = p.lead;
        whole = omega (arith, chunk_whole);
        first = omega arith;
        room = omega arith;
        rest = omega arith;
        multiple = p.aligned;
        small = omega arith;
      }

-- ---- the block that is handed out

pub served_aligned : {A : Type 0} {regions : A → List Grant} {word : A → ℕ → ℕ} {zeros : A → Bool} {follows : A → List Event → A → Type 0}
    {old middle new : Dlmalloc A} (size : ℕ) {align n greater result : ℕ} → n ≡ padded size → size + 8 ≤ n → n ≤ size + 32 →
    IsServed regions word zeros follows old (n + align + 24) greater middle → IsAligned regions word follows middle greater align n result new →
    IsServedAligned regions word zeros follows old size align (result + 16) new
served_aligned {regions} {word} {zeros} {follows} {old} {middle} {new} size {align} {greater} {result} is holds near served left =
    let back : result ≡ result + 16 - 16 = omega arith in
    let in_use = left.held in
    let block : IsBlock (state_of word new) (result + 16) size = record {
      extent = extent result in_use.0 Used;
      there = ap (λ a. extent_at a (extents_in (state_of word new))) (sym back) ∙ in_use.1;
      low = omega arith;
      used = refl;
      holds = omega arith;
      little = omega arith;
    } in
    let placed = block_placed regions word new left.sound (result + 16) size block in
    let same_words : (k : ℕ) → IsWordOf (regions middle.system) k → IsPassedOver (state_of word middle) (lead_freed (state_of word middle) (greater - 16)
    (result + 16 - 16)) (state_of word new) k → word new.system k ≡ word middle.system k = λ k inside over. left.words k inside
    (subst (λ p. IsPassedOver (state_of word middle) (lead_freed (state_of word middle) (greater - 16) p) (state_of word new) k) (sym back) over) in
    record {
      middle = middle;
      greater = greater;
      served = subst (λ m. IsServed regions word zeros follows old m greater middle) (enlarged_is size align is) served;
      place = ap (λ p. p + 16) left.place;
      state = subst (λ m. state_of word new ≡ aligned (state_of word middle) (greater - 16) align m) is left.state;
      low = omega arith;
      block = block;
      multiple = left.multiple;
      aligned_at_16 = placed.aligned;
      granted = placed.granted;
      more = subst (λ p. HasOneMore (state_of word old) (state_of word new) p) back (more_on served.more left.others);
      kept = keeps_on served.kept
          (left.kept (extents_in (state_of word old)) (λ used there kind. (served.more.new used there kind, served.more.kept used there kind)));
      words = same_words;
      new_words = λ zero k inside fresh over.
          let there = subst (λ rs. IsWordOf rs k) left.regions_same inside in
          same_words k there over ∙ served.new_words zero k there fresh over.0;
      sound = left.sound;
      regions_same = left.regions_same;
      followed = left.followed;
      order = subst (λ p. KeepsOrderThrough regions word (lead_freed (state_of word middle) (greater - 16) p) middle new) back left.order;
    }
