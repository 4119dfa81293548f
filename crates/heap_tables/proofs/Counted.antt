-- Each frame is counted once.
use Rattle.std.proofs.Common.{◌≡◌, zero, suc, ◌+◌, List, [], ◌∷◌, ◌++◌, cond, refl, arith}
use Rattle.std.proofs.lemmas.List.Sums.{sum_by-append}
use Rattle.heap_tables.specs.declared.uses.Use.{Use}
use Rattle.heap_tables.specs.declared.uses.Use.TheVariants.{Table, Large, HeapPage, UserPage, Free}
use Rattle.heap_tables.specs.Uses.{use_of, uses_of, same_use, use_count, EachFrameIsCountedOnce}

-- one frame more
more : (kind : Use) (uses : List Use) (one : Use) → use_count kind (uses ++ one ∷ []) ≡ use_count kind uses + use_count kind (one ∷ [])
more kind uses one = sum_by-append (λ x. cond (same_use kind x) 1 0) uses (one ∷ [])

-- is counted for one use
one_use : (one : Use) → use_count Table (one ∷ []) + use_count Large (one ∷ []) + use_count HeapPage (one ∷ []) + use_count
    UserPage (one ∷ []) + use_count Free (one ∷ []) ≡ 1
one_use Table = refl
one_use Large = refl
one_use HeapPage = refl
one_use UserPage = refl
one_use Free = refl

pub counted_once : EachFrameIsCountedOnce
counted_once lines zero = refl
counted_once lines (suc frames) =
    let uses = uses_of lines frames in
    let one = use_of frames lines in
    let before = counted_once lines frames in
    let t = more Table uses one in
    let l = more Large uses one in
    let h = more HeapPage uses one in
    let u = more UserPage uses one in
    let f = more Free uses one in
    let this = one_use one in
    omega (arith, before, t, l, h, u, f, this)
