-- Lists of blocks of which none is live.
use Rattle.std.proofs.Common.{◌≡◌, ℕ, suc, ◌<◌, List, [], ◌∷◌, length, replicate, Option, None, refl, arith}
use Rattle.machine_model.specs.declared.live.Live.{Live}
use Rattle.kernel_heap.specs.Numbered.{live_at}

pub none_live : (xs ys : List (Option Live)) → length xs ≡ length ys → ((k : ℕ) → k < length xs → live_at xs k ≡ None) → xs ≡ replicate (length ys) None
none_live [] [] same none = refl
none_live [] (y ∷ ys) same none = absurd (omega (arith, same))
none_live (x ∷ xs) [] same none = absurd (omega (arith, same))
none_live (x ∷ xs) (y ∷ ys) same none =
    let first : x ≡ None = none 0 (omega arith) in
    let rest = none_live xs ys (omega (arith, same)) (λ k less. none (suc k) (omega (arith, less))) in
    (λ i. first i ∷ rest i)
