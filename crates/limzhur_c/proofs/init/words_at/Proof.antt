-- `words_at` lends the words for good: a walk of its MIR by hand.
use Rattle.std.proofs.Common.{ℕ, ◌*◌, ◌^◌, ◌<◌, List, [], ◌∷◌, ◌++◌, length, refl, arith, w64}
use Rattle.std.proofs.raw_atomic.Walks.{proved}
use base.Fraction.{full_share}
use base.Logic.{id⊢}
use base.Stored.{coded_list}
use base.Fml.{Lft, ftrue, fsep, fauth}
use mir.Syntax.{static}
use prog.Wp.{WpFn}
use contract.Monad.{fact}
use contract.Running.{tables}
use types.Kit.{‵, raw, ◌⊛◌, prop, ◌$◌, ◌∵◌, !, qed, move, keep, use1, use2, split, join, fsplit, fjoin, fpack, feq_i, feq_l, rewrite, regoal, suffices, done}
use types.Tokens.{name_new, bor_new}
use types.Part.{agg}
use types.Run.{and_then, no_more, returns, enter}
use types.ByLocal.{alloc_all, pass_all, free_all, look_at, get, sets}
use types.SemTy.{Arr, cells}
use types.Share.{arr_parts}
use denote.Array.{Array}
use denote.ArrayMemory.{Array-apart}
use denote.Builtin.{u64, usize}
use denote.Exit.{yes}
use denote.FollowSlice.{slice_of}
use denote.Index.{whole_in}
use denote.Memory.{mem, shares}
use denote.Plain.{uint_vals, uint_Tells}
use denote.RattleType.{owns}
use denote.RawPtr.{Ptr, RawPtr, block_ptr, lies_at, in_a_block, rawptr_vals, rawptr_Tells}
use denote.Signature.{plain}
use denote.Slice.{MutSlice, slice_val}
use denote.Steps.{nothing, heard}
use denote.Triple.Walked.{says, Stays, walk_of, stay_dropped, Goes-dropped, ends_at}
use Rattle.limzhur_c.specs.contracts.init.words_at as f
use Rattle.limzhur_c.proofs.init.words_at.Statement.{statement}
use Rattle.limzhur_c.proofs.init.words_at.Code as code

abbrev stayed : Stays f.ended.signature.params f.ended.kept
stayed = (stay_dropped _ yes, (stay_dropped _ yes, tt))

pub words_at_spec : {M : Type 1} → statement M
words_at_spec 𝓤 𝓛 𝓜 𝓡 wired =
    let c = f.clauses 𝓛 𝓜.mem 𝓡.returns in let W = walk_of 𝓛 f.ended stayed c in let 𝓣 = tables 𝓤 𝓛.H 𝓜 𝓡 𝓡.env in
    proved 𝓛 f.ended stayed c 𝓜 𝓡 (
      Goes-dropped 𝓛 0 (plain (λ _. RawPtr)) yes (λ κs x w. refl),
      (Goes-dropped 𝓛 0 (plain (λ _. usize)) yes (λ κs x w. refl), tt),
    )
    f.Key.name code.function (code.unfolded 𝓤 𝓛.H 𝓜 𝓡 wired)
    (λ κs. (rawptr_vals, (uint_vals w64, tt))) (λ κs. (rawptr_Tells, (uint_Tells w64, tt))) (λ κs qs bounds a g are.
    let κ : Lft = [] in let n : ℕ = a.1.0 in
    let y : Ptr → W.Ghost = λ p. ((κs, qs, bounds, (p, (n, tt)), (rawptr_vals p, (uint_vals w64 n, tt))), g) in
    qed 𝓛 ((‵ ftrue ⊛ ‵ (owns (RawPtr ∷ usize ∷ []) (a.0, (n, tt)) (rawptr_vals a.0, (uint_vals w64 n, tt)))) ∷ (‵
    (lies_at (Array u64 n) full_share a.0 g) ⊛ raw (fact 𝓤 (n < 2 ^ 60))) ∷ []) ∵
    move ! (1 ∷ []) $ split ! $ move ! (1 ∷ []) $ heard ! (n < 2 ^ 60) (λ low. keep ! (0 ∷ []) $
    in_a_block ! a.0 (λ p. lies_at (Array u64 n) full_share p g) (id⊢ 𝓤 _) (λ b o e.
    regoal ! (λ p. prop (WpFn 𝓤 𝓛.H 𝓣.C 𝓣.Λ code.function (rawptr_vals p ++ (uint_vals w64 n ++ [])) (W.post (y p)))) e refl $
    use1 𝓛 (‵ ((arr_parts (shares u64) n).part full_share g b o)) (Array-apart 𝓛 u64 full_share tt n g b o) $ fsplit ! $ feq_l ! (λ count.
    use1 𝓛 (‵ (cells (mem u64) g b o)) (whole_in 𝓛 u64 g b o) $
    -- [the words]
    enter ! _ _ _ _ _ $ alloc_all ! (λ l. pass_all ! refl ((tt, tt), ((tt, record { fits = are.1.0.1 }), tt)) $
    sets ! (agg ! (and_then ! (get ! refl) (and_then ! (get ! refl) (no_more !)))) refl (tt, (tt, (record { fits = are.1.0.1 }, tt))) $
    feq_i ! ℕ (length g) (length g) refl $ fjoin ! $
    name_new ! tt ((coded_list u64.coded).code g) (λ γ. move ! (2 ∷ 1 ∷ []) $ fjoin ! $
    let All = Arr (mem u64) (length g) in
    fpack ! (List ℕ) (λ ys. fsep (All.own_at ys b o) (fauth γ (All.coded.code ys))) g $ bor_new ! tt κ $
    let r : (MutSlice static κ u64).Denot = record { ref_ptr = (b, o); ghost_name = γ; now = g } in
    let fits : length g < 2 ^ 64 = omega arith in
    let room : length g * 8 < 2 ^ 63 = omega arith in
    move ! (2 ∷ 0 ∷ []) $ use2 𝓛 (‵ ((MutSlice static κ u64).own_val r (slice_val (b, o) (length g) ∷ []))) (slice_of 𝓛 u64 static κ b o γ g (fits, room)) $
    rewrite ! 0 (λ (j : ℕ). ‵ ((MutSlice static κ u64).own_val r (slice_val (b, o) j ∷ []))) count refl $
    returns ! (look_at ! 0 refl) $ free_all ! refl $ keep ! (0 ∷ []) $
    suffices ! _ (ends_at 𝓛 f.ended stayed c (y (block_ptr b o)) (slice_val (b, o) n) r (tt, (tt, tt)) (tt, (tt, tt))) $ says ! (refl, count) $
    nothing ! $ nothing ! $ fjoin ! $ nothing ! $ fjoin ! $ join ! $
    nothing ! $ join ! $ done !))))))
