-- `limzhur_init_with` writes a heap over the words into the room: a walk of its MIR by hand.
use Rattle.std.proofs.Common.{◌≡◌, ℕ, zero, suc, ◌^◌, ◌<◌, List, [], ◌∷◌, ◌++◌, refl, sym, subst, length, w64, MutBor}
use Rattle.std.proofs.raw_atomic.Walks.{proved}
use base.Fraction.{full_share}
use base.Logic.{SProp, sep, emp, ex, ex_i, id⊢}
use base.Fml.{Fml, ftrue, froom}
use mir.Syntax.{Ty, Local, local, static, ty_unit}
use mir.Val.{Val, vunit}
use prog.Wp.{WpFn}
use contract.Monad.{fact, fact_i}
use contract.Running.{tables}
use types.Kit.{‵, raw, ◌⊛◌, some, later, prop, ◌$◌, ◌∵◌, !, qed, move, keep, drop, use0, use1, use2, split, join, pick, fjoin, feq_i, await, regoal, suffices, done}
use types.Run.{init, stop, of_opd, unit_lit, and_then, no_more, assigns, returns, enter}
use types.ByLocal.{alloc_all, pass_all, free_all, look_at, get, through, sets, lands_as}
use types.Logic.{sem}
use borrow.Table.OneValue.{part_in_at, reroom}
use denote.Array.{Array}
use denote.Builtin.{u64, usize}
use denote.Exit.{yes}
use denote.Laws.{Is, shows}
use denote.Memory.{lone, part_at}
use denote.Plain.{uint_vals, uint_Tells, uint_Makes}
use denote.RattleType.{RattleType, owns}
use denote.RawPtr.{Ptr, RawPtr, block_ptr, lies_at, room_at, in_a_block, rawptr_vals, rawptr_Tells, rawptr_Lawful}
use denote.Signature.{plain, static_lft}
use denote.Slice.{MutSlice, mut_slice_Lawful}
use denote.Steps.{nothing, heard, owned, peeks}
use denote.Triple.Call.{calls_at}
use denote.Triple.Clauses.{lasts}
use denote.Triple.Spec.{triple_of}
use denote.Triple.Table.{framed}
use denote.Triple.Walked.{Stays, walk_of, stay_dropped, Goes-dropped, ends_at}
use Rattle.checked_heap.specs.declared.checked.CheckedHeap.{CheckedHeap}
use Rattle.checked_heap.specs.contracts.checked.CheckedHeap as R-type
use Rattle.checked_heap.specs.Checked.{IsCleared}
use Rattle.dlmalloc.specs.Heap.{IsGranularity}
use Rattle.checked_heap.specs.Begun.{FitsAt, IsBegun}
use Rattle.limzhur_c.specs.contracts.init.begin as h
use Rattle.limzhur_c.proofs.init.begin.Met.{met as begin_met}
use Rattle.checked_heap.proofs.checked.CheckedHeap.TheLaws.{the_row_laws}
use Rattle.limzhur_c.specs.contracts.init.words_at as g
use Rattle.limzhur_c.proofs.init.words_at.Met.{met as words_met}
use Rattle.limzhur_c.specs.contracts.init.limzhur_init_with as f
use Rattle.limzhur_c.proofs.init.limzhur_init_with.Statement.{statement}
use Rattle.limzhur_c.proofs.init.limzhur_init_with.Code as code

abbrev R : RattleType
R = R-type.the_row static_lft

abbrev nth_type : ℕ → List Local → Ty
nth_type n [] = ty_unit
nth_type zero (local τ kind ∷ ls) = τ
nth_type (suc n) (l ∷ ls) = nth_type n ls

-- the heap's type as the body writes it, with no lifetime
abbrev δ : Ty
δ = nth_type 6 code.Mir.locals

abbrev Words : RattleType
Words = MutSlice static [] u64

abbrev stayed : Stays f.ended.signature.params f.ended.kept
stayed = (stay_dropped _ yes, (stay_dropped _ yes, (stay_dropped _ yes, (stay_dropped _ yes, (stay_dropped _ yes, tt)))))

pub limzhur_init_with_spec : {M : Type 1} → statement M
limzhur_init_with_spec 𝓤 𝓛 𝓜 𝓡 wired =
    let c = f.clauses 𝓛 𝓜.mem 𝓡.returns in let W = walk_of 𝓛 f.ended stayed c in let 𝓣 = tables 𝓤 𝓛.H 𝓜 𝓡 𝓡.env in
    let goes = Goes-dropped 𝓛 0 (plain (λ _. RawPtr)) yes (λ κs x w. refl) in
    proved 𝓛 f.ended stayed c 𝓜 𝓡 (
      goes,
      (
        goes,
        (
          Goes-dropped 𝓛 0 (plain (λ _. usize)) yes (λ κs x w. refl),
          (
            Goes-dropped 𝓛 0 (plain (λ _. u64)) yes (λ κs x w. refl),
            (
              Goes-dropped 𝓛 0 (plain (λ _. u64)) yes
                  (λ κs x w. refl),
              tt,
            ),
          ),
        ),
      ),
    )
    f.Key.name code.function (code.unfolded 𝓤 𝓛.H 𝓜 𝓡 wired)
    (λ κs. (rawptr_vals, (rawptr_vals, (uint_vals w64, (uint_vals w64, (uint_vals w64, tt))))))
    (λ κs. (rawptr_Tells, (rawptr_Tells, (uint_Tells w64, (uint_Tells w64, (uint_Tells w64, tt))))))
    (λ κs qs bounds a ws are.
    let w : Ptr = a.1.0 in let n : ℕ = a.1.1.0 in let address : ℕ = a.1.1.1.0 in let granularity : ℕ = a.1.1.1.1.0 in
    let y : Ptr → W.Ghost = λ p. (
      (
        κs,
        qs,
        bounds,
        (p, (w, (n, (address, (granularity, tt))))),
        (rawptr_vals p, (rawptr_vals w, (uint_vals w64 n, (uint_vals w64 address, (uint_vals w64 granularity, tt))))),
      ),
      ws,
    )
    in
    let Few : Type 0 = n < 2 ^ 60 in let Clear : Type 0 = IsCleared ws in let Fit : Type 0 = FitsAt address n in
    let Grown : Type 0 =
    IsGranularity granularity in
    let Lies : Fml = lies_at (Array u64 n) full_share w ws in
    qed 𝓛 ((‵ ftrue ⊛ ‵ (owns (RawPtr ∷ RawPtr ∷ usize ∷ u64 ∷ u64 ∷ []) a (y a.0).0.4)) ∷ (‵ (room_at R a.0) ⊛ ‵ Lies ⊛ raw
    (fact 𝓤 Few) ⊛ raw (fact 𝓤 Clear) ⊛ raw (fact 𝓤 Fit) ⊛ raw
    (fact 𝓤 Grown)) ∷ []) ∵
    move ! (1 ∷ []) $ split ! $ move ! (1 ∷ []) $ split ! $ move ! (1 ∷ []) $ split ! $ heard ! Few
    (λ few. split ! $ heard ! Clear (λ clear. split ! $ heard ! Fit (λ fit.
    heard ! Grown (λ grown. move ! (1 ∷ 0 ∷ []) $ keep ! (0 ∷ 1 ∷ []) $
    in_a_block ! a.0 (λ p. room_at R p) (id⊢ 𝓤 _) (λ b o e.
    regoal ! (λ p. prop (WpFn 𝓤 𝓛.H 𝓣.C 𝓣.Λ code.function (rawptr_vals
    p ++ (rawptr_vals w ++ (uint_vals w64 n ++ (uint_vals w64 address ++ (uint_vals w64 granularity ++ [])))))
    (W.post (y p)))) e refl $
    use1 𝓛 (‵ (froom δ b o)) (reroom 𝓛 (lone R.mir) δ refl b o) $
    -- [the room; the words]
    enter ! _ _ _ _ _ $ alloc_all ! (λ l. pass_all ! refl (
      (tt, tt),
      (
        ((rawptr_Lawful 𝓛).typed w _ refl).0,
        (
          (tt, record { fits = are.1.1.0.1 }),
          (
            (tt, record { fits = are.1.1.1.0.1 }),
            ((tt, record { fits = are.1.1.1.1.0.1 }), tt),
          ),
        ),
      ),
    ) $
    -- words_at(memory, count)
    let G = triple_of 𝓛 g.signature (g.spec 𝓛 𝓜.mem 𝓡.returns) in
    let z : G.Ghost = ((tt, tt, tt, (w, (n, tt)), (rawptr_vals w, (uint_vals w64 n, tt))), ws) in
    move ! (1 ∷ []) $ use0 𝓛 (raw (fact 𝓤 Few)) (fact_i 𝓤 Few (emp 𝓤) few) $ move ! (1 ∷ 0 ∷ []) $ join ! $
    nothing ! $ owned ! usize _ (uint_Makes 𝓛 w64) n _ (refl, are.1.1.0.1) $ fjoin ! $
    feq_i ! (List Val) (rawptr_vals w) (rawptr_vals w) refl $ fjoin ! $ nothing ! $ join ! $ join ! $ use1 𝓛 (raw (G.pre z)) (id⊢ 𝓤 _) $
    calls_at ! (framed 𝓤 𝓛.H 𝓜 𝓣) G (words_met 𝓤 𝓛 𝓜 𝓡 (code.calls-limzhur_c::init::words_at 𝓡.env wired)) z
    (and_then ! (get ! refl) (and_then ! (get ! refl) (no_more !))) (λ v.
    use1 𝓛 (later (some (λ (r : MutBor (List ℕ)). (‵ ftrue ⊛ ‵ (Words.own_val r (v ∷ []))) ⊛
    some (λ (us : Unit {0} × (Unit {0} × Unit {0})). ‵ (lasts g.ended z.0.0 z.0.3 us) ⊛ raw (fact 𝓤 ((r.now ≡ ws) × (length r.now ≡ n))))))) (id⊢ 𝓤 _) $
    await ! tt $ pick ! (λ r. split ! $ split ! $ drop ! $ move ! (1 ∷ []) $ pick !
    (λ us. split ! $ drop ! $ heard ! ((r.now ≡ ws) × (length r.now ≡ n)) (λ lie.
    peeks ! Words (Is Words) (shows 𝓛 Words) r (v ∷ []) (λ is. lands_as ! refl refl ((mut_slice_Lawful 𝓛 static [] u64).typed r _ is).0 $
    -- begin(.., address, granularity)
    let N = triple_of 𝓛 h.signature (h.spec 𝓛 𝓜.mem 𝓡.returns) in
    let x : N.Ghost = ((tt, tt, tt, (r, (address, (granularity, tt))), (v ∷ [], (uint_vals w64 address, (uint_vals w64 granularity, tt)))), tt) in
    let Fit' : Type 0 = FitsAt address (length r.now) in
    nothing ! $ owned ! u64 _ (uint_Makes 𝓛 w64) granularity _ (refl, are.1.1.1.1.0.1) $ fjoin ! $
    owned ! u64 _ (uint_Makes 𝓛 w64) address _ (refl, are.1.1.1.0.1) $ fjoin ! $ move ! (1 ∷ 0 ∷ []) $ fjoin ! $ nothing ! $ join ! $
    use0 𝓛 (raw (fact 𝓤 Grown)) (fact_i 𝓤 Grown (emp 𝓤) grown) $
    use0 𝓛 (raw (fact 𝓤 (IsCleared r.now))) (fact_i 𝓤 (IsCleared r.now) (emp 𝓤) (subst IsCleared (sym lie.0) clear)) $ join ! $
    use0 𝓛 (raw (fact 𝓤 Fit')) (fact_i 𝓤 Fit' (emp 𝓤) (subst (FitsAt address) (sym lie.1) fit)) $
    join ! $ move ! (1 ∷ 0 ∷ []) $ join ! $ use1 𝓛 (raw (N.pre x)) (id⊢ 𝓤 _) $
    calls_at ! (framed 𝓤 𝓛.H 𝓜 𝓣) N (begin_met 𝓤 𝓛 𝓜 𝓡 (code.calls-limzhur_c::init::begin 𝓡.env wired)) x
    (and_then ! (get ! refl) (and_then ! (get ! refl) (and_then ! (get ! refl) (no_more !)))) (λ u.
    use1 𝓛 (later (some (λ (heap : CheckedHeap). (‵ ftrue ⊛ ‵ (R.own_val heap (u ∷ []))) ⊛
    some (λ (us : Unit {0} × (Unit {0} × (Unit {0} × Unit {0}))). ‵ (lasts h.ended x.0.0 x.0.3 us) ⊛ raw
    (fact 𝓤 (IsBegun r.now address granularity heap)))))) (id⊢ 𝓤 _) $
    await ! tt $ pick ! (λ heap. split ! $ split ! $ drop ! $ move ! (1 ∷ []) $ pick !
    (λ us'. split ! $ drop ! $ heard ! (IsBegun r.now address granularity heap) (λ begun.
    peeks ! R (Is R) (shows 𝓛 R) heap (u ∷ []) (λ is'. let typed = (((the_row_laws static_lft).lawful 𝓛).typed heap _ is').0 in lands_as ! refl refl typed $
    -- room.write(..)
    sets ! (of_opd ! (get ! refl)) refl (tt, tt) $ sets ! (of_opd ! (get ! refl)) refl typed $
    assigns ! (of_opd ! (get ! refl)) (through ! refl (stop !)) (init ! 1 refl typed) $
    sets ! (of_opd ! (unit_lit !)) refl (tt, tt) $ returns ! (look_at ! 0 refl) $ free_all ! refl $ move ! (1 ∷ 0 ∷ []) $ keep ! (0 ∷ 1 ∷ []) $
    use2 𝓛 (‵ (part_at R full_share heap b o)) (part_in_at 𝓛 R refl full_share heap b o δ refl u) $
    -- [the heap]
    let Made : CheckedHeap → SProp 𝓤 = λ k. sep 𝓤 (sem 𝓛 (lies_at R full_share (block_ptr b o) k)) (fact 𝓤 (IsBegun ws address granularity k)) in
    use0 𝓛 (raw (fact 𝓤 (IsBegun ws address granularity heap))) (fact_i 𝓤 (IsBegun ws address granularity heap) (emp 𝓤)
    (subst (λ (xs : List ℕ). IsBegun xs address granularity heap) lie.0 begun)) $ move ! (1 ∷ 0 ∷ []) $ join ! $
    use1 𝓛 (raw (ex 𝓤 Made)) (ex_i 𝓤 Made heap) $
    suffices ! _ (ends_at 𝓛 f.ended stayed c (y (block_ptr b o)) vunit tt (tt, (tt, (tt, (tt, (tt, tt))))) (tt, (tt, (tt, (tt, (tt, tt)))))) $
    feq_i ! _ (vunit ∷ []) _ refl $ nothing ! $ nothing ! $ fjoin ! $ nothing ! $ fjoin ! $ nothing ! $ fjoin ! $ nothing !
    $ fjoin ! $ nothing ! $ fjoin ! $ join ! $ nothing ! $ join ! $ join ! $ done !)))))))))))))))))
