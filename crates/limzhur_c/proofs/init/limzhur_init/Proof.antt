-- `limzhur_init` calls `limzhur_init_with`: a walk of its MIR by hand.
use Rattle.std.proofs.Common.{ℕ, ◌^◌, ◌<◌, List, [], ◌∷◌, refl, ap, arith, w64, lit<}
use Rattle.std.proofs.raw_atomic.Walks.{proved}
use seplogic.Ra.Ura.{Ura}
use base.Fraction.{full_share}
use base.Logic.{SProp, sep, emp, ex, id⊢, via, guard_i}
use base.Fml.{Fml, ftrue}
use mir.Syntax.{Width, int_big}
use mir.Val.{Val, vint, vunit, Fits}
use prog.Wp.{Env}
use contract.Monad.{fact, fact_i}
use contract.Running.{tables}
use types.Kit.{Item, ‵, raw, ◌⊛◌, some, later, ◌$◌, ◌∵◌, !, qed, move, keep, drop, use0, use1, split, join, pick, fjoin, feq_i, feq_l, suffices, await, done}
use types.Run.{Opd, of_opd, unit_lit, and_then, no_more, returns, enter}
use types.ByLocal.{alloc_all, pass_all, free_all, look_at, get, sets, lands_as}
use types.Logic.{Logic, sem}
use denote.Array.{Array}
use denote.Builtin.{u64, usize, unit}
use denote.Exit.{yes}
use denote.Plain.{uint_vals, uint_Tells, uint_Makes}
use denote.RattleType.{RattleType, owns}
use denote.RawPtr.{Ptr, RawPtr, lies_at, room_at, rawptr_vals, rawptr_Tells, rawptr_Lawful}
use denote.Signature.{plain, static_lft}
use denote.Steps.{nothing, only, heard, owned}
use denote.Triple.Call.{calls_at}
use denote.Triple.Clauses.{Lasts, lasts}
use denote.Triple.Spec.{triple_of}
use denote.Triple.Table.{framed}
use denote.Triple.Walked.{Stays, walk_of, stay_dropped, Goes-dropped, ends_at}
use Rattle.dlmalloc.specs.Heap.{IsGranularity}
use Rattle.checked_heap.specs.declared.checked.CheckedHeap.{CheckedHeap}
use Rattle.checked_heap.specs.contracts.checked.CheckedHeap as R-type
use Rattle.checked_heap.specs.Checked.{IsCleared}
use Rattle.checked_heap.specs.Begun.{FitsAt, IsBegun}
use Rattle.limzhur_c.specs.contracts.init.limzhur_init_with as g
use Rattle.limzhur_c.proofs.init.limzhur_init_with.Met.{met as with_met}
use Rattle.limzhur_c.specs.contracts.init.limzhur_init as f
use Rattle.limzhur_c.proofs.init.limzhur_init.Statement.{statement}
use Rattle.limzhur_c.proofs.init.limzhur_init.Code as code

-- a constant of five digits, as an operand
module _ {M : Type 1} {𝓤 : Ura M} {𝓛 : Logic 𝓤} {K : Type 0} {Γ : List (Item 𝓤)} {E : Env 𝓤 (𝓛.H)} where
  big_lit : K → {w : Width} {n : ℕ} → Fits w n → Opd K 𝓛 Γ E (int_big w n) (vint w n)
  big_lit t {w} {n} z = record { go = λ Kt h. via 𝓤 (Kt (vint w n)) h (guard_i 𝓤 (Fits w n) (Kt (vint w n)) z) }

abbrev R : RattleType
R = R-type.the_row static_lft

abbrev stayed : Stays f.ended.signature.params f.ended.kept
stayed = (stay_dropped _ yes, (stay_dropped _ yes, (stay_dropped _ yes, (stay_dropped _ yes, tt))))

pub limzhur_init_spec : {M : Type 1} → statement M
limzhur_init_spec 𝓤 𝓛 𝓜 𝓡 wired =
    let c = f.clauses 𝓛 𝓜.mem 𝓡.returns in let W = walk_of 𝓛 f.ended stayed c in let 𝓣 = tables 𝓤 𝓛.H 𝓜 𝓡 𝓡.env in
    let goes = Goes-dropped 𝓛 0 (plain (λ _. RawPtr)) yes (λ κs x w. refl) in
    proved 𝓛 f.ended stayed c 𝓜 𝓡 (
      goes,
      (
        goes,
        (
          Goes-dropped 𝓛 0 (plain (λ _. usize)) yes (λ κs x w. refl),
          (Goes-dropped 𝓛 0 (plain (λ _. u64)) yes (λ κs x w. refl), tt),
        ),
      ),
    )
    f.Key.name code.function (code.unfolded 𝓤 𝓛.H 𝓜 𝓡 wired)
    (λ κs. (rawptr_vals, (rawptr_vals, (uint_vals w64, (uint_vals w64, tt)))))
    (λ κs. (rawptr_Tells, (rawptr_Tells, (uint_Tells w64, (uint_Tells w64, tt))))) (λ κs qs bounds a ws are.
    let p : Ptr = a.0 in let w : Ptr = a.1.0 in let n : ℕ = a.1.1.0 in let address : ℕ = a.1.1.1.0 in
    let y : W.Ghost = ((κs, qs, bounds, (p, (w, (n, (address, tt)))), (rawptr_vals p, (rawptr_vals w, (uint_vals w64 n, (uint_vals w64 address, tt))))), ws) in
    let Few : Type 0 = n < 2 ^ 60 in let Clear : Type 0 = IsCleared ws in let Fit : Type 0 = FitsAt address n in
    let Grown : Type 0 =
    IsGranularity 65536 in
    let Lies : Fml = lies_at (Array u64 n) full_share w ws in
    qed 𝓛 ((‵ ftrue ⊛ ‵ (owns (RawPtr ∷ RawPtr ∷ usize ∷ u64 ∷ []) a y.0.4)) ∷ (‵ (room_at R p) ⊛ ‵ Lies ⊛ raw (fact 𝓤 Few)
    ⊛ raw (fact 𝓤 Clear) ⊛ raw (fact 𝓤 Fit)) ∷ []) ∵
    move ! (1 ∷ []) $ split ! $ move ! (1 ∷ []) $ split ! $ move ! (1 ∷ []) $ split ! $ heard ! Few
    (λ few. split ! $ heard ! Clear (λ clear. heard ! Fit (λ fit. move ! (1 ∷ 0 ∷ []) $ keep ! (0 ∷ 1 ∷ []) $
    -- [the room; the words]
    enter ! _ _ _ _ _ $ alloc_all ! (λ l. pass_all ! refl (
      ((rawptr_Lawful 𝓛).typed p _ refl).0,
      (
        ((rawptr_Lawful 𝓛).typed w _ refl).0,
        (
          (tt, record { fits = are.1.1.0.1 }),
          ((tt, record { fits = are.1.1.1.0.1 }), tt),
        ),
      ),
    ) $
    -- limzhur_init_with(.., 65536)
    let G = triple_of 𝓛 g.signature (g.spec 𝓛 𝓜.mem 𝓡.returns) in
    let z : G.Ghost = (
      (
        tt,
        tt,
        tt,
        (p, (w, (n, (address, (65536, tt))))),
        (rawptr_vals p, (rawptr_vals w, (uint_vals w64 n, (uint_vals w64 address, (uint_vals w64 65536, tt))))),
      ),
      ws,
    ) in
    let Made : CheckedHeap → SProp 𝓤 = λ k. sep 𝓤 (sem 𝓛 (lies_at R full_share p k)) (fact 𝓤 (IsBegun ws address 65536 k)) in
    use0 𝓛 (raw (fact 𝓤 Grown)) (fact_i 𝓤 Grown (emp 𝓤) ((16, refl), omega arith)) $ use0 𝓛 (raw (fact 𝓤 Fit))
    (fact_i 𝓤 Fit (emp 𝓤) fit) $ join ! $ use0 𝓛 (raw (fact 𝓤 Clear))
    (fact_i 𝓤 Clear (emp 𝓤) clear) $ join ! $ use0 𝓛 (raw (fact 𝓤 Few)) (fact_i 𝓤 Few (emp 𝓤) few) $ join ! $
    move ! (2 ∷ 0 ∷ []) $ join ! $ move ! (1 ∷ 0 ∷ []) $ join ! $
    nothing ! $ owned ! u64 _ (uint_Makes 𝓛 w64) 65536 _ (refl, lit< tt) $ fjoin ! $ owned ! u64 _ (uint_Makes 𝓛 w64)
    address _ (refl, are.1.1.1.0.1) $ fjoin ! $
    owned ! usize _ (uint_Makes 𝓛 w64) n _ (refl, are.1.1.0.1) $ fjoin ! $ feq_i ! (List Val) (rawptr_vals w)
    (rawptr_vals w) refl $ fjoin ! $ feq_i ! (List Val) (rawptr_vals p) (rawptr_vals p) refl $ fjoin ! $
    nothing ! $ join ! $ join ! $ use1 𝓛 (raw (G.pre z)) (id⊢ 𝓤 _) $
    calls_at ! (framed 𝓤 𝓛.H 𝓜 𝓣) G (with_met 𝓤 𝓛 𝓜 𝓡 (code.calls-limzhur_c::init::limzhur_init_with 𝓡.env wired)) z
    (and_then ! (get ! refl) (and_then ! (get ! refl) (and_then ! (get ! refl)
    (and_then ! (get ! refl) (and_then ! (big_lit ! (record { fits = lit< tt })) (no_more !)))))) (λ v.
    use1 𝓛 (later (some (λ (r : Unit {0}). (‵ ftrue ⊛ ‵ (unit.own_val r (v ∷ []))) ⊛ some
    (λ (ls : Lasts g.ended z.0.0 z.0.3). ‵ (lasts g.ended z.0.0 z.0.3 ls) ⊛ raw (ex 𝓤 Made))))) (id⊢ 𝓤 _) $
    await ! tt $ pick ! (λ r. split ! $ split ! $ drop ! $ feq_l ! (λ is. pick ! (λ ls. split ! $ drop ! $ lands_as ! (ap only is) refl (tt, tt) $
    -- [the heap]
    sets ! (of_opd ! (unit_lit !)) refl (tt, tt) $ returns ! (look_at ! 0 refl) $ free_all ! refl $ keep ! (0 ∷ []) $
    suffices ! _ (ends_at 𝓛 f.ended stayed c y vunit tt (tt, (tt, (tt, (tt, tt)))) (tt, (tt, (tt, (tt, tt))))) $
    feq_i ! _ (vunit ∷ []) _ refl $ nothing ! $ nothing ! $ fjoin ! $ nothing ! $ fjoin ! $ nothing ! $ fjoin ! $ nothing !
    $ fjoin ! $ join ! $ nothing ! $ join ! $ join ! $ done !)))))))))
