-- `slice_mut` hands its table on to `interrupts_mut` and wraps the gates, or leaves the table as it is. The borrow
-- checker does not cover an `Option` of a part of a slice behind an `if`, so this proof walks the code by hand.
use mathlib.Core.Path.{◌≡◌, refl, sym, ap}
use Prim.Native.Nat.{ℕ}
use mathlib.Core.Bool.{Bool, true, false, not, true≢false}
use mathlib.Core.List.{List, [], ◌∷◌}
use lib.Dec.{T, lit<}
use lib.ListN.{length}
use mir.Syntax.{w16, named}
use mir.Val.{Val, of_list}
use base.Logic.{id⊢, emp}
use base.Fml.{ftrue, fres}
use contract.Monad.{fact, fact_i}
use contract.Running.{tables}
use types.Kit.{Item, ‵, raw, ◌⊛◌, some, later, at_ret, ◌$◌, ◌∵◌, !, qed, done, move, keep, drop, use0, use1}
use types.Kit.{split, split3, join, fsplit3, fjoin, feq_l, pick, await, rewrite, suffices, frame}
use types.Run.{enter, addr, lit, un, stop, no_more, and_then, first, branches, skips, exec, returns, returns_within}
use types.ByLocal.{alloc_all, pass_all, free_all, look_at, get, through, sets, lands_as, env}
use types.Match.{live}
use types.Part.{agg}
use denote.Array.{Array}
use denote.Builtin.{u16, bool}
use denote.Exit.{yes, no}
use denote.Follow.{follows, follows_by}
use denote.Laws.{shows}
use denote.Plain.{uint_Makes, uint_vals, uint_Tells}
use denote.RattleType.{RattleType, owns}
use denote.Ref.{MutBor, MutRef, mut_vals, mut_Tells}
use denote.Signature.{plain}
use denote.Slice.{MutSlice, slice_val}
use denote.Steps.{nothing, owned, peeks, heard, only}
use denote.Triple.Call.{calls_at}
use denote.Triple.Clauses.{Lasts, lasts}
use denote.Triple.Entry.{on_entry, alive}
use denote.Triple.Spec.{triple_of}
use denote.Triple.Table.{framed}
use denote.Triple.Walked.{Stays, walk_of, stay_dropped, Goes-dropped, Goes-spent_ref, ends_at}
use Rattle.std.specs.Prelude.{◌↔◌, IsTrue, IsSome, IfSome, Some, None}
use Rattle.std.specs.contracts.option.Option as option
use Rattle.std.proofs.VecSteps.Element.{Some-of, none_of}
use Rattle.std.proofs.raw_atomic.Walks.{proved}
use Rattle.x86_tables.specs.InterruptDescriptorTable.{gate_row, has_slice, slice_of, with_slice}
use Rattle.x86_tables.specs.contracts.idt.interrupt_descriptor_table.InterruptDescriptorTable.{the_row}
use Rattle.x86_tables.specs.contracts.idt.interrupt_descriptor_table.InterruptDescriptorTable.slice_mut
use Rattle.x86_tables.specs.contracts.idt.interrupt_descriptor_table.InterruptDescriptorTable.interrupts_mut as lend
use Rattle.x86_tables.specs.contracts.idt.interrupt_descriptor_table.is_slice as test
use Rattle.x86_tables.proofs.idt.interrupt_descriptor_table.InterruptDescriptorTable.interrupts_mut.Met as lends
use Rattle.x86_tables.proofs.idt.interrupt_descriptor_table.is_slice.Met as tests
use Rattle.x86_tables.proofs.idt.interrupt_descriptor_table.InterruptDescriptorTable.slice_mut.Statement.{statement}
use Rattle.x86_tables.proofs.idt.interrupt_descriptor_table.InterruptDescriptorTable.slice_mut.Code as code

abbrev stayed : Stays slice_mut.ended.signature.params slice_mut.ended.kept
stayed = (stay_dropped _ no, (stay_dropped _ yes, (stay_dropped _ yes, tt)))

-- what a reference to gates refers to
abbrev Gates : Type 0
Gates = MutBor (List gate_row.Denot)

is_true : (b : Bool) → T (not (not b)) → IsTrue b
is_true true t = refl
is_true false t = absurd t

not_true : (b : Bool) → T (not b) → IsTrue b → ⊥
not_true true t e = t
not_true false t e = true≢false (sym e)

pub slice_mut_spec : {M : Type 1} → statement M
unfolding follows_by
slice_mut_spec 𝓤 𝓛 𝓜 𝓡 wired =
    let c = slice_mut.clauses 𝓛 𝓜.mem 𝓡.returns in
    let W = walk_of 𝓛 slice_mut.ended stayed c in
    let Test = triple_of 𝓛 test.signature (test.spec 𝓛 𝓜.mem 𝓡.returns) in
    let Lend = triple_of 𝓛 lend.signature (lend.spec 𝓛 𝓜.mem 𝓡.returns) in
    let 𝓣 = tables 𝓤 𝓛.H 𝓜 𝓡 𝓡.env in
    let word = Goes-dropped 𝓛 1 (plain (λ _. u16)) yes (λ κs x w. refl) in
    proved 𝓛 slice_mut.ended stayed c 𝓜 𝓡 (Goes-spent_ref 𝓛 1 (0 ∷ []) tt (plain (λ _. the_row)), (word, (word, tt)))
    slice_mut.Key.name code.function (code.unfolded 𝓤 𝓛.H 𝓜 𝓡 wired)
    (λ κs. (mut_vals, (uint_vals w16, (uint_vals w16, tt))))
    (λ κs. (mut_Tells (named 0) κs.0 the_row, (uint_Tells w16, (uint_Tells w16, tt))))
    (λ κs qs bounds a _ are.
    let self = a.0 in let lower = a.1.0 in let upper = a.1.1.0 in
    let numbers : ℕ × (ℕ × Unit {0}) = (lower, (upper, tt)) in
    let words : List Val × (List Val × Unit {0}) = (uint_vals w16 lower, (uint_vals w16 upper, tt)) in
    let y : W.Ghost = ((κs, qs, bounds, a, (mut_vals self, words)), tt) in
    let x : Lend.Ghost = y in
    let z : Test.Ghost = ((tt, tt, tt, numbers, words), tt) in
    let Table : RattleType = MutRef (named 0) κs.0 the_row in
    let Slice : RattleType = MutSlice (named 0) κs.0 gate_row in
    let tokens : Item 𝓤 = raw (alive 𝓛 slice_mut.signature κs qs) in
    qed 𝓛 (raw (on_entry 𝓛 slice_mut.signature κs qs a y.0.4) ∷ ‵ ftrue ∷ []) ∵
    enter ! _ _ _ _ _ $ alloc_all ! (λ l.
    pass_all ! refl ((tt, tt), ((tt, record { fits = are.1.0.1 }), ((tt, record { fits = are.1.1.0.1 }), tt))) $
    -- is_slice(lower, upper)
    nothing ! $ owned ! u16 _ (uint_Makes 𝓛 w16) upper _ (refl, are.1.1.0.1) $ fjoin ! $
    owned ! u16 _ (uint_Makes 𝓛 w16) lower _ (refl, are.1.0.1) $ fjoin ! $ nothing ! $ join ! $
    nothing ! $ move ! (1 ∷ 0 ∷ []) $ join ! $ use1 𝓛 (raw (Test.pre z)) (id⊢ 𝓤 _) $
    calls_at ! (framed 𝓤 𝓛.H 𝓜 𝓣) Test
    (tests.met 𝓤 𝓛 𝓜 𝓡 (code.calls-x86_tables::idt::interrupt_descriptor_table::is_slice 𝓡.env wired)) z
    (and_then ! (get ! refl) (and_then ! (get ! refl) (no_more !))) (λ v.
    use1 𝓛 (later (some (λ (answer : Bool). (‵ ftrue ⊛ ‵ (bool.own_val answer (v ∷ []))) ⊛
    some (λ (last : Lasts test.ended tt numbers). ‵ (lasts test.ended tt numbers last)
    ⊛ raw (fact 𝓤 (IsTrue answer ↔ has_slice lower upper)))))) (id⊢ 𝓤 _) $
    await ! tt $ pick ! (λ answer. split ! $ split ! $ drop ! $ feq_l ! (λ is_answer. pick ! (λ _. split ! $ drop ! $
    heard ! _ (λ tells. lands_as ! (ap only is_answer) refl (tt, tt) $
    sets ! (un ! (get ! refl) tt) refl (tt, tt) $
    first ! $ branches ! (get ! refl)
    -- None, and the table is what it was
    (λ fails. sets ! (agg ! (and_then ! (lit ! tt) (no_more !))) refl (tt, (record { fits = lit< tt }, tt)) $
    let nothing_lent = live 0 (of_list []) in
    returns_within ! (W.post y) refl (look_at ! 0 refl) $ free_all ! refl $
    use1 𝓛 (tokens ⊛ ‵ (Table.own_val self (mut_vals self)) ⊛ ‵ (owns (u16 ∷ u16 ∷ []) numbers words)) (id⊢ 𝓤 _) $
    split3 ! $ move ! (1 ∷ []) $ fsplit3 ! $ keep ! (1 ∷ 3 ∷ []) $
    use1 𝓛 (‵ (fres self.ghost_name (the_row.coded.code self.now)))
    (𝓛.names.obs-res self.ghost_name (the_row.coded.code self.now)) $
    use0 𝓛 (‵ ((option.the_row Slice).own_val None (nothing_lent ∷ []))) (none_of 𝓛 Slice) $
    suffices ! _ (ends_at 𝓛 slice_mut.ended stayed c y nothing_lent None (tt, (tt, (tt, tt))) (tt, (tt, (tt, tt)))) $
    nothing ! $ nothing ! $ fjoin ! $ nothing ! $ fjoin ! $ nothing ! $ fjoin ! $ join ! $
    move ! (2 ∷ 0 ∷ []) $ join ! $ frame ! $
    use0 𝓛 (raw (fact 𝓤 (IfSome None (λ (s : Gates). s.now ≡ slice_of self.now lower upper)))) (fact_i 𝓤 _ (emp 𝓤) tt) $
    use0 𝓛 (raw (fact 𝓤 (IsSome {T = Gates} None ↔ has_slice lower upper)))
    (fact_i 𝓤 _ (emp 𝓤) ((λ e. absurd (true≢false (sym e))), λ h. absurd (not_true answer fails (tells.1 h)))) $
    join ! $ move ! (1 ∷ 0 ∷ []) $ join ! $ done !)
    -- the gates that `interrupts_mut` lends, wrapped
    (λ holds. skips ! $ exec ! 𝓣.C 𝓣.Λ (env code.Mir.locals l) code.Mir.t-4 (at_ret _ (W.post y)) $
    let within : has_slice lower upper = tells.0 (is_true answer holds) in
    sets ! (addr ! (through ! refl (stop !))) refl (tt, tt) $
    use0 𝓛 (raw (fact 𝓤 (has_slice lower upper))) (fact_i 𝓤 _ (emp 𝓤) within) $ move ! (1 ∷ 0 ∷ []) $ join ! $
    use1 𝓛 (raw (Lend.pre x)) (id⊢ 𝓤 _) $
    calls_at ! (framed 𝓤 𝓛.H 𝓜 𝓣) Lend (lends.met 𝓤 𝓛 𝓜 𝓡
    (code.calls-x86_tables::idt::interrupt_descriptor_table::InterruptDescriptorTable::interrupts_mut 𝓡.env wired)) x
    (and_then ! (get ! refl) (and_then ! (get ! refl) (and_then ! (get ! refl) (no_more !)))) (λ v.
    use1 𝓛 (later (some (λ (lent : Gates). (tokens ⊛ ‵ (Slice.own_val lent (v ∷ []))) ⊛
    some (λ (last : Lasts lend.ended κs a). ‵ (lasts lend.ended κs a last)
    ⊛ ‵ (follows the_row (Array gate_row 0) self.ghost_name lent.ghost_name (with_slice self.now lower upper))
    ⊛ raw (fact 𝓤 (lent.now ≡ slice_of self.now lower upper)))))) (id⊢ 𝓤 _) $
    await ! tt $ pick ! (λ lent. split ! $ split ! $
    move ! (1 ∷ []) $ peeks ! Slice _ (shows 𝓛 Slice) lent (v ∷ []) (λ is.
    let at : Val = slice_val lent.ref_ptr (length lent.now) in
    let gates : Val = live 1 (of_list (at ∷ [])) in
    lands_as ! (ap only is.0.0) refl (tt, (tt, (record { fits = is.0.1.0 }, tt))) $
    sets ! (agg ! (and_then ! (lit ! tt) (and_then ! (get ! refl) (no_more !)))) refl
    (tt, (record { fits = lit< tt }, ((tt, (record { fits = is.0.1.0 }, tt)), tt))) $
    returns ! (look_at ! 0 refl) $ free_all ! refl $
    rewrite ! 0 (λ (vs : List Val). ‵ (Slice.own_val lent vs)) is.0.0 refl $
    use1 𝓛 (‵ ((option.the_row Slice).own_val (Some lent) (gates ∷ []))) (Some-of 𝓛 Slice lent at) $
    move ! (2 ∷ []) $ pick ! (λ _. split3 ! $ drop ! $ move ! (1 ∷ []) $ heard ! _ (λ shown. keep ! (0 ∷ 1 ∷ 2 ∷ []) $
    suffices ! _ (ends_at 𝓛 slice_mut.ended stayed c y gates (Some lent) (tt, (tt, (tt, tt))) (tt, (tt, (tt, tt)))) $
    nothing ! $ nothing ! $ fjoin ! $ nothing ! $ fjoin ! $ nothing ! $ fjoin ! $ move ! (0 ∷ 2 ∷ []) $ join ! $
    move ! (2 ∷ 0 ∷ []) $ join ! $ frame ! $
    use0 𝓛 (raw (fact 𝓤 (IfSome (Some lent) (λ s. s.now ≡ slice_of self.now lower upper)))) (fact_i 𝓤 _ (emp 𝓤) shown) $
    use0 𝓛 (raw (fact 𝓤 (IsSome (Some lent) ↔ has_slice lower upper)))
    (fact_i 𝓤 _ (emp 𝓤) ((λ _. within), λ _. refl)) $
    join ! $ move ! (1 ∷ 0 ∷ []) $ join ! $ done !)))))))))))))
