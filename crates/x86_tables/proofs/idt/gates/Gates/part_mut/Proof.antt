-- `part_mut` lends a part of the array as a slice. The borrow checker does not cover a part of a `[T; N]` that
-- goes to the caller, so this proof walks the code by hand.
use mathlib.Core.Path.{◌≡◌, refl, sym, ap, subst, ◌∙◌}
use Prim.Native.Nat.{ℕ, ◌+◌, ◌-◌, ◌*◌, ◌^◌, ◌<◌, ◌≤◌}
use native.Mathlib.Nat.{mul-le-mul_right}
use native.Mathlib.Omega.{arith}
use mathlib.Core.List.{List, [], ◌∷◌, ◌++◌}
use seplogic.Ra.Ura.{Ura}
use mir.Syntax.{Fn, named, w64}
use mir.MapTy.{inst_fn}
use mir.Val.{Val, vptr, vint}
use base.Logic.{SProp, ent, sep, ex}
use base.Fml.{Fml, Lft, GName, Share, ftrue, flft}
use prog.Memory.{Memory, size}
use prog.Routine.{Routine}
use prog.Wp.{Calls, Loops, WpFn, Tables}
use types.Logic.{Logic, sem}
use types.Mut.{open_ref}
use contract.BorrowLft.{◌⊑◌}
use contract.Lifetimes.{AllOutlive}
use contract.Monad.{Fun}
use contract.Running.{tables, tables_of}
use sound.WpLaws.{WpFn-mono}
use types.Kit.{Item, ‵, ◌⊛◌, raw, given, some, later, ◌$◌, ◌∵◌, !, qed, by, move, keep, drop, split, split3, join, learn, fsplit, fsplit3, fjoin, use1, use2, await, pick, suffices, frame, done, updating, group, now, show, rewrite}
use denote.Array.{Array}
use denote.Builtin.{RefMutOf, usize}
use denote.Exit.{yes, no}
use denote.Follow.{follows}
use denote.Memory.{mem}
use denote.Param.{number, layout}
use denote.Param.Laws.{Laws}
use denote.Plain.{uint_vals, uint_Tells}
use denote.RattleType.{RattleType, owns}
use denote.Ref.{MutBor, MutRef, mut_vals, mut_Tells}
use denote.Signature.{plain}
use denote.Steps.{nothing}
use denote.Triple.Clauses.{Clauses, Ended, closing}
use denote.Triple.Entry.{on_entry}
use denote.Triple.Spec.{Meets, triple_of}
use denote.Triple.Table.{entered}
use denote.Triple.Walked.{says, Stays, stay_dropped, walk_of, ends_at, walked, Goes-dropped, Goes-spent_ref, walk_Meets}
use lib.ListN.{length, take, drop as drop_list, take-append-drop, length-drop}
use types.SemTy.{cells}
use types.Part.{agg}
use types.Run.{stop, fld, addr, bin, size_word, and_then, no_more, returns, enter}
use types.ByLocal.{alloc_all, pass_all, free_all, look_at, get, through, sets, is}
use denote.FollowSlice.{lends_Elements}
use denote.Slice.{MutSlice, Room, slice_val}
use borrow.Table.Elements.{at, at_mul, cut_app, join_app, length-take-le}
use Rattle.x86_tables.specs.Gates.{with_part}
use Rattle.x86_tables.proofs.GateLists.{with_part-is, length-with_part}
use Rattle.x86_tables.proofs.GatesMemory.{args, R, S, start, Left, elements_out, elements_in, uncapped}
use Rattle.x86_tables.specs.contracts.idt.gates.Gates.part_mut as F
use Rattle.x86_tables.specs.contracts.idt.gates.Gates.part_mut.Key.{name as #self}
use Rattle.x86_tables.proofs.idt.gates.Gates.part_mut.Statement as stated
use Rattle.x86_tables.proofs.idt.gates.Gates.part_mut.Code as code

module _ (X : RattleType) (n : ℕ) where
  abbrev function : Fn
  function = inst_fn (args X n) code.function

  abbrev ended : Ended
  ended = F.ended X (number n)

  abbrev stayed : Stays ended.signature.params ended.kept
  stayed = (
    stay_dropped (RefMutOf (0 ∷ []) tt (plain (λ _. S X n)) (λ _. tt)) no,
    (stay_dropped (plain (λ _. usize)) yes, (stay_dropped (plain (λ _. usize)) yes, tt)),
  )

module _ (X : RattleType) (n : ℕ) (L : Laws X) {M : Type 1} {𝓤 : Ura M} (𝓛 : Logic 𝓤) where
  open 𝓛 use {H, A}

  module _ (κ : Lft) (q : Share) (b o : ℕ) (γ : GName) (d : (S X n).Denot) (from to : ℕ) where
    abbrev p : ℕ
    p = start X n o

    abbrev s : ℕ
    s = size (layout X)

    -- where the part lies
    abbrev spot : ℕ
    spot = from * s + p

    abbrev front : List X.Denot
    front = take from d.gates

    abbrev part : List X.Denot
    part = take (to - from) (drop_list from d.gates)

    abbrev back : List X.Denot
    back = drop_list (to - from) (drop_list from d.gates)

    abbrev after : List X.Denot → (S X n).Denot
    after ws = record { gates = with_part d.gates from to ws }

    abbrev elements : List X.Denot → ℕ → Fml
    elements ws = cells (mem (R X n)) ws b

    -- where the gates after the part lie
    abbrev past : ℕ → ℕ
    past = at spot s

    abbrev Rest : SProp 𝓤
    Rest = sep 𝓤 (sem 𝓛 (elements front p)) (sep 𝓤 (sem 𝓛 (elements back (past (length part)))) (Left X n 𝓛 b o))

    on : from ≤ length d.gates → at p s (length front) ≡ spot
    on le = at_mul p s (length front) ∙ ap (λ (k : ℕ). k * s + p) (length-take-le from d.gates le)

    count : from ≤ to → to ≤ length d.gates → length part ≡ to - from
    count order within =
        let rest = length-drop from d.gates in length-take-le (to - from) (drop_list from d.gates) (omega arith)

    put : from ≤ to → to ≤ n → length d.gates ≡ n → (ws : List X.Denot) → length ws ≡ length part
        → ent 𝓤 (sep 𝓤 (sem 𝓛 (elements ws spot)) Rest) (sem 𝓛 ((mem (S X n)).own_at (after ws) b o))
    put order within long ws e =
        let fits : to ≤ length d.gates = omega arith in
        let many : length ws ≡ to - from = e ∙ count order fits in
        qed 𝓛 (‵ (elements ws spot) ∷ ‵ (elements front p) ∷ ‵ (elements back (past (length part))) ∷ raw (Left X n 𝓛 b o) ∷ []) ∵
        rewrite ! 2 (λ (k : ℕ). ‵ (elements back (past k))) (sym e) refl $ move ! (0 ∷ 2 ∷ []) $
        use2 𝓛 (‵ (elements (ws ++ back) spot)) (join_app 𝓛 (mem (R X n)) ws back b spot) $
        rewrite ! 0 (λ (k : ℕ). ‵ (elements (ws ++ back) k)) (sym (on (omega arith))) refl $ move ! (1 ∷ 0 ∷ []) $
        use2 𝓛 (‵ (elements (front ++ (ws ++ back)) p)) (join_app 𝓛 (mem (R X n)) front (ws ++ back) b p) $
        rewrite ! 0 (λ (l : List X.Denot). ‵ (elements l p)) (with_part-is d.gates ws from to order fits many) refl $
        by ! (elements_in X n 𝓛 b o (after ws) (length-with_part d.gates ws from to order fits many ∙ long))

    abbrev Lent : ℕ → GName → SProp 𝓤
    Lent k δ = sep 𝓤 (sem 𝓛 ((MutSlice (named 0) κ (R X n)).own_val (record {
      ref_ptr = (b, spot);
      ghost_name = δ;
      now =
          part;
    }) (slice_val (b, spot) k ∷ []))) (sep 𝓤 (A.lft κ q) (sem 𝓛 (follows (S X n) (Array (R X n) 0) γ δ after)))

    abbrev lent : ℕ → GName → Item 𝓤
    lent k δ = ‵ ((MutSlice (named 0) κ (R X n)).own_val (record { ref_ptr = (b, spot); ghost_name = δ; now = part })
        (slice_val (b, spot) k ∷ [])) ⊛ ‵ (flft κ q) ⊛ ‵ (follows (S X n) (Array (R X n) 0) γ δ after)

    lends : from ≤ to → to ≤ n → to < 2 ^ 64 → n * size (layout X) < 2 ^ 63 → (vs : List Val)
        → ent 𝓤 (sep 𝓤 (sem 𝓛 ((MutRef (named 0) κ (S X n)).own_val (record { ref_ptr = (b, o); ghost_name = γ; now = d })
        vs)) (A.lft κ q)) (H.⇛ (ex 𝓤 (Lent (to - from))))
    lends order within fits small vs =
        qed 𝓛 (‵ ((MutRef (named 0) κ (S X n)).own_val (record { ref_ptr = (b, o); ghost_name = γ; now = d }) vs) ∷ ‵ (flft κ q) ∷ []) ∵
        updating ! $ fsplit3 ! $ drop ! $ open_ref ! tt (mem (S X n)) {b = b} {o = o} $
        use1 𝓛 (given (length d.gates ≡ n) (‵ (elements d.gates p) ⊛ raw (Left X n 𝓛 b o))) (elements_out X n 𝓛 b o L d) $
        learn ! (λ long. split ! $
        let many : length part ≡ to - from = count order (omega arith) in
        let bytes : length part * size (layout X) ≤ n * size (layout X) = mul-le-mul_right (size (layout X)) (omega arith) in
        let room : Room (R X n) (length part) = (omega arith, omega arith) in
        rewrite ! 0 (λ (l : List X.Denot). ‵ (elements l p)) (sym (take-append-drop from d.gates)) refl $
        use1 𝓛 (‵ (elements front p) ⊛ ‵ (elements (drop_list from d.gates) (at p s (length front))))
        (cut_app 𝓛 (mem (R X n)) front (drop_list from d.gates) b p) $
        split ! $ rewrite ! 1 (λ (k : ℕ). ‵ (elements (drop_list from d.gates) k)) (on (omega arith)) refl $ move ! (1 ∷ []) $
        rewrite ! 0 (λ (l : List X.Denot). ‵ (elements l spot)) (sym (take-append-drop (to - from) (drop_list from d.gates))) refl $
        use1 𝓛 (‵ (elements part spot) ⊛ ‵ (elements back (past (length part)))) (cut_app 𝓛 (mem (R X n)) part back b spot) $
        split ! $ move ! (1 ∷ 3 ∷ []) $ join ! $ move ! (2 ∷ 0 ∷ []) $ join ! $ move ! (2 ∷ 3 ∷ 4 ∷ 1 ∷ 0 ∷ []) $ group ! 5 $
        use1 𝓛 (later (some (lent (length part))))
        (lends_Elements 𝓛 (S X n) (R X n) after (named 0) κ q b o b spot γ part room Rest (put order within long)
        ((S X n).coded.code d) ((S X n).coded.code d)) $
        await ! tt $ pick ! (λ δ. rewrite ! 0 (λ (k : ℕ). lent k δ) many refl $ now ! $ show ! (Lent (to - from)) δ $ done !))

  module _ (at_mem : Memory → SProp 𝓤) (run : Routine → Fun 𝓤) where
    abbrev clauses : Clauses 𝓤 (ended X n)
    clauses = F.clauses X (number n) 𝓛 at_mem run

    module _ (C : Calls 𝓤 H) (Λ : Loops 𝓤 H) (κ κT κN : Lft) (q qT qN : Share)
        (bd : AllOutlive 3 (ended X n).signature.outlives (κ, (κT, (κN, tt)))) (b o : ℕ) (γ : GName)
        (d : (S X n).Denot) (from to : ℕ) where
      abbrev self : MutBor (S X n).Denot
      self = record { ref_ptr = (b, o); ghost_name = γ; now = d }

      abbrev bound : (walk_of 𝓛 (ended X n) (stayed X n) clauses).Ghost
      bound = (((κ, (κT, (κN, tt))), (q, (qT, (qN, tt))), bd, (self, (from, (to, tt))), (mut_vals self, (vint w64 from ∷ [], (vint w64 to ∷ [], tt)))), tt)

      walk : from ≤ to → to ≤ n → from < 2 ^ 64 → to < 2 ^ 64 → n * size (layout X) < 2 ^ 63
          → ent 𝓤 (on_entry 𝓛 (ended X n).signature (κ, (κT, (κN, tt))) (q, (qT, (qN, tt))) (self, (from, (to, tt)))
          (mut_vals self, (vint w64 from ∷ [], (vint w64 to ∷ [], tt))))
          (WpFn 𝓤 H C Λ (function X n) (vptr b o ∷ vint w64 from ∷ vint w64 to ∷ [])
          ((walk_of 𝓛 (ended X n) (stayed X n) clauses).post bound))
      walk order within fits_from fits_to small =
          let s : ℕ = size (layout X) in
          let bytes : from * s ≤ n * s = mul-le-mul_right s (omega arith) in
          let far : from * s < 2 ^ 64 = omega arith in
          let place : ℕ = from * s + start X n o in
          let fits : to - from < 2 ^ 64 = omega arith in
          qed 𝓛 ((‵ (flft κ q) ⊛ ‵ (flft κT qT) ⊛ ‵ (flft κN qN) ⊛ ‵ ftrue) ∷ ‵
          (owns (MutRef (named 0) κ (S X n) ∷ usize ∷ usize ∷ []) (self, (from, (to, tt)))
          (mut_vals self, (vint w64 from ∷ [], (vint w64 to ∷ [], tt)))) ∷ []) ∵
          enter ! C Λ (function X n) (vptr b o ∷ vint w64 from ∷ vint w64 to ∷ []) _ $
          alloc_all ! (λ l. pass_all ! refl ((tt, tt), ((tt, record { fits = fits_from }), ((tt, record { fits = fits_to }), tt))) $
          sets ! (is ! (bin ! (get ! refl) (size_word !) (record {
            fits =
                subst (λ (k : ℕ). k < 2 ^ 64) (sym (uncapped from s far)) far;
          })) (ap (vint w64) (uncapped from s far))) refl
          (tt, record { fits = far }) $
          sets ! (addr ! (through ! refl (fld ! refl (stop !)))) refl (tt, tt) $
          sets ! (bin ! (get ! refl) (get ! refl) tt) refl (tt, tt) $
          sets ! (bin ! (get ! refl) (get ! refl) order) refl (tt, record { fits = fits }) $
          sets ! (addr ! (through ! refl (stop !))) refl (tt, tt) $
          sets ! (agg ! (and_then ! (get ! refl) (and_then ! (get ! refl) (no_more !)))) refl (tt, (tt, (record { fits = fits }, tt))) $
          split ! $ move ! (2 ∷ []) $ fsplit ! $ move ! (0 ∷ 2 ∷ []) $
          use2 𝓛 (later (some (lent κ q b o γ d from to (to - from)))) (lends κ q b o γ d from to order within fits_to small (mut_vals self)) $
          await ! tt $ pick ! (λ δ.
          returns ! (look_at ! 0 refl) $ free_all ! refl $ keep ! (0 ∷ 2 ∷ []) $ split3 ! $
          suffices ! _ (ends_at 𝓛 (ended X n) (stayed X n) clauses bound (slice_val (b, place) (to - from))
          (record { ref_ptr = (b, place); ghost_name = δ; now = take (to - from) (drop_list from d.gates) })
          (tt, (tt, (tt, tt))) (tt, (tt, (tt, tt)))) $
          nothing ! $ nothing ! $ fjoin ! $ nothing ! $ fjoin ! $ nothing ! $ fjoin ! $ join ! $ move ! (1 ∷ 3 ∷ []) $ join
          ! $ join ! $ frame ! $ says ! refl $ done !))

    meets : (𝓣 : Tables 𝓤 H) → Meets 𝓛 (ended X n).signature (WpFn 𝓤 H 𝓣.C 𝓣.Λ (function X n)) (closing 𝓛 (ended X n) clauses)
    meets 𝓣 =
        walk_Meets 𝓛 (ended X n) (stayed X n) (
          Goes-spent_ref 𝓛 3 (0 ∷ []) tt (plain (λ _. S X n)),
          (
            Goes-dropped 𝓛 3 (plain (λ _. usize)) yes (λ κs x f. refl),
            (
              Goes-dropped 𝓛 3 (plain (λ _. usize)) yes
                  (λ κs x f. refl),
              tt,
            ),
          ),
        ) clauses (WpFn 𝓤 H 𝓣.C 𝓣.Λ (function X n)) (WpFn-mono 𝓤 H 𝓛.laws 𝓣 (function X n))
        (walked 𝓛 (ended X n) (stayed X n) clauses (WpFn 𝓤 H 𝓣.C 𝓣.Λ (function X n))
        (λ κs. (mut_vals, (uint_vals w64, (uint_vals w64, tt)))) (λ κs.
        (mut_Tells (named 0) κs.0 (S X n), (uint_Tells w64, (uint_Tells w64, tt))))
        (λ κs qs bounds a g are.
        qed 𝓛 (raw (on_entry 𝓛 (ended X n).signature κs qs a (
          mut_vals a.0,
          (vint w64 a.1.0 ∷ [], (vint w64 a.1.1.0 ∷ [], tt)),
        )) ∷ (given (κs.1.0 ⊑ X.lives) (‵ ftrue) ⊛ given
        (κs.1.1.0 ⊑ []) (‵ ftrue) ⊛ given (size (layout (S X n)) < 2 ^ 63) (‵ ftrue) ⊛ given (a.1.0 ≤ a.1.1.0) (‵ ftrue)
        ⊛ given (a.1.1.0 ≤ n) (‵ ftrue)) ∷ []) ∵
        move ! (1 ∷ []) $ split3 ! $ drop ! $ drop ! $ split ! $ learn ! (λ fits. drop ! $ split ! $ learn ! (λ order. drop ! $ learn ! (λ within. drop ! $
        by ! (walk 𝓣.C 𝓣.Λ κs.0 κs.1.0 κs.1.1.0 qs.0 qs.1.0 qs.1.1.0 bounds a.0.ref_ptr.0 a.0.ref_ptr.1 a.0.ghost_name
        a.0.now a.1.0 a.1.1.0 order within are.1.0.1 are.1.1.0.1 (omega arith)))))))

pub part_mut_spec : {M : Type 1} → stated.statement M
unfolding tables_of
part_mut_spec 𝓤 𝓛 𝓜 𝓡 wired X n L fits =
    let 𝓣 : Tables 𝓤 𝓛.H = tables_of 𝓤 𝓛.H 𝓜 (tables 𝓤 𝓛.H 𝓜 𝓡 𝓡.env) in
    entered 𝓤 𝓛.H (triple_of 𝓛 (ended X n).signature (F.spec X (number n) 𝓛 𝓜.mem 𝓡.returns)) 𝓣.C 𝓣.Λ (#self (args X n))
    (function X n) (code.unfolded 𝓤 𝓛.H 𝓜 𝓡 wired (X, (number n, tt)))
    (meets X n L 𝓛 𝓜.mem 𝓡.returns 𝓣)
