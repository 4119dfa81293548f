-- `word_at` meets its contract: a walk of its MIR by hand.
-- A walk is a list of steps over a context, the things that are owned, which comments show as [first; second; ..].
use Rattle.std.proofs.Common.{◌≡◌, ℕ, ◌+◌, ◌/◌, ◌%◌, ◌^◌, ◌<◌, List, [], ◌∷◌, length, get_or, sym, refl, ◌∙◌, arith, w64}
use seplogic.Ra.Ura.{Ura}
use mir.Syntax.{Body, named, seq, assign, place, rv_opd, copy, return}
use mir.Val.{Val, vint}
use base.Logic.{SProp, ent}
use base.Fml.{Lft, Share, ftrue, flft}
use prog.Memory.{Memory}
use prog.Routine.{Routine}
use prog.Wp.{Env, Calls, Loops, WpFn, Tables}
use types.Logic.{Logic}
use contract.Monad.{Fun}
use contract.Running.{tables, tables_of}
use sound.WpLaws.{WpFn-mono}
use types.Kit.{‵, ◌⊛◌, ⋆, at_ret, ◌$◌, ◌∵◌, !, qed, by, move, keep, split, join, fsplit, fjoin, feq_i, flt_i, rewrite, suffices, frame, done}
use types.Part.{whole, sub}
use types.Run.{look, stop, fld, load, addr, hop, from, of_opd, bin, first, blocks, exec, returns, enter}
use types.ByLocal.{alloc_all, pass_all, free_all, look_at, look_in_at, get, through, sets, sets_last, env}
use denote.Copied.{uint_Copied}
use denote.Exit.{yes}
use denote.RattleType.{owns}
use denote.Laws.{Is, shows}
use denote.Memory.{cell_at}
use denote.Plain.{uint_vals, uint_Tells}
use denote.Ref.{Bor}
use denote.Slice.{ShrSlice, Room, slice_val, shr_slice_vals, shr_slice_Tells}
use denote.Index.{place_is, elem_out, elem_back, looks_slice, shuts_slice, place as nth}
use denote.Builtin.{SliceRefOf, u64, usize}
use denote.Signature.{plain}
use denote.Steps.{nothing}
use denote.Triple.Clauses.{Clauses}
use denote.Triple.Entry.{on_entry}
use denote.Triple.Spec.{Meets, triple_of}
use denote.Triple.Table.{entered}
use denote.Triple.Walked.{says, needs, Stays, stay_dropped, walk_of, ends_at, walked, Goes-dropped, walk_Meets}
use Rattle.heap_arena.specs.contracts.words.word_at.Key.{name as #self}
use Rattle.heap_arena.specs.contracts.words.word_at as word_at
use Rattle.heap_arena.proofs.words.word_at.Statement as stated
use Rattle.heap_arena.proofs.words.word_at.Code as code

-- what the function still has of each parameter when it returns: nothing
abbrev stayed : Stays (word_at.ended).signature.params (word_at.ended).kept
stayed = (stay_dropped (SliceRefOf (0 ∷ []) tt (plain (λ _. u64)) (λ _. tt)) yes, (stay_dropped (plain (λ _. usize)) yes, tt))

-- the MIR after the `unsafe` block: its value goes to the result
abbrev after_block : Body
after_block = seq (assign (place 0 []) (rv_opd (copy (place 4 [])))) return

module _ {M : Type 1} {𝓤 : Ura M} (𝓛 : Logic 𝓤) (at_mem : Memory → SProp 𝓤) (run : Routine → Fun 𝓤) where
  open 𝓛 use {H}

  abbrev clauses : Clauses 𝓤 word_at.ended
  clauses = word_at.clauses 𝓛 at_mem run

  -- the slice is shared for κ, lies at the offset o of the block b, and holds xs; the word is at k bytes of it
  module _ (κ : Lft) (q : Share) (b o : ℕ) (xs : List ℕ) (k : ℕ) where
    abbrev buf : Bor (List ℕ)
    buf = record { ref_ptr = (b, o); now = xs }

    abbrev words : List Val × (List Val × Unit {0})
    words = (slice_val (b, o) (length xs) ∷ [], (vint w64 k ∷ [], tt))

    abbrev bound : (walk_of 𝓛 word_at.ended stayed clauses).Ghost
    bound = (((κ, tt), (q, tt), tt, (buf, (k, tt)), words), tt)

    abbrev Post : Val → SProp 𝓤
    Post = (walk_of 𝓛 word_at.ended stayed clauses).post bound

    abbrev elem : ℕ
    elem = get_or xs (k / 8) 0

    place_here : k % 8 ≡ 0 → nth 8 o (k / 8) ≡ k + o
    place_here whole8 = place_is 8 o (k / 8) ∙ omega arith

    -- the end: the `ensures`, the token of κ, and the result
    exits : elem < 2 ^ 64 → ent 𝓤 (⋆ 𝓛 (‵ (flft κ q) ∷ [])) (Post (vint w64 elem))
    exits fits =
        qed 𝓛 (‵ (flft κ q) ∷ []) ∵
        suffices ! _ (ends_at 𝓛 word_at.ended stayed clauses bound (vint w64 elem) elem (tt, (tt, tt)) (tt, (tt, tt))) $ says ! refl $
        nothing ! $ move ! (1 ∷ 0 ∷ []) $ join ! $ frame ! $
        nothing ! $ nothing ! $ fjoin ! $ nothing ! $ fjoin ! $
        flt_i ! elem (2 ^ 64) fits $ feq_i ! (List Val) (vint w64 elem ∷ []) (vint w64 elem ∷ []) refl $ fjoin ! $ move ! (1 ∷ 0 ∷ []) $ done !

    module _ (C : Calls 𝓤 H) (Λ : Loops 𝓤 H) where
      walk : Room u64 (length xs) → k < 2 ^ 64 → (k % 8 ≡ 0) × (k / 8 < length xs)
          → ent 𝓤 (on_entry 𝓛 word_at.signature (κ, tt) (q, tt) (buf, (k, tt)) words)
          (WpFn 𝓤 H C Λ code.function (slice_val (b, o) (length xs) ∷ vint w64 k ∷ []) Post)
      walk room fk asked =
          qed 𝓛 ((‵ (flft κ q) ⊛ ‵ ftrue) ∷ ‵ (owns (ShrSlice (named 0) κ u64 ∷ usize ∷ []) (buf, (k, tt)) words) ∷ []) ∵
          enter ! C Λ code.function (slice_val (b, o) (length xs) ∷ vint w64 k ∷ []) _ $
          alloc_all ! (λ l. pass_all ! refl ((tt, (tt, (record { fits = room.0 }, tt))), ((tt, record { fits = fk }), tt)) $
          let En : Env 𝓤 H = env (code.function).locals l in
          move ! (1 ∷ []) $ fsplit ! $ fsplit ! $ move ! (1 ∷ []) $ move ! (3 ∷ []) $ split ! $ move ! (2 ∷ 0 ∷ []) $
          -- [the shared elements; the token of κ; ..]
          looks_slice ! tt u64 (uint_Copied 𝓛 w64) xs b o (λ q'. elem_out ! u64 (Is u64) (shows 𝓛 u64) (uint_vals w64)
          (uint_Tells w64) q' xs (k / 8) 0 b o asked.1 (λ good.
          rewrite ! 0 (λ (n : ℕ). ‵ (cell_at q' u64.mir (vint w64 elem ∷ []) b n)) (place_here asked.0) refl $
          -- [the cell; what it owns; the other elements; what shuts; ..]. From here, one step for each statement of the MIR.
          first ! $ blocks ! $
          -- words.as_ptr()
          sets ! (addr ! (from ! (fld ! refl (hop ! (look_in_at ! 1 (sub ! 0 refl (whole !))) (stop !))))) refl (tt, tt) $
          -- .add(offset)
          sets ! (bin ! (get ! refl) (get ! refl) tt) refl (tt, tt) $
          sets ! (of_opd ! (get ! refl)) refl (tt, tt) $
          -- the word; its cell is item 0
          sets_last ! (of_opd ! (load ! (through ! refl (stop !)) (look ! 0 refl))) refl (tt, record { fits = good.1 }) $
          exec ! C Λ En after_block (at_ret En Post) $
          sets ! (of_opd ! (get ! refl)) refl (tt, record { fits = good.1 }) $
          rewrite ! 0 (λ (n : ℕ). ‵ (cell_at q' u64.mir (vint w64 elem ∷ []) b n)) (sym (place_here asked.0)) refl $
          elem_back ! u64 q' xs (k / 8) 0 (vint w64 elem ∷ []) b o asked.1 $ shuts_slice ! tt u64 q' xs b o $
          returns ! (look_at ! 0 refl) $ free_all ! refl $ keep ! (0 ∷ []) $ by ! (exits good.1))))

  meets : (𝓣 : Tables 𝓤 H) → Meets 𝓛 word_at.signature (WpFn 𝓤 H 𝓣.C 𝓣.Λ code.function) (word_at.spec 𝓛 at_mem run)
  meets 𝓣 =
      walk_Meets 𝓛 word_at.ended stayed (
        Goes-dropped 𝓛 1 (SliceRefOf (0 ∷ []) tt (plain (λ _. u64)) (λ _. tt)) yes (λ κs x f. refl),
        (Goes-dropped 𝓛 1 (plain (λ _. usize)) yes (λ κs x f. refl), tt),
      )
      clauses (WpFn 𝓤 H 𝓣.C 𝓣.Λ code.function) (WpFn-mono 𝓤 H 𝓛.laws 𝓣 code.function)
      (walked 𝓛 word_at.ended stayed clauses (WpFn 𝓤 H 𝓣.C 𝓣.Λ code.function)
      (λ κs. (shr_slice_vals, (uint_vals w64, tt))) (λ κs. (shr_slice_Tells (named 0) κs.0 u64, (uint_Tells w64, tt)))
      (λ κs qs bounds a g are. needs 𝓤 ((a.1.0 % 8 ≡ 0) × (a.1.0 / 8 < length a.0.now)) _
      (walk κs.0 qs.0 a.0.ref_ptr.0 a.0.ref_ptr.1 a.0.now a.1.0 𝓣.C 𝓣.Λ are.0.0.1 are.1.0.1)))

pub word_at_spec : {M : Type 1} → stated.statement M
unfolding tables_of
word_at_spec 𝓤 𝓛 𝓜 𝓡 wired =
    entered 𝓤 𝓛.H (triple_of 𝓛 word_at.signature (word_at.spec 𝓛 𝓜.mem 𝓡.returns))
    (tables 𝓤 𝓛.H 𝓜 𝓡 𝓡.env).C (tables 𝓤 𝓛.H 𝓜 𝓡 𝓡.env).Λ #self code.function (code.unfolded 𝓤 𝓛.H 𝓜 𝓡 wired)
    (meets 𝓛 𝓜.mem 𝓡.returns (tables_of 𝓤 𝓛.H 𝓜 (tables 𝓤 𝓛.H 𝓜 𝓡 𝓡.env)))
