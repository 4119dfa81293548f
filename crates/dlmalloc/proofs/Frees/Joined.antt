-- An extent in use is freed, and joins the free ones beside it.
use Rattle.dlmalloc.proofs.Names.{◌≡◌, ℕ, ◌+◌, ◌-◌, ◌%◌, ◌<◌, ◌≤◌, inr, true, false, List, [], ◌∷◌, sym, ◌∙◌, ap, subst, arith, refl, Grant, IsWordOf, IsStored, AreStored, Extent, Used, Free, Top, Record, Foot, head_of, without_pinuse, is_used, is_free_below_top, told_size, HasChunk, Tiles, last_kind, Segment, IsMove}
use Rattle.dlmalloc.proofs.Extents.Tiling.{free_chunk, plain_chunk}
use Rattle.dlmalloc_chunks.specs.HeadLaws.{without_pinuse-head_of}
use Rattle.dlmalloc.proofs.Extents.Lookup.{extent}
use Rattle.dlmalloc.proofs.Extents.FromWords.{only_foot}
use Rattle.dlmalloc.proofs.Frees.FreeBeside.{RightChunk}
use Rattle.dlmalloc.proofs.Cuts.FreeExtent.{rehung, told_whole, no_head, may_stand}

module _ (regions : List Grant) {old : ℕ → ℕ} (new : ℕ → ℕ) (from : ℕ) (less : List Extent) (place : from % 16 ≡ 0) where
  -- before an extent in use or a record
  pub join : {segments : List Segment} {at size to : ℕ} (r : RightChunk old segments at size to) → from + 32 ≤ to →
      Tiles old Used from less (to + r.right.next.size) →
      AreStored regions old ((from + (to - from) + 8, without_pinuse (old (from + (to - from) + 8))) ∷ (from + 8, head_of (to - from) true false)
      ∷ (from + (to - from), to - from) ∷ []) new → ((k : ℕ) → to < k → k < to + r.right.next.size → k % 8 ≡ 0 → IsWordOf regions k) →
      IsMove regions old new Used from (to + r.right.next.size) (to + r.right.next.size) less (extent from (to - from) Free ∷ r.right.next ∷ [])
  join {to = to} r room less_stand stored granted =
      let next = r.right.next in let touch = r.right.place in let behind = r.right.stands in
      let sum : from + (to - from) ≡ to = omega arith in
      let whole : to % 16 ≡ 0 = omega (arith, touch, behind.whole) in
      let heads : new (to + 8) ≡ without_pinuse (old (to + 8)) =
      subst (λ a. new (a + 8) ≡ without_pinuse (old (a + 8))) sum (stored.here.0 ((λ is. omega arith), ((λ is. omega arith), tt))) in
      record {
        less_stand = less_stand;
        more_stand = (
          refl,
          free_chunk place (omega arith, omega arith) refl (stored.here.1.0 ((λ is. omega arith), tt)) (stored.here.1.1.0 tt),
          (
            touch ∙ sym sum,
            rehung new Free behind r.kind (may_stand next.kind Free r.kind (inr refl)) (subst (λ a. new (a + 8) ≡ head_of (told_size next.kind next.size) false
                (is_used next.kind)) (sym touch) (heads ∙ (ap (λ a. without_pinuse (old (a + 8))) (sym touch) ∙ (ap without_pinuse behind.head
                ∙ without_pinuse-head_of (told_size next.kind next.size) (is_used (last_kind Used r.right.rights)) (is_used next.kind)
                (told_whole next.kind next.size behind.size)))))
                (λ k low high m. stored.elsewhere k (granted k (omega arith) (omega arith) m)
                ((λ is. omega arith), ((λ is. omega arith), ((λ is. omega arith), tt)))),
            ap (λ a. a + next.size) sum,
          ),
        );
        kept = λ k word more. stored.elsewhere k word
            ((λ is. no_head k next.kind next.at next.size behind.size more.1.0 (omega arith)), (more.0.0, (more.0.1, tt)));
      }

  -- before the foot of the top
  pub join_top : {to : ℕ} {next : Extent} → (to - from) % 16 ≡ 0 → from + 16 ≤ to → next.at ≡ to → HasChunk old Top next →
      Tiles old Used from less (to + next.size) →
      IsStored regions old (from + 8) (to - from + 1) new → IsWordOf regions (to + 8) →
      IsMove regions old new Used from (to + next.size) (to + next.size) less (extent from (to - from) Top ∷ next ∷ [])
  join_top {to} {next} whole room touch behind less_stand stored word =
      let sum : from + (to - from) ≡ to = omega arith in let kind = only_foot next.kind behind.kind in
      let head : new (to + 8) ≡ old (to + 8) = stored.elsewhere (to + 8) word (λ is. omega arith) in
      record {
        less_stand = less_stand;
        more_stand = (
          refl,
          plain_chunk place (whole, omega arith) refl (stored.here ∙ omega arith) (λ free. cc) (λ is. cc),
          (
            touch ∙ sym sum,
            record {
              whole = behind.whole;
              size = behind.size;
              kind = behind.kind;
              head = subst (λ a. new (a + 8) ≡ old (a + 8)) (sym touch) head ∙ behind.head;
              foot = λ free. absurd (let no = ap is_free_below_top kind in cc);
              fence = λ is. absurd (let no : Foot ≡ Record = sym kind ∙ is in cc);
            },
            ap (λ a. a + next.size) sum,
          ),
        );
        kept = λ k word more. stored.elsewhere k word more.0;
      }
