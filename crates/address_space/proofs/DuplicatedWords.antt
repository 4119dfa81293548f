-- The words of memory after pages were mapped with the rights and the bytes of others.
use Rattle.std.proofs.Common.{◌≡◌, ◌∙◌, ap, sym, refl, ℕ, ◌+◌, ◌*◌, ◌<◌, ◌≤◌, Bool, true, false, Option, Some, None, List, subst, arith, ◌⊎◌, inl, inr}
use Rattle.std.proofs.lemmas.Bool.{cases_lt}
use Rattle.paging_core.specs.Entry.{table_entry, page_entry}
use Rattle.paging_core.specs.Memory.{word_at}
use Rattle.paging_core.specs.PageChanges.{among}
use Rattle.paging_core.specs.Pool.{is_frame_free}
use Rattle.paging_core.specs.Prefix.{prefix_of}
use Rattle.paging_core.specs.Walk.{Place, reach, walk_of, place_with, top}
use Rattle.paging_core.specs.PageBits.{bits_at}
use Rattle.paging_core.specs.declared.page_table.PageBits.{PageBits}
use Rattle.paging_core.proofs.Prefixes.{walk_reach}
use Rattle.address_space.specs.Changing.{AreWordsCopied}
use Rattle.address_space.specs.Space.{Tables}
use Rattle.address_space.proofs.CopiedWords.{no_table, one_table, same_place, run_has}
use Rattle.address_space.proofs.Duplicated.{AreDuplicated, page_of_number}

some_none : {A : Type 0} (o : Option A) (a : A) → o ≡ Some a → o ≡ None → ⊥
some_none {A} o a h k = let no : Some a ≡ None = sym h ∙ k in absurd (cc)

module _ (old new : Tables) (one : List ℕ) (from pages to : ℕ) (rights : PageBits)
    (m : AreDuplicated old one new.words new.free new.runs from pages to rights) where
  -- a target page before it got its bytes
  blank_page : (n : ℕ) → among to pages n ≡ true → (place : Place) × (reach one old.root 4 n ≡ Some place) × (is_frame_free old.free place.frame ≡ true)
  blank_page n h =
      let k = page_of_number to pages n m.target.one_half h in
      let page = m.added.mapped k.0 k.1 in
      (place_with page.frame rights, ap (reach one old.root 4) k.2 ∙ (sym (walk_reach one old.root (to + k.0)) ∙ page.found), page.was_free)

  other_page : (n : ℕ) → among to pages n ≡ false → reach new.words old.root 4 n ≡ reach old.words old.root 4 n
  other_page n h = m.copied.outside n h ∙ m.added.others 4 n (omega arith) (λ k less is. some_none_test n k less is h) where
    some_none_test : (n k : ℕ) → k < pages → n ≡ prefix_of (to + k) 4 → among to pages n ≡ false → ⊥
    some_none_test n k less is h =
        let one = m.target.one_half in
        let at : prefix_of (to + k) 4 ≡ prefix_of to 4 + k = omega (arith, one, less) in
        let yes : among to pages n ≡ true = run_has (prefix_of to 4) pages n k (is ∙ at) less in
        let clash : true ≡ false = sym yes ∙ h in absurd (cc)

  -- one step on from a table
  step_same : (l n : ℕ) → l < 3 → reach new.words old.root (l + 1) n ≡ reach one old.root (l + 1) n
  step_same l n less = m.copied.tables (l + 1) n (omega (arith, less))

  -- no word of a table is changed if no target page is at its entry
  word_same : (l n f i : ℕ) → l < 4 → i < 512 → reach one old.root l n ≡ Some (top f) →
      (l ≡ 3 → among to pages (512 * n + i) ≡ false) → word_at new.words f i ≡ word_at one f i
  word_same l n f i less small table out = m.copied.others f i small
      (λ k p few at same. no_table one old.root new.free l n (prefix_of (to + k) 4) f p m.added.tree less table
      (sym (walk_reach one old.root (to + k)) ∙ at) same)
      (λ n' other.
      let is = one_table one old.root new.free 3 n' l n f m.added.tree (omega arith) less other table in
      let three = is.0 in
      ap (λ (x : ℕ). among to pages (512 * x + i)) is.1 ∙ out (sym three))

  now : (l n f : ℕ) → l < 4 → reach new.words old.root l n ≡ Some (top f) → reach one old.root l n ≡ Some (top f)
  now l n f less at = sym (m.copied.tables l n less) ∙ at

  -- a target page is there now, and was not
  is_there : (n : ℕ) → among to pages n ≡ true → reach new.words old.root 4 n ≡ None → ⊥
  is_there n h gone = let p = blank_page n h in let q = m.copied.frames n p.0 p.1 in some_none (reach new.words old.root 4 n) q.0 q.1 gone

  was_not : (n : ℕ) → among to pages n ≡ true → (place : Place) → reach old.words old.root 4 n ≡ Some place → ⊥
  was_not n h place at =
      let p = blank_page n h in
      let same = same_place (reach one old.root 4 n) p.0 place p.1 (m.added.stayed 4 n place (omega arith) at) in
      let used = m.kept.tree.used 4 n place (omega arith) at in
      let no : true ≡ false = sym p.2 ∙ (ap (λ (x : Place). is_frame_free old.free x.frame) same ∙ used) in absurd (cc)

  out_of : (n : ℕ) → reach new.words old.root 4 n ≡ reach old.words old.root 4 n → among to pages n ≡ false
  out_of n same = go (among to pages n) refl where
    go : (b : Bool) → among to pages n ≡ b → b ≡ false
    go false h = refl
    go true h = (let p = blank_page n h in let q = m.copied.frames n p.0 p.1 in absurd (was_not n h q.0 (sym same ∙ q.1)))

  out_where_gone : (n : ℕ) → reach new.words old.root 4 n ≡ None → among to pages n ≡ false
  out_where_gone n gone = go (among to pages n) refl where
    go : (b : Bool) → among to pages n ≡ b → b ≡ false
    go false h = refl
    go true h = absurd (is_there n h gone)

  old_words : (l n f i : ℕ) → l < 4 → i < 512 → reach old.words old.root l n ≡ Some (top f) →
      reach new.words old.root (l + 1) (512 * n + i) ≡ reach old.words old.root (l + 1) (512 * n + i) → word_at new.words f i ≡ word_at old.words f i
  old_words l n f i less small table same = go (cases_lt l 3) where
    there : reach one old.root l n ≡ Some (top f)
    there = m.added.stayed l n (top f) (omega (arith, less)) table

    go : (l < 3) ⊎ (3 ≤ l) → word_at new.words f i ≡ word_at old.words f i
    go (inl h) =
        word_same l n f i less small there (λ three. absurd (omega (arith, h, three)))
        ∙ m.added.entries.old_words l n f i less small table (sym (step_same l (512 * n + i) h) ∙ same)
    go (inr h) =
        let four : l + 1 ≡ 4 = omega (arith, h, less) in
        let at : reach new.words old.root 4 (512 * n + i) ≡ reach old.words old.root 4 (512 * n + i) =
        subst (λ (k : ℕ). reach new.words old.root k (512 * n + i) ≡ reach old.words old.root k (512 * n + i)) four same
        in
        let out = out_of (512 * n + i) at in
        let unchanged : reach one old.root 4 (512 * n + i) ≡ reach old.words old.root 4 (512 * n + i) = sym (m.copied.outside (512 * n + i) out) ∙ at in
        word_same l n f i less small there (λ three. out)
        ∙ m.added.entries.old_words l n f i less small table (subst (λ (k : ℕ).
        reach one old.root k (512 * n + i) ≡ reach old.words old.root k (512 * n + i)) (sym four) unchanged)

  blank : (l n f i : ℕ) → l < 4 → i < 512 → reach old.words old.root l n ≡ None → reach new.words old.root l n ≡ Some (top f) →
      reach new.words old.root (l + 1) (512 * n + i) ≡ None → word_at new.words f i ≡ 0
  blank l n f i less small missed table gone = go (cases_lt l 3) where
    go : (l < 3) ⊎ (3 ≤ l) → word_at new.words f i ≡ 0
    go (inl h) =
        word_same l n f i less small (now l n f less table) (λ three. absurd (omega (arith, h, three)))
        ∙ m.added.entries.blank l n f i less small missed (now l n f less table) (sym (step_same l (512 * n + i) h) ∙ gone)
    go (inr h) =
        let four : l + 1 ≡ 4 = omega (arith, h, less) in
        let at : reach new.words old.root 4 (512 * n + i) ≡ None = subst (λ (k : ℕ). reach new.words old.root k (512 * n + i) ≡ None) four gone in
        let out = out_where_gone (512 * n + i) at in
        let unchanged : reach one old.root 4 (512 * n + i) ≡ None = sym (m.copied.outside (512 * n + i) out) ∙ at in
        word_same l n f i less small (now l n f less table) (λ three. out)
        ∙ m.added.entries.blank l n f i less small missed (now l n f less table)
        (subst (λ (k : ℕ). reach one old.root k (512 * n + i) ≡ None) (sym four) unchanged)

  table_words : (l n f i made : ℕ) → l < 3 → i < 512 → reach new.words old.root l n ≡ Some (top f) → reach old.words old.root (l + 1) (512 * n + i) ≡ None →
      reach new.words old.root (l + 1) (512 * n + i) ≡ Some (top made) → word_at new.words f i ≡ table_entry made
  table_words l n f i made less small table missed at =
      let few : l < 4 = omega (arith, less) in
      word_same l n f i few small (now l n f few table) (λ three. absurd (omega (arith, less, three)))
      ∙ m.added.entries.table_words l n f i made less small (now l n f few table) missed (sym (step_same l (512 * n + i) less) ∙ at)

  page_words : (n f i : ℕ) (place : Place) → i < 512 → reach new.words old.root 3 n ≡ Some (top f) → reach old.words old.root 4 (512 * n + i) ≡ None →
      reach new.words old.root 4 (512 * n + i) ≡ Some place → word_at new.words f i ≡ page_entry place.frame (bits_at place)
  page_words n f i place small table missed at = go (among to pages (512 * n + i)) refl where
    go : (b : Bool) → among to pages (512 * n + i) ≡ b → word_at new.words f i ≡ page_entry place.frame (bits_at place)
    go true h = m.copied.entries n i f place small h (now 3 n f (omega arith) table) at
    go false h = absurd (some_none (reach new.words old.root 4 (512 * n + i)) place at (other_page (512 * n + i) h ∙ missed))

  others : (f i : ℕ) → i < 512 → is_frame_free old.free f ≡ false → ((l n : ℕ) → l < 4 →
      reach old.words old.root l n ≡ Some (top f) → ⊥) → word_at new.words f i ≡ word_at old.words f i
  others f i small used unmet = m.copied.others f i small (λ k p few at same. no_page k p few at same)
      (λ n table. absurd (not_a_table n table)) ∙ m.added.words f i small used unmet where
        no_page : (k : ℕ) (p : Place) → k < pages → walk_of one old.root (to + k) ≡ Some p → p.frame ≡ f → ⊥
        no_page k p few at same =
            let page = m.added.mapped k few in
            let is = same_place (walk_of one old.root (to + k)) (place_with page.frame rights) p page.found at in
            let no : true ≡ false = sym page.was_free ∙ (ap (λ (x : Place). is_frame_free old.free x.frame) is
            ∙ (ap (is_frame_free old.free) same ∙ used)) in absurd (cc)

        not_a_table : (n : ℕ) → reach one old.root 3 n ≡ Some (top f) → ⊥
        not_a_table n table = go (reach old.words old.root 3 n) refl where
          go : (o : Option Place) → reach old.words old.root 3 n ≡ o → ⊥
          go None missed = (let free = m.added.made 3 n (top f) (omega arith) missed table in let no : true ≡ false = sym free ∙ used in absurd (cc))
          go (Some met) at =
              let is = same_place (reach one old.root 3 n) met (top f) (m.added.stayed 3 n met (omega arith) at) table in
              unmet 3 n (omega arith) (at ∙ ap (λ (p : Place). Some p) is)

  still_free : (f i : ℕ) → i < 512 → is_frame_free new.free f ≡ true → word_at new.words f i ≡ word_at old.words f i
  still_free f i small free = m.copied.others f i small (λ k p few at same. no_page k p few at same)
      (λ n table. absurd (not_a_table n table)) ∙ m.added.free_words f i small free where
        no_page : (k : ℕ) (p : Place) → k < pages → walk_of one old.root (to + k) ≡ Some p → p.frame ≡ f → ⊥
        no_page k p few at same =
            let page = m.added.mapped k few in
            let is = same_place (walk_of one old.root (to + k)) (place_with page.frame rights) p page.found at in
            let no : true ≡ false = sym free ∙ (ap (is_frame_free new.free) (sym same)
            ∙ (ap (λ (x : Place). is_frame_free new.free x.frame) (sym is) ∙ page.taken)) in absurd (cc)

        not_a_table : (n : ℕ) → reach one old.root 3 n ≡ Some (top f) → ⊥
        not_a_table n table = let used = m.added.tree.used 3 n (top f) (omega arith) table in let no : true ≡ false = sym free ∙ used in absurd (cc)

  copied : (k i : ℕ) (source target : Place) → k < pages → i < 512 → walk_of old.words old.root (from + k) ≡ Some source →
      walk_of new.words old.root (to + k) ≡ Some target →
      word_at new.words target.frame i ≡ word_at old.words source.frame i
  copied k i source target less small at_s at_t =
      let page = m.added.mapped k less in
      let before = place_with page.frame rights in
      let p = m.copied.frames (prefix_of (to + k) 4) before (sym (walk_reach one old.root (to + k)) ∙ page.found) in
      let is = same_place (walk_of new.words old.root (to + k)) target p.0 at_t (walk_reach new.words old.root (to + k) ∙ p.1) in
      let frame : target.frame ≡ page.frame = ap (λ (x : Place). x.frame) is ∙ p.2 in
      ap (λ (f : ℕ). word_at new.words f i) frame
      ∙ (m.copied.words k i source before less small (m.added.pages_stay (from + k) source at_s) page.found
      ∙ m.added.bytes_stay (from + k) source i at_s small)

  pub duplicated_words : AreWordsCopied old new from pages to
  duplicated_words = record {
    copied = copied;
    old_words = old_words;
    blank = blank;
    table_words = table_words;
    page_words =
        page_words;
    others = others;
    still_free = still_free;
  }
