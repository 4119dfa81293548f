-- A run of frames is taken and cleared, for a large page.
use Rattle.std.proofs.Common.{◌≡◌, ℕ, ◌+◌, ◌*◌, ◌/◌, ◌%◌, ◌<◌, ◌≤◌, Bool, true, false, List, Some, refl, sym, ap, ◌∙◌, ◌⊎◌, inl, inr, arith}
use Rattle.std.proofs.lemmas.Bool.{cases_eq, cases_Bool}
use Rattle.std.specs.Prelude.{IsSome}
use Rattle.paging_core.specs.Memory.{word_at, frame_count, byte_of}
use Rattle.paging_core.specs.Prefix.{prefix_of}
use Rattle.paging_core.specs.Pool.{is_frame_free, FreeBelow}
use Rattle.paging_core.specs.Runs.{IsRunFree, IsRunSet}
use Rattle.paging_core.specs.Walk.{Place, reach, large_of, walk_of, reached, top, place_with}
use Rattle.paging_core.specs.Tree.{IsTree}
use Rattle.paging_core.specs.Large.{slot_of, above, missing_above, IsSlotEmpty, IsLargeAdded, AreFramesCleared}
use Rattle.paging_core.specs.declared.page_table.PageBits.{PageBits}
use Rattle.paging_core.proofs.Reach.{reach_same, larges_same}
use Rattle.paging_core.proofs.Prefixes.{walk_reach}
use Rattle.paging_core.proofs.Made.{tree_same}
use Rattle.paging_core.proofs.PageWritten.{reached_at, same_byte}
use Rattle.paging_core.proofs.PageChanged.{some_place}
use Rattle.paging_core.proofs.Ranges.{missing_same}
use Rattle.paging_core.specs.Missing.{missing_of}

module _ (old mid : List ℕ) (free free1 : List Bool) (root run : ℕ)
    (known : FreeBelow free (frame_count old))
    (tree : IsTree old root free)
    (was_free : IsRunFree free run)
    (taken : IsRunSet free free1 run false)
    (blank : AreFramesCleared old mid (512 * run) 512) where
  pub run_in : 512 * run + 511 < frame_count old
  run_in = known (512 * run + 511) (was_free (512 * run + 511) (omega arith))

  pub run_fewer : (f : ℕ) → is_frame_free free f ≡ false → is_frame_free free1 f ≡ false
  run_fewer f e = go (cases_eq (f / 512) run)
    where
      go : (f / 512 ≡ run) ⊎ (f / 512 ≡ run → ⊥) → is_frame_free free1 f ≡ false
      go (inl x) = taken.here f x
      go (inr x) = taken.elsewhere f x ∙ e

  pub run_known : FreeBelow free1 (frame_count mid)
  run_known f is = go (cases_Bool (is_frame_free free f))
    where
      go : (is_frame_free free f ≡ true) ⊎ (is_frame_free free f ≡ false) → f < frame_count mid
      go (inl x) = let h = known f x in let s = blank.size in omega arith
      go (inr x) = let h = run_fewer f x in absurd (cc)

  pub unmet : (l n : ℕ) (m : Place) → l ≤ 4 → reach old root l n ≡ Some m → m.frame / 512 ≡ run → ⊥
  unmet l n m le is e =
      let u : is_frame_free free m.frame ≡ false = tree.used l n m le is in
      let w : is_frame_free free m.frame ≡ true = was_free m.frame e in cc

  pub stays : (f i : ℕ) → i < 512 → (f / 512 ≡ run → ⊥) → word_at mid f i ≡ word_at old f i
  stays f i li ne = blank.others f i li (λ k lt e. ne (omega arith))

  pub run_same : (l n : ℕ) → l ≤ 4 → reach mid root l n ≡ reach old root l n
  run_same = reach_same old mid root blank.size (λ l n b j lt is lj. stays b.frame j lj (unmet l n b (omega arith) is))

  pub run_larges : (n : ℕ) → large_of mid root n ≡ large_of old root n
  run_larges = larges_same old mid root blank.size (λ l n b j lt is lj. stays b.frame j lj (unmet l n b (omega arith) is))

  pub run_tree : IsTree mid root free1
  run_tree =
      let t : IsTree mid root free = tree_same old mid root free blank.size (λ l n b j lt is lj. stays b.frame j lj (unmet l n b (omega arith) is)) tree in
      record {
        rights = t.rights;
        distinct = t.distinct;
        plain = t.plain;
        inside = λ _ _ _ _ _. refl;
        used =
            λ l n m le is. run_fewer m.frame (t.used l n m le is);
      }

  pub run_walk : (page : ℕ) → walk_of mid root page ≡ walk_of old root page
  run_walk page = walk_reach mid root page ∙ (run_same 4 (prefix_of page 4) (omega arith) ∙ sym (walk_reach old root page))

  pub run_empty : (page : ℕ) → IsSlotEmpty old root page → IsSlotEmpty mid root page
  run_empty page e = record {
    unmapped = λ k lt. run_walk (512 * page + k) ∙ e.unmapped k lt;
    no_table = run_same 3 (slot_of page) (omega arith) ∙ e.no_table;
  }

  pub run_missing : (page : ℕ) → missing_above mid root page ≡ missing_above old root page
  run_missing page =
      let a = run_same 1 (above page 1) (omega arith) in
      let b = run_same 2 (above page 2) (omega arith) in
      rw (a, b) refl

  pub run_used : (k : ℕ) → k < 512 → is_frame_free free1 (512 * run + k) ≡ false
  run_used k lt = taken.here (512 * run + k) (omega arith)

  pub run_unmet : (k l n : ℕ) (m : Place) → k < 512 → l ≤ 4 → reach mid root l n ≡ Some m → m.frame ≡ 512 * run + k → ⊥
  run_unmet k l n m lk le is e = unmet l n m le (sym (run_same l n le) ∙ is) (omega arith)

  -- and each range misses as many tables
  pub run_missing_of : (first pages : ℕ) → missing_of mid root first pages ≡ missing_of old root first pages
  run_missing_of first pages = missing_same old mid root first pages run_same

  run_bytes : (address : ℕ) → IsSome (walk_of old root (address / 4096)) → reached mid root address ≡ reached old root address
  run_bytes address is =
      let p = some_place (walk_of old root (address / 4096)) is in
      let was : reach old root 4 (prefix_of (address / 4096) 4) ≡ Some p.0 = sym (walk_reach old root (address / 4096)) ∙ p.1 in
      same_byte old mid root address p.0 p.0 p.1 (run_walk (address / 4096) ∙ p.1) refl
      (stays p.0.frame (address % 4096 / 8) (omega arith) (unmet 4 (prefix_of (address / 4096) 4) p.0 (omega arith) was))

  module _ (new : List ℕ) (free' : List Bool) (page : ℕ) (rights : PageBits)
      (added : IsLargeAdded mid new free1 free' root page run rights)
      (tree' : IsTree new root free') where
    -- no byte of a page that was mapped is changed
    pub slot_bytes :
        ((address : ℕ) → IsSome (walk_of mid root (address / 4096)) → reached new root address ≡ reached mid root address) →
        (address : ℕ) → IsSome (walk_of old root (address / 4096)) → reached new root address ≡ reached old root address
    slot_bytes h address is = h address (rw (run_walk (address / 4096)) is) ∙ run_bytes address is

    -- each word of the slot is 0
    pub slot_words : (k i : ℕ) → k < 512 → i < 512 → word_at new (512 * run + k) i ≡ 0
    slot_words k i lt li =
        let met : reach new root 4 (prefix_of (512 * page + k) 4) ≡ Some (place_with (512 * run + k) rights) =
        sym (walk_reach new root (512 * page + k)) ∙ added.there k lt in
        added.words (512 * run + k) i li
        (λ l ll here. let d = tree'.distinct 4 (prefix_of (512 * page + k) 4) l (above page l) (place_with (512 * run + k) rights) (top (512 * run + k))
        (omega arith) (omega arith) met here refl in absurd (omega (arith, d.0)))
        ∙ blank.zeros k i lt li

    -- each byte of the slot is 0
    pub slot_zeros : (address k : ℕ) → k < 512 → address / 4096 ≡ 512 * page + k → reached new root address ≡ Some 0
    slot_zeros address k lt e =
        let at : walk_of new root (address / 4096) ≡ Some (place_with (512 * run + k) rights) = ap (walk_of new root) e ∙ added.there k lt in
        let met : reach new root 4 (prefix_of (address / 4096) 4) ≡ Some (place_with (512 * run + k) rights) =
        sym (walk_reach new root (address / 4096)) ∙ at in
        let w : word_at new (512 * run + k) (address % 4096 / 8) ≡ 0 =
        added.words (512 * run + k) (address % 4096 / 8) (omega arith)
        (λ l ll here. let d = tree'.distinct 4 (prefix_of (address / 4096) 4) l (above page l) (place_with (512 * run + k) rights) (top (512 * run + k))
        (omega arith) (omega arith) met here refl in absurd (omega (arith, d.0)))
        ∙ blank.zeros k (address % 4096 / 8) lt (omega arith) in
        reached_at new root address (place_with (512 * run + k) rights) at
        ∙ (ap (λ v. Some (byte_of v (address % 8))) w ∙ ap Some (zero_byte (address % 8)))
      where
        zero_byte : (k : ℕ) → byte_of 0 k ≡ 0
        zero_byte k = omega arith
