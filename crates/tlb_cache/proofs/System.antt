-- The entries stay what the walk finds, as pages are mapped and unmapped.
use Rattle.std.proofs.Common.{◌≡◌, ℕ, ◌+◌, ◌/◌, ◌%◌, ◌^◌, ◌<◌, Bool, true, false, cond, not, List, [], ◌∷◌, length, Result, Ok, Err, OnOk, OnErr, refl, sym, ap, ◌∙◌, subst, arith}
use Rattle.std.specs.List.{list_any}
use Rattle.std.proofs.lemmas.Bool.{true≢false}
use Rattle.paging_core.specs.Walk.{walk_of, mapped_place}
use Rattle.machine_model.specs.declared.region.Region.{Region}
use Rattle.machine_model.specs.Machine.{Paged}
use Rattle.mapped_regions.specs.Mapped.{IsRegionJoined, IsLeft}
use Rattle.x86_instructions.specs.declared.tlb.FlushCommand.{FlushCommand}
use Rattle.tlb_cache.specs.Cache.{AgreesWithTables, IsEntryFound, left_by_all}
use Rattle.tlb_cache.specs.Cached.{Flushes}
use Rattle.tlb_cache.specs.Covered.{covers}
use Rattle.tlb_cache.specs.declared.entry.TlbEntry.{TlbEntry}

still : (words words' : List ℕ) (root root' : ℕ) (entry : TlbEntry) → root' ≡ root → length words' ≡ length words →
    walk_of words' root entry.page ≡ walk_of words root entry.page → IsEntryFound words root entry →
    IsEntryFound words' root' entry
still words words' root root' entry same size walks found = record {
  canonical = found.canonical;
  walked = ap (λ (r : ℕ). walk_of words' r entry.page) same ∙ (walks ∙ found.walked);
  frame = subst (λ (n : ℕ). entry.mapped.frame < n / 512) (sym size) found.frame;
}

pub mapped_agrees : (old new : Paged) (region : Region) (entries : List TlbEntry) → IsRegionJoined old new region →
    AgreesWithTables old.words old.root entries → AgreesWithTables new.words new.root entries
unfolding walk_of
mapped_agrees old new region [] joined agrees = tt
mapped_agrees old new region (entry ∷ entries) joined agrees =
    let added = joined.added.added.pages_added in
    let met = added.stayed 4 (entry.page % 2 ^ 36) (mapped_place entry.mapped) (omega arith) agrees.0.walked in (
      still old.words new.words old.root new.root entry joined.added.root added.size (met ∙ sym agrees.0.walked) agrees.0,
      mapped_agrees old new region entries joined agrees.1,
    )

-- whether a map was served or refused
pub map_agrees :
    {E : Type 0} (old new : Paged) (region : Region) (entries : List TlbEntry) (result : Result (Unit {0}) E) →
    OnOk result (IsRegionJoined old new region) → OnErr result (new ≡ old) →
    AgreesWithTables old.words old.root entries → AgreesWithTables new.words new.root entries
map_agrees old new region entries (Ok _) joined same agrees = mapped_agrees old new region entries joined agrees
map_agrees old new region entries (Err _) joined same agrees = subst (λ (p : Paged). AgreesWithTables p.words p.root entries) (sym same) agrees

-- two facts of a call that was served
pub both : {T E A B C : Type 0} (result : Result T E) → (A → B → C) → OnOk result A → OnOk result B → OnOk result C
both (Ok _) join a b = join a b
both (Err _) join a b = tt

pub left_agrees : (old new : Paged) (start pages : ℕ) (list : List FlushCommand) (entries : List TlbEntry) →
    IsLeft old new start pages → Flushes list start pages →
    AgreesWithTables old.words old.root entries → AgreesWithTables new.words new.root (left_by_all list entries)
left_agrees old new start pages list [] left flushes agrees = tt
left_agrees old new start pages list (entry ∷ entries) left flushes agrees =
    go (list_any (λ (command : FlushCommand). covers command entry.page) list) refl
    (left_agrees old new start pages list entries left flushes agrees.1) where
      go : (b : Bool) → list_any (λ (command : FlushCommand). covers command entry.page) list ≡ b →
          AgreesWithTables new.words new.root (left_by_all list entries) →
          AgreesWithTables new.words new.root (cond (not b) (entry ∷ left_by_all list entries) (left_by_all list entries))
      go true covered rest = rest
      go false free rest =
          let apart : (k : ℕ) → k < pages → entry.page ≡ start / 4096 + k → ⊥ =
          λ k below is. true≢false (sym (flushes k below) ∙ (ap (λ (page : ℕ).
          list_any (λ (command : FlushCommand). covers command page) list) (sym is) ∙ free)) in
          let walks = left.gone.others entry.page agrees.0.canonical apart in
          (still old.words new.words old.root new.root entry left.gone.root left.gone.gone.size walks agrees.0, rest)
