-- The entries that commands leave, one command after the other.
use Rattle.std.proofs.Common.{◌≡◌, Bool, true, false, ◌||◌, List, [], ◌∷◌, ◌++◌, refl, ap}
use Rattle.std.specs.List.{list_any}
use Rattle.x86_instructions.specs.declared.tlb.FlushCommand.{FlushCommand}
use Rattle.tlb_cache.specs.Cache.{left_by, left_by_all}
use Rattle.tlb_cache.specs.Covered.{covers}
use Rattle.tlb_cache.specs.declared.entry.TlbEntry.{TlbEntry}

any_push : (test : FlushCommand → Bool) (list : List FlushCommand) (command : FlushCommand) →
    list_any test (list ++ command ∷ []) ≡ (list_any test list || test command)
any_push test [] command = go (test command) where
  go : (b : Bool) → (b || false) ≡ (false || b)
  go true = refl
  go false = refl
any_push test (first ∷ list) command = go (test first) (any_push test list command) where
  go : (b : Bool) → list_any test (list ++ command ∷ []) ≡ (list_any test list || test command) →
      (b || list_any test (list ++ command ∷ [])) ≡ ((b || list_any test list) || test command)
  go true rest = refl
  go false rest = rest

pub left_none : (entries : List TlbEntry) → left_by_all [] entries ≡ entries
left_none [] = refl
left_none (entry ∷ entries) = ap (λ (list : List TlbEntry). entry ∷ list) (left_none entries)

pub left_more : (list : List FlushCommand) (command : FlushCommand) (entries : List TlbEntry) →
    left_by command (left_by_all list entries) ≡ left_by_all (list ++ command ∷ []) entries
left_more list command [] = refl
left_more list command (entry ∷ entries) =
    go (list_any (λ (c : FlushCommand). covers c entry.page) list) (covers command entry.page) refl refl (left_more list command entries)
  where
    both : list_any (λ (c : FlushCommand). covers c entry.page) (list ++ command ∷ []) ≡ (list_any
        (λ (c : FlushCommand). covers c entry.page) list || covers command entry.page)
    both = any_push (λ (c : FlushCommand). covers c entry.page) list command

    go : (a b : Bool) → list_any (λ (c : FlushCommand). covers c entry.page) list ≡ a → covers command entry.page ≡ b →
        left_by command (left_by_all list entries) ≡ left_by_all (list ++ command ∷ []) entries →
        left_by command (left_by_all list (entry ∷ entries)) ≡ left_by_all (list ++ command ∷ []) (entry ∷ entries)
    go true b is that rest = rw (both, is) rest
    go false true is that rest = rw (both, is, that) rest
    go false false is that rest = rw (both, is, that) (ap (λ (list : List TlbEntry). entry ∷ list) rest)
