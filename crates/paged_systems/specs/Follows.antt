-- What is said of a paged system over a time.
use Rattle.std.specs.Prelude.{◌≡◌, List, [], ◌∷◌, ◌++◌, refl}
use Rattle.std.proofs.Common.{ap, ◌∙◌, subst, sym, arith}
use Rattle.heap_memory.specs.Events.{Event, Granted, Refused, Released}
use Rattle.paging_core.specs.Walk.{reach, large_of, reached}
use Rattle.machine_model.specs.Machine.{Paged, OnlyHeapBytesChange}
use Rattle.paged_systems.specs.Layout.{IsGrantedFor, MayDeny}
use Rattle.paged_systems.specs.Released.{IsReleasedFor}

-- With no event all but the bytes of the heap's pages stays. A request is granted or refused, and a run given back, as the
-- system stands at its moment. A refusal changes nothing.
abbrev pub Follows : Paged → List Event → Paged → Type 0
Follows old [] new = OnlyHeapBytesChange old new
Follows old (Granted asked grant ∷ events) new = (at : Paged) × (later : Paged) × OnlyHeapBytesChange old at × IsGrantedFor at later asked grant × Follows later events new
Follows old (Refused asked fault ∷ events) new = (at : Paged) × OnlyHeapBytesChange old at × MayDeny at asked fault × Follows at events new
Follows old (Released at size left ∷ events) new = (before : Paged) × (later : Paged) × OnlyHeapBytesChange old before × IsReleasedFor before later at size left × Follows later events new

pub still_none : (p : Paged) → OnlyHeapBytesChange p p
still_none p = record { others = refl; size = refl; tree = λ t. t; walks = λ level number low. refl; larges = λ number. refl; tables = λ level number index met low small is. refl; users = λ address user. refl }

pub still_on : (x y z : Paged) → OnlyHeapBytesChange x y → OnlyHeapBytesChange y z → OnlyHeapBytesChange x z
still_on x y z first second =
    let with_words : Paged → Paged = λ p. record p { words = z.words } in
    let root : y.root ≡ x.root = ap (λ p. p.root) first.others in
    let free : y.free ≡ x.free = ap (λ p. p.free) first.others in
    let regions : y.regions ≡ x.regions = ap (λ p. p.regions) first.others in
    record {
      others = second.others ∙ ap with_words first.others;
      size = second.size ∙ first.size;
      tree = λ t. rw (← root, ← free) (second.tree (rw (root, free) (first.tree t)));
      walks = λ level number low. ap (λ r. reach z.words r level number) (sym root) ∙ (second.walks level number low ∙ (ap (λ r. reach y.words r level number) root ∙ first.walks level number low));
      larges = λ number. ap (λ r. large_of z.words r number) (sym root) ∙ (second.larges number ∙ (ap (λ r. large_of y.words r number) root ∙ first.larges number));
      tables = λ level number index met low small is.
          second.tables level number index met low small (ap (λ r. reach y.words r level number) root ∙ (first.walks level number (omega arith) ∙ is)) ∙ first.tables level number index met low small is;
      users = λ address user. ap (λ r. reached z.words r address) (sym root) ∙ (second.users address (rw regions user) ∙ (ap (λ r. reached y.words r address) root ∙ first.users address user));
    }

pub follows_on : (x y z : Paged) (a b c : List Event) → Follows x a y → Follows y b z → a ++ b ≡ c → Follows x c z
follows_on x y z [] [] c first second is = subst (λ events. Follows x events z) is (still_on x y z first second)
follows_on x y z [] (Granted asked grant ∷ b) c first second is =
    subst (λ events. Follows x events z) is (second.0, second.1, still_on x y second.0 first second.2, second.3, second.4)
follows_on x y z [] (Refused asked fault ∷ b) c first second is =
    subst (λ events. Follows x events z) is (second.0, still_on x y second.0 first second.1, second.2, second.3)
follows_on x y z [] (Released at size left ∷ b) c first second is =
    subst (λ events. Follows x events z) is (second.0, second.1, still_on x y second.0 first second.2, second.3, second.4)
follows_on x y z (Granted asked grant ∷ a) b c first second is =
    subst (λ events. Follows x events z) is (first.0, first.1, first.2, first.3, follows_on first.1 y z a b (a ++ b) first.4 second refl)
follows_on x y z (Refused asked fault ∷ a) b c first second is =
    subst (λ events. Follows x events z) is (first.0, first.1, first.2, follows_on first.0 y z a b (a ++ b) first.3 second refl)
follows_on x y z (Released at size left ∷ a) b c first second is =
    subst (λ events. Follows x events z) is (first.0, first.1, first.2, first.3, follows_on first.1 y z a b (a ++ b) first.4 second refl)
