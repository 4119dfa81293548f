-- Stores after which every page leads where it led.
use Rattle.std.proofs.Common.{◌≡◌, ℕ, ◌<◌, ◌≤◌, Bool, true, false, List, Some, ap, sym, ◌∙◌, arith}
use Rattle.paging_core.specs.Area.{Area}
use Rattle.paging_core.specs.Memory.{word_at}
use Rattle.paging_core.specs.Moments.{IsChangedIn, IsStill}
use Rattle.paging_core.specs.Pool.{is_frame_free}
use Rattle.paging_core.specs.Prefix.{prefix_of}
use Rattle.paging_core.specs.Tables.{IsPrepared}
use Rattle.paging_core.specs.Tree.{IsTreeIn}
use Rattle.paging_core.specs.Walk.{Place, reach}
use Rattle.paging_core.proofs.Made.{tree_same}
use Rattle.paging_core.proofs.Prefixes.{walk_reach}
use Rattle.paging_core.proofs.Reach.{reach_same}
use Rattle.paging_core.proofs.Areas.{own_table}

pub still_then : {area : Area} (old mid now : List ℕ) (root : ℕ) → IsStill area old root mid → IsStill area mid root now → IsStill area old root now
still_then old mid now root one two = record { tree = two.tree; leads = λ page. two.leads page ∙ one.leads page }

-- the walk meets what it met
pub still_reached : {area : Area} (old now : List ℕ) (root : ℕ) (free : List Bool) → IsTreeIn area now root free →
    ((n : ℕ) → reach now root 4 n ≡ reach old root 4 n) → IsStill area old root now
still_reached old now root free tree same = record {
  tree = (free, tree);
  leads = λ page. walk_reach now root page ∙ (same (prefix_of page 4) ∙ sym (walk_reach old root page));
}

-- a frame is written that was free
pub still_free : {area : Area} (old now : List ℕ) (root : ℕ) (free : List Bool) (frame : ℕ) → IsTreeIn area old root free → is_frame_free free frame ≡ true →
    IsChangedIn old now frame → IsStill area old root now
still_free {area} old now root free frame tree was_free only =
    still_reached old now root free (tree_same old now root free only.size words tree) (λ n. reach_same old now root only.size words 4 n (omega arith))
  where
    words : (l n : ℕ) (b : Place) (j : ℕ) → l < 4 → reach old root l n ≡ Some b → j < 512 → word_at now b.frame j ≡ word_at old b.frame j
    words l n b j lt is lj =
        only.others b.frame j lj (λ e. let u : is_frame_free free b.frame ≡ false = tree.used l n b (own_table area l lt) is in
        let x =
        ap (λ f. is_frame_free free f) e in let w = was_free in absurd (cc))

-- tables were made that a page misses
pub still_prepared : {area : Area} (old now : List ℕ) (root page level : ℕ) (free free' : List Bool) → level ≤ 3 → IsTreeIn area now root free' →
    IsPrepared old now free free' root page level → IsStill area old root now
still_prepared old now root page level free free' le tree prepared =
    still_reached old now root free' tree (λ n. prepared.others 4 n (omega arith) (λ ll _. absurd (omega arith)))
