-- A new space: the root alone is a table, and the other frames are free.
use Rattle.std.proofs.Common.{◌≡◌, ◌≢◌, ◌∙◌, ap, sym, ℕ, ◌*◌, ◌^◌, ◌<◌, Bool, true, false, Some, None, option_map, List, [], length, set, replicate, subst, arith}
use Rattle.std.specs.Prelude.{IsSome, IsTrue}
use Rattle.std.proofs.lemmas.List.{get_or-replicate, get_or-set_other}
use Rattle.paging_core.specs.Address.{is_canonical}
use Rattle.meminterval.specs.declared.interval.Interval.{Interval}
use Rattle.paging_core.specs.declared.page_table.Rights.{Rights}
use Rattle.address_space.specs.Runs.{RunsFollow, AreLongest, rights_in}
use Rattle.paging_core.specs.Memory.{frame_count}
use Rattle.paging_core.specs.Pool.{is_frame_free, FreeBelow}
use Rattle.paging_core.specs.Walk.{reach, large_of, walk_of, top}
use Rattle.paging_core.specs.PageBits.{bits_of, bits_at}
use Rattle.paging_core.specs.Tree.{IsTree}
use Rattle.paging_core.proofs.Reach.{reach_zero}
use Rattle.address_space.specs.Space.{Tables, AreTablesKept}

root_met : (words : List ℕ) (root : ℕ) → reach words root 0 0 ≡ Some (top root)
root_met words root = reach_zero words root 0

free_left : (count root frame : ℕ) → frame < count → frame ≢ root → is_frame_free (set (replicate count true) root false) frame ≡ true
free_left count root frame less other = get_or-set_other (replicate count true) root frame false false other ∙ get_or-replicate count frame true false less

none_canonical : (page : ℕ) → IsSome (rights_in [] page) → IsTrue (is_canonical (page * 4096))
none_canonical page h = absurd (cc)

none_longest : AreLongest []
none_longest page h same = absurd (cc)

pub new_kept : (t : Tables) (count : ℕ) → t.runs ≡ [] → count < 2 ^ 32 → frame_count t.words ≡ count →
    t.free ≡ set (replicate count true) t.root false → length t.free ≡ count →
    FreeBelow t.free (frame_count t.words) → t.root < frame_count t.words → IsTree t.words t.root t.free → ((page : ℕ) → walk_of t.words t.root page ≡ None) →
    ((slot : ℕ) → large_of t.words t.root slot ≡ None) → AreTablesKept t
new_kept t count runs few frames free flags known root tree nothing no_large = record {
  tree = tree;
  known = known;
  flags = flags ∙ sym frames;
  root_in = root;
  few_frames = omega (arith, few, frames);
  canonical = subst (λ (es : List (Interval ℕ × Rights)). (page : ℕ) → IsSome (rights_in es page) →
      IsTrue (is_canonical (page * 4096))) (sym runs) none_canonical;
  found = λ page canonical. ap (option_map bits_at) (nothing page) ∙ ap (λ (es : List (Interval ℕ × Rights)). option_map bits_of (rights_in es page)) (sym runs);
  accounted = λ frame less unmet. (let other : frame ≢ t.root = λ is. unmet 0 0 (top t.root) (omega arith)
      (root_met t.words t.root) (sym is) in ap (λ (flags : List Bool). is_frame_free flags frame) free
      ∙ free_left count t.root frame (omega (arith, less, frames)) other);
  no_large = no_large;
  follow = subst (λ (es : List (Interval ℕ × Rights)). RunsFollow 0 es (2 ^ 52)) (sym runs) (omega arith);
  longest = subst AreLongest (sym runs) none_longest;
}
