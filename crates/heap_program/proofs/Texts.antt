-- What is printed of regions, and at the end.
use Rattle.std.proofs.Common.{◌≡◌, ℕ, ◌<◌, List, [], ◌∷◌, ◌++◌, length, refl, ◌∙◌, arith}
use Rattle.std.specs.List.{flat_map}
use Rattle.machine_model.specs.declared.region.Region.{Region}
use Rattle.machine_model.specs.State.{State}
use Rattle.machine_model.specs.Machine.{Seen, Stands}
use Rattle.paging_core.specs.Pool.{free_count}
use Rattle.heap_program.specs.Text.{spaced, pages_text, heap_regions_text, region_line, counts_line, end_text_of}

pub regions_some : (rs : List Region) → 0 < length rs → heap_regions_text rs ≡ spaced pages_text rs
regions_some [] some = absurd (omega (arith, some))
regions_some (r ∷ rs) some = refl

-- what a machine tells is what its state says
pub end_told : (m : Seen) (s : State) (regions : List Region) (frames tables : ℕ) → Stands m s → regions ≡ m.paged.regions →
    frames ≡ free_count m.paged.free → tables ≡ m.paged.tables → flat_map region_line regions ++ counts_line frames
    tables ≡ end_text_of s
unfolding end_text_of
end_told m s regions frames tables stands rs fs ts = λ i. flat_map region_line ((rs ∙ stands.regions) i) ++ counts_line
    ((fs ∙ stands.free_frames) i) ((ts ∙ stands.table_count) i)
