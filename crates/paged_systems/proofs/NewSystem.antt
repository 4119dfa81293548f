-- A new system, and the start of a run.
use Rattle.std.proofs.Common.{ℕ, ◌^◌, sym, arith, subst}
use Rattle.machine_model.specs.Machine.{Paged}
use Rattle.mapped_regions.specs.Mapped.{IsMapped, IsEmpty}
use Rattle.paged_systems.specs.Window.{IsHeapWindow}
use Rattle.mapped_regions.specs.Regions.{AreLaid}
use Rattle.paged_systems.specs.Layout.{IsNew}

-- where nothing is mapped, the system is new
pub new_is : (p : Paged) (base pages frames : ℕ) → IsHeapWindow base pages → IsMapped p → IsEmpty p base pages frames → IsNew p base pages frames
new_is p base pages frames window m e = record {
  kept = record {
    window = subst (λ b. IsHeapWindow b p.pages) (sym e.base_is) (subst (IsHeapWindow base) (sym e.pages_is) window);
    mapped = m;
    laid = subst (λ regions. AreLaid 0 regions (2 ^ 64)) (sym e.regions_is) (omega arith);
  };
  base_is = e.base_is;
  pages_is = e.pages_is;
  regions_is = e.regions_is;
  tables_is = e.tables_is;
  frames_are = e.frames_are;
  free_frames = e.free_frames;
  no_tables = e.no_tables;
  no_larges = e.no_larges;
  unmapped = e.unmapped;
}
