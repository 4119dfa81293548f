use Rattle.std.proofs.Common.{◌≡◌, ℕ, List, ◌++◌, string_bytes, ◌∙◌, ap, append_assoc}
use Rattle.std.proofs.lemmas.Result.{on_ok_weaker}
use Rattle.std.specs.List.{flat_map}
use Rattle.kernel_heap.specs.Machine.{seen, system_of}
use Rattle.paged_systems.specs.System.{paged}
use Rattle.paged_systems.specs.declared.paged_system.PagedSystem.{PagedSystem}
use Rattle.paging_core.specs.Pool.{free_count}
use Rattle.heap_program.specs.Text.{region_line, counts_line}
use Rattle.heap_program.proofs.Texts.{end_told}
use Rattle.heap_program.proofs.text.push_end.Goals as goal

pub returns : goal.returns
returns c = on_ok_weaker c.push_counts.result (λ written s stands.
    let out = string_bytes c.args.out.now in
    let system : c.system-system.result.now ≡ system_of c.args.machine.now.heap = c.system-system.ensures in
    let counts = counts_line c.free_frames.result c.tables.result in
    let told = end_told (seen c.args.machine.now) s c.as_slice.result.now c.free_frames.result c.tables.result stands
    (c.as_slice.ensures ∙ c.in_ok-regions.ensures ∙ ap (λ (p : PagedSystem). (paged p).regions) system)
    (c.free_frames.ensures ∙ ap (λ (p : PagedSystem). free_count (paged p).free) system)
    (c.tables.ensures ∙ ap (λ (p : PagedSystem). (paged p).tables) system) in
    written
    ∙ ap (λ (l : List ℕ). l ++ counts) c.in_ok-push_region_lines.ensures
    ∙ append_assoc out (flat_map region_line c.as_slice.result.now) counts
    ∙ ap (λ (l : List ℕ). out ++ l) told) c.push_counts.ensures
