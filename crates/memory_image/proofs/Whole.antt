-- The parts of an image, one after the other.
use Rattle.std.proofs.Common.{◌≡◌, ℕ, List, ◌++◌, ◌∙◌, ap, append_assoc}
use Rattle.std.specs.List.{flat_map}
use Rattle.machine_model.specs.declared.region.Region.{Region}
use Rattle.heap_program.specs.Text.{region_line}
use Rattle.kernel_heap.specs.Machine.{system_of}
use Rattle.kernel_heap.specs.Parts.{Parts}
use Rattle.paged_systems.specs.System.{paged}
use Rattle.paged_systems.specs.declared.paged_system.PagedSystem.{PagedSystem}
use Rattle.x86_registers.specs.declared.cpu.Cpu.{Cpu}
use Rattle.memory_image.specs.Image.{registers_line, memory_text, image_text}

-- a text and what comes after it
pub behind : (old part new text rest : List ℕ) → new ≡ part ++ rest → part ≡ old ++ text → new ≡ old ++ (text ++ rest)
behind old part new text rest last first = last ∙ ap (λ (t : List ℕ). t ++ rest) first ∙ append_assoc old text rest

pub whole : (machine : Parts) (system : PagedSystem) (cpu : Cpu) (regions : List Region) (words old one two new : List ℕ) →
    system ≡ system_of machine.heap → cpu ≡ machine.cpu → regions ≡ (paged system).regions → words ≡ (paged system).words
    → one ≡ old ++ registers_line cpu → two ≡ one ++ flat_map region_line regions → new ≡ two ++ memory_text words → new ≡ old ++ image_text machine
whole machine system cpu regions words old one two new is same listed held first second last =
    let lines = flat_map region_line regions in
    let memory = memory_text words in
    last
    ∙ ap (λ (t : List ℕ). t ++ memory) (second ∙ ap (λ (t : List ℕ). t ++ lines) first)
    ∙ append_assoc (old ++ registers_line cpu) lines memory
    ∙ append_assoc old (registers_line cpu) (lines ++ memory)
    ∙ ap (λ (x : Cpu). old ++ (registers_line x ++ (lines ++ memory))) same
    ∙ ap (λ (rs : List Region). old ++ (registers_line machine.cpu ++ (flat_map region_line rs ++ memory)))
    (listed ∙ ap (λ (y : PagedSystem). (paged y).regions) is)
    ∙ ap (λ (ws : List ℕ). old ++ (registers_line machine.cpu ++ (flat_map region_line
    (paged (system_of machine.heap)).regions ++ memory_text ws))) (held ∙ ap (λ (y : PagedSystem). (paged y).words) is)
