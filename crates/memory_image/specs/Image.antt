-- The image of a machine: what a processor has to be given so that it finds the same.
use Rattle.std.specs.Prelude.{ℕ, ◌+◌, ◌*◌, List, [], ◌∷◌, ◌++◌, ◌==◌, if◌then◌else◌, codes, decimal}
use Rattle.std.specs.List.{flat_map}
use Rattle.paging_core.specs.Memory.{frame_count}
use Rattle.heap_program.specs.Text.{hexadecimal, region_line}
use Rattle.kernel_heap.specs.Machine.{system_of}
use Rattle.kernel_heap.specs.Parts.{Parts}
use Rattle.paged_systems.specs.System.{paged}
use Rattle.x86_registers.specs.declared.cpu.Cpu.{Cpu}

-- a number after a space
abbrev pub number_text : ℕ → List ℕ
number_text number = codes " " ++ hexadecimal number

-- CR0, CR2, CR3, CR4 and EFER
abbrev pub registers_line : Cpu → List ℕ
registers_line cpu =
    codes "registers" ++ (number_text cpu.cr0 ++ (number_text cpu.cr2 ++ (number_text cpu.cr3 ++ (number_text cpu.cr4 ++ (number_text cpu.efer ++ codes "\n")))))

-- the physical address of a word, and its value; a word of value 0 has no line
abbrev pub word_line : ℕ → ℕ → List ℕ
word_line place word = if word == 0 then [] else codes "word " ++ (hexadecimal place ++ (codes " " ++ (hexadecimal word ++ codes "\n")))

-- the words from one of this number on; a word has eight bytes
abbrev pub word_lines : ℕ → List ℕ → List ℕ
word_lines number [] = []
word_lines number (word ∷ words) = word_line (8 * number) word ++ word_lines (number + 1) words

-- how many frames there are, and the words from address 0 on
abbrev pub memory_text : List ℕ → List ℕ
memory_text words = codes "memory " ++ (decimal (frame_count words) ++ (codes "\n" ++ word_lines 0 words))

-- the registers, the regions by address, and the memory
abbrev pub image_text : Parts → List ℕ
image_text machine =
    let p = paged (system_of machine.heap) in
    registers_line machine.cpu ++ (flat_map region_line p.regions ++ memory_text p.words)
