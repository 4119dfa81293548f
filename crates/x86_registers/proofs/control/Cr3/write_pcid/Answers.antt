use Rattle.x86_registers.proofs.RootWord.{HasPcid-cr3_word}
use Rattle.x86_registers.proofs.control.Cr3.write_pcid.Goals as goal

pub returns-clause-read_back : goal.returns-clause-read_back
returns-clause-read_back c =
    rw (c.word-cpu.ensures.value, c.value.ensures.value) (HasPcid-cr3_word c.args.frame c.args.pcid c.word-cpu.ensures.frame
    (rw (← c.value.ensures.value) c.value.ensures.below))
