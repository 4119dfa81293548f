use Rattle.x86_registers.proofs.RootWord.{HasPcid-no_flush}
use Rattle.x86_registers.proofs.control.Cr3.write_pcid_no_flush.Goals as goal

pub returns-clause-read_back : goal.returns-clause-read_back
returns-clause-read_back c =
    rw (c.word.ensures.value, c.value.ensures.value) (HasPcid-no_flush c.args.frame c.args.pcid c.word.ensures.frame
    (rw (← c.value.ensures.value) c.value.ensures.below))
