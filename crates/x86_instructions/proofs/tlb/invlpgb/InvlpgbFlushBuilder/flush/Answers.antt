use Rattle.x86_instructions.proofs.Flushed.{flushes-commands_of}
use Rattle.x86_instructions.proofs.tlb.invlpgb.InvlpgbFlushBuilder.flush.Goals as goal

pub returns-in_err-reserve-in-Some-clause-pages : goal.returns-in_err-reserve-in-Some-clause-pages
returns-in_err-reserve-in-Some-clause-pages g c = let size = g.S.PageSize in
    flushes-commands_of size.SIZE size.is_some size.divides_half size.is_aligned c.args.self.now

pub returns-in_ok-reserve-in-Some-clause-pages : goal.returns-in_ok-reserve-in-Some-clause-pages
returns-in_ok-reserve-in-Some-clause-pages g c = let size = g.S.PageSize in
    flushes-commands_of size.SIZE size.is_some size.divides_half size.is_aligned c.args.self.now
