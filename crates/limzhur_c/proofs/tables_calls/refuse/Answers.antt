use Rattle.std.proofs.Common.{refl, ◌∙◌}
use Rattle.limzhur_c.proofs.tables_calls.refuse.Goals as goal

pub returns-in-NotCanonical-clause-told : goal.returns-in-NotCanonical-clause-told
returns-in-NotCanonical-clause-told c = rw c.in-NotCanonical.is refl

pub returns-in-PastLimit-clause-told : goal.returns-in-PastLimit-clause-told
returns-in-PastLimit-clause-told c = rw c.in-PastLimit.is refl

pub returns-in-InArea-clause-told : goal.returns-in-InArea-clause-told
returns-in-InArea-clause-told c = rw c.in-InArea.is refl

pub returns-in-NoFrames-clause-told : goal.returns-in-NoFrames-clause-told
returns-in-NoFrames-clause-told c = rw c.in-NoFrames.is refl

pub returns-in-IsMapped-clause-told : goal.returns-in-IsMapped-clause-told
returns-in-IsMapped-clause-told c = rw c.in-IsMapped.is (c.as_u64.ensures.value ∙ c.start_address.ensures)

pub returns-in-NotMapped-clause-told : goal.returns-in-NotMapped-clause-told
returns-in-NotMapped-clause-told c = rw c.in-NotMapped.is (c.as_u64-in-NotMapped.ensures.value ∙ c.start_address-in-NotMapped.ensures)

pub returns-in-LeadsIntoArea-clause-told : goal.returns-in-LeadsIntoArea-clause-told
returns-in-LeadsIntoArea-clause-told c = rw c.in-LeadsIntoArea.is (c.as_u64-in-LeadsIntoArea.ensures.value ∙ c.start_address-in-LeadsIntoArea.ensures)
