use Rattle.bins.proofs.Bits.{bits_lead}
use Rattle.bins.proofs.laws.bits_lead.Goals as goal

pub returns : goal.returns
returns c =
    λ regions words bins index linked size bin chunk others in_bin listed. bits_lead regions words bins index linked size bin chunk others in_bin listed
