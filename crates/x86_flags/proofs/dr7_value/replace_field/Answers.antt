use Rattle.x86_flags.proofs.Dr7.{field-replaced}
use Rattle.x86_flags.proofs.dr7_value.replace_field.Goals as goal

pub returns : goal.returns
returns c = field-replaced c.args.bits c.args.at c.args.value c.requires.bits c.requires.at c.requires.value
