use Rattle.check_commands.proofs.OneCheck.{check_sound}
use Rattle.check_commands.proofs.check.CheckDeciding.sound.Goals as goal

pub returns : goal.returns
returns c = check_sound
