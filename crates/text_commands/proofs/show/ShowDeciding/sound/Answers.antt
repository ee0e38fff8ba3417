use Rattle.text_commands.proofs.Shows.{show_sound}
use Rattle.text_commands.proofs.show.ShowDeciding.sound.Goals as goal

pub returns : goal.returns
returns c = show_sound
