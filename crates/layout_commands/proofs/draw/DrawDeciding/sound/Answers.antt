use Rattle.layout_commands.proofs.Draws.{draw_sound}
use Rattle.layout_commands.proofs.draw.DrawDeciding.sound.Goals as goal

pub returns : goal.returns
returns c = draw_sound
