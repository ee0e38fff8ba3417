use Rattle.layout_commands.proofs.Loads.{load_sound}
use Rattle.layout_commands.proofs.load.LoadDeciding.sound.Goals as goal

pub returns : goal.returns
returns c = load_sound c.args.self.now.dimension
