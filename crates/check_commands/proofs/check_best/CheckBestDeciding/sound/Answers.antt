use Rattle.check_commands.proofs.ChecksBest.{check_best_sound}
use Rattle.check_commands.proofs.check_best.CheckBestDeciding.sound.Goals as goal

pub returns : goal.returns
returns c = check_best_sound c.args.self.now.dimension c.args.self.now.extent
