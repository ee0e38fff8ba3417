use Rattle.search_commands.proofs.OneBest.{best_sound}
use Rattle.search_commands.proofs.best.BestDeciding.sound.Goals as goal

pub returns : goal.returns
returns c = best_sound c.args.self.now.dimension c.args.self.now.most
