use Rattle.search_commands.proofs.OneFirst.{first_sound}
use Rattle.search_commands.proofs.first.FirstDeciding.sound.Goals as goal

pub returns : goal.returns
returns c = first_sound c.args.self.now.most
