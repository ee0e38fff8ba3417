use Rattle.search_commands.proofs.OneFirst.{make_sound}
use Rattle.search_commands.proofs.make.MakeDeciding.sound.Goals as goal

pub returns : goal.returns
returns c = make_sound c.args.self.now.seed c.args.self.now.most
