use Rattle.std.specs.Option.{option_copied}
use Rattle.search_commands.proofs.OnePage.{all_sound}
use Rattle.search_commands.proofs.all.AllDeciding.sound.Goals as goal

pub returns : goal.returns
returns c = all_sound c.args.self.now.request.most c.args.self.now.request.budget (option_copied c.args.self.now.request.token)
