use Rattle.search_commands.proofs.OneWhy.{why_sound}
use Rattle.search_commands.proofs.why.WhyDeciding.sound.Goals as goal

pub returns : goal.returns
returns c = why_sound c.rounds_are_one.ensures c.args.self.now.most
