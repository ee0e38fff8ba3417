use Rattle.json_search_commands.proofs.FirstJsons.{first_json_sound}
use Rattle.json_search_commands.proofs.first_json.FirstJsonDeciding.sound.Goals as goal

pub returns : goal.returns
returns c = first_json_sound c.args.self.now.most
