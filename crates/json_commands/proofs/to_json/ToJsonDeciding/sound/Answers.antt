use Rattle.json_commands.proofs.Written.{to_json_sound}
use Rattle.json_commands.proofs.to_json.ToJsonDeciding.sound.Goals as goal

pub returns : goal.returns
returns c = to_json_sound
