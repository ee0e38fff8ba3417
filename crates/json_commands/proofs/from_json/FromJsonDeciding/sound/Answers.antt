use Rattle.json_commands.proofs.Spelled.{from_json_sound}
use Rattle.json_commands.proofs.from_json.FromJsonDeciding.sound.Goals as goal

pub returns : goal.returns
returns c = from_json_sound
