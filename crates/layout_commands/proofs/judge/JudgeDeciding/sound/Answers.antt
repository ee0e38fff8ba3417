use Rattle.layout_commands.proofs.Judges.{judge_sound}
use Rattle.layout_commands.proofs.judge.JudgeDeciding.sound.Goals as goal

pub returns : goal.returns
returns c = judge_sound
