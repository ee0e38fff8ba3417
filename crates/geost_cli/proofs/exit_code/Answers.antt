use Rattle.std.proofs.Common.{◌∙◌}
use Rattle.geost_cli.proofs.exit_code.Goals as goal

pub returns : goal.returns
returns c = c.from.ensures ∙ c.number.ensures
