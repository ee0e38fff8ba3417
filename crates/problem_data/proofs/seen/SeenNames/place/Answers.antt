use Rattle.std.proofs.Common.{sym, ◌∙◌}
use Rattle.std.specs.Str.{bytes_eq}
use Rattle.problem_data.proofs.Distinct.{behind_all}
use Rattle.problem_data.proofs.seen.SeenNames.place.Goals as goal

pub returns-in-None-clause-value : goal.returns-in-None-clause-value
returns-in-None-clause-value c = c.len.ensures ∙ behind_all (bytes_eq c.args.name.now) c.args.self.now (sym c.position.ensures ∙ c.in-None.is)
