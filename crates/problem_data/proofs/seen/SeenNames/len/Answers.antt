use Rattle.std.proofs.Common.{length, sym, ap, ◌∙◌}
use Rattle.std.proofs.lemmas.List.{length-map}
use Rattle.problem_data.specs.Seen.{bytes_at}
use Rattle.problem_data.proofs.seen.SeenNames.len.Goals as goal

pub returns : goal.returns
returns c = c.len.ensures.len ∙ sym (length-map c.self.inside.names.keys bytes_at) ∙ ap length c.self.view_is
