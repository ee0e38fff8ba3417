use Rattle.std.proofs.Common.{ℕ, List, ◌∙◌, ap}
use Rattle.std.specs.Prelude.{position}
use Rattle.std.specs.Str.{bytes_eq}
use Rattle.problem_data.proofs.MetNames.{position_at}
use Rattle.problem_data.proofs.seen.SeenNames.position.Goals as goal

pub returns : goal.returns
returns c = c.get_index_of.ensures.index ∙ position_at c.args.name.now c.self.inside.names.keys ∙ ap (λ (ns : List (List ℕ)). position (bytes_eq c.args.name.now) ns) c.self.view_is
