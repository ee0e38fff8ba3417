use Rattle.std.proofs.Common.{ℕ, List, ◌∙◌, ap}
use Rattle.std.specs.List.{list_any}
use Rattle.std.specs.Str.{bytes_eq}
use Rattle.problem_data.proofs.MetNames.{any_at}
use Rattle.problem_data.proofs.seen.SeenNames.has.Goals as goal

pub returns : goal.returns
returns c = c.contains.ensures ∙ any_at c.args.name.now c.self.inside.names.keys ∙ ap (λ (ns : List (List ℕ)). list_any (bytes_eq c.args.name.now) ns) c.self.view_is
