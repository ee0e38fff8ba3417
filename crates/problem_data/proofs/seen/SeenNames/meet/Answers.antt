use Rattle.std.proofs.Common.{ℕ, List, map, ◌∙◌, ap}
use Rattle.std.specs.Prelude.{not}
use Rattle.std.specs.List.{list_any}
use Rattle.std.specs.Str.{bytes_eq}
use Rattle.problem_data.specs.Seen.{meet, bytes_at}
use Rattle.problem_data.proofs.MetNames.{meet_at, any_at}
use Rattle.problem_data.proofs.seen.SeenNames.meet.Goals as goal

pub returns-clause-met : goal.returns-clause-met
returns-clause-met c = ap (map bytes_at) c.in_ok-is_new.ensures.keys ∙ meet_at c.args.name c.self.inside.names.keys ∙ ap (λ (ns : List (List ℕ)). meet ns c.args.name.now) c.self.view_is

pub returns-clause-is_new : goal.returns-clause-is_new
returns-clause-is_new c = c.in_ok-is_new.ensures.added ∙ ap not (any_at c.args.name.now c.self.inside.names.keys ∙ ap (λ (ns : List (List ℕ)). list_any (bytes_eq c.args.name.now) ns) c.self.view_is)
