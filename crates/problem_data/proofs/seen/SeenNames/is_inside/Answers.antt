use Rattle.std.proofs.Common.{ℕ, List, map, ◌↔◌, subst}
use Rattle.problem_data.specs.Seen.{bytes_at}
use Rattle.std.specs.Prelude.{IsTrue}
use Rattle.std.specs.List.{Contains}
use Rattle.problem_data.proofs.MetNames.{inside_all, all_inside}
use Rattle.problem_data.proofs.seen.SeenNames.is_inside.Goals as goal

pub returns : goal.returns
returns c =
    subst (λ (ns : List (List ℕ)). IsTrue c.is_subset.result ↔ ((name : List ℕ) → Contains ns name → Contains c.args.others.now name)) c.self.view_is
    (subst (λ (ms : List (List ℕ)). IsTrue c.is_subset.result ↔ ((name : List ℕ) → Contains (map bytes_at c.self.inside.names.keys) name → Contains ms name)) c.others.view_is
    (λ t. inside_all c.self.inside.names.keys c.others.inside.names.keys (c.is_subset.ensures.0 t), λ h. c.is_subset.ensures.1 (all_inside c.self.inside.names.keys c.others.inside.names.keys h)))
