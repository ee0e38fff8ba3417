use Rattle.std.proofs.Common.{◌≡◌, ◌++◌, length, ap, ◌∙◌, rules}
use Rattle.command_reply.proofs.Ending.{answers_told, replied}
use Rattle.search_commands.specs.Make.{MakeAnswer, counts}
use Rattle.search_commands.specs.Summed.{answer_lines, outcome_status}
use Rattle.search_commands.proofs.Found.{shaped_found, summed}
use Rattle.search_commands.proofs.make.summed.Goals as goal

pub summary-requires : goal.summary-requires
summary-requires c = shaped_found c.args.accepted.problem c.in_ok-outcome.outcome c.in_ok-outcome.ensures.layout

pub returns : goal.returns
returns c =
    let a = c.args.accepted in
    let o = c.in_ok-outcome.outcome in
    let count : c.len-count.result ≡ length a.conditions.items = search rules in
    let own = counts (length a.problem.objects) c.len-count.result ++ answer_lines o in
    let same : own ≡ counts (length a.problem.objects) (length a.conditions.items) ++ answer_lines o = ap (λ k. counts (length a.problem.objects) k ++ answer_lines o) count in
    replied c.summary.result own (outcome_status o) _ c.summary.ensures.text c.summary.ensures.status (λ x e s seed input h rack.
    let y = summed seed c.args.most input a h rack o c.in_ok-outcome.ensures.walk c.in_ok-outcome.ensures.layout in
    answers_told (MakeAnswer seed c.args.most) input (counts (length a.problem.objects) (length a.conditions.items) ++ answer_lines o) x.text.items (outcome_status o) x.status (e ∙ same) s y.0 y.1)
