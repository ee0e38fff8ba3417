use Rattle.std.proofs.Common.{map, refl}
use Rattle.problem_data.specs.ProblemView.{param_data}
use Rattle.problem_text.specs.Canonical.{param_spelling}
use Rattle.problem_text.proofs.PrintingLists.{left_listed, comma_joined, comma_joined_end, none_left}
use Rattle.problem_text.proofs.print.part.spell_params.Goals as goal

pub params-preserved : goal.params-preserved
params-preserved c =
    comma_joined (λ b xs. left_listed b param_spelling (map param_data xs)) (λ x. param_spelling (param_data x)) (λ x xs. refl) (λ x xs. refl) c.params.is_first c.args.params.now c.params.param-index c.param-item.result _ _ _ _ c.params-test.true c.param-item.is (c.in_ok-push_if.ensures {u = tt}) (c.in_ok-spell_param.ensures {u = tt}) c.params.invariant

pub returns : goal.returns
returns c =
    comma_joined_end (λ b xs. left_listed b param_spelling (map param_data xs)) (none_left param_spelling) c.params.is_first c.args.params.now c.params.param-index _ _ c.params-test.false c.params.invariant
