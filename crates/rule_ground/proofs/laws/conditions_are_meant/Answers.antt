use Rattle.std.proofs.Common.{ap, sym, ◌∙◌}
use Rattle.std.specs.Prelude.{Ok}
use Rattle.rule_ground.specs.Rules.{grounded}
use Rattle.rule_ground.proofs.Few.{grounded-few}
use Rattle.rule_ground.proofs.Fit.{grounded-fit}
use Rattle.rule_ground.proofs.Grounded.{no-fault}
use Rattle.rule_ground.proofs.Meaning.{ground-meant}
use Rattle.rule_ground.proofs.Said.{said-rules}
use Rattle.rule_ground.proofs.laws.conditions_are_meant.Goals as goal

pub returns : goal.returns
returns c = λ expands grounds cs trees.
    let p = c.args.problem.now in
    let w = c.is_said.ensures.formed in
    let e = no-fault (grounded p) grounds ∙ ap Ok (sym trees) in
    record {
      fit = grounded-fit p w cs e;
      few = grounded-few p cs w (said-rules p c.is_said.ensures.said) e;
      meaning = ground-meant p cs w expands e;
    }
