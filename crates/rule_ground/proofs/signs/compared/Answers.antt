use Rattle.std.proofs.Common.{◌∙◌, Bool, false, sym, ap}
use Rattle.linear_conditions.specs.Leaves.{under}
use Rattle.rule_ground.proofs.signs.compared.Goals as goal

pub returns-in-Eq : goal.returns-in-Eq
returns-in-Eq c = sym (ap (λ (s : Bool). under s c.args.rel) c.if-sign.false ∙ ap (under false) c.in-Eq.is)
