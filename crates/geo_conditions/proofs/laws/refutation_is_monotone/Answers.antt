use Rattle.std.proofs.Common.{sym, ◌∙◌}
use Rattle.std.proofs.lemmas.Bool.{false_from_ne_true, false≢true}
use Rattle.geo_conditions.specs.Conditions.{possible}
use Rattle.geo_conditions.proofs.Monotone.{possible_wider}
use Rattle.geo_conditions.proofs.laws.refutation_is_monotone.Goals as goal

pub returns : goal.returns
returns c = λ e S T inside full refuted. false_from_ne_true (possible e T) (λ p. false≢true (sym refuted ∙ possible_wider e T S inside full p))
