use Rattle.std.proofs.Common.{◌∙◌, sym}
use Rattle.std.proofs.lemmas.Bool.{eq-eqb, true≢false}
use Rattle.object_pruning.proofs.gathering.can_be_in_the_way.Goals as goal

pub returns-then-group-eq0 : goal.returns-then-group-eq0
returns-then-group-eq0 c = λ never. absurd (true≢false (sym (eq-eqb c.args.group.now.other_place 0 c.if-group-eq0.true) ∙ never))
