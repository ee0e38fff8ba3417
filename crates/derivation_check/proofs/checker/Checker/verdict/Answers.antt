use Rattle.std.proofs.Common.{length, sym, subst, ◌∙◌}
use Rattle.std.specs.List.{All}
use Rattle.geo_base.specs.Tuple.{Tuple}
use Rattle.geo_conditions.specs.Reach.{State}
use Rattle.derivation.specs.Nodes.{Node, node_events}
use Rattle.derivation.specs.Fits.{EventFits}
use Rattle.derivation_check.specs.Judges.{Judges}
use Rattle.derivation_check.specs.Machine.{HasTaken}
use Rattle.derivation_check.specs.Sound.{Solves}
use Rattle.derivation_check.specs.Checking.{Checking}
use Rattle.derivation_check.proofs.Verdict.{answers}
use Rattle.derivation_check.proofs.Certain.{no_solution}
use Rattle.derivation_check.proofs.checker.Checker.verdict.Goals as goal

pub returns-clause-judges : goal.returns-clause-judges
returns-clause-judges g c =
    subst (λ (x : Checking). (first : State) (root : Node) → HasTaken x.conds first (node_events root) x.machine → Judges x.conds first root c.verdict.result) c.self.view_is
    (λ first root h. subst (Judges c.self.inside.conds.now first root) (sym c.verdict.ensures) (answers c.self.inside.conds.now first root c.self.inside.progress h))

pub returns-clause-sound : goal.returns-clause-sound
returns-clause-sound g c = λ yes.
    subst (λ (x : Checking). (first : State) (root : Node) → HasTaken x.conds first (node_events root) x.machine → All (EventFits (length first) g.row.K) (node_events root) → (t : Tuple) → Solves x.conds first t → ⊥) c.self.view_is
    (λ first root h f t s. no_solution c.self.inside.conds.now first g.row.K root t f (subst (Judges c.self.inside.conds.now first root) (sym c.verdict.ensures ∙ yes) (answers c.self.inside.conds.now first root c.self.inside.progress h)) s)
