use Rattle.std.proofs.Common.{◌≡◌, List, [], ◌∷◌, ◌++◌, length, subst, OnOk}
use Rattle.geo_conditions.specs.Reach.{State}
use Rattle.derivation.specs.declared.event.Event.{Event}
use Rattle.derivation_check.specs.Machine.{HasTaken}
use Rattle.derivation_check.specs.Checking.{Checking}
use Rattle.derivation_check.proofs.SameDims.{all_fit}
use Rattle.derivation_check.proofs.Steady.{shape_of, taken_on}
use Rattle.derivation_check.proofs.checker.Checker.give.Goals as goal

pub invariant_of-self : goal.invariant_of-self
invariant_of-self g c =
    let cs = c.self.inside.conds.now in
    let m = c.self.inside.progress in
    all_fit cs m.state c.give.new.self.state (shape_of cs m c.give.new.self c.args.e c.give.result c.give.ensures.ok c.give.ensures.err) c.self.invariant

pub returns-clause-taken : goal.returns-clause-taken
returns-clause-taken g c =
    subst (λ (x : Checking). OnOk c.give.result ((first : State) (es : List Event) → HasTaken x.conds first es x.machine → HasTaken x.conds first (es ++ c.args.e ∷ []) c.give.new.self)) c.self.view_is
    (taken_on c.self.inside.conds.now c.self.inside.progress c.give.new.self c.args.e c.give.result c.give.ensures.ok)

pub returns-clause-objects : goal.returns-clause-objects
returns-clause-objects g c =
    subst (λ (x : Checking). length c.give.new.self.state ≡ length x.machine.state) c.self.view_is
    (shape_of c.self.inside.conds.now c.self.inside.progress c.give.new.self c.args.e c.give.result c.give.ensures.ok c.give.ensures.err).objects
