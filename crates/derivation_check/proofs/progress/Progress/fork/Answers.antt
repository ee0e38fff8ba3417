use Rattle.std.proofs.Common.{◌≡◌, ◌+◌, ◌-◌, ◌∷◌, [], ◌++◌, List, length, arith, set, reverse, ap, ◌∙◌}
use Rattle.geo_conditions.specs.Reach.{Region}
use Rattle.derivation.specs.Cuts.{near}
use Rattle.derivation_check.specs.Machine.{Machine, with_boxes, forked}
use Rattle.derivation_check.proofs.Steps.{forked_is}
use Rattle.derivation_check.proofs.progress.Progress.fork.Goals as goal

pub returns-in_ok-push-clause-ok : goal.returns-in_ok-push-clause-ok
returns-in_ok-push-clause-ok g c =
    let k = c.len-n.result - 1 in
    let old = c.self.inside.boxes.items in
    let side = c.args.side in
    let b = c.index.result.now in
    let n : k + 1 ≡ length old = omega arith in
    let e : reverse (set c.push.new.self.items k c.far.result) ≡ forked side (reverse old) =
    ap (λ (xs : List Region). reverse (set xs k c.far.result)) c.in_ok-push.ensures.items
    ∙ ap (λ (z : Region). reverse (set (old ++ z ∷ []) k c.far.result)) c.near.ensures
    ∙ ap (λ (z : Region). reverse (set (old ++ near side b ∷ []) k z)) c.far.ensures
    ∙ forked_is side old k b b n c.index.ensures in
    ap (λ (bs : List Region). record { state = c.self.inside.state; tasks = reverse c.self.inside.tasks.items; work = c.self.inside.work; boxes = bs; nodes = c.self.inside.nodes; failed = c.self.inside.failed }) e
    ∙ ap (λ (m : Machine). with_boxes m (forked side m.boxes)) c.self.view_is
