use Rattle.std.proofs.Common.{◌∙◌}
use Rattle.geo_state.proofs.Numbers.{kept64}
use Rattle.object_pruning.proofs.kept.end_stands.Goals as goal

pub returns-then-is_kept_there : goal.returns-then-is_kept_there
returns-then-is_kept_there g c = λ t cs all.
    let w = c.is_kept_there.ensures c.if-is_kept_there.true cs all in
    (w.0, w.1, w.2, w.3 ∙ kept64 c.end_of-there.result c.end_of-there.type_inv ∙ c.end_of-there.ensures)

pub returns-then-is_kept_there-2 : goal.returns-then-is_kept_there-2
returns-then-is_kept_there-2 g c = λ t cs all.
    let w = c.is_kept_there-in-loop-before.ensures c.if-is_kept_there-2.true cs all in
    (w.0, w.1, w.2, w.3 ∙ kept64 c.end_of-there.result c.end_of-there.type_inv ∙ c.end_of-there.ensures)
