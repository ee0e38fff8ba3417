use Rattle.std.proofs.Common.{◌≡◌, false, take, get_or}
use Rattle.std.specs.List.{list_any}
use Rattle.geo_conditions.specs.declared.object.ObjId.{ObjId}
use Rattle.fixpoint.proofs.kept.is_any_marked.Given as goal

abbrev pub invariant-loop-o : goal.invariant-loop-o
invariant-loop-o l = list_any (λ (o : ObjId). get_or l.marks o.0 false) (take l.o-index l.list) ≡ false
