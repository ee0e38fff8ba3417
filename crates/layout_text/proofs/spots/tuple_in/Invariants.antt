use Rattle.std.proofs.Common.{◌≡◌, map, take}
use Rattle.layout_text.specs.Token.{tuple_in}
use Rattle.layout_text.specs.View.{group_view}
use Rattle.layout_text.proofs.spots.tuple_in.Given as goal

-- what the groups so far give
abbrev pub invariant-loop-group : goal.invariant-loop-group
invariant-loop-group l = l.layout ≡ tuple_in (map group_view (take l.group-index l.groups))
