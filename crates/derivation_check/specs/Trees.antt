-- Which events are those of one tree, and of one that is valid.
use Rattle.std.specs.Prelude.{◌≡◌, ℕ, List, length}
use Rattle.std.specs.List.{All}
use Rattle.geo_conditions.specs.declared.cond.Cond.{Cond}
use Rattle.geo_conditions.specs.Reach.{State}
use Rattle.derivation.specs.declared.event.Event.{Event}
use Rattle.derivation.specs.Fits.{EventFits}
use Rattle.derivation.specs.Nodes.{Node, node_events}
use Rattle.derivation.specs.Valid.{Valid}

-- the events are those of one tree
abbrev pub IsOneTree : List Event → Type 0
IsOneTree es = (root : Node) × (es ≡ node_events root)

-- the events are those of one tree, which is valid on S; what they name exists there, in K
-- dimensions
pub record IsValidTree (K : ℕ) (cs : List Cond) (S : State) (es : List Event) : Type 0 where
  pub root : Node
  pub events : es ≡ node_events root
  pub valid : Valid cs S root
  pub fits : All (EventFits (length S) K) es
