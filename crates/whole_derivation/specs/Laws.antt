-- The laws of whole derivations, as statements.
use Rattle.std.specs.Prelude.{ℕ, List, ◌∷◌, ◌++◌}
use Rattle.geo_conditions.specs.declared.cond.Cond.{Cond}
use Rattle.geo_conditions.specs.Reach.{State}
use Rattle.derivation.specs.declared.event.Event.{Event}
use Rattle.derivation.specs.declared.half.Half.{Half}
use Rattle.derivation.specs.Chains.{Leads, Closes}
use Rattle.derivation.specs.Nodes.{split_event}
use Rattle.derivation.specs.Valid.{first_part, second_part, change}
use Rattle.whole_derivation.specs.Whole.{HalfFits, IsDerivation, Completes}

abbrev pub ChainsGoOn : Type 0
ChainsGoOn = (cs : List Cond) (S T : State) (es : List Event) → Leads cs S es T → Completes cs S es T

abbrev pub EndingsClose : Type 0
EndingsClose = (cs : List Cond) (S : State) (es : List Event) → Closes cs S es → IsDerivation cs S es

abbrev pub SplitsJoin : Type 0
SplitsJoin = (cs : List Cond) (S : State) (o : ℕ) (half : Half) (es fs : List Event) → HalfFits S o half
    → IsDerivation cs (change (first_part half) S o) es → IsDerivation cs (change (second_part half) S o) fs
    → IsDerivation cs S (split_event o half ∷ (es ++ fs))
