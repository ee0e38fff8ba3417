-- The laws of the texts of derivations, as statements.
use Rattle.std.specs.Prelude.{◌≤◌, ◌++◌, ℕ, List, codes, length}
use Rattle.std.specs.List.{All}
use Rattle.geo_tokens.specs.Names.{NameTable, IsNameTable}
use Rattle.blank_texts.specs.Blank.{IsBlank}
use Rattle.geo_conditions.specs.declared.cond.Cond.{Cond}
use Rattle.geo_conditions.specs.Reach.{State}
use Rattle.derivation.specs.declared.event.Event.{Event}
use Rattle.derivation.specs.Nodes.{Node, node_events}
use Rattle.derivation_text.specs.Lines.{derivation_text, AreNamed}
use Rattle.derivation_reading.specs.FirstFault.{most_bytes, IsText}
use Rattle.derivation_round_trip.specs.Limits.{IsLimited}
use Rattle.whole_derivation.specs.Whole.{NodeFits, IsDerivation}
use Rattle.printed_derivation.specs.Tables.{IsTableOf}

-- what is printed where there is no layout: the word `none`, and the derivation that shows it
abbrev pub printed : NameTable → List Event → List ℕ
printed n es = codes "none\n" ++ derivation_text n es

-- the same behind white space and comments, and a line feed
abbrev pub printed_behind : List ℕ → NameTable → List Event → List ℕ
printed_behind blank n es = blank ++ (codes "\n" ++ printed n es)

abbrev pub AreAllNamed : Type 0
AreAllNamed = (n : NameTable) (S : State) (m : ℕ) (root : Node) → IsTableOf n S
    → NodeFits S m root → AreNamed n 0 (node_events root)

abbrev pub AreAllLimited : Type 0
AreAllLimited = (S : State) (m : ℕ) (root : Node) → m ≤ 1000000000 → NodeFits S m root
    → All IsLimited (node_events root)

abbrev pub IsReadBack : Type 0
IsReadBack = (n : NameTable) (S : State) (cs : List Cond) (es : List Event) → IsNameTable n
    → IsTableOf n S → IsDerivation cs S es → length cs ≤ 1000000000
    → length (printed n es) ≤ most_bytes → IsText n (printed n es) es

abbrev pub IsReadBackBehind : Type 0
IsReadBackBehind = (n : NameTable) (S : State) (cs : List Cond) (es : List Event) (blank : List ℕ)
    → IsNameTable n → IsTableOf n S → IsDerivation cs S es → length cs ≤ 1000000000
    → IsBlank blank → length (printed_behind blank n es) ≤ most_bytes
    → IsText n (printed_behind blank n es) es
