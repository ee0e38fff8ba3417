-- The text of a derivation may stand behind the word `none`.
use Rattle.std.proofs.Common.{◌≡◌, List, [], ◌∷◌, ◌++◌, refl, sym, ap, ◌∙◌, subst}
use Rattle.std.specs.Prelude.{codes}
use Rattle.geo_tokens.specs.Names.{NameTable}
use Rattle.rule_print.specs.Canonical.{name}
use Rattle.derivation.specs.declared.event.Event.{Event}
use Rattle.derivation.specs.declared.side.Side.TheVariants as sides
use Rattle.derivation.specs.declared.half.Half.TheVariants.{OfPlace, OfSide}
use Rattle.derivation.specs.Nodes as nodes
use Rattle.derivation.specs.Nodes.{node_events}
use Rattle.derivation_reading.specs.declared.symbol.Part.TheVariants.{Upto, From}
use Rattle.derivation_reading.specs.declared.symbol.Symbol.{Symbol}
use Rattle.derivation_reading.specs.declared.symbol.Symbol.TheVariants.{Text, Node, Qed, SplitObject, DropObject, BoundObject, GoneObject, DeadNumber}
use Rattle.derivation_reading.specs.Terminals.{Lexeme}
use Rattle.derivation_reading.specs.Grammar.{Lookup, lookup, Goes, goes, at}
use Rattle.derivation_reading.specs.Machine.{Leaves, on, Spells}
use Rattle.derivation_reading.proofs.Steps.{first_step}
use Rattle.derivation_round_trip.proofs.LineParts.{text_parts}
use Rattle.derivation_round_trip.proofs.Places.{seen}
use Rattle.derivation_round_trip.proofs.Words.{words}

-- a text whose first word begins a node is a node and the word `qed`
as_node : (L : Lookup) (s : Symbol) (w : Lexeme) {ws : List Lexeme} {es : List Event} → at L Text w ≡ goes (s ∷ Qed ∷ []) → at L Node w ≡ goes (s ∷ []) → Spells L (w ∷ ws) es
    → Leaves L [] (Node ∷ Qed ∷ []) (w ∷ ws) es
as_node L s w {ws} {es} t a d =
    let r = first_step d in
    let e : Goes (s ∷ Qed ∷ []) [] ≡ Goes r.0 r.1 = sym t ∙ r.3 in
    let same : r.0 ≡ s ∷ Qed ∷ [] = cc in
    let none : r.1 ≡ [] = cc in
    on Node w (s ∷ []) (Qed ∷ []) [] r.2 es ws a (subst (λ (ss : List Symbol). Leaves L [] (ss ++ []) ws r.2) same r.4) (r.5 ∙ ap (λ (ds : List Event). ds ++ r.2) none)

module _ (n : NameTable) where
  node_then_qed : (root : nodes.Node) (es : List Event) → Spells (lookup n) (words (text_parts n (node_events root))) es
      → Leaves (lookup n) [] (Node ∷ Qed ∷ []) (words (text_parts n (node_events root))) es
  node_then_qed (nodes.Split o (OfPlace s) a b) es d = as_node (lookup n) SplitObject (seen (name (codes "split"))) refl refl d
  node_then_qed (nodes.Split o (OfSide (sides.Upto k v)) a b) es d = as_node (lookup n) SplitObject (seen (name (codes "split"))) refl refl d
  node_then_qed (nodes.Split o (OfSide (sides.From k v)) a b) es d = as_node (lookup n) SplitObject (seen (name (codes "split"))) refl refl d
  node_then_qed (nodes.DropNode o s tree rest) es d = as_node (lookup n) DropObject (seen (name (codes "drop"))) refl refl d
  node_then_qed (nodes.Bound o (sides.Upto k v) list rest) es d = as_node (lookup n) (BoundObject Upto) (seen (name (codes "lower"))) refl refl d
  node_then_qed (nodes.Bound o (sides.From k v) list rest) es d = as_node (lookup n) (BoundObject From) (seen (name (codes "raise"))) refl refl d
  node_then_qed (nodes.GoneNode o list) es d = as_node (lookup n) GoneObject (seen (name (codes "gone"))) refl refl d
  node_then_qed (nodes.DeadNode i) es d = as_node (lookup n) DeadNumber (seen (name (codes "dead"))) refl refl d

  pub behind_none : (root : nodes.Node) (es : List Event) → Spells (lookup n) (words (text_parts n (node_events root))) es
      → Spells (lookup n) (seen (name (codes "none")) ∷ words (text_parts n (node_events root))) es
  behind_none root es d =
      on Text (seen (name (codes "none"))) (Node ∷ Qed ∷ []) [] [] es es (words (text_parts n (node_events root))) refl (node_then_qed root es d) refl
