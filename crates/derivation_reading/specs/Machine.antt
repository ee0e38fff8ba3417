-- What tokens say, read from the left.
use Rattle.std.specs.Prelude.{◌≡◌, List, [], ◌∷◌, ◌++◌}
use Rattle.derivation.specs.declared.event.Event.{Event}
use Rattle.derivation_reading.specs.declared.symbol.Symbol.{Symbol}
use Rattle.derivation_reading.specs.declared.symbol.Symbol.TheVariants.{Text}
use Rattle.derivation_reading.specs.Terminals.{Lexeme}
use Rattle.derivation_reading.specs.Grammar.{Lookup, Goes, at}

-- From the left, the first of the symbols becomes what the next token makes of it, until these symbols are left behind the tokens.
-- The events are those of all steps.
pub data Leaves (L : Lookup) (left : List Symbol) : List Symbol → List Lexeme → List Event → Type 0 where
  here : (ss : List Symbol) (ws : List Lexeme) (es : List Event) → ss ≡ left → ws ≡ [] → es ≡ [] → Leaves L left ss ws es
  on : (s : Symbol) (w : Lexeme) (more ss : List Symbol) (ds es gs : List Event) (ws : List Lexeme) → at L s w ≡ Goes more ds
      → Leaves L left (more ++ ss) ws es → gs ≡ ds ++ es → Leaves L left (s ∷ ss) (w ∷ ws) gs

-- behind the tokens of a beginning of a text these symbols may come, and it has these events
abbrev pub Opens : Lookup → List Lexeme → List Symbol → List Event → Type 0
Opens L ws ss es = Leaves L ss (Text ∷ []) ws es

-- the tokens are a whole text, with these events
abbrev pub Spells : Lookup → List Lexeme → List Event → Type 0
Spells L ws es = Opens L ws [] es
