-- The laws of the grammar, as statements.
use Rattle.std.specs.Prelude.{◌≡◌, ◌↔◌, List}
use Rattle.derivation.specs.declared.event.Event.{Event}
use Rattle.derivation.specs.Nodes.{Node}
use Rattle.derivation_reading.specs.Terminals.{Lexeme}
use Rattle.derivation_reading.specs.Grammar.{Lookup}
use Rattle.derivation_reading.specs.Machine.{Spells}
use Rattle.derivation_reading.specs.Language.{TextWords, IsTextOf}

-- What the table of productions reads, token by token, as a whole text with some events is just
-- what the grammar says to be a text of a tree with these events, whatever names and numbers stand
-- for.
abbrev pub TableReadsTheLanguage : Type 0
TableReadsTheLanguage =
    (L : Lookup) (ws : List Lexeme) (es : List Event) → Spells L ws es ↔ IsTextOf L ws es

-- A text of the grammar is one of one tree.
abbrev pub TextsHaveOneTree : Type 0
TextsHaveOneTree =
    (L : Lookup) (ws : List Lexeme) (a b : Node) → TextWords L a ws → TextWords L b ws → a ≡ b
