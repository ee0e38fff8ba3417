-- Which tokens begin a text of the grammar, whatever its names stand for.
use Rattle.std.specs.Prelude.{List, ◌++◌}
use Rattle.derivation.specs.declared.event.Event.{Event}
use Rattle.derivation_reading.specs.Terminals.{Lexeme}
use Rattle.derivation_reading.specs.Grammar.{anything}
use Rattle.derivation_reading.specs.Machine.{Spells}

abbrev pub Begins : List Lexeme → Type 0
Begins ws = (more : List Lexeme) × (es : List Event) × Spells anything (ws ++ more) es
