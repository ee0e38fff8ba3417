-- What the code says of a token, as the grammar says it.
use Rattle.std.specs.Prelude.{List, [], ◌∷◌, Option, Some, None}
use Rattle.derivation_reading.specs.declared.symbol.Symbol.{Symbol}
use Rattle.derivation_reading.specs.declared.symbol.Terminal.{Terminal}
use Rattle.derivation_reading.specs.declared.symbol.Terminal.TheVariants as terminals
use Rattle.derivation_reading.specs.declared.production.Behind.{Behind}
use Rattle.derivation_reading.specs.declared.production.Behind.TheVariants.{Nothing, One, Two}
use Rattle.derivation_reading.specs.declared.production.Outcome.{Outcome}
use Rattle.derivation_reading.specs.declared.production.Outcome.TheVariants as outcomes
use Rattle.derivation_reading.specs.Grammar.{Next, Wrong, Unknown, goes, gives}

abbrev pub symbols : Behind → List Symbol
symbols Nothing = []
symbols (One s) = s ∷ []
symbols (Two s t) = s ∷ t ∷ []

abbrev pub said : Outcome → Next
said outcomes.Wrong = Wrong
said outcomes.Unknown = Unknown
said (outcomes.Goes behind) = goes (symbols behind)
said (outcomes.Gives event behind) = gives event (symbols behind)

-- a symbol that begins a node, and `more` behind the node
abbrev pub begins : Option Symbol → List Symbol → Next
begins None more = Wrong
begins (Some s) more = goes (s ∷ more)

-- neither a name, nor a number, nor a minus
abbrev pub IsMark : Terminal → Type 0
IsMark terminals.Name = ⊥
IsMark (terminals.Number n) = ⊥
IsMark terminals.Minus = ⊥
IsMark terminals.Absent = ⊥
IsMark _ = Unit {0}
