-- Events that can be printed, and read again.
use Rattle.std.specs.List.{All}
use Rattle.std.specs.Prelude.{List}
use Rattle.geo_tokens.specs.Names.{NameTable}
use Rattle.derivation.specs.declared.event.Event.{Event}
use Rattle.derivation_text.specs.Lines.{AreNamed}
use Rattle.derivation_round_trip.specs.Limits.{IsLimited}

-- what the events name has a name, and their numbers are ones that a text can have
pub record IsPrintable (n : NameTable) (es : List Event) : Type 0 where
  pub named : AreNamed n 0 es
  pub limited : All IsLimited es
