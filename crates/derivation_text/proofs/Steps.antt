-- The lines of events, one event after another.
use Rattle.std.proofs.Common.{◌≡◌, ℕ, ◌+◌, ◌<◌, List, ◌∷◌, ◌++◌, length, drop, get_or, ap, subst, drop-cons, add-one}
use Rattle.geo_tokens.specs.Names.{NameTable}
use Rattle.derivation.specs.declared.event.Event.{Event}
use Rattle.derivation_text.specs.Lines.{line_of, lines_of, listed, IsNamed, AreNamed}

front_of : (es : List Event) (i : ℕ) (d : Event) → i < length es → drop i es ≡ get_or es i d ∷ drop (i + 1) es
front_of es i d h = rw add-one (drop-cons es i d h)

pub lines_step : (n : NameTable) (o : ℕ) (es : List Event) (i : ℕ) (d : Event) → i < length es → lines_of n o (drop i es) ≡ line_of n o (get_or es i d) ++ lines_of n (listed o (get_or es i d)) (drop (i + 1) es)
lines_step n o es i d h = ap (lines_of n o) (front_of es i d h)

pub named_step : (n : NameTable) (o : ℕ) (es : List Event) (i : ℕ) (d : Event) → i < length es → AreNamed n o (drop i es) → IsNamed n o (get_or es i d) × AreNamed n (listed o (get_or es i d)) (drop (i + 1) es)
named_step n o es i d h a = subst (AreNamed n o) (front_of es i d h) a
