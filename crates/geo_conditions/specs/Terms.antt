-- A term as it is given.
use Rattle.std.specs.Prelude.{ℕ, ℤ}
use Rattle.geo_conditions.specs.declared.object.ObjId.{ObjId}
use Rattle.geo_conditions.specs.declared.form.Term.{Term}

-- the term of an object, a dimension and a factor
abbrev pub term_of : ObjId × ℕ × ℤ → Term
term_of t = record { object = t.0; dimension = t.1; factor = t.2 }
