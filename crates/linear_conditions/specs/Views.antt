-- What the program's fixings and sums stand for.
use Rattle.std.specs.Prelude.{true, false, List, [], ◌∷◌, map, pos}
use Rattle.geo_conditions.specs.declared.form.Term.{Term}
use Rattle.geo_conditions.specs.Form.{Sum}
use Rattle.linear_conditions.specs.declared.fixings.Fixings.{Fixings}
use Rattle.linear_conditions.specs.declared.fixings.Fixings.TheOpen.{Fixings-F}
use Rattle.linear_conditions.specs.declared.fixings.Fixings.TheFolds.{fold-Fixings}
use Rattle.linear_conditions.specs.declared.wide.WideTerm.{WideTerm}
use Rattle.linear_conditions.specs.declared.wide.WideSum.{WideSum}
use Rattle.linear_conditions.specs.declared.wide.Atom.{Atom}
use Rattle.linear_conditions.specs.declared.wide.Atom.TheVariants as atoms
use Rattle.linear_conditions.specs.declared.short.Short.{Short}
use Rattle.linear_conditions.specs.declared.short.Short.TheVariants as shorts
use Rattle.linear_conditions.specs.declared.leaves.Leaves.{Leaves as LeavesCode}
use Rattle.linear_conditions.specs.declared.leaves.Leaves.TheVariants as codes
use Rattle.linear_conditions.specs.Leaves.{Leaves}
use Rattle.linear_conditions.specs.Sums.{constant_sum, term}
use Rattle.linear_conditions.specs.Fixings.{Fixing}

abbrev pub fixings_step : Fixings-F (List Fixing) → List Fixing
fixings_step Fixings-F.Nothing = []
fixings_step (Fixings-F.More outer o s) = record { object = o; place = s } ∷ outer.now

abbrev pub fixings_view : Fixings → List Fixing
fixings_view = fold-Fixings (List Fixing) fixings_step

abbrev pub wide_term : WideTerm → Term
wide_term t = record { object = t.object; dimension = t.dimension; factor = t.factor }

abbrev pub wide_terms : List WideTerm → List Term
wide_terms ts = map wide_term ts

abbrev pub wide_view : WideSum → Sum
wide_view f = record { terms = wide_terms f.terms.items; constant = f.constant }

abbrev pub atom_view : Atom → Sum
atom_view (atoms.Number z) = constant_sum z
atom_view (atoms.Coordinate o d) = record { terms = term o.0 d (pos 1) ∷ []; constant = pos 0 }

abbrev pub short_view : Short → Sum
short_view (shorts.Number z) = constant_sum z
short_view (shorts.Shifted o d z) = record { terms = term o.0 d (pos 1) ∷ []; constant = z }

abbrev pub leaves_view : LeavesCode → Leaves
leaves_view (codes.One f) = record { all = true; forms = wide_view f ∷ [] }
leaves_view (codes.Both f g) = record { all = true; forms = wide_view f ∷ (wide_view g ∷ []) }
leaves_view (codes.Either f g) = record { all = false; forms = wide_view f ∷ (wide_view g ∷ []) }
