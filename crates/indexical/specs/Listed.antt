-- A list of conditions as a value of the program.
use Rattle.std.specs.Prelude.{◌^◌, ◌<◌, List, length}
use mathlib.Core.Path.{refl}
use denote.RawPtr.{null_ptr}
use Rattle.geo_conditions.specs.declared.cond.Cond.{Cond}
use Rattle.geo_conditions.specs.declared.cond.Conds.{Conds}
use Rattle.std.proofs.Math.Nat.{le_refl}

abbrev pub conds_of : (cs : List Cond) → length cs < 2 ^ 63 → Conds
conds_of cs short = record { items = record { ptr = null_ptr; len = length cs; cap = length cs; alloc = record { memory = record { seal = tt } }; items = cs; ok = (refl, le_refl (length cs)); small = short } }
