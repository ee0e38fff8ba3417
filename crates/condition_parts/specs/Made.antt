-- What is made of the first conditions of a list that is taken apart.
use Rattle.std.specs.Prelude.{◌++◌, ◌∷◌, [], List, map}
use Rattle.geo_conditions.specs.declared.cond.Cond.{Cond}
use Rattle.indexical.specs.declared.any.AnyIndexical.{AnyIndexical}
use Rattle.condition_parts.specs.declared.taken.Made.{Made}
use Rattle.condition_parts.specs.Apart.{IsApart}

-- it has these conditions
abbrev pub HasMade : {K : _} → List Cond → Made K → Type 0
HasMade {K} cs m = IsApart cs (map (λ (x : AnyIndexical K). x.cond) m.fronts.items) (map (λ (x : AnyIndexical K). x.cond) m.rest.items) m.wholes.items m.numbers.items

-- the condition came behind those that it had
abbrev pub AddsMade : {K : _} → Cond → Made K → Made K → Type 0
AddsMade {K} c old new = (cs : List Cond) → HasMade cs old → HasMade (cs ++ c ∷ []) new
