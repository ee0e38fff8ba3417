-- What may still come in a list of events, and which lists are whole.
use Rattle.std.specs.Prelude.{Bool, true, false, List, [], ◌∷◌, ◌++◌, Option, Some, None}
use Rattle.derivation.specs.declared.event.Event.{Event}
use Rattle.derivation.specs.declared.event.Event.TheVariants as events
use Rattle.derivation_check.specs.declared.tree.Wanted.{Wanted}
use Rattle.derivation_check.specs.declared.tree.Wanted.TheVariants.{Node, Cover, Covers}
use Rattle.derivation_check.specs.declared.tree.Behind.{Behind}
use Rattle.derivation_check.specs.declared.tree.Behind.TheVariants.{Nothing, One, Two}

-- what comes behind an event in the place of what was wanted, where the event begins such a thing
abbrev pub follows : Wanted → Event → Option (List Wanted)
follows Node (events.SplitShape o s) = Some (Node ∷ Node ∷ [])
follows Node (events.SplitUpto o d v) = Some (Node ∷ Node ∷ [])
follows Node (events.SplitFrom o d v) = Some (Node ∷ Node ∷ [])
follows Node (events.Drop o s) = Some (Cover ∷ Node ∷ [])
follows Node (events.Raise o d v) = Some (Covers ∷ Node ∷ [])
follows Node (events.Lower o d v) = Some (Covers ∷ Node ∷ [])
follows Node (events.Gone o) = Some (Covers ∷ [])
follows Node (events.Dead i) = Some []
follows Cover (events.By i) = Some []
follows Cover (events.Cut d v) = Some (Cover ∷ Cover ∷ [])
follows Cover (events.CutFrom d v) = Some (Cover ∷ Cover ∷ [])
follows Covers (events.Cover s) = Some (Cover ∷ Covers ∷ [])
follows Covers events.EndCovers = Some []
follows w e = None

abbrev pub if_some : Option (List Wanted) → (List Wanted → Bool) → Bool
if_some None p = false
if_some (Some ws) p = p ws

-- the events are one such thing after another, as many as are wanted
abbrev pub spells : List Event → List Wanted → Bool
spells [] [] = true
spells [] (w ∷ ws) = false
spells (e ∷ es) [] = false
spells (e ∷ es) (w ∷ ws) = if_some (follows w e) (λ more. spells es (more ++ ws))

-- as the code says it
abbrev pub listed : Behind → List Wanted
listed Nothing = []
listed (One w) = w ∷ []
listed (Two v w) = v ∷ w ∷ []

abbrev pub said : Option Behind → Option (List Wanted)
said None = None
said (Some b) = Some (listed b)
