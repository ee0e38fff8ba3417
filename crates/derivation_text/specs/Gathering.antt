-- What is gathered before it is written.
use Rattle.std.specs.Prelude.{◌≡◌, ℕ, List, ◌++◌, Option, Bool, Result, Ok, Err}
use Rattle.geo_chan.specs.declared.outside.PutFault.{PutFault}
use Rattle.geo_chan.specs.Written.{Writes, Wrote}

-- A text was put behind what was held: what was written now, and what is held, are together what was held before and the text. After
-- a fault a front part of both was written.
abbrev pub Gathers : {S T : Type 0} → (S → Option (List ℕ)) → (S → ℕ) → (S → Bool) → S → S → List ℕ → List ℕ → Result T PutFault → List ℕ → Type 0
Gathers written faults quiet old new held holds (Ok _) text = (front : List ℕ) × (held ++ text ≡ front ++ holds) × Wrote (written old) (written new) (faults old) (faults new) (quiet old) (quiet new) front
Gathers {S} {T} written faults quiet old new held holds (Err e) text = Writes {T = T} (written old) (written new) (faults old) (faults new) (quiet old) (quiet new) (Err e) (held ++ text)
