-- What was written, by another name of the text.
use Rattle.std.proofs.Common.{◌≡◌, ℕ, List, Option, Result, subst}
use Rattle.std.specs.Prelude.{MatchResult}
use Rattle.std.specs.Io.KnownBytes.{Appends}
use Rattle.geo_chan.specs.declared.outside.PutFault.{PutFault}
use Rattle.geo_chan.specs.Written.{AppendsFront}

pub written_as : {T : Type 0} (old new : Option (List ℕ)) (r : Result T PutFault) (a b : List ℕ) → a ≡ b → MatchResult r (λ _. Appends old new a) (λ _. AppendsFront old new a) → MatchResult r (λ _. Appends old new b) (λ _. AppendsFront old new b)
written_as old new r a b e h = subst (λ (u : List ℕ). MatchResult r (λ _. Appends old new u) (λ _. AppendsFront old new u)) e h
