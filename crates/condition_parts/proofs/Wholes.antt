-- Conditions put together again.
use Rattle.std.proofs.Common.{◌≡◌, ℕ, List, [], ◌∷◌, map, refl, Option}
use Rattle.std.specs.List.{zip}
use Rattle.geo_conditions.specs.declared.cond.Cond.{Cond}
use Rattle.indexical.specs.declared.any.AnyIndexical.{AnyIndexical}
use Rattle.condition_parts.specs.Apart.{whole_or, wholes_of}

-- a condition beside what stands in its place
abbrev pub whole_at : {k : ℕ} → Option Cond × AnyIndexical k → Cond
whole_at p = whole_or p.0 p.1.cond

pub whole_zipped : {k : ℕ} (ws : List (Option Cond)) (xs : List (AnyIndexical k)) → map whole_at (zip ws xs) ≡ wholes_of ws (map (λ (x : AnyIndexical k). x.cond) xs)
whole_zipped [] xs = refl
whole_zipped (w ∷ ws) [] = refl
whole_zipped (w ∷ ws) (x ∷ xs) = λ i. whole_or w x.cond ∷ whole_zipped ws xs i
