-- Positions in the names of a list.
use Rattle.std.proofs.Common.{◌≡◌, ℕ, ◌+◌, Bool, List, [], ◌∷◌, cond, not, length, map, refl, ap, ◌∙◌, ltb}
use Rattle.std.specs.Prelude.{None, Some}
use Rattle.std.specs.List.{position, position_or_len}
use Rattle.std.proofs.lemmas.List.{length-map}

prefix-map : {X : Type 0} (test : List ℕ → Bool) (name : X → List ℕ) (xs : List X) → position_or_len test (map name xs) ≡ position_or_len (λ x. test (name x)) xs
prefix-map test name [] = refl
prefix-map test name (x ∷ xs) = ap (λ n. cond (not (test (name x))) (1 + n) 0) (prefix-map test name xs)

pub position-map : {X : Type 0} (test : List ℕ → Bool) (name : X → List ℕ) (xs : List X) → position test (map name xs) ≡ position (λ x. test (name x)) xs
position-map test name xs =
    ap (λ k. cond (ltb k (length (map name xs))) (Some k) None) (prefix-map test name xs)
    ∙ ap (λ n. cond (ltb (position_or_len (λ x. test (name x)) xs) n) (Some (position_or_len (λ x. test (name x)) xs)) None) (length-map xs name)
