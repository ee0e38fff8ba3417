-- A list that grows by two items, as it is mapped.
use Rattle.std.proofs.Common.{◌≡◌, List, [], ◌∷◌, ◌++◌, map, ap, ◌∙◌}
use Rattle.std.proofs.lemmas.List.{map-append, append_assoc}

pub two_more : {X A : Type 0} (f : X → A) (old now new : List X) (x y : X) (a b : A) → now ≡ old ++ x ∷ [] → new ≡ now ++ y ∷ [] → f x ≡ a → f y ≡ b → map f new ≡ map f old ++ a ∷ (b ∷ [])
two_more {X = X} {A = A} f old now new x y a b e k h i =
    ap (map f) (k ∙ ap (λ (zs : List X). zs ++ y ∷ []) e ∙ append_assoc old (x ∷ []) (y ∷ [])) ∙ map-append f old (x ∷ (y ∷ []))
    ∙ ap (λ (z : A). map f old ++ z ∷ (f y ∷ [])) h ∙ ap (λ (z : A). map f old ++ a ∷ (z ∷ [])) i
