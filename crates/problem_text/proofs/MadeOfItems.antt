-- A loop that makes something of each item of a list.
use Rattle.std.proofs.Common.{◌≡◌, ℕ, ◌+◌, ◌<◌, List, [], ◌∷◌, ◌++◌, length, take, map, get_or, sym, ap, ◌∙◌}
use Rattle.std.proofs.lemmas.List.{take_more, map-append}

module _ {X B : Type 0} (f : X → B) (xs : List X) (i : ℕ) (d : X) where
  -- one more is made
  pub one_more : (bs cs : List B) (b : B) → i < length xs → cs ≡ bs ++ b ∷ [] → b ≡ f (get_or xs i d) → bs ≡ map f (take i xs) → cs ≡ map f (take (i + 1) xs)
  one_more bs cs b h g m k =
      g ∙ ap (λ y. bs ++ y ∷ []) m ∙ ap (λ ys. ys ++ f (get_or xs i d) ∷ []) k ∙ sym (map-append f (take i xs) (get_or xs i d ∷ [])) ∙ sym (ap (map f) (take_more xs i d h))

-- the same, where what is made is seen as something else
pub one_more_seen : {X B D : Type 0} (view : B → D) (f : X → D) (xs : List X) (i : ℕ) (d : X) (bs cs : List B) (b : B) → i < length xs → cs ≡ bs ++ b ∷ [] → view b ≡ f (get_or xs i d) → map view bs ≡ map f (take i xs) →
    map view cs ≡ map f (take (i + 1) xs)
one_more_seen view f xs i d bs cs b h g m k = one_more f xs i d (map view bs) (map view cs) (view b) h (ap (map view) g ∙ map-append view bs (b ∷ [])) m k
