-- A list to which another one is added, element by element, as both are mapped.
use Rattle.std.proofs.Common.{◌≡◌, ℕ, zero, suc, List, [], ◌∷◌, ◌++◌, length, map, replicate, refl, sym, ap, ◌∙◌, append_assoc, arith}
use Rattle.std.proofs.lemmas.List.{map-append, append-nil, length-append}

module _ {A B : Type 0} (f : A → B) (first : List A) where
  pub mapped_first : map f first ≡ map f first ++ map f []
  mapped_first = sym (append-nil (map f first))

  pub mapped_more : (before list next : List A) (x : A) → map f list ≡ map f first ++ map f before → next ≡ list ++ x ∷ [] → map f next ≡ map f first ++ map f (before ++ x ∷ [])
  mapped_more before list next x i e =
      ap (map f) e ∙ map-append f list (x ∷ []) ∙ ap (λ (zs : List B). zs ++ f x ∷ []) i ∙ append_assoc (map f first) (map f before) (f x ∷ []) ∙ sym (ap (λ (zs : List B). map f first ++ zs) (map-append f before (x ∷ [])))

-- a value as often as a list is long, and once more
pub once_more : {A B : Type 0} (first numbers next : List B) (before : List A) (x : A) (v : B) → numbers ≡ first ++ replicate (length before) v → next ≡ numbers ++ v ∷ [] → next ≡ first ++ replicate (length (before ++ x ∷ [])) v
once_more {B = B} first numbers next before x v i e =
    let l : suc (length before) ≡ length (before ++ x ∷ []) = omega (arith, length-append before (x ∷ [])) in
    e ∙ ap (λ (zs : List B). zs ++ v ∷ []) i ∙ append_assoc first (replicate (length before) v) (v ∷ [])
    ∙ ap (λ (zs : List B). first ++ zs) (alike (length before) ∙ ap (λ (n : ℕ). replicate n v) l)
  where
    alike : (n : ℕ) → replicate n v ++ v ∷ [] ≡ replicate (suc n) v
    alike zero = refl
    alike (suc n) = ap (λ (zs : List B). v ∷ zs) (alike n)

-- one more value, which a mapped element has
pub value_more : {A B : Type 0} (f : A → B) (first : List B) (list next : List A) (before : List B) (y : A) (x : B) → map f list ≡ first ++ before → next ≡ list ++ y ∷ [] → f y ≡ x → map f next ≡ first ++ (before ++ x ∷ [])
value_more {B = B} f first list next before y x i e has =
    ap (map f) e ∙ map-append f list (y ∷ []) ∙ ap (λ (zs : List B). zs ++ f y ∷ []) i ∙ append_assoc first before (f y ∷ []) ∙ ap (λ (z : B). first ++ (before ++ z ∷ [])) has
