-- The last elements of lists.
use Rattle.std.proofs.Common.{◌≡◌, ℕ, ◌+◌, ◌<◌, List, [], ◌∷◌, length, get_or, set, refl, sym, ap, ◌∙◌, subst, arith, reverse, take, ◌++◌}
use Rattle.std.proofs.lemmas.List.{reverse-append, take_more, take_all, length-take-le}
use Rattle.geo_conditions.specs.Reach.{Region}
use Rattle.derivation.specs.declared.side.Side.{Side}
use Rattle.derivation.specs.Cuts.{near, far}
use Rattle.derivation_check.specs.Machine.{forked}

pub rev_take : {A : Type 0} (xs : List A) (k : ℕ) (d : A) → k < length xs → reverse (take (k + 1) xs) ≡ get_or xs k d ∷ reverse (take k xs)
rev_take xs k d h = ap reverse (take_more xs k d h) ∙ reverse-append (take k xs) (get_or xs k d ∷ [])

set_last : {A : Type 0} (ys : List A) (b x y : A) → set ((ys ++ b ∷ []) ++ x ∷ []) (length ys) y ≡ ys ++ y ∷ x ∷ []
set_last [] b x y = refl
set_last (z ∷ ys) b x y = ap (λ l. z ∷ l) (set_last ys b x y)

forked_snoc : (side : Side) (ys : List Region) (b : Region) → reverse (set ((ys ++ b ∷ []) ++ near side b ∷ []) (length ys) (far side b)) ≡ forked side (reverse (ys ++ b ∷ []))
forked_snoc side ys b =
    ap reverse (set_last ys b (near side b) (far side b)) ∙ reverse-append ys (far side b ∷ near side b ∷ []) ∙ sym (ap (forked side) (reverse-append ys (b ∷ [])))

-- the last box of a list put off for its two parts
pub forked_is : (side : Side) (xs : List Region) (k : ℕ) (d b : Region) → k + 1 ≡ length xs → b ≡ get_or xs k d
    → reverse (set (xs ++ near side b ∷ []) k (far side b)) ≡ forked side (reverse xs)
forked_is side xs k d b h e =
    let q : take k xs ++ b ∷ [] ≡ xs = ap (λ (z : Region). take k xs ++ z ∷ []) e ∙ sym (take_more xs k d (omega arith)) ∙ take_all (k + 1) xs (omega arith) in
    let l : length (take k xs) ≡ k = length-take-le k xs (omega arith) in
    subst (λ (n : ℕ). reverse (set (xs ++ near side b ∷ []) n (far side b)) ≡ forked side (reverse xs)) l
    (subst (λ (ys : List Region). reverse (set (ys ++ near side b ∷ []) (length (take k xs)) (far side b)) ≡ forked side (reverse ys)) q (forked_snoc side (take k xs) b))
