-- Lists of conditions that grow item by item.
use Rattle.std.proofs.Common.{◌≡◌, ◌<◌, ◌+◌, ℕ, Bool, cond, List, [], ◌∷◌, ◌++◌, length, map, take, get_or, refl, sym, ap, ◌∙◌, arith}
use Rattle.std.proofs.lemmas.List.Elements.{filter-append}
use Rattle.std.specs.List.{filter, flat_map, range_with_len}
use Rattle.std.proofs.lemmas.List.{flat_map_more, take_more, map-id, map-append, append_assoc}
use Rattle.std.proofs.lemmas.List.FromFn.{map-range_with_len_more}

-- the items of one element more
pub flat-more : {X A : Type 0} (f : X → List A) (xs ys : List X) (x : X) (old now new : List A) → ys ≡ xs ++ x ∷ [] → now ≡ old ++ flat_map f xs → new ≡ now ++ f x → new ≡ old ++ flat_map f ys
flat-more f xs ys x old now new e h k =
    k ∙ (λ i. h i ++ f x) ∙ flat_map_more f old xs x ∙ (λ i. old ++ flat_map f (sym e i))

pub map-more : {X A : Type 0} (f : X → A) (xs ys : List X) (x : X) (old now new : List A) → ys ≡ xs ++ x ∷ [] → now ≡ old ++ map f xs → new ≡ now ++ f x ∷ [] → new ≡ old ++ map f ys
map-more f xs ys x old now new e h k =
    k ∙ (λ i. h i ++ f x ∷ []) ∙ append_assoc old (map f xs) (f x ∷ []) ∙ (λ i. old ++ sym (map-append f xs (x ∷ [])) i) ∙ (λ i. old ++ map f (sym e i))

-- one number more
pub range-more : (a n : ℕ) → range_with_len a (n + 1) ≡ range_with_len a n ++ (a + n) ∷ []
range-more a n =
    sym (map-id (range_with_len a (n + 1))) ∙ map-range_with_len_more (λ (x : ℕ). x) a n (a + n) refl ∙ (λ i. map-id (range_with_len a n) i ++ (a + n) ∷ [])

-- one element more
pub taken-more : {X : Type 0} (xs : List X) (i : ℕ) (x : X) → x ≡ get_or xs i x → i < length xs → take (i + 1) xs ≡ take i xs ++ x ∷ []
taken-more xs i x e h = take_more xs i x h ∙ (λ j. take i xs ++ sym e j ∷ [])

-- one number more, at its own name
pub number-more : (a n k m : ℕ) → k ≡ n + 1 → a + n ≡ m → range_with_len a k ≡ range_with_len a n ++ m ∷ []
number-more a n k m e f = (λ i. range_with_len a (e i)) ∙ range-more a n ∙ (λ i. range_with_len a n ++ f i ∷ [])

-- one number more among those that pass
pub filter-more : (test : ℕ → Bool) (n : ℕ) (b : Bool) → test n ≡ b → filter test (range_with_len 0 (n + 1)) ≡ filter test (range_with_len 0 n) ++ cond b (n ∷ []) []
filter-more test n b e =
    ap (filter test) (range-more 0 n ∙ ap (λ m. range_with_len 0 n ++ m ∷ []) (let z : 0 + n ≡ n = omega arith in z))
    ∙ filter-append test (range_with_len 0 n) (n ∷ [])
    ∙ ap (λ c. filter test (range_with_len 0 n) ++ cond c (n ∷ []) []) e
