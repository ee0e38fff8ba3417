-- Names by their bytes, and borrowed names.
use Rattle.std.proofs.Common.{◌≡◌, ℕ, zero, suc, ◌+◌, ◌<◌, List, [], ◌∷◌, ◌++◌, map, length, Bool, true, false, ◌||◌, cond, refl, sym, ap, ◌∙◌, subst, arith}
use Rattle.std.proofs.lemmas.List.{map-append, length-map}
use Rattle.std.proofs.lemmas.Slice.Eq.{bytes_eq-Decides}
use Rattle.std.proofs.lemmas.List.Folds.{list_any-append}
use Rattle.std.proofs.lemmas.List.Sums.{fold-append}
use Rattle.std.specs.Prelude.{not, position, if◌then◌else◌, fold}
use Rattle.std.specs.List.{list_any, Contains, position_or_len}
use Rattle.std.specs.Str.{bytes_eq}
use Rattle.std.specs.Borrow.{Bor}
use Rattle.std.proofs.Math.Bool.{or-false}
use Rattle.problem_data.specs.Seen.{meet, met, bytes_at}

-- ---- borrowed names

pub any_at : (name : List ℕ) (ks : List (Bor (List ℕ))) → list_any (λ k. bytes_eq name k.now) ks ≡ list_any (bytes_eq name) (map bytes_at ks)
any_at name [] = refl
any_at name (k ∷ ks) = ap (λ b. bytes_eq name k.now || b) (any_at name ks)

pub first_at : (name : List ℕ) (ks : List (Bor (List ℕ))) → position_or_len (λ k. bytes_eq name k.now) ks ≡ position_or_len (bytes_eq name) (map bytes_at ks)
first_at name [] = refl
first_at name (k ∷ ks) = ap (λ n. cond (not (bytes_eq name k.now)) (1 + n) 0) (first_at name ks)

pub position_at : (name : List ℕ) (ks : List (Bor (List ℕ))) → position (λ k. bytes_eq name k.now) ks ≡ position (bytes_eq name) (map bytes_at ks)
position_at name ks = rw (first_at name ks, length-map ks bytes_at)

pub meet_at : (k : Bor (List ℕ)) (ks : List (Bor (List ℕ))) → map bytes_at (if list_any (λ j. bytes_eq k.now j.now) ks then ks else ks ++ k ∷ []) ≡ meet (map bytes_at ks) k.now
meet_at k ks = by (list_any (λ j. bytes_eq k.now j.now) ks) (list_any (bytes_eq k.now) (map bytes_at ks)) (any_at k.now ks) where
  by : (a b : Bool) → a ≡ b → map bytes_at (if a then ks else ks ++ k ∷ []) ≡ (if b then map bytes_at ks else map bytes_at ks ++ k.now ∷ [])
  by true true e = refl
  by false false e = map-append bytes_at ks (k ∷ [])
  by true false e = absurd cc
  by false true e = absurd cc

-- ---- a test finds what the list has

found_here : (name n : List ℕ) (names : List (List ℕ)) (b : Bool) → bytes_eq name n ≡ b → (list_any (bytes_eq name) names ≡ true → Contains names name) → (b || list_any (bytes_eq name) names) ≡ true → Contains (n ∷ names) name
found_here name n names true e behind g = (0, omega arith, sym ((bytes_eq-Decides name n).0 e))
found_here name n names false e behind g = let there : Contains names name = behind g in let lt : there.0 < length names = there.1 in (suc there.0, omega arith, there.2)

pub found : (name : List ℕ) (names : List (List ℕ)) → list_any (bytes_eq name) names ≡ true → Contains names name
found name [] h = absurd cc
found name (n ∷ names) h = found_here name n names (bytes_eq name n) refl (found name names) h

or_true : (b t : Bool) → t ≡ true → (b || t) ≡ true
or_true true t h = refl
or_true false t h = h

true_or : (b t : Bool) → b ≡ true → (b || t) ≡ true
true_or true t h = refl
true_or false t h = absurd cc

pub finds : (name : List ℕ) (names : List (List ℕ)) → Contains names name → list_any (bytes_eq name) names ≡ true
finds name [] h = let lt : h.0 < 0 = h.1 in absurd (omega arith)
finds name (n ∷ names) (zero, lt, e) = true_or (bytes_eq name n) (list_any (bytes_eq name) names) ((bytes_eq-Decides name n).1 (sym e))
finds name (n ∷ names) (suc k, lt, e) = or_true (bytes_eq name n) (list_any (bytes_eq name) names) (finds name names (k, omega arith, e))

-- ---- one list inside another

borrowed : (ks : List (Bor (List ℕ))) (name : List ℕ) → Contains (map bytes_at ks) name → (q : Bor (List ℕ)) × (q.now ≡ name)
borrowed [] name h = let lt : h.0 < 0 = h.1 in absurd (omega arith)
borrowed (k ∷ ks) name (zero, lt, e) = (k, e)
borrowed (k ∷ ks) name (suc n, lt, e) = borrowed ks name (n, omega arith, e)

module _ (xs ys : List (Bor (List ℕ))) where
  pub inside_all : ((q : Bor (List ℕ)) → list_any (λ k. bytes_eq q.now k.now) xs ≡ true → list_any (λ k. bytes_eq q.now k.now) ys ≡ true) → (name : List ℕ) → Contains (map bytes_at xs) name → Contains (map bytes_at ys) name
  inside_all h name there =
      let q : (q : Bor (List ℕ)) × (q.now ≡ name) = borrowed xs name there in
      let there1 : Contains (map bytes_at xs) q.0.now = subst (λ (n : List ℕ). Contains (map bytes_at xs) n) (sym q.1) there in
      let any : list_any (λ k. bytes_eq q.0.now k.now) ys ≡ true = h q.0 (any_at q.0.now xs ∙ finds q.0.now (map bytes_at xs) there1) in
      subst (λ (n : List ℕ). Contains (map bytes_at ys) n) q.1 (found q.0.now (map bytes_at ys) (sym (any_at q.0.now ys) ∙ any))

  pub all_inside : ((name : List ℕ) → Contains (map bytes_at xs) name → Contains (map bytes_at ys) name) → (q : Bor (List ℕ)) → list_any (λ k. bytes_eq q.now k.now) xs ≡ true → list_any (λ k. bytes_eq q.now k.now) ys ≡ true
  all_inside h q any = any_at q.now ys ∙ finds q.now (map bytes_at ys) (h q.now (found q.now (map bytes_at xs) (sym (any_at q.now xs) ∙ any)))

-- ---- the names of a list, met one after another

pub meet_any : (n : List ℕ) (names : List (List ℕ)) (name : List ℕ) → list_any (bytes_eq n) (meet names name) ≡ (list_any (bytes_eq n) names || bytes_eq n name)
meet_any n names name = by (list_any (bytes_eq name) names) refl where
  there : (b t : Bool) → (t ≡ true → b ≡ true) → b ≡ (b || t)
  there true t h = refl
  there false true h = h refl
  there false false h = refl

  by : (b : Bool) → list_any (bytes_eq name) names ≡ b → list_any (bytes_eq n) (if b then names else names ++ name ∷ []) ≡ (list_any (bytes_eq n) names || bytes_eq n name)
  by true e = there (list_any (bytes_eq n) names) (bytes_eq n name) (λ t. subst (λ (m : List ℕ). list_any (bytes_eq m) names ≡ true) (sym ((bytes_eq-Decides n name).0 t)) e)
  by false e = list_any-append (bytes_eq n) names (name ∷ []) ∙ ap (λ b. list_any (bytes_eq n) names || b) (or-false (bytes_eq n name))

or_assoc : (a b c : Bool) → ((a || b) || c) ≡ (a || (b || c))
or_assoc true b c = refl
or_assoc false b c = refl

fold_any : (n : List ℕ) (seen names : List (List ℕ)) → list_any (bytes_eq n) (fold meet seen names) ≡ (list_any (bytes_eq n) seen || list_any (bytes_eq n) names)
fold_any n seen [] = by (list_any (bytes_eq n) seen) where
  by : (b : Bool) → b ≡ (b || false)
  by true = refl
  by false = refl
fold_any n seen (name ∷ names) =
    fold_any n (meet seen name) names ∙ ap (λ b. b || list_any (bytes_eq n) names) (meet_any n seen name) ∙ or_assoc (list_any (bytes_eq n) seen) (bytes_eq n name) (list_any (bytes_eq n) names)

-- a name was met where the list has it
pub met_any : (n : List ℕ) (names : List (List ℕ)) → list_any (bytes_eq n) (met names) ≡ list_any (bytes_eq n) names
met_any n names = fold_any n [] names

pub met_has : (names : List (List ℕ)) (n : List ℕ) → Contains (met names) n → Contains names n
met_has names n h = found n names (sym (met_any n names) ∙ finds n (met names) h)

pub has_met : (names : List (List ℕ)) (n : List ℕ) → Contains names n → Contains (met names) n
has_met names n h = found n (met names) (met_any n names ∙ finds n names h)

pub met_push : (names : List (List ℕ)) (n : List ℕ) → met (names ++ n ∷ []) ≡ meet (met names) n
met_push names n = fold-append meet [] names (n ∷ [])

-- names of which none is repeated are met as they are
not_true : (b : Bool) → not b ≡ true → b ≡ false
not_true true h = absurd cc
not_true false h = refl

-- what the test of one more name tells
pub repeats : (names seen : List (List ℕ)) (n m : List ℕ) (is_new : Bool) → m ≡ n → seen ≡ met names → is_new ≡ not (list_any (bytes_eq m) seen) → not is_new ≡ true → Contains names n
repeats names seen n m is_new e s t h =
    let any : list_any (bytes_eq m) seen ≡ true = twice (list_any (bytes_eq m) seen) (ap not (sym t) ∙ h) in
    subst (λ (k : List ℕ). Contains names k) e (found m names (sym (met_any m names) ∙ ap (list_any (bytes_eq m)) (sym s) ∙ any)) where
      twice : (b : Bool) → not (not b) ≡ true → b ≡ true
      twice true g = refl
      twice false g = absurd cc

pub repeats_back : (names seen : List (List ℕ)) (n m : List ℕ) (is_new : Bool) → m ≡ n → seen ≡ met names → is_new ≡ not (list_any (bytes_eq m) seen) → Contains names n → not is_new ≡ true
repeats_back names seen n m is_new e s t h =
    ap not t ∙ ap (λ b. not (not b)) (ap (list_any (bytes_eq m)) s ∙ met_any m names ∙ finds m names (subst (λ (k : List ℕ). Contains names k) (sym e) h))

-- what the test of a name that should be made tells
pub lacks : (made : List (List ℕ)) (n m : List ℕ) (there : Bool) → m ≡ n → there ≡ list_any (bytes_eq m) made → not there ≡ true → Contains made n → ⊥
lacks made n m there e t h has =
    let any : list_any (bytes_eq m) made ≡ true = finds m made (subst (λ (k : List ℕ). Contains made k) (sym e) has) in
    let no : there ≡ false = not_true there h in cc

pub lacks_back : (made : List (List ℕ)) (n m : List ℕ) (there : Bool) → m ≡ n → there ≡ list_any (bytes_eq m) made → (Contains made n → ⊥) → not there ≡ true
lacks_back made n m true e t h = absurd (h (subst (λ (k : List ℕ). Contains made k) e (found m made (sym t))))
lacks_back made n m false e t h = refl
