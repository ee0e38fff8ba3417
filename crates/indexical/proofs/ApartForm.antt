-- The form of the condition that two boxes do not overlap.
use Rattle.std.proofs.Common.{◌≡◌, ◌≢◌, ◌==◌, ◌||◌, ℕ, zero, suc, ◌+◌, ◌*◌, ◌<◌, ◌≤◌, ◌^◌, Bool, true, false, List, [], ◌∷◌, ◌++◌, length, refl, sym, ap, ◌∙◌, subst, arith, ℤ, pos, negsuc, if◌then◌else◌}
use Rattle.std.specs.Prelude.{AllPairs}
use Rattle.std.specs.List.{All, flat_map, range_with_len, list_any}
use Rattle.std.proofs.lemmas.List.{length-append}
use Rattle.std.proofs.lemmas.List.Elements.{All-nil, All-cons, All-head, All-tail, All-append}
use Rattle.std.proofs.lemmas.List.Folds.{list_any-append}
use lib.Signed.{le_z}
use Rattle.std.proofs.lemmas.Bool.{or_left, or_right, false≢true}
use Rattle.geo_conditions.specs.Form.{Sum}
use Rattle.geo_conditions.specs.Terms.{term_of}
use Rattle.geo_base.specs.declared.TheConstants.{MAX_DIMS}
use Rattle.geo_conditions.specs.declared.cond.Cond.{Cond, Lin, NotShape, AtLeast}
use Rattle.geo_conditions.specs.declared.cond.Conds.{Conds}
use Rattle.geo_conditions.specs.declared.form.Term.{Term}
use Rattle.geo_conditions.specs.Reach.{State, Exists, IsState}
use Rattle.geo_conditions.specs.Conditions.{FitsIn}
use Rattle.geo_conditions.proofs.Children.{many_possible, at_least_is, fit_out, fit_in}
use Rattle.geo_conditions.proofs.Few.{dims_are}
use Rattle.indexical.specs.declared.placed.PlacedBox.{PlacedBox}
use Rattle.indexical.specs.Names.{names}
use Rattle.indexical.specs.Disjunctions.{IsDisjunction}
use Rattle.indexical.specs.Apart.{gap, literals, other_shape, apart_parts, apart, SaysApart}
use Rattle.indexical.specs.Listed.{conds_of}
use Rattle.indexical.proofs.Children.{names_at_least, disjunction_in}

module _ {K : ℕ} (a b : PlacedBox K) where
  -- a ends before b begins, and b before a
  abbrev first_sum : ℕ → Sum
  first_sum d = record { terms = term_of (a.object, d, pos 1) ∷ term_of (b.object, d, negsuc 0) ∷ []; constant = gap a b d }

  abbrev second_sum : ℕ → Sum
  second_sum d = record { terms = term_of (a.object, d, negsuc 0) ∷ term_of (b.object, d, pos 1) ∷ []; constant = gap b a d }

  -- ---- how many parts there are

  shape_short : (x : PlacedBox K) → length (other_shape x) ≤ 1
  shape_short x = of x.leaf
    where
      of : (l : Bool) → length (if l then NotShape x.object x.place ∷ [] else []) ≤ 1
      of true = omega arith
      of false = omega arith

  two_each : (d n : ℕ) → length (flat_map (literals a b) (range_with_len d n)) ≡ 2 * n
  two_each d zero = refl
  two_each d (suc n) = let r = two_each (d + 1) n in let l = length-append (literals a b d) (flat_map (literals a b) (range_with_len (d + 1) n)) in omega (arith, r, l)

  pub parts_short : K ≤ MAX_DIMS → length (apart_parts a b) < 2 ^ 63
  parts_short few =
      let x = length-append (other_shape a) (other_shape b ++ flat_map (literals a b) (range_with_len 0 K)) in
      let y = length-append (other_shape b) (flat_map (literals a b) (range_with_len 0 K)) in
      let u = shape_short a in
      let v = shape_short b in
      let w = two_each 0 K in
      omega (arith, x, y, u, v, w)

  -- ---- they are disjunctions

  two_once : (o : ℕ) (s t : Term) → s.object.0 ≢ t.object.0 → AllPairs (λ x y. x.object.0 ≡ o → y.object.0 ≡ o → ⊥) (s ∷ t ∷ [])
  two_once o s t ne zero zero z h l = absurd (omega arith)
  two_once o s t ne zero (suc zero) z h l = λ p q. ne (p ∙ sym q)
  two_once o s t ne zero (suc (suc j)) z h l = absurd (omega arith)
  two_once o s t ne (suc i) zero z h l = absurd (omega arith)
  two_once o s t ne (suc i) (suc j) z h l = absurd (omega arith)

  literals_once : (o d : ℕ) → a.object.0 ≢ b.object.0 → All (IsDisjunction o) (literals a b d)
  literals_once o d ne =
      All-cons (IsDisjunction o) (Lin (first_sum d)) (Lin (second_sum d) ∷ []) (two_once o (term_of (a.object, d, pos 1)) (term_of (b.object, d, negsuc 0)) ne)
      (All-cons (IsDisjunction o) (Lin (second_sum d)) [] (two_once o (term_of (a.object, d, negsuc 0)) (term_of (b.object, d, pos 1)) ne) (All-nil (IsDisjunction o)))

  all_once : (o d n : ℕ) → a.object.0 ≢ b.object.0 → All (IsDisjunction o) (flat_map (literals a b) (range_with_len d n))
  all_once o d zero ne = All-nil (IsDisjunction o)
  all_once o d (suc n) ne = All-append (IsDisjunction o) (literals a b d) (flat_map (literals a b) (range_with_len (d + 1) n)) (literals_once o d ne) (all_once o (d + 1) n ne)

  leaf_once : (o : ℕ) (x : PlacedBox K) (l : Bool) → All (IsDisjunction o) (if l then NotShape x.object x.place ∷ [] else [])
  leaf_once o x true = All-cons (IsDisjunction o) (NotShape x.object x.place) [] tt (All-nil (IsDisjunction o))
  leaf_once o x false = All-nil (IsDisjunction o)

  -- for each object it is a disjunction that names at most one coordinate of the object in each part
  pub apart_disjunction : (short : length (apart_parts a b) < 2 ^ 63) (o : ℕ) → a.object.0 ≢ b.object.0 → IsDisjunction o (apart a b short)
  apart_disjunction short o ne =
      let all = flat_map (literals a b) (range_with_len 0 K) in
      disjunction_in (pos 1) (conds_of (apart_parts a b) short) o refl
      (All-append (IsDisjunction o) (other_shape a) (other_shape b ++ all) (leaf_once o a a.leaf) (All-append (IsDisjunction o) (other_shape b) all (leaf_once o b b.leaf) (all_once o 0 K ne)))

  -- ---- the objects that they name

  module _ (o : ℕ) where
    abbrev either : Bool
    either = (a.object.0 == o) || (b.object.0 == o)

    more : (x y : Bool) → (x ≡ true → y ≡ true) → (x || y) ≡ y
    more true y h = sym (h refl)
    more false y h = refl

    both_literals : (x y : Bool) → ((x || (y || false)) || ((x || (y || false)) || false)) ≡ (x || y)
    both_literals true true = refl
    both_literals true false = refl
    both_literals false true = refl
    both_literals false false = refl

    leaf_named : (x : PlacedBox K) (l : Bool) → list_any (names o) (if l then NotShape x.object x.place ∷ [] else []) ≡ true → (x.object.0 == o) ≡ true
    leaf_named x true h = one (x.object.0 == o) h
      where
        one : (y : Bool) → (y || false) ≡ true → y ≡ true
        one true h = refl
        one false h = h
    leaf_named x false h = absurd (false≢true h)

    all_named : (d n : ℕ) → 0 < n → list_any (names o) (flat_map (literals a b) (range_with_len d n)) ≡ either
    all_named d zero some = absurd (omega arith)
    all_named d (suc n) some =
        list_any-append (names o) (literals a b d) (flat_map (literals a b) (range_with_len (d + 1) n))
        ∙ ap (λ (x : Bool). x || list_any (names o) (flat_map (literals a b) (range_with_len (d + 1) n))) (both_literals (a.object.0 == o) (b.object.0 == o))
        ∙ rest n (λ h. all_named (d + 1) n h)
      where
        or_none : (x : Bool) → (x || false) ≡ x
        or_none true = refl
        or_none false = refl

        rest : (m : ℕ) → (0 < m → list_any (names o) (flat_map (literals a b) (range_with_len (d + 1) m)) ≡ either)
            → (either || list_any (names o) (flat_map (literals a b) (range_with_len (d + 1) m))) ≡ either
        rest zero more_named = or_none either
        rest (suc m) more_named = ap (λ (x : Bool). either || x) (more_named (omega arith)) ∙ more either either (λ h. h)

    pub parts_named : 0 < K → list_any (names o) (apart_parts a b) ≡ either
    parts_named some =
        let all = flat_map (literals a b) (range_with_len 0 K) in
        list_any-append (names o) (other_shape a) (other_shape b ++ all)
        ∙ ap (λ (x : Bool). list_any (names o) (other_shape a) || x) (list_any-append (names o) (other_shape b) all
        ∙ ap (λ (x : Bool). list_any (names o) (other_shape b) || x) (all_named 0 K some)
        ∙ more (list_any (names o) (other_shape b)) either (λ h. or_right (a.object.0 == o) (b.object.0 == o) (leaf_named b b.leaf h)))
        ∙ more (list_any (names o) (other_shape a)) either (λ h. or_left (a.object.0 == o) (b.object.0 == o) (leaf_named a a.leaf h))

  -- ---- the objects that have to be there

  module _ (S : State) where
    right_fits : (xs ys : List Cond) → All (λ c. FitsIn c S) (xs ++ ys) → All (λ c. FitsIn c S) ys
    right_fits [] ys h = h
    right_fits (x ∷ xs) ys h = right_fits xs ys (All-tail (λ c. FitsIn c S) x (xs ++ ys) h)

    first_fit : (d n : ℕ) → 0 < n → All (λ c. FitsIn c S) (flat_map (literals a b) (range_with_len d n)) → (a.object.0 < length S) × (b.object.0 < length S)
    first_fit d zero some h = absurd (omega arith)
    first_fit d (suc n) some h =
        let t = term_of (a.object, d, pos 1) in
        let u = term_of (b.object, d, negsuc 0) in
        let one : All (λ x. Exists S x.object.0 x.dimension) (t ∷ u ∷ []) = All-head (λ c. FitsIn c S) (Lin (first_sum d)) (Lin (second_sum d) ∷ flat_map (literals a b) (range_with_len (d + 1) n)) h in
        ((All-head (λ x. Exists S x.object.0 x.dimension) t (u ∷ []) one).0, (All-head (λ x. Exists S x.object.0 x.dimension) u [] (All-tail (λ x. Exists S x.object.0 x.dimension) t (u ∷ []) one)).0)

    pub parts_exist : 0 < K → All (λ c. FitsIn c S) (apart_parts a b) → (a.object.0 < length S) × (b.object.0 < length S)
    parts_exist some h =
        let all = flat_map (literals a b) (range_with_len 0 K) in
        first_fit 0 K some (right_fits (other_shape b) all (right_fits (other_shape a) (other_shape b ++ all) h))

  -- ---- where they are there, the parts fit

  module _ (S : State) (state : IsState K S) (has_a : a.object.0 < length S) (has_b : b.object.0 < length S) where
    leaf_fits : (x : PlacedBox K) (l : Bool) → x.object.0 < length S → All (λ c. FitsIn c S) (if l then NotShape x.object x.place ∷ [] else [])
    leaf_fits x true h = All-cons (λ c. FitsIn c S) (NotShape x.object x.place) [] h (All-nil (λ c. FitsIn c S))
    leaf_fits x false h = All-nil (λ c. FitsIn c S)

    two_fit : (d : ℕ) (m n : ℤ) → d < K → All (λ t. Exists S t.object.0 t.dimension) (term_of (a.object, d, m) ∷ term_of (b.object, d, n) ∷ [])
    two_fit d m n h =
        let P = λ (t : Term). Exists S t.object.0 t.dimension in
        let x = dims_are K S a.object.0 state has_a in
        let y = dims_are K S b.object.0 state has_b in
        All-cons P (term_of (a.object, d, m)) (term_of (b.object, d, n) ∷ []) (has_a, omega (arith, x, h)) (All-cons P (term_of (b.object, d, n)) [] (has_b, omega (arith, y, h)) (All-nil P))

    all_fit_from : (d n : ℕ) → d + n ≤ K → All (λ c. FitsIn c S) (flat_map (literals a b) (range_with_len d n))
    all_fit_from d zero h = All-nil (λ c. FitsIn c S)
    all_fit_from d (suc n) h =
        let rest = flat_map (literals a b) (range_with_len (d + 1) n) in
        All-cons (λ c. FitsIn c S) (Lin (first_sum d)) (Lin (second_sum d) ∷ rest) (two_fit d (pos 1) (negsuc 0) (omega arith))
        (All-cons (λ c. FitsIn c S) (Lin (second_sum d)) rest (two_fit d (negsuc 0) (pos 1) (omega arith)) (all_fit_from (d + 1) n (omega arith)))

    pub apart_fits : (short : length (apart_parts a b) < 2 ^ 63) → FitsIn (apart a b short) S
    apart_fits short =
        let all = flat_map (literals a b) (range_with_len 0 K) in
        fit_in (pos 1) (conds_of (apart_parts a b) short) S
        (All-append (λ c. FitsIn c S) (other_shape a) (other_shape b ++ all) (leaf_fits a a.leaf has_a)
        (All-append (λ c. FitsIn c S) (other_shape b) all (leaf_fits b b.leaf has_b) (all_fit_from 0 K (omega arith))))

  -- ---- a condition that has them for its parts

  module _ (short : length (apart_parts a b) < 2 ^ 63) (some : 0 < K) where
    pub says_apart : (n : ℤ) (children : Conds) → n ≡ pos 1 → children.items.items ≡ apart_parts a b → SaysApart a b short (AtLeast n children)
    says_apart n children one same = record {
      same = λ S.
          at_least_is n children S
          ∙ ap (λ (m : ℤ). le_z m (pos (many_possible S children.items.items))) one
          ∙ ap (λ (xs : List Cond). le_z (pos 1) (pos (many_possible S xs))) same
          ∙ sym (at_least_is (pos 1) (conds_of (apart_parts a b) short) S);
      named = λ o. names_at_least n children o ∙ ap (list_any (names o)) same ∙ parts_named o some;
      exist = λ S h. parts_exist S some (subst (All (λ c. FitsIn c S)) same (fit_out n children S h));
    }

    pub apart_says_apart : SaysApart a b short (apart a b short)
    apart_says_apart = says_apart (pos 1) (conds_of (apart_parts a b) short) refl refl
