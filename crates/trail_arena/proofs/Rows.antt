-- Items that lie in the first places of a row.
use Rattle.std.proofs.Common.{◌≡◌, ℕ, zero, suc, ◌+◌, ◌-◌, ◌<◌, List, [], ◌∷◌, ◌++◌, length, replicate, set, get_or, Option, Some, None, refl, sym, ap, ◌∙◌, arith, length-append}
use Rattle.std.proofs.Math.ListN.{length-replicate}
use Rattle.trail_arena.specs.Places.{somes, filled, IsFilled, IsRow}

module _ {X : Type 0} where
  -- ---- a filled row

  somes_none : (n : ℕ) → somes {X = X} (replicate n None) ≡ []
  somes_none zero = refl
  somes_none (suc n) = somes_none n

  somes_filled : (xs : List X) (n : ℕ) → somes (filled xs n) ≡ xs
  somes_filled [] n = somes_none n
  somes_filled (x ∷ xs) n = ap (λ (l : List X). x ∷ l) (somes_filled xs n)

  length_filled : (xs : List X) (n : ℕ) → length (filled xs n) ≡ length xs + n
  length_filled [] n = omega (arith, length-replicate {A = Option X} n None)
  length_filled (x ∷ xs) n = omega (arith, length_filled xs n)

  open_at : (xs : List X) (n : ℕ) → get_or (filled xs (suc n)) (length xs) None ≡ None
  open_at [] n = refl
  open_at (x ∷ xs) n = open_at xs n

  put_at : (xs : List X) (n : ℕ) (x : X) → set (filled xs (suc n)) (length xs) (Some x) ≡ filled (xs ++ x ∷ []) n
  put_at [] n x = refl
  put_at (y ∷ xs) n x = ap (λ (l : List (Option X)). Some y ∷ l) (put_at xs n x)

  top_at : (xs : List X) (x : X) (n : ℕ) → get_or (filled (xs ++ x ∷ []) n) (length xs) None ≡ Some x
  top_at [] x n = refl
  top_at (y ∷ xs) x n = top_at xs x n

  taken_at : (xs : List X) (x : X) (n : ℕ) → set (filled (xs ++ x ∷ []) n) (length xs) None ≡ filled xs (suc n)
  taken_at [] x n = refl
  taken_at (y ∷ xs) x n = ap (λ (l : List (Option X)). Some y ∷ l) (taken_at xs x n)

  -- a list that is not empty is a list and one item more
  pub last_apart : (xs : List X) (m : ℕ) → length xs ≡ suc m → (ys : List X) × ((y : X) × ((xs ≡ ys ++ y ∷ []) × (length ys ≡ m)))
  last_apart [] m e = absurd (omega arith)
  last_apart (x ∷ []) m e = ([], (x, (refl, omega arith)))
  last_apart (x ∷ y ∷ xs) zero e = absurd (omega arith)
  last_apart (x ∷ y ∷ xs) (suc m) e = let r = last_apart (y ∷ xs) m (omega arith) in
      (x ∷ r.0, (r.1.0, (ap (λ (l : List X). x ∷ l) r.1.1.0, omega (arith, r.1.1.1))))

  -- a filled row is a row
  of_filled : (cs : List (Option X)) (xs : List X) (n len capacity : ℕ) → cs ≡ filled xs n → length xs ≡ len → len + n ≡ capacity → (somes cs ≡ xs) × IsRow cs len capacity
  of_filled cs xs n len capacity e l c =
      let s : somes cs ≡ xs = ap somes e ∙ somes_filled xs n in
      let k : n ≡ capacity - len = omega arith in (
        s,
        record {
          within = omega arith;
          count = ap length s ∙ l;
          row = e ∙ (λ i. filled (sym s i) (k i));
        },
      )

  -- ---- a row of items

  module _ (cs : List (Option X)) (len capacity : ℕ) (h : IsRow cs len capacity) where
    pub row_length : length cs ≡ capacity
    row_length = omega (arith, ap length h.row ∙ length_filled (somes cs) (capacity - len), h.count, h.within)

    -- with room left, the place behind the items is empty
    room_left : len < capacity → (n : ℕ) × (capacity - len ≡ suc n)
    room_left lt = (capacity - len - 1, omega arith)

    pub row_open : len < capacity → (len < length cs) × (get_or cs len None ≡ None)
    row_open lt =
        let r = room_left lt in
        let e : cs ≡ filled (somes cs) (suc r.0) = h.row ∙ ap (filled (somes cs)) r.1 in (
          omega (arith, row_length),
          (λ i. get_or (e i) (sym h.count i) None) ∙ open_at (somes cs) r.0,
        )

    pub row_written : (x : X) (m : ℕ) → len < capacity → m ≡ suc len → (somes (set cs len (Some x)) ≡ somes cs ++ x ∷ []) × IsRow (set cs len (Some x)) m capacity
    row_written x m lt em =
        let r = room_left lt in
        let e : cs ≡ filled (somes cs) (suc r.0) = h.row ∙ ap (filled (somes cs)) r.1 in
        of_filled (set cs len (Some x)) (somes cs ++ x ∷ []) r.0 m capacity
        ((λ i. set (e i) (sym h.count i) (Some x)) ∙ put_at (somes cs) r.0 x)
        (omega (arith, length-append (somes cs) (x ∷ []), h.count)) (omega (arith, r.1, h.within))

  module _ (cs : List (Option X)) (len m capacity : ℕ) (h : IsRow cs len capacity) (em : len ≡ suc m) where
    apart : (ys : List X) × ((y : X) × ((somes cs ≡ ys ++ y ∷ []) × (length ys ≡ m)))
    apart = last_apart (somes cs) m (h.count ∙ em)

    spread : cs ≡ filled (apart.0 ++ apart.1.0 ∷ []) (capacity - len)
    spread = h.row ∙ ap (λ (l : List X). filled l (capacity - len)) apart.1.1.0

    pub row_top : IsFilled cs m
    row_top = (apart.1.0, (λ i. get_or (spread i) (sym apart.1.1.1 i) None) ∙ top_at apart.0 apart.1.0 (capacity - len))

    pub row_taken : (x : X) → get_or cs m None ≡ Some x → (somes cs ≡ somes (set cs m None) ++ x ∷ []) × IsRow (set cs m None) m capacity
    unfolding apart row_top
    row_taken x is =
        let same : Some apart.1.0 ≡ Some x = sym row_top.1 ∙ is in
        let r = of_filled (set cs m None) apart.0 (suc (capacity - len)) m capacity ((λ i. set (spread i) (sym apart.1.1.1 i) None) ∙ taken_at apart.0 apart.1.0 (capacity - len)) apart.1.1.1 (omega (arith, h.within)) in (
          apart.1.1.0 ∙ (λ i. sym r.0 i ++ got (same i) ∷ []),
          r.1,
        )
      where
        got : Option X → X
        got (Some y) = y
        got None = x

  -- a row without items
  pub row_of_none : (cs : List (Option X)) (capacity : ℕ) → cs ≡ replicate capacity None → (somes cs ≡ []) × IsRow cs 0 capacity
  row_of_none cs capacity e = of_filled cs [] capacity 0 capacity e refl (omega arith)

  pub none_left : (cs : List (Option X)) (capacity : ℕ) → IsRow cs 0 capacity → cs ≡ replicate capacity None
  none_left cs capacity h = h.row ∙ nothing (somes cs) h.count
    where
      nothing : (xs : List X) → length xs ≡ 0 → filled xs (capacity - 0) ≡ replicate capacity None
      nothing [] z = ap (λ (n : ℕ). replicate {A = Option X} n None) (let e : capacity - 0 ≡ capacity = omega arith in e)
      nothing (x ∷ xs) z = absurd (omega arith)
