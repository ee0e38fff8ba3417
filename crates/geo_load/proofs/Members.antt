-- Members of lists, by recursion and by index.
use Rattle.std.proofs.Common.{◌≡◌, ◌≢◌, ◌<◌, ◌≤◌, ◌==◌, ℕ, zero, suc, Bool, true, false, not, List, [], ◌∷◌, ◌++◌, length, take, drop, get_or, if◌then◌else◌, refl, sym, subst, ap, ◌∙◌, arith, inl, inr}
use Rattle.std.specs.Prelude.{◌⊎◌}
use Rattle.std.specs.List.{remove}
use Rattle.std.proofs.lemmas.Bool.{cases_eq, cases_lt, eq-eqb, eqb-true, false≢true}
use Rattle.geo_load.specs.Order.{Has, HasNot, IsOnce, IsAscending, without}

pub has_without : (o : ℕ) (xs : List ℕ) (u : ℕ) → Has (without o xs) u → Has xs u × (u ≢ o)
has_without o [] u h = absurd h
has_without o (x ∷ xs) u h = go (x == o) refl (has_without o xs u)
  where
    go : (b : Bool) → (x == o) ≡ b → (Has (without o xs) u → Has xs u × (u ≢ o)) → Has (x ∷ xs) u × (u ≢ o)
    go true e more =
        let k : Has (without o xs) u = subst (λ (b : Bool). Has (if not b then x ∷ without o xs else without o xs) u) e h in
        let r = more k in (inr r.0, r.1)
    go false e more =
        let k : (x ≡ u) ⊎ Has (without o xs) u = subst (λ (b : Bool). Has (if not b then x ∷ without o xs else without o xs) u) e h in
        elim k [
          | inl q ↦ (inl q, λ i. false≢true (sym e ∙ eq-eqb x o (q ∙ i)))
          | inr r ↦ (let s = more r in (inr s.0, s.1))
        ]

pub without_has : (o : ℕ) (xs : List ℕ) (u : ℕ) → Has xs u → u ≢ o → Has (without o xs) u
without_has o [] u h n = absurd h
without_has o (x ∷ xs) u h n = go (x == o) refl (λ m. without_has o xs u m n)
  where
    go : (b : Bool) → (x == o) ≡ b → (Has xs u → Has (without o xs) u) → Has (without o (x ∷ xs)) u
    go true e more = subst (λ (b : Bool). Has (if not b then x ∷ without o xs else without o xs) u) (sym e) (elim h [
      | inl q ↦ absurd (n (sym q ∙ eqb-true x o e))
      | inr r ↦ more r
    ])
    go false e more = subst (λ (b : Bool). Has (if not b then x ∷ without o xs else without o xs) u) (sym e) (elim h [
      | inl q ↦ inl q
      | inr r ↦ inr (more r)
    ])

-- what is not there is taken away by nothing
pub without_none : (o : ℕ) (xs : List ℕ) → HasNot xs o → without o xs ≡ xs
without_none o [] h = refl
without_none o (x ∷ xs) h = go (x == o) refl (without_none o xs (λ r. h (inr r)))
  where
    go : (b : Bool) → (x == o) ≡ b → without o xs ≡ xs → without o (x ∷ xs) ≡ x ∷ xs
    go true e more = absurd (h (inl (eqb-true x o e)))
    go false e more = ap (λ (b : Bool). if not b then x ∷ without o xs else without o xs) e ∙ ap (λ (ys : List ℕ). x ∷ ys) more

-- ---- by index

pub has_index : (xs : List ℕ) (u : ℕ) → Has xs u → (k : ℕ) × (k < length xs) × ((d : ℕ) → get_or xs k d ≡ u)
has_index [] u h = absurd h
has_index (x ∷ xs) u (inl e) = (0, omega arith, λ d. e)
has_index (x ∷ xs) u (inr r) = let s = has_index xs u r in let l : s.0 < length xs = s.1 in (suc s.0, omega (arith, l), s.2)

pub index_has : (xs : List ℕ) (k d : ℕ) → k < length xs → Has xs (get_or xs k d)
index_has [] k d h = absurd (omega (arith, h))
index_has (x ∷ xs) zero d h = inl refl
index_has (x ∷ xs) (suc k) d h = inr (index_has xs k d (omega (arith, h)))

pub ascends : (xs : List ℕ) (i k d e : ℕ) → IsAscending xs → i < k → k < length xs → get_or xs i d < get_or xs k e
ascends [] i k d e a l h = absurd (omega (arith, h))
ascends (x ∷ xs) i zero d e a l h = absurd (omega (arith, l))
ascends (x ∷ xs) zero (suc k) d e a l h = a.0 (get_or xs k e) (index_has xs k e (omega (arith, h)))
ascends (x ∷ xs) (suc i) (suc k) d e a l h = ascends xs i k d e a.1 (omega (arith, l)) (omega (arith, h))

pub without_ascends : (o : ℕ) (xs : List ℕ) → IsAscending xs → IsAscending (without o xs)
without_ascends o [] a = tt
without_ascends o (x ∷ xs) a = go (x == o) refl (without_ascends o xs a.1)
  where
    go : (b : Bool) → (x == o) ≡ b → IsAscending (without o xs) → IsAscending (without o (x ∷ xs))
    go true e more = subst (λ (b : Bool). IsAscending (if not b then x ∷ without o xs else without o xs)) (sym e) more
    go false e more = subst (λ (b : Bool). IsAscending (if not b then x ∷ without o xs else without o xs)) (sym e) ((λ u h. a.0 u (has_without o xs u h).0), more)

-- what is removed at a position is the object there
pub removed : (xs : List ℕ) (i d : ℕ) → IsAscending xs → i < length xs → remove xs i ≡ without (get_or xs i d) xs
removed [] i d a h = absurd (omega (arith, h))
removed (x ∷ xs) zero d a h =
    let own : (x == x) ≡ true = eq-eqb x x refl in
    sym (ap (λ (b : Bool). if not b then x ∷ without x xs else without x xs) own ∙ without_none x xs (λ r. let l : x < x = a.0 x r in omega (arith, l)))
removed (x ∷ xs) (suc i) d a h = go (x == get_or xs i d) refl (removed xs i d a.1 (omega (arith, h)))
  where
    go : (b : Bool) → (x == get_or xs i d) ≡ b → remove xs i ≡ without (get_or xs i d) xs → remove (x ∷ xs) (suc i) ≡ without (get_or xs i d) (x ∷ xs)
    go true e more =
        let l : x < get_or xs i d = a.0 (get_or xs i d) (index_has xs i d (omega (arith, h))) in
        let s : x ≡ get_or xs i d = eqb-true x (get_or xs i d) e in
        absurd (omega (arith, l, s))
    go false e more =
        ap (λ (ys : List ℕ). x ∷ ys) more
        ∙ sym (ap (λ (b : Bool). if not b then x ∷ without (get_or xs i d) xs else without (get_or xs i d) xs) e)

-- ---- counting

pub shorter : (o : ℕ) (xs : List ℕ) → length (without o xs) ≤ length xs
shorter o [] = omega arith
shorter o (x ∷ xs) = go (x == o) refl (shorter o xs)
  where
    go : (b : Bool) → (x == o) ≡ b → length (without o xs) ≤ length xs → length (without o (x ∷ xs)) ≤ length (x ∷ xs)
    go true e r = subst (λ (b : Bool). length (if not b then x ∷ without o xs else without o xs) ≤ length (x ∷ xs)) (sym e) (omega (arith, r))
    go false e r = subst (λ (b : Bool). length (if not b then x ∷ without o xs else without o xs) ≤ length (x ∷ xs)) (sym e) (omega (arith, r))

pub one_less : (o : ℕ) (xs : List ℕ) → Has xs o → length (without o xs) < length xs
one_less o [] h = absurd h
one_less o (x ∷ xs) h = go (x == o) refl (one_less o xs)
  where
    go : (b : Bool) → (x == o) ≡ b → (Has xs o → length (without o xs) < length xs) → length (without o (x ∷ xs)) < length (x ∷ xs)
    go true e more = subst (λ (b : Bool). length (if not b then x ∷ without o xs else without o xs) < length (x ∷ xs)) (sym e) (let r = shorter o xs in omega (arith, r))
    go false e more = subst (λ (b : Bool). length (if not b then x ∷ without o xs else without o xs) < length (x ∷ xs)) (sym e) (elim h [
      | inl q ↦ absurd (false≢true (sym e ∙ eq-eqb x o q))
      | inr r ↦ (let s = more r in omega (arith, s))
    ])

-- different members are no more than the list
pub no_more : (path left : List ℕ) → IsOnce path → ((o : ℕ) → Has path o → Has left o) → length path ≤ length left
no_more [] left o h = omega arith
no_more (x ∷ path) left o h =
    let r = no_more path (without x left) o.1 (λ u m. without_has x left u (h u (inr m)) (λ e. o.0 (subst (λ (w : ℕ). Has path w) e m))) in
    let l = one_less x left (h x (inl refl)) in
    omega (arith, r, l)

-- ---- one more at the end

pub has_last : (xs : List ℕ) (x u : ℕ) → Has (xs ++ x ∷ []) u → Has xs u ⊎ (x ≡ u)
has_last [] x u (inl e) = inr e
has_last [] x u (inr h) = absurd h
has_last (y ∷ xs) x u (inl e) = inl (inl e)
has_last (y ∷ xs) x u (inr h) = elim (has_last xs x u h) [ inl r ↦ inl (inr r) | inr e ↦ inr e ]

pub last_has : (xs : List ℕ) (x u : ℕ) → Has xs u ⊎ (x ≡ u) → Has (xs ++ x ∷ []) u
last_has [] x u (inl h) = absurd h
last_has [] x u (inr e) = inl e
last_has (y ∷ xs) x u (inl (inl e)) = inl e
last_has (y ∷ xs) x u (inl (inr h)) = inr (last_has xs x u (inl h))
last_has (y ∷ xs) x u (inr e) = inr (last_has xs x u (inr e))

pub once_last : (xs : List ℕ) (x : ℕ) → IsOnce xs → HasNot xs x → IsOnce (xs ++ x ∷ [])
once_last [] x o n = ((λ h. h), tt)
once_last (y ∷ xs) x o n = (
  (λ h. elim (has_last xs x y h) [ inl r ↦ o.0 r | inr e ↦ n (inl (sym e)) ]),
  once_last xs x o.1 (λ h. n (inr h)),
)

-- whether a list has a number
pub has_or_not : (xs : List ℕ) (u : ℕ) → Has xs u ⊎ HasNot xs u
has_or_not [] u = inr (λ h. h)
has_or_not (x ∷ xs) u = elim (cases_eq x u) [
  | inl e ↦ inl (inl e)
  | inr n ↦ elim (has_or_not xs u) [
    | inl h ↦ inl (inr h)
    | inr h ↦ inr (λ m. elim m [ inl e ↦ n e | inr r ↦ h r ])
  ]
]

-- ---- more by index

pub same_or : (xs : List ℕ) (i d e : ℕ) → i < length xs → get_or xs i d ≡ get_or xs i e
same_or [] i d e h = absurd (omega (arith, h))
same_or (x ∷ xs) zero d e h = refl
same_or (x ∷ xs) (suc i) d e h = same_or xs i d e (omega (arith, h))

pub not_before : (xs : List ℕ) (i k d e : ℕ) → IsAscending xs → i ≤ k → k < length xs → get_or xs i d ≤ get_or xs k e
not_before xs i k d e a l h = elim (cases_lt i k) [
  | inl less ↦ (let s = ascends xs i k d e a less h in omega (arith, s))
  | inr ge ↦ (
      let same : i ≡ k = omega (arith, l, ge) in
      let s : get_or xs i d ≡ get_or xs k e = ap (λ (n : ℕ). get_or xs n d) same ∙ same_or xs k d e h in
      omega (arith, s)
      )
]

pub take_drop : (k : ℕ) (xs : List ℕ) → take k xs ++ drop k xs ≡ xs
take_drop zero xs = refl
take_drop (suc k) [] = refl
take_drop (suc k) (x ∷ xs) = ap (λ (ys : List ℕ). x ∷ ys) (take_drop k xs)

pub drop_at : (xs : List ℕ) (k d : ℕ) → k < length xs → drop k xs ≡ get_or xs k d ∷ drop (suc k) xs
drop_at [] k d h = absurd (omega (arith, h))
drop_at (x ∷ xs) zero d h = refl
drop_at (x ∷ xs) (suc k) d h = drop_at xs k d (omega (arith, h))

pub has_behind : (xs ys : List ℕ) (u : ℕ) → Has ys u → Has (xs ++ ys) u
has_behind [] ys u h = h
has_behind (x ∷ xs) ys u h = inr (has_behind xs ys u h)
