-- The first fault among the items of a list, as a loop meets them.
use Rattle.std.proofs.Common.{◌≡◌, ℕ, zero, suc, ◌+◌, ◌<◌, ◌≤◌, List, [], ◌∷◌, ◌++◌, length, take, map, get_or, Option, Some, None, ◌⊎◌, inl, inr, ⊎_elim, refl, sym, ap, ◌∙◌, subst, arith}
use Rattle.std.specs.Prelude.{slice_get}
use Rattle.std.proofs.lemmas.List.{take_more, take-map, take_all, length-take-le, length-map, get_or-map}
use Rattle.problem_data.specs.declared.fault.Fault.{Fault}
use Rattle.problem_data.specs.Least.{IsLeast, earlier}
use Rattle.problem_data.specs.Faults.{Among}
use Rattle.problem_data.proofs.Firsts.{least_or, least_same}

module _ {A : Type 0} where
  -- what stands in a list with one more behind it
  get_left : (xs ys : List A) (i : ℕ) (x : A) → slice_get xs i ≡ Some x → slice_get (xs ++ ys) i ≡ Some x
  get_left [] ys i x h = absurd cc
  get_left (y ∷ xs) ys zero x h = h
  get_left (y ∷ xs) ys (suc i) x h = get_left xs ys i x h

  take_left : (xs ys : List A) (i : ℕ) (x : A) → slice_get xs i ≡ Some x → take i (xs ++ ys) ≡ take i xs
  take_left [] ys i x h = absurd cc
  take_left (y ∷ xs) ys zero x h = refl
  take_left (y ∷ xs) ys (suc i) x h = ap (λ zs. y ∷ zs) (take_left xs ys i x h)

  get_last : (xs : List A) (x : A) → slice_get (xs ++ x ∷ []) (length xs) ≡ Some x
  get_last [] x = refl
  get_last (y ∷ xs) x = get_last xs x

  take_last : (xs : List A) (x : A) → take (length xs) (xs ++ x ∷ []) ≡ xs
  take_last [] x = refl
  take_last (y ∷ xs) x = ap (λ zs. y ∷ zs) (take_last xs x)

  -- an item of it stands before, or is the last
  get_cases : (xs : List A) (x y : A) (i : ℕ) → slice_get (xs ++ x ∷ []) i ≡ Some y → (slice_get xs i ≡ Some y) ⊎ ((i ≡ length xs) × (x ≡ y))
  get_cases [] x y zero h = inr (refl, cc)
  get_cases [] x y (suc i) h = absurd cc
  get_cases (z ∷ xs) x y zero h = inl h
  get_cases (z ∷ xs) x y (suc i) h = elim (get_cases xs x y i h) [ inl e ↦ inl e | inr e ↦ inr (ap suc e.0, e.1) ]

  module _ (R : List A → A → Fault → Type 0) where
    push_left : (xs : List A) (x : A) (f : Fault) → Among R xs f → Among R (xs ++ x ∷ []) f
    push_left xs x f h = record {
      index = h.index;
      item = h.item;
      there = get_left xs (x ∷ []) h.index h.item h.there;
      wrong = subst (λ (zs : List A). R zs h.item f) (sym (take_left xs (x ∷ []) h.index h.item h.there)) h.wrong;
    }

    push_last : (xs : List A) (x : A) (f : Fault) → R xs x f → Among R (xs ++ x ∷ []) f
    push_last xs x f h = record { index = length xs; item = x; there = get_last xs x; wrong = subst (λ (zs : List A). R zs x f) (sym (take_last xs x)) h }

    push_cases : (xs : List A) (x : A) (f : Fault) → Among R (xs ++ x ∷ []) f → Among R xs f ⊎ R xs x f
    push_cases xs x f h =
        elim (get_cases xs x h.item h.index h.there) [
          | inl e ↦ inl (record { index = h.index; item = h.item; there = e; wrong = subst (λ (zs : List A). R zs h.item f) (take_left xs (x ∷ []) h.index h.item e) h.wrong })
          | inr e ↦ inr (subst (λ (y : A). R xs y f) (sym e.1) (subst (λ (zs : List A). R zs h.item f) (ap (λ n. take n (xs ++ x ∷ [])) e.0 ∙ take_last xs x) h.wrong))
        ]

    pub among_none : (f : Fault) → Among R [] f → ⊥
    among_none f h = let e : ◌≡◌ {A = Option A} None (Some h.item) = h.there in cc

    among_push : (xs : List A) (x : A) (a b : Option Fault) → IsLeast (Among R xs) a → IsLeast (R xs x) b → IsLeast (Among R (xs ++ x ∷ [])) (earlier a b)
    among_push xs x a b h g =
        least_same (λ f. Among R xs f ⊎ R xs x f) (Among R (xs ++ x ∷ [])) (earlier a b) (λ f. ⊎_elim (push_left xs x f) (push_last xs x f)) (λ f. push_cases xs x f)
        (least_or (Among R xs) (R xs x) a b h g)

    -- a loop met one item more
    pub among_more : (xs : List A) (i : ℕ) (d : A) (a b : Option Fault) → i < length xs → IsLeast (Among R (take i xs)) a → IsLeast (R (take i xs) (get_or xs i d)) b → IsLeast (Among R (take (i + 1) xs)) (earlier a b)
    among_more xs i d a b lt h g =
        subst (λ (zs : List A). IsLeast (Among R zs) (earlier a b)) (sym (take_more xs i d lt)) (among_push (take i xs) (get_or xs i d) a b h g)

    -- a loop met all items
    pub among_all : (xs : List A) (i : ℕ) (a : Option Fault) → length xs ≤ i → IsLeast (Among R (take i xs)) a → IsLeast (Among R xs) a
    among_all xs i a le h = subst (λ (zs : List A). IsLeast (Among R zs) a) (take_all i xs le) h

-- ---- of a list of views

module _ {X A : Type 0} (view : X → A) (R : List A → A → Fault → Type 0) where
  viewed : List X → X → Fault → Type 0
  viewed before x f = R (map view before) (view x) f

  get_view : (xs : List X) (i : ℕ) (x : X) → slice_get xs i ≡ Some x → slice_get (map view xs) i ≡ Some (view x)
  get_view [] i x h = absurd cc
  get_view (y ∷ xs) zero x h = let e : y ≡ x = cc in ap (λ z. Some (view z)) e
  get_view (y ∷ xs) (suc i) x h = get_view xs i x h

  pub get_back : (xs : List X) (i : ℕ) (a : A) → slice_get (map view xs) i ≡ Some a → (x : X) × (slice_get xs i ≡ Some x) × (view x ≡ a)
  get_back [] i a h = absurd cc
  get_back (y ∷ xs) zero a h = (y, refl, cc)
  get_back (y ∷ xs) (suc i) a h = get_back xs i a h

  among_view : (xs : List X) (f : Fault) → Among (λ before x. R (map view before) (view x)) xs f → Among R (map view xs) f
  among_view xs f h = record {
    index = h.index;
    item = view h.item;
    there = get_view xs h.index h.item h.there;
    wrong = subst (λ (zs : List A). R zs (view h.item) f) (sym (take-map view h.index xs)) h.wrong;
  }

  among_back : (xs : List X) (f : Fault) → Among R (map view xs) f → Among (λ before x. R (map view before) (view x)) xs f
  among_back xs f h =
      let b : (x : X) × (slice_get xs h.index ≡ Some x) × (view x ≡ h.item) = get_back xs h.index h.item h.there in
      record {
        index = h.index;
        item = b.0;
        there = b.1;
        wrong = subst (λ (zs : List A). R zs (view b.0) f) (take-map view h.index xs) (subst (λ (a : A). R (take h.index (map view xs)) a f) (sym b.2) h.wrong);
      }

  -- the first fault among the items is that among their views
  pub least_view : (xs : List X) (a : Option Fault) → IsLeast (Among (λ before x. R (map view before) (view x)) xs) a → IsLeast (Among R (map view xs)) a
  least_view xs a h = least_same (Among (λ before x. R (map view before) (view x)) xs) (Among R (map view xs)) a (among_view xs) (among_back xs) h

-- ---- a loop over a list, or over one that is seen by a view

front_length : {A : Type 0} (xs : List A) (i : ℕ) → i ≤ length xs → length (take i xs) ≡ i
front_length xs i le = length-take-le i xs le

module _ {X A : Type 0} (view : X → A) (ys : List X) (i : ℕ) where
  front : length ys ≡ length (map view ys)
  front = sym (length-map ys view)

  pub before_length : i < length ys → length (take i (map view ys)) ≡ i
  before_length lt = front_length (map view ys) i (let e : length ys ≡ length (map view ys) = front in omega arith)

  view_at : (x : X) → i < length ys → x ≡ get_or ys i x → view x ≡ get_or (map view ys) i (view x)
  view_at x lt e = ap view e ∙ sym (get_or-map view ys i x (view x) lt)

  -- one item more, and all of them
  pub push_view : (x : X) → i < length ys → x ≡ get_or ys i x → take (i + 1) (map view ys) ≡ take i (map view ys) ++ view x ∷ []
  push_view x lt e = take_more (map view ys) i (view x) (let e1 : length ys ≡ length (map view ys) = front in omega arith) ∙ ap (λ (y : A). take i (map view ys) ++ y ∷ []) (sym (view_at x lt e))

  pub take_view : length ys ≤ i → take i (map view ys) ≡ map view ys
  take_view le = take_all i (map view ys) (let e1 : length ys ≡ length (map view ys) = front in omega arith)

  module _ (R : List A → A → Fault → Type 0) where
    pub more_view : (x : X) (a b o : Option Fault) → i < length ys → x ≡ get_or ys i x → o ≡ earlier a b → IsLeast (Among R (take i (map view ys))) a → IsLeast (R (take i (map view ys)) (view x)) b → IsLeast (Among R (take (i + 1) (map view ys))) o
    more_view x a b o lt e s h g =
        let lt1 : i < length (map view ys) = (let e1 : length ys ≡ length (map view ys) = front in omega arith) in
        subst (λ (z : Option Fault). IsLeast (Among R (take (i + 1) (map view ys))) z) (sym s)
        (among_more R (map view ys) i (view x) a b lt1 h (subst (λ (y : A). IsLeast (R (take i (map view ys)) y) b) (view_at x lt e) g))

    pub all_view : (a : Option Fault) → length ys ≤ i → IsLeast (Among R (take i (map view ys))) a → IsLeast (Among R (map view ys)) a
    all_view a le h = among_all R (map view ys) i a (let e : length ys ≡ length (map view ys) = front in omega arith) h

module _ {A : Type 0} (R : List A → A → Fault → Type 0) (xs : List A) (i : ℕ) where
  pub more : (d : A) (a b o : Option Fault) → i < length xs → o ≡ earlier a b → IsLeast (Among R (take i xs)) a → IsLeast (R (take i xs) (get_or xs i d)) b → IsLeast (Among R (take (i + 1) xs)) o
  more d a b o lt s h g = subst (λ (z : Option Fault). IsLeast (Among R (take (i + 1) xs)) z) (sym s) (among_more R xs i d a b lt h g)

  -- the same of an item that owns memory
  pub more_item : (x : A) (a b o : Option Fault) → i < length xs → x ≡ get_or xs i x → o ≡ earlier a b → IsLeast (Among R (take i xs)) a → IsLeast (R (take i xs) x) b → IsLeast (Among R (take (i + 1) xs)) o
  more_item x a b o lt e s h g = more x a b o lt s h (subst (λ (y : A). IsLeast (R (take i xs) y) b) e g)

pub map_twice : {X A B : Type 0} (f : A → B) (g : X → A) (xs : List X) → map f (map g xs) ≡ map (λ x. f (g x)) xs
map_twice f g [] = refl
map_twice f g (x ∷ xs) = ap (λ ys. f (g x) ∷ ys) (map_twice f g xs)
