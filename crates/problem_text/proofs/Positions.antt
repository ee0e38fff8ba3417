-- Names and their positions, and lists of statements without faults.
use Rattle.std.proofs.Common.{◌≡◌, ℕ, zero, suc, ◌+◌, ◌<◌, List, [], ◌∷◌, length, Option, Some, None, Bool, true, false, ◌==◌, ◌&&◌, ◌⊎◌, inl, inr, refl, sym, ap, ◌∙◌, subst, arith}
use Rattle.std.specs.Prelude.{not, cond}
use Rattle.std.specs.List.{Contains, filter_map, cons_option, range_with_len}
use Rattle.std.specs.Str.{bytes_eq}
use Rattle.std.proofs.lemmas.Bool.{eq-eqb}
use Rattle.std.proofs.lemmas.Slice.Eq.{bytes_eq-Decides}
use Rattle.std.proofs.Math.Numerals.{one-add}
use Rattle.rule_syntax.specs.declared.tree.PlacedName.{PlacedName}
use Rattle.rule_print.proofs.Respelled.{AllOf}
use Rattle.geo_tokens.specs.declared.fault.FaultWord.TheVariants as words
use Rattle.problem_data.specs.declared.fault.Fault.{Fault}
use Rattle.problem_data.specs.Least.{fault}
use Rattle.problem_data.specs.Faults.{Among, NotMade}
use Rattle.problem_data.specs.Meaning.{position_of}
use Rattle.problem_text.specs.Canonical.{name_at, counts_from}

-- the name stands in the list, and its position is where it stands first
pub record Made (names : List (List ℕ)) (n : PlacedName) : Type 0 where
  pub is : name_at names (position_of names n) ≡ n.name
  pub inside : position_of names n < length names

at_front : (x : List ℕ) (xs : List (List ℕ)) (n : PlacedName) → bytes_eq n.name x ≡ true → Made (x ∷ xs) n
at_front x xs n e =
    let zero_at : position_of (x ∷ xs) n ≡ 0 = ap (λ t. cond (not t) (1 + position_of xs n) 0) e in
    let same : n.name ≡ x = (bytes_eq-Decides n.name x).0 e in
    record { is = ap (λ i. name_at (x ∷ xs) i) zero_at ∙ sym same; inside = omega arith }

behind_front : (x : List ℕ) (xs : List (List ℕ)) (n : PlacedName) → bytes_eq n.name x ≡ false → position_of (x ∷ xs) n ≡ suc (position_of xs n)
behind_front x xs n e = ap (λ t. cond (not t) (1 + position_of xs n) 0) e ∙ rw one-add refl

further : (x : List ℕ) (xs : List (List ℕ)) (n : PlacedName) → bytes_eq n.name x ≡ false → Made xs n → Made (x ∷ xs) n
further x xs n e h =
    let at = behind_front x xs n e in
    let lt : position_of xs n < length xs = h.inside in
    record { is = ap (λ i. name_at (x ∷ xs) i) at ∙ h.is; inside = omega arith }

nowhere : (x : List ℕ) (xs : List (List ℕ)) (n : PlacedName) → bytes_eq n.name x ≡ false → (Contains xs n.name → ⊥) → Contains (x ∷ xs) n.name → ⊥
nowhere x xs n e h (zero, lt, is) = let t : bytes_eq n.name x ≡ true = (bytes_eq-Decides n.name x).1 (sym is) in absurd (let z : true ≡ false = sym t ∙ e in cc)
nowhere x xs n e h (suc k, lt, is) = let less : k < length xs = omega arith in h (k, less, is)

made_step : (b : Bool) (x : List ℕ) (xs : List (List ℕ)) (n : PlacedName) → bytes_eq n.name x ≡ b → Made xs n ⊎ (Contains xs n.name → ⊥) → Made (x ∷ xs) n ⊎ (Contains (x ∷ xs) n.name → ⊥)
made_step true x xs n e h = inl (at_front x xs n e)
made_step false x xs n e (inl h) = inl (further x xs n e h)
made_step false x xs n e (inr h) = inr (nowhere x xs n e h)

pub made_or_not : (names : List (List ℕ)) (n : PlacedName) → Made names n ⊎ (Contains names n.name → ⊥)
made_or_not [] n = inr (λ c. (let lt : c.0 < 0 = c.1 in absurd (omega arith)))
made_or_not (x ∷ xs) n = made_step (bytes_eq n.name x) x xs n refl (made_or_not xs n)

-- ---- lists without faults

-- a fault of an item behind the first one is one of the list
later : {A : Type 0} (R : A → Fault → Type 0) (x : A) (xs : List A) (f : Fault) → Among (λ before. R) xs f → Among (λ before. R) (x ∷ xs) f
later R x xs f a = record { index = suc a.index; item = a.item; there = a.there; wrong = a.wrong }

pub each_faultless : {A : Type 0} (R : A → Fault → Type 0) (xs : List A) → ((f : Fault) → Among (λ before. R) xs f → ⊥) → AllOf (λ x. (f : Fault) → R x f → ⊥) xs
each_faultless R [] h = tt
each_faultless R (x ∷ xs) h = ((λ f r. h f (record { index = 0; item = x; there = refl; wrong = r })), each_faultless R xs (λ f a. h f (later R x xs f a)))

made_of : (names : List (List ℕ)) (n : PlacedName) → ((f : Fault) → (Contains names n.name → ⊥) × (f ≡ fault n.place words.Unknown) → ⊥) → Made names n
made_of names n h = elim (made_or_not names n) [ inl m ↦ m | inr none ↦ absurd (h (fault n.place words.Unknown) (none, refl)) ]

-- names of which each is made
pub all_made : (names : List (List ℕ)) (ns : List PlacedName) → ((f : Fault) → NotMade names ns f → ⊥) → AllOf (Made names) ns
all_made names [] h = tt
all_made names (n ∷ ns) h = (made_of names n (λ f r. h f (record { index = 0; item = n; there = refl; wrong = r })), all_made names ns (λ f a. h f (record { index = suc a.index; item = a.item; there = a.there; wrong = a.wrong })))

-- ---- statements of one kind

kept : {B : Type 0} (Q : B → Type 0) (o : Option B) (ys : List B) → ((b : B) → o ≡ Some b → Q b) → AllOf Q ys → AllOf Q (cons_option o ys)
kept Q None ys f h = h
kept Q (Some b) ys f h = (f b refl, h)

pub all_filtered : {A B : Type 0} (pick : A → Option B) (P : A → Type 0) (Q : B → Type 0) → ((a : A) (b : B) → pick a ≡ Some b → P a → Q b) → (xs : List A) → AllOf P xs → AllOf Q (filter_map pick xs)
all_filtered pick P Q f [] h = tt
all_filtered pick P Q f (x ∷ xs) h = kept Q (pick x) (filter_map pick xs) (λ b e. f x b e h.0) (all_filtered pick P Q f xs h.1)

pub all_with : {A : Type 0} {P Q R : A → Type 0} (f : (a : A) → P a → Q a → R a) (xs : List A) → AllOf P xs → AllOf Q xs → AllOf R xs
all_with f [] h g = tt
all_with f (x ∷ xs) h g = (f x h.0 g.0, all_with f xs h.1 g.1)

-- ---- file order

both_true : (a b : Bool) → a ≡ true → b ≡ true → (a && b) ≡ true
both_true true b h g = g
both_true false b h g = absurd cc

-- file order counts
pub range_counts : (k n : ℕ) → counts_from k (range_with_len k n) ≡ true
range_counts k zero = refl
range_counts k (suc n) =
    let next : k + 1 ≡ suc k = omega arith in
    both_true (k == k) (counts_from (suc k) (range_with_len (k + 1) n)) (eq-eqb k k refl) (subst (λ (m : ℕ). counts_from m (range_with_len (k + 1) n) ≡ true) next (range_counts (k + 1) n))
