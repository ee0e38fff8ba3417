-- A part of which one is enough, and the objects that it names.
use Rattle.std.proofs.Common.{◌≡◌, ◌≢◌, ◌⊎◌, ℕ, suc, ◌<◌, Bool, true, false, List, [], ◌∷◌, length, get_or, refl, sym, ap, ◌∙◌, subst, inl, inr, arith, ℤ, pos, ◌≤ℤ◌, not, eqb, eqb-true}
use Rattle.std.specs.List.{list_any}
use Rattle.std.proofs.lemmas.Int.{ints}
use Rattle.std.proofs.lemmas.Bool.{false≢true, or_cases}
use Rattle.geo_conditions.specs.declared.cond.Cond.{Cond, AtLeast}
use Rattle.geo_conditions.specs.declared.cond.Conds.{Conds}
use Rattle.geo_conditions.specs.declared.form.Term.{Term}
use Rattle.geo_conditions.specs.Form.{Sum}
use Rattle.geo_conditions.specs.Conditions.{possible}
use Rattle.geo_conditions.specs.Reach.{State, reach}
use Rattle.geo_conditions.proofs.Children.{fit_out}
use Rattle.indexical.specs.Names.{names}
use Rattle.indexical.proofs.Children.{first_step, first_least, counted_true, possible_at_least, names_at_least}
use Rattle.indexical.proofs.Unnamed.{same_answer}
use Rattle.watches.specs.Rests.{HasOnly, IsPart, NamesOnly, RestsOn}

-- what follows from the test on each element follows where some element meets it
pub any_tells : {X : Type 0} (test : X → Bool) (P : Type 0) (xs : List X) → ((i : ℕ) (d : X) → i < length xs → test (get_or xs i d) ≡ true → P) → list_any test xs ≡ true → P
any_tells test P [] f a = absurd (false≢true a)
any_tells test P (x ∷ xs) f a = elim (or_cases (test x) (list_any test xs) a) [
  | inl e ↦ f 0 x (omega arith) e
  | inr e ↦ any_tells test P xs (λ i d h. f (suc i) d (omega (arith, h))) e
]

-- a condition is a part of itself
pub whole_part : (c : Cond) → IsPart c c
whole_part c = record { fits = λ S f. f; enough = λ S p. p }

pub part_part : (x y c : Cond) → IsPart x y → IsPart y c → IsPart x c
part_part x y c p q = record { fits = λ S f. p.fits S (q.fits S f); enough = λ S e. q.enough S (p.enough S e) }

-- where one is enough, one of them is a part
pub child_part : (n : ℤ) (children : Conds) (i : ℕ) (d : Cond) → n ≤ℤ pos 1 → i < length children.items.items → IsPart (get_or children.items.items i d) (AtLeast n children)
child_part n children i d one h = record {
  fits = λ S f. fit_out n children S f i d h;
  enough = λ S p.
      let xs = children.items.items in
      let e = first_step S xs i d h in
      let c = counted_true (possible (get_or xs i d) S) p in
      let least = first_least S xs (suc i) in
      possible_at_least n children S (omega (arith, ints, e, c, least, one));
}

-- what is possible by a part that names two objects rests on them
pub rests_on_named : (x c : Cond) (S : State) (a b : ℕ) → IsPart x c → NamesOnly x a b → possible x S ≡ true → RestsOn c S a b
rests_on_named x c S a b p n e T ra rb = p.enough T (same_answer x T S (λ u y. elim (n u y) [
  | inl s ↦ subst (λ (v : ℕ). reach T v ≡ reach S v) (sym s) ra
  | inr s ↦ subst (λ (v : ℕ). reach T v ≡ reach S v) (sym s) rb
]) ∙ e)

-- the same of what is read
pub child_read : (c x : Cond) (n : ℤ) (children : Conds) (xs : List Cond) (i : ℕ) → c ≡ AtLeast n children → xs ≡ children.items.items → n ≤ℤ pos 1 → i < length xs → x ≡ get_or xs i x → IsPart x c
child_read c x n children xs i is same one h e =
    subst (λ (d : Cond). IsPart x d) (sym is) (subst (λ (y : Cond). IsPart y (AtLeast n children)) (sym (e ∙ ap (λ (ys : List Cond). get_or ys i x) same)) (child_part n children i x one (subst (λ (ys : List Cond). i < length ys) same h)))

-- an object of one of the parts, each of which names the two only, is one of the two
pub names_of_parts : (c : Cond) (n : ℤ) (children : Conds) (xs : List Cond) (a b : ℕ) → c ≡ AtLeast n children → xs ≡ children.items.items → ((i : ℕ) (d : Cond) → i < length xs → NamesOnly (get_or xs i d) a b) → NamesOnly c a b
names_of_parts c n children xs a b is same f u y =
    any_tells (names u) ((u ≡ a) ⊎ (u ≡ b)) xs (λ i d h e. f i d h u e) (ap (list_any (names u)) same ∙ sym (names_at_least n children u) ∙ ap (names u) (sym is) ∙ y)

-- the same of terms
pub has_only_read : (f : Sum) (ts : List Term) (a b : ℕ) → ts ≡ f.terms → ((i : ℕ) (d : Term) → i < length ts → ((get_or ts i d).object.0 ≡ a) ⊎ ((get_or ts i d).object.0 ≡ b)) → HasOnly f a b
has_only_read f ts a b same g u y =
    any_tells (λ (t : Term). eqb t.object.0 u) ((u ≡ a) ⊎ (u ≡ b)) ts (λ i d h e. subst (λ (v : ℕ). (v ≡ a) ⊎ (v ≡ b)) (eqb-true (get_or ts i d).object.0 u e) (g i d h)) (ap (list_any (λ (t : Term). eqb t.object.0 u)) same ∙ y)

some : (b r : Bool) → r ≡ false → r ≡ not b → b ≡ true
some true r h e = refl
some false r h e = absurd (false≢true (sym h ∙ e))

-- what is not refuted by such a part
pub rests_unrefuted : (x c : Cond) (S : State) (a b o : ℕ) (r : Bool) → IsPart x c → NamesOnly x a b × (a ≢ o) × (b ≢ o) → r ≡ false → r ≡ not (possible x S) → RestsOn c S a b × (a ≢ o) × (b ≢ o)
rests_unrefuted x c S a b o r p n h e = (rests_on_named x c S a b p n.0 (some (possible x S) r h e), n.1, n.2)
