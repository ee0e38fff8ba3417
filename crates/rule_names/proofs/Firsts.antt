-- The first of several mistakes: of two lists, of a list that a loop goes over, and that there is one first alone.
use Rattle.std.proofs.Common.{◌≡◌, ℕ, zero, suc, ◌+◌, ◌<◌, ◌≤◌, Bool, true, false, ◌&&◌, ◌||◌, List, [], ◌∷◌, ◌++◌, length, drop, get_or, Option, Some, None, ◌⊎◌, inl, inr, ⊎_elim, refl, sym, ap, ◌∙◌, subst, arith}
use Rattle.std.specs.Prelude.{if◌then◌else◌, ◌==◌, nat_lt}
use Rattle.std.specs.List.{Contains}
use Rattle.std.proofs.lemmas.Bool.Decides.{nat_tests}
use Rattle.std.proofs.lemmas.List.{drop_more, drop_all}
use Rattle.geo_tokens.specs.First.{IsLeastBy, IsOrdering}
use Rattle.geo_tokens.proofs.Firsts as firsts
use Rattle.rule_names.specs.declared.mistake.Flaw.{Flaw}
use Rattle.rule_names.specs.declared.mistake.Flaw.TheVariants.{UnknownName, RepeatedName, WrongKind, WrongCount, UnknownField}
use Rattle.rule_names.specs.declared.mistake.Mistake.{Mistake}
use Rattle.rule_names.specs.Mistakes.{phase, rank, is_after, earlier, first_of, IsFirst}

-- ---- a test at one level of an order, where `x` is what the levels below say

level : ℕ → ℕ → Bool → Bool
level a b x = nat_lt b a || ((a == b) && x)

level-chain-false : (a b c : ℕ) (x y z : Bool) → (x ≡ false → y ≡ false → z ≡ false) → level a b x ≡ false → level b c y ≡ false → level a c z ≡ false
unfolding level
level-chain-false a b c x y true k h g = grind (arith, nat_tests)
level-chain-false a b c x y false k h g = grind (arith, nat_tests)

level-turn : (a b : ℕ) (x y : Bool) → (x ≡ true → y ≡ false) → level a b x ≡ true → level b a y ≡ false
unfolding level
level-turn a b x y k h = grind (arith, nat_tests)

level-same : (a b : ℕ) (x y : Bool) → level a b x ≡ false → level b a y ≡ false → a ≡ b
unfolding level
level-same a b x y h g = grind (arith, nat_tests)

level-below : (a b : ℕ) (x y : Bool) → level a b x ≡ false → level b a y ≡ false → (x ≡ false) × (y ≡ false)
unfolding level
level-below a b x y h g = (grind (arith, nat_tests), grind (arith, nat_tests))

-- ---- of mistakes

by_place : Mistake → Mistake → Bool
by_place f g = level f.place g.place (level (rank f.flaw) (rank g.flaw) false)

rank-level : (f g : Mistake) → nat_lt (rank g.flaw) (rank f.flaw) ≡ level (rank f.flaw) (rank g.flaw) false
unfolding level
rank-level f g = grind (arith, nat_tests)

as_levels : (f g : Mistake) → is_after f g ≡ level (phase f.flaw) (phase g.flaw) (by_place f g)
unfolding level by_place
as_levels f g = ap (λ (x : Bool). nat_lt (phase g.flaw) (phase f.flaw) || ((phase f.flaw == phase g.flaw) && (nat_lt g.place f.place || ((f.place == g.place) && x)))) (rank-level f g)

chain-false : (f g h : Mistake) → is_after f g ≡ false → is_after g h ≡ false → is_after f h ≡ false
unfolding by_place
chain-false f g h a b =
    as_levels f h
    ∙ level-chain-false (phase f.flaw) (phase g.flaw) (phase h.flaw) (by_place f g) (by_place g h) (by_place f h)
    (λ c d. level-chain-false f.place g.place h.place _ _ _ (λ k l. level-chain-false (rank f.flaw) (rank g.flaw) (rank h.flaw) false false false (λ _ _. refl) k l) c d)
    (sym (as_levels f g) ∙ a) (sym (as_levels g h) ∙ b)

turn : (f g : Mistake) → is_after f g ≡ true → is_after g f ≡ false
unfolding by_place
turn f g a =
    as_levels g f
    ∙ level-turn (phase f.flaw) (phase g.flaw) (by_place f g) (by_place g f)
    (λ c. level-turn f.place g.place _ _ (λ k. level-turn (rank f.flaw) (rank g.flaw) false false (λ e. refl) k) c)
    (sym (as_levels f g) ∙ a)

-- a flaw by its rank
flaw_at : ℕ → Flaw
flaw_at n = if n == 0 then UnknownName else if n == 1 then RepeatedName else if n == 2 then WrongKind else if n == 3 then WrongCount else UnknownField

flaw_again : (f : Flaw) → flaw_at (rank f) ≡ f
unfolding flaw_at
flaw_again UnknownName = refl
flaw_again RepeatedName = refl
flaw_again WrongKind = refl
flaw_again WrongCount = refl
flaw_again UnknownField = refl

same_flaw : (f g : Flaw) → rank f ≡ rank g → f ≡ g
same_flaw f g e = sym (flaw_again f) ∙ ap flaw_at e ∙ flaw_again g

-- two mistakes of which neither comes after the other are the same
same_mistake : (f g : Mistake) → is_after f g ≡ false → is_after g f ≡ false → f ≡ g
unfolding by_place
same_mistake f g a b =
    let c : (by_place f g ≡ false) × (by_place g f ≡ false) = level-below (phase f.flaw) (phase g.flaw) (by_place f g) (by_place g f) (sym (as_levels f g) ∙ a) (sym (as_levels g f) ∙ b) in
    let p : f.place ≡ g.place = level-same f.place g.place _ _ c.0 c.1 in
    let d = level-below f.place g.place _ _ c.0 c.1 in
    let r : f.flaw ≡ g.flaw = same_flaw f.flaw g.flaw (level-same (rank f.flaw) (rank g.flaw) false false d.0 d.1) in
    λ i. record { place = p i; flaw = r i }

ordering : IsOrdering is_after
ordering = record { turn = turn; chain = chain-false; same = same_mistake }

-- ---- the earlier of two

pub earlier_none : (a : Option Mistake) → earlier a None ≡ a
earlier_none = firsts.earlier_none is_after

pub earlier_assoc : (a b c : Option Mistake) → earlier (earlier a b) c ≡ earlier a (earlier b c)
earlier_assoc = firsts.earlier_assoc is_after ordering

pub first_append : (ms ns : List Mistake) → first_of (ms ++ ns) ≡ earlier (first_of ms) (first_of ns)
first_append [] ns = refl
first_append (m ∷ ms) ns = ap (earlier (Some m)) (first_append ms ns) ∙ sym (earlier_assoc (Some m) (first_of ms) (first_of ns))

-- the first of two lists, each known by its first
pub two_lists : (ms ns : List Mistake) (a b o : Option Mistake) → o ≡ earlier a b → a ≡ first_of ms → b ≡ first_of ns → o ≡ first_of (ms ++ ns)
two_lists ms ns a b o e f g = e ∙ ap (λ (x : Option Mistake). earlier x b) f ∙ ap (earlier (first_of ms)) g ∙ sym (first_append ms ns)

-- ---- a loop over parts, where `all` has the mistakes of all parts and `one` those of one

module _ {X : Type 0} (one : X → List Mistake) (all : List X → List Mistake) (more : (x : X) (others : List X) → all (x ∷ others) ≡ one x ++ all others) (none : all [] ≡ []) where
  pub part_step : (xs : List X) (i : ℕ) (x : X) (found here o total : Option Mistake) → i < length xs → x ≡ get_or xs i x → o ≡ earlier found here → here ≡ first_of (one x)
      → earlier found (first_of (all (drop i xs))) ≡ total → earlier o (first_of (all (drop (i + 1) xs))) ≡ total
  part_step xs i x found here o total lt e s h inv =
      let rest : List Mistake = all (drop (i + 1) xs) in
      let d : drop i xs ≡ x ∷ drop (i + 1) xs = drop_more xs i x lt ∙ ap (λ (y : X). y ∷ drop (i + 1) xs) (sym e) in
      let a : first_of (all (drop i xs)) ≡ earlier here (first_of rest) =
      ap (λ (ys : List X). first_of (all ys)) d ∙ ap first_of (more x (drop (i + 1) xs)) ∙ first_append (one x) rest ∙ ap (λ (o : Option Mistake). earlier o (first_of rest)) (sym h) in
      ap (λ (o : Option Mistake). earlier o (first_of rest)) s ∙ earlier_assoc found here (first_of rest) ∙ ap (earlier found) (sym a) ∙ inv

  pub part_done : (xs : List X) (i : ℕ) (found total : Option Mistake) → length xs ≤ i → earlier found (first_of (all (drop i xs))) ≡ total → found ≡ total
  part_done xs i found total le inv =
      sym (earlier_none found) ∙ ap (λ (ms : List Mistake). earlier found (first_of ms)) (sym none ∙ ap all (sym (drop_all i xs le))) ∙ inv

-- ---- the first of a list comes before each of them

behind : (m : Mistake) (ms : List Mistake) (f : Mistake) → Contains ms f → Contains (m ∷ ms) f
behind m ms f (k, lt, e) = (suc k, omega arith, e)

cases : (m : Mistake) (ms : List Mistake) (f : Mistake) → Contains (m ∷ ms) f → (m ≡ f) ⊎ Contains ms f
cases m ms f (zero, lt, e) = inl e
cases m ms f (suc k, lt, e) = inr (k, omega arith, e)

IsLeast : List Mistake → Option Mistake → Type 0
IsLeast ms o = IsLeastBy is_after (Contains ms) o

one_more : (m : Mistake) (ms : List Mistake) (o : Option Mistake) → IsLeast ms o → IsLeast (m ∷ ms) (earlier (Some m) o)
unfolding IsLeast
one_more m ms o h =
    firsts.least_same is_after (λ f. (m ≡ f) ⊎ Contains ms f) (Contains (m ∷ ms)) (earlier (Some m) o) (λ f. ⊎_elim (λ e. (0, omega arith, e)) (behind m ms f)) (cases m ms)
    (firsts.least_or is_after ordering (λ f. m ≡ f) (Contains ms) (Some m) o (firsts.least_one is_after ordering m) h)

least : (ms : List Mistake) → IsLeast ms (first_of ms)
unfolding IsLeast
least [] = λ f there. let lt : there.0 < 0 = there.1 in absurd (omega arith)
least (m ∷ ms) = one_more m ms (first_of ms) (least ms)

-- where a list has no first, it has no mistake
pub no_first : (ms : List Mistake) → None ≡ first_of ms → (f : Mistake) → Contains ms f → ⊥
unfolding IsLeast
no_first ms e = subst (λ (o : Option Mistake). IsLeast ms o) (sym e) (least ms)

pub is_first : (ms : List Mistake) (f : Mistake) → Some f ≡ first_of ms → IsFirst ms f
unfolding IsLeast
is_first ms f e = subst (λ (o : Option Mistake). IsLeast ms o) (sym e) (least ms)

pub one_first : (ms : List Mistake) (f g : Mistake) → IsFirst ms f → IsFirst ms g → f ≡ g
one_first ms = firsts.one_first is_after ordering (Contains ms)
