-- Conditions of which one is possible, or all are.
use Rattle.std.proofs.Common.{◌≡◌, ℕ, ◌+◌, ◌<◌, ◌≤◌, Bool, true, false, ◌||◌, List, [], ◌∷◌, length, get_or, take, drop, refl, sym, ap, ◌∙◌, subst, arith, ℤ, pos}
use lib.Signed.{le_z}
use borrow.Author.Differences.{true_is_le, le-true}
use Rattle.std.specs.Prelude.{insert, Result, Ok, Err, IfOk}
use Rattle.std.proofs.lemmas.Int.{ints}
use Rattle.std.proofs.lemmas.List.{take-append-drop, take_all}
use Rattle.std.proofs.lemmas.List.Folds.{list_any-append, list_any_more}
use Rattle.std.proofs.lemmas.List.Elements.{All-nil, All-cons, All-head, All-tail, All-append, All-take, All-drop, All-get_or}
use Rattle.geo_conditions.specs.declared.cond.Cond.{Cond, AtLeast}
use Rattle.geo_conditions.specs.declared.cond.Conds.{Conds}
use Rattle.geo_conditions.specs.Reach.{State, count}
use Rattle.geo_conditions.specs.Conditions.{possible, FitsIn, AllFit}
use Rattle.geo_conditions.specs.Supported.{NoneRefuted}
use Rattle.geo_conditions.proofs.Children.{many_possible, many_most, at_least_is, fit_out, fit_in}
use Rattle.condition_parts.specs.Literals.{some_possible, AddsTo, AddsAll, IsOneOf}

-- ---- one of them

between : (a b x : Bool) → (a || (x || b)) ≡ ((a || b) || x)
between true b x = refl
between false true true = refl
between false true false = refl
between false false true = refl
between false false false = refl

apart : (a b c : Bool) → (a || (b || c)) ≡ ((a || b) || c)
apart true b c = refl
apart false b c = refl

nothing : (a : Bool) → a ≡ (a || false)
nothing true = refl
nothing false = refl

split_at : (xs : List Cond) (i : ℕ) (S : State) → some_possible xs S ≡ (some_possible (take i xs) S || some_possible (drop i xs) S)
split_at xs i S = ap (λ (ys : List Cond). some_possible ys S) (sym (take-append-drop i xs)) ∙ list_any-append (λ c. possible c S) (take i xs) (drop i xs)

-- a literal that is put among others
pub adds_inserted : (c : Cond) (xs : List Cond) (i : ℕ) → AddsTo c xs (insert xs i c)
adds_inserted c xs i = record {
  same = λ S.
      list_any-append (λ d. possible d S) (take i xs) (c ∷ drop i xs)
      ∙ between (some_possible (take i xs) S) (some_possible (drop i xs) S) (possible c S)
      ∙ ap (λ (b : Bool). b || possible c S) (sym (split_at xs i S));
  fit = λ S old own. All-append (λ d. FitsIn d S) (take i xs) (c ∷ drop i xs) (All-take (λ d. FitsIn d S) i xs old) (All-cons (λ d. FitsIn d S) c (drop i xs) own (All-drop (λ d. FitsIn d S) i xs old));
}

-- what the first i of some conditions added
pub record AddsFirst (cs : List Cond) (i : ℕ) (old now : List Cond) : Type 0 where
  pub same : (S : State) → some_possible now S ≡ (some_possible old S || some_possible (take i cs) S)
  pub fit : (S : State) → AllFit old S → AllFit cs S → AllFit now S

pub adds_none : (cs old : List Cond) → AddsFirst cs 0 old old
adds_none cs old = record { same = λ S. nothing (some_possible old S); fit = λ S a b. a }

pub adds_more : (cs old now new : List Cond) (i : ℕ) (c : Cond) → i < length cs → c ≡ get_or cs i c → AddsFirst cs i old now → AddsTo c now new → AddsFirst cs (i + 1) old new
adds_more cs old now new i c h is a b = record {
  same = λ S.
      b.same S ∙ ap (λ (x : Bool). x || possible c S) (a.same S)
      ∙ sym (apart (some_possible old S) (some_possible (take i cs) S) (possible c S))
      ∙ ap (λ (x : Bool). some_possible old S || x) (ap (λ (d : Cond). some_possible (take i cs) S || possible d S) is ∙ sym (list_any_more (λ d. possible d S) cs i c h));
  fit = λ S old_fit all. b.fit S (a.fit S old_fit all) (subst (λ (d : Cond). FitsIn d S) (sym is) (All-get_or (λ d. FitsIn d S) cs i c h all));
}

pub adds_all : (cs old now : List Cond) (i : ℕ) → length cs ≤ i → AddsFirst cs i old now → AddsAll cs old now
adds_all cs old now i h a = record {
  same = λ S. a.same S ∙ ap (λ (ds : List Cond). some_possible old S || some_possible ds S) (take_all i cs h);
  fit = a.fit;
}

-- ---- one child is enough

first_or : (b : Bool) (m : ℕ) → le_z (pos 1) (pos (count b + m)) ≡ (b || le_z (pos 1) (pos m))
first_or true m = sym (true_is_le (pos 1) (pos (count true + m)) (omega (arith, ints)))
first_or false m = ap (λ (n : ℕ). le_z (pos 1) (pos n)) (let e : count false + m ≡ m = omega arith in e)

one_is_some : (S : State) (xs : List Cond) → le_z (pos 1) (pos (many_possible S xs)) ≡ some_possible xs S
one_is_some S [] = refl
one_is_some S (x ∷ xs) = first_or (possible x S) (many_possible S xs) ∙ ap (λ (b : Bool). possible x S || b) (one_is_some S xs)

pub one_enough : (n : ℤ) (children : Conds) (S : State) → n ≡ pos 1 → possible (AtLeast n children) S ≡ some_possible children.items.items S
one_enough n children S e = at_least_is n children S ∙ ap (λ (m : ℤ). le_z m (pos (many_possible S children.items.items))) e ∙ one_is_some S children.items.items

pub is_one_of : (literals : List Cond) (children : Conds) (c : Cond) → c ≡ AtLeast (pos 1) children → children.items.items ≡ literals → IsOneOf literals c
is_one_of literals children c e same = record {
  same = λ S. ap (λ (d : Cond). possible d S) e ∙ one_enough (pos 1) children S refl ∙ ap (λ (xs : List Cond). some_possible xs S) same;
  fit = λ S h. subst (λ (d : Cond). FitsIn d S) (sym e) (fit_in (pos 1) children S (subst (λ (xs : List Cond). AllFit xs S) (sym same) h));
}

-- what all children add is what the condition adds of which one is enough
pub adds_children : (n : ℤ) (children : Conds) (c : Cond) (xs old new : List Cond) → c ≡ AtLeast n children → xs ≡ children.items.items → n ≡ pos 1 → AddsAll xs old new → AddsTo c old new
adds_children n children c xs old new e same one a = record {
  same = λ S. a.same S ∙ ap (λ (b : Bool). some_possible old S || b) (ap (λ (ys : List Cond). some_possible ys S) same ∙ sym (one_enough n children S one) ∙ ap (λ (d : Cond). possible d S) (sym e));
  fit = λ S old_fit own. a.fit S old_fit (subst (λ (ys : List Cond). AllFit ys S) (sym same) (fit_out n children S (subst (λ (d : Cond). FitsIn d S) e own)));
}

-- ---- all children are asked for

counted : (b : Bool) → count b ≤ 1
counted true = omega arith
counted false = omega arith

count_one : (b : Bool) → 1 ≤ count b → b ≡ true
count_one true h = refl
count_one false h = absurd (omega (arith, h))

all_many : (S : State) (xs : List Cond) → NoneRefuted xs S → many_possible S xs ≡ length xs
all_many S [] h = refl
all_many S (x ∷ xs) h =
    let own : possible x S ≡ true = All-head (λ c. possible c S ≡ true) x xs h in
    let rest : many_possible S xs ≡ length xs = all_many S xs (All-tail (λ c. possible c S ≡ true) x xs h) in
    let one : count (possible x S) ≡ 1 = ap count own in
    omega (arith, one, rest)

many_all : (S : State) (xs : List Cond) → length xs ≤ many_possible S xs → NoneRefuted xs S
many_all S [] h = All-nil (λ c. possible c S ≡ true)
many_all S (x ∷ xs) h =
    let most : many_possible S xs ≤ length xs = many_most S xs in
    let bit : count (possible x S) ≤ 1 = counted (possible x S) in
    All-cons (λ c. possible c S ≡ true) x xs (count_one (possible x S) (omega (arith, h, most, bit))) (many_all S xs (omega (arith, h, bit)))

pub all_enough : (n : ℤ) (children : Conds) (S : State) → n ≡ pos (length children.items.items) → NoneRefuted children.items.items S → possible (AtLeast n children) S ≡ true
all_enough n children S e h =
    let m : many_possible S children.items.items ≡ length children.items.items = all_many S children.items.items h in
    at_least_is n children S ∙ sym (true_is_le n (pos (many_possible S children.items.items)) (omega (arith, ints, e, m)))

pub all_needed : (n : ℤ) (children : Conds) (S : State) → n ≡ pos (length children.items.items) → possible (AtLeast n children) S ≡ true → NoneRefuted children.items.items S
all_needed n children S e h =
    let l = le-true n (pos (many_possible S children.items.items)) (sym (at_least_is n children S) ∙ h) in
    many_all S children.items.items (omega (arith, ints, e, l))

-- ---- what a call answered

-- what follows from what it promises
pub weaker : {E : Type 0} (P Q : Type 0) → (P → Q) → (r : Result Bool E) → IfOk r (λ b. b ≡ true → P) → IfOk r (λ b. b ≡ true → Q)
weaker P Q f (Ok b) h = λ e. f (h e)
weaker P Q f (Err e) h = h
