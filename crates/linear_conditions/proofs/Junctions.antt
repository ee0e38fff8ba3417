-- All of several, or some.
use Rattle.std.proofs.Common.{◌≡◌, ℕ, suc, ◌+◌, ◌≤◌, leb, ◌&&◌, ◌||◌, Bool, true, false, not, List, [], ◌∷◌, length, pos, sym, ap, ◌∙◌, refl, arith}
use Rattle.std.proofs.lemmas.Bool.Decides.{nat_tests}
use Rattle.geo_base.specs.Tuple.{Tuple}
use Rattle.geo_conditions.specs.Reach.{count}
use Rattle.linear_conditions.specs.declared.verdict.Verdict.{Verdict}
use Rattle.linear_conditions.specs.declared.verdict.Verdict.TheVariants.{Holds, Fails, Open}
use Rattle.linear_conditions.specs.CondTree.{CondTree, true_on}
use Rattle.linear_conditions.specs.Folding.{verdict, joined, decides}
use Rattle.linear_conditions.proofs.Counting.{counted, counted-le, fold-count, holds-true, fails-false}

-- both of two, or one of them
abbrev pub junction : Bool → Bool → Bool → Bool
junction true a b = a && b
junction false a b = a || b

-- all of a list, or one of them
abbrev pub joint : Bool → Tuple → List CondTree → Bool
joint all t [] = all
joint all t (c ∷ cs) = junction all (true_on t c) (joint all t cs)

all_more : (b j : Bool) (l n : ℕ) → n ≤ l → leb l n ≡ j → leb (suc l) (count b + n) ≡ (b && j)
all_more true j l n h e = grind (arith, nat_tests)
all_more false j l n h e = grind (arith, nat_tests)

some_more : (b j : Bool) (n : ℕ) → leb 1 n ≡ j → leb 1 (count b + n) ≡ (b || j)
some_more true j n e = grind (arith, nat_tests)
some_more false j n e = grind (arith, nat_tests)

all-joint : (t : Tuple) (cs : List CondTree) → leb (length cs) (counted t cs) ≡ joint true t cs
all-joint t [] = refl
all-joint t (c ∷ cs) = all_more (true_on t c) _ (length cs) (counted t cs) (counted-le t cs) (all-joint t cs)

some-joint : (t : Tuple) (cs : List CondTree) → leb 1 (counted t cs) ≡ joint false t cs
some-joint t [] = refl
some-joint t (c ∷ cs) = some_more (true_on t c) _ (counted t cs) (some-joint t cs)

pub joined-true : (all : Bool) (t : Tuple) (cs : List CondTree) → true_on t (joined all cs) ≡ joint all t cs
joined-true true t cs = fold-count t (pos (length cs)) cs ∙ all-joint t cs
joined-true false t cs = fold-count t (pos 1) cs ∙ some-joint t cs

decided_by : (all : Bool) (t : Tuple) (c : CondTree) (v : Verdict) → verdict c ≡ v → (elim v [ Holds ↦ not all | Fails ↦ all | Open ↦ false ]) ≡ true → true_on t c ≡ not all
decided_by true t c Holds h k = cc
decided_by false t c Holds h k = holds-true t c h
decided_by true t c Fails h k = fails-false t c h
decided_by false t c Fails h k = cc
decided_by all t c Open h k = cc

-- a condition that decides has the value that decides
pub decided : (all : Bool) (t : Tuple) (c : CondTree) → decides all c ≡ true → true_on t c ≡ not all
decided all t c h = decided_by all t c (verdict c) refl h

pub junction-decided : (all a b c : Bool) → a ≡ not all → junction all a b ≡ junction all a c
junction-decided true a b c h = ap (λ x. x && b) h ∙ sym (ap (λ x. x && c) h)
junction-decided false a b c h = ap (λ x. x || b) h ∙ sym (ap (λ x. x || c) h)

pub junction-unit : (all b : Bool) → junction all all b ≡ b
junction-unit true b = refl
junction-unit false b = refl

pub junction_join : (all a b x y : Bool) → a ≡ x → b ≡ y → junction all a b ≡ junction all x y
junction_join all a b x y e h = ap (λ z. junction all z b) e ∙ ap (junction all x) h
