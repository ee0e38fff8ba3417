-- Steps of the program that joins one or two conditions.
use Rattle.std.proofs.Common.{◌≡◌, ◌≢◌, ℕ, ◌+◌, Bool, true, false, not, List, [], ◌∷◌, ℤ, pos, ◌-ℤ◌, sym, ap, ◌∙◌, refl, arith}
use Rattle.std.specs.List.{list_all}
use Rattle.std.proofs.lemmas.Int.{ints}
use Rattle.std.specs.Prelude.{if◌then◌else◌}
use Rattle.linear_conditions.specs.declared.verdict.Verdict.{Verdict}
use Rattle.linear_conditions.specs.declared.verdict.Verdict.TheVariants.{Holds, Fails, Open}
use Rattle.linear_conditions.specs.CondTree.{CondTree}
use Rattle.linear_conditions.specs.Open.{is_open}
use Rattle.linear_conditions.proofs.Ordered.{both-true}
use Rattle.linear_conditions.specs.Folding.{certain, count_holding, fold_count, still_open, verdict, decides, fold_open, joined}

-- one condition by what it says, and two
abbrev one_by : CondTree → Verdict → CondTree
one_by c v = fold_open (pos 1 -ℤ pos ((elim v [ Holds ↦ 1 | Fails ↦ 0 | Open ↦ 0 ]) + 0)) (elim v [ Holds ↦ [] | Fails ↦ [] | Open ↦ c ∷ [] ])

one-is : (all : Bool) (c : CondTree) → joined all (c ∷ []) ≡ one_by c (verdict c)
one-is true c = refl
one-is false c = refl

pub one-holds : (all : Bool) (c : CondTree) → verdict c ≡ Holds → certain true ≡ joined all (c ∷ [])
one-holds all c h = sym (one-is all c ∙ ap (one_by c) h)

pub one-fails : (all : Bool) (c : CondTree) → verdict c ≡ Fails → certain false ≡ joined all (c ∷ [])
one-fails all c h = sym (one-is all c ∙ ap (one_by c) h)

pub one-open : (all : Bool) (c : CondTree) → verdict c ≡ Open → c ≡ joined all (c ∷ [])
one-open all c h = sym (one-is all c ∙ ap (one_by c) h)

abbrev two_by : Bool → CondTree → CondTree → Verdict → Verdict → CondTree
two_by all c d v w =
    let rest : List CondTree = elim w [ Holds ↦ [] | Fails ↦ [] | Open ↦ d ∷ [] ] in
    fold_open ((if all then pos 2 else pos 1) -ℤ pos ((elim v [ Holds ↦ 1 | Fails ↦ 0 | Open ↦ 0 ]) + ((elim w [ Holds ↦ 1 | Fails ↦ 0 | Open ↦ 0 ]) + 0)))
    (elim v [ Holds ↦ rest | Fails ↦ rest | Open ↦ c ∷ rest ])

two-is : (all : Bool) (c d : CondTree) → joined all (c ∷ (d ∷ [])) ≡ two_by all c d (verdict c) (verdict d)
two-is true c d = refl
two-is false c d = refl

abbrev decided : Bool → Verdict → Bool
decided all v = elim v [ Holds ↦ not all | Fails ↦ all | Open ↦ false ]

first-by : (all : Bool) (c d : CondTree) (v w : Verdict) → decided all v ≡ true → two_by all c d v w ≡ certain (not all)
first-by true c d Fails Holds h = refl
first-by true c d Fails Fails h = refl
first-by true c d Fails Open h = refl
first-by true c d Holds w h = cc
first-by true c d Open w h = cc
first-by false c d Holds Holds h = refl
first-by false c d Holds Fails h = refl
first-by false c d Holds Open h = refl
first-by false c d Fails w h = cc
first-by false c d Open w h = cc

second-by : (all : Bool) (c d : CondTree) (v w : Verdict) → decided all w ≡ true → two_by all c d v w ≡ certain (not all)
second-by true c d Holds Fails h = refl
second-by true c d Fails Fails h = refl
second-by true c d Open Fails h = refl
second-by true c d v Holds h = cc
second-by true c d v Open h = cc
second-by false c d Holds Holds h = refl
second-by false c d Fails Holds h = refl
second-by false c d Open Holds h = refl
second-by false c d v Fails h = cc
second-by false c d v Open h = cc

-- one of two decides
pub first-decided : (all : Bool) (c d : CondTree) → decides all c ≡ true → certain (not all) ≡ joined all (c ∷ (d ∷ []))
first-decided all c d h = sym (two-is all c d ∙ first-by all c d (verdict c) (verdict d) h)

pub second-decided : (all : Bool) (c d : CondTree) → decides all d ≡ true → certain (not all) ≡ joined all (c ∷ (d ∷ []))
second-decided all c d h = sym (two-is all c d ∙ second-by all c d (verdict c) (verdict d) h)

alone-by : (all : Bool) (c d : CondTree) (w : Verdict) → decided all w ≡ false → w ≢ Open → two_by all c d Open w ≡ c
alone-by true c d Holds h k = refl
alone-by true c d Fails h k = cc
alone-by true c d Open h k = absurd (k refl)
alone-by false c d Holds h k = cc
alone-by false c d Fails h k = refl
alone-by false c d Open h k = absurd (k refl)

-- an open one, and one that says nothing
pub open-alone : (all : Bool) (c d : CondTree) → verdict c ≡ Open → decides all d ≡ false → verdict d ≢ Open → c ≡ joined all (c ∷ (d ∷ []))
open-alone all c d h k t = sym (two-is all c d ∙ ap (λ v. two_by all c d v (verdict d)) h ∙ alone-by all c d (verdict d) k t)

rest-by : (all : Bool) (c d : CondTree) (v w : Verdict) → decided all v ≡ false → v ≢ Open → two_by all c d v w ≡ one_by d w
rest-by true c d Holds Holds h k = refl
rest-by true c d Holds Fails h k = refl
rest-by true c d Holds Open h k = refl
rest-by true c d Fails w h k = cc
rest-by true c d Open w h k = absurd (k refl)
rest-by false c d Fails Holds h k = refl
rest-by false c d Fails Fails h k = refl
rest-by false c d Fails Open h k = refl
rest-by false c d Holds w h k = cc
rest-by false c d Open w h k = absurd (k refl)

-- one that says nothing, and another
pub rest-alone : (all : Bool) (c d : CondTree) → decides all c ≡ false → verdict c ≢ Open → joined all (d ∷ []) ≡ joined all (c ∷ (d ∷ []))
rest-alone all c d k t = one-is all d ∙ sym (two-is all c d ∙ rest-by all c d (verdict c) (verdict d) k t)

open-head : (c : CondTree) (cs : List CondTree) (v : Verdict) → (elim v [ Holds ↦ false | Fails ↦ false | Open ↦ true ]) ≡ true →
    (elim v [ Holds ↦ still_open cs | Fails ↦ still_open cs | Open ↦ c ∷ still_open cs ]) ≡ c ∷ still_open cs
open-head c cs Open h = refl
open-head c cs Holds h = cc
open-head c cs Fails h = cc

open-none : (v : Verdict) (n : ℕ) → (elim v [ Holds ↦ false | Fails ↦ false | Open ↦ true ]) ≡ true → (elim v [ Holds ↦ 1 | Fails ↦ 0 | Open ↦ 0 ]) + n ≡ n
open-none Open n h = omega arith
open-none Holds n h = cc
open-none Fails n h = cc

all-open-are : (cs : List CondTree) → list_all is_open cs ≡ true → (count_holding cs ≡ 0) × (still_open cs ≡ cs)
all-open-are [] h = (refl, refl)
all-open-are (c ∷ cs) h =
    let b = both-true (is_open c) (list_all is_open cs) h in
    let r = all-open-are cs b.1 in
    (open-none (verdict c) (count_holding cs) b.0 ∙ r.0, open-head c cs (verdict c) b.0 ∙ ap (λ xs. c ∷ xs) r.1)

-- where all are open, none is taken out
pub all-open : (n : ℤ) (cs : List CondTree) → list_all is_open cs ≡ true → fold_open n cs ≡ fold_count n cs
all-open n cs h =
    let r = all-open-are cs h in
    let e : n ≡ n -ℤ pos (count_holding cs) = nothing n (count_holding cs) r.0 in
    ap (λ m. fold_open m cs) e ∙ ap (fold_open (n -ℤ pos (count_holding cs))) (sym r.1)
  where
    nothing : (n : ℤ) (k : ℕ) → k ≡ 0 → n ≡ n -ℤ pos k
    nothing n k e = omega (arith, ints)
