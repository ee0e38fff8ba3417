-- Some of the rules of a problem are a part of their list.
use Rattle.std.proofs.Common.{◌≡◌, ◌<◌, ◌≤◌, ◌+◌, ◌-◌, ℕ, zero, suc, List, [], ◌∷◌, length, map, get_or, inl, inr, refl, sym, ap, ◌∙◌, subst, arith}
use Rattle.std.specs.Prelude.{◌⊎◌, All, AllPairs}
use Rattle.std.proofs.lemmas.Bool.{cases_eq}
use Rattle.problem_data.specs.Problem.{RuleData, ProblemData}
use Rattle.problem_data.specs.SomeRules.{no_rule, numbered, AreRules}

-- some items of a list, in its order
abbrev pub IsPart : {A : Type 0} → List A → List A → Type 0
IsPart {A} xs [] = xs ≡ []
IsPart {A} xs (y ∷ ys) = IsPart xs ys ⊎ ((zs : List A) × (xs ≡ y ∷ zs) × IsPart zs ys)

pub part_map : {A B : Type 0} (f : A → B) (xs ys : List A) → IsPart xs ys → IsPart (map f xs) (map f ys)
part_map f xs [] e = ap (map f) e
part_map f xs (y ∷ ys) (inl h) = inl (part_map f xs ys h)
part_map f xs (y ∷ ys) (inr (zs, e, h)) = inr (map f zs, ap (map f) e, part_map f zs ys h)

-- numbers above n, in ascending order
abbrev pub Above : ℕ → List ℕ → Type 0
Above n [] = Unit {0}
Above n (k ∷ ks) = (n < k) × Above k ks

abbrev pub AtMost : ℕ → List ℕ → Type 0
AtMost m [] = Unit {0}
AtMost m (k ∷ ks) = (k ≤ m) × AtMost m ks

pub above_from : (keep : List ℕ) (n : ℕ) → ((i : ℕ) → i < length keep → n < get_or keep i 0) → AllPairs (λ m n. m < n) keep → Above n keep
above_from [] n h a = tt
above_from (k ∷ ks) n h a =
    (h 0 (omega arith), above_from ks k (λ i l. a 0 (suc i) 0 (omega arith) (omega (arith, l))) (λ i j d less l. a (suc i) (suc j) d (omega (arith, less)) (omega (arith, l))))

pub most_from : (keep : List ℕ) (m : ℕ) → All (λ n. (1 ≤ n) × (n ≤ m)) keep → AtMost m keep
most_from [] m h = tt
most_from (k ∷ ks) m h = ((h 0 0 (omega arith)).1, most_from ks m (λ i d l. h (suc i) d (omega (arith, l))))

abbrev at : List RuleData → ℕ → ℕ → RuleData
at rules n k = get_or rules ((k - 1) - n) no_rule

shifted : (r : RuleData) (rules : List RuleData) (n m : ℕ) (ks : List ℕ) → suc n ≤ m → Above m ks → map (at (r ∷ rules) n) ks ≡ map (at rules (suc n)) ks
shifted r rules n m [] l a = refl
shifted r rules n m (k ∷ ks) l a =
    let e : (k - 1) - n ≡ suc ((k - 1) - suc n) = (let h = a.0 in omega (arith, l, h)) in
    λ i. get_or (r ∷ rules) (e i) no_rule ∷ shifted r rules n k ks (let h = a.0 in omega (arith, l, h)) a.1 i

part_from : (rules : List RuleData) (n : ℕ) (ks : List ℕ) → Above n ks → AtMost (n + length rules) ks → IsPart (map (at rules n) ks) rules
part_from [] n [] a m = refl
part_from [] n (k ∷ ks) a m = absurd (let h = a.0 in let l = m.0 in omega (arith, h, l))
part_from (r ∷ rules) n [] a m = inl (part_from rules (suc n) [] tt tt)
part_from (r ∷ rules) n (k ∷ ks) a m =
    let same : n + length (r ∷ rules) ≡ suc n + length rules = omega arith in
    elim (cases_eq k (suc n)) [
      | inl e ↦ (
          let first : (k - 1) - n ≡ 0 = omega (arith, e) in
          inr (
            map (at rules (suc n)) ks,
            (λ i. get_or (r ∷ rules) (first i) no_rule ∷ shifted r rules n k ks (omega (arith, e)) a.1 i),
            part_from rules (suc n) ks (subst (λ j. Above j ks) e a.1) (subst (λ j. AtMost j ks) same m.1),
          )
          )
      | inr ne ↦ (
          let more : suc n < k = (let h = a.0 in omega (arith, h, ne)) in
          inl (subst (λ (rs : List RuleData). IsPart rs rules) (sym (shifted r rules n (suc n) (k ∷ ks) (omega arith) (more, a.1)))
          (part_from rules (suc n) (k ∷ ks) (more, a.1) (subst (λ j. AtMost j (k ∷ ks)) same m)))
          )
    ]

-- ---- numbers in ascending order

pub above_less : (n m : ℕ) (ks : List ℕ) → n ≤ m → Above m ks → Above n ks
above_less n m [] l a = tt
above_less n m (k ∷ ks) l a = ((let h = a.0 in omega (arith, l, h)), a.1)

above_all : (n : ℕ) (ks : List ℕ) → Above n ks → (i d : ℕ) → i < length ks → n < get_or ks i d
above_all n [] a i d l = absurd (omega (arith, l))
above_all n (k ∷ ks) a zero d l = a.0
above_all n (k ∷ ks) a (suc i) d l = above_all n ks (above_less n k ks (let h = a.0 in omega (arith, h)) a.1) i d (omega (arith, l))

most_all : (m : ℕ) (ks : List ℕ) → AtMost m ks → (i d : ℕ) → i < length ks → get_or ks i d ≤ m
most_all m [] a i d l = absurd (omega (arith, l))
most_all m (k ∷ ks) a zero d l = a.0
most_all m (k ∷ ks) a (suc i) d l = most_all m ks a.1 i d (omega (arith, l))

pairs_from : (n : ℕ) (ks : List ℕ) → Above n ks → AllPairs (λ m n. m < n) ks
pairs_from n [] a i j d h l = absurd (omega (arith, l))
pairs_from n (k ∷ ks) a zero zero d h l = absurd (omega (arith, h))
pairs_from n (k ∷ ks) a zero (suc j) d h l = above_all k ks a.1 j d (omega (arith, l))
pairs_from n (k ∷ ks) a (suc i) zero d h l = absurd (omega (arith, h))
pairs_from n (k ∷ ks) a (suc i) (suc j) d h l = pairs_from k ks a.1 i j d (omega (arith, h)) (omega (arith, l))

pub rules_from : (p : ProblemData) (keep : List ℕ) → Above 0 keep → AtMost (length p.rules) keep → AreRules p keep
rules_from p keep a m = record {
  there = λ i d l. ((let h = above_all 0 keep a i d l in omega (arith, h)), most_all (length p.rules) keep m i d l);
  ascending = pairs_from 0 keep a;
}

pub rules_above : (p : ProblemData) (keep : List ℕ) → AreRules p keep → Above 0 keep
rules_above p keep kept = above_from keep 0 (λ i l. (let h = (kept.there i 0 l).0 in omega (arith, h))) kept.ascending

pub rules_most : (p : ProblemData) (keep : List ℕ) → AreRules p keep → AtMost (length p.rules) keep
rules_most p keep kept = most_from keep (length p.rules) kept.there

-- the rules that are kept are a part of all
pub kept_part : (p : ProblemData) (keep : List ℕ) → AreRules p keep → IsPart (map (numbered p.rules) keep) p.rules
kept_part p keep kept =
    let same : (k : ℕ) → (k - 1) - 0 ≡ k - 1 = λ k. omega arith in
    subst (λ (rs : List RuleData). IsPart rs p.rules) (λ i. map (λ k. get_or p.rules (same k i) no_rule) keep)
    (part_from p.rules 0 keep (rules_above p keep kept) (let none : length p.rules ≡ 0 + length p.rules = omega arith in subst (λ m. AtMost m keep) none (rules_most p keep kept)))
