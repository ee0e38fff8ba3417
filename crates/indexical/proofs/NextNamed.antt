-- The first object that one of some parts names, by a walk over the parts.
use Rattle.std.proofs.Common.{◌≡◌, ℕ, suc, ◌<◌, ◌≤◌, Bool, true, false, List, length, drop, get_or, refl, ap, ◌∙◌, subst, arith, inl, inr}
use Rattle.std.specs.Prelude.{◌||◌}
use Rattle.std.specs.List.{list_any}
use Rattle.std.proofs.Math.Seq.{drop-cons}
use Rattle.std.proofs.lemmas.Bool.{cases_lt, or_left}
use Rattle.std.proofs.lemmas.List.{drop_all}
use Rattle.indexical.specs.Names.{IsNext}

-- the number is that of an object that meets the test of some part, or `end`; below it only parts behind the first i ones have objects
pub record IsNextAmong {X : Type 0} (test : ℕ → X → Bool) (xs : List X) (i from end next : ℕ) : Type 0 where
  pub inside : next ≤ end
  pub meets : next < end → (from ≤ next) × (list_any (test next) xs ≡ true)
  pub rest : (o : ℕ) → from ≤ o → o < next → list_any (test o) xs ≡ list_any (test o) (drop i xs)

pub next_start : {X : Type 0} (test : ℕ → X → Bool) (xs : List X) (from end : ℕ) → IsNextAmong test xs 0 from end end
next_start test xs from end = record {
  inside = omega arith;
  meets = λ h. absurd (omega (arith, h));
  rest = λ o l h. refl;
}

false_or : (a b : Bool) → a ≡ false → (a || b) ≡ b
false_or a b e = ap (λ (c : Bool). c || b) e

-- one part more
pub next_step : {X : Type 0} (test : ℕ → X → Bool) (xs : List X) (i from end next nearer : ℕ) (x : X) → i < length xs → IsNext (λ o. test o (get_or xs i x)) from next nearer
    → IsNextAmong test xs i from end next → IsNextAmong test xs (suc i) from end nearer
next_step test xs i from end next nearer x h n p = record {
  inside = omega (arith, n.inside, p.inside);
  meets = λ e. elim (cases_lt nearer next) [
    | inl less ↦ (let m = n.meets less in (m.0, p.rest nearer m.0 less ∙ ap (list_any (test nearer)) (drop-cons xs i x h) ∙ or_left (test nearer (get_or xs i x)) (list_any (test nearer) (drop (suc i) xs)) m.1))
    | inr more ↦ (let same : next ≡ nearer = omega (arith, more, n.inside) in subst (λ (k : ℕ). (from ≤ k) × (list_any (test k) xs ≡ true)) same (p.meets (omega (arith, e, same))))
  ];
  rest = λ o l e. p.rest o l (omega (arith, e, n.inside)) ∙ ap (list_any (test o)) (drop-cons xs i x h) ∙ false_or (test o (get_or xs i x)) (list_any (test o) (drop (suc i) xs)) (n.none o l e);
}

-- where the first number of all is found, no part behind has a nearer one
pub next_reached : {X : Type 0} (test : ℕ → X → Bool) (xs : List X) (i from end next : ℕ) → next ≤ from → IsNextAmong test xs i from end next → IsNext (λ o. list_any (test o) xs) from end next
next_reached test xs i from end next h p = record {
  inside = p.inside;
  meets = p.meets;
  none = λ o l e. absurd (omega (arith, h, l, e));
}

-- all parts
pub next_end : {X : Type 0} (test : ℕ → X → Bool) (xs : List X) (i from end next : ℕ) → length xs ≤ i → IsNextAmong test xs i from end next → IsNext (λ o. list_any (test o) xs) from end next
next_end test xs i from end next h p = record {
  inside = p.inside;
  meets = p.meets;
  none = λ o l e. p.rest o l e ∙ ap (list_any (test o)) (drop_all i xs h);
}

-- a test that has the same answers
pub next_same : (test other : ℕ → Bool) (from end next : ℕ) → ((o : ℕ) → test o ≡ other o) → IsNext other from end next → IsNext test from end next
next_same test other from end next e n = record {
  inside = n.inside;
  meets = λ h. ((n.meets h).0, e next ∙ (n.meets h).1);
  none = λ o l h. e o ∙ n.none o l h;
}
