-- What holds of a problem holds of one with some of its rules, and what holds of statements, of those with some of its rules.
use Rattle.std.proofs.Common.{◌≡◌, ◌<◌, ◌≤◌, ◌+◌, ◌-◌, ℕ, zero, suc, List, [], ◌∷◌, length, take, map, get_or, Some, inl, inr, refl, sym, ap, ◌∙◌, subst, arith}
use Rattle.std.specs.Prelude.{All, AllPairs, slice_get}
use Rattle.std.specs.List.{Contains, range_with_len}
use Rattle.std.proofs.lemmas.List.{get_or-map, get_or_default, length-map, ext_get_or, length-take-le, get_or-take}
use Rattle.std.proofs.lemmas.List.FromFn.{length-range_with_len, get_or-range_with_len}
use Rattle.std.proofs.lemmas.Option.{slice_get-get_or, get_or_from_slice_get}
use Rattle.problem_data.specs.Problem.{ObjectData, RuleData, ProblemData}
use Rattle.problem_data.specs.WellFormed.{IsObject, IsDemand, IsWellFormed}
use Rattle.problem_data.specs.SomeRules.{no_rule, numbered, HasNumbers, AreRules, with_rules, all_rules}
use Rattle.problem_data.specs.Accepted.{IsWhollySaid, IsSaid}

-- ---- numbers

module _ (p : ProblemData) (keep : List ℕ) (kept : AreRules p keep) where
  above : (k : ℕ) → k < length keep → k < get_or keep k 0
  above zero l = let n = (kept.there 0 0 l).0 in omega (arith, n)
  above (suc k) l =
      let m = above k (omega (arith, l)) in
      let n = kept.ascending k (suc k) 0 (omega arith) l in
      omega (arith, m, n)

  -- there are not more of them than rules
  few_by : (k : ℕ) → length keep ≡ k → k ≤ length p.rules
  few_by zero e = omega arith
  few_by (suc k) e =
      let l : k < length keep = omega (arith, e) in
      let m = above k l in
      let n = (kept.there k 0 l).1 in
      omega (arith, m, n)

  pub few_kept : length keep ≤ length p.rules
  few_kept = few_by (length keep) refl

  -- the place of a rule that is kept, among all rules
  pub inside : (k : ℕ) → k < length keep → get_or keep k 0 - 1 < length p.rules
  inside k l = let n = kept.there k 0 l in omega (arith, n.0, n.1)

  pub in_order : (i j : ℕ) → i < j → j < length keep → get_or keep i 0 - 1 < get_or keep j 0 - 1
  in_order i j h l =
      let n = (kept.there i 0 (omega (arith, h, l))).0 in
      let m = kept.ascending i j 0 h l in
      omega (arith, n, m)

  -- a rule that is kept is one of all
  pub kept_at : (k : ℕ) (d : RuleData) → k < length keep → get_or (map (numbered p.rules) keep) k d ≡ get_or p.rules (get_or keep k 0 - 1) no_rule
  kept_at k d l = get_or-map (numbered p.rules) keep k 0 d l

  pub all_kept : (P : RuleData → Type 0) → All P p.rules → All P (map (numbered p.rules) keep)
  all_kept P h k d l =
      let m : k < length keep = subst (λ (n : ℕ). k < n) (length-map keep (numbered p.rules)) l in
      subst P (sym (kept_at k d m)) (h (get_or keep k 0 - 1) no_rule (inside k m))

  object_kept : (o : ObjectData) → IsObject p o → IsObject (with_rules p keep) o
  object_kept o h = record { some = h.some; few = h.few; shapes = h.shapes; once = h.once; dimensions = h.dimensions; pieces = h.pieces }

  pub well_formed_kept : IsWellFormed p → IsWellFormed (with_rules p keep)
  well_formed_kept w = record {
    version = w.version;
    simple = w.simple;
    some = w.some;
    dimensions = w.dimensions;
    boxes = w.boxes;
    few = w.few;
    objects = λ k d l. object_kept (get_or p.objects k d) (w.objects k d l);
    demands = all_kept (λ r. IsDemand p.dims r.demand) w.demands;
    order = w.order;
    each = w.each;
    once = w.once;
    sides = w.sides;
  }

-- ---- all rules

pub all_are_rules : (p : ProblemData) → AreRules p (all_rules p)
all_are_rules p = record {
  there = λ k d l. (let m : k < length p.rules = subst (λ n. k < n) (length-range_with_len 1 (length p.rules)) l in
      let e = get_or-range_with_len 1 (length p.rules) k d m in
      (omega (arith, e), omega (arith, e, m)));
  ascending = λ i j d h l. (let m : j < length p.rules = subst (λ n. j < n) (length-range_with_len 1 (length p.rules)) l in
      let e = get_or-range_with_len 1 (length p.rules) i d (omega (arith, h, m)) in
      let f = get_or-range_with_len 1 (length p.rules) j d m in
      omega (arith, e, f, h));
}

all_numbered : (rules : List RuleData) → map (numbered rules) (range_with_len 1 (length rules)) ≡ rules
all_numbered rules = ext_get_or no_rule _ rules (length-map (range_with_len 1 (length rules)) (numbered rules) ∙ length-range_with_len 1 (length rules)) (λ k l.
    let m : k < length (range_with_len 1 (length rules)) = subst (λ (n : ℕ). k < n) (length-map (range_with_len 1 (length rules)) (numbered rules)) l in
    let n : k < length rules = subst (λ (n : ℕ). k < n) (length-range_with_len 1 (length rules)) m in
    let e : get_or (range_with_len 1 (length rules)) k 0 - 1 ≡ k = (let f = get_or-range_with_len 1 (length rules) k 0 n in omega (arith, f)) in
    get_or-map (numbered rules) (range_with_len 1 (length rules)) k 0 no_rule m ∙ ap (λ (i : ℕ). get_or rules i no_rule) e)

-- with all its rules it is the same problem
pub with_all : (p : ProblemData) → with_rules p (all_rules p) ≡ p
with_all p = λ i. record p { rules = all_numbered p.rules i }

pub wholly_said : (p : ProblemData) → IsWhollySaid p → IsSaid p
wholly_said p s = record { whole = p; said = s; keep = all_rules p; kept = all_are_rules p; is = sym (with_all p) }

-- ---- some rules of those that are left

-- the numbers that numbers of the rules left have among all
abbrev pub numbers_again : List ℕ → List ℕ → List ℕ
numbers_again keep again = map (λ n. get_or keep (n - 1) 0) again

module _ (p : ProblemData) (keep again : List ℕ) (kept : AreRules p keep) (left : AreRules (with_rules p keep) again) where
  among : (k : ℕ) → k < length again → get_or again k 0 - 1 < length keep
  among k l =
      let n = left.there k 0 l in
      let e : length (map (numbered p.rules) keep) ≡ length keep = length-map keep (numbered p.rules) in
      omega (arith, n.0, n.1, e)

  number_at : (k d : ℕ) → k < length again → get_or (numbers_again keep again) k d ≡ get_or keep (get_or again k 0 - 1) 0
  number_at k d l = get_or-map (λ n. get_or keep (n - 1) 0) again k 0 d l

  pub rules_again : AreRules p (numbers_again keep again)
  rules_again = record {
    there = λ k d l. (let m : k < length again = subst (λ n. k < n) (length-map again (λ n. get_or keep (n - 1) 0)) l in
        let h = kept.there (get_or again k 0 - 1) 0 (among k m) in
        let e = number_at k d m in
        (omega (arith, e, h.0), omega (arith, e, h.1)));
    ascending = λ i j d h l. (let m : j < length again = subst (λ n. j < n) (length-map again (λ n. get_or keep (n - 1) 0)) l in
        let below : get_or again i 0 - 1 < get_or again j 0 - 1 = (let a = left.ascending i j 0 h m in let b = (left.there i 0 (omega (arith, h, m))).0 in omega (arith, a, b)) in
        let less = kept.ascending (get_or again i 0 - 1) (get_or again j 0 - 1) 0 below (among j m) in
        let e = number_at i d (omega (arith, h, m)) in
        let f = number_at j d m in
        omega (arith, e, f, less));
  }

  same_rules : map (numbered (map (numbered p.rules) keep)) again ≡ map (numbered p.rules) (numbers_again keep again)
  same_rules = ext_get_or no_rule _ _
      (length-map again (numbered (map (numbered p.rules) keep)) ∙ sym (length-map (numbers_again keep again) (numbered p.rules) ∙ length-map again (λ n. get_or keep (n - 1) 0)))
      (λ k l.
      let m : k < length again = subst (λ (n : ℕ). k < n) (length-map again (numbered (map (numbered p.rules) keep))) l in
      let o : k < length (numbers_again keep again) = subst (λ (n : ℕ). k < n) (sym (length-map again (λ n. get_or keep (n - 1) 0))) m in
      get_or-map (numbered (map (numbered p.rules) keep)) again k 0 no_rule m
      ∙ kept_at p keep kept (get_or again k 0 - 1) no_rule (among k m)
      ∙ sym (get_or-map (numbered p.rules) (numbers_again keep again) k 0 no_rule o ∙ ap (λ (n : ℕ). get_or p.rules (n - 1) no_rule) (number_at k 0 m)))

  pub kept_again : with_rules (with_rules p keep) again ≡ with_rules p (numbers_again keep again)
  kept_again = λ i. record p { rules = same_rules i }

-- some rules of a problem that is said make one that is said
pub some_said : (p : ProblemData) (keep : List ℕ) → IsSaid p → AreRules p keep → IsSaid (with_rules p keep)
some_said p again s left =
    let h : AreRules (with_rules s.whole s.keep) again = subst (λ (q : ProblemData). AreRules q again) s.is left in
    record {
      whole = s.whole;
      said = s.said;
      keep = numbers_again s.keep again;
      kept = rules_again s.whole s.keep again s.kept h;
      is = ap (λ (q : ProblemData). with_rules q again) s.is ∙ kept_again s.whole s.keep again s.kept h;
    }
