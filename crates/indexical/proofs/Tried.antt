-- The parts of a condition are tried one after another, and a box is cut down by those that are refuted.
use Rattle.std.proofs.Common.{◌≡◌, ℕ, suc, ◌+◌, ◌-◌, ◌<◌, ◌≤◌, Bool, true, false, List, length, get_or, refl, sym, ap, subst, arith, ℤ, pos, ◌≤ℤ◌, ◌<ℤ◌}
use Rattle.std.specs.List.{All}
use Rattle.std.proofs.lemmas.Int.{ints}
use Rattle.geo_base.specs.Boxes.{coordinate, Has}
use Rattle.geo_conditions.specs.declared.cond.Cond.{Cond, AtLeast}
use Rattle.geo_conditions.specs.declared.cond.Conds.{Conds}
use Rattle.geo_conditions.specs.Reach.{State, Region, dims, just, with_at, count}
use Rattle.geo_conditions.specs.Conditions.{possible, FitsIn}
use Rattle.geo_conditions.proofs.Children.{many_possible}
use Rattle.geo_conditions.proofs.SmallerBoxes.{refuted_smaller_box}
use Rattle.indexical.specs.Disjunctions.{IsDisjunction}
use Rattle.indexical.specs.Forbidden.{IsForbiddenBox}
use Rattle.indexical.proofs.Children.{first_possible, first_step, first_most, first_least, first_smaller, counted_false, counted_true, counted_none, refuted_at_least, possible_at_least, few_of_refuted, disjunction_out}

-- After i parts the box b is left. At most `open` of all parts are possible in it, and `sure` of those that were tried are possible at c.
pub record Tried (K : ℕ) (xs : List Cond) (S : State) (o s : ℕ) (c : List ℤ) (region b : Region) (i left sure : ℕ) : Type 0 where
  pub has : Has K b.lo b.hi c
  pub low : Has K region.lo region.hi b.lo
  pub high : Has K region.lo region.hi b.hi
  pub upper : first_possible (with_at S o s b) xs i + length xs ≤ left + i
  pub lower : first_possible (with_at S o s (just c)) xs i ≡ sure
  pub counts : left + i ≡ length xs + sure
  pub whole : All (IsDisjunction o) xs → (q : List ℤ) → Has K region.lo region.hi q → first_possible (with_at S o s (just q)) xs i ≡ 0 → Has K b.lo b.hi q

module _ (K : ℕ) (xs : List Cond) (S : State) (o s : ℕ) (c : List ℤ) (region : Region) (there : o < length S) (dim : dims S o ≡ K) where
  pub Tried-start : Has K region.lo region.hi c → Tried K xs S o s c region region 0 (length xs) 0
  Tried-start has = record {
    has = has;
    low = λ d h. let x = has d h in (omega (arith, ints), omega (arith, ints, x.0, x.1));
    high = λ d h. let x = has d h in (omega (arith, ints, x.0, x.1), omega (arith, ints));
    upper = omega arith;
    lower = refl;
    counts = omega arith;
    whole = λ ds q inside z. inside;
  }

  module _ (fits : All (λ x. FitsIn x S) xs) (b : Region) (i left sure : ℕ) (d0 : Cond) (i_in : i < length xs) (was : Tried K xs S o s c region b i left sure) where
    -- a part that is refuted cuts the box down
    pub Tried-some : (b' : Region) → IsForbiddenBox K (get_or xs i d0) S o s c b b' → Tried K xs S o s c region b' (suc i) (left - 1) sure
    Tried-some b' w =
        let x = get_or xs i d0 in
        let inner = λ (d : ℕ) (h : d < dims S o). let h' : d < K = omega (arith, h, dim) in let l = w.low d h' in let u = w.high d h' in let both : (coordinate b.lo d ≤ℤ coordinate b'.lo d) × (coordinate b'.hi d ≤ℤ coordinate b.hi d) = (l.0, u.1) in both in
        let at_c = λ (d : ℕ) (h : d < dims S o). let h' : d < K = omega (arith, h, dim) in w.has d h' in
        let step = first_step (with_at S o s b') xs i d0 i_in in
        let none = counted_false (possible x (with_at S o s b')) w.refuted in
        let fewer = first_smaller S o s b' b xs i fits there inner in
        let step_c = first_step (with_at S o s (just c)) xs i d0 i_in in
        let none_c = counted_false (possible x (with_at S o s (just c))) (refuted_smaller_box x S o s (just c) b' (fits i d0 i_in) there at_c w.refuted) in
        record {
          has = w.has;
          low = λ d h. let x = was.low d h in let y = was.high d h in let z = w.low d h in (omega (arith, ints, x.0, z.0), omega (arith, ints, y.1, z.1));
          high = λ d h. let x = was.low d h in let y = was.high d h in let z = w.high d h in (omega (arith, ints, x.0, z.0), omega (arith, ints, y.1, z.1));
          upper = omega (arith, was.upper, step, none, fewer);
          lower = omega (arith, was.lower, step_c, none_c);
          counts = omega (arith, was.counts, was.upper);
          whole = λ ds q inside z.
              let step_q = first_step (with_at S o s (just q)) xs i d0 i_in in
              let before : first_possible (with_at S o s (just q)) xs i ≡ 0 = omega (arith, step_q, z) in
              let here : count (possible x (with_at S o s (just q))) ≡ 0 = omega (arith, step_q, z) in
              w.whole (ds i d0 i_in) q (was.whole ds q inside before) (counted_none (possible x (with_at S o s (just q))) here);
        }

    -- a part that is possible leaves it
    pub Tried-none : possible (get_or xs i d0) (with_at S o s (just c)) ≡ true → Tried K xs S o s c region b (suc i) left (suc sure)
    Tried-none e =
        let x = get_or xs i d0 in
        let step = first_step (with_at S o s b) xs i d0 i_in in
        let small = count_small (possible x (with_at S o s b)) in
        let step_c = first_step (with_at S o s (just c)) xs i d0 i_in in
        let one = counted_true (possible x (with_at S o s (just c))) e in
        record {
          has = was.has;
          low = was.low;
          high = was.high;
          upper = omega (arith, was.upper, step, small);
          lower = omega (arith, was.lower, step_c, one);
          counts = omega (arith, was.counts);
          whole = λ ds q inside z.
              let step_q = first_step (with_at S o s (just q)) xs i d0 i_in in
              was.whole ds q inside (omega (arith, step_q, z));
        }
      where
        count_small : (b : Bool) → count b ≤ 1
        count_small true = omega arith
        count_small false = omega arith

  module _ (cond : Cond) (n : ℤ) (children : Conds) (cond_is : cond ≡ AtLeast n children) (xs_are : xs ≡ children.items.items) (b : Region) (i left sure : ℕ) (i_in : i ≤ length xs) (was : Tried K xs S o s c region b i left sure) where
    -- where too few parts are left, the condition is refuted in the box
    pub Tried-box : pos left <ℤ n → IsForbiddenBox K cond S o s c region b
    Tried-box few =
        let most = first_most (with_at S o s b) xs i i_in in
        let many = ap (many_possible (with_at S o s b)) xs_are in
        subst (λ (x : Cond). IsForbiddenBox K x S o s c region b) (sym cond_is) (record {
          has = was.has;
          low = was.low;
          high = was.high;
          refuted = refuted_at_least n children (with_at S o s b) (omega (arith, ints, most, many, was.upper, few));
          whole = λ d q inside r.
              let parts = disjunction_out n children o d in
              let all = subst (λ (ys : List Cond). All (IsDisjunction o) ys) (sym xs_are) parts.1 in
              let few_q = few_of_refuted n children (with_at S o s (just q)) r in
              let many_q = ap (many_possible (with_at S o s (just q))) xs_are in
              let least = first_least (with_at S o s (just q)) xs i in
              was.whole all q inside (omega (arith, ints, parts.0, few_q, many_q, least));
        })

    -- where enough parts are possible at the point, so is the condition
    pub Tried-possible : n ≤ℤ pos sure → possible cond (with_at S o s (just c)) ≡ true
    Tried-possible enough =
        let least = first_least (with_at S o s (just c)) xs i in
        let many = ap (many_possible (with_at S o s (just c))) xs_are in
        subst (λ (x : Cond). possible x (with_at S o s (just c)) ≡ true) (sym cond_is)
        (possible_at_least n children (with_at S o s (just c)) (omega (arith, ints, least, many, was.lower, enough)))

    -- where all were tried, too few are left or enough are possible
    pub Tried-all : length xs ≤ i → n ≤ℤ pos left → n ≤ℤ pos sure
    Tried-all done enough = omega (arith, ints, was.counts)

-- the same under other names
pub Tried-same : (K : ℕ) (xs : List Cond) (S : State) (o s : ℕ) (c : List ℤ) (region b b' : Region) (i i' left left' sure sure' : ℕ) → b' ≡ b → i' ≡ i → left' ≡ left → sure' ≡ sure
    → Tried K xs S o s c region b i left sure → Tried K xs S o s c region b' i' left' sure'
Tried-same K xs S o s c region b b' i i' left left' sure sure' eb ei el es was = rw (eb, ei, el, es) was
