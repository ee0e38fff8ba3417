-- A form with one coordinate of an object at most: what it forbids of a box is cut off by one end.
use Rattle.std.proofs.Common.{◌≡◌, ℕ, suc, ◌*◌, ◌<◌, ◌⊎◌, inl, inr, Bool, true, false, not, List, length, get_or, refl, sym, ap, ◌∙◌, subst, arith, ℤ, pos, negsuc, ◌+ℤ◌, ◌≤ℤ◌, ◌<ℤ◌}
use Rattle.std.specs.Prelude.{AllPairs}
use Rattle.std.specs.List.{All}
use Rattle.std.proofs.lemmas.Int.{ints}
use Rattle.std.proofs.lemmas.Bool.{cases_eq, true≢false}
use lib.Signed.{le_z, lt_z}
use Rattle.geo_base.specs.Boxes.{coordinate, Has}
use Rattle.geo_conditions.specs.declared.cond.Cond.{Lin}
use Rattle.geo_conditions.specs.Form.{Sum, StandsBefore}
use Rattle.geo_conditions.specs.Reach.{State, Region, high, just, with_at}
use Rattle.geo_conditions.specs.Conditions.{least_product, least_term, least_value}
use Rattle.indexical.specs.Forbidden.{IsForbiddenBox}
use Rattle.indexical.specs.Widening.{cost, factor_at, outer, Widens, BeginsAt}
use Rattle.indexical.proofs.Values.{IsOf, product_moved, same_sum, sums_differ, other_object, low_at, high_at}
use Rattle.indexical.proofs.WholePart.{has_whole, once_of}
use Rattle.indexical.proofs.Widened.{above_0}

-- a value above 0 is refuted
not_at_most_0 : (z : ℤ) → pos 0 <ℤ z → le_z z (pos 0) ≡ false
not_at_most_0 z h = grind (arith, ints)

-- the end that a factor asks for: the high one below 0, else the low one
abbrev pub IsSide : Bool → ℤ → Type 0
IsSide up a = (up ≡ true → a <ℤ pos 0) × (up ≡ false → pos 0 ≤ℤ a)

-- the test of the sign says which
pub side_of : (z a : ℤ) → z ≡ a → IsSide (lt_z z (pos 0)) a
side_of z a e = (λ h. grind (arith, ints), λ h. grind (arith, ints))

-- the price that the factor sets
pub at_price : (up : Bool) (d price : ℕ) (z a : ℤ) (region b b' : Region) (purse purse' : ℕ) → price ≡ cost up z → z ≡ a → Widens up d price region b b' purse purse' → Widens up d (cost up a) region b b' purse purse'
at_price up d price z a region b b' purse purse' e f w = subst (λ (p : ℕ). Widens up d p region b b' purse purse') (e ∙ ap (λ (x : ℤ). cost up x) f) w

-- what the product loses where that end lies so many units outwards of x
side_moved : (up : Bool) (a lo hi x : ℤ) (u : ℕ) → IsSide up a → (up ≡ true → hi ≡ x +ℤ pos u) → (up ≡ false → lo +ℤ pos u ≡ x) → least_product a lo hi +ℤ pos (cost up a * u) ≡ least_product a x x
side_moved true (pos n) lo hi x u side e g = absurd (let h = side.0 refl in omega (arith, ints, h))
side_moved true (negsuc n) lo hi x u side e g = product_moved true (negsuc n) x x x hi u (λ h. (refl, e refl)) (λ h. absurd (true≢false h))
side_moved false (pos n) lo hi x u side e g = product_moved false (pos n) x x lo x u (λ h. absurd (true≢false (sym h))) (λ h. (g refl, refl))
side_moved false (negsuc n) lo hi x u side e g = absurd (let h = side.1 refl in omega (arith, ints, h))

hi_of : (up : Bool) (b : Region) (c : List ℤ) (d u : ℕ) → outer up b d ≡ outer up (just c) d +ℤ pos u → up ≡ true → coordinate b.hi d ≡ coordinate c d +ℤ pos u
hi_of true b c d u e h = e
hi_of false b c d u e h = absurd (true≢false (sym h))

lo_of : (up : Bool) (b : Region) (c : List ℤ) (d u : ℕ) → outer up b d ≡ outer up (just c) d +ℤ pos u → up ≡ false → coordinate b.lo d +ℤ pos u ≡ coordinate c d
lo_of true b c d u e h = absurd (true≢false h)
lo_of false b c d u e h = omega (arith, ints, e)

module _ (S : State) (o s : ℕ) (there : o < length S) (f : Sum) where
  -- without a coordinate of the object the least value is the same in each box
  value_without : All (λ a. a.object.0 ≡ o → ⊥) f.terms → (b b' : Region) → least_value f (with_at S o s b') ≡ least_value f (with_at S o s b)
  value_without none b b' = ap (λ (z : ℤ). f.constant +ℤ z)
      (same_sum (least_term (with_at S o s b')) (least_term (with_at S o s b)) f.terms (λ k x h. other_object S o s there b b' (get_or f.terms k x) (none k x h)))

  -- with the coordinate d alone it goes by one end
  value_sole : (d : ℕ) → All (λ a. a.object.0 ≡ o → a.dimension ≡ d) f.terms → AllPairs StandsBefore f.terms → (up : Bool) → IsSide up (factor_at f.terms o d) → (c : List ℤ) (b : Region) (u : ℕ) → outer up b d ≡ outer up (just c) d +ℤ pos u
      → least_value f (with_at S o s b) +ℤ pos (cost up (factor_at f.terms o d) * u) ≡ least_value f (with_at S o s (just c))
  value_sole d own order up side c b u e =
      let T = with_at S o s (just c) in
      let T' = with_at S o s b in
      let a = factor_at f.terms o d in
      let same : All (λ t. (IsOf o d t → ⊥) → least_term T' t ≡ least_term T t) f.terms = λ k x h not_of. other_object S o s there (just c) b (get_or f.terms k x) (λ q. not_of (q, own k x h q)) in
      let sums = sums_differ T T' o d f.terms same (once_of f.terms o d order) in
      let moved = side_moved up a (coordinate b.lo d) (coordinate b.hi d) (coordinate c d) u side (hi_of up b c d u e) (lo_of up b c d u e) in
      let l = ap (λ (x : ℤ). least_product a x (high T o d)) (low_at S o s there (just c) d) ∙ ap (λ (x : ℤ). least_product a (coordinate c d) x) (high_at S o s there (just c) d) in
      let l' = ap (λ (x : ℤ). least_product a x (high T' o d)) (low_at S o s there b d) ∙ ap (λ (x : ℤ). least_product a (coordinate b.lo d) x) (high_at S o s there b d) in
      omega (arith, ints, sums, moved, l, l')

  module _ (K : ℕ) (c : List ℤ) (region : Region) (inside : Has K region.lo region.hi c) (above : pos 0 <ℤ least_value f (with_at S o s (just c))) where
    -- without a coordinate of the object the box stays whole
    pub whole_forbidden : All (λ a. a.object.0 ≡ o → ⊥) f.terms → IsForbiddenBox K (Lin f) S o s c region region
    whole_forbidden none = record {
      has = inside;
      low = λ d h. let x = inside d h in (omega (arith, ints), omega (arith, ints, x.0, x.1));
      high = λ d h. let x = inside d h in (omega (arith, ints, x.0, x.1), omega (arith, ints));
      refuted = not_at_most_0 (least_value f (with_at S o s region)) (let v = value_without none (just c) region in omega (arith, ints, v, above));
      whole = λ one q has r. has;
    }

    module _ (d : ℕ) (own : All (λ a. a.object.0 ≡ o → a.dimension ≡ d) f.terms) (order : AllPairs StandsBefore f.terms) (up : Bool) (side : IsSide up (factor_at f.terms o d)) (b1 b2 : Region) (p0 p2 : ℕ)
        (begins : BeginsAt up d c region b1) (w : Widens up d (cost up (factor_at f.terms o d)) region b1 b2 p0 p2) (purse : least_value f (with_at S o s (just c)) ≡ pos (suc p0)) where
      -- where an end lies
      record Lies (h : Bool) (e : ℕ) : Type 0 where
        pub grows : outer h (just c) e ≤ℤ outer h b2 e
        pub within : outer h b2 e ≤ℤ outer h region e
        pub far : (outer h b2 e ≡ outer h region e) ⊎ (p2 < cost h (factor_at f.terms o e))

      inner : (h : Bool) (e : ℕ) → e < K → outer h (just c) e ≤ℤ outer h region e
      inner true e i = (inside e i).1
      inner false e i = let x = (inside e i).0 in omega (arith, ints, x)

      still : (h : Bool) (e : ℕ) → e < K → outer h b2 e ≡ outer h region e → Lies h e
      still h e i same = record {
        grows = let x = inner h e i in omega (arith, ints, x, same);
        within = omega (arith, ints, same);
        far = inl same;
      }

      same_side : (e : ℕ) → e < K → Lies up e
      same_side e i = elim (cases_eq e d) [
        | inl q ↦ subst (λ (x : ℕ). Lies up x) (sym q) (record {
          grows = omega (arith, ints, begins.at, w.moved);
          within = w.within;
          far = w.far;
        })
        | inr ne ↦ still up e i (w.others e ne ∙ begins.others e ne)
      ]

      other_side : (e : ℕ) → e < K → Lies (not up) e
      other_side e i = still (not up) e i (w.other_side e ∙ begins.other_side e)

      each_side : (x h : Bool) → x ≡ up → (e : ℕ) → e < K → Lies h e
      each_side true true q e i = subst (λ (y : Bool). Lies y e) (sym q) (same_side e i)
      each_side false false q e i = subst (λ (y : Bool). Lies y e) (sym q) (same_side e i)
      each_side true false q e i = subst (λ (y : Bool). Lies y e) (sym (ap not q)) (other_side e i)
      each_side false true q e i = subst (λ (y : Bool). Lies y e) (sym (ap not q)) (other_side e i)

      value : least_value f (with_at S o s b2) ≡ pos (suc p2)
      value =
          let v = value_sole d own order up side c b2 w.units (omega (arith, ints, begins.at, w.moved)) in
          omega (arith, ints, v, w.paid, purse)

      -- with one coordinate of it the box is cut at one end
      pub side_forbidden : IsForbiddenBox K (Lin f) S o s c region b2
      side_forbidden = record {
        has = λ e i. let l = (each_side up false refl e i).grows in let h = (each_side up true refl e i).grows in (omega (arith, ints, l), h);
        low = λ e i. let x = inside e i in let l = each_side up false refl e i in (omega (arith, ints, l.within), omega (arith, ints, x.1, l.grows));
        high = λ e i. let x = inside e i in let h = each_side up true refl e i in (omega (arith, ints, x.0, h.grows), h.within);
        refuted = not_at_most_0 (least_value f (with_at S o s b2)) (omega (arith, ints, value));
        whole = λ one q has r. has_whole S o s K there f b2 region p2 value one (λ h e i. (each_side up h refl e i).far) q (above_0 (least_value f (with_at S o s (just q))) r) has;
      }
