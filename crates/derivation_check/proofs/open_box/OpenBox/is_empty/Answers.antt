-- The dimensions are looked at one by one.
use Rattle.std.proofs.Common.{◌≡◌, ◌+◌, ◌<◌, ◌≤◌, ◌||◌, ◌∙◌, ℕ, zero, suc, ℤ, Bool, true, false, List, [], ◌∷◌, length, drop, refl, sym, ap, subst, add-one, arith, to_z-of_z, w64}
use Rattle.std.proofs.lemmas.List.{drop_all}
use Rattle.std.specs.Prelude.{int_lt}
use Rattle.geo_base.specs.Boxes.{coordinate}
use Rattle.geo_conditions.specs.Reach.{Region}
use Rattle.derivation.specs.Cuts.{is_empty, empty_between}
use Rattle.derivation_check.proofs.open_box.OpenBox.is_empty.Goals as goal

one_more : (ls hs : List ℤ) (d : ℕ) → d < length ls → d < length hs → empty_between (drop d ls) (drop d hs) ≡ (int_lt (coordinate hs d) (coordinate ls d) || empty_between (drop (suc d) ls) (drop (suc d) hs))
one_more [] hs d low high = absurd (omega arith)
one_more (l ∷ ls) [] d low high = absurd (omega arith)
one_more (l ∷ ls) (h ∷ hs) zero low high = refl
one_more (l ∷ ls) (h ∷ hs) (suc d) low high = one_more ls hs d (omega arith) (omega arith)

looked_at : (ls hs : List ℤ) (d k : ℕ) (whole test : Bool) (low high l h : ℤ) → length ls ≡ k → length hs ≡ k → d < k → whole ≡ empty_between (drop d ls) (drop d hs)
    → l ≡ low → h ≡ high → low ≡ coordinate ls d → high ≡ coordinate hs d → int_lt h l ≡ test → whole ≡ (test || empty_between (drop (d + 1) ls) (drop (d + 1) hs))
looked_at ls hs d k whole test low high l h lows highs there left l_is h_is low_is high_is is =
    let same : int_lt (coordinate hs d) (coordinate ls d) ≡ test = ap (λ (z : ℤ). int_lt z (coordinate ls d)) (sym (h_is ∙ high_is)) ∙ ap (int_lt h) (sym (l_is ∙ low_is)) ∙ is in
    subst (λ (n : ℕ). whole ≡ (test || empty_between (drop n ls) (drop n hs))) (sym (add-one d))
    (left ∙ one_more ls hs d (omega arith) (omega arith) ∙ ap (λ (b : Bool). b || empty_between (drop (suc d) ls) (drop (suc d) hs)) same)

none_left : (ls hs : List ℤ) (d : ℕ) (whole : Bool) → length ls ≤ d → whole ≡ empty_between (drop d ls) (drop d hs) → false ≡ whole
none_left ls hs d whole past left = sym (left ∙ ap (λ (xs : List ℤ). empty_between xs (drop d hs)) (drop_all d ls past))

pub loop-d-init : goal.loop-d-init
loop-d-init g c = record {
  left = ap (λ (b : Region). is_empty b) (sym c.self.view_is) ∙ sym (ap (λ xs. empty_between xs.coordinates c.hi-hi.result.coordinates) c.lo-lo.ensures ∙ ap (λ xs. empty_between c.self.inside.ends.lo.coordinates xs.coordinates) c.hi-hi.ensures);
  lows = ap (λ xs. length xs.coordinates) c.lo-lo.ensures ∙ c.self.invariant.0;
  highs = ap (λ xs. length xs.coordinates) c.hi-hi.ensures ∙ c.self.invariant.1;
}

pub returns-then-get : goal.returns-then-get
returns-then-get g c =
    sym (looked_at c.lo-lo.result.coordinates c.hi-hi.result.coordinates c.loop-d.d g.row.K (is_empty c.args.self.now) true c.get-in-loop-d.result c.get.result _ _ c.loop-d.invariant.lows c.loop-d.invariant.highs c.loop-d-test.true c.loop-d.invariant.left
    (to_z-of_z {w = w64} (record { sfits = c.get-in-loop-d.type_inv })) (to_z-of_z {w = w64} (record { sfits = c.get.type_inv })) c.get-in-loop-d.ensures c.get.ensures c.if-get.true)

pub loop-d-preserved : goal.loop-d-preserved
loop-d-preserved g c = record {
  left = looked_at c.lo-lo.result.coordinates c.hi-hi.result.coordinates c.loop-d.d g.row.K (is_empty c.args.self.now) false c.get-in-loop-d.result c.get.result _ _ c.loop-d.invariant.lows c.loop-d.invariant.highs c.loop-d-test.true c.loop-d.invariant.left
      (to_z-of_z {w = w64} (record { sfits = c.get-in-loop-d.type_inv })) (to_z-of_z {w = w64} (record { sfits = c.get.type_inv })) c.get-in-loop-d.ensures c.get.ensures c.if-get.false;
  lows = c.loop-d.invariant.lows;
  highs = c.loop-d.invariant.highs;
}

pub returns : goal.returns
returns g c = none_left c.lo-lo.result.coordinates c.hi-hi.result.coordinates c.loop-d.d (is_empty c.args.self.now) (omega (arith, c.loop-d.invariant.lows, c.loop-d-test.false)) c.loop-d.invariant.left
