-- Pieces without a fault are the pieces of a range.
use Rattle.std.proofs.Common.{◌≡◌, ◌<◌, ◌≤◌, ◌-◌, ℕ, suc, pos, ◌+ℤ◌, ◌<ℤ◌, List, [], ◌∷◌, length, take, get_or, Some, ◌∙◌, ap, arith, refl, inl, inr, min}
use Rattle.std.specs.Prelude.{slice_get}
use Rattle.std.proofs.Math.Logic.{⊎_elim}
use Rattle.std.proofs.lemmas.Bool.{cases_lt}
use Rattle.std.proofs.lemmas.Option.{slice_get-get_or}
use Rattle.std.proofs.lemmas.List.{length-take, length-take-le, get_or-take, length-map}
use Rattle.geo_tokens.specs.declared.fault.FaultWord.TheVariants as words
use Rattle.problem_data.specs.declared.tree.RangeText.{RangeText}
use Rattle.problem_data.specs.Least.{fault}
use Rattle.problem_data.specs.Limits.{most_pieces}
use Rattle.problem_data.specs.Faults.{PieceFault, PiecesFault, IsLast}
use Rattle.problem_data.specs.Meaning.{range_of, pieces_of}
use Rattle.problem_data.specs.Pieces.{AreApart}
use Rattle.problem_data.specs.WellFormed.{IsRange, ArePieces}
use Rattle.problem_data.proofs.Signs.{above}
use Rattle.problem_data.proofs.NoFault.{NoFault, none_among, all_mapped, no_range_text, range_fits}

-- the last of the first ones
last_taken : (rs : List RangeText) (i : ℕ) → suc i < length rs → IsLast (take (suc i) rs) (get_or rs i no_range_text)
last_taken rs i l =
    let n : length (take (suc i) rs) ≡ suc i = length-take-le (suc i) rs (omega (arith, l)) in
    let m : length (take (suc i) rs) - 1 ≡ i = omega (arith, n) in
    ap (λ k. slice_get (take (suc i) rs) k) m ∙ slice_get-get_or (take (suc i) rs) i no_range_text (omega (arith, n)) ∙ ap (λ r. Some r) (get_or-take (suc i) rs i no_range_text (omega arith))

-- the range begins more than one above the end of the other
abbrev IsFar : RangeText → RangeText → Type 0
IsFar r s = (r.high.value +ℤ pos 1) <ℤ s.low.value

apart_from : (rs : List RangeText) → ((i : ℕ) → suc i < length rs → IsFar (get_or rs i no_range_text) (get_or rs (suc i) no_range_text)) → AreApart (pieces_of rs)
apart_from [] f = tt
apart_from (r ∷ []) f = tt
apart_from (r ∷ (s ∷ rest)) f = (f 0 (omega arith), apart_from (s ∷ rest) (λ i l. f (suc i) (omega (arith, l))))

module _ (rs : List RangeText) (h : NoFault (PiecesFault rs)) where
  few : length rs ≤ most_pieces
  few = ⊎_elim (λ l. absurd (past l)) (λ l. l) (cases_lt most_pieces (length rs))
    where
      past : most_pieces < length rs → ⊥
      past l = none_among PieceFault rs h most_pieces no_range_text l (fault (get_or rs most_pieces no_range_text).low.place words.Limit)
          (inl ((let e : length (take most_pieces rs) ≡ min most_pieces (length rs) = length-take most_pieces rs in omega (arith, e, l)), refl))

  far : (i : ℕ) → suc i < length rs → IsFar (get_or rs i no_range_text) (get_or rs (suc i) no_range_text)
  far i l =
      let r : RangeText = get_or rs i no_range_text in
      let s : RangeText = get_or rs (suc i) no_range_text in
      above s.low.value (r.high.value +ℤ pos 1) (λ near. none_among PieceFault rs h (suc i) no_range_text l (fault s.low.place words.Range) (inr (inr ((r, last_taken rs i l, near), refl))))

  pub pieces_fit : 0 < length rs → ArePieces (pieces_of rs)
  pieces_fit some = record {
    some = (let n = length-map rs range_of in omega (arith, n, some));
    few = (let n = length-map rs range_of in let m : length rs ≤ most_pieces = few in omega (arith, n, m));
    ranges = all_mapped range_of IsRange rs no_range_text (λ i l. range_fits (get_or rs i no_range_text) (λ f w. none_among PieceFault rs h i no_range_text l f (inr (inl w))));
    apart = apart_from rs far;
  }
