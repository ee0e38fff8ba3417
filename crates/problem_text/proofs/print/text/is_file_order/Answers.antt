use Rattle.std.proofs.Common.{◌≡◌, ◌+◌, ◌<◌, ◌∙◌, ◌∷◌, ◌==◌, ◌&&◌, ℕ, suc, Bool, true, List, length, get_or, drop, drop-cons, add-one, ap, sym, subst, refl, arith}
use Rattle.std.proofs.lemmas.Bool.{eq-eqb}
use Rattle.problem_text.specs.Canonical.{counts_from}
use Rattle.problem_text.proofs.print.text.is_file_order.Goals as goal

-- where the position is the next one, the count goes on behind it
goes_on : (k : ℕ) (xs : List ℕ) → k < length xs → get_or xs k 0 ≡ k → counts_from k (drop k xs) ≡ counts_from 0 xs → counts_from (k + 1) (drop (k + 1) xs) ≡ counts_from 0 xs
goes_on k xs h here so_far =
    let rest : List ℕ = drop (k + 1) xs in
    let front : drop k xs ≡ get_or xs k 0 ∷ drop (k + 1) xs = rw add-one (drop-cons xs k 0 h) in
    let same : (get_or xs k 0 == k) ≡ true = rw here (eq-eqb k k refl) in
    let next : suc k ≡ k + 1 = omega arith in
    let tail : counts_from (suc k) rest ≡ counts_from 0 xs = sym (ap (λ (b : Bool). b && counts_from (suc k) rest) same) ∙ sym (ap (counts_from k) front) ∙ so_far in
    subst (λ (m : ℕ). counts_from m rest ≡ counts_from 0 xs) next tail

pub positions-preserved : goal.positions-preserved
positions-preserved c = goes_on c.positions.place c.args.order.now c.positions-test.true c.if-position-place.false c.positions.invariant
