-- The text of a problem's sheet says the same problem, places aside; and where the problem's rules
-- have no fault, the problem that it says is accepted and shown like the first one.
use Rattle.std.proofs.Common.{◌≡◌, ℕ, ◌<◌, ◌≤◌, List, [], ◌∷◌, length, true, false, refl, sym, subst, arith}
use Rattle.problem_data.specs.Accepted.{most_bytes, Accepts, IsSaid}
use Rattle.problem_data.specs.Problem.{ProblemData}
use Rattle.problem_text.specs.Canonical.{counts_from, problem_text, MayState}
use Rattle.problem_text.specs.ReadBack.{IsReadAs}
use Rattle.problem_text.proofs.CanonicalRight.{stated_again}
use Rattle.json_sheets.specs.SheetText.{sheet_text}
use Rattle.geo_json.specs.SheetOf.{sheet_of}
use Rattle.fewer_rules.specs.Fewer.{HasConditions}
use Rattle.bare_rules.proofs.Again.{texts_keep}
use Rattle.json_round_trip.specs.Return.{IsShownAgain}
use Rattle.json_round_trip.specs.Stated.{has_objects, stated_text}
use Rattle.json_round_trip.proofs.Problems.{one_text}
use Rattle.json_round_trip.proofs.Stated.{said_stated}

some_named : (order : List ℕ) → has_objects order ≡ true → 0 < length order
some_named [] e = absurd cc
some_named (i ∷ is) e = omega arith

none_counts : (order : List ℕ) → has_objects order ≡ false → counts_from 0 order ≡ true
none_counts [] e = refl
none_counts (i ∷ is) e = absurd cc

may_state : (p : ProblemData) → MayState (has_objects p.order) true p
may_state p = record { some = some_named p.order; file_order = none_counts p.order; low_sides = λ e. absurd cc }

-- the text of the sheet is read as the problem
pub sheet_again : (p : ProblemData) → IsSaid p → length (sheet_text (sheet_of p)) ≤ most_bytes → IsReadAs (sheet_text (sheet_of p)) p
sheet_again p s short =
    let text : sheet_text (sheet_of p) ≡ stated_text p = said_stated p s in
    let few : length (stated_text p) ≤ most_bytes = subst (λ (t : List ℕ). length t ≤ most_bytes) text short in
    subst (λ (t : List ℕ). IsReadAs t p) (sym text) (stated_again (has_objects p.order) true p s (may_state p) few)

-- the problem that it is read as is accepted where the first one is
pub problem_returns : (p : ProblemData) → IsSaid p → HasConditions p → length (sheet_text (sheet_of p)) ≤ most_bytes → IsShownAgain (sheet_text (sheet_of p)) (problem_text p)
problem_returns p s h short =
    let r = sheet_again p s short in
    let accepts : Accepts (stated_text p) r.again = subst (λ (t : List ℕ). Accepts t r.again) (said_stated p s) r.accepts in
    record {
      problem = r.again;
      accepts = r.accepts;
      has = texts_keep (has_objects p.order) true p r.again s (may_state p) accepts h;
      says = one_text r.again p r.same;
    }
