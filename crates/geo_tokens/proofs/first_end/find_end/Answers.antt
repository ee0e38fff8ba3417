use Rattle.std.proofs.Common.{ℕ, ◌+◌, ◌<◌, ◌≤◌, length, List, arith, sym, subst}
use Rattle.std.proofs.lemmas.List.{length-drop}
use Rattle.geo_tokens.specs.FirstEnd.{Passes}
use Rattle.geo_tokens.proofs.Ends.{none_passed, passed_more}
use Rattle.geo_tokens.proofs.first_end.find_end.Goals as goal

pub pieces-init : goal.pieces-init
pieces-init c = record { at = omega arith; so_far = none_passed 0 c.args.text.now }

pub pieces-preserved : goal.pieces-preserved
pieces-preserved c =
    let facts = c.in-Some.ensures {u = tt} in
    let inside : (0 < c.in-Some.n) × (c.in-Some.n ≤ length c.pieces.rest.now) = facts.inside in
    let le : c.in-Some.n ≤ length c.pieces.rest.now = inside.1 in
    record {
      at = rw c.after-rest.ensures (omega (arith, length-drop c.in-Some.n c.pieces.rest.now));
      so_far = subst (λ (v : List ℕ). Passes (c.pieces.place + c.in-Some.n) v 0 c.args.text.now) (sym c.after-rest.ensures)
          (passed_more c.pieces.place c.in-Some.n c.pieces.rest.now facts.passed 0 c.args.text.now c.pieces.invariant.so_far);
    }
