use Rattle.std.proofs.Common.{ℕ, ◌+◌, ◌<◌, ◌≤◌, length, List, [], ◌∷◌, ◌++◌, arith, sym, subst}
use Rattle.std.proofs.lemmas.List.{length-drop}
use Rattle.geo_tokens.specs.declared.token.Token.{Token}
use Rattle.geo_tokens.specs.Cut.{Cut}
use Rattle.geo_tokens.proofs.Cuts.{none_cut, gap_more, token_more, token_of}
use Rattle.geo_tokens.proofs.lexer.cut.Goals as goal

pub fronts-init : goal.fronts-init
fronts-init c = record {
  at = omega arith;
  so_far = subst (λ (ts : List Token). Cut 0 c.args.text.now 0 c.args.text.now ts) (sym c.new-found.ensures.items) (none_cut 0 c.args.text.now);
}

pub fronts-preserved-in-Gap : goal.fronts-preserved-in-Gap
fronts-preserved-in-Gap c =
    let facts = c.in-Gap.ensures {u = tt} in
    let inside : (0 < c.in-Gap.n) × (c.in-Gap.n ≤ length c.fronts.rest.now) = facts.inside in
    let le : c.in-Gap.n ≤ length c.fronts.rest.now = inside.1 in
    record {
      at = rw c.after-rest.ensures (omega (arith, length-drop c.in-Gap.n c.fronts.rest.now));
      so_far = subst (λ (v : List ℕ). Cut (c.fronts.place + c.in-Gap.n) v 0 c.args.text.now c.fronts.found.items) (sym c.after-rest.ensures)
          (gap_more c.fronts.place c.in-Gap.n c.fronts.rest.now facts.front 0 c.args.text.now c.fronts.found.items c.fronts.invariant.so_far);
    }

pub fronts-preserved : goal.fronts-preserved
fronts-preserved c =
    let facts = c.in-Token.ensures {u = tt} in
    let inside : (0 < c.in-Token.n) × (c.in-Token.n ≤ length c.fronts.rest.now) = facts.inside in
    let le : c.in-Token.n ≤ length c.fronts.rest.now = inside.1 in
    let pushed = c.in_ok-push-in-Token.ensures {u = tt} in
    let t : Token = token_of c.in-Token.kind c.fronts.place c.in-Token.n in
    let step = token_more c.fronts.place c.in-Token.n c.fronts.rest.now c.in-Token.kind facts.front 0 c.args.text.now c.fronts.found.items c.fronts.invariant.so_far in
    let one = subst (λ (v : List ℕ). Cut (c.fronts.place + c.in-Token.n) v 0 c.args.text.now (c.fronts.found.items ++ t ∷ [])) (sym c.after-rest-in-Token.ensures) step in
    record {
      at = rw c.after-rest-in-Token.ensures (omega (arith, length-drop c.in-Token.n c.fronts.rest.now));
      so_far = subst (λ (ts : List Token). Cut (c.fronts.place + c.in-Token.n) c.after-rest-in-Token.result.now 0 c.args.text.now ts) (sym pushed.items) one;
    }

pub returns-in-Bad : goal.returns-in-Bad
returns-in-Bad c = record { tokens = c.fronts.found.items; rest = c.fronts.rest.now; before = c.fronts.invariant.so_far; bad = (c.in-Bad.ensures {u = tt}).front }
