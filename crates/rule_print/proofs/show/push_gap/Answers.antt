use Rattle.std.proofs.Common.{◌≡◌, ◌∙◌, ◌++◌, ◌∷◌, [], ℕ, List, Option, Some, false, ap, sym, refl}
use Rattle.std.specs.Option.{option_map}
use Rattle.rule_print.specs.declared.lexeme.Lexeme.{Lexeme}
use Rattle.rule_print.specs.Canonical.{written, close, gap}
use Rattle.rule_print.proofs.show.push_gap.Goals as goal

-- a space stands between the two
spaced : (o : Option Lexeme) (p q : Lexeme) → o ≡ Some p → false ≡ close (written p) (written q) → gap (option_map written o) (written q) ≡ 32 ∷ []
spaced o p q is apart = rw (is, sym apart) refl

pub returns-in_ok-push : goal.returns-in_ok-push
returns-in_ok-push c =
    (c.in_ok-push.ensures {u = tt}).items
    ∙ ap (λ (z : List ℕ). c.args.text.now.items ++ z) (sym (spaced c.args.before c.in-Some.before c.args.behind c.in-Some.is (c.if-not-is_close.ensures {u = tt})))
