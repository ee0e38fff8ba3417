use Rattle.std.proofs.Common.{List, ℕ, None, Some, sym, subst}
use Rattle.std.specs.Option.{option_copied}
use Rattle.layout_text.specs.Token.{IsTokenOf}
use Rattle.search_commands.specs.All.{IsFrom}
use Rattle.search_commands.proofs.Listed.{listing_answers}
use Rattle.search_commands.proofs.all.listing_of.Goals as goal

pub returns-in_default-clause-answers : goal.returns-in_default-clause-answers
returns-in_default-clause-answers c = λ input h.
    let a = c.args.accepted in
    let r = c.args.request in
    let from : IsFrom a.problem (option_copied r.token) None = subst (λ o. IsFrom a.problem (option_copied o) None) (sym c.in_default.is) tt in
    listing_answers a (option_copied r.token) None r.most r.budget input h from c.list_behind.result c.list_behind.ensures.lists

pub returns-in-Ok-clause-answers : goal.returns-in-Ok-clause-answers
returns-in-Ok-clause-answers c = λ input h.
    let a = c.args.accepted in
    let r = c.args.request in
    let t = c.in-Ok.layout in
    let token : IsTokenOf a.problem t c.in-Some.word.now = subst (λ (b : List ℕ). IsTokenOf a.problem t b) c.as_bytes.ensures.value c.in-Ok.ensures.answer in
    let from : IsFrom a.problem (option_copied r.token) (Some t) = subst (λ o. IsFrom a.problem (option_copied o) (Some t)) (sym c.in-Some.is) token in
    listing_answers a (option_copied r.token) (Some t) r.most r.budget input h from c.list_behind-in-Ok.result c.list_behind-in-Ok.ensures.lists
