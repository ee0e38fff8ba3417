use Rattle.std.proofs.Common.{◌≡◌, List, ℕ, [], ap, arith, length, subst}
use Rattle.std.proofs.lemmas.Result.{IfOk-weaker}
use Rattle.command_input.specs.Reading.{ReadsUpTo}
use Rattle.command_input.proofs.Taking.{two_texts, first_short, both_most}
use Rattle.command_input.proofs.read.read_two_texts.Goals as goal

pub read_second_text-requires : goal.read_second_text-requires
read_second_text-requires g c =
    first_short (g.S.Source.left c.args.source.now) (g.S.Source.left c.read_up_to.new.source) c.read_up_to.new.text.items (subst (λ (t : List ℕ). ReadsUpTo 1048577 (g.S.Source.left c.args.source.now) (g.S.Source.left c.read_up_to.new.source) t c.read_up_to.new.text.items) c.new-text.ensures.items c.in_ok-read_up_to.ensures.text)

pub returns-clause-texts : goal.returns-clause-texts
returns-clause-texts g c =
    let first = subst (λ (t : List ℕ). ReadsUpTo 1048577 (g.S.Source.left c.args.source.now) (g.S.Source.left c.read_up_to.new.source) t c.read_up_to.new.text.items) c.new-text.ensures.items c.in_ok-read_up_to.ensures.text in
    IfOk-weaker c.read_second_text.result _ _ (λ t h. two_texts (g.S.Source.left c.args.source.now) (g.S.Source.left c.read_up_to.new.source) (g.S.Source.left c.read_second_text.new.source) c.read_up_to.new.text.items t.items first h) c.read_second_text.ensures.texts

pub returns-clause-most : goal.returns-clause-most
returns-clause-most g c =
    both_most (g.S.Source.left c.args.source.now) (g.S.Source.left c.read_up_to.new.source) _ c.read_up_to.new.text.items (subst (λ (t : List ℕ). ReadsUpTo 1048577 (g.S.Source.left c.args.source.now) (g.S.Source.left c.read_up_to.new.source) t c.read_up_to.new.text.items) c.new-text.ensures.items c.in_ok-read_up_to.ensures.text)
    c.read_second_text.ensures.most

pub returns-clause-counted : goal.returns-clause-counted
returns-clause-counted g c =
    let short = first_short (g.S.Source.left c.args.source.now) (g.S.Source.left c.read_up_to.new.source) c.read_up_to.new.text.items (subst (λ (t : List ℕ). ReadsUpTo 1048577 (g.S.Source.left c.args.source.now) (g.S.Source.left c.read_up_to.new.source) t c.read_up_to.new.text.items) c.new-text.ensures.items c.in_ok-read_up_to.ensures.text) in
    let none : length c.new-text.result.items ≡ 0 = ap length c.new-text.ensures.items in
    omega (arith, short, none, c.in_ok-read_up_to.ensures.behind, c.read_second_text.ensures.counted)
