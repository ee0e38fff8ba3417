use Rattle.std.proofs.Common.{◌≡◌, ◌++◌, ◌∷◌, [], ℕ, List, length, map, take, sym, ap, ◌∙◌, append-nil, append_assoc}
use Rattle.std.proofs.lemmas.List.{take_all}
use Rattle.layout_drawing.specs.declared.owner.Owner.{Owner}
use Rattle.layout_drawing.specs.Painting.{owner_at, owner_sign}
use Rattle.layout_drawing.proofs.Painted.{signs_more, row_signs}
use Rattle.layout_drawing.proofs.row.push_row.Goals as goal

pub loop-owner-init : goal.loop-owner-init
loop-owner-init c = sym (append-nil c.args.text.now.items)

pub loop-owner-preserved : goal.loop-owner-preserved
loop-owner-preserved c =
    let old : List ℕ = c.args.text.now.items in
    let owners : List Owner = c.find_owners.new.row in
    let i : ℕ = c.loop-owner.owner-index in
    c.in_ok-push.ensures.items ∙ ap (λ (xs : List ℕ). xs ++ c.sign.result ∷ []) c.loop-owner.invariant ∙ append_assoc old (map owner_sign (take i owners)) (c.sign.result ∷ [])
    ∙ ap (λ (n : ℕ). old ++ (map owner_sign (take i owners) ++ n ∷ [])) c.sign.ensures ∙ ap (λ (xs : List ℕ). old ++ xs) (sym (signs_more owners i c.loop-owner-test.true))

pub returns : goal.returns
returns c = λ sign right.
    let old : List ℕ = c.args.text.now.items in
    let owners : List Owner = c.find_owners.new.row in
    let i : ℕ = c.loop-owner.owner-index in
    let wide = c.find_owners.auto.row ∙ c.requires.wide in
    c.in_ok-push-2.ensures.items ∙ ap (λ (xs : List ℕ). xs ++ 10 ∷ []) (c.loop-owner.invariant ∙ ap (λ (ws : List Owner). old ++ map owner_sign ws) (take_all i owners c.loop-owner-test.false))
    ∙ append_assoc old (map owner_sign owners) (10 ∷ [])
    ∙ ap (λ (xs : List ℕ). old ++ (xs ++ 10 ∷ [])) (row_signs c.args.blocks.now c.args.span.now.low c.args.span.now.high c.args.others.now owners sign wide c.find_owners.ensures right)
