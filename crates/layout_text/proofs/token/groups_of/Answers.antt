use Rattle.std.proofs.Common.{◌≡◌, ◌==◌, ℕ, List, [], ◌∷◌, length, Ok, Err, Result, Vec, Global, false, true, refl, sym, ap, ◌∙◌, subst, arith}
use Rattle.std.specs.Result.{IsErrAnd}
use Rattle.std.proofs.lemmas.Bool.Decides.{Decides-eqb}
use Rattle.geo_tokens.specs.declared.token.Token.{Token}
use Rattle.geo_tokens.specs.Cut.{IsTokens}
use Rattle.layout_text.specs.declared.token.TokenFault.{TokenFault}
use Rattle.layout_text.specs.declared.tree.GroupText.{GroupText}
use Rattle.layout_text.specs.Token.{AnswersGroups, unless_stopped}
use Rattle.layout_text.specs.View.{group_views}
use Rattle.layout_text.proofs.SaidGroups.{read_said, left_over, stopped}
use Rattle.layout_text.proofs.token.groups_of.Goals as goal

-- what `?` passed on
passed : (word : List ℕ) (r : Result (Vec GroupText Global) TokenFault) (e : TokenFault) → IsErrAnd r (λ f. f ≡ e) → AnswersGroups (Err e) word → AnswersGroups r word
passed word (Ok gs) e h a = absurd h
passed word (Err f) e h a = subst (λ (x : TokenFault). AnswersGroups (Err x) word) (sym h) a

not_empty : (xs : List Token) → length xs ≡ 0 → xs ≡ []
not_empty [] e = refl
not_empty (x ∷ xs) e = absurd (omega arith)

not_none : (xs : List Token) → (length xs == 0) ≡ false → xs ≡ [] → ⊥
not_none [] t e = cc
not_none (x ∷ xs) t e = cc

-- the tokens, by another name
stands : (word : List ℕ) (list slice : List Token) → slice ≡ list → IsTokens word list → IsTokens word slice
stands word list slice same cuts = subst (λ (us : List Token). IsTokens word us) (sym same) cuts

pub returns-in_err-groups : goal.returns-in_err-groups
returns-in_err-groups c =
    passed c.args.word.now c.from_residual-in_err-groups.result (unless_stopped c.in_err-groups.field-0.0) c.from_residual-in_err-groups.ensures.1
    (stopped c.args.word.now c.as_slice.result.now (stands c.args.word.now c.in_ok-list.list.items c.as_slice.result.now c.as_slice.ensures.value c.in_ok-list.ensures.value) c.in_err-groups.field-0.0 c.in_err-groups.ensures)

pub returns-then-not-is_empty : goal.returns-then-not-is_empty
returns-then-not-is_empty c =
    left_over c.args.word.now c.as_slice.result.now (stands c.args.word.now c.in_ok-list.list.items c.as_slice.result.now c.as_slice.ensures.value c.in_ok-list.ensures.value)
    (group_views c.in_ok-groups.groups) c.in_ok-groups.rest.now c.in_ok-groups.ensures (not_none c.in_ok-groups.rest.now (sym c.is_empty.ensures ∙ c.if-not-is_empty.true))

pub returns : goal.returns
returns c =
    read_said c.args.word.now c.as_slice.result.now (stands c.args.word.now c.in_ok-list.list.items c.as_slice.result.now c.as_slice.ensures.value c.in_ok-list.ensures.value)
    (group_views c.in_ok-groups.groups) c.in_ok-groups.rest.now c.in_ok-groups.ensures
    (not_empty c.in_ok-groups.rest.now ((Decides-eqb (length c.in_ok-groups.rest.now) 0).0 (sym c.is_empty.ensures ∙ c.if-not-is_empty.false)))
