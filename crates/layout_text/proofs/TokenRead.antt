-- A word that is the token of a tuple is read as that tuple.
use Rattle.std.proofs.Common.{◌≡◌, ℕ, List, Result, Ok, Err, sym, ap, ◌∙◌, subst}
use Rattle.std.specs.Result.{IsErrAnd}
use Rattle.geo_conditions.specs.declared.layout.Layout.{Layout}
use Rattle.problem_data.specs.Problem.{ProblemData}
use Rattle.problem_data.specs.Tuple.{Tuple}
use Rattle.problem_data.specs.Accepted.{IsSaid}
use Rattle.problem_data.specs.Cells.{IsTuple}
use Rattle.problem_data.specs.WellFormed.{IsWellFormed}
use Rattle.layout_text.specs.declared.token.TokenFault.{TokenFault}
use Rattle.layout_text.specs.declared.token.TokenFault.TheVariants as faults
use Rattle.layout_text.specs.Tree.{GroupTree}
use Rattle.layout_text.specs.Block.{token_of}
use Rattle.layout_text.specs.Token.{IsTokenOf, AnswersGroups, AnswersToken, IsReadAs, SaysGroups, tuple_in}
use Rattle.layout_text.proofs.SaidGroups.{one_groups}
use Rattle.layout_text.proofs.ReadBack.{token_says, one_token}

module _ (p : ProblemData) (well : IsWellFormed p) (said : IsSaid p) (word : List ℕ) where
  says : (t : Tuple) → IsTokenOf p t word → (gs : List GroupTree) × SaysGroups word gs × (tuple_in gs ≡ t)
  says t is =
      let s = token_says p well said t is.tuple in
      (s.0, subst (λ (w : List ℕ). SaysGroups w s.0) (sym is.spelled) s.1, s.2)

  -- a word that says no groups is no token
  pub no_token : ((gs : List GroupTree) → SaysGroups word gs → ⊥) → (t : Tuple) → IsTokenOf p t word → ⊥
  no_token none t is = let s = says t is in none s.0 s.1

  pub no_groups : (e : TokenFault) → AnswersGroups (Err e) word → AnswersToken (Err e) p word
  no_groups faults.BadToken h = no_token h
  no_groups faults.Memory h = tt

  -- what `?` passed on
  pub passed_on : (r : Result Layout TokenFault) (e : TokenFault) → IsErrAnd r (λ f. f ≡ e) → AnswersToken (Err e) p word → AnswersToken r p word
  passed_on (Ok t) e h a = absurd h
  passed_on (Err f) e h a = subst (λ (x : TokenFault). AnswersToken (Err x) p word) (sym h) a

  module _ (gs : List GroupTree) (spelled : SaysGroups word gs) where
    -- a tuple of which the word is the token is the one that its groups give
    pub given : (t : Tuple) → IsTokenOf p t word → t ≡ tuple_in gs
    given t is = let s = says t is in sym s.2 ∙ ap tuple_in (one_groups word s.0 gs s.1 spelled)

    -- groups that give no tuple
    pub no_tuple : (IsTuple p (tuple_in gs) → ⊥) → (t : Tuple) → IsTokenOf p t word → ⊥
    no_tuple none t is = none (subst (IsTuple p) (given t is) is.tuple)

    -- groups of whose tuple the word is not the token
    pub other_token : (u : Tuple) → u ≡ tuple_in gs → (word ≡ token_of u → ⊥) → (t : Tuple) → IsTokenOf p t word → ⊥
    other_token u e other t is = other (is.spelled ∙ ap token_of (given t is ∙ sym e))

  -- whatever is answered of a token is its tuple
  pub read_as : (r : Result Layout TokenFault) → AnswersToken r p word → (t : Tuple) → IsTokenOf p t word → IsReadAs r t
  read_as (Ok u) h t is = one_token p well said u t h.tuple is.tuple (sym h.spelled ∙ is.spelled)
  read_as (Err faults.BadToken) h t is = h t is
  read_as (Err faults.Memory) h t is = tt
