-- The groups that a word says are those that its tokens are read as.
use Rattle.std.proofs.Common.{◌≡◌, ℕ, List, [], ◌++◌, Some, None, Err, sym, ap, ◌∙◌, subst, append-nil}
use Rattle.geo_tokens.specs.declared.token.Token.{Token}
use Rattle.geo_tokens.specs.declared.stop.Stop.{Stop}
use Rattle.geo_tokens.specs.declared.stop.Stop.TheVariants as stops
use Rattle.geo_tokens.specs.Cut.{IsTokens}
use Rattle.geo_tokens.specs.Reading.{Read, Got, Wrong, Is, Found}
use Rattle.geo_tokens.specs.Gives.{Fails}
use Rattle.geo_tokens.proofs.Cuts.{one_list}
use Rattle.geo_tokens.proofs.Good.{reads_all}
use Rattle.layout_text.specs.Tree.{GroupTree}
use Rattle.layout_text.specs.Grammar.{TupleWords}
use Rattle.layout_text.specs.Reading.{tuple_at}
use Rattle.layout_text.specs.Token.{SaysGroups, AnswersGroups, unless_stopped}
use Rattle.layout_text.proofs.Right.{tuple_good}

module _ (word : List ℕ) (list : List Token) (cuts : IsTokens word list) where
  -- what the word says is read from its tokens, to their end
  pub said_read : (gs : List GroupTree) → SaysGroups word gs → tuple_at list ≡ Got (Some gs) []
  said_read gs s = reads_all tuple_good gs list (subst (λ (us : List Token). TupleWords (Some gs) us) (one_list word s.list list s.tokens cuts) s.spells)

  pub read_said : (gs : List GroupTree) (rest : List Token) → tuple_at list ≡ Got (Some gs) rest → rest ≡ [] → SaysGroups word gs
  read_said gs rest e done =
      let found : Found TupleWords list (Some gs) rest = subst (λ (x : Read (List GroupTree)). Is TupleWords list x) e (tuple_good.reads list) in
      let whole : list ≡ found.run = found.parts ∙ ap (λ (v : List Token). found.run ++ v) done ∙ append-nil found.run in
      record { list = list; tokens = cuts; spells = subst (λ (us : List Token). TupleWords (Some gs) us) (sym whole) found.word }

  pub left_over : (gs : List GroupTree) (rest : List Token) → tuple_at list ≡ Got (Some gs) rest → (rest ≡ [] → ⊥) → (hs : List GroupTree) → SaysGroups word hs → ⊥
  left_over gs rest e more hs s = let z : Got (Some gs) rest ≡ Got (Some hs) [] = sym e ∙ said_read hs s in more cc

  pub stopped : (e : Stop) → Fails e (tuple_at list) → AnswersGroups (Err (unless_stopped e)) word
  stopped stops.Memory h = tt
  stopped (stops.Wrong rest) h = λ gs s. (let z : Wrong rest.now ≡ Got (Some gs) [] = sym h ∙ said_read gs s in cc)
  stopped (stops.Deep rest) h = λ gs s. (let z : Got None rest.now ≡ Got (Some gs) [] = sym h ∙ said_read gs s in cc)

-- a word says one list of groups
pub one_groups : (word : List ℕ) (gs hs : List GroupTree) → SaysGroups word gs → SaysGroups word hs → gs ≡ hs
one_groups word gs hs s r =
    let z : Got (Some gs) [] ≡ Got (Some hs) [] = sym (said_read word s.list s.tokens gs s) ∙ said_read word s.list s.tokens hs r in
    cc
