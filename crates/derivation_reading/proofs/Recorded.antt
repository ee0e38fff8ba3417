-- The events that were recorded: they name what exists, and those of a whole text are those of a tree.
use Rattle.std.proofs.Common.{◌≡◌, ℕ, List, [], ◌++◌, length, All, Result, Ok, Bool, true, refl, sym, ◌∙◌, subst}
use Rattle.std.proofs.Math.Seq.{drop-append_seam}
use Rattle.std.proofs.lemmas.List.Elements.{All-append, All-drop}
use Rattle.geo_tokens.specs.declared.fault.TextFault.{TextFault}
use Rattle.geo_tokens.specs.Names.{NameTable, IsNameTable}
use Rattle.derivation.specs.declared.event.Event.{Event}
use Rattle.derivation.specs.Fits.{EventFits}
use Rattle.derivation.specs.Nodes.{Node, node_events}
use Rattle.derivation_reading.specs.declared.feeder.Progress.{Progress}
use Rattle.derivation_reading.specs.declared.feeder.Progress.TheVariants.{Open, Done, Failed}
use Rattle.derivation_reading.specs.declared.feeder.Feeder.{Feeder}
use Rattle.derivation_reading.specs.Terminals.{lexemes}
use Rattle.derivation_reading.specs.Grammar.{lookup}
use Rattle.derivation_reading.specs.FirstFault.{IsText, IsOfGrammar}
use Rattle.derivation_reading.specs.Feeding.{IsAt, HasEvents, Comes, Ends, IsAtEnd, StaysFitting, EndsTree, answer_of}
use Rattle.derivation_reading.proofs.Trees.{spells_tree, spells_text}
use Rattle.derivation_reading.proofs.Fitting.{cut_small, opens_fit}

abbrev AllFit : NameTable → List Event → Type 0
AllFit n es = All (EventFits (length n.objects) n.dims) es

-- the events of a front part of a text name what exists
pub events_fit : (n : NameTable) (text : List ℕ) (es : List Event) → IsNameTable n → HasEvents n text es → AllFit n es
events_fit n text es table h = opens_fit n table (cut_small text h.cut) h.opens

-- and those of a whole text are those of a tree
pub text_tree : (n : NameTable) (text : List ℕ) (es : List Event) → IsText n text es → (root : Node) × (node_events root ≡ es)
text_tree n text es h = spells_tree (lookup n) (lexemes text h.tokens) es h.spells

-- by the grammar
pub of_grammar : (n : NameTable) (text : List ℕ) (es : List Event) → IsText n text es → IsOfGrammar n text es
of_grammar n text es h = record {
  tokens = h.tokens;
  end = h.end;
  rest = h.rest;
  cut = h.cut;
  short = h.short;
  tree = spells_text (lookup n) (lexemes text h.tokens) es h.spells;
}

-- the last of them
last_fit : (n : NameTable) (es more before later : List Event) → AllFit n (es ++ more) → later ≡ before ++ more → AllFit n before → AllFit n later
last_fit n es more before later all grown fits =
    let P = EventFits (length n.objects) n.dims in
    subst (All P) (sym grown) (All-append P before more fits (subst (All P) (drop-append_seam es more) (All-drop P (length es) (es ++ more) all)))

-- the word `qed` came
pub is_done : (p : Progress) → answer_of p ≡ Ok true → p ≡ Done
is_done (Open s) e = absurd cc
is_done Done e = refl
is_done (Failed fault) e = absurd cc

module _ (f g : Feeder) (before later : List Event) (table : IsNameTable f.names.now) where
  pub comes_fitting : (piece : List ℕ) → Comes f g piece before later → StaysFitting f before later
  comes_fitting piece comes n from text es come fits =
      let r = comes n from text es come in
      let all = events_fit n (text ++ piece ++ []) (es ++ r.0) (subst IsNameTable come.names table) (r.2.events []) in
      last_fit n es r.0 before later all r.1 fits

  pub ends_fitting : Ends f g before later → StaysFitting f before later
  ends_fitting ends n from text es come fits =
      let r = ends n from text es come in
      let all = events_fit n text (es ++ r.0) (subst IsNameTable come.names table) r.2.events in
      last_fit n es r.0 before later all r.1 fits

module _ (f g : Feeder) (result : Result Bool TextFault) (before later : List Event) (answer : result ≡ answer_of g.progress) where
  pub comes_tree : (piece : List ℕ) → Comes f g piece before later → EndsTree f result before later
  comes_tree piece comes n from text come done =
      let r = comes n from text before come in
      let far : IsAt n from g Done (text ++ piece) (before ++ r.0) =
      subst (λ (p : Progress). IsAt n from g p (text ++ piece) (before ++ r.0)) (is_done g.progress (sym answer ∙ done)) r.2.far in
      let tree = text_tree n (text ++ piece ++ []) (before ++ r.0) (far []) in
      (tree.0, tree.1 ∙ sym r.1)

  pub ends_tree : Ends f g before later → EndsTree f result before later
  ends_tree ends n from text come done =
      let r = ends n from text before come in
      let far : IsAtEnd n from Done text (before ++ r.0) =
      subst (λ (p : Progress). IsAtEnd n from p text (before ++ r.0)) (is_done g.progress (sym answer ∙ done)) r.2.far in
      let tree = text_tree n text (before ++ r.0) far in
      (tree.0, tree.1 ∙ sym r.1)
