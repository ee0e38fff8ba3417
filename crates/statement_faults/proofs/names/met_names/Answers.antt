use Rattle.std.proofs.Common.{◌≡◌, ◌+◌, ℕ, List, [], ◌∷◌, ◌++◌, take, map, sym, ap, ◌∙◌}
use Rattle.std.proofs.lemmas.List.{map-append}
use Rattle.std.specs.List.{Contains}
use Rattle.geo_tokens.specs.declared.fault.FaultWord.TheVariants as words
use Rattle.rule_syntax.specs.declared.tree.PlacedName.{PlacedName}
use Rattle.problem_data.specs.Least.{fault}
use Rattle.problem_data.specs.Faults.{text_of}
use Rattle.problem_data.specs.Seen.{met, meet}
use Rattle.problem_data.proofs.Firsts.{tested}
use Rattle.problem_data.proofs.InLists.{among_none, more_view, all_view, push_view, take_view}
use Rattle.problem_data.proofs.MetNames.{met_push, repeats, repeats_back}
use Rattle.statement_faults.proofs.names.met_names.Goals as goal

pub loop-item-init : goal.loop-item-init
loop-item-init g c = record { names = c.in_ok-seen.ensures.ok ∙ c.new.ensures; first = among_none (λ before n f. Contains (map text_of before) n.name × (f ≡ fault n.place words.Twice)) }

pub loop-item-preserved : goal.loop-item-preserved
loop-item-preserved g c =
    let before : List PlacedName = take c.loop-item.item-index (map g.T.Named.name_of c.args.items.now) in
    let name : PlacedName = g.T.Named.name_of c.item-item.result in
    let same : c.as_bytes.result.now ≡ name.name = c.as_bytes.ensures ∙ ap text_of c.placed_name-name.ensures in
    let seen : c.deref_mut.result.now ≡ met (map text_of before) = c.deref_mut.ensures.value ∙ c.loop-item.invariant.names in
    let pushed : take (c.loop-item.item-index + 1) (map g.T.Named.name_of c.args.items.now) ≡ before ++ name ∷ [] = push_view g.T.Named.name_of c.args.items.now c.loop-item.item-index c.item-item.result c.loop-item-test.true c.item-item.is in
    record {
      names = c.in_ok-is_new.ensures.met ∙ ap (λ (ns : List (List ℕ)). meet ns c.as_bytes.result.now) seen ∙ ap (meet (met (map text_of before))) same
          ∙ sym (met_push (map text_of before) name.name) ∙ ap met (sym (map-append text_of before (name ∷ []))) ∙ ap (λ (ns : List PlacedName). met (map text_of ns)) (sym pushed);
      first = more_view g.T.Named.name_of c.args.items.now c.loop-item.item-index (λ before n f. Contains (map text_of before) n.name × (f ≡ fault n.place words.Twice)) c.item-item.result _ _ _ c.loop-item-test.true c.item-item.is c.earlier-found.ensures c.loop-item.invariant.first
          (tested (Contains (map text_of before) name.name) _ _ _ _ _ c.fault_if-here.ensures (ap (λ (n : PlacedName). n.place) c.placed_name-name.ensures)
          (repeats (map text_of before) c.deref_mut.result.now name.name c.as_bytes.result.now c.in_ok-is_new.is_new same seen c.in_ok-is_new.ensures.is_new)
          (repeats_back (map text_of before) c.deref_mut.result.now name.name c.as_bytes.result.now c.in_ok-is_new.is_new same seen c.in_ok-is_new.ensures.is_new));
    }

pub returns : goal.returns
returns g c = record {
  names = c.loop-item.invariant.names ∙ ap (λ (ns : List PlacedName). met (map text_of ns)) (take_view g.T.Named.name_of c.args.items.now c.loop-item.item-index c.loop-item-test.false);
  fault = all_view g.T.Named.name_of c.args.items.now c.loop-item.item-index (λ before n f. Contains (map text_of before) n.name × (f ≡ fault n.place words.Twice)) _ c.loop-item-test.false c.loop-item.invariant.first;
}
