use Rattle.std.proofs.Common.{◌≡◌, refl}
use Rattle.std.specs.List.{Contains}
use Rattle.geo_tokens.specs.declared.fault.FaultWord.TheVariants as words
use Rattle.problem_data.specs.Least.{fault}
use Rattle.problem_data.proofs.Firsts.{tested}
use Rattle.problem_data.proofs.InLists.{among_none, more_item, among_all}
use Rattle.problem_data.proofs.MetNames.{lacks, lacks_back}
use Rattle.statement_faults.proofs.names.not_made.Goals as goal

pub loop-name-init : goal.loop-name-init
loop-name-init c = among_none (λ before n f. (Contains c.args.made.now n.name → ⊥) × (f ≡ fault n.place words.Unknown))

pub loop-name-preserved : goal.loop-name-preserved
loop-name-preserved c =
    more_item (λ before n f. (Contains c.args.made.now n.name → ⊥) × (f ≡ fault n.place words.Unknown)) c.args.names.now c.loop-name.name-index c.name-item.result _ _ _ c.loop-name-test.true c.name-item.is c.earlier-found.ensures c.loop-name.invariant
    (tested (Contains c.args.made.now c.name-item.result.name → ⊥) _ _ _ _ _ c.fault_if-here.ensures refl
    (lacks c.args.made.now c.name-item.result.name c.as_bytes.result.now c.has-there.result c.as_bytes.ensures c.has-there.ensures)
    (lacks_back c.args.made.now c.name-item.result.name c.as_bytes.result.now c.has-there.result c.as_bytes.ensures c.has-there.ensures))

pub returns : goal.returns
returns c = among_all (λ before n f. (Contains c.args.made.now n.name → ⊥) × (f ≡ fault n.place words.Unknown)) c.args.names.now c.loop-name.name-index _ c.loop-name-test.false c.loop-name.invariant
