use Rattle.std.proofs.Common.{refl}
use Rattle.std.proofs.lemmas.Result.{err_from_is_err_and}
use Rattle.geo_chan.proofs.Appending.{wrote_none, wrote_first, wrote_err, wrote_then}
use Rattle.layout_text.specs.Block.{token_line}
use Rattle.search_commands.proofs.make.write_answer.Goals as goal

pub returns-in_err-write_all_bytes-in-Found : goal.returns-in_err-write_all_bytes-in-Found
returns-in_err-write_all_bytes-in-Found g c = let p = err_from_is_err_and c.from_residual.result c.from_residual.ensures.1 in
    rw (p.1, p.2, c.in-Found.is) (wrote_err _ _ _ _ _ _ _ _ _ _ _ _ (token_line c.in-Found.layout) _ (wrote_none _ _ _) c.in_err-write_all_bytes-in-Found.ensures refl)

pub returns-in_ok-write_all_bytes-in-Found : goal.returns-in_ok-write_all_bytes-in-Found
returns-in_ok-write_all_bytes-in-Found g c =
    rw c.in-Found.is (wrote_then _ _ _ _ _ _ _ _ _ _ _ _ _ (wrote_first _ _ _ _ _ _ _ _ c.in_ok-write_all_bytes-in-Found.ensures) c.print_token_line.ensures refl)

pub returns-in-Nothing : goal.returns-in-Nothing
returns-in-Nothing g c = rw c.in-Nothing.is c.write_all_bytes-in-Nothing.ensures

pub returns-in-OutOfBudget : goal.returns-in-OutOfBudget
returns-in-OutOfBudget g c = rw c.in-OutOfBudget.is c.write_all_bytes-in-OutOfBudget.ensures
