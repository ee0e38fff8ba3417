use Rattle.std.proofs.Common.{[], inl, refl}
use Rattle.geo_tokens.proofs.Cuts.{none_cut}
use Rattle.token_stream.proofs.stream.TokenStream.start.Goals as goal

pub returns : goal.returns
returns c = record {
  rest = [];
  run = record { run = inl refl; word = λ e. c.new.ensures; place = refl };
  stands = λ more. none_cut 0 more;
  count = refl;
}
