-- What a run of bytes is, once it has ended.
use Rattle.std.specs.Prelude.{◌≡◌, ℕ, List, ◌++◌, length, slice_index, ◌⊎◌}
use Rattle.geo_tokens.specs.Cut.{IsGap, IsToken, IsBad}
use Rattle.token_stream.specs.declared.word.Word.{Word}
use Rattle.token_stream.specs.declared.run.Run.{Run}
use Rattle.token_stream.specs.declared.run.Run.TheVariants as runs
use Rattle.token_stream.specs.declared.run.Ended.{Ended}
use Rattle.token_stream.specs.declared.run.Ended.TheVariants as ends
use Rattle.token_stream.specs.declared.stream.TokenStream.{TokenStream}
use Rattle.token_stream.specs.Run.{IsRun, IsWord, IsOver}
use Rattle.token_stream.specs.Word.{IsWordOf}
use Rattle.token_stream.specs.Stream.{run_length, HasRun}

-- at the front of these bytes stands this, of n bytes
abbrev pub IsEnd : Ended → ℕ → List ℕ → Type 0
IsEnd ends.Gap n bytes = (n ≡ 0) ⊎ IsGap n bytes
IsEnd (ends.Token kind) n bytes = IsToken kind n bytes
IsEnd (ends.Bad word) n bytes = IsBad word bytes × (run_length word bytes ≡ n)

-- What a run is, where it does not go on into the bytes behind it. The next of them is 0 where there is none.
abbrev pub RunEnds : Run → Ended → ℕ → Type 0
RunEnds run end next = (rest more : List ℕ) → IsRun run rest → IsOver run more → next ≡ slice_index more 0 → IsEnd end (length rest) (rest ++ more)

-- the same of a word, which only its first bytes are kept of
abbrev pub WordEnds : Word → Ended → Type 0
WordEnds word end = (rest more : List ℕ) → IsWordOf word rest → IsWord rest → IsOver runs.Word more → IsEnd end (length rest) (rest ++ more)

-- the same of the run of a stream
abbrev pub StreamEnds : TokenStream → Ended → ℕ → Type 0
StreamEnds stream end next =
    (rest more : List ℕ) → HasRun stream rest → IsOver stream.run more → next ≡ slice_index more 0 → IsEnd end (length rest) (rest ++ more)
