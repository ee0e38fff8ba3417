-- What the answers of a reader and of a writer over the outside are taken for.
use Rattle.std.specs.Prelude.{◌≡◌, ℕ, zero, suc, Result, Ok, Err, IsErr}
use Rattle.geo_chan.specs.declared.outside.Failed.{Failed}
use Rattle.geo_chan.specs.declared.outside.PutFault.{PutFault}
use Rattle.geo_chan.specs.declared.outside.PutFault.TheVariants as faults
use Rattle.geo_chan.specs.Calls.{counted}

-- a count of bytes is handed on, 0 at the end of the input too, and any error is one fault
abbrev pub IsTaken : {E : Type 0} → Result ℕ E → ℕ → ℕ → Result ℕ Failed → Type 0
IsTaken (Ok count) before now result = (result ≡ Ok count) × (now ≡ before)
IsTaken (Err _) before now result = IsErr result × (now ≡ counted before)

-- a count of bytes is handed on, and to take none, or any error, is one fault
abbrev pub IsPut : {E : Type 0} → Result ℕ E → ℕ → ℕ → Result ℕ PutFault → Type 0
IsPut (Ok zero) before now result = (result ≡ Err faults.Failed) × (now ≡ counted before)
IsPut (Ok (suc n)) before now result = (result ≡ Ok (suc n)) × (now ≡ before)
IsPut (Err _) before now result = (result ≡ Err faults.Failed) × (now ≡ counted before)
