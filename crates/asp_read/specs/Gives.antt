-- What a function returned, seen by a view, is what reading gives, unless memory ran out.
use Rattle.std.specs.Prelude.{◌≡◌}
use Rattle.std.specs.declared.result.Result.{Result}
use Rattle.std.specs.declared.result.Result.TheVariants.{Ok, Err}
use Rattle.asp_read.specs.declared.error.FaultAt.{FaultAt}
use Rattle.asp_read.specs.declared.error.LineError.{LineError}
use Rattle.asp_read.specs.declared.error.LineError.TheVariants as errors

abbrev pub Fails : {Y : Type 0} → LineError → Result Y FaultAt → Type 0
Fails errors.Memory read = Unit {0}
Fails (errors.Fault b) read = read ≡ Err b

abbrev pub Gives : {X Y : Type 0} → (X → Y) → Result X LineError → Result Y FaultAt → Type 0
Gives view (Ok x) read = read ≡ Ok (view x)
Gives view (Err e) read = Fails e read
