-- Facts for one outcome of a call.
use Rattle.std.proofs.Common.{◌≡◌, Result, Ok, Err, sym, subst}
use Rattle.std.specs.Result.{OnOk, OnErr, IfErr, IsErrAnd}
use Rattle.asp_book.specs.Calls.{Knows}
use Rattle.asp_worker.specs.declared.stop.Stop.{Stop}
use Rattle.asp_worker.specs.declared.stop.Stop.TheVariants.{Memory}
use Rattle.asp_worker.specs.Working.{IsStop}

pub on-ok : {A E : Type 0} {P Q : Type 0} (r : Result A E) → (P → Q) → OnOk r P → OnOk r Q
on-ok (Ok x) f h = f h
on-ok (Err e) f h = tt

pub on-err : {A E : Type 0} {P Q : Type 0} (r : Result A E) → (P → Q) → OnErr r P → OnErr r Q
on-err (Ok x) f h = tt
on-err (Err e) f h = f h

pub always-err : {A E : Type 0} (r : Result A E) (Q : Type 0) → Q → OnErr r Q
always-err (Ok x) Q h = tt
always-err (Err e) Q h = h

-- ---- why a path is given up
-- the cause that came through a `?`
pub same-stop : {A : Type 0} (v : Knows) (r : Result A Stop) (s : Stop) → IsErrAnd r (λ x. x ≡ s) → IsStop v s → IfErr r (IsStop v)
same-stop v (Ok x) s h is = tt
same-stop v (Err e) s h is = subst (IsStop v) (sym h) is

-- want of memory that came through a `?`
pub memory-stop : {A : Type 0} (v : Knows) (r : Result A Stop) → IsErrAnd r (λ x. x ≡ Memory) → IfErr r (IsStop v)
memory-stop v r h = same-stop v r Memory h tt
