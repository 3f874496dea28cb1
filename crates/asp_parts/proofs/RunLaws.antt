-- A run at its begin, and when it goes on.
use Rattle.std.proofs.Common.{◌≡◌, Bool, List, [], ◌++◌, Result, Ok, Err, IfOk, OnOk, sym, subst, arith}
use Rattle.std.specs.Result.{result_and}
use Rattle.asp_model.specs.declared.program.Program.{Program}
use Rattle.asp_model.specs.Sets.{Atoms}
use Rattle.asp_parts.specs.Courses.{IsCourse, IsRun, IsTelling, MakesUp}
use Rattle.asp_parts.specs.Parts.{HasSame, sets_back}
use Rattle.asp_parts.specs.Rounds.{AreWorkers}
use Rattle.asp_parts.specs.declared.part.Part.{Part}
use Rattle.asp_parts.specs.declared.run.Run.{Run}
use Rattle.asp_parts.proofs.CourseLaws.{told-beside}

-- nothing was told
pub run-begun : (p : Program) (r : Run) → AreWorkers p r.crew.workers.items → r.course.journal.items ≡ [] → r.course.heard ≡ 0 → IsTelling p [] r.parts.items → IsRun p [] r
run-begun p r workers none zero telling = record { workers = workers; course = record { journal = none; counted = zero; few = omega (arith) }; telling = telling }

-- what holds of the second of two results holds of both
pub and-second : {T U E : Type 0} (searched : Result T E) (told : Result U E) (P : U → Type 0) → IfOk told P → IfOk (result_and searched told) P
and-second (Ok x) told P is = is
and-second (Err error) told P is = tt

-- some parts were told, and other parts came in the place of the rest
module _ {T E : Type 0} (p : Program) (heard more : List Atoms) (rest ripe whole new left : List Part) (r : Run) (row : rest ++ ripe ≡ whole) (is : IsTelling p heard whole)
    (now : r.parts.items ≡ new ++ left) (workers : AreWorkers p r.crew.workers.items) where
  run-after : (searched : Result T E) (told : Result Bool E) → OnOk searched (HasSame p rest new) → IfOk told (λ wanted. MakesUp p (heard ++ sets_back p ripe) more left) →
      IfOk told (λ wanted. IsCourse more r.course) → IfOk (result_and searched told) (λ wanted. IsRun p more r)
  run-after (Ok x) (Ok wanted) same told course = record {
    workers = workers;
    course = course;
    telling = told-beside p heard rest ripe whole row is more new left r.parts.items same told now;
  }
  run-after (Ok x) (Err error) same told course = tt
  run-after (Err error) made same told course = tt

  pub run-on : (searched : Result T E) (told both : Result Bool E) → both ≡ result_and searched told → OnOk searched (HasSame p rest new) →
      IfOk told (λ wanted. MakesUp p (heard ++ sets_back p ripe) more left) → IfOk told (λ wanted. IsCourse more r.course) → IfOk both (λ wanted. IsRun p more r)
  run-on searched told both e same made course = subst (λ (x : Result Bool E). IfOk x (λ wanted. IsRun p more r)) (sym e) (run-after searched told same made course)
