use Rattle.std.proofs.Common.{◌≡◌, List, [], ◌∷◌, ◌++◌, Option, Some, ap, ◌∙◌, sym}
use Rattle.std.specs.Option.{option_copied}
use Rattle.std.proofs.lemmas.Result.{IfOk-weaker}
use Rattle.asp_model.specs.Consequences.{common_sets}
use Rattle.asp_model.specs.Sets.{Atoms}
use Rattle.asp_vars.specs.Knowing.{Knowing}
use Rattle.asp_core.specs.Stored.{with_answer}
use Rattle.asp_core.proofs.AskedLaws.{answer-first}
use Rattle.asp_core.proofs.asked.with_answer.Goals as goal

pub returns-in_ok-begun-in-Some-false : goal.returns-in_ok-begun-in-Some-false
returns-in_ok-begun-in-Some-false c =
    let k : Knowing = c.args.known.now in
    let S : Atoms = c.args.set.now in
    let T : Atoms = c.in-Some-false.seed.now in
    let whole : List Atoms → Knowing = λ sets. record k { sets = sets } in
    let after : Knowing → Knowing = λ b. record b { sets = common_sets b.reasoning b.program (b.sets ++ S ∷ []) } in
    let asked : option_copied c.args.seed ≡ Some T = ap option_copied c.in-Some-false.is-0 in
    IfOk-weaker c.with-in-Some-false.result (λ m. m ≡ after c.in_ok-begun-in-Some-false.begun) (λ m. m ≡ whole (common_sets k.reasoning k.program (with_answer (option_copied c.args.seed) k.sets S)))
    (λ m more. more
    ∙ ap after c.in_ok-begun-in-Some-false.ensures
    ∙ ap whole (answer-first k.reasoning k.program k.sets T S (sym c.in-Some-false.ensures))
    ∙ ap (λ (s : Option Atoms). whole (common_sets k.reasoning k.program (with_answer s k.sets S))) (sym asked))
    c.with-in-Some-false.ensures
