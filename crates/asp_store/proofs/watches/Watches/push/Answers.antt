use Rattle.std.proofs.Common.{◌<◌, ◌-◌, [], ◌∷◌, List, length, get_or, sym, ap, ◌∙◌, arith}
use Rattle.std.proofs.lemmas.List.{length-append}
use Rattle.asp_vars.specs.Literals.{Literal}
use Rattle.asp_store.proofs.GetLaws.{same_front}
use Rattle.asp_store.proofs.watches.Watches.push.Goals as goal

pub returns-in-Err-clause-err : goal.returns-in-Err-clause-err
returns-in-Err-clause-err c =
    let w = c.args.self.now in
    let d : List Literal = [] in
    let ok = c.in_ok-push.ensures.ok in
    let some : 0 < length c.push.new.self = omega (arith, ap (length {A = List Literal}) ok, length-append w.rows (d ∷ [])) in
    let e = same_front w.rows c.pop.new.self d (get_or c.push.new.self (length c.push.new.self - 1) d) (sym ok ∙ c.pop.ensures some) in
    λ j. record w { rows = (sym e) j; apart = c.in-Err.ensures.err j }
