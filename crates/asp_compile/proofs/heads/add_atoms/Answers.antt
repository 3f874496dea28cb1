use Rattle.std.proofs.Common.{◌++◌, ◌∷◌, [], ℕ, List, map, take, get_or, ap, ◌∙◌}
use Rattle.std.proofs.Math.ListN.{set}
use Rattle.asp_vars.specs.Numbering.{var_in}
use Rattle.asp_compile.proofs.HeadLaws.{set_more, map_more}
use Rattle.asp_compile.proofs.heads.add_atoms.Goals as goal

pub loop-atom-preserved : goal.loop-atom-preserved
loop-atom-preserved c =
    let base : List (List ℕ) = c.args.heads.now in
    let i : ℕ = c.loop-atom.atom-index in
    let more : List ℕ = c.args.more.now in
    let f : ℕ → ℕ = var_in c.args.atoms.now in
    let body : ℕ = c.args.body in
    c.in_ok-push.ensures
    ∙ ap (λ (t : List (List ℕ)). set t body (get_or t body [] ++ c.var_in.result ∷ [])) c.loop-atom.invariant
    ∙ set_more base body (map f (take i more)) c.var_in.result c.requires.body
    ∙ ap (λ (x : ℕ). set base body (get_or base body [] ++ (map f (take i more) ++ x ∷ []))) c.var_in.ensures.var
    ∙ ap (λ (xs : List ℕ). set base body (get_or base body [] ++ xs)) (map_more f more i 0 c.loop-atom-test.true)
