-- The completion's nogoods as they are listed.
use Rattle.std.proofs.Common.{◌≡◌, ℕ, ◌≤◌, List, [], ◌∷◌, ◌++◌, map, length, ap, ◌∙◌}
use Rattle.std.specs.List.{All, AllByRecursion}
use Rattle.std.proofs.lemmas.List.Elements.{All-nil, All-cons}
use Rattle.asp_vars.specs.Literals.{Literal}
use Rattle.asp_vars.specs.declared.nogood.Nogood.{Nogood}
use Rattle.asp_trail.specs.Trails.{IsVar}
use Rattle.asp_complete.specs.Listed.{groups, nogoods_between, pure}
use Rattle.asp_complete.proofs.ListedLaws.{between_more, each_between, map-append}
use Rattle.asp_model.specs.declared.program.Program.{Program}
use Rattle.asp_vars.specs.Numbering.{var_count}
use Rattle.asp_trail_laws.proofs.VarLaws.{completion_are_vars}
use Rattle.asp_trail_laws.specs.Whole.{AreVars}

pub vars_listed : (vars : ℕ) (ns : List (List Literal)) → AllByRecursion (AreVars vars) ns → All (λ (n : Nogood). All (λ l. IsVar vars l.var) n.lits) (map pure ns)
vars_listed vars [] a = All-nil (λ (n : Nogood). All (λ l. IsVar vars l.var) n.lits)
vars_listed vars (n ∷ ns) a = All-cons (λ (m : Nogood). All (λ l. IsVar vars l.var) m.lits) (pure n) (map pure ns) a.0 (vars_listed vars ns a.1)

pub vars_between : (p : Program) (from to : ℕ) → from ≤ to → to ≤ length (groups p) → All (λ (n : Nogood). All (λ l. IsVar (var_count p) l.var) n.lits) (map pure (nogoods_between p from to))
vars_between p from to le within =
    vars_listed (var_count p) (nogoods_between p from to) (each_between (AreVars (var_count p)) p from to le within (completion_are_vars p))

pub listed_between : (p : Program) (from to : ℕ) → from ≤ to → map pure (nogoods_between p 0 to) ≡ map pure (nogoods_between p 0 from) ++ map pure (nogoods_between p from to)
listed_between p from to le = ap (map pure) (between_more p from to le) ∙ map-append (nogoods_between p 0 from) (nogoods_between p from to)
