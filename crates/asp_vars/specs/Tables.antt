-- The tables that a compiled program has.
use Rattle.std.specs.Prelude.{◌≡◌, ◌<◌, ◌^◌, map}
use Rattle.asp_model.specs.Models.{rules_in_force, atoms_of}
use Rattle.asp_model.specs.Opening.{opened_rules}
use Rattle.asp_model.specs.Sound.{IsSound}
use Rattle.asp_vars.specs.declared.tables.Tables.{Tables}
use Rattle.asp_vars.specs.Numbering.{bodies_of, var_count, number_count, literal_of_form, place_of_body}
use Rattle.asp_vars.specs.Completion.{is_barred}
use Rattle.asp_vars.specs.Tabled.{bound_of, form_literals, form_weights, heads_of, AreSupports, AreOccurrences, AreShared}

-- The tables are the program's.
pub record IsTabled (t : Tables) : Type 0 where
  pub sound : IsSound t.program
  pub few : var_count t.program < 2 ^ 31
  pub numbers : number_count t.program < 2 ^ 31
  pub opened : t.opened.items ≡ opened_rules t.program
  pub atoms : t.atoms ≡ atoms_of t.program
  pub rule_bodies : t.rule_bodies.items ≡ map (λ r. place_of_body t.program r.body) (rules_in_force t.program)
  pub counted : t.vars ≡ var_count t.program
  pub held : t.held.items ≡ map (literal_of_form t.program) (bodies_of t.program)
  pub barred : t.barred.items ≡ map (is_barred t.program) (bodies_of t.program)
  pub bounds : t.bounds.items ≡ map bound_of (bodies_of t.program)
  pub literals : t.literals ≡ map (form_literals t.program) (bodies_of t.program)
  pub weights : t.weights ≡ map form_weights (bodies_of t.program)
  pub heads : t.heads ≡ map (heads_of t.program) (bodies_of t.program)
  pub supports : AreSupports t.program t.supports
  pub shared : AreShared t.program t.shared
  pub occurrences : AreOccurrences t.program t.occurrences
