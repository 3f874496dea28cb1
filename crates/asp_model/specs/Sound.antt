-- Programs within the ranges and limits that every reader keeps. Each part is a test, so that it computes on a program that is written out.
use Rattle.std.specs.Prelude.{ℕ, ◌+◌, ◌^◌, ◌≤◌, nat_lt, nat_le, Bool, true, ◌&&◌, List, length, sum_by, ℤ, pos, int_le, IsTrue}
use Rattle.std.specs.List.{list_all}
use Rattle.asp_model.specs.declared.program.Body.{Body}
use Rattle.asp_model.specs.declared.program.Body.TheVariants as body
use Rattle.asp_model.specs.declared.program.Head.{Head}
use Rattle.asp_model.specs.declared.program.Head.TheVariants as head
use Rattle.asp_model.specs.declared.program.Rule.{Rule}
use Rattle.asp_model.specs.declared.program.Minimize.{Minimize}
use Rattle.asp_model.specs.declared.program.Output.{Output}
use Rattle.asp_model.specs.declared.program.Program.{Program}
use Rattle.asp_model.specs.Holding.{atom_of}

abbrev pub is_atom : ℕ → Bool
is_atom a = nat_lt 0 a && nat_lt a (2 ^ 31)

abbrev pub is_literal : ℤ → Bool
is_literal l = is_atom (atom_of l)

-- No weight of a body is negative.
abbrev pub is_weighted : ℤ × ℤ → Bool
is_weighted item = is_literal item.0 && int_le (pos 0) item.1

abbrev pub is_sound_body : Body → Bool
is_sound_body (body.All literals) = list_all is_literal literals
is_sound_body (body.AtLeast bound items) = list_all is_weighted items

abbrev pub is_sound_head : Head → Bool
is_sound_head (head.One a) = is_atom a
is_sound_head (head.Choice atoms) = list_all is_atom atoms
is_sound_head head.Never = true

abbrev pub is_sound_rule : Rule → Bool
is_sound_rule r = is_sound_head r.head && is_sound_body r.body

abbrev pub is_sound_minimize : Minimize → Bool
is_sound_minimize m = list_all (λ item. is_literal item.0) m.items

abbrev pub is_sound_output : Output → Bool
is_sound_output o = list_all is_literal o.condition

-- how many weighted literals there are
abbrev pub weighted_count : Body → ℕ
weighted_count (body.All literals) = 0
weighted_count (body.AtLeast bound items) = length items

abbrev pub weighted_total : Program → ℕ
weighted_total p = sum_by (λ r. weighted_count r.body) p.rules + sum_by (λ m. length m.items) p.minimize

-- each list of statements has a limit
abbrev pub has_room : {X : Type 0} → List X → Bool
has_room xs = nat_le (length xs) 268435456

-- Each atom and literal is in its range, no weight of a body is negative, and the lists are within their limits. How many different atoms and priorities stand in it isn't said: that is a reader's limit. The value of an external is in its range by its type.
pub record IsSound (p : Program) : Type 0 where
  pub rules : IsTrue (list_all is_sound_rule p.rules)
  pub minimize : IsTrue (list_all is_sound_minimize p.minimize)
  pub outputs : IsTrue (list_all is_sound_output p.outputs)
  pub externals : IsTrue (list_all (λ e. is_atom e.atom) p.externals)
  pub assumptions : IsTrue (list_all is_literal p.assumptions)
  pub weighted : IsTrue (nat_le (weighted_total p) 16777216)
  pub room : IsTrue (has_room p.rules && has_room p.minimize && has_room p.outputs && has_room p.externals && has_room p.assumptions)

-- what the plain check asks of each rule in force
abbrev pub HasBody : Rule → Type 0
HasBody r = IsTrue (is_sound_body r.body)

abbrev pub HasFewItems : Rule → Type 0
HasFewItems r = weighted_count r.body ≤ 16777216
