-- The atoms that are assumed false, and the program in which the rules for them are constraints.
use Rattle.std.specs.Prelude.{ℕ, ◌+◌, ◌*◌, nat_lt, Bool, not, ◌&&◌, if◌then◌else◌, List, [], ◌∷◌, map, filter, flat_map, length, ℤ}
use Rattle.asp_model.specs.declared.program.Head.{Head}
use Rattle.asp_model.specs.declared.program.Head.TheVariants as head
use Rattle.asp_model.specs.declared.program.Rule.{Rule}
use Rattle.asp_model.specs.declared.program.Program.{Program}
use Rattle.asp_model.specs.Sets.{Atoms, has, set_of}
use Rattle.asp_model.specs.Holding.{atom_of, is_negative}

-- the atom that the literal denies, if it does
abbrev pub denied_by : ℤ → List ℕ
denied_by l = if is_negative l then atom_of l ∷ [] else []

-- below which number an atom has to be, so that a table of so many atoms is no longer than the rules are
abbrev pub reach : Program → ℕ
reach p = 16 * (length p.rules + 1)

-- the atoms that are assumed false, and that no external names
abbrev pub denied_of : Program → Atoms
denied_of p = filter (λ a. nat_lt a (reach p) && not (has (map (λ e. e.atom) p.externals) a)) (set_of (flat_map denied_by p.assumptions))

-- the literal says that an atom of F is absent
abbrev pub is_barred : Atoms → ℤ → Bool
is_barred F l = is_negative l && has F (atom_of l)

-- The head has no atom of N: nothing may be derived in place of one, and a choice keeps the others.
abbrev pub constrained_head : Atoms → Head → Head
constrained_head N (head.One a) = if has N a then head.Never else head.One a
constrained_head N (head.Choice atoms) = head.Choice (filter (λ a. not (has N a)) atoms)
constrained_head N head.Never = head.Never

abbrev pub constrained_rule : Atoms → Rule → Rule
constrained_rule N r = record { head = constrained_head N r.head; body = r.body }

-- the program with constraints in place of the rules for atoms of N, which nobody has to assume false then
abbrev pub constrained_by : Atoms → Program → Program
constrained_by N p = record {
  rules = map (constrained_rule N) p.rules;
  minimize = p.minimize;
  outputs = p.outputs;
  externals = p.externals;
  assumptions = filter (λ l. not (is_barred N l)) p.assumptions;
}

-- the program with constraints in place of the rules for atoms that are assumed false
abbrev pub constrained : Program → Program
constrained p = constrained_by (denied_of p) p
