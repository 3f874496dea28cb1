-- The program in which atoms that are the same are one, and its answers with those that went.
use Rattle.std.specs.Prelude.{ℕ, suc, ◌==◌, Bool, false, not, ◌&&◌, if◌then◌else◌, List, [], ◌∷◌, map, filter, flat_map, ℤ, pos, negsuc, neg_ℤ}
use Rattle.asp_model.specs.declared.program.Body.{Body}
use Rattle.asp_model.specs.declared.program.Body.TheVariants as body
use Rattle.asp_model.specs.declared.program.Head.{Head}
use Rattle.asp_model.specs.declared.program.Head.TheVariants as head
use Rattle.asp_model.specs.declared.program.Rule.{Rule}
use Rattle.asp_model.specs.declared.program.Minimize.{Minimize}
use Rattle.asp_model.specs.declared.program.Output.{Output}
use Rattle.asp_model.specs.declared.program.Program.{Program}
use Rattle.asp_model.specs.Sets.{Atoms, has, with_atoms}
use Rattle.asp_model.specs.Holding.{atom_of, is_positive}
use Rattle.asp_equal.specs.Copies.{copies_below, places, same}

-- ---- each atom a as the atom m a
abbrev pub renamed : (ℕ → ℕ) → ℤ → ℤ
renamed m (pos a) = pos (m a)
renamed m (negsuc a) = neg_ℤ (pos (m (suc a)))

abbrev pub renamed_item : (ℕ → ℕ) → ℤ × ℤ → ℤ × ℤ
renamed_item m i = (renamed m i.0, i.1)

abbrev pub renamed_body : (ℕ → ℕ) → Body → Body
renamed_body m (body.All literals) = body.All (map (renamed m) literals)
renamed_body m (body.AtLeast bound items) = body.AtLeast bound (map (renamed_item m) items)

abbrev pub renamed_head : (ℕ → ℕ) → Head → Head
renamed_head m (head.One a) = head.One (m a)
renamed_head m (head.Choice atoms) = head.Choice (map m atoms)
renamed_head m head.Never = head.Never

-- Whether the literal is another atom that becomes the same as a.
abbrev pub is_same : (ℕ → ℕ) → ℕ → ℤ → Bool
is_same m a l = is_positive l && not (atom_of l == a) && (m (atom_of l) == m a)

-- Whether the rule derives an atom from another one alone that is the same: then it says nothing.
abbrev pub is_copying : (ℕ → ℕ) → Head → Body → Bool
is_copying m (head.One a) (body.All []) = false
is_copying m (head.One a) (body.All (l ∷ [])) = is_same m a l
is_copying m (head.One a) (body.All (l ∷ k ∷ ls)) = false
is_copying m (head.One a) (body.AtLeast bound items) = false
is_copying m (head.Choice atoms) b = false
is_copying m head.Never b = false

abbrev pub renamed_rule : (ℕ → ℕ) → Rule → Rule
renamed_rule m r = record { head = renamed_head m r.head; body = renamed_body m r.body }

abbrev pub merged_rule : (ℕ → ℕ) → Rule → List Rule
merged_rule m r = if is_copying m r.head r.body then [] else renamed_rule m r ∷ []

abbrev pub renamed_minimize : (ℕ → ℕ) → Minimize → Minimize
renamed_minimize m s = record { priority = s.priority; items = map (renamed_item m) s.items }

abbrev pub renamed_output : (ℕ → ℕ) → Output → Output
renamed_output m o = record { text = o.text; condition = map (renamed m) o.condition }

-- No external names an atom that goes, or by which one goes.
abbrev pub merged_by : (ℕ → ℕ) → Program → Program
merged_by m p = record {
  rules = flat_map (merged_rule m) p.rules;
  minimize = map (renamed_minimize m) p.minimize;
  outputs = map (renamed_output m) p.outputs;
  externals = p.externals;
  assumptions = map (renamed m) p.assumptions;
}

-- the atoms of the program that go, each with the one by which it goes
abbrev pub copies_of : Program → List (ℕ × ℕ)
copies_of p = copies_below (same (places p) p) (places p)

-- the program without them
abbrev pub merged_of : Program → Program
merged_of p = merged_by (same (places p) p) p

-- the atoms that go
abbrev pub gone : List (ℕ × ℕ) → List ℕ
gone copies = map (λ c. c.0) copies

-- those of them whose copied atoms are in the set
abbrev pub back : List (ℕ × ℕ) → Atoms → List ℕ
back copies S = gone (filter (λ c. has S c.1) copies)

-- a set with the atoms that went: each is in it exactly where the one is by which it went
abbrev pub extended : List (ℕ × ℕ) → Atoms → Atoms
extended copies S = with_atoms (filter (λ a. not (has (gone copies) a)) S) (back copies S)

-- a set without the atoms that go
abbrev pub staying : Program → Atoms → Atoms
staying p S = filter (λ a. same (places p) p a == a) S
