-- A program that grows by one statement: its size, its priorities and its atoms.
use Rattle.std.proofs.Common.{◌≡◌, ℕ, ◌+◌, ◌≤◌, true, false, eqb, List, [], ◌∷◌, ◌++◌, length, map, refl, sym, ap, ◌∙◌, arith, inl, inr}
use Rattle.std.specs.Prelude.{ℤ, if◌then◌else◌, not, nat_le, ◌&&◌}
use Rattle.std.specs.List.{AllByRecursion}
use Rattle.std.proofs.lemmas.Bool.{or_left, or_right, or_cases, eq-eqb, eqb-true, leb-false, false≢true}
use Rattle.std.proofs.lemmas.List.{map_push, length_push, length-append, map-append}
use Rattle.std.proofs.lemmas.List.Sums.{sum_by-append}
use Rattle.asp_model.specs.Sets.{Atoms, has, with_atom, with_atoms, set_of, IsSubset}
use Rattle.asp_model.specs.Models.{mentions, atoms_of}
use Rattle.asp_model.specs.declared.program.Minimize.{Minimize}
use Rattle.asp_model.specs.declared.program.Output.{Output}
use Rattle.asp_model.specs.declared.program.Program.{Program}
use Rattle.asp_model.proofs.SetLaws.{has-with_atom, has-set_of, IsAscending-set_of}
use Rattle.asp_model.proofs.MemberLaws.{each-append, each_weaker, each-flat_map, each-map}
use Rattle.asp_read.specs.declared.statement.Statement.{Statement}
use Rattle.asp_read.specs.declared.statement.Statement.TheVariants as say
use Rattle.asp_read.specs.Fields.{most_counted}
use Rattle.asp_read.specs.Sizes.{rule_size, program_size, statement_size, statement_atoms, empty_program}
use Rattle.asp_read.specs.Statements.{is_among, with_number, different, priorities, is_too_many}
use Rattle.asp_read.specs.Outcome.{adds}
use Rattle.asp_model.specs.Holding.{atom_of}
use Rattle.asp_roundtrip.specs.Readable.{IsReadable, IsLiteral}
use Rattle.asp_roundtrip.proofs.Room.{IsRoomy, HasEach, length-subset}
use Rattle.asp_roundtrip.proofs.GivenStatements.{IsStatement, HasPriorityRoom, StatementGiven}

pub size_grows : (p : Program) (s : Statement) → program_size (adds p s) ≡ program_size p + statement_size s
size_grows p say.End = omega arith
size_grows p (say.Rule r) = omega (arith, sum_by-append rule_size p.rules (r ∷ []))
size_grows p (say.Minimize m) = omega (arith, sum_by-append (λ (x : Minimize). length x.items) p.minimize (m ∷ []))
size_grows p (say.Output o) = omega (arith, sum_by-append (λ (x : Output). length x.condition) p.outputs (o ∷ []))
size_grows p (say.External e) = omega arith
size_grows p (say.Assume ls) = omega (arith, length-append p.assumptions ls)
size_grows p say.Comment = omega arith

-- ---- priorities

different_push : (seen zs : List ℤ) (z : ℤ) → different seen (zs ++ z ∷ []) ≡ with_number (different seen zs) z
different_push seen [] z = refl
different_push seen (y ∷ zs) z = different_push (with_number seen y) zs z

pub priorities_grow : (p : Program) (m : Minimize) → priorities (adds p (say.Minimize m)) ≡ with_number (priorities p) m.priority
priorities_grow p m = ap (different []) (map_push (λ (x : Minimize). x.priority) p.minimize m) ∙ different_push [] (map (λ (x : Minimize). x.priority) p.minimize) m.priority

number_fits : (z : ℤ) (seen : List ℤ) → length seen ≤ 1000 → is_too_many z seen ≡ false → length (with_number seen z) ≤ 1000
number_fits z seen few fits = (elim (is_among z seen) as (λ b. (not b && nat_le 1000 (length seen)) ≡ false → length (if b then seen else seen ++ z ∷ []) ≤ 1000) [
  | true ↦ λ h. few
  | false ↦ λ h. omega (arith, leb-false 1000 (length seen) h, length_push seen z)
]) fits

priorities_fit : (p : Program) (s : Statement) → length (priorities p) ≤ 1000 → HasPriorityRoom (priorities p) s → length (priorities (adds p s)) ≤ 1000
priorities_fit p say.End few fits = few
priorities_fit p (say.Rule r) few fits = few
priorities_fit p (say.Minimize m) few fits = rw priorities_grow (number_fits m.priority (priorities p) few fits)
priorities_fit p (say.Output o) few fits = few
priorities_fit p (say.External e) few fits = few
priorities_fit p (say.Assume ls) few fits = few
priorities_fit p say.Comment few fits = few

-- ---- atoms

has_still : (known : Atoms) (atoms : List ℕ) (c : ℕ) → has known c ≡ true → has (with_atoms known atoms) c ≡ true
has_still known [] c h = h
has_still known (a ∷ atoms) c h = has_still (with_atom a known) atoms c (has-with_atom a c known ∙ or_right (eqb a c) (has known c) h)

has_now : (known : Atoms) (atoms : List ℕ) → HasEach (with_atoms known atoms) atoms
has_now known [] = tt
has_now known (a ∷ atoms) =
    (has_still (with_atom a known) atoms a (has-with_atom a a known ∙ or_left (eqb a a) (has known a) (eq-eqb a a refl)), has_now (with_atom a known) atoms)

pub has_one : (U : Atoms) (atoms : List ℕ) (c : ℕ) → HasEach U atoms → has atoms c ≡ true → has U c ≡ true
has_one U [] c h there = absurd (false≢true there)
has_one U (a ∷ atoms) c h there = elim (or_cases (eqb a c) (has atoms c) there) [
  | inl e ↦ ap (has U) (sym (eqb-true a c e)) ∙ h.0
  | inr later ↦ has_one U atoms c h.1 later
]

-- ---- statements whose atoms are in a set

abbrev pub StandsIn : Atoms → Statement → Type 0
StandsIn U s = IsStatement s × HasEach U (statement_atoms s)

stands_still : (known : Atoms) (atoms : List ℕ) (s : Statement) → StandsIn known s → StandsIn (with_atoms known atoms) s
stands_still known atoms s h = (h.0, each_weaker (λ a. has known a ≡ true) (λ a. has (with_atoms known atoms) a ≡ true) (λ a. has_still known atoms a) (statement_atoms s) h.1)

-- the statements of a program
pub record AreKept (known : Atoms) (p : Program) : Type 0 where
  pub rules : AllByRecursion (λ r. StandsIn known (say.Rule r)) p.rules
  pub minimize : AllByRecursion (λ m. StandsIn known (say.Minimize m)) p.minimize
  pub outputs : AllByRecursion (λ o. StandsIn known (say.Output o)) p.outputs
  pub externals : AllByRecursion (λ e. StandsIn known (say.External e)) p.externals
  pub assumptions : StandsIn known (say.Assume p.assumptions)

-- a program that was read so far
pub record IsKept (known : Atoms) (p : Program) : Type 0 where
  pub statements : AreKept known p
  pub few_counted : program_size p ≤ most_counted
  pub few_priorities : length (priorities p) ≤ 1000
  pub roomy : IsRoomy known

pub nothing_kept : IsKept [] empty_program
nothing_kept = record {
  statements = record { rules = tt; minimize = tt; outputs = tt; externals = tt; assumptions = (tt, tt) };
  few_counted = omega arith;
  few_priorities = omega arith;
  roomy = record { ascending = tt; few = omega arith };
}

each_still : {X : Type 0} (make : X → Statement) (known : Atoms) (atoms : List ℕ) (xs : List X) → AllByRecursion (λ x. StandsIn known (make x)) xs →
    AllByRecursion (λ x. StandsIn (with_atoms known atoms) (make x)) xs
each_still make known atoms xs h = each_weaker (λ x. StandsIn known (make x)) (λ x. StandsIn (with_atoms known atoms) (make x)) (λ x. stands_still known atoms (make x)) xs h

one_more : {X : Type 0} (make : X → Statement) (known : Atoms) (x : X) (xs : List X) → IsStatement (make x) →
    AllByRecursion (λ y. StandsIn known (make y)) xs →
    AllByRecursion (λ y. StandsIn (with_atoms known (statement_atoms (make x))) (make y)) (xs ++ x ∷ [])
one_more make known x xs is h =
    each-append (λ y. StandsIn (with_atoms known (statement_atoms (make x))) (make y)) xs (x ∷ [])
    (each_still make known (statement_atoms (make x)) xs h) ((is, has_now known (statement_atoms (make x))), tt)

all_still : (known : Atoms) (atoms : List ℕ) (p : Program) → AreKept known p → AreKept (with_atoms known atoms) p
all_still known atoms p kept = record {
  rules = each_still say.Rule known atoms p.rules kept.rules;
  minimize = each_still say.Minimize known atoms p.minimize kept.minimize;
  outputs = each_still say.Output known atoms p.outputs kept.outputs;
  externals = each_still say.External known atoms p.externals kept.externals;
  assumptions = stands_still known atoms (say.Assume p.assumptions) kept.assumptions;
}

statements_keep : (known : Atoms) (p : Program) (s : Statement) → AreKept known p → IsStatement s → AreKept (with_atoms known (statement_atoms s)) (adds p s)
statements_keep known p say.End kept is = kept
statements_keep known p (say.Rule r) kept is =
    let still = all_still known (statement_atoms (say.Rule r)) p kept in
    record { rules = one_more say.Rule known r p.rules is kept.rules; minimize = still.minimize; outputs = still.outputs; externals = still.externals; assumptions = still.assumptions }
statements_keep known p (say.Minimize m) kept is =
    let still = all_still known (statement_atoms (say.Minimize m)) p kept in
    record { rules = still.rules; minimize = one_more say.Minimize known m p.minimize is kept.minimize; outputs = still.outputs; externals = still.externals; assumptions = still.assumptions }
statements_keep known p (say.Output o) kept is =
    let still = all_still known (statement_atoms (say.Output o)) p kept in
    record { rules = still.rules; minimize = still.minimize; outputs = one_more say.Output known o p.outputs is kept.outputs; externals = still.externals; assumptions = still.assumptions }
statements_keep known p (say.External e) kept is =
    let still = all_still known (statement_atoms (say.External e)) p kept in
    record { rules = still.rules; minimize = still.minimize; outputs = still.outputs; externals = one_more say.External known e p.externals is kept.externals; assumptions = still.assumptions }
statements_keep known p (say.Assume ls) kept is =
    let atoms = statement_atoms (say.Assume ls) in
    let still = all_still known atoms p kept in
    let both : map atom_of (p.assumptions ++ ls) ≡ map atom_of p.assumptions ++ map atom_of ls = map-append atom_of p.assumptions ls in
    record {
      rules = still.rules;
      minimize = still.minimize;
      outputs = still.outputs;
      externals = still.externals;
      assumptions = (
        each-append IsLiteral p.assumptions ls still.assumptions.0 is,
        rw both (each-append (λ a. has (with_atoms known atoms) a ≡ true) (map atom_of p.assumptions) (map atom_of ls) still.assumptions.1 (has_now known atoms)),
      );
    }
statements_keep known p say.Comment kept is = kept

pub keeps : (known : Atoms) (p : Program) (s : Statement) → IsKept known p → StatementGiven (program_size p) (priorities p) known s → IsKept (with_atoms known (statement_atoms s)) (adds p s)
keeps known p s kept new = record {
  statements = statements_keep known p s kept.statements new.within;
  few_counted = rw size_grows new.few;
  few_priorities = priorities_fit p s kept.few_priorities new.priority;
  roomy = new.roomy;
}

-- ---- what is kept is readable

subset_from : (U : Atoms) (atoms : List ℕ) → HasEach U atoms → IsSubset (set_of atoms) U
subset_from U atoms h c there = has_one U atoms c h (sym (has-set_of atoms c) ∙ there)

pub mentions_kept : (known : Atoms) (p : Program) → AreKept known p → HasEach known (mentions p)
mentions_kept known p kept =
    let K : ℕ → Type 0 = λ a. has known a ≡ true in
    each-append K _ _ (each-append K _ _ (each-append K _ _ (each-append K _ _
    (each-flat_map K _ p.rules (each_weaker _ _ (λ _ h. h.1) p.rules kept.rules))
    (each-flat_map K _ p.minimize (each_weaker _ _ (λ _ h. h.1) p.minimize kept.minimize)))
    (each-flat_map K _ p.outputs (each_weaker _ _ (λ _ h. h.1) p.outputs kept.outputs)))
    (each-map K _ p.externals (each_weaker _ _ (λ _ h. h.1.0) p.externals kept.externals)))
    kept.assumptions.1

pub readable : (known : Atoms) (p : Program) → IsKept known p → IsReadable p
readable known p kept =
    let s = kept.statements in
    let within = subset_from known (mentions p) (mentions_kept known p s) in
    record {
      rules = each_weaker _ _ (λ _ h. h.0) p.rules s.rules;
      minimize = each_weaker _ _ (λ _ h. h.0) p.minimize s.minimize;
      outputs = each_weaker _ _ (λ _ h. h.0) p.outputs s.outputs;
      externals = each_weaker _ _ (λ _ h. h.0) p.externals s.externals;
      assumptions = s.assumptions.0;
      few_counted = kept.few_counted;
      few_priorities = kept.few_priorities;
      few_atoms = omega (arith, length-subset known (atoms_of p) kept.roomy.ascending (IsAscending-set_of (mentions p)) within, kept.roomy.few);
    }
