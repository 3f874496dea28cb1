-- That a literal follows from entries by the definition of a weight body.
use Rattle.std.specs.Prelude.{◌≡◌, ℕ, ◌+◌, ◌^◌, ◌<◌, Bool, List, length, take, Option, Some, None}
use Rattle.asp_model.specs.declared.program.Body.{Body}
use Rattle.asp_model.specs.declared.program.Program.{Program}
use Rattle.asp_vars.specs.Literals.{Literal, complement, value_of}
use Rattle.asp_vars.specs.Numbering.{var_count}
use Rattle.asp_trail.specs.declared.trail.Entry.{Entry}
use Rattle.asp_trail.specs.Entries.{assignment}
use Rattle.asp_trail.specs.Trails.{Trailed, IsVar}
use Rattle.asp_trail.specs.Told.{Told}
use Rattle.asp_trail.specs.declared.said.Said.{Said}
use Rattle.asp_trail.specs.declared.said.Said.TheVariants as said
use Rattle.asp_vars.specs.Entailment.{Entailed}
use Rattle.asp_vars.specs.declared.nogood.Base.TheVariants as base
use Rattle.asp_vars.specs.declared.nogood.Nogood.{Nogood}
use Rattle.asp_weight.specs.declared.item.Item.{Item}
use Rattle.asp_weight.specs.declared.item.Shape.{Shape}
use Rattle.asp_weight.specs.Rows.{on, weighed_bodies, nth_weighed, IsRow}
use Rattle.asp_weight.specs.Definition.{Excludes, IsGiven}
use Rattle.asp_weight.specs.Spoken.{head_of, item_at, Settles}

-- the values before the entry at a place came
abbrev pub before : Trailed → ℕ → List (Option Bool)
before t place = assignment t.vars (take place t.entries)

-- What settles a side rules out one literal: that the body's variable says otherwise, or the open one.
abbrev pub ruled_out : Option ℕ → Bool → Shape → List Item → Literal
ruled_out None side s row = head_of side s
ruled_out (Some j) side s row = on side (item_at row j).lit

-- The side is settled under the values, and rules out the literal's complement; the literal has no value.
pub record Follows (a : List (Option Bool)) (s : Shape) (row : List Item) (l : Literal) : Type 0 where
  pub side : Bool
  pub place : Option ℕ
  pub settles : Settles place side a s row
  pub lit : complement l ≡ ruled_out place side s row
  pub none : value_of a l.var ≡ None

-- It follows by the weight body of this number, whose shape and row these are.
pub record IsExplained (p : Program) (entries : List Entry) (l : Literal) (w : ℕ) : Type 0 where
  pub within : w < length (weighed_bodies p)
  pub shape : Shape
  pub row : List Item
  pub is_row : IsRow p (nth_weighed p w) shape row
  pub follows : Follows (assignment (var_count p) entries) shape row l

-- The definition of a weight body excludes it.
pub record IsExcluded (p : Program) (n : Nogood) : Type 0 where
  pub base : n.base ≡ base.Pure
  pub entailed : Entailed p n.lits
  pub excluded : (b : Body) × Excludes p b n.lits

-- A literal without a value, which follows from the entries.
pub record IsImplied (t : Told) (entries : List Entry) (l : Literal) (name : ℕ) : Type 0 where
  pub var : IsVar (var_count t.program) l.var
  pub none : value_of t.values l.var ≡ None
  pub small : name + 1 < 2 ^ 31
  pub explained : IsExplained t.program entries l name

abbrev pub IsSaid : Told → List Entry → Said → Type 0
IsSaid t entries (said.Nogood n) = IsGiven t n
IsSaid t entries (said.Implied i) = IsImplied t entries i.lit i.name
