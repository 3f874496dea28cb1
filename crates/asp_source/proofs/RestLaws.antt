-- An unfounded set that was found.
use Rattle.std.proofs.Common.{◌≡◌, ◌+◌, ◌<◌, true, length, get_or, ◌∙◌, ap, List, Option, Bool, ℕ, arith}
use Rattle.std.proofs.lemmas.List.Elements.{All-weaker}
use Rattle.std.specs.Prelude.{All}
use Rattle.asp_model.specs.declared.program.Program.{Program}
use Rattle.asp_model.specs.Sets.{Atoms, has}
use Rattle.asp_vars.specs.Literals.{Literal}
use Rattle.asp_vars.specs.Numbering.{var_count}
use Rattle.asp_trail.specs.Trails.{IsVar}
use Rattle.asp_scc.specs.Components.{Stands}
use Rattle.asp_scc.proofs.SearchLaws.{get_or-any}
use Rattle.asp_source.specs.Loops.{AreJoined, IsFound}
use Rattle.asp_source.specs.Rest.{Rest, IsRemembered}
use Rattle.asp_source.proofs.LookLaws.{is_at}

-- a set that was found
pub found_joined : (p : Program) (x : List (Option Bool)) (U : Atoms) (a : ℕ) → IsFound p x U a → AreJoined p U
found_joined p x U a h = record { stand = h.loop.stand; joined = h.loop.joined; cyclic = h.loop.cyclic }

pub all_stand : (p : Program) (U : Atoms) → AreJoined p U → All (Stands p) U
all_stand p U h i d lt = h.stand (get_or U i d) (ap (has U) (get_or-any U i d 0 lt) ∙ is_at U i lt)

-- the atoms of a set that is remembered
pub remembered_stand : (p : Program) (r : Rest) → ((a : ℕ) → has r.set a ≡ true → IsRemembered p r.set r.reason) → All (Stands p) r.set
remembered_stand p r h i d lt =
    let member : has r.set (get_or r.set i d) ≡ true = ap (has r.set) (get_or-any r.set i d 0 lt) ∙ is_at r.set i lt in
    (h (get_or r.set i d) member).loop.stand (get_or r.set i d) member

-- its reason has values
pub reason_valued : (p : Program) (x : List (Option Bool)) (reason : List Literal) → length x ≡ var_count p + 1 →
    All (λ (l : Literal). IsVar (var_count p) l.var) reason → All (λ (l : Literal). l.var < length x) reason
reason_valued p x reason size h = All-weaker (λ (l : Literal). IsVar (var_count p) l.var) (λ (l : Literal). l.var < length x) (λ l v. let small = v.1 in omega (arith, small, size)) reason h
