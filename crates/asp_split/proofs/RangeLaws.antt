-- The atoms that stand in a sound program are in their range.
use Rattle.std.proofs.Common.{◌≡◌, ℕ, true, eqb, List, ◌++◌, map, sym, ◌∙◌, subst}
use Rattle.std.specs.Prelude.{ℤ, flat_map, int_le, pos}
use Rattle.std.specs.List.{list_all, AllByRecursion}
use Rattle.std.proofs.lemmas.Bool.{and_parts, eqb-true}
use Rattle.asp_model.specs.declared.program.Body.{Body}
use Rattle.asp_model.specs.declared.program.Body.TheVariants as body
use Rattle.asp_model.specs.declared.program.Head.{Head}
use Rattle.asp_model.specs.declared.program.Head.TheVariants as head
use Rattle.asp_model.specs.declared.program.Rule.{Rule}
use Rattle.asp_model.specs.declared.program.Minimize.{Minimize}
use Rattle.asp_model.specs.declared.program.Output.{Output}
use Rattle.asp_model.specs.declared.program.External.{External}
use Rattle.asp_model.specs.declared.program.Program.{Program}
use Rattle.asp_model.specs.Sets.{has}
use Rattle.asp_model.specs.Holding.{atom_of, body_atoms}
use Rattle.asp_model.specs.Models.{atoms_of, mentions, head_atoms}
use Rattle.asp_model.specs.Sound.{is_atom, is_literal, is_weighted, is_sound_head, is_sound_body, is_sound_rule, is_sound_minimize, is_sound_output, IsSound}
use Rattle.asp_model.proofs.SetLaws.{has-set_of}
use Rattle.asp_model.proofs.MemberLaws.{one_passes, each_weaker, each_passes, each-append, each-flat_map, each-map}

abbrev InRange : ℕ → Type 0
InRange a = is_atom a ≡ true

head_ranges : (h : Head) → is_sound_head h ≡ true → AllByRecursion InRange (head_atoms h)
head_ranges (head.One a) h = (h, tt)
head_ranges (head.Choice atoms) h = each_passes is_atom atoms h
head_ranges head.Never h = tt

literal_ranges : (ls : List ℤ) → list_all is_literal ls ≡ true → AllByRecursion InRange (map atom_of ls)
literal_ranges ls h = each-map InRange atom_of ls (each_passes is_literal ls h)

body_ranges : (b : Body) → is_sound_body b ≡ true → AllByRecursion InRange (body_atoms b)
body_ranges (body.All literals) h = literal_ranges literals h
body_ranges (body.AtLeast bound items) h =
    each-map InRange (λ item. atom_of item.0) items
    (each_weaker (λ item. is_weighted item ≡ true) (λ item. InRange (atom_of item.0)) (λ item w. (and_parts (is_literal item.0) (int_le (pos 0) item.1) w).0) items (each_passes is_weighted items h))

rule_ranges : (r : Rule) → is_sound_rule r ≡ true → AllByRecursion InRange (head_atoms r.head ++ body_atoms r.body)
rule_ranges r h =
    let parts = and_parts (is_sound_head r.head) (is_sound_body r.body) h in
    each-append InRange (head_atoms r.head) (body_atoms r.body) (head_ranges r.head parts.0) (body_ranges r.body parts.1)

minimize_ranges : (m : Minimize) → is_sound_minimize m ≡ true → AllByRecursion InRange (map (λ item. atom_of item.0) m.items)
minimize_ranges m h = each-map InRange (λ item. atom_of item.0) m.items (each_passes (λ item. is_literal item.0) m.items h)

mention_ranges : (p : Program) → IsSound p → AllByRecursion InRange (mentions p)
mention_ranges p sound =
    let of_rule : Rule → List ℕ = λ r. head_atoms r.head ++ body_atoms r.body in
    let of_minimize : Minimize → List ℕ = λ m. map (λ item. atom_of item.0) m.items in
    let of_output : Output → List ℕ = λ o. map atom_of o.condition in
    each-append InRange _ (map atom_of p.assumptions)
    (each-append InRange _ (map (λ (e : External). e.atom) p.externals)
    (each-append InRange _ (flat_map of_output p.outputs)
    (each-append InRange (flat_map of_rule p.rules) (flat_map of_minimize p.minimize)
    (each-flat_map InRange of_rule p.rules (each_weaker (λ r. is_sound_rule r ≡ true) (λ r. AllByRecursion InRange (of_rule r)) rule_ranges p.rules (each_passes is_sound_rule p.rules sound.rules)))
    (each-flat_map InRange of_minimize p.minimize
    (each_weaker (λ m. is_sound_minimize m ≡ true) (λ m. AllByRecursion InRange (of_minimize m)) minimize_ranges p.minimize (each_passes is_sound_minimize p.minimize sound.minimize))))
    (each-flat_map InRange of_output p.outputs
    (each_weaker (λ o. is_sound_output o ≡ true) (λ o. AllByRecursion InRange (of_output o)) (λ o h. literal_ranges o.condition h) p.outputs (each_passes is_sound_output p.outputs sound.outputs))))
    (each-map InRange (λ (e : External). e.atom) p.externals (each_passes (λ (e : External). is_atom e.atom) p.externals sound.externals)))
    (literal_ranges p.assumptions sound.assumptions)

pub standing_ranges : (p : Program) (a : ℕ) → IsSound p → has (atoms_of p) a ≡ true → is_atom a ≡ true
standing_ranges p a sound h =
    one_passes (is_atom a ≡ true) (λ b. eqb b a) (mentions p)
    (each_weaker InRange (λ b. eqb b a ≡ true → is_atom a ≡ true) (λ b in_range e. subst InRange (eqb-true b a e) in_range) (mentions p) (mention_ranges p sound))
    (sym (has-set_of (mentions p) a) ∙ h)
