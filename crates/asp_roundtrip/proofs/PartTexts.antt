-- A text with a line of assumptions before its last line is read as its program with these assumptions.
use Rattle.std.proofs.Common.{◌≡◌, ℕ, ◌+◌, ◌<◌, Bool, true, false, eqb, List, [], ◌∷◌, ◌++◌, length, map, refl, sym, ap, ◌∙◌, subst, arith, Result, Ok, Err, append_assoc, add-zero}
use Rattle.std.specs.Prelude.{ℤ, codes, if◌then◌else◌, nat_le, pos}
use Rattle.std.specs.List.{AllByRecursion}
use Rattle.std.proofs.lemmas.Bool.{eqb-true}
use Rattle.std.proofs.lemmas.List.{map-append}
use Rattle.asp_text.specs.Lines.{is_lf, pieces, onto, without_cr, lines_of}
use Rattle.asp_model.specs.Sets.{Atoms, has}
use Rattle.asp_model.specs.Holding.{atom_of, body_atoms}
use Rattle.asp_model.specs.Models.{mentions, atoms_of, head_atoms}
use Rattle.asp_model.specs.declared.program.Head.{Head}
use Rattle.asp_model.specs.declared.program.Head.TheVariants.{One, Choice, Never}
use Rattle.asp_model.specs.declared.program.Body.{Body}
use Rattle.asp_model.specs.declared.program.Body.TheVariants.{All, AtLeast}
use Rattle.asp_model.specs.declared.program.Rule.{Rule}
use Rattle.asp_model.specs.declared.program.Program.{Program}
use Rattle.asp_model.proofs.SetLaws.{has-set_of}
use Rattle.asp_model.proofs.MemberLaws.{one_passes, each_weaker, each-append, each-flat_map, each-map}
use Rattle.asp_read.specs.declared.fault.Fault.{Fault}
use Rattle.asp_read.specs.declared.fault.ReadError.{ReadError}
use Rattle.asp_read.specs.declared.fault.ReadError.TheVariants.{TooLong}
use Rattle.asp_read.specs.declared.reader.Stage.{Stage}
use Rattle.asp_read.specs.declared.reader.Stage.TheVariants.{Start, Within, Ended}
use Rattle.asp_read.specs.declared.statement.Statement.TheVariants as say
use Rattle.asp_read.specs.Fields.{◌>>=◌}
use Rattle.asp_read.specs.Statements.{header_at, statement_with, of_kind}
use Rattle.asp_read.specs.Seen.{Seen, nothing_seen}
use Rattle.asp_read.specs.Judging.{judge_by, judge_all, judge_next, outcome_from}
use Rattle.asp_read.specs.Outcome.{aspif, adds, at_end, outcome, most_bytes}
use Rattle.asp_make.specs.Texts.{assumptions_text, line}
use Rattle.asp_roundtrip.specs.Parts.{IsPartOf, ended, part_text}
use Rattle.asp_roundtrip.specs.Readable.{IsAtom, IsLiteral, IsWeighted, IsHead, IsBody, IsRule, IsReadable}
use Rattle.asp_roundtrip.proofs.Room.{IsPart, HasEach}
use Rattle.asp_roundtrip.proofs.Growing.{IsKept, nothing_kept, mentions_kept, has_one, readable, size_grows, StandsIn}
use Rattle.asp_roundtrip.proofs.GivenTexts.{all_given, lines_are_lines}
use Rattle.asp_roundtrip.proofs.WrittenTexts.{Fits, Reaches, at, one_statement, end_reached, outcome_is}

-- ---- the lines before a line feed, and those behind it

onto_some : (b : ℕ) (ls : List (List ℕ)) → 0 < length (onto b ls)
onto_some b [] = omega arith
onto_some b (l ∷ ls) = omega arith

some_piece : (front : List ℕ) → 0 < length (pieces (line front))
some_piece [] = omega arith
some_piece (b ∷ bs) = elim (is_lf b) as (λ v. 0 < length (if v then [] ∷ pieces (line bs) else onto b (pieces (line bs)))) [
  | true ↦ omega arith
  | false ↦ onto_some b (pieces (line bs))
]

onto-append : (b : ℕ) (xs ys : List (List ℕ)) → 0 < length xs → onto b (xs ++ ys) ≡ onto b xs ++ ys
onto-append b [] ys some = absurd (omega arith)
onto-append b (x ∷ xs) ys some = refl

pieces_more : (front more : List ℕ) → pieces (front ++ (10 ∷ more)) ≡ pieces (line front) ++ pieces more
pieces_more [] more = refl
pieces_more (b ∷ bs) more =
    elim (is_lf b) as (λ v. (if v then [] ∷ pieces (bs ++ (10 ∷ more)) else onto b (pieces (bs ++ (10 ∷ more)))) ≡ (if v then [] ∷ pieces (line bs) else onto b (pieces (line bs))) ++ pieces more) [
      | true ↦ ap (λ (ls : List (List ℕ)). [] ∷ ls) (pieces_more bs more)
      | false ↦ ap (onto b) (pieces_more bs more) ∙ onto-append b (pieces (line bs)) (pieces more) (some_piece bs)
    ]

lines_more : (front more : List ℕ) → lines_of (line front ++ more) ≡ lines_of (line front) ++ lines_of more
lines_more front more = ap lines_of (append_assoc front (10 ∷ []) more) ∙ ap (map without_cr) (pieces_more front more) ∙ map-append without_cr (pieces (line front)) (pieces more)

-- ---- lines that are judged one after another

next_leads : (number : ℕ) (j : Result Seen Fault) (f g : Seen → Result Seen ReadError) (s : Seen) (r : Result Seen ReadError) →
    ((t : Seen) → f t ≡ Ok s → g t ≡ r) → judge_next number j f ≡ Ok s → judge_next number j g ≡ r
next_leads number (Ok t) f g s r h e = h t e
next_leads number (Err x) f g s r h e = absurd cc

abbrev seen_ok : Seen → Result Seen ReadError
seen_ok s = Ok s

same_seen : (s t : Seen) → seen_ok s ≡ seen_ok t → s ≡ t
same_seen s t e = cc

leads : (number : ℕ) (seen s : Seen) (ls more : List (List ℕ)) → judge_all aspif number seen ls ≡ Ok s → judge_all aspif number seen (ls ++ more) ≡ judge_all aspif (number + length ls) s more
unfolding judge_all
leads number seen s [] more e = ap (λ n. judge_all aspif n seen more) (sym (add-zero number)) ∙ ap (λ t. judge_all aspif (number + 0) t more) (same_seen seen s e)
leads number seen s (l ∷ ls) more e =
    let one_more : number + 1 + length ls ≡ number + length (l ∷ ls) = omega arith in
    next_leads number (judge_by aspif seen l) (λ t. judge_all aspif (number + 1) t ls) (λ t. judge_all aspif (number + 1) t (ls ++ more)) s (judge_all aspif (number + length (l ∷ ls)) s more)
    (λ t q. leads (number + 1) t s ls more q ∙ ap (λ n. judge_all aspif n s more) one_more) e

next_led : (number : ℕ) (j : Result Seen Fault) (f g : Seen → Result Seen ReadError) (e : Seen) →
    ((t : Seen) → g t ≡ Ok e → (s : Seen) × (f t ≡ Ok s)) → judge_next number j g ≡ Ok e → (s : Seen) × (judge_next number j f ≡ Ok s)
next_led number (Ok t) f g e h q = h t q
next_led number (Err x) f g e h q = absurd cc

-- where all lines are judged, the first are
led : (number : ℕ) (seen e : Seen) (ls more : List (List ℕ)) → judge_all aspif number seen (ls ++ more) ≡ Ok e → (s : Seen) × (judge_all aspif number seen ls ≡ Ok s)
unfolding judge_all
led number seen e [] more h = (seen, refl)
led number seen e (l ∷ ls) more h =
    next_led number (judge_by aspif seen l) (λ t. judge_all aspif (number + 1) t ls) (λ t. judge_all aspif (number + 1) t (ls ++ more)) e (λ t q. led (number + 1) t e ls more q) h

-- a line 0 is judged within a program alone, which it ends
ends : (number : ℕ) (stage : Stage) (p : Program) (known : Atoms) (e : Seen) →
    judge_all aspif number (record { stage = stage; program = p; known = known }) (codes "0" ∷ []) ≡ Ok e → (stage ≡ Within) × (e.program ≡ p)
unfolding judge_all header_at statement_with of_kind
ends number Start p known e h = absurd cc
ends number Within p known e h = (refl, ap (λ (s : Seen). s.program) (sym (same_seen (record { stage = Ended; program = p; known = known }) e h)))
ends number Ended p known e h = absurd cc

seen_is : (s : Seen) (p : Program) → s.stage ≡ Within → s.program ≡ p → s ≡ at p s.known
seen_is s p within is = ap (λ stage. record s { stage = stage }) within ∙ ap (λ q. at q s.known) is

-- ---- the outcome of a text that was read

at_ended : (number : ℕ) (stage : Stage) (q p : Program) → at_end number stage q ≡ Ok p → q ≡ p
at_ended number Start q p h = absurd cc
at_ended number Within q p h = absurd cc
at_ended number Ended q p h = cc

by_room : (b : Bool) (j k : Result Seen ReadError) (number : ℕ) (p : Program) →
    (if b then (j >>= λ end. at_end number end.stage end.program) else (k >>= λ _. Err TooLong)) ≡ Ok p → (e : Seen) × (j ≡ Ok e) × (e.program ≡ p)
by_room true (Ok e) k number p h = (e, refl, at_ended number e.stage e.program p h)
by_room true (Err x) k number p h = absurd cc
by_room false j (Ok e) number p h = absurd cc
by_room false j (Err x) number p h = absurd cc

judged : (text : List ℕ) (p : Program) → outcome text ≡ Ok p → (e : Seen) × (judge_all aspif 1 nothing_seen (lines_of text) ≡ Ok e) × (e.program ≡ p)
unfolding outcome_from
judged text p h = by_room (nat_le (length text) most_bytes) (judge_all aspif 1 nothing_seen (lines_of text)) _ _ p h

-- ---- atoms that stand are in their range

head_ranges : (h : Head) → IsHead h → AllByRecursion IsAtom (head_atoms h)
head_ranges (One a) h = (h, tt)
head_ranges (Choice atoms) h = h
head_ranges Never h = tt

body_ranges : (b : Body) → IsBody b → AllByRecursion IsAtom (body_atoms b)
body_ranges (All ls) h = each-map IsAtom atom_of ls h
body_ranges (AtLeast bound items) h = each-map IsAtom (λ item. atom_of item.0) items (each_weaker (IsWeighted (pos 0)) (λ item. IsAtom (atom_of item.0)) (λ item w. w.0) items h.1)

rule_ranges : (r : Rule) → IsRule r → AllByRecursion IsAtom (head_atoms r.head ++ body_atoms r.body)
rule_ranges r h = each-append IsAtom (head_atoms r.head) (body_atoms r.body) (head_ranges r.head h.0) (body_ranges r.body h.1)

mention_ranges : (p : Program) → IsReadable p → AllByRecursion IsAtom (mentions p)
mention_ranges p is =
    each-append IsAtom _ _ (each-append IsAtom _ _ (each-append IsAtom _ _ (each-append IsAtom _ _
    (each-flat_map IsAtom _ p.rules (each_weaker _ _ rule_ranges p.rules is.rules))
    (each-flat_map IsAtom _ p.minimize (each_weaker _ _ (λ m h. each-map IsAtom _ m.items (each_weaker _ _ (λ item w. w.0) m.items h.1)) p.minimize is.minimize)))
    (each-flat_map IsAtom _ p.outputs (each_weaker _ _ (λ o h. each-map IsAtom atom_of o.condition h.2) p.outputs is.outputs)))
    (each-map IsAtom _ p.externals is.externals))
    (each-map IsAtom atom_of p.assumptions is.assumptions)

standing_ranges : (p : Program) (a : ℕ) → IsReadable p → has (atoms_of p) a ≡ true → IsAtom a
standing_ranges p a is h =
    one_passes (IsAtom a) (λ b. eqb b a) (mentions p)
    (each_weaker IsAtom (λ b. eqb b a ≡ true → IsAtom a) (λ b in_range e. subst IsAtom (eqb-true b a e) in_range) (mentions p) (mention_ranges p is))
    (sym (has-set_of (mentions p) a) ∙ h)

-- ---- the text of a part

-- the line of the cube leads on
cube_reaches : (front : List ℕ) (p : Program) (known : Atoms) (cube : List ℤ) → IsKept known p → IsPartOf front p cube →
    Reaches known (at p known) (line (assumptions_text cube)) (adds p (say.Assume cube))
cube_reaches front p known cube kept part =
    let K : ℕ → Type 0 = λ a. has known a ≡ true in
    let Stands : ℤ → Type 0 = λ l. has (atoms_of p) (atom_of l) ≡ true in
    let in_range : AllByRecursion IsLiteral cube = each_weaker Stands IsLiteral (λ l stands. standing_ranges p (atom_of l) (readable known p kept) stands) cube part.stand in
    let in_known : HasEach known (map atom_of cube) =
    each-map K atom_of cube (each_weaker Stands (λ l. K (atom_of l))
    (λ l stands. has_one known (mentions p) (atom_of l) (mentions_kept known p kept.statements)
    (sym (has-set_of (mentions p) (atom_of l)) ∙ stands)) cube part.stand) in
    let stands : StandsIn known (say.Assume cube) = (in_range, in_known) in
    let fits : Fits (adds p (say.Assume cube)) = record { counted = omega (arith, size_grows p (say.Assume cube), part.few_counted); priorities_few = kept.few_priorities } in
    let itself : IsPart known known = record { ascending = kept.roomy.ascending; subset = λ a h. h } in
    one_statement known kept.roomy p known (say.Assume cube) (λ e. absurd cc) stands fits itself

pub part_reads : (front : List ℕ) (p : Program) (cube : List ℤ) → outcome (ended front) ≡ Ok p → IsPartOf front p cube → outcome (part_text front cube) ≡ Ok (adds p (say.Assume cube))
part_reads front p cube h part =
    let ls : List (List ℕ) = lines_of (line front) in
    let zero_line : List (List ℕ) = codes "0" ∷ [] in
    let back : List ℕ = line (assumptions_text cube) ++ codes "0\n" in
    let end = judged (ended front) p h in
    let all : judge_all aspif 1 nothing_seen (ls ++ zero_line) ≡ Ok end.0 = ap (judge_all aspif 1 nothing_seen) (sym (lines_more front (codes "0\n"))) ∙ end.1 in
    let first = led 1 nothing_seen end.0 ls zero_line all in
    let s : Seen = first.0 in
    let last = ends (1 + length ls) s.stage s.program s.known end.0 (sym (leads 1 nothing_seen s ls zero_line first.1) ∙ all) in
    let same : s.program ≡ p = sym last.1 ∙ end.2 in
    let kept : IsKept s.known p = subst (IsKept s.known) same ((all_given 1 nothing_seen ls (lines_are_lines (line front)) nothing_kept).each s first.1) in
    let reach = cube_reaches front p s.known cube kept part in
    let judged_all : judge_all aspif 1 nothing_seen (lines_of (part_text front cube)) ≡ Ok (record { stage = Ended; program = adds p (say.Assume cube); known = reach.known }) =
    ap (judge_all aspif 1 nothing_seen) (lines_more front back) ∙ leads 1 nothing_seen s ls (lines_of back) first.1
    ∙ ap (λ t. judge_all aspif (1 + length ls) t (lines_of back)) (seen_is s p last.0 same)
    ∙ reach.says.leads (1 + length ls) (codes "0\n")
    ∙ end_reached (1 + length ls + reach.says.count) (adds p (say.Assume cube)) reach.known in
    outcome_is (part_text front cube) (adds p (say.Assume cube)) reach.known part.short judged_all
