use Rattle.std.proofs.Common.{◌≡◌, ℕ, ◌<◌, BTreeSet, List, [], ◌∷◌, ◌++◌, None, refl, sym, ap, ◌∙◌, subst, arith}
use Rattle.asp_model.specs.Models.{atoms_of}
use Rattle.asp_model.specs.Sets.{Atoms}
use Rattle.asp_rows.specs.Bits.{encode}
use Rattle.asp_rows.specs.declared.row.Row.{Row}
use Rattle.asp_rows.specs.Listed.{IsRowOf, Listed}
use Rattle.asp_rows.proofs.RowLaws.{row-of}
use Rattle.asp_core.specs.declared.event.Event.TheVariants as event
use Rattle.asp_core.specs.declared.state.State.TheInside.{Inside}
use Rattle.asp_core.specs.Boards.{Board, sought}
use Rattle.asp_core.specs.Events.{Guard}
use Rattle.asp_core.specs.Stored.{answers_in, board_of, Counts, IsState}
use Rattle.asp_core.proofs.CountLaws.{different-delivered}
use Rattle.asp_core.proofs.SeenLaws.{list-in, seen-list}
use Rattle.asp_core.proofs.StateLaws.{answer-among, IsState-happens}
use Rattle.asp_core.proofs.state.State.list.Goals as goal

-- the atoms that the rows are among
among-seen : (i : Inside) (seen : Board) → IsState i → board_of i ≡ seen → i.answers.atoms ≡ atoms_of seen.task.program
among-seen i seen I view = I.among ∙ ap (λ (b : Board). atoms_of b.task.program) view

-- the row of an answer is one of them
row-among : (i : Inside) (seen : Board) (by : ℕ) (S : Atoms) (row : Row) → IsState i → board_of i ≡ seen → Guard seen (event.Deliver by S) →
    row.words.items ≡ encode (atoms_of seen.task.program) S → row.set ≡ S → IsRowOf i.answers.atoms row
row-among i seen by S row I view guard words set =
    subst (λ (L : Atoms). IsRowOf L row) (sym (among-seen i seen I view))
    (row-of (atoms_of seen.task.program) S row (record { words = words; set = set }) (answer-among seen.task S guard.1))

-- one answer more is listed, and counted where there is a limit
IsState-listed : (i : Inside) (seen : Board) (by : ℕ) (S : Atoms) (A : Listed) (D : BTreeSet Row) → IsState i → board_of i ≡ seen → Guard seen (event.Deliver by S) → sought seen.task.goal ≡ None →
    A ≡ record i.answers { sets = i.answers.sets ++ S ∷ [] } → (0 < i.limit → Counts i.answers.atoms i.different.keys D.keys S) → IsState (record i { answers = A; different = D })
IsState-listed i seen by S A D I view guard listed pushed counts =
    let none : sought i.goal ≡ None = ap (λ (b : Board). sought b.task.goal) view ∙ listed in
    let sets : A.sets ≡ i.answers.sets ++ S ∷ [] = ap (λ (l : Listed). l.sets) pushed in
    let more : answers_in (sought i.goal) A.sets i.told.items ≡ answers_in (sought i.goal) i.answers.sets i.told.items ++ S ∷ [] =
    ap (λ (x : List Atoms). answers_in (sought i.goal) x i.told.items) sets ∙ list-in (sought i.goal) i.answers.sets i.told.items S none in
    IsState-happens i (record i { answers = A; different = D }) seen (event.Deliver by S) I view guard
    (ap (λ (x : List Atoms). record (board_of i) { answers = x }) more)
    refl refl (ap (λ (l : Listed). l.atoms) pushed) (I.costed)
    (different-delivered i.limit (atoms_of i.program.value) i.different.keys D.keys (answers_in (sought i.goal) i.answers.sets i.told.items) (answers_in (sought i.goal) A.sets i.told.items) S I.sorted
    (λ some. subst (λ (L : Atoms). Counts L i.different.keys D.keys S) I.among (counts some)) more)
    (seen-list i.goal (sought i.goal) i.program.value i.known i.answers.sets A.sets i.told.items i.atoms.items none I.seen) I.seeded I.room

pub push_row-requires : goal.push_row-requires
push_row-requires c = row-among c.self.inside c.args.self.now c.args.by c.args.set c.args.row c.self.invariant c.self.view_is c.requires.guard c.requires.row.words c.requires.row.set

pub push_row-requires-2 : goal.push_row-requires-2
push_row-requires-2 c = row-among c.self.inside c.args.self.now c.args.by c.args.set c.args.row c.self.invariant c.self.view_is c.requires.guard c.requires.row.words c.requires.row.set

pub add_row-added-requires-clause-row : goal.add_row-added-requires-clause-row
add_row-added-requires-clause-row c =
    let same : c.as_slice.result.now ≡ c.self.inside.answers.atoms = c.as_slice.ensures.value ∙ c.atoms.ensures ∙ ap (λ (l : Listed). l.atoms) c.in_ok-push_row-2.ensures.ok in
    subst (λ (L : Atoms). IsRowOf L c.in_ok-counted.counted) (sym same)
    (row-among c.self.inside c.args.self.now c.args.by c.args.set c.in_ok-counted.counted c.self.invariant c.self.view_is c.requires.guard
    (c.in_ok-counted.ensures.words ∙ c.requires.row.words) c.in_ok-counted.ensures.set)

pub invariant_of-self-then-self-eq0 : goal.invariant_of-self-then-self-eq0
invariant_of-self-then-self-eq0 c =
    IsState-listed c.self.inside c.args.self.now c.args.by c.args.set c.push_row.new.self c.self.inside.different c.self.invariant c.self.view_is c.requires.guard c.requires.listed
    (c.in_ok-push_row.ensures.ok ∙ ap (λ (S : Atoms). record c.self.inside.answers { sets = c.self.inside.answers.sets ++ S ∷ [] }) c.requires.row.set)
    (λ some. absurd (omega (arith, some, c.if-self-eq0.true)))

pub invariant_of-self-in-Ok : goal.invariant_of-self-in-Ok
invariant_of-self-in-Ok c =
    let i : Inside = c.self.inside in
    let same : c.as_slice.result.now ≡ i.answers.atoms = c.as_slice.ensures.value ∙ c.atoms.ensures ∙ ap (λ (l : Listed). l.atoms) c.in_ok-push_row-2.ensures.ok in
    IsState-listed i c.args.self.now c.args.by c.args.set c.push_row-2.new.self c.add_row-added.new.different c.self.invariant c.self.view_is c.requires.guard c.requires.listed
    (c.in_ok-push_row-2.ensures.ok ∙ ap (λ (S : Atoms). record i.answers { sets = i.answers.sets ++ S ∷ [] }) c.requires.row.set)
    (λ some. subst (λ (S : Atoms). Counts i.answers.atoms i.different.keys c.add_row-added.new.different.keys S) c.in_ok-counted.ensures.set
    (subst (λ (L : Atoms). Counts L i.different.keys c.add_row-added.new.different.keys c.in_ok-counted.counted.set) same c.in-Ok.ensures.ok))
