use Rattle.std.proofs.Common.{◌≡◌, List, [], ◌∷◌, ◌++◌, Option, Some, refl, sym, ap, ◌∙◌, subst}
use Rattle.asp_model.specs.declared.program.Program.{Program}
use Rattle.asp_model.specs.declared.results.Reasoning.{Reasoning}
use Rattle.asp_model.specs.Consequences.{common_sets}
use Rattle.asp_model.specs.Models.{atoms_of}
use Rattle.asp_model.specs.Sets.{Atoms}
use Rattle.asp_rows.specs.Bits.{encode, IsAmong}
use Rattle.asp_vars.specs.Knowing.{Knowing}
use Rattle.asp_core.specs.declared.event.Event.TheVariants as event
use Rattle.asp_core.specs.declared.state.State.TheInside.{Inside}
use Rattle.asp_core.specs.Boards.{Board, sought}
use Rattle.asp_core.specs.Stored.{answers_in, board_of, Counts, seed_of, with_answer}
use Rattle.asp_core.proofs.CountLaws.{different-delivered}
use Rattle.asp_core.proofs.SeenLaws.{Seen, seen-more, seen-some, tell-in}
use Rattle.asp_core.proofs.StateLaws.{answer-among, IsState-happens}
use Rattle.asp_core.proofs.state.State.deliver.Goals as goal

pub list-requires-clause-row : goal.list-requires-clause-row
list-requires-clause-row c =
    let i : Inside = c.self.inside in
    let same : i.program.value ≡ c.args.self.now.task.program = ap (λ (b : Board). b.task.program) c.self.view_is in
    record {
      words = c.in_ok-row-in-None.ensures.words ∙ ap (λ (L : Atoms). encode L c.args.set) (c.as_slice.ensures.value ∙ c.atoms.ensures ∙ c.self.invariant.among ∙ ap atoms_of same);
      set = c.in_ok-row-in-None.ensures.set;
    }

pub count_in-requires-clause-among : goal.count_in-requires-clause-among
count_in-requires-clause-among c =
    let i : Inside = c.self.inside in
    let same : i.program.value ≡ c.args.self.now.task.program = ap (λ (b : Board). b.task.program) c.self.view_is in
    let listed : c.as_slice-in-Some.result.now ≡ atoms_of c.args.self.now.task.program = c.as_slice-in-Some.ensures.value ∙ c.atoms-in-Some.ensures ∙ c.self.invariant.among ∙ ap atoms_of same in
    subst (λ (L : Atoms). IsAmong L c.args.set) (sym listed) (answer-among c.args.self.now.task c.args.set c.requires.1)

pub invariant_of-self-in-Some-1 : goal.invariant_of-self-in-Some-1
invariant_of-self-in-Some-1 c =
    let i : Inside = c.self.inside in
    let I = c.self.invariant in
    let k : Option Reasoning = sought i.goal in
    let p : Program = i.program.value in
    let S : Atoms = c.args.set in
    let A : List Atoms = i.answers.sets in
    let more : c.push_reserved.new.self.items ≡ i.told.items ++ S ∷ [] =
    c.push_reserved.ensures.items ∙ ap (λ (x : List Atoms). x ++ c.of-told.result ∷ []) c.in_ok-reserve-in-Some.ensures.items ∙ ap (λ (y : Atoms). i.told.items ++ y ∷ []) c.of-told.ensures in
    let s : Seen i.goal k p c.in-Some.known A i.told.items i.atoms.items = seen-some i.goal k p i.known c.in-Some.known A i.told.items i.atoms.items I.seen c.in-Some.is in
    let grown : c.in_ok-known-in-Some.known ≡ record c.in-Some.known { sets = common_sets c.in-Some.known.reasoning c.in-Some.known.program (with_answer (seed_of i.goal p) c.in-Some.known.sets S) } =
    c.in_ok-known-in-Some.ensures ∙ ap (λ (seed : Option Atoms). let k : Knowing =
    record c.in-Some.known { sets = common_sets c.in-Some.known.reasoning c.in-Some.known.program (with_answer seed c.in-Some.known.sets S) }
    in k) (c.as_ref.ensures.value ∙ I.seeded) in
    let told : answers_in k A c.push_reserved.new.self.items ≡ answers_in k A i.told.items ++ S ∷ [] =
    ap (λ (x : List Atoms). answers_in k A x) more ∙ tell-in k s.reasoning A i.told.items S s.seeks in
    let listed : c.as_slice-in-Some.result.now ≡ atoms_of p = c.as_slice-in-Some.ensures.value ∙ c.atoms-in-Some.ensures ∙ I.among in
    IsState-happens i (record i { told = c.push_reserved.new.self; known = Some c.in_ok-known-in-Some.known; different = c.count_in.new.different })
    c.args.self.now (event.Deliver c.args.by c.args.set) I c.self.view_is c.requires
    (ap (λ (x : List Atoms). record (board_of i) { answers = x }) told)
    refl refl refl I.costed
    (different-delivered i.limit (atoms_of p) i.different.keys c.count_in.new.different.keys (answers_in k A i.told.items)
    (answers_in k A c.push_reserved.new.self.items) S I.sorted
    (λ some. subst (λ (L : Atoms). Counts L i.different.keys c.count_in.new.different.keys S) listed
    (c.in_ok-count_in-in-Some.ensures.ok some)) told)
    (seen-more i.goal p c.in-Some.known c.in_ok-known-in-Some.known A i.told.items c.push_reserved.new.self.items S i.atoms.items s grown more) I.seeded I.room
