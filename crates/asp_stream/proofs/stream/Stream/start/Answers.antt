use Rattle.std.proofs.Common.{◌≡◌, List, [], ◌∷◌, ◌++◌, refl, sym, ap, ◌∙◌, subst}
use Rattle.asp_model.specs.Models.{atoms_of}
use Rattle.asp_model.specs.Sets.{Atoms}
use Rattle.asp_book.specs.Books.{Booked}
use Rattle.asp_watermark.specs.Floors.{listed}
use Rattle.asp_backlog.specs.Backlogs.{Pending}
use Rattle.asp_ledger.specs.Ledgers.{listing}
use Rattle.asp_stream.specs.Streams.{IsStream, leaves_of}
use Rattle.asp_stream.specs.declared.part.Part.{Part}
use Rattle.asp_stream.proofs.StreamLaws.{stream-started}
use Rattle.asp_stream.proofs.stream.Stream.start.Goals as goal

pub returns : goal.returns
returns c =
    let p = c.args.compiled.now in
    let all = listed (listing p c.args.goal.now c.args.budget) in
    let x : Part = record { leaf = 0; low = c.in_ok-low.low; own = 0; factor = 1 } in
    let parts : c.push.new.self.items ≡ x ∷ [] = c.in_ok-push.ensures.items ∙ ap (λ (l : List Part). l ++ x ∷ []) c.new-parts.ensures.items in
    let waiting : c.in_ok-backlog.backlog ≡ record { atoms = atoms_of p; floor = []; sets = [] } =
    c.in_ok-backlog.ensures ∙ ap (λ (A : Atoms). let q : Pending = record { atoms = A; floor = []; sets = [] } in q) c.atoms.ensures in
    record {
      compiled = refl;
      ledger = c.in_ok-ledger.ensures;
      stream =
          subst (λ (l : List Part). IsStream p c.in_ok-ledger.ledger 0 all [] c.in_ok-backlog.backlog l (leaves_of l)) (sym parts)
          (subst (λ (q : Pending). IsStream p c.in_ok-ledger.ledger 0 all [] q (x ∷ []) (leaves_of (x ∷ []))) (sym waiting)
          (subst (λ (v : Booked). IsStream p v 0 all [] (record { atoms = atoms_of p; floor = []; sets = [] }) (x ∷ []) (leaves_of (x ∷ []))) (sym c.in_ok-ledger.ensures)
          (stream-started p c.args.goal.now c.args.budget x refl c.in_ok-low.ensures.set c.in_ok-low.ensures.row)));
    }
