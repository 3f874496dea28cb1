use Rattle.std.proofs.Common.{List, Some, sym, ap, ◌∙◌, subst}
use Rattle.asp_model.specs.Sets.{Atoms, IsAscending}
use Rattle.asp_rows.specs.declared.row.Row.{Row}
use Rattle.asp_rows.specs.Bits.{IsAmong, encode}
use Rattle.asp_rows.specs.Listed.{AreRows, IsRowOf}
use Rattle.asp_rows.proofs.RowLaws.{row-of}
use Rattle.asp_core.specs.Sorting.{with_set}
use Rattle.asp_core.proofs.CountLaws.{insert-rows, insert-sets}
use Rattle.asp_watermark.specs.Floors.{is_below}
use Rattle.asp_backlog.specs.Backlogs.{Pending, sets_of}
use Rattle.asp_backlog.proofs.BacklogLaws.{waits-more}
use Rattle.asp_backlog.proofs.backlog.Backlog.add.Goals as goal

pub invariant_of-self-2 : goal.invariant_of-self-2
invariant_of-self-2 c =
    let atoms : Atoms = c.self.inside.atoms in
    let among : IsAmong atoms c.args.set.now = subst (λ (a : Atoms). IsAmong a c.args.set.now) (sym (ap (λ (w : Pending). w.atoms) c.self.view_is)) c.requires in
    let row : IsRowOf atoms c.in_ok-row.row = row-of atoms c.args.set.now c.in_ok-row.row
    (record { words = c.in_ok-row.ensures.words ∙ ap (λ (a : Atoms). encode a c.args.set.now) c.as_slice.ensures.value; set = c.in_ok-row.ensures.set }) among in
    record {
      rows = subst (AreRows atoms) (sym c.in_ok-insert.ensures.keys) (insert-rows atoms c.self.inside.rows.keys c.in_ok-row.row c.self.invariant.rows row);
      floor = c.self.invariant.floor;
    }

pub returns-clause-ok : goal.returns-clause-ok
returns-clause-ok c =
    let atoms : Atoms = c.self.inside.atoms in
    let keys : List Row = c.self.inside.rows.keys in
    let among : IsAmong atoms c.args.set.now = subst (λ (a : Atoms). IsAmong a c.args.set.now) (sym (ap (λ (w : Pending). w.atoms) c.self.view_is)) c.requires in
    let row : IsRowOf atoms c.in_ok-row.row = row-of atoms c.args.set.now c.in_ok-row.row
    (record { words = c.in_ok-row.ensures.words ∙ ap (λ (a : Atoms). encode a c.args.set.now) c.as_slice.ensures.value; set = c.in_ok-row.ensures.set }) among in
    waits-more c.args.self.now (record { atoms = atoms; floor = c.self.inside.floor.set; sets = sets_of keys }) c.args.set.now (sets_of c.insert.new.self.keys) c.self.view_is
    (ap (is_below (Some c.self.inside.floor.set)) (sym c.in_ok-row.ensures.set) ∙ sym c.is_before.ensures ∙ c.if-is_before.false)
    (ap sets_of c.in_ok-insert.ensures.keys ∙ insert-sets atoms (subst IsAscending c.as_slice.ensures.value c.as_slice.ensures.ascending) keys c.in_ok-row.row c.self.invariant.rows row
    ∙ ap (λ (S : Atoms). with_set S (sets_of keys)) c.in_ok-row.ensures.set)
