use Rattle.std.proofs.Common.{◌≡◌, ℕ, sym, ◌∙◌, ap, arith, get_or}
use Rattle.asp_trail.proofs.EntryLaws.{same_default}
use Rattle.asp_trail.proofs.TrailLaws.{found_at}
use Rattle.asp_trail.specs.declared.trail.Entry.{Entry}
use Rattle.asp_trail.specs.Trails.{Trailed}
use Rattle.asp_trail.specs.Entries.{reason_or_none, entry_of}
use Rattle.asp_trail.proofs.trail.Trail.reason_of.Goals as goal

pub index-requires : goal.index-requires
index-requires c =
    let has = rw (← c.self.view_is) at c.requires.has in
    let small = rw (← c.self.view_is) at c.requires.small in
    let f = found_at c.self.inside.vars c.self.inside.entries.items c.self.inside.values c.self.inside.places.items c.self.inside.levels.items c.self.inside.seen c.args.var c.self.invariant has in
    omega (arith, f.0, c.self.inside.entries.ok.0, c.index-place.ensures, same_default c.self.inside.places.items c.args.var c.index-place.result.now 0 (omega (arith, small, c.self.invariant.placed)))

pub returns : goal.returns
returns c =
    let has = rw (← c.self.view_is) at c.requires.has in
    let small = rw (← c.self.view_is) at c.requires.small in
    let f = found_at c.self.inside.vars c.self.inside.entries.items c.self.inside.values c.self.inside.places.items c.self.inside.levels.items c.self.inside.seen c.args.var c.self.invariant has in
    let at : c.index-place.result.now ≡ get_or c.self.inside.places.items c.args.var 0 =
    c.index-place.ensures ∙ same_default c.self.inside.places.items c.args.var c.index-place.result.now 0 (omega (arith, small, c.self.invariant.placed)) in
    ap (λ (e : Entry). e.reason) (c.index.ensures ∙ ap (λ (k : ℕ). get_or c.self.inside.entries.items k c.index.result.now) at)
    ∙ (sym (ap reason_or_none (f.1 c.index.result.now)) ∙ ap (λ (t : Trailed). reason_or_none (entry_of t.entries c.args.var)) c.self.view_is)
