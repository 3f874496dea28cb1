use Rattle.std.proofs.Common.{◌++◌, ◌∷◌, List, Option, refl, subst, sym}
use Rattle.std.specs.Prelude.{reverse, IfSome, OnOk}
use Rattle.asp_model.specs.declared.program.Program.{Program}
use Rattle.asp_split.specs.Dividing.{IsLeaf, part}
use Rattle.asp_parts.specs.declared.part.Found.{Found}
use Rattle.asp_parts.specs.declared.part.Part.{Part}
use Rattle.asp_parts.specs.Parts.{HasSame, IsListed, IsPlaced}
use Rattle.asp_parts.specs.Rounds.{IsBench}
use Rattle.asp_parts.proofs.PartLaws.{on-ok, taken-found, taken-now, taken-part, taken-pieces}
use Rattle.asp_parts.proofs.RoundLaws.{own-bench}
use Rattle.asp_parts.proofs.worker.take_one.Goals as goal

pub returns-then-is_some-clause-same : goal.returns-then-is_some-clause-same
returns-then-is_some-clause-same c =
    taken-found c.args.bench.now.compiled.now c.args.waiting.now.items c.args.done.now.items c.push.new.self.items c.args.whole c.requires.row c.in_ok-push.ensures.items

pub put_back-requires-clause-leaf : goal.put_back-requires-clause-leaf
put_back-requires-clause-leaf c = (taken-part c.args.bench.now.compiled.now c.args.waiting.now.items (reverse c.args.done.now.items) c.args.whole c.requires.row).leaf

pub returns-then-is_wide-clause-same : goal.returns-then-is_wide-clause-same
returns-then-is_wide-clause-same c =
    let p : Program = c.args.bench.now.compiled.now in
    let rest : List Part = reverse c.args.done.now.items in
    on-ok c.put_back.result (IsPlaced p c.args.waiting.now.items c.put_back.new.waiting.items (part p c.args.whole.leaf.cube))
    (HasSame p (c.args.waiting.now.items ++ c.args.whole ∷ rest) (c.put_back.new.waiting.items ++ rest))
    (taken-pieces p c.args.waiting.now.items rest c.put_back.new.waiting.items c.args.whole c.requires.row) c.put_back.ensures.placed

pub put_back-requires-in-None-clause-bench : goal.put_back-requires-in-None-clause-bench
put_back-requires-in-None-clause-bench c = own-bench c.args.bench.now.compiled.now c.ask.new.bench c.ask.ensures.kept

pub put_back-requires-in-None-clause-leaf : goal.put_back-requires-in-None-clause-leaf
put_back-requires-in-None-clause-leaf c =
    subst (λ (q : Program). IsLeaf q c.args.whole.leaf) (sym c.ask.ensures.kept.program)
    (taken-part c.args.bench.now.compiled.now c.args.waiting.now.items (reverse c.args.done.now.items) c.args.whole c.requires.row).leaf

pub returns-in-None-clause-kept : goal.returns-in-None-clause-kept
returns-in-None-clause-kept c = subst (λ (q : Program). IsBench q c.put_back-in-None.new.bench) c.ask.ensures.kept.program c.put_back-in-None.ensures.kept

pub returns-in-None-clause-same : goal.returns-in-None-clause-same
returns-in-None-clause-same c =
    let p : Program = c.args.bench.now.compiled.now in
    let rest : List Part = reverse c.args.done.now.items in
    let new : List Part = c.put_back-in-None.new.waiting.items in
    on-ok c.put_back-in-None.result (IsPlaced p c.args.waiting.now.items new (part p c.args.whole.leaf.cube))
    (HasSame p (c.args.waiting.now.items ++ c.args.whole ∷ rest) (new ++ rest))
    (taken-pieces p c.args.waiting.now.items rest new c.args.whole c.requires.row)
    (subst (λ (q : Program). OnOk c.put_back-in-None.result (IsPlaced q c.args.waiting.now.items new (part q c.args.whole.leaf.cube))) c.ask.ensures.kept.program c.put_back-in-None.ensures.placed)

pub returns-in_ok-push-in-Some-clause-same : goal.returns-in_ok-push-in-Some-clause-same
returns-in_ok-push-in-Some-clause-same c =
    let p : Program = c.args.bench.now.compiled.now in
    taken-now p c.args.waiting.now.items c.args.done.now.items c.push-in-Some.new.self.items c.args.whole _ c.in-Some.found c.requires.row refl refl
    (subst (λ (o : Option Found). IfSome o (IsListed p (part p c.args.whole.leaf.cube))) c.in-Some.is c.in_ok-ask.ensures.found) c.in_ok-push-in-Some.ensures.items
