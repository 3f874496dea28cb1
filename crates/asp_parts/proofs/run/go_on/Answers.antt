use Rattle.std.proofs.Common.{refl, sym}
use Rattle.asp_parts.proofs.CourseLaws.{front-of, rest-are, ripe-are, ripe-front, telling-front}
use Rattle.asp_parts.proofs.RunLaws.{and-second, run-on}
use Rattle.asp_parts.proofs.run.go_on.Goals as goal

pub returns-in_err-ripe-clause-front : goal.returns-in_err-ripe-clause-front
returns-in_err-ripe-clause-front g c =
    front-of c.args.compiled.now (g.R.Reader.program c.args.reader.now) (g.R.Reader.all c.args.reader.now) (g.R.Reader.all c.args.reader.now) (g.R.Reader.heard c.args.reader.now)
    c.requires.program refl c.requires.all (telling-front c.args.compiled.now _ c.args.run.now.parts.items c.requires.run.telling)

pub returns-in_err-ripe-clause-after : goal.returns-in_err-ripe-clause-after
returns-in_err-ripe-clause-after g c = g.met.R.Reader.begins c.args.reader.now

pub returns-in_err-ripe-clause-heard : goal.returns-in_err-ripe-clause-heard
returns-in_err-ripe-clause-heard g c = g.met.W.Watch.begins c.args.watch.now

pub search_and_tell-searched-requires-clause-parts : goal.search_and_tell-searched-requires-clause-parts
search_and_tell-searched-requires-clause-parts g c κs within = rest-are c.args.compiled.now _ _ c.in_ok-ripe.ripe.items _ c.in_ok-ripe.ensures.row c.requires.run.telling

pub search_and_tell-searched-requires-clause-ripe : goal.search_and_tell-searched-requires-clause-ripe
search_and_tell-searched-requires-clause-ripe g c κs within = ripe-are c.args.compiled.now _ c.ripen.new.parts.items c.in_ok-ripe.ripe.items _ c.in_ok-ripe.ensures.row c.requires.run.telling

pub search_and_tell-searched-requires-clause-front : goal.search_and_tell-searched-requires-clause-front
search_and_tell-searched-requires-clause-front g c κs within =
    ripe-front c.args.compiled.now _ c.ripen.new.parts.items c.in_ok-ripe.ripe.items _ c.in_ok-ripe.ensures.row c.requires.run.telling

pub returns-clause-run : goal.returns-clause-run
returns-clause-run g c =
    let p = c.args.compiled.now in
    let heard = g.R.Reader.heard c.args.reader.now in
    let more = g.R.Reader.heard c.search_and_tell-searched.new.reader in
    let searched = c.search_and_tell-searched.result.0 in
    let told = c.search_and_tell-searched.result.1 in
    run-on p heard more c.ripen.new.parts.items c.in_ok-ripe.ripe.items c.args.run.now.parts.items c.search_and_tell-searched.new.parts.items c.search_and_tell-searched.new.ripe.items _
    c.in_ok-ripe.ensures.row c.requires.run.telling c.in_ok-put.ensures.items c.search_and_tell-searched.ensures.workers searched told c.and.result c.and.ensures
    c.search_and_tell-searched.ensures.same c.search_and_tell-searched.ensures.told c.search_and_tell-searched.ensures.course

pub returns-clause-unwanted : goal.returns-clause-unwanted
returns-clause-unwanted g c =
    rw (sym c.and.ensures) at (and-second c.search_and_tell-searched.result.0 c.search_and_tell-searched.result.1 _ c.search_and_tell-searched.ensures.unwanted)
