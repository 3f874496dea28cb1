use Rattle.asp_source.proofs.FoundLaws.{founds_same}
use Rattle.asp_source.proofs.founding.found_heads.Goals as goal

pub returns-then-not-is_founding : goal.returns-then-not-is_founding
returns-then-not-is_founding c = founds_same c.args.compiled.now c.args.values.now c.args.sources.now c.args.ranks.now c.args.loose.now c.args.waiting.now
