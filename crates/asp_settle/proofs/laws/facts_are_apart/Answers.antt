use Rattle.asp_settle.proofs.SettledLaws.{facts-apart, facts-ascend, facts-stand, sound-left}
use Rattle.asp_settle.proofs.laws.facts_are_apart.Goals as goal

pub returns : goal.returns
returns c = record { ascending = facts-ascend; standing = facts-stand; apart = facts-apart; sound = sound-left }
