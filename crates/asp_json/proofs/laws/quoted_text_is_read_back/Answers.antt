use Rattle.asp_json.proofs.QuotingLaws.{quoted-back}
use Rattle.asp_json.proofs.laws.quoted_text_is_read_back.Goals as goal

pub returns : goal.returns
returns c = quoted-back
