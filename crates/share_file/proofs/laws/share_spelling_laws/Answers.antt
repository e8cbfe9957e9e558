use Rattle.share_file.proofs.Shares.{one_share}
use Rattle.share_file.proofs.laws.share_spelling_laws.Goals as goal

pub returns : goal.returns
returns c = record { one = one_share }
