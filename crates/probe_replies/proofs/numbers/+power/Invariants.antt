use Rattle.probe_replies.proofs.numbers.+power.Given as goal

abbrev pub decreases-power : goal.decreases-power
decreases-power g l = l.k
