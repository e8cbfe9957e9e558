use Rattle.truncated_sums.proofs.running.+power.Given as goal

abbrev pub decreases-power : goal.decreases-power
decreases-power g l = l.k
