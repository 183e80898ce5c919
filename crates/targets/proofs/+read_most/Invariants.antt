use Rattle.targets.proofs.+read_most.Given as goal

abbrev pub decreases-read_most : goal.decreases-read_most
decreases-read_most l = l.most
