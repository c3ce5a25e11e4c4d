use Rattle.payfile.proofs.heading.FileHeading.+push.Given as goal

abbrev pub decreases-push : goal.decreases-push
decreases-push l = l.n
