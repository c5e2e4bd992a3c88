use Rattle.scopes.proofs.Scopes.+climb.Given as goal

abbrev pub decreases-climb : goal.decreases-climb
decreases-climb l = l.left
