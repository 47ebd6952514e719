-- `listing_cases::skip` ends: fewer bytes are left after each turn.
-- Assumes nothing.
use Rattle.listing_cases.proofs.skip.Given as goal

abbrev pub decreases-loop-left : goal.decreases-loop-left
decreases-loop-left g l = l.left
