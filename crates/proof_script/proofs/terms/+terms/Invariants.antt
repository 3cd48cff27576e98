use Rattle.std.proofs.Common.{◌+◌, ◌*◌, length}
use Rattle.proof_script.proofs.terms.+terms.Given as goal

-- each call reads fewer bytes than the one before it, or as many one level further down
abbrev pub decreases-read_term : goal.decreases-read_term
decreases-read_term l = 3 * length l.at.bytes.now + 1

abbrev pub decreases-read_arguments : goal.decreases-read_arguments
decreases-read_arguments l = 3 * length l.at.bytes.now

abbrev pub decreases-read_others : goal.decreases-read_others
decreases-read_others l = 3 * length l.at.bytes.now
