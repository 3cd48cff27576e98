use Rattle.open_evaluation.proofs.WithConstants.{gives_with}
use Rattle.open_evaluation.proofs.laws.open_gives_with_constants.Goals as goal

pub returns : goal.returns
returns c old new sorts t v n fine ext below gives = gives_with old new sorts fine ext gives below
