use Rattle.std.proofs.Common.{refl}
use Rattle.open_evaluation.proofs.OutOfConstants.{gives_out}
use Rattle.open_evaluation.proofs.laws.constants_give_openly.Goals as goal

pub returns : goal.returns
returns c old new sorts t w n fine ext below gives = gives_out old new sorts fine ext gives t below refl
