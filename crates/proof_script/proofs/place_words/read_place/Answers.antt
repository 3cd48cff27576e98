use Rattle.proof_script.proofs.PlacesAt.{no_equation, no_side, no_way}
use Rattle.proof_script.proofs.place_words.read_place.Goals as goal

pub returns-in_default : goal.returns-in_default
returns-in_default c = no_equation c.args.word.now c.split_dot.result.0.now c.split_dot.result.1.now
    c.split_dot.ensures c.in_default.ensures

pub returns-in_default-after_side : goal.returns-in_default-after_side
returns-in_default-after_side c = no_side c.args.word.now c.split_dot.result.0.now c.split_dot.result.1.now
    c.split_dot.ensures c.in_default-after_side.ensures

pub returns-in_default-2 : goal.returns-in_default-2
returns-in_default-2 c =
    let s = c.in-Some-after_side in
    no_way c.args.word.now c.split_dot.result.0.now c.split_dot.result.1.now s.left s.text.now
    c.split_dot.ensures s.ensures (rw c.in_default-2.is at c.in_ok-path.ensures)
