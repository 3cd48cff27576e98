use Rattle.proof_script.specs.Words.{place, place_text}
use Rattle.proof_script.proofs.NextWords.{as_plain, same_plain, found_plain}
use Rattle.proof_script.proofs.place_words.next_place.Goals as goal

pub returns-in_default : goal.returns-in_default
returns-in_default c = λ sig p rest h. c.in_default.ensures (place_text p) rest
    (as_plain sig c.args.bytes.now (place p) rest tt h)

pub returns-in_default-2 : goal.returns-in_default-2
returns-in_default-2 c =
    let w = c.in-Some in
    λ sig p rest h. (rw c.in_default-2.is at c.in_ok-place.ensures) p
    (record {
      stands = h.stands;
      is = same_plain sig c.args.bytes.now w.word.now w.rest.now (place p) rest
          w.ensures tt h;
    })

pub returns : goal.returns
returns c =
    let w = c.in-Some in
    let got = rw c.in-Some-2.is at c.in_ok-place.ensures in
    λ sig. found_plain sig c.args.bytes.now w.word.now w.rest.now (place c.in-Some-2.place) w.ensures got.stands got.is
