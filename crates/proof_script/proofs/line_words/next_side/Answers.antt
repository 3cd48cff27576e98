use Rattle.std.proofs.Common.{◌≡◌, Bool, true, false, sym, ◌∙◌}
use Rattle.proof_script.specs.Words.{side, side_text}
use Rattle.proof_script.proofs.NextWords.{same_plain, no_match}
use Rattle.proof_script.proofs.line_words.next_side.Goals as goal

pub returns-else-eq-2 : goal.returns-else-eq-2
returns-else-eq-2 c =
    let w = c.in_ok-word in
    λ sig left rest h. by left (same_plain sig c.args.bytes.now w.word.now w.rest.now (side left) rest w.ensures tt h)
  where
    by : (b : Bool) → c.in_ok-word.word.now ≡ side_text b → ⊥
    by true e = no_match c.in_ok-word.word.now c.as_slice.result.now c.if-eq.ensures (e ∙ sym c.as_slice.ensures)
    by false e = no_match c.in_ok-word.word.now c.as_slice-else-eq.result.now c.if-eq-2.ensures
        (e ∙ sym c.as_slice-else-eq.ensures)
