use Rattle.std.proofs.Common.{sym, ◌∙◌, refl}
use Rattle.session_core.proofs.LastEntries.{last_split, no_last_item}
use Rattle.session_core.proofs.StepLengths.{last_length, no_length}
use Rattle.session_core.proofs.lengths.length_so_far.Goals as goal

pub returns-in-Some : goal.returns-in-Some
returns-in-Some c = λ sig steps e.
    let s = last_split c.args.lengths.now _ c.in-Some.length.now refl (sym c.in-Some.ensures.value) in
    last_length sig steps s.0 c.in-Some.length.now (sym e ∙ s.1)

pub returns-in-None : goal.returns-in-None
returns-in-None c = λ sig steps e.
    let s = no_last_item c.args.lengths.now _ refl (sym c.in-None.ensures.value) in
    sym (no_length sig steps (sym e ∙ s))
