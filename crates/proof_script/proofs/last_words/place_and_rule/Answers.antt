use Rattle.std.proofs.Common.{◌∷◌, [], refl}
use Rattle.proof_script.specs.Words.{number, place}
use Rattle.proof_script.proofs.SameTerms.{names_differ}
use Rattle.proof_script.proofs.WordReads.{words_text}
use Rattle.proof_script.proofs.LineParts.{front, behind, joined, no_more, empty_is, not_empty}
use Rattle.proof_script.proofs.last_words.place_and_rule.Goals as goal

pub returns-in_default : goal.returns-in_default
returns-in_default c =
    let words = c.args.words.now in
    λ sig q p r l.
    let d = names_differ sig q in
    (rw c.in_default.is at c.in_ok-place.ensures) sig p (words_text sig ((number r) ∷ []))
    (front sig words (place p) ((number r) ∷ []) l)

pub returns-in_default-next_number : goal.returns-in_default-next_number
returns-in_default-next_number c =
    let words = c.args.words.now in
    λ sig q p r l.
    let d = names_differ sig q in
    let b1 = behind sig d words (place c.in-Some.place) c.in-Some.others.now (place p) ((number r) ∷ []) refl tt
    tt ((rw c.in-Some.is at c.in_ok-place.ensures) sig) l in
    c.in_default-next_number.ensures sig r (words_text sig ([])) (front sig c.in-Some.others.now (number r) ([]) b1.1)

pub returns-then-is_empty : goal.returns-then-is_empty
returns-then-is_empty c =
    let words = c.args.words.now in
    λ sig. joined sig words (place c.in-Some.place) c.in-Some.others.now
    ((number c.in-Some-next_number.rule) ∷ []) ((rw c.in-Some.is at c.in_ok-place.ensures) sig)
    (joined sig c.in-Some.others.now (number c.in-Some-next_number.rule) c.in-Some-next_number.rest.now ([])
    (c.in-Some-next_number.ensures sig)
    (no_more sig c.in-Some-next_number.rest.now (empty_is c.in-Some-next_number.rest.now c.if-is_empty.ensures)))

pub returns-else-is_empty : goal.returns-else-is_empty
returns-else-is_empty c =
    let words = c.args.words.now in
    λ sig q p r l.
    let d = names_differ sig q in
    let b1 = behind sig d words (place c.in-Some.place) c.in-Some.others.now (place p) ((number r) ∷ []) refl tt
    tt ((rw c.in-Some.is at c.in_ok-place.ensures) sig) l in
    let b2 = behind sig d c.in-Some.others.now (number c.in-Some-next_number.rule)
    c.in-Some-next_number.rest.now (number r) ([]) refl tt tt (c.in-Some-next_number.ensures sig) b1.1 in
    not_empty c.in-Some-next_number.rest.now c.is_empty.result c.is_empty.ensures c.if-is_empty.false b2.1.is
