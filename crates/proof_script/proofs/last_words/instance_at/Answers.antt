use Rattle.std.proofs.Common.{◌∷◌, [], refl}
use Rattle.proof_script.specs.Words.{place, side, terms}
use Rattle.proof_script.proofs.SameTerms.{names_differ}
use Rattle.proof_script.proofs.LineParts.{joined, none_front, none_behind}
use Rattle.proof_script.proofs.last_words.instance_at.Goals as goal

pub returns-in_default : goal.returns-in_default
returns-in_default c = λ ts p s. none_front c.args.sig.now c.args.words.now (terms ts) (place p ∷ side s ∷ [])
    ((rw c.in_default.is at c.in_ok-terms.ensures) ts)

pub returns-in_default-2 : goal.returns-in_default-2
returns-in_default-2 c =
    let sig = c.args.sig.now in
    let w = c.in-Some in
    λ ts p s. none_behind sig (names_differ sig c.requires) c.args.words.now (terms w.terms) w.behind.now (terms ts)
    (place p ∷ side s ∷ []) refl tt tt (rw w.is at c.in_ok-terms.ensures)
    (none_front sig w.behind.now (place p) (side s ∷ []) ((rw c.in_default-2.is at c.in_ok-place.ensures) sig p))

pub returns-in-Some-only_side : goal.returns-in-Some-only_side
returns-in-Some-only_side c =
    let sig = c.args.sig.now in
    let w = c.in-Some in
    let v = c.in-Some-2 in
    joined sig c.args.words.now (terms w.terms) w.behind.now (place v.place ∷ side c.in-Some-only_side.left ∷ [])
    (rw w.is at c.in_ok-terms.ensures)
    (joined sig w.behind.now (place v.place) v.rest.now (side c.in-Some-only_side.left ∷ [])
    ((rw v.is at c.in_ok-place.ensures) sig) (c.in-Some-only_side.ensures sig))

pub returns-in-None : goal.returns-in-None
returns-in-None c =
    let sig = c.args.sig.now in
    let d = names_differ sig c.requires in
    let w = c.in-Some in
    let v = c.in-Some-2 in
    λ ts p s. none_behind sig d c.args.words.now (terms w.terms) w.behind.now (terms ts) (place p ∷ side s ∷ [])
    refl tt tt (rw w.is at c.in_ok-terms.ensures)
    (none_behind sig d w.behind.now (place v.place) v.rest.now (place p) (side s ∷ []) refl tt tt
    ((rw v.is at c.in_ok-place.ensures) sig) (c.in-None.ensures sig c.requires s))
