use Rattle.std.proofs.Common.{◌∷◌, [], refl, false}
use Rattle.proof_script.specs.Words.{equation, place, side}
use Rattle.proof_script.proofs.SameTerms.{names_differ}
use Rattle.proof_script.proofs.LineParts.{joined, none_front, none_behind}
use Rattle.proof_script.proofs.StepsByName.{no_context}
use Rattle.proof_script.proofs.place_steps.context.Goals as goal

pub returns-in_default : goal.returns-in_default
returns-in_default c =
    let words = c.args.words.now in
    λ sig q step h. no_context sig words (λ p n s. none_front sig words (place p)
    (equation false n ∷ side s ∷ []) ((rw c.in_default.is at c.in_ok-place.ensures) sig p)) step h

pub returns-in_default-next_premise : goal.returns-in_default-next_premise
returns-in_default-next_premise c =
    let words = c.args.words.now in
    let w = c.in-Some in
    λ sig q step h. no_context sig words (λ p n s. none_behind sig (names_differ sig q) words (place w.place)
    w.behind.now (place p) (equation false n ∷ side s ∷ []) refl tt tt ((rw w.is at c.in_ok-place.ensures) sig)
    (none_front sig w.behind.now (equation false n) (side s ∷ []) (c.in_default-next_premise.ensures sig n)))
    step h

pub returns-in-Some-only_side : goal.returns-in-Some-only_side
returns-in-Some-only_side c =
    let words = c.args.words.now in
    let w = c.in-Some in
    let v = c.in-Some-next_premise in
    let left = c.in-Some-only_side.left in
    λ sig. record {
      named = refl;
      stand = joined sig words (place w.place) w.behind.now (equation false v.number ∷ side left ∷ [])
          ((rw w.is at c.in_ok-place.ensures) sig)
          (joined sig w.behind.now (equation false v.number) v.others.now (side left ∷ []) (v.ensures sig)
          (c.in-Some-only_side.ensures sig));
    }

pub returns-in-None : goal.returns-in-None
returns-in-None c =
    let words = c.args.words.now in
    let w = c.in-Some in
    let v = c.in-Some-next_premise in
    λ sig q step h. no_context sig words (λ p n s.
    let d = names_differ sig q in
    none_behind sig d words (place w.place) w.behind.now (place p) (equation false n ∷ side s ∷ []) refl tt tt
    ((rw w.is at c.in_ok-place.ensures) sig)
    (none_behind sig d w.behind.now (equation false v.number) v.others.now (equation false n) (side s ∷ []) refl
    tt tt (v.ensures sig) (c.in-None.ensures sig q s))) step h
