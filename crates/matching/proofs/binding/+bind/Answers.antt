-- A first pattern is matched before the rest.
use Rattle.std.proofs.Common.{rules, ◌≡◌, ◌∷◌}
use Rattle.matching.proofs.Extending.{binds_rest}
use Rattle.matching.proofs.binding.+bind.Goals as goal

pub bind_all-returns-else-not-branch : goal.bind_all-returns-else-not-branch
bind_all-returns-else-not-branch t c =
    let p = c.in-Some-Some.pattern.now in
    let ps = c.in-Some-Some.patterns.now in
    let e : c.args.patterns.now ≡ p ∷ ps = search rules in
    let v = c.in-Some-Some.term.now in
    let vs = c.in-Some-Some.terms.now in
    let k : c.args.terms.now ≡ v ∷ vs = search rules in
    binds_rest c.args.bindings.now c.bind.new.bindings c.bind_all.new.bindings
    c.args.patterns.now c.args.terms.now p v ps vs c.in_ok-bind-in-Some-Some.field-0
    c.bind_all.result e k c.if-not-branch.false c.in_ok-bind-in-Some-Some.ensures
    c.bind_all.ensures
