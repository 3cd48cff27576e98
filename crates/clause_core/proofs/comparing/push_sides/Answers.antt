use Rattle.std.proofs.Common.{◌≡◌, ◌++◌, ◌∷◌, [], List, take, ap, sym, ◌∙◌, append_assoc}
use Rattle.term_core.specs.Tree.{Tree}
use Rattle.term_core.specs.References.{terms_of}
use Rattle.clause_core.specs.Clauses.{sides_of}
use Rattle.clause_core.proofs.Sides.{sides_next}
use Rattle.clause_core.proofs.TermReferences.{terms_more}
use Rattle.clause_core.proofs.comparing.push_sides.Goals as goal

pub loop-equation-preserved : goal.loop-equation-preserved
loop-equation-preserved c =
    let e = c.equation-item.result in
    let start : List Tree = terms_of c.args.made.now.items in
    let before : List Tree = sides_of (take c.loop-equation.equation-index c.args.equations.now) in
    let made : List Tree = terms_of c.loop-equation.made.items in
    let one : terms_of c.push.new.self.items ≡ made ++ e.left ∷ [] = terms_more c.loop-equation.made.items
    c.push.new.self.items _ c.in_ok-push.ensures.items in
    let two : terms_of c.push-in-loop-equation.new.self.items ≡ terms_of c.push.new.self.items
    ++ e.right ∷ [] = terms_more c.push.new.self.items c.push-in-loop-equation.new.self.items _
    c.in_ok-push-2.ensures.items in
    two
    ∙ ap (λ (ts : List Tree). ts ++ e.right ∷ [])
    (one ∙ ap (λ (ts : List Tree). ts ++ e.left ∷ []) c.loop-equation.invariant)
    ∙ append_assoc (start ++ before) (e.left ∷ []) (e.right ∷ [])
    ∙ append_assoc start before (e.left ∷ e.right ∷ [])
    ∙ ap (λ (ts : List Tree). start ++ ts)
    (sym (sides_next c.args.equations.now c.loop-equation.equation-index e c.loop-equation-test.true
    c.equation-item.is))
