use Rattle.std.proofs.Common.{◌≡◌, ◌+◌, [], ◌∷◌, ◌++◌, refl, ap, sym, ◌∙◌, subst, arith, ℕ}
use Rattle.std.specs.Global.{Vec}
use Rattle.rule_code.specs.declared.splitting.Wanted.TheVariants.{One, Outside}
use Rattle.rule_code.specs.Growing.{AreThose}
use Rattle.rule_code.proofs.Parts.{IsSplitting, splitting_starts, splitting_case, splitting_rest, splitting_ends}
use Rattle.rule_code.proofs.splitting.split_rules.Goals as goal

pub loop-sym-init : goal.loop-sym-init
loop-sym-init c =
    let low = c.span-low.result.0 in
    let end = c.span-low.result.1 in
    let shown : c.push.new.self.items ≡ c.leaf.result ∷ [] = c.in_ok-push.ensures.items
    ∙ ap (λ xs. xs ++ c.leaf.result ∷ []) c.new-nodes.ensures.items in
    let those = subst (λ (v : Vec ℕ). AreThose c.args.rules.now c.args.numbers.now c.args.path (Outside low end)
    v.items) (sym c.leaf.ensures.rules) c.in_ok-others.ensures in
    subst (λ ns. IsSplitting c.args.rules.now c.args.first c.args.numbers.now c.args.path low end low
    c.new-cases.result.items ns) (sym shown)
    (subst (λ cs. IsSplitting c.args.rules.now c.args.first c.args.numbers.now c.args.path low end low cs
    (c.leaf.result ∷ [])) (sym c.new-cases.ensures.items)
    (splitting_starts c.args.rules.now c.args.first c.args.numbers.now c.args.path low end c.leaf.result
    c.leaf.ensures.split those))

pub loop-sym-preserved-then-not-stands : goal.loop-sym-preserved-then-not-stands
loop-sym-preserved-then-not-stands c =
    let low = c.span-low.result.0 in
    let end = c.span-low.result.1 in
    subst (λ cs. IsSplitting c.args.rules.now c.args.first c.args.numbers.now c.args.path low end
    (c.loop-sym.sym + 1) cs c.loop-sym.nodes.items) (sym c.in_ok-push-2.ensures.items)
    (splitting_rest c.args.rules.now c.args.first c.args.numbers.now c.args.path low end c.loop-sym.sym
    c.loop-sym.cases.items c.loop-sym.nodes.items c.loop-sym.invariant (c.if-not-stands.ensures refl))

pub loop-sym-preserved : goal.loop-sym-preserved
loop-sym-preserved c =
    let low = c.span-low.result.0 in
    let end = c.span-low.result.1 in
    let one = c.leaf-in-loop-sym.result in
    let those = subst (λ (v : Vec ℕ). AreThose c.args.rules.now c.args.numbers.now c.args.path
    (One c.loop-sym.sym) v.items) (sym c.leaf-in-loop-sym.ensures.rules) c.in_ok-some.ensures in
    subst (λ ns. IsSplitting c.args.rules.now c.args.first c.args.numbers.now c.args.path low end
    (c.loop-sym.sym + 1) c.push-in-loop-sym.new.self.items ns) (sym c.in_ok-push-4.ensures.items)
    (subst (λ cs. IsSplitting c.args.rules.now c.args.first c.args.numbers.now c.args.path low end
    (c.loop-sym.sym + 1) cs (c.loop-sym.nodes.items ++ one ∷ [])) (sym c.in_ok-push-3.ensures.items)
    (splitting_case c.args.rules.now c.args.first c.args.numbers.now c.args.path low end c.loop-sym.sym
    c.loop-sym.cases.items c.loop-sym.nodes.items c.loop-sym.invariant one (c.args.first + c.len.result)
    c.leaf-in-loop-sym.ensures.split those (omega (arith, c.len.ensures, c.loop-sym.nodes.ok))))

pub returns : goal.returns
returns c =
    let low = c.span-low.result.0 in
    let end = c.span-low.result.1 in
    splitting_ends c.args.rules.now c.args.first c.args.numbers.now c.args.path low end c.loop-sym.sym
    c.loop-sym.cases.items c.loop-sym.nodes.items c.loop-sym.invariant
    (record { path = c.args.path; low = low; cases = c.loop-sym.cases; other = c.args.first })
    (omega (arith, c.loop-sym-test.false)) refl refl refl refl
