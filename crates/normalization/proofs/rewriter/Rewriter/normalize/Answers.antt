use Rattle.std.proofs.Common.{◌≡◌, ℕ, suc, ◌≤◌, List, [], ◌∷◌, ◌++◌, map, length, Some, None, refl, ap, sym, ◌∙◌}
use Rattle.std.proofs.Common.{subst, arith}
use Rattle.term_core.specs.Tree.{Tree}
use Rattle.spec_core.specs.declared.records.Spec.{Spec}
use Rattle.substitutions.proofs.Instances.{apply_nothing}
use Rattle.normalization.specs.NormalForms.{IsNormal, Runs}
use Rattle.normalization.specs.Walks.{below, Normalized, Exceeds, IsWalk}
use Rattle.normalization.proofs.rewriter.Rewriter.normalize.Goals as goal

below_root : (ws : List (List ℕ × ℕ)) → map (below []) ws ≡ ws
below_root [] = refl
below_root (w ∷ ws) = ap (λ xs. w ∷ xs) (below_root ws)

done : (spec : Spec) (place : List ℕ) (budget : ℕ) (t v : Tree) (old new : List (List ℕ × ℕ)) → place ≡ [] →
    old ≡ [] → Normalized spec place budget t old new v → Runs spec t new v × IsNormal spec v × (length new ≤ budget)
done spec place budget t v old new p o w =
    let e : new ≡ w.uses = w.added ∙ ap (λ xs. xs ++ map (below place) w.uses) o
    ∙ ap (λ q. map (below q) w.uses) p ∙ below_root w.uses in
    (subst (λ xs. Runs spec t xs v) (sym e) w.runs, w.normal, w.within)

spent : (spec : Spec) (budget : ℕ) (t : Tree) (old : List (List ℕ × ℕ)) → old ≡ [] → Exceeds spec budget t old →
    (uses : List (List ℕ × ℕ)) × (v : Tree) × Runs spec t uses v × (length uses ≡ suc budget)
spent spec budget t old o w =
    let n : length old ≡ 0 = ap (λ xs. length xs) o in
    (w.uses, w.last, w.runs, omega (arith, w.many))

-- the term is an instance of itself
pub walk-requires-clause-instance : goal.walk-requires-clause-instance
walk-requires-clause-instance c = (
  [],
  λ n t e. absurd (let q : None ≡ Some t = e in cc),
  apply_nothing c.args.term.now ∙ sym c.in_ok-copied.ensures,
)

pub returns-in-Some : goal.returns-in-Some
returns-in-Some c =
    let spec = c.args.self.now in
    let copied = c.in_ok-copied.copied in
    let place = c.new-trace.result.place.items in
    let old = c.new-trace.result.uses.items in
    let new = c.walk.new.trace.uses.items in
    let w : Normalized spec place c.args.budget copied old new c.in-Some.term = subst
    (λ o. IsWalk spec place c.args.budget copied old new o) c.in-Some.is c.in_ok-term.ensures.walked in
    let r = done spec place c.args.budget c.args.term.now c.in-Some.term old new c.new-trace.ensures.root
    c.new-trace.ensures.unused (subst (λ x. Normalized spec place c.args.budget x old new c.in-Some.term)
    c.in_ok-copied.ensures w) in
    subst (λ xs. Runs spec c.args.term.now xs c.in-Some.term × IsNormal spec c.in-Some.term
    × (length xs ≤ c.args.budget)) (sym c.from_vec.ensures) r

pub returns-in-None : goal.returns-in-None
returns-in-None c =
    let spec = c.args.self.now in
    let copied = c.in_ok-copied.copied in
    let place = c.new-trace.result.place.items in
    let old = c.new-trace.result.uses.items in
    let w : Exceeds spec c.args.budget copied old = subst
    (λ o. IsWalk spec place c.args.budget copied old c.walk.new.trace.uses.items o) c.in-None.is
    c.in_ok-term.ensures.walked in
    spent spec c.args.budget c.args.term.now old c.new-trace.ensures.unused
    (subst (λ x. Exceeds spec c.args.budget x old) c.in_ok-copied.ensures w)
