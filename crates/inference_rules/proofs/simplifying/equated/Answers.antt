use Rattle.std.proofs.Common.{◌≡◌, List, [], ◌∷◌, ◌++◌, map, refl, ap, sym, ◌∙◌}
use Rattle.std.specs.Borrow.{Bor}
use Rattle.std.specs.List.{zip}
use Rattle.std.proofs.lemmas.Iterator.{YieldsList-from_slice, YieldsList-from_zip}
use Rattle.std.proofs.lemmas.Iterator.Consumers.{YieldsList-end}
use Rattle.std.proofs.lemmas.List.{map-append}
use Rattle.term_core.specs.Tree.{Tree, trees_of}
use Rattle.spec_core.specs.declared.records.Equation.{Equation}
use Rattle.clause_core.specs.Simplifying.{pairs}
use Rattle.inference_rules.proofs.simplifying.equated.Goals as goal

-- the equation of a pair of terms
abbrev of_pair : Tree × Tree → Equation
of_pair p = record { left = p.0; right = p.1 }

abbrev read : Bor Tree × Bor Tree → Tree × Tree
read p = (p.0.now, p.1.now)

pairs_zipped : (ts us : List Tree) → map of_pair (zip ts us) ≡ pairs (trees_of ts) (trees_of us)
pairs_zipped [] us = refl
pairs_zipped (t ∷ ts) [] = refl
pairs_zipped (t ∷ ts) (u ∷ us) = ap (λ es. of_pair (t, u) ∷ es) (pairs_zipped ts us)

read_pairs : (ps : List (Bor Tree × Bor Tree)) → map (λ p. of_pair (read p)) ps ≡ map of_pair (map read ps)
read_pairs [] = refl
read_pairs (p ∷ ps) = ap (λ es. of_pair (read p) ∷ es) (read_pairs ps)

one_more : (ps : List (Bor Tree × Bor Tree)) (p : Bor Tree × Bor Tree) (made news : List Equation)
    (t u : Tree) → made ≡ map (λ q. of_pair (read q)) ps → t ≡ p.0.now → u ≡ p.1.now →
    news ≡ made ++ record { left = t; right = u } ∷ [] → news ≡ map (λ q. of_pair (read q)) (ps ++ p ∷ [])
one_more ps p made news t u m l r n = n ∙ (λ i. m i ++ record { left = l i; right = r i } ∷ [])
    ∙ sym (map-append (λ q. of_pair (read q)) ps (p ∷ []))

pub loop-left-preserved : goal.loop-left-preserved
loop-left-preserved c = one_more c.loop-left.yielded (c.in-Some.left, c.in-Some.right) _ _ _ _
    c.loop-left.invariant c.in_ok-copy.ensures c.in_ok-copy-2.ensures c.in_ok-push.ensures.items

pub returns : goal.returns
returns c =
    let t = YieldsList-end (YieldsList-from_zip (YieldsList-from_slice c.args.lefts.now cc)
    (YieldsList-from_slice c.args.rights.now cc)) c.loop-left.yielded c.loop-left.left-iterator
    c.loop-left.yielded_by c.next.result c.next.new.self c.in-None.is c.next.ensures.steps in
    c.loop-left.invariant ∙ read_pairs c.loop-left.yielded ∙ ap (λ ps. map of_pair ps) t.0
    ∙ pairs_zipped c.args.lefts.now c.args.rights.now
