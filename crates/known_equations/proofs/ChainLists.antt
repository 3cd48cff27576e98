-- Chains that get longer, and chains of terms in lists.
use Rattle.std.proofs.Common.{◌≡◌, ℕ, ◌+◌, ◌<◌, List, [], ◌∷◌, ◌++◌, Option, length, get_or, ap, subst, sym, ◌∙◌, map, take}
use Rattle.std.specs.Prelude.{Result, IfOk}
use Rattle.std.proofs.lemmas.List.{map-append, take_more}
use Rattle.std.proofs.lemmas.Result.{IfOk-weaker}
use Rattle.term_core.specs.Tree.{Tree, app, none, trees_of}
use Rattle.substitutions.specs.Substitution.{apply}
use Rattle.known_equations.specs.Chains.{Chain, stays, below, at_root, Chains, nothing, each}

module _ (uses : Tree → Tree → Type 0) where
  -- a term that stays
  pub stays_same : (t u : Tree) → u ≡ t → Chain uses t u
  stays_same t u e = subst (λ x. Chain uses t x) (sym e) (stays t)

  module _ {E : Type 0} (r : Result Tree E) where
    pub stays_if_ok : (t : Tree) → IfOk r (λ u. u ≡ t) → IfOk r (Chain uses t)
    stays_if_ok t = IfOk-weaker r (λ u. u ≡ t) (Chain uses t) (stays_same t)

    -- chains below the root, and then one from there
    pub below_if_ok :
        (f : ℕ) (ts us : List Tree) → Chains uses (trees_of ts) (trees_of us) →
        IfOk r (Chain uses (app f (trees_of us))) → IfOk r (Chain uses (app f (trees_of ts)))
    below_if_ok f ts us all =
        IfOk-weaker r (Chain uses (app f (trees_of us))) (Chain uses (app f (trees_of ts)))
        (λ u c. below f (trees_of ts) (trees_of us) u all c)

    -- a use at the root, and then a chain
    pub at_root_if_ok : (t s : Tree) → uses t s → IfOk r (Chain uses s) → IfOk r (Chain uses t)
    at_root_if_ok t s use_of =
        IfOk-weaker r (Chain uses s) (Chain uses t) (λ u c. at_root t s u use_of c)

  -- chains of one more term
  chains_more :
      (ts us : List Tree) (t u : Tree) → Chains uses (trees_of ts) (trees_of us) → Chain uses t u →
      Chains uses (trees_of (ts ++ t ∷ [])) (trees_of (us ++ u ∷ []))
  chains_more [] [] t u all c = each t u none none c nothing
  chains_more [] (v ∷ us) t u all c = elim all [ ]
  chains_more (s ∷ ts) [] t u all c = elim all [ ]
  chains_more (s ∷ ts) (v ∷ us) t u (each a b xs ys first rest) c =
      each s v (trees_of (ts ++ t ∷ [])) (trees_of (us ++ u ∷ [])) first (chains_more ts us t u rest c)

  -- chains of the instance of one more pattern
  pub instances_more :
      (s : List (Option Tree)) (ps us vs : List Tree) (i : ℕ) (p u : Tree) → i < length ps →
      p ≡ get_or ps i p → vs ≡ us ++ u ∷ [] →
      Chains uses (trees_of (map (apply s) (take i ps))) (trees_of us) → Chain uses (apply s p) u →
      Chains uses (trees_of (map (apply s) (take (i + 1) ps))) (trees_of vs)
  instances_more s ps us vs i p u lt at made all c =
      let more : take (i + 1) ps ≡ take i ps ++ p ∷ [] =
      take_more ps i p lt ∙ ap (λ x. take i ps ++ x ∷ []) (sym at) in
      let mapped : map (apply s) (take (i + 1) ps) ≡ map (apply s) (take i ps) ++ apply s p ∷ [] =
      ap (map (apply s)) more ∙ map-append (apply s) (take i ps) (p ∷ []) in
      rw (mapped, made) (chains_more (map (apply s) (take i ps)) us (apply s p) u all c)
