-- The end of a row: its children and references, one after the other.
use Rattle.std.proofs.Common.{◌≡◌, ℕ, List, [], ◌∷◌, ◌++◌, inl, map, refl, sym, subst, arith}
use Rattle.std.specs.Prelude.{Result, Ok, Err}
use Rattle.std.specs.List.{AllZip}
use Rattle.std.proofs.lemmas.List.{map-append}
use Rattle.term_core.specs.Tree.{Tree}
use Rattle.clause_core.specs.declared.clauses.Clause.{Clause}
use Rattle.clause_core.specs.declared.clauses.Relation.{Relation}
use Rattle.clause_core.specs.declared.answers.Child.{Child}
use Rattle.clause_core.specs.declared.answers.Children.{Children}
use Rattle.clause_core.specs.declared.answers.Reference.{Reference}
use Rattle.clause_core.specs.Tidied.{tidied}
use Rattle.clause_core.specs.Rows.{Made, child, makes}
use Rattle.clause_core.specs.Says.{AreWithin, IsChild, IsReference, Says}
use Rattle.inference_rules.specs.declared.nodes.StepError.{StepError}
use Rattle.inference_rules.specs.declared.nodes.StepError.TheVariants.{Why as because, OutOfMemory as out_of_memory}
use Rattle.inference_rules.specs.Answers.{Answered, IsLimited}

-- one pair more
pub pairs_more :
    {X Y : Type 0} (R : X → Y → Type 0) (xs : List X) (ys : List Y) (x : X) (y : Y) →
    AllZip R xs ys → R x y → AllZip R (xs ++ x ∷ []) (ys ++ y ∷ [])
pairs_more R [] [] x y p r = (r, tt)
pairs_more R [] (z ∷ ys) x y p r = absurd p
pairs_more R (z ∷ xs) [] x y p r = absurd p
pairs_more R (z ∷ xs) (w ∷ ys) x y p r = (p.0, pairs_more R xs ys x y p.1 r)

module _ (above : Tree → Tree → Type 0) (c : Clause) where
  -- what is made, and limited, is the answer of a row that makes it
  pub made_answered :
      (children : List Made) (refs : List (ℕ × Clause)) (made : Children) (answer : Result Children StepError) →
      AllZip (IsChild above c) children made.clauses → AllZip (IsReference above c) refs made.refs →
      IsLimited made answer → Answered above c [] (makes children refs) answer
  made_answered children refs made (Ok m) p q l = (made, p, q, l)
  made_answered children refs made (Err (because w)) p q l = (made, p, q, l)
  made_answered children refs made (Err out_of_memory) p q l = tt

  -- nothing is made
  pub nothing_made : (made : Children) → made.clauses ≡ [] → made.refs ≡ [] → Says above c [] (makes [] []) (Ok made)
  nothing_made made p q = (
    made,
    subst (λ (xs : List Child). AllZip (IsChild above c) [] xs) (sym p) tt,
    subst (λ (xs : List Reference). AllZip (IsReference above c) [] xs) (sym q) tt,
    inl (subst (λ (xs : List Child). AreWithin [] xs) (sym p) (tt, omega arith), refl),
  )

  -- one child more with the relation that the row gives it
  pub child_more :
      (relation : Relation) (ds : List Clause) (d : Clause) (made news : List Child) (new : Child) →
      AllZip (IsChild above c) (map (child relation) ds) made → new.clause ≡ tidied d → new.relation ≡ relation →
      news ≡ made ++ new ∷ [] → AllZip (IsChild above c) (map (child relation) (ds ++ d ∷ [])) news
  child_more relation ds d made news new p t r n =
      subst (λ ms. AllZip (IsChild above c) ms news) (sym (map-append (child relation) ds (d ∷ [])))
      (subst (λ (xs : List Child). AllZip (IsChild above c) (map (child relation) ds ++ child relation d ∷ [])
      xs) (sym n) (pairs_more (IsChild above c) (map (child relation) ds) made (child relation d) new p (t, r)))

  pub nothing_referred : (made : List Reference) → made ≡ [] → AllZip (IsReference above c) [] made
  nothing_referred made e = subst (λ (xs : List Reference). AllZip (IsReference above c) [] xs) (sym e) tt
