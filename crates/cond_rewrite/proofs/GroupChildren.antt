-- The children of `case` by one rule after the other.
use Rattle.std.proofs.Common.{◌≡◌, ℕ, zero, suc, ◌+◌, ◌<◌, List, [], ◌∷◌, ◌++◌, Bool, true, false, cond, Option, map}
use Rattle.std.proofs.Common.{length, take, get_or, refl, ap, sym, ◌∙◌, subst, arith}
use Rattle.std.specs.List.{AllByRecursion, filter}
use Rattle.std.proofs.lemmas.List.{map-append}
use Rattle.std.proofs.lemmas.List.Elements.{filter_more}
use Rattle.term_core.specs.Tree.{Tree}
use Rattle.term_core.specs.Same.{same_tree}
use Rattle.spec_core.specs.declared.records.Rule.{Rule}
use Rattle.clause_core.specs.declared.clauses.Clause.{Clause}
use Rattle.clause_core.specs.declared.steps.Place.{Place}
use Rattle.clause_core.specs.Limits.{IsWithin}
use Rattle.clause_core.specs.Tidied.{tidied}
use Rattle.clause_core.specs.Places.{TermAt}
use Rattle.cond_rewrite.specs.Applied.{applied_case, applied_cases}

module _ {c : Clause} {place : Place} (p : TermAt c place) (s : List (Option Tree)) (left : Tree) where
  -- one rule more, whose left side is the same or not
  pub next_case : (rules : List Rule) (i : ℕ) (r : Rule) (b : Bool) → i < length rules → r ≡ get_or rules i r →
      same_tree left r.left ≡ b → map tidied (applied_cases p s (take (i + 1) rules) left) ≡ map tidied
      (applied_cases p s (take i rules) left) ++ cond b (tidied (applied_case p s r) ∷ []) []
  next_case rules i r b lt is same =
      let group : List Rule → List Rule = filter (λ (q : Rule). same_tree left q.left) in
      let more : group (take (i + 1) rules) ≡ group (take i rules) ++ cond (same_tree left r.left) (r ∷ []) [] =
      filter_more (λ (q : Rule). same_tree left q.left) rules i r lt
      ∙ ap (λ (q : Rule). group (take i rules) ++ cond (same_tree left q.left) (q ∷ []) []) (sym is) in
      let here : group (take (i + 1) rules) ≡ group (take i rules) ++ cond b (r ∷ []) [] = more
      ∙ ap (λ x. group (take i rules) ++ cond x (r ∷ []) []) same in
      ap (λ rs. map tidied (map (applied_case p s) rs)) here
      ∙ ap (λ ds. map tidied ds) (map-append (applied_case p s) (group (take i rules)) (cond b (r ∷ []) []))
      ∙ map-append tidied (map (applied_case p s) (group (take i rules))) (map (applied_case p s) (cond b (r ∷ []) []))
      ∙ ap (λ ds. map tidied (applied_cases p s (take i rules) left) ++ ds) (last b)
    where
      last : (x : Bool) → map tidied (map (applied_case p s) (cond x (r ∷ []) [])) ≡ cond x
          (tidied (applied_case p s r) ∷ []) []
      last true = refl
      last false = refl

  -- what holds of each child holds of the one by a rule of the group
  pub case_within : (rules : List Rule) (i : ℕ) (r : Rule) → i < length rules → r ≡ get_or rules i r →
      same_tree left r.left ≡ true → AllByRecursion IsWithin (map tidied (applied_cases p s rules left)) →
      IsWithin (tidied (applied_case p s r))
  case_within [] i r lt is same w = absurd (omega arith)
  case_within (q ∷ rules) zero r lt is same w =
      let here : same_tree left q.left ≡ true = ap (λ (x : Rule). same_tree left x.left) (sym is) ∙ same in
      first (same_tree left q.left) here w
    where
      first : (b : Bool) → b ≡ true →
          AllByRecursion IsWithin
          (map tidied (map (applied_case p s) (cond b (q ∷ filter (λ (x : Rule). same_tree left x.left) rules)
          (filter (λ (x : Rule). same_tree left x.left) rules)))) → IsWithin (tidied (applied_case p s r))
      first true e h = subst (λ (x : Rule). IsWithin (tidied (applied_case p s x))) (sym is) h.0
      first false e h = absurd (let k : false ≡ true = e in cc)
  case_within (q ∷ rules) (suc i) r lt is same w = case_within rules i r (omega arith) is same
      (rest (same_tree left q.left) w)
    where
      rest : (b : Bool) → AllByRecursion IsWithin
          (map tidied (map (applied_case p s) (cond b (q ∷ filter (λ (x : Rule). same_tree left x.left) rules)
          (filter (λ (x : Rule). same_tree left x.left) rules)))) →
          AllByRecursion IsWithin (map tidied (applied_cases p s rules left))
      rest true h = h.1
      rest false h = h
