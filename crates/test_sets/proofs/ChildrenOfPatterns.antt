-- The children of patterns, by the sorts that the places of their variables ask for.
use Rattle.std.proofs.Common.{◌≡◌, ℕ, zero, suc, ◌+◌, ◌<◌, List, [], ◌∷◌, ◌++◌, map, length, take, get_or, refl, ap}
use Rattle.std.proofs.Common.{sym, ◌∙◌, subst, arith}
use Rattle.std.specs.Prelude.{zip}
use Rattle.std.specs.List.{AllByRecursion, AllZip}
use Rattle.std.proofs.lemmas.List.{map-append}
use Rattle.term_core.specs.Tree.{Tree}
use Rattle.term_core.specs.declared.ids.SortId.{SortId}
use Rattle.term_core.proofs.Items.{taken_next}
use Rattle.spec_core.specs.Sig.{Sig}
use Rattle.clause_core.specs.declared.clauses.Clause.{Clause}
use Rattle.clause_core.specs.Tidied.{tidied}
use Rattle.clause_core.specs.Patterns.{IsPatternOf}
use Rattle.clause_core.specs.Covering.{ArePatternsFor, covered_by}
use Rattle.test_sets.specs.Children.{sorts_in, child_by}
use Rattle.test_sets.specs.Covers.{children_of}
use Rattle.test_sets.proofs.PatternSorts.{pattern_sorts}

module _ (sig : Sig) (c : Clause) (n : ℕ) where
  each_child :
      (s : SortId) (contexts : List (List SortId)) (ps : List Tree) → AllZip (IsPatternOf sig s) contexts ps →
      map (child_by sig c n s) ps ≡ map (λ (q : List SortId × Tree). tidied (covered_by c n q)) (zip contexts ps)
  each_child s [] [] h = refl
  each_child s [] (p ∷ ps) h = absurd h
  each_child s (ctx ∷ contexts) [] h = absurd h
  each_child s (ctx ∷ contexts) (p ∷ ps) h =
      let sorts : sorts_in sig s p ≡ ctx = pattern_sorts sig s ctx p h.0 in
      let rest = each_child s contexts ps h.1 in
      λ i. tidied (covered_by c n (sorts i, p)) ∷ rest i

  pub children_are : (ps : List Tree) (are : ArePatternsFor sig c n ps) →
      map (child_by sig c n are.sort) ps ≡ children_of sig c n ps are
  children_are ps are = each_child are.sort are.contexts ps are.each

-- one item more
pub mapped_next :
    {X Y : Type 0} (f : X → Y) (xs : List X) (i : ℕ) (x : X) (y : Y) (made : List Y) → i < length xs →
    x ≡ get_or xs i x →
    made ≡ map f (take i xs) → y ≡ f x → made ++ y ∷ [] ≡ map f (take (i + 1) xs)
mapped_next f xs i x y made lt is e h =
    (λ j. e j ++ h j ∷ []) ∙ sym (map-append f (take i xs) (x ∷ []))
    ∙ ap (λ ys. map f ys) (sym (taken_next xs i x lt is))

pub all_pushed : {X : Type 0} (P : X → Type 0) (xs : List X) (y : X) → AllByRecursion P xs → P y →
    AllByRecursion P (xs ++ y ∷ [])
all_pushed P [] y h p = (p, tt)
all_pushed P (x ∷ xs) y h p = (h.0, all_pushed P xs y h.1 p)

-- what holds of all items holds of one, and of what is made of it
pub all_at : {X : Type 0} (P : X → Type 0) (xs : List X) (i : ℕ) (x : X) → i < length xs → x ≡ get_or xs i x →
    AllByRecursion P xs → P x
all_at P [] i x lt is h = absurd (omega arith)
all_at P (y ∷ xs) zero x lt is h = subst P (sym is) h.0
all_at P (y ∷ xs) (suc i) x lt is h = all_at P xs i x (omega arith) is h.1

pub mapped_at : {X Y : Type 0} (P : Y → Type 0) (f : X → Y) (xs : List X) (i : ℕ) (x : X) → i < length xs →
    x ≡ get_or xs i x → AllByRecursion P (map f xs) → P (f x)
mapped_at P f [] i x lt is h = absurd (omega arith)
mapped_at P f (y ∷ xs) zero x lt is h = subst (λ z. P (f z)) (sym is) h.0
mapped_at P f (y ∷ xs) (suc i) x lt is h = mapped_at P f xs i x (omega arith) is h.1
