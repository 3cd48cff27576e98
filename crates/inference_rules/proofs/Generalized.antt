-- A variable for each occurrence of a term, and the end of `generalize`.
use Rattle.std.proofs.Common.{◌≡◌, ℕ, List, [], ◌∷◌, Bool, true, false, Option, inl, cond, map, refl, ap, sym, ◌∙◌}
use Rattle.std.proofs.Common.{subst}
use Rattle.std.specs.Prelude.{MatchOption, Result, Ok, Err}
use Rattle.term_core.specs.Tree.{Tree, Trees, var, app, some, trees_of}
use Rattle.term_core.specs.Same.{same_tree}
use Rattle.term_core.specs.declared.ids.SortId.{SortId}
use Rattle.term_core.proofs.SameTrees.{same_tree-refl}
use Rattle.spec_core.specs.declared.records.Spec.{Spec}
use Rattle.spec_core.specs.Sig.{Sig}
use Rattle.spec_core.specs.Sorts.{Sorted}
use Rattle.clause_core.specs.declared.clauses.Clause.{Clause}
use Rattle.clause_core.specs.declared.clauses.Relation.TheVariants.{Same}
use Rattle.clause_core.specs.declared.answers.Children.{Children}
use Rattle.clause_core.specs.Abstracting.{abstracted, abstracted_all, generalized}
use Rattle.clause_core.specs.Generalizing.{IsGeneral, StandsIn, generalize_row}
use Rattle.clause_core.specs.Rows.{child, makes}
use Rattle.descent.proofs.SameTests.{same_is}
use Rattle.inference_rules.specs.declared.nodes.StepError.{StepError}
use Rattle.inference_rules.specs.declared.nodes.StepError.TheVariants.{Why as because, OutOfMemory as out_of_memory}
use Rattle.inference_rules.specs.Answers.{AnsweredAlone}

abstracted_all_list : (t : Tree) (n : ℕ) (ts : List Tree) →
    abstracted_all t n (trees_of ts) ≡ trees_of (map (abstracted t n) ts)
abstracted_all_list t n [] = refl
abstracted_all_list t n (u ∷ us) = ap (λ vs. some (abstracted t n u) vs) (abstracted_all_list t n us)

-- where the term itself is
pub abstracted_here : (t : Tree) (n f : ℕ) (ts : List Tree) (whole : Tree) → app f (trees_of ts) ≡ whole →
    t ≡ whole → abstracted t n whole ≡ var n
abstracted_here t n f ts whole view e =
    let same : same_tree t (app f (trees_of ts)) ≡ true = ap (λ u. same_tree t u) (view ∙ sym e) ∙ same_tree-refl t in
    ap (λ u. abstracted t n u) (sym view) ∙ ap (λ b. cond b (var n) (app f (abstracted_all t n (trees_of ts)))) same

other_tree : (t u : Tree) (b : Bool) → same_tree t u ≡ b → (t ≡ u → ⊥) → same_tree t u ≡ false
other_tree t u true e other = absurd (other (same_is t u e))
other_tree t u false e other = e

-- and where another application is
pub abstracted_there :
    (t : Tree) (n f : ℕ) (ts : List Tree) (whole : Tree) → app f (trees_of ts) ≡ whole → (t ≡ whole → ⊥) →
    app f (trees_of (map (abstracted t n) ts)) ≡ abstracted t n whole
abstracted_there t n f ts whole view differs =
    let u : Tree = app f (trees_of ts) in
    let other : same_tree t u ≡ false = other_tree t u (same_tree t u) refl (λ e. differs (e ∙ view)) in
    sym (ap (λ v. abstracted t n v) (sym view)
    ∙ ap (λ b. cond b (var n) (app f (abstracted_all t n (trees_of ts)))) other
    ∙ ap (λ us. app f us) (abstracted_all_list t n ts))

-- an application is general if it is sorted
pub general_of :
    (sig : Sig) (ctx : List SortId) (t : Tree) (f : ℕ) (ts : Trees) (found : Option SortId) → app f ts ≡ t →
    MatchOption found ((s : SortId) → Sorted sig ctx t s → ⊥) (λ s. Sorted sig ctx t s) →
    MatchOption found ((s : SortId) → IsGeneral sig ctx t s → ⊥) (λ s. IsGeneral sig ctx t s)
general_of sig ctx t f ts found view h =
    let P : Tree → Type 0 = λ u. MatchOption found ((s : SortId) → Sorted sig ctx u s → ⊥) (λ s. Sorted sig ctx u s) in
    let Q : Tree → Type 0 = λ u. MatchOption found ((s : SortId) → IsGeneral sig ctx u s →
    ⊥) (λ s. IsGeneral sig ctx u s) in
    subst Q view (subst P (sym view) h)

pub generalize_answered :
    (spec : Spec) (c : Clause) (t : Tree) (s : SortId) → IsGeneral spec.sig c.ctx t s → StandsIn t c →
    (answer : Result Children StepError) →
    AnsweredAlone c (makes (child Same (generalized c t s) ∷ []) []) answer →
    AnsweredAlone c (generalize_row spec c t) answer
generalize_answered spec c t s general stands (Ok made) h = inl ((s, general), inl (stands, h))
generalize_answered spec c t s general stands (Err (because why)) h = inl ((s, general), inl (stands, h))
generalize_answered spec c t s general stands (Err out_of_memory) h = tt
