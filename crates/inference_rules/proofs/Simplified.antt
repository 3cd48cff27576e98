-- The ends of `decompose`, `clash` and `drop`.
use Rattle.std.proofs.Common.{◌≡◌, ℕ, List, [], ◌∷◌, Bool, true, false, inl, map, refl, ap, sym, ◌∙◌, subst}
use Rattle.std.specs.Prelude.{Result, Ok, Err}
use Rattle.term_core.specs.Tree.{Tree, app, trees_of}
use Rattle.spec_core.specs.declared.records.Equation.{Equation}
use Rattle.spec_core.specs.declared.records.Spec.{Spec}
use Rattle.spec_core.specs.Sig.{Sig, IsConstructor}
use Rattle.clause_core.specs.declared.clauses.Clause.{Clause}
use Rattle.clause_core.specs.declared.clauses.Relation.{Relation}
use Rattle.clause_core.specs.declared.clauses.Relation.TheVariants.{Less}
use Rattle.clause_core.specs.declared.answers.Children.{Children}
use Rattle.clause_core.specs.NumberedEquations.{EquationAt, equations, exchanged}
use Rattle.clause_core.specs.Clashes.{Clash}
use Rattle.clause_core.specs.Rows.{Made, child, makes}
use Rattle.clause_core.specs.Simplifying.{SameHeads, pairs, decompose_row, clash_row, drop_row}
use Rattle.inference_rules.specs.declared.nodes.StepError.{StepError}
use Rattle.inference_rules.specs.declared.nodes.StepError.TheVariants.{Why as because, OutOfMemory as out_of_memory}
use Rattle.inference_rules.specs.Answers.{AnsweredAlone}

-- one child, which is another clause of the same parts
pub one_child :
    (c : Clause) (relation : Relation) (d e : Clause) (answer : Result Children StepError) → d ≡ e →
    AnsweredAlone c (makes (child relation d ∷ []) []) answer →
    AnsweredAlone c (makes (child relation e ∷ []) []) answer
one_child c relation d e answer same h = subst (λ x. AnsweredAlone c (makes (child relation x ∷ []) []) answer) same h

pub drop_answered :
    (spec : Spec) (c : Clause) (kind : Bool) (number : ℕ) (at : EquationAt (equations kind c) number)
    (answer : Result Children StepError) →
    AnsweredAlone c (makes (child Less (exchanged kind c at []) ∷ []) []) answer →
    AnsweredAlone c (drop_row spec c kind number) answer
drop_answered spec c kind number at (Ok made) h = inl (at, h)
drop_answered spec c kind number at (Err (because why)) h = inl (at, h)
drop_answered spec c kind number at (Err out_of_memory) h = tt

pub clash_answered :
    (spec : Spec) (c : Clause) (number : ℕ) (at : EquationAt c.conclusions number) →
    Clash spec.sig at.equation.left at.equation.right →
    (answer : Result Children StepError) → AnsweredAlone c (makes (child Less (exchanged true c at []) ∷ []) [])
    answer → AnsweredAlone c (clash_row spec c number) answer
clash_answered spec c number at clash (Ok made) h = inl (at, inl (clash, h))
clash_answered spec c number at clash (Err (because why)) h = inl (at, inl (clash, h))
clash_answered spec c number at clash (Err out_of_memory) h = tt

-- the heads of one equation are those of the same one
abbrev pub heads_at : (sig : Sig) (d e : Equation) → d ≡ e → SameHeads sig e → SameHeads sig d
heads_at sig d e same h = record {
  head = h.head;
  lefts = h.lefts;
  rights = h.rights;
  constructor = h.constructor;
  is_left = ap (λ (x : Equation). x.left) same ∙ h.is_left;
  is_right = ap (λ (x : Equation). x.right) same ∙ h.is_right;
}

-- the one child of a premise that is taken apart
pub premise_taken_apart :
    (spec : Spec) (c : Clause) (kind : Bool) (number : ℕ) (at : EquationAt (equations kind c) number)
    (heads : SameHeads spec.sig at.equation) →
    kind ≡ false → (d : Clause) (parts : List Equation) → parts ≡ pairs heads.lefts heads.rights →
    ((bt : EquationAt (equations false c) number) → d ≡ exchanged false c bt parts) →
    (answer : Result Children StepError) →
    AnsweredAlone c (makes (child Less d ∷ []) []) answer → AnsweredAlone c (decompose_row spec c kind number) answer
premise_taken_apart spec c true number at heads is d parts e made answer h = absurd (let q : true ≡ false = is in cc)
premise_taken_apart spec c false number at heads is d parts e made (Ok x) h = inl (
  at,
  inl (heads, one_child c Less d _ (Ok x) (made at ∙ ap (λ es. exchanged false c at es) e) h),
)
premise_taken_apart spec c false number at heads is d parts e made (Err (because why)) h = inl (
  at,
  inl (heads, one_child c Less d _ (Err (because why)) (made at ∙ ap (λ es. exchanged false c at es) e) h),
)
premise_taken_apart spec c false number at heads is d parts e made (Err out_of_memory) h = tt

children_of_each : (c : Clause) {number : ℕ} (at : EquationAt (equations true c) number) (es : List Equation) →
    map (child Less) (map (λ (e : Equation). exchanged true c at (e ∷ [])) es) ≡ map
    (λ (e : Equation). child Less (exchanged true c at (e ∷ []))) es
children_of_each c at [] = refl
children_of_each c at (e ∷ es) = ap (λ ms. child Less (exchanged true c at (e ∷ [])) ∷ ms) (children_of_each c at es)

children_same :
    (c : Clause) {number : ℕ} (at : EquationAt (equations true c) number) (ds : List Clause)
    (parts es : List Equation) → parts ≡ es →
    ds ≡ map (λ (e : Equation). exchanged true c at (e ∷ [])) parts →
    map (child Less) ds ≡ map (λ (e : Equation). child Less (exchanged true c at (e ∷ []))) es
children_same c at ds parts es e made = ap (λ xs. map (child Less) xs) made ∙ children_of_each c at parts
    ∙ ap (λ xs. map (λ (e : Equation). child Less (exchanged true c at (e ∷ []))) xs) e

many_children :
    (c : Clause) (ds : List Clause) (ms : List Made) (answer : Result Children StepError) → map (child Less) ds ≡ ms →
    AnsweredAlone c (makes (map (child Less) ds) []) answer → AnsweredAlone c (makes ms []) answer
many_children c ds ms answer same h = subst (λ xs. AnsweredAlone c (makes xs []) answer) same h

-- the children of a conclusion that is taken apart
pub conclusion_taken_apart :
    (spec : Spec) (c : Clause) (kind : Bool) (number : ℕ) (at : EquationAt (equations kind c) number)
    (heads : SameHeads spec.sig at.equation) →
    kind ≡ true → (ds : List Clause) (parts : List Equation) → parts ≡ pairs heads.lefts heads.rights →
    ((bt : EquationAt (equations true c) number) → ds ≡ map (λ (e : Equation). exchanged true c bt (e ∷ [])) parts) →
    (answer : Result Children StepError) → AnsweredAlone c (makes (map (child Less) ds) []) answer →
    AnsweredAlone c (decompose_row spec c kind number) answer
conclusion_taken_apart spec c false number at heads is ds parts e made answer h = absurd
    (let q : false ≡ true = is in cc)
conclusion_taken_apart spec c true number at heads is ds parts e made (Ok x) h = inl (
  at,
  inl (heads, many_children c ds _ (Ok x) (children_same c at ds parts _ e (made at)) h),
)
conclusion_taken_apart spec c true number at heads is ds parts e made (Err (because why)) h = inl (
  at,
  inl (heads, many_children c ds _ (Err (because why)) (children_same c at ds parts _ e (made at)) h),
)
conclusion_taken_apart spec c true number at heads is ds parts e made (Err out_of_memory) h = tt

-- both sides have the same constructor as head if they are these
pub same_heads : (sig : Sig) (e : Equation) (f g : ℕ) (lefts rights : List Tree) →
    e.left ≡ app f (trees_of lefts) → e.right ≡ app g (trees_of rights) → f ≡ g → IsConstructor sig f →
    (heads : SameHeads sig e) × (heads.lefts ≡ trees_of lefts) × (heads.rights ≡ trees_of rights)
same_heads sig e f g lefts rights l r same k = (
  record {
    head = f;
    lefts = trees_of lefts;
    rights = trees_of rights;
    constructor = k;
    is_left = l;
    is_right = r ∙ ap (λ h. app h (trees_of rights)) (sym same);
  },
  refl,
  refl,
)
