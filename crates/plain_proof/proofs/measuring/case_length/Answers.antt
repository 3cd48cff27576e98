use Rattle.std.proofs.Common.{◌≡◌, ℕ, ◌+◌, zero, suc, List, [], ◌∷◌, Some, None, ◌++◌, min, true, false, refl, ap, sym}
use Rattle.std.proofs.Common.{◌∙◌, subst, arith}
use Rattle.std.specs.Prelude.{slice_get}
use Rattle.term_core.specs.Tree.{tree_size}
use Rattle.term_core.specs.declared.ids.SortId.{SortId}
use Rattle.normalization.specs.Narrow.{IsNarrow}
use Rattle.plain_proof.specs.Limits.{AreWithin}
use Rattle.plain_proof.specs.Cases.{in_case}
use Rattle.plain_proof.specs.ClosingAnswers.{IsClosing}
use Rattle.plain_proof.proofs.NarrowTerms.{case_narrow}
use Rattle.plain_proof.proofs.Lengths.{case_outside, case_no_left, case_no_right, case_too_long, case_refused, case_by}
use Rattle.plain_proof.proofs.Lengths.{side_in, case_of_symbol, within_in}
use Rattle.plain_proof.proofs.measuring.case_length.Goals as goal

-- an item stays when more items follow
longer : (xs ys : List SortId) (n : ℕ) (s : SortId) → slice_get xs n ≡ Some s → slice_get (xs ++ ys) n ≡ Some s
longer [] ys n s at = absurd (let q : None ≡ Some s = at in cc)
longer (x ∷ xs) ys zero s at = at
longer (x ∷ xs) ys (suc n) s at = longer xs ys n s at

pub returns-then-not-branch : goal.returns-then-not-branch
returns-then-not-branch c =
    let spec = c.args.split.now.spec.now in
    let ctx = c.args.split.now.ctx.now in
    let e = c.args.split.now.equation.now in
    let x = c.args.split.now.var.0 in
    let f = c.args.sym.0 in
    let b = c.args.budget in
    let i = c.info.result.now in
    let k : ℕ × List SortId = (f, i.args) in
    let pl : c.in_ok-left.field-0.left ≡ in_case ctx x k e.left = c.in_ok-left.ensures.left
    ∙ ap (λ (ss : List SortId). in_case ctx x (f, ss) e.left) c.as_slice-args.ensures in
    let pr : c.in_ok-left.field-0.right ≡ in_case ctx x k e.right = c.in_ok-left.ensures.right
    ∙ ap (λ (ss : List SortId). in_case ctx x (f, ss) e.right) c.as_slice-args.ensures in
    let outside = λ (w : AreWithin (in_case ctx x k e.left) (in_case ctx x k e.right)). let q :
    false ≡ true = sym c.if-not-branch.true
    ∙ c.in_ok-are_within.ensures.1 (within_in (in_case ctx x k e.left) (in_case ctx x k e.right)
    c.in_ok-left.field-0.left c.in_ok-left.field-0.right (sym pl) (sym pr) w) in absurd (cc) in
    case_of_symbol spec ctx e x f b None i c.info.ensures (case_outside spec c.requires.fine ctx e x k b outside)

pub normal_side-requires-clause-narrow : goal.normal_side-requires-clause-narrow
normal_side-requires-clause-narrow c =
    let spec = c.args.split.now.spec.now in
    let ctx = c.args.split.now.ctx.now in
    let e = c.args.split.now.equation.now in
    let x = c.args.split.now.var.0 in
    let f = c.args.sym.0 in
    let b = c.args.budget in
    let i = c.info.result.now in
    let k : ℕ × List SortId = (f, i.args) in
    let pl : c.in_ok-left.field-0.left ≡ in_case ctx x k e.left = c.in_ok-left.ensures.left
    ∙ ap (λ (ss : List SortId). in_case ctx x (f, ss) e.left) c.as_slice-args.ensures in
    let pr : c.in_ok-left.field-0.right ≡ in_case ctx x k e.right = c.in_ok-left.ensures.right
    ∙ ap (λ (ss : List SortId). in_case ctx x (f, ss) e.right) c.as_slice-args.ensures in
    subst (λ t. IsNarrow t) (sym pl) (case_narrow spec c.requires.fine ctx x f i c.info.ensures e.left
    c.requires.sorted.0 c.requires.sorted.1)

pub returns-in_default : goal.returns-in_default
returns-in_default c =
    let spec = c.args.split.now.spec.now in
    let ctx = c.args.split.now.ctx.now in
    let e = c.args.split.now.equation.now in
    let x = c.args.split.now.var.0 in
    let f = c.args.sym.0 in
    let b = c.args.budget in
    let i = c.info.result.now in
    let k : ℕ × List SortId = (f, i.args) in
    let pl : c.in_ok-left.field-0.left ≡ in_case ctx x k e.left = c.in_ok-left.ensures.left
    ∙ ap (λ (ss : List SortId). in_case ctx x (f, ss) e.left) c.as_slice-args.ensures in
    let pr : c.in_ok-left.field-0.right ≡ in_case ctx x k e.right = c.in_ok-left.ensures.right
    ∙ ap (λ (ss : List SortId). in_case ctx x (f, ss) e.right) c.as_slice-args.ensures in
    let h = side_in spec c.in_ok-left.field-0.right (in_case ctx x k e.right) c.in_ok-left.field-0.left
    (in_case ctx x k e.left) b c.in_ok-left-2.field-0 None pr pl c.in_default.is c.in_ok-left-2.ensures in
    case_of_symbol spec ctx e x f b None i c.info.ensures (case_no_left spec c.requires.fine ctx e x k b h)

pub normal_side-requires-2-clause-narrow : goal.normal_side-requires-2-clause-narrow
normal_side-requires-2-clause-narrow c =
    let spec = c.args.split.now.spec.now in
    let ctx = c.args.split.now.ctx.now in
    let e = c.args.split.now.equation.now in
    let x = c.args.split.now.var.0 in
    let f = c.args.sym.0 in
    let b = c.args.budget in
    let i = c.info.result.now in
    let k : ℕ × List SortId = (f, i.args) in
    let pl : c.in_ok-left.field-0.left ≡ in_case ctx x k e.left = c.in_ok-left.ensures.left
    ∙ ap (λ (ss : List SortId). in_case ctx x (f, ss) e.left) c.as_slice-args.ensures in
    let pr : c.in_ok-left.field-0.right ≡ in_case ctx x k e.right = c.in_ok-left.ensures.right
    ∙ ap (λ (ss : List SortId). in_case ctx x (f, ss) e.right) c.as_slice-args.ensures in
    subst (λ t. IsNarrow t) (sym pr) (case_narrow spec c.requires.fine ctx x f i c.info.ensures e.right
    c.requires.sorted.0 c.requires.sorted.2)

pub returns-in_default-2 : goal.returns-in_default-2
returns-in_default-2 c =
    let spec = c.args.split.now.spec.now in
    let ctx = c.args.split.now.ctx.now in
    let e = c.args.split.now.equation.now in
    let x = c.args.split.now.var.0 in
    let f = c.args.sym.0 in
    let b = c.args.budget in
    let i = c.info.result.now in
    let k : ℕ × List SortId = (f, i.args) in
    let pl : c.in_ok-left.field-0.left ≡ in_case ctx x k e.left = c.in_ok-left.ensures.left
    ∙ ap (λ (ss : List SortId). in_case ctx x (f, ss) e.left) c.as_slice-args.ensures in
    let pr : c.in_ok-left.field-0.right ≡ in_case ctx x k e.right = c.in_ok-left.ensures.right
    ∙ ap (λ (ss : List SortId). in_case ctx x (f, ss) e.right) c.as_slice-args.ensures in
    let hl = side_in spec c.in_ok-left.field-0.right (in_case ctx x k e.right) c.in_ok-left.field-0.left
    (in_case ctx x k e.left) b c.in_ok-left-2.field-0 (Some (c.in-Some.left, c.in-Some.uses)) pr pl
    c.in-Some.is c.in_ok-left-2.ensures in
    let h = side_in spec c.in-Some.left c.in-Some.left c.in_ok-left.field-0.right (in_case ctx x k e.right) b
    c.in_ok-right.field-0 None refl pr c.in_default-2.is c.in_ok-right.ensures in
    case_of_symbol spec ctx e x f b None i c.info.ensures
    (case_no_right spec c.requires.fine ctx e x k b c.in-Some.left c.in-Some.uses hl h)

pub returns-then-length-budget : goal.returns-then-length-budget
returns-then-length-budget c =
    let spec = c.args.split.now.spec.now in
    let ctx = c.args.split.now.ctx.now in
    let e = c.args.split.now.equation.now in
    let x = c.args.split.now.var.0 in
    let f = c.args.sym.0 in
    let b = c.args.budget in
    let i = c.info.result.now in
    let k : ℕ × List SortId = (f, i.args) in
    let pl : c.in_ok-left.field-0.left ≡ in_case ctx x k e.left = c.in_ok-left.ensures.left
    ∙ ap (λ (ss : List SortId). in_case ctx x (f, ss) e.left) c.as_slice-args.ensures in
    let pr : c.in_ok-left.field-0.right ≡ in_case ctx x k e.right = c.in_ok-left.ensures.right
    ∙ ap (λ (ss : List SortId). in_case ctx x (f, ss) e.right) c.as_slice-args.ensures in
    let hl = side_in spec c.in_ok-left.field-0.right (in_case ctx x k e.right) c.in_ok-left.field-0.left
    (in_case ctx x k e.left) b c.in_ok-left-2.field-0 (Some (c.in-Some.left, c.in-Some.uses)) pr pl
    c.in-Some.is c.in_ok-left-2.ensures in
    let hr = side_in spec c.in-Some.left c.in-Some.left c.in_ok-left.field-0.right (in_case ctx x k e.right) b
    c.in_ok-right.field-0 (Some (c.in-Some-2.right, c.in-Some-2.more)) refl pr c.in-Some-2.is
    c.in_ok-right.ensures in
    let long = c.in-Some.uses + c.in-Some-2.more + c.size.result + c.size-2.result in
    let is : long ≡ c.in-Some.uses + c.in-Some-2.more + min (tree_size c.in-Some.left) (b + 1) + min
    (tree_size c.in-Some-2.right) (b + 1) = omega (arith, c.size.ensures, c.size-2.ensures) in
    case_of_symbol spec ctx e x f b None i c.info.ensures
    (case_too_long spec c.requires.fine ctx e x k b c.in-Some.left c.in-Some.uses hl c.in-Some-2.right
    c.in-Some-2.more hr long is (omega (arith, c.if-length-budget.true)))

pub close-requires-clause-extends : goal.close-requires-clause-extends
close-requires-clause-extends c n s at =
    let spec = c.args.split.now.spec.now in
    let ctx = c.args.split.now.ctx.now in
    let e = c.args.split.now.equation.now in
    let x = c.args.split.now.var.0 in
    let f = c.args.sym.0 in
    let b = c.args.budget in
    let i = c.info.result.now in
    let k : ℕ × List SortId = (f, i.args) in
    let pl : c.in_ok-left.field-0.left ≡ in_case ctx x k e.left = c.in_ok-left.ensures.left
    ∙ ap (λ (ss : List SortId). in_case ctx x (f, ss) e.left) c.as_slice-args.ensures in
    let pr : c.in_ok-left.field-0.right ≡ in_case ctx x k e.right = c.in_ok-left.ensures.right
    ∙ ap (λ (ss : List SortId). in_case ctx x (f, ss) e.right) c.as_slice-args.ensures in
    let po : c.deref.result.now ≡ ctx ++ i.args = c.deref.ensures.value ∙ c.in_ok-over.ensures
    ∙ ap (λ (ss : List SortId). ctx ++ ss) c.as_slice-args.ensures in
    let here : slice_get (ctx ++ i.args) n ≡ Some s = longer ctx i.args n s at in
    subst (λ (ss : List SortId). slice_get ss n ≡ Some s) (sym po) here

pub returns-then-not-suffices : goal.returns-then-not-suffices
returns-then-not-suffices c =
    let spec = c.args.split.now.spec.now in
    let ctx = c.args.split.now.ctx.now in
    let e = c.args.split.now.equation.now in
    let x = c.args.split.now.var.0 in
    let f = c.args.sym.0 in
    let b = c.args.budget in
    let i = c.info.result.now in
    let k : ℕ × List SortId = (f, i.args) in
    let pl : c.in_ok-left.field-0.left ≡ in_case ctx x k e.left = c.in_ok-left.ensures.left
    ∙ ap (λ (ss : List SortId). in_case ctx x (f, ss) e.left) c.as_slice-args.ensures in
    let pr : c.in_ok-left.field-0.right ≡ in_case ctx x k e.right = c.in_ok-left.ensures.right
    ∙ ap (λ (ss : List SortId). in_case ctx x (f, ss) e.right) c.as_slice-args.ensures in
    let hl = side_in spec c.in_ok-left.field-0.right (in_case ctx x k e.right) c.in_ok-left.field-0.left
    (in_case ctx x k e.left) b c.in_ok-left-2.field-0 (Some (c.in-Some.left, c.in-Some.uses)) pr pl
    c.in-Some.is c.in_ok-left-2.ensures in
    let hr = side_in spec c.in-Some.left c.in-Some.left c.in_ok-left.field-0.right (in_case ctx x k e.right) b
    c.in_ok-right.field-0 (Some (c.in-Some-2.right, c.in-Some-2.more)) refl pr c.in-Some-2.is
    c.in_ok-right.ensures in
    let po : c.deref.result.now ≡ ctx ++ i.args = c.deref.ensures.value ∙ c.in_ok-over.ensures
    ∙ ap (λ (ss : List SortId). ctx ++ ss) c.as_slice-args.ensures in
    let how = subst (λ (ss : List SortId). IsClosing spec.sig ctx e ss c.in-Some.left c.in-Some-2.right
    c.in_ok-closing.closing) po c.in_ok-closing.ensures in
    case_of_symbol spec ctx e x f b None i c.info.ensures
    (case_refused spec c.requires.fine ctx e x k b c.in-Some.left c.in-Some.uses hl c.in-Some-2.right
    c.in-Some-2.more hr c.in_ok-closing.closing how (λ z. let q : false ≡ true = c.if-not-suffices.ensures.1
    z in absurd (cc)))

pub returns : goal.returns
returns c =
    let spec = c.args.split.now.spec.now in
    let ctx = c.args.split.now.ctx.now in
    let e = c.args.split.now.equation.now in
    let x = c.args.split.now.var.0 in
    let f = c.args.sym.0 in
    let b = c.args.budget in
    let i = c.info.result.now in
    let k : ℕ × List SortId = (f, i.args) in
    let pl : c.in_ok-left.field-0.left ≡ in_case ctx x k e.left = c.in_ok-left.ensures.left
    ∙ ap (λ (ss : List SortId). in_case ctx x (f, ss) e.left) c.as_slice-args.ensures in
    let pr : c.in_ok-left.field-0.right ≡ in_case ctx x k e.right = c.in_ok-left.ensures.right
    ∙ ap (λ (ss : List SortId). in_case ctx x (f, ss) e.right) c.as_slice-args.ensures in
    let hl = side_in spec c.in_ok-left.field-0.right (in_case ctx x k e.right) c.in_ok-left.field-0.left
    (in_case ctx x k e.left) b c.in_ok-left-2.field-0 (Some (c.in-Some.left, c.in-Some.uses)) pr pl
    c.in-Some.is c.in_ok-left-2.ensures in
    let hr = side_in spec c.in-Some.left c.in-Some.left c.in_ok-left.field-0.right (in_case ctx x k e.right) b
    c.in_ok-right.field-0 (Some (c.in-Some-2.right, c.in-Some-2.more)) refl pr c.in-Some-2.is
    c.in_ok-right.ensures in
    let long = c.in-Some.uses + c.in-Some-2.more + c.size.result + c.size-2.result in
    let is : long ≡ c.in-Some.uses + c.in-Some-2.more + min (tree_size c.in-Some.left) (b + 1) + min
    (tree_size c.in-Some-2.right) (b + 1) = omega (arith, c.size.ensures, c.size-2.ensures) in
    let po : c.deref.result.now ≡ ctx ++ i.args = c.deref.ensures.value ∙ c.in_ok-over.ensures
    ∙ ap (λ (ss : List SortId). ctx ++ ss) c.as_slice-args.ensures in
    let how = subst (λ (ss : List SortId). IsClosing spec.sig ctx e ss c.in-Some.left c.in-Some-2.right
    c.in_ok-closing.closing) po c.in_ok-closing.ensures in
    let small = within_in c.in_ok-left.field-0.left c.in_ok-left.field-0.right (in_case ctx x k e.left)
    (in_case ctx x k e.right) pl pr (c.in_ok-are_within.ensures.0 c.if-not-branch.false) in
    case_of_symbol spec ctx e x f b (Some long) i c.info.ensures
    (case_by spec c.requires.fine ctx e x k b c.in-Some.left c.in-Some.uses hl c.in-Some-2.right
    c.in-Some-2.more hr small long is (omega (arith, c.if-length-budget.false)) c.in_ok-closing.closing how
    (c.if-not-suffices.ensures.0 refl))
