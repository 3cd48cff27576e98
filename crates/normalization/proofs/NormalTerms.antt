-- Normal terms by their arguments.
use Rattle.std.proofs.Common.{◌≡◌, ℕ, ◌+◌, suc, List, [], ◌∷◌, Some, Option, refl, ◌∙◌, subst}
use Rattle.std.specs.Prelude.{slice_get}
use Rattle.std.specs.List.{AllByRecursion}
use Rattle.term_core.specs.Tree.{Tree, Trees, var, app, none, some, list_of}
use Rattle.term_core.proofs.Items.{all_at}
use Rattle.spec_core.specs.declared.records.Spec.{Spec}
use Rattle.spec_core.specs.Sig.{Sig}
use Rattle.spec_core.specs.WellSorted.{IsWellSorted, IsLeft}
use Rattle.substitutions.specs.Substitution.{apply}
use Rattle.normalization.specs.Uses.{Use, IsStuck}
use Rattle.normalization.specs.NormalForms.{IsNormal}

-- no instance of a left side is a variable
left_no_variable : (sig : Sig) (left : Tree) (s : List (Option Tree)) (n : ℕ) → IsLeft sig left →
    apply s left ≡ var n → ⊥
left_no_variable sig (var m) s n is e = is
left_no_variable sig (app f ts) s n is e = cc

pub variable_normal : (spec : Spec) → IsWellSorted spec → (n : ℕ) → IsNormal spec (var n)
variable_normal spec fine n [] s at =
    λ number u w. left_no_variable spec.sig w.rule.left w.entries n
    (fine.rules w.listed.0 w.rule w.listed.2).left (w.left ∙ at)
variable_normal spec fine n (k ∷ p) s at = absurd at

-- the arguments of a normal term are normal
args_normal_from : (spec : Spec) (f : ℕ) (ts : Trees) →
    ((k : ℕ) (t : Tree) → slice_get (list_of ts) k ≡ Some t → IsNormal spec t) →
    AllByRecursion (IsNormal spec) (list_of ts)
args_normal_from spec f none h = tt
args_normal_from spec f (some t ts) h = (h 0 t refl, args_normal_from spec f ts (λ k u at. h (suc k) u at))

pub args_normal : (spec : Spec) (f : ℕ) (ts : Trees) → IsNormal spec (app f ts) →
    AllByRecursion (IsNormal spec) (list_of ts)
args_normal spec f ts h =
    args_normal_from spec f ts (λ k t at p s here. h ((k + 1) ∷ p) s (t, (k, refl, at), here))

-- and so is a symbol with normal arguments, if it is stuck itself
pub app_normal : (spec : Spec) (f : ℕ) (ts : Trees) → AllByRecursion (IsNormal spec) (list_of ts) →
    IsStuck spec (app f ts) → IsNormal spec (app f ts)
app_normal spec f ts all stuck [] s at = λ number u w. stuck number u (subst (λ x. Use spec number x u) at w)
app_normal spec f ts all stuck (j ∷ p) s at = all_at (IsNormal spec) (list_of ts) all at.1.0 at.0 at.1.2 p s at.2
