-- The entries of lists that were made from others.
use Rattle.std.proofs.Common.{◌≡◌, ℕ, zero, suc, ◌<◌, ◌≤◌, List, [], ◌∷◌, ◌++◌, Option, Some, None, refl, ◌∙◌, ap, set}
use Rattle.std.proofs.Common.{take, length}
use Rattle.std.specs.List.{FoldsTo, AppendsResults}
use Rattle.std.proofs.lemmas.List.{get_or-set_same, get_or-set_other, take_all}
use Rattle.term_core.specs.Tree.{Tree}
use Rattle.substitutions.specs.Substitution.{entry}
use Rattle.substitutions.specs.Updates.{IsSetTo}

-- the entries stay when only None is added
entry-append : (xs ys : List (Option Tree)) → ((n : ℕ) → entry ys n ≡ None) → (n : ℕ) → entry (xs ++ ys) n ≡ entry xs n
entry-append [] ys h n = h n
entry-append (x ∷ xs) ys h zero = refl
entry-append (x ∷ xs) ys h (suc n) = entry-append xs ys h n

all_none : {F : Type 0} (step : F → Option Tree → F → Type 0) →
    ((f : F) (o : Option Tree) (g : F) → step f o g → o ≡ None) → (f g : F) (ys : List (Option Tree)) →
    FoldsTo step f ys g → (n : ℕ) → entry ys n ≡ None
all_none step only f g [] h n = refl
all_none step only f g (y ∷ ys) h zero = only f y h.0 h.1
all_none step only f g (y ∷ ys) h (suc n) = all_none step only h.0 g ys h.2 n

-- the entries of a list that grew by calls that give None
pub grown : {F : Type 0} (step : F → Option Tree → F → Type 0) →
    ((f : F) (o : Option Tree) (g : F) → step f o g → o ≡ None) →
    (old new : List (Option Tree)) (k : ℕ) (f : F) → length old ≤ k → AppendsResults step (take k old) new f →
    (n : ℕ) → entry new n ≡ entry old n
grown step only old new k f h a n =
    ap (λ xs. entry xs n) (a.2 ∙ ap (λ xs. xs ++ a.0) (take_all k old h))
    ∙ entry-append old a.0 (all_none step only f a.1 a.0 a.3) n

pub set_to : (old mid : List (Option Tree)) (n : ℕ) (t : Tree) → n < length mid →
    ((m : ℕ) → entry mid m ≡ entry old m) → IsSetTo old n t (set mid n (Some t))
set_to old mid n t h e = (
  get_or-set_same mid n (Some t) None h,
  λ m other. get_or-set_other mid n m (Some t) None other ∙ e m,
)
