-- What equal applications and equal lists have in common.
use Rattle.std.proofs.Common.{◌≡◌, ℕ, List, [], ◌∷◌}
use Rattle.term_core.specs.Tree.{Tree, Trees, app, none, some}

-- the symbols of two applications
pub head_eq : {f g : ℕ} {ts us : Trees} → app f ts ≡ app g us → f ≡ g
head_eq e = cc

-- the first terms of two lists, and their rests
pub no_more : {t : Tree} {ts : Trees} → some t ts ≡ none → ⊥
no_more e = cc

pub first_eq : {t s : Tree} {ts us : Trees} → some t ts ≡ some s us → t ≡ s
first_eq e = cc

pub others_eq : {t s : Tree} {ts us : Trees} → some t ts ≡ some s us → ts ≡ us
others_eq e = cc

pub nil_not_cons : {X : Type 0} {x : X} {xs : List X} → [] ≡ x ∷ xs → ⊥
nil_not_cons e = cc

pub cons_head : {X : Type 0} {x y : X} {xs ys : List X} → x ∷ xs ≡ y ∷ ys → x ≡ y
cons_head e = cc

pub cons_tail : {X : Type 0} {x y : X} {xs ys : List X} → x ∷ xs ≡ y ∷ ys → xs ≡ ys
cons_tail e = cc
