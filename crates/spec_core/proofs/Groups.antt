-- At most one rule of a whole group has guards that can all hold.
use Rattle.std.proofs.Common.{◌≡◌, ℕ, zero, suc, ◌+◌, List, [], ◌∷◌, Bool, true, false, cond, Some, None, ◌⊎◌, inl}
use Rattle.std.proofs.Common.{inr, refl, ap, sym, ◌∙◌, subst, arith}
use Rattle.std.specs.Prelude.{slice_get}
use Rattle.std.specs.List.{AllByRecursion}
use Rattle.term_core.specs.Tree.{Tree}
use Rattle.term_core.proofs.Members.{In, all_in}
use Rattle.term_core.proofs.SameTrees.{same_tree-refl}
use Rattle.spec_core.specs.declared.records.Rule.{Rule}
use Rattle.spec_core.specs.declared.records.Guard.{Guard}
use Rattle.term_core.specs.Same.{same_tree}
use Rattle.spec_core.specs.Groups.{group, BeginsWith, bool_same, rest_if, wanting, Whole, alone, split}

-- what wants the same of the same test
abbrev pub Agree : List Guard → List Guard → Type 0
Agree gs hs = (a b : Guard) → In a gs → In b hs → a.test ≡ b.test → a.wanted ≡ b.wanted

in_cond : {X : Type 0} (b : Bool) (x y : X) (ys : List X) → In x ys → In x (cond b (y ∷ ys) ys)
in_cond true x y ys i = inr i
in_cond false x y ys i = i

-- a rule with the left side is in the group
pub in_group : (left : Tree) (rs : List Rule) (n k : ℕ) (rule : Rule) → slice_get rs k ≡ Some rule →
    left ≡ rule.left → In (n + k, rule.guards) (group left n rs)
in_group left [] n k rule at e = absurd (let q : None ≡ Some rule = at in cc)
in_group left (r ∷ rs) n zero rule at e =
    let q : Some r ≡ Some rule = at in
    let is : r ≡ rule = cc in
    let h : n + 0 ≡ n = omega arith in
    let l : r.left ≡ left = ap (λ (x : Rule). x.left) is ∙ sym e in
    let t : same_tree left r.left ≡ true = rw l (same_tree-refl left) in
    let g : rule.guards ≡ r.guards = ap (λ (x : Rule). x.guards) (sym is) in
    rw t (inl (λ i. (h i, g i)))
in_group left (r ∷ rs) n (suc k) rule at e =
    let h : n + suc k ≡ suc n + k = omega arith in
    rw h (in_cond (same_tree left r.left) _ (n, r.guards) (group left (suc n) rs)
    (in_group left rs (suc n) k rule at e))

bool_same_self : (w v : Bool) → w ≡ v → bool_same w v ≡ true
bool_same_self true v e = sym e
bool_same_self false v e = rw (← e)

in_rest_if : (w : Bool) (k : ℕ) (gs : List Guard) (ms : List (ℕ × List Guard)) (x : ℕ × List Guard) → In x ms →
    In x (rest_if w k gs ms)
in_rest_if w k [] ms x i = i
in_rest_if w k (g ∷ gs) ms x i = in_cond (bool_same w g.wanted) x (k, gs) ms i

pub in_rests : (w : Bool) (ms : List (ℕ × List Guard)) (k : ℕ) (g : Guard) (gs : List Guard) →
    In (k, g ∷ gs) ms → w ≡ g.wanted → In (k, gs) (wanting w ms)
in_rests w [] k g gs i e = absurd i
in_rests w (m ∷ ms) k g gs (inl p) e =
    let here : In (k, gs) (rest_if w k (g ∷ gs) (wanting w ms)) = rw (bool_same_self w g.wanted e) (inl refl) in
    subst (λ (m : ℕ × List Guard). In (k, gs) (rest_if w m.0 m.1 (wanting w ms))) p here
in_rests w (m ∷ ms) k g gs (inr i) e = in_rest_if w m.0 m.1 (wanting w ms) _ (in_rests w ms k g gs i e)

pub bool_cases : (b : Bool) → (true ≡ b) ⊎ (false ≡ b)
bool_cases true = inl refl
bool_cases false = inr refl

pub begins_with : (ms : List (ℕ × List Guard)) (test : Tree) →
    AllByRecursion (λ (m : ℕ × List Guard). BeginsWith test m.1) ms → (k : ℕ) (gs : List Guard) →
    In (k, gs) ms → BeginsWith test gs
begins_with ms test h k gs i = all_in (λ (m : ℕ × List Guard). BeginsWith test m.1) ms (k, gs) h i

agree_rest : (g h : Guard) (gs hs : List Guard) → Agree (g ∷ gs) (h ∷ hs) → Agree gs hs
agree_rest g h gs hs a x y i j e = a x y (inr i) (inr j) e

pub one_member : {ms : List (ℕ × List Guard)} → Whole ms → (j k : ℕ) (gs hs : List Guard) → In (j, gs) ms →
    In (k, hs) ms → Agree gs hs → j ≡ k
one_member (alone {k = n}) j k gs hs (inl p) (inl q) a = ap (λ (m : ℕ × List Guard). m.0) (p ∙ sym q)
one_member (alone {k = n}) j k gs hs (inr p) q a = absurd p
one_member (alone {k = n}) j k gs hs p (inr q) a = absurd q
one_member (split {ms} test begins at_true at_false) j k [] hs p q a = absurd (begins_with ms test begins j [] p)
one_member (split {ms} test begins at_true at_false) j k (g ∷ gs) [] p q a = absurd (begins_with ms test begins k [] q)
one_member (split {ms} test begins at_true at_false) j k (g ∷ gs) (h ∷ hs) p q a =
    let e : g.test ≡ h.test = begins_with ms test begins j (g ∷ gs) p ∙ sym (begins_with ms test begins k (h ∷ hs) q) in
    let w : g.wanted ≡ h.wanted = a g h (inl refl) (inl refl) e in
    elim (bool_cases g.wanted) [
      | inl t ↦ one_member at_true j k gs hs (in_rests true ms j g gs p t) (in_rests true ms k h hs q (t ∙ w))
          (agree_rest g h gs hs a)
      | inr f ↦ one_member at_false j k gs hs (in_rests false ms j g gs p f)
          (in_rests false ms k h hs q (f ∙ w)) (agree_rest g h gs hs a)
    ]
