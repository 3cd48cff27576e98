-- The numbers of a function's rules: each is that of such a rule, all are there, and they ascend.
-- How the table of them grows.
use Rattle.std.proofs.Common.{◌≡◌, ◌≢◌, ℕ, zero, suc, ◌+◌, ◌<◌, List, [], ◌∷◌, ◌++◌, Bool, true, false, cond, Some}
use Rattle.std.proofs.Common.{None, inl, inr, refl, ap, sym, ◌∙◌, subst, arith, get_or, length, map, take, length-take}
use Rattle.std.specs.Prelude.{slice_get, ◌==◌}
use Rattle.std.proofs.lemmas.List.{take_more, append-nil}
use Rattle.std.proofs.lemmas.Bool.Decides.{nat_tests}
use Rattle.term_core.specs.Tree.{Tree, Trees, var, app, instance, instances}
use Rattle.term_core.proofs.Numbers.{same_or_not}
use Rattle.spec_core.specs.declared.records.Rule.{Rule}
use Rattle.spec_core.specs.RuleTables.{has_head, numbers_of, AddsPlace}
use Rattle.spec_core.specs.Sig.{Sig}
use Rattle.spec_core.specs.WellSorted.{IsLeft}

pub head_here : (g f : ℕ) (ts : Trees) (t : Tree) → app f ts ≡ t → g ≡ f → has_head g t ≡ true
head_here g f ts t e h =
    let b : (g == f) ≡ true = grind (arith, nat_tests) in
    subst (λ x. has_head g x ≡ true) e b

pub head_other : (g f : ℕ) (ts : Trees) (t : Tree) → app f ts ≡ t → g ≢ f → has_head g t ≡ false
head_other g f ts t e h =
    let b : (g == f) ≡ false = grind (arith, nat_tests) in
    subst (λ x. has_head g x ≡ false) e b

pub head_is : (f : ℕ) (t : Tree) → has_head f t ≡ true → (ts : Trees) × (t ≡ app f ts)
head_is f (var n) h = absurd (let q : false ≡ true = h in cc)
head_is f (app g ts) h =
    let e : g ≡ f = grind (arith, nat_tests) in
    (ts, ap (λ k. app k ts) e)

-- an instance of a left side begins as it does
pub instance_head : (sig : Sig) (left : Tree) (f : ℕ) (xs : List Tree) (ts : Trees) → IsLeft sig left →
    instance xs left ≡ app f ts → has_head f left ≡ true
instance_head sig (var n) f xs ts l e = absurd l
instance_head sig (app g us) f xs ts l e =
    let q : app g (instances xs us) ≡ app f ts = e in
    let k : g ≡ f = cc in
    grind (arith, nat_tests)

-- the rule at a place, whose left side calls the function
pub record RuleOf (f : ℕ) (rs : List Rule) (k : ℕ) : Type 0 where
  pub rule : Rule
  pub there : slice_get rs k ≡ Some rule
  pub args : Trees
  pub calls : rule.left ≡ app f args

later_rule : (f : ℕ) (r : Rule) (rs : List Rule) (k : ℕ) → RuleOf f rs k → RuleOf f (r ∷ rs) (suc k)
later_rule f r rs k h = record { rule = h.rule; there = h.there; args = h.args; calls = h.calls }

number_has_rule : (f n : ℕ) (rs : List Rule) (j m : ℕ) → slice_get (numbers_of f n rs) j ≡ Some m →
    (k : ℕ) × (m ≡ n + k) × RuleOf f rs k
number_has_rule f n [] j m at = absurd (let q : None ≡ Some m = at in cc)
number_has_rule f n (r ∷ rs) j m at = by (has_head f r.left) j (head_is f r.left)
    at (λ i e. number_has_rule f (suc n) rs i m e)
  where
    by : (b : Bool) (j : ℕ) → (b ≡ true → (ts : Trees) × (r.left ≡ app f ts)) →
        slice_get (cond b (n ∷ numbers_of f (suc n) rs) (numbers_of f (suc n) rs)) j ≡ Some m →
        ((i : ℕ) → slice_get (numbers_of f (suc n) rs) i ≡ Some m → (k : ℕ) × (m ≡ suc n + k) × RuleOf f rs k) →
        (k : ℕ) × (m ≡ n + k) × RuleOf f (r ∷ rs) k
    by true zero d e more =
        let q : Some n ≡ Some m = e in
        let p : n ≡ m = cc in
        let h = d refl in
        (0, omega arith, record { rule = r; there = refl; args = h.0; calls = h.1 })
    by true (suc i) d e more =
        let h = more i e in
        (suc h.0, omega (arith, h.1), later_rule f r rs h.0 h.2)
    by false i d e more =
        let h = more i e in
        (suc h.0, omega (arith, h.1), later_rule f r rs h.0 h.2)

-- each of a function's places is that of a rule of this function
pub place_has_rule : (f : ℕ) (rs : List Rule) (j m : ℕ) → slice_get (numbers_of f 0 rs) j ≡ Some m → RuleOf f rs m
place_has_rule f rs j m at =
    let h = number_has_rule f 0 rs j m at in
    let e : h.0 ≡ m = omega (arith, h.1) in
    subst (λ k. RuleOf f rs k) e h.2

rule_has_number : (f n : ℕ) (rs : List Rule) (k : ℕ) (rule : Rule) → slice_get rs k ≡ Some rule →
    has_head f rule.left ≡ true → (j : ℕ) × (slice_get (numbers_of f n rs) j ≡ Some (n + k))
rule_has_number f n [] k rule at h = absurd (let q : None ≡ Some rule = at in cc)
rule_has_number f n (r ∷ rs) zero rule at h =
    let q : Some r ≡ Some rule = at in
    let e : r ≡ rule = cc in
    let t : has_head f r.left ≡ true = ap (λ (x : Rule). has_head f x.left) e ∙ h in
    let z : n + 0 ≡ n = omega arith in
    (0, rw (t, z) refl)
rule_has_number f n (r ∷ rs) (suc k) rule at h =
    let z : suc n + k ≡ n + suc k = omega arith in
    let i = rule_has_number f (suc n) rs k rule at h in
    by (has_head f r.left) i.0 (i.1 ∙ ap (λ m. Some m) z)
  where
    by : (b : Bool) (j : ℕ) → slice_get (numbers_of f (suc n) rs) j ≡ Some (n + suc k) →
        (i : ℕ) × (slice_get (cond b (n ∷ numbers_of f (suc n) rs) (numbers_of f (suc n) rs)) i ≡ Some (n + suc k))
    by true j e = (suc j, e)
    by false j e = (j, e)

-- each rule of the function has its place among them
pub rule_has_place : (f : ℕ) (rs : List Rule) (k : ℕ) (rule : Rule) → slice_get rs k ≡ Some rule →
    has_head f rule.left ≡ true → (j : ℕ) × (slice_get (numbers_of f 0 rs) j ≡ Some k)
rule_has_place f rs k rule at h =
    let i = rule_has_number f 0 rs k rule at h in
    let z : 0 + k ≡ k = omega arith in
    (i.0, i.1 ∙ ap (λ m. Some m) z)

-- of two numbers the less comes first
pub ascending : (f n : ℕ) (rs : List Rule) (i j a b : ℕ) → slice_get (numbers_of f n rs) i ≡ Some a →
    slice_get (numbers_of f n rs) j ≡ Some b → a < b → i < j
ascending f n [] i j a b at other less = absurd (let q : None ≡ Some a = at in cc)
ascending f n (r ∷ rs) i j a b at other less = by (has_head f r.left) i j at other
    (λ i j p q. ascending f (suc n) rs i j a b p q less)
  where
    by : (t : Bool) (i j : ℕ) → slice_get (cond t (n ∷ numbers_of f (suc n) rs) (numbers_of f (suc n) rs))
        i ≡ Some a → slice_get (cond t (n ∷ numbers_of f (suc n) rs) (numbers_of f (suc n) rs)) j ≡ Some b →
        ((i j : ℕ) → slice_get (numbers_of f (suc n) rs) i ≡ Some a →
        slice_get (numbers_of f (suc n) rs) j ≡ Some b → i < j) → i < j
    by false i j p q later = later i j p q
    by true zero zero p q later =
        let e : n ≡ a = let s : Some n ≡ Some a = p in cc in
        let d : n ≡ b = let s : Some n ≡ Some b = q in cc in
        absurd (omega (arith, e, d))
    by true zero (suc j) p q later = omega arith
    by true (suc i) zero p q later =
        let d : n ≡ b = let s : Some n ≡ Some b = q in cc in
        let k = number_has_rule f (suc n) rs i a p in
        absurd (omega (arith, d, k.1))
    by true (suc i) (suc j) p q later = omega (arith, later i j p q)

-- numbers that count from one more
pub numbers_after : (f n : ℕ) (rs : List Rule) → map (λ k. suc k) (numbers_of f n rs) ≡ numbers_of f (suc n) rs
numbers_after f n [] = refl
numbers_after f n (r ∷ rs) = by (has_head f r.left) (numbers_after f (suc n) rs)
  where
    by : (b : Bool) → map (λ k. suc k) (numbers_of f (suc n) rs) ≡ numbers_of f (suc (suc n)) rs →
        map (λ k. suc k) (cond b (n ∷ numbers_of f (suc n) rs) (numbers_of f (suc n) rs)) ≡ cond b
        (suc n ∷ numbers_of f (suc (suc n)) rs) (numbers_of f (suc (suc n)) rs)
    by true p = ap (λ xs. suc n ∷ xs) p
    by false p = p

numbers_of-append : (f n : ℕ) (rs : List Rule) (r : Rule) → numbers_of f n (rs ++ r ∷ []) ≡ numbers_of f n rs
    ++ cond (has_head f r.left) ((n + length rs) ∷ []) []
numbers_of-append f n [] r =
    let e : n + 0 ≡ n = omega arith in
    rw e refl
numbers_of-append f n (x ∷ rs) r =
    let e : suc n + length rs ≡ n + suc (length rs) = omega arith in
    let h = numbers_of-append f (suc n) rs r in
    by (has_head f x.left) (h ∙ ap (λ m. numbers_of f (suc n) rs ++ cond (has_head f r.left) (m ∷ []) []) e)
  where
    by : (b : Bool) → numbers_of f (suc n) (rs ++ r ∷ []) ≡ numbers_of f (suc n) rs
        ++ cond (has_head f r.left) ((n + suc (length rs)) ∷ []) [] →
        cond b (n ∷ numbers_of f (suc n) (rs ++ r ∷ [])) (numbers_of f (suc n) (rs ++ r ∷ [])) ≡ cond b
        (n ∷ numbers_of f (suc n) rs) (numbers_of f (suc n) rs)
        ++ cond (has_head f r.left) ((n + suc (length rs)) ∷ []) []
    by true p = ap (λ xs. n ∷ xs) p
    by false p = p

numbers_here : (f : ℕ) (rs : List Rule) (r : Rule) → has_head f r.left ≡ true →
    numbers_of f 0 (rs ++ r ∷ []) ≡ numbers_of f 0 rs ++ length rs ∷ []
numbers_here f rs r h =
    let e : 0 + length rs ≡ length rs = omega arith in
    numbers_of-append f 0 rs r ∙ rw (h, e) refl

numbers_other : (f : ℕ) (rs : List Rule) (r : Rule) → has_head f r.left ≡ false →
    numbers_of f 0 (rs ++ r ∷ []) ≡ numbers_of f 0 rs
numbers_other f rs r h = numbers_of-append f 0 rs r ∙ rw h (append-nil (numbers_of f 0 rs))

-- the lists are those of these rules
abbrev pub AreLists : List (List ℕ) → List Rule → Type 0
AreLists lists rs = (f : ℕ) → get_or lists f [] ≡ numbers_of f 0 rs

-- one more empty list
pub empty_more : (lists : List (List ℕ)) (g : ℕ) → get_or (lists ++ [] ∷ []) g [] ≡ get_or lists g []
empty_more [] zero = refl
empty_more [] (suc g) = refl
empty_more (xs ∷ lists) zero = refl
empty_more (xs ∷ lists) (suc g) = empty_more lists g

-- one more rule, with its place in its function's list
rule_added : (rs : List Rule) (r : Rule) (old new : List (List ℕ)) (f : ℕ) (ts : Trees) → AreLists old rs →
    app f ts ≡ r.left → AddsPlace old new f (length rs) → AreLists new (rs ++ r ∷ [])
rule_added rs r old new f ts h is adds g = elim (same_or_not g f) [
  | inl e ↦ ap (λ k. get_or new k []) e ∙ adds.added ∙ ap (λ k. get_or old k [] ++ length rs ∷ []) (sym e)
      ∙ ap (λ xs. xs ++ length rs ∷ []) (h g) ∙ sym (numbers_here g rs r (head_here g f ts r.left is e))
  | inr e ↦ adds.others g e ∙ h g ∙ sym (numbers_other g rs r (head_other g f ts r.left is e))
]

-- one more rule of which no function is known
rule_without : (rs : List Rule) (r : Rule) (lists : List (List ℕ)) (m : ℕ) → AreLists lists rs →
    var m ≡ r.left → AreLists lists (rs ++ r ∷ [])
rule_without rs r lists m h is g = h g ∙ sym (numbers_other g rs r (subst (λ t. has_head g t ≡ false) is refl))

-- the same at a place in the list of all rules
module _ (items rs : List Rule) (i : ℕ) (r : Rule) (e : items ≡ rs) (within : i < length items)
    (is : r ≡ get_or items i r) where
  taken : take i rs ++ r ∷ [] ≡ take (i + 1) rs
  taken =
      let h : i < length rs = subst (λ xs. i < length xs) e within in
      let g : r ≡ get_or rs i r = subst (λ xs. r ≡ get_or xs i r) e is in
      ap (λ x. take i rs ++ x ∷ []) g ∙ sym (take_more rs i r h)

  pub rule_added_at : (old new : List (List ℕ)) (f : ℕ) (ts : Trees) → AreLists old (take i rs) →
      app f ts ≡ r.left → AddsPlace old new f i → AreLists new (take (i + 1) rs)
  rule_added_at old new f ts h at adds =
      let w : i < length rs = subst (λ xs. i < length xs) e within in
      let k : i ≡ length (take i rs) = grind (arith, length-take) in
      subst (λ xs. AreLists new xs) taken
      (rule_added (take i rs) r old new f ts h at (subst (λ m. AddsPlace old new f m) k adds))

  pub rule_without_at : (lists : List (List ℕ)) (m : ℕ) → AreLists lists (take i rs) → var m ≡ r.left →
      AreLists lists (take (i + 1) rs)
  rule_without_at lists m h at = subst (λ xs. AreLists lists xs) taken (rule_without (take i rs) r lists m h at)
