-- The tests of a left side pass if and only if it matches.
use Rattle.std.proofs.Common.{◌≡◌, inl, inr, ℕ, zero, suc, ◌+◌, ◌<◌, ◌≤◌, List, [], ◌∷◌, ◌++◌, Some, None, Option}
use Rattle.std.proofs.Common.{refl, ap, sym, ◌∙◌, subst, arith, length, length-append, get_or, map}
use Rattle.std.specs.Prelude.{slice_get}
use Rattle.std.proofs.lemmas.List.{map-append, length-map}
use Rattle.std.proofs.lemmas.Option.{slice_get_within}
use Rattle.term_core.proofs.Numbers.{same_or_not}
use Rattle.term_core.specs.Tree.{Tree, var, app, none, some, instance, instances, trees_of}
use Rattle.rule_code.specs.Code.{entries}
use Rattle.rule_code.specs.Laws.{TestsMatch, TestsDecide, RepeatsDecide}
use Rattle.rule_code.specs.Matching.{test, Passes, Unpacks, Fails, Opens, opened, passed, opens, HaveHomes}
use Rattle.rule_code.specs.declared.tests.Test.{Test}

pub get_more : {X : Type 0} (xs ys : List X) (k : ℕ) (x : X) → slice_get xs k ≡ Some x → slice_get (xs ++ ys) k ≡ Some x
get_more [] ys k x e = absurd (let q : None ≡ Some x = e in cc)
get_more (z ∷ xs) ys zero x e = e
get_more (z ∷ xs) ys (suc k) x e = get_more xs ys k x e

-- the value of a slot
pub slot_is : (env : List Tree) (k : ℕ) (v : Tree) → slice_get env k ≡ Some v → instance env (var k) ≡ v
slot_is env k v e = by env k (var k) e
  where
    by : (xs : List Tree) (j : ℕ) (d : Tree) → slice_get xs j ≡ Some v → get_or xs j d ≡ v
    by [] j d e = absurd (let q : None ≡ Some v = e in cc)
    by (x ∷ xs) zero d e = let q : Some x ≡ Some v = e in cc
    by (x ∷ xs) (suc j) d e = by xs j d e

pub some_slot : (env : List Tree) (k : ℕ) → k < length env → slice_get env k ≡ Some (instance env (var k))
some_slot env k lt = by env k (var k) lt
  where
    by : (xs : List Tree) (j : ℕ) (d : Tree) → j < length xs → slice_get xs j ≡ Some (get_or xs j d)
    by [] j d lt = absurd (omega (arith, lt))
    by (x ∷ xs) zero d lt = refl
    by (x ∷ xs) (suc j) d lt = by xs j d (omega (arith, lt))

pub trees_same : (us vs : List Tree) → trees_of us ≡ trees_of vs → us ≡ vs
trees_same [] [] e = refl
trees_same [] (v ∷ vs) e = absurd (let q : none ≡ some v (trees_of vs) = e in cc)
trees_same (u ∷ us) [] e = absurd (let q : some u (trees_of us) ≡ none = e in cc)
trees_same (u ∷ us) (v ∷ vs) e =
    let q : some u (trees_of us) ≡ some v (trees_of vs) = e in
    let a : u ≡ v = cc in
    let b : trees_of us ≡ trees_of vs = cc in
    let c = trees_same us vs b in
    cc

-- the instances of terms in a list
abbrev pub made : List Tree → List Tree → List Tree
made xs ts = map (λ (t : Tree). instance xs t) ts

pub made_trees : (xs us : List Tree) → instances xs (trees_of us) ≡ trees_of (made xs us)
made_trees xs [] = refl
made_trees xs (u ∷ us) = ap (λ z. some (instance xs u) z) (made_trees xs us)

made_at : (xs pats : List Tree) (k : ℕ) (p : Tree) → slice_get pats k ≡ Some p →
    slice_get (made xs pats) k ≡ Some (instance xs p)
made_at xs [] k p e = absurd (let q : None ≡ Some p = e in cc)
made_at xs (y ∷ ys) zero p e =
    let q : Some y ≡ Some p = e in
    let r : y ≡ p = cc in
    ap (λ z. Some (instance xs z)) r
made_at xs (y ∷ ys) (suc k) p e = made_at xs ys k p e

made_append : (xs ps us : List Tree) → made xs (ps ++ us) ≡ made xs ps ++ made xs us
made_append xs ps us = map-append (λ (t : Tree). instance xs t) ps us

module _ (xs pats : List Tree) (k f : ℕ) (us : List Tree) (at : slice_get pats k ≡ Some (app f (trees_of us))) where
  here_made : instance (made xs pats) (var k) ≡ app f (trees_of (made xs us))
  here_made = slot_is (made xs pats) k (instance xs (app f (trees_of us)))
      (made_at xs pats k (app f (trees_of us)) at) ∙ ap (λ z. app f z) (made_trees xs us)

  here_passes : Passes (made xs pats) (test k f (length us)) (made xs us)
  here_passes = (here_made, length-map us (λ (t : Tree). instance xs t))

  passes_made : (vs : List Tree) → Passes (made xs pats) (test k f (length us)) vs →
      made xs pats ++ vs ≡ made xs (pats ++ us)
  passes_made vs p =
      let q : app f (trees_of vs) ≡ app f (trees_of (made xs us)) = sym p.0 ∙ here_made in
      let r : trees_of vs ≡ trees_of (made xs us) = cc in
      ap (λ z. made xs pats ++ z) (trees_same vs (made xs us) r) ∙ sym (made_append xs pats us)

-- if the slots are instances of their patterns, no test fails
pub match_passes : (xs : List Tree) {pats all : List Tree} {k : ℕ} {tests : List Test} →
    Opens pats k tests all → Fails (made xs pats) tests → ⊥
match_passes xs (opened h) f = absurd f
match_passes xs (passed n at o) f = match_passes xs o f
match_passes xs (opens {pats} {k} {tests} f us at o) (inl none_passes) = none_passes (made xs us)
    (here_passes xs pats k f us at)
match_passes xs (opens {pats} {k} {tests} f us at o) (inr (vs, passes, rest)) = match_passes xs o
    (subst (λ es. Fails es tests) (passes_made xs pats k f us at vs passes) rest)

-- and the slots grow to the instances of all patterns
pub match_grows : (xs : List Tree) {pats all : List Tree} {k : ℕ} {tests : List Test} (grown : List Tree) →
    Opens pats k tests all → Unpacks (made xs pats) tests grown → grown ≡ made xs all
match_grows xs grown (opened h) u = u
match_grows xs grown (passed n at o) u = match_grows xs grown o u
match_grows xs grown (opens {pats} {k} {tests} f us at o) (vs, passes, rest) = match_grows xs grown o
    (subst (λ es. Unpacks es tests grown) (passes_made xs pats k f us at vs passes) rest)

-- the first patterns and slots stay
pub opens_keep : {pats all : List Tree} {k : ℕ} {tests : List Test} → Opens pats k tests all →
    (j : ℕ) (p : Tree) → slice_get pats j ≡ Some p → slice_get all j ≡ Some p
opens_keep (opened h) j p e = e
opens_keep (passed n at o) j p e = opens_keep o j p e
opens_keep (opens {pats} f us at o) j p e = opens_keep o j p (get_more pats us j p e)

pub unpacks_keep : (env : List Tree) (tests : List Test) (grown : List Tree) → Unpacks env tests grown →
    (j : ℕ) (v : Tree) → slice_get env j ≡ Some v → slice_get grown j ≡ Some v
unpacks_keep env [] grown u j v e = subst (λ es. slice_get es j ≡ Some v) (sym u) e
unpacks_keep env (t ∷ ts) grown (us, passes, rest) j v e = unpacks_keep (env ++ us) ts grown rest j v
    (get_more env us j v e)

pub entry_at : (env : List Tree) (homes : List ℕ) (n s : ℕ) → slice_get homes n ≡ Some s →
    instance (entries env homes) (var n) ≡ instance env (var s)
entry_at env homes n s e = by homes n (var n) e
  where
    by : (hs : List ℕ) (j : ℕ) (d : Tree) → slice_get hs j ≡ Some s → get_or (entries env hs) j d ≡ instance env (var s)
    by [] j d e = absurd (let q : None ≡ Some s = e in cc)
    by (h ∷ hs) zero d e =
        let q : Some h ≡ Some s = e in
        let r : h ≡ s = cc in
        ap (λ z. instance env (var z)) r
    by (h ∷ hs) (suc j) d e = by hs j d e

-- terms whose instances are the values, place by place
same_made : (xs us vs : List Tree) → length vs ≡ length us →
    ((i : ℕ) (u v : Tree) → slice_get us i ≡ Some u → slice_get vs i ≡ Some v → instance xs u ≡ v) → made xs us ≡ vs
same_made xs [] [] n h = refl
same_made xs [] (v ∷ vs) n h = absurd (omega (arith, n))
same_made xs (u ∷ us) [] n h = absurd (omega (arith, n))
same_made xs (u ∷ us) (v ∷ vs) n h =
    let one : instance xs u ≡ v = h zero u v refl refl in
    let rest : made xs us ≡ vs = same_made xs us vs (omega (arith, n)) (λ i a b p q. h (suc i) a b p q) in
    cc

pub get_past : {X : Type 0} (xs ys : List X) (i : ℕ) (y : X) → slice_get ys i ≡ Some y →
    slice_get (xs ++ ys) (length xs + i) ≡ Some y
get_past [] ys i y e =
    let n : 0 + i ≡ i = omega arith in
    subst (λ z. slice_get ys z ≡ Some y) (sym n) e
get_past (x ∷ xs) ys i y e =
    let n : suc (length xs) + i ≡ suc (length xs + i) = omega arith in
    subst (λ z. slice_get (x ∷ (xs ++ ys)) z ≡ Some y) (sym n) (get_past xs ys i y e)

pub some_same : {X : Type 0} (o : Option X) (x y : X) → o ≡ Some x → o ≡ Some y → x ≡ y
some_same o x y a b =
    let q : Some x ≡ Some y = sym a ∙ b in
    cc

-- if the tests pass, each pattern's instance under the values of the variables' slots is the value of its slot
module _ (homes : List ℕ) (grown : List Tree) where
  pub passed_match : {pats all : List Tree} {k : ℕ} {tests : List Test} (env : List Tree) →
      Opens pats k tests all → HaveHomes all homes grown → Unpacks env tests grown → length env ≡ length pats →
      (j : ℕ) (p v : Tree) → k ≤ j → slice_get pats j ≡ Some p → slice_get env j ≡ Some v →
      instance (entries grown homes) p ≡ v
  passed_match env (opened {pats} h) hs u n j p v le at has = absurd
      (omega (arith, h, le, slice_get_within pats j p at))
  passed_match env (passed {pats} {k} {tests} m here o) hs u n j p v le at has =
      elim (same_or_not j k) [
        | inl e ↦
            let q : p ≡ var m = some_same (slice_get pats k) p (var m)
            (subst (λ z. slice_get pats z ≡ Some p) e at) here in
            let w : slice_get grown k ≡ Some v = unpacks_keep env tests grown u k v
            (subst (λ z. slice_get env z ≡ Some v) e has) in
            let home = hs k m (opens_keep o k (var m) here) in
            let g : instance (entries grown homes) (var m) ≡ v = entry_at grown homes m home.0 home.1 ∙ home.2
            ∙ slot_is grown k v w in
            subst (λ z. instance (entries grown homes) z ≡ v) (sym q) g
        | inr ne ↦ passed_match env o hs u n j p v (omega (arith, le, ne)) at has
      ]
  passed_match env (opens {pats} {k} {tests} f us here o) hs (vs, passes, rest) n j p v le at has =
      let more : length (env ++ vs) ≡ length (pats ++ us) = omega (
        arith,
        n,
        passes.1,
        length-append env vs,
        length-append pats us,
      ) in
      elim (same_or_not j k) [
        | inl e ↦
            let q : p ≡ app f (trees_of us) = some_same (slice_get pats k) p (app f (trees_of us))
            (subst (λ z. slice_get pats z ≡ Some p) e at) here in
            let w : instance env (var k) ≡ v = slot_is env k v (subst (λ z. slice_get env z ≡ Some v) e has) in
            let each : made (entries grown homes) us ≡ vs =
            same_made (entries grown homes) us vs passes.1
            (λ i a b ga gb.
            let gb' : slice_get (env ++ vs) (length pats + i) ≡ Some b = subst
            (λ z. slice_get (env ++ vs) (z + i) ≡ Some b) n (get_past env vs i b gb) in
            passed_match (env ++ vs) o hs rest more (length pats + i) a b
            (omega (arith, slice_get_within pats k (app f (trees_of us)) here)) (get_past pats us i a ga) gb') in
            let g : instance (entries grown homes) (app f (trees_of us)) ≡ v = ap (λ z. app f z)
            (made_trees (entries grown homes) us ∙ ap trees_of each) ∙ sym passes.0 ∙ w in
            subst (λ z. instance (entries grown homes) z ≡ v) (sym q) g
        | inr ne ↦ passed_match (env ++ vs) o hs rest more j p v (omega (arith, le, ne))
            (get_more pats us j p at) (get_more env vs j v has)
      ]

pub tests_match : TestsMatch
tests_match f pats all env grown tests homes o hs n u =
    let e : made (entries grown homes) pats ≡ env = same_made (entries grown homes) pats env n
    (λ i p v a b. passed_match homes grown env o hs u n i p v (omega arith) a b) in
    ap (λ z. app f z) (made_trees (entries grown homes) pats ∙ ap trees_of e)

pub tests_decide : TestsDecide
tests_decide f pats all env xs tests o fails is =
    let q : app f (trees_of (made xs pats)) ≡ app f (trees_of env) = ap (λ z. app f z)
    (sym (made_trees xs pats)) ∙ is in
    let r : trees_of (made xs pats) ≡ trees_of env = cc in
    match_passes xs o (subst (λ es. Fails es tests) (sym (trees_same (made xs pats) env r)) fails)

pub repeats_decide : RepeatsDecide
repeats_decide f pats all env grown xs tests h s n o u at_h at_s is =
    let q : app f (trees_of (made xs pats)) ≡ app f (trees_of env) = ap (λ z. app f z)
    (sym (made_trees xs pats)) ∙ is in
    let r : trees_of (made xs pats) ≡ trees_of env = cc in
    let g : grown ≡ made xs all = match_grows xs grown o
    (subst (λ es. Unpacks es tests grown) (sym (trees_same (made xs pats) env r)) u) in
    let value : (k : ℕ) → slice_get all k ≡ Some (var n) →
    instance grown (var k) ≡ instance xs (var n) = λ k at. slot_is grown k (instance xs (var n))
    (subst (λ z. slice_get z k ≡ Some (instance xs (var n))) (sym g) (made_at xs all k (var n) at)) in
    value h at_h ∙ sym (value s at_s)

-- as many slots as patterns
pub unpacked_count : {pats all : List Tree} {k : ℕ} {tests : List Test} (env grown : List Tree) →
    Opens pats k tests all → length env ≡ length pats → Unpacks env tests grown → length grown ≡ length all
unpacked_count env grown (opened h) n u = ap length u ∙ n
unpacked_count env grown (passed m at o) n u = unpacked_count env grown o n u
unpacked_count env grown (opens {pats} f us at o) n (vs, passes, rest) = unpacked_count (env ++ vs) grown o
    (omega (arith, n, passes.1, length-append env vs, length-append pats us)) rest
