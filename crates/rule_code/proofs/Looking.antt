-- What is at a place of a left side is there in each call that it matches.
use Rattle.std.proofs.Common.{◌≡◌, ℕ, zero, suc, ◌≤◌, List, [], ◌∷◌, Option, Some, None, refl, ap, sym, ◌∙◌, subst}
use Rattle.std.proofs.Common.{length, arith}
use Rattle.std.specs.Prelude.{slice_get}
use Rattle.term_core.proofs.Trees.{trees_of-list_of}
use Rattle.term_core.specs.Tree.{Tree, Trees, var, app, none, some, instance, instances, trees_of, list_of}
use Rattle.spec_core.specs.declared.records.Rule.{Rule}
use Rattle.value_bank.specs.Cells.{Cell, cell, IsTerm, AreTerms}
use Rattle.value_bank.proofs.Terms.{same_cell}
use Rattle.rule_code.specs.Symbols.{root_symbol, arguments_of, symbol_at, symbol_in}
use Rattle.rule_code.specs.declared.symbols.Path.{Path}

pub nothing_at : (below : List ℕ) (i : ℕ) → symbol_at i below [] ≡ None
nothing_at [] i = refl
nothing_at (j ∷ below) i = nothing_at below j

pub missing : (below : List ℕ) (i : ℕ) (terms : List Tree) → slice_get terms i ≡ None → symbol_at i below terms ≡ None
missing [] i terms e = ap root_symbol e
missing (j ∷ below) i terms e = ap (λ z. symbol_at j below (arguments_of z)) e ∙ nothing_at below j

pub blocked : (below : List ℕ) (i n : ℕ) (terms : List Tree) → slice_get terms i ≡ Some (var n) →
    symbol_at i below terms ≡ None
blocked [] i n terms e = ap root_symbol e
blocked (j ∷ below) i n terms e = ap (λ z. symbol_at j below (arguments_of z)) e ∙ nothing_at below j

pub reached : (below : List ℕ) (i f : ℕ) (ts : Trees) (terms : List Tree) →
    slice_get terms i ≡ Some (app f ts) → below ≡ [] → symbol_at i below terms ≡ Some f
reached below i f ts terms e is = ap (λ z. symbol_at i z terms) is ∙ ap root_symbol e

pub deeper : (below rest : List ℕ) (i j f : ℕ) (ts : Trees) (us terms : List Tree) →
    slice_get terms i ≡ Some (app f ts) → below ≡ j ∷ rest → list_of ts ≡ us →
    symbol_at i below terms ≡ symbol_at j rest us
deeper below rest i j f ts us terms e is all = ap (λ z. symbol_at i z terms) is
    ∙ ap (λ z. symbol_at j rest (arguments_of z)) e ∙ ap (λ z. symbol_at j rest z) all

-- an instance of a list of terms

instance_at : (xs pats env : List Tree) (i : ℕ) (t : Tree) → instances xs (trees_of pats) ≡ trees_of env →
    slice_get pats i ≡ Some t → slice_get env i ≡ Some (instance xs t)
instance_at xs [] env i t e at = absurd (let q : None ≡ Some t = at in cc)
instance_at xs (p ∷ pats) [] i t e at = absurd
    (let q : some (instance xs p) (instances xs (trees_of pats)) ≡ none = e in cc)
instance_at xs (p ∷ pats) (v ∷ env) zero t e at =
    let q : some (instance xs p) (instances xs (trees_of pats)) ≡ some v (trees_of env) = e in
    let is : instance xs p ≡ v = cc in
    let k : Some p ≡ Some t = at in
    let same : p ≡ t = cc in
    ap (λ z. Some z) (sym is ∙ ap (λ z. instance xs z) same)
instance_at xs (p ∷ pats) (v ∷ env) (suc i) t e at =
    let q : some (instance xs p) (instances xs (trees_of pats)) ≡ some v (trees_of env) = e in
    let rest : instances xs (trees_of pats) ≡ trees_of env = cc in
    instance_at xs pats env i t rest at

-- a symbol of the terms occurs in their instances
pub seen : (xs : List Tree) (below : List ℕ) (i c : ℕ) (pats env : List Tree) →
    instances xs (trees_of pats) ≡ trees_of env → symbol_at i below pats ≡ Some c → symbol_at i below env ≡ Some c
seen xs [] i c pats env e at = by (slice_get pats i) refl
  where
    by : (o : Option Tree) → slice_get pats i ≡ o → symbol_at i [] env ≡ Some c
    by None is = absurd (let q : None ≡ Some c = sym (ap root_symbol is) ∙ at in cc)
    by (Some (var n)) is = absurd (let q : None ≡ Some c = sym (ap root_symbol is) ∙ at in cc)
    by (Some (app f ts)) is =
        let q : Some f ≡ Some c = sym (ap root_symbol is) ∙ at in
        ap root_symbol (instance_at xs pats env i (app f ts) e is) ∙ q
seen xs (j ∷ below) i c pats env e at = by (slice_get pats i) refl (λ ps es q r. seen xs below j c ps es q r)
  where
    by : (o : Option Tree) → slice_get pats i ≡ o →
        ((ps es : List Tree) → instances xs (trees_of ps) ≡ trees_of es → symbol_at j below ps ≡ Some c →
        symbol_at j below es ≡ Some c) → symbol_at j below (arguments_of (slice_get env i)) ≡ Some c
    by None is again = absurd (let q : None ≡ Some c = sym (nothing_at below j)
        ∙ sym (ap (λ z. symbol_at j below (arguments_of z)) is) ∙ at in cc)
    by (Some (var n)) is again = absurd (let q : None ≡ Some c = sym (nothing_at below j)
        ∙ sym (ap (λ z. symbol_at j below (arguments_of z)) is) ∙ at in cc)
    by (Some (app f ts)) is again =
        let here : symbol_at j below (list_of ts) ≡ Some c = sym
        (ap (λ z. symbol_at j below (arguments_of z)) is) ∙ at in
        let there : slice_get env i ≡ Some (app f (instances xs ts)) = instance_at xs pats env i (app f ts) e is in
        let all : instances xs (trees_of (list_of ts)) ≡ trees_of (list_of (instances xs ts)) = ap
        (λ z. instances xs z) (trees_of-list_of ts) ∙ sym (trees_of-list_of (instances xs ts)) in
        ap (λ z. symbol_at j below (arguments_of z)) there ∙ again (list_of ts) (list_of (instances xs ts)) all here

-- the same of a rule's left side and a call that it matches
pub matched_has : (path : Path) (rule : Rule) (xs env : List Tree) (f c : ℕ) →
    instance xs rule.left ≡ app f (trees_of env) → symbol_in path rule ≡ Some c →
    symbol_at path.argument path.below.items env ≡ Some c
matched_has path rule xs env f c is at = by rule.left refl
  where
    by : (t : Tree) → rule.left ≡ t → symbol_at path.argument path.below.items env ≡ Some c
    by (var n) e = absurd (let q : None ≡ Some c = sym (nothing_at path.below.items path.argument)
        ∙ sym (ap (λ z. symbol_at path.argument path.below.items (arguments_of (Some z))) e) ∙ at in cc)
    by (app g ts) e =
        let q : app g (instances xs ts) ≡ app f (trees_of env) = sym (ap (λ z. instance xs z) e) ∙ is in
        let args : instances xs ts ≡ trees_of env = cc in
        seen xs path.below.items path.argument c (list_of ts) env
        (ap (λ z. instances xs z) (trees_of-list_of ts) ∙ args)
        (sym (ap (λ z. symbol_at path.argument path.below.items (arguments_of (Some z))) e) ∙ at)

-- values at places of a bank

pub no_term : (cells : List Cell) (ps : List ℕ) (ts : List Tree) (k : ℕ) → AreTerms cells ps (trees_of ts) →
    slice_get ps k ≡ None → slice_get ts k ≡ None
no_term cells [] [] k h e = refl
no_term cells [] (t ∷ ts) k h e = absurd h
no_term cells (p ∷ ps) [] k h e = absurd h
no_term cells (p ∷ ps) (t ∷ ts) zero h e = absurd (let q : Some p ≡ None = e in cc)
no_term cells (p ∷ ps) (t ∷ ts) (suc k) h e = no_term cells ps ts k h.1 e

term_of_place : (cells : List Cell) (ps : List ℕ) (ts : List Tree) (k p : ℕ) → AreTerms cells ps (trees_of ts) →
    slice_get ps k ≡ Some p → (t : Tree) × (slice_get ts k ≡ Some t) × IsTerm cells p t
term_of_place cells [] ts k p h e = absurd (let q : None ≡ Some p = e in cc)
term_of_place cells (q ∷ ps) [] k p h e = absurd h
term_of_place cells (q ∷ ps) (t ∷ ts) zero p h e =
    let s : Some q ≡ Some p = e in
    let is : q ≡ p = cc in
    (t, refl, subst (λ z. IsTerm cells z t) is h.0)
term_of_place cells (q ∷ ps) (t ∷ ts) (suc k) p h e = term_of_place cells ps ts k p h.1 e

pub place_there : (cells : List Cell) (ps : List ℕ) (ts : List Tree) (k p : ℕ) →
    AreTerms cells ps (trees_of ts) → slice_get ps k ≡ Some p → (f : ℕ) × (qs : List ℕ)
    × (slice_get cells p ≡ Some (cell f qs))
place_there cells ps ts k p h e = by (term_of_place cells ps ts k p h e).0 (term_of_place cells ps ts k p h e).2
  where
    by : (t : Tree) → IsTerm cells p t → (f : ℕ) × (qs : List ℕ) × (slice_get cells p ≡ Some (cell f qs))
    by (var n) is = absurd is
    by (app f us) (qs, at, all) = (f, qs, at)

-- the value at a place: its symbol and its arguments
pub record ValueAt (cells : List Cell) (ts : List Tree) (k f : ℕ) (args : List ℕ) : Type 0 where
  pub terms : List Tree
  pub at : slice_get ts k ≡ Some (app f (trees_of terms))
  pub stand : AreTerms cells args (trees_of terms)

pub value_at : (cells : List Cell) (ps : List ℕ) (ts : List Tree) (k p f : ℕ) (args : List ℕ) →
    AreTerms cells ps (trees_of ts) → slice_get ps k ≡ Some p → slice_get cells p ≡ Some (cell f args) →
    ValueAt cells ts k f args
value_at cells ps ts k p f args h e there =
    let t = term_of_place cells ps ts k p h e in
    by t.0 t.1 t.2
  where
    by : (t : Tree) → slice_get ts k ≡ Some t → IsTerm cells p t → ValueAt cells ts k f args
    by (var n) at is = absurd is
    by (app g us) at (qs, c, all) =
        let s = same_cell cells p g f qs args c there in
        let are : AreTerms cells args us = subst (λ z. AreTerms cells z us) s.1 all in
        record {
          terms = list_of us;
          at = at ∙ ap (λ z. Some (app z us)) s.0 ∙ ap (λ z. Some (app f z)) (sym (trees_of-list_of us));
          stand = subst (λ z. AreTerms cells args z) (sym (trees_of-list_of us)) are;
        }

pub got_past : {X : Type 0} (xs : List X) (i : ℕ) → length xs ≤ i → slice_get xs i ≡ None
got_past [] i h = refl
got_past (x ∷ xs) zero h = absurd (omega arith)
got_past (x ∷ xs) (suc i) h = got_past xs i (omega arith)
