-- How what a walk finds is put together.
use Rattle.std.proofs.Common.{◌≡◌, ℕ, ◌+◌, suc, ◌≤◌, length, List, [], ◌∷◌, ◌++◌, map, Some, Option, refl, ap, sym}
use Rattle.std.proofs.Common.{◌∙◌, subst, arith, append_assoc, length-append, get_or, take, add-one, ◌-◌}
use Rattle.std.specs.Prelude.{slice_get, IfSome}
use Rattle.std.specs.List.{AllByRecursion}
use Rattle.std.proofs.lemmas.Option.{get_or_from_slice_get}
use Rattle.std.proofs.lemmas.List.{map-append, append-nil, length-map}
use Rattle.term_core.specs.Tree.{Tree, Trees, var, app, trees_of, list_of}
use Rattle.term_core.specs.Places.{IsAt}
use Rattle.term_core.proofs.Items.{all_at, all_append}
use Rattle.spec_core.specs.declared.records.Spec.{Spec}
use Rattle.substitutions.specs.Substitution.{apply}
use Rattle.normalization.specs.Uses.{Use, IsStuck}
use Rattle.normalization.specs.FirstUses.{Before, IsFirstUse}
use Rattle.normalization.specs.NormalForms.{IsNormal, Runs}
use Rattle.normalization.specs.Narrow.{IsNarrow}
use Rattle.normalization.specs.Found.{Found}
use Rattle.normalization.specs.Walks.{below, Normalized, Exceeds}
use Rattle.normalization.specs.Openings.{Opened, Advanced, IsWalkOfAll, AreDone, HasNormalArguments}
use Rattle.normalization.proofs.NormalTerms.{app_normal, args_normal}
use Rattle.normalization.proofs.Chains.{runs_append, runs_below}
use Rattle.normalization.proofs.Fine.{all_are_narrow, narrow_all}
use Rattle.term_core.proofs.Trees.{list_of-trees_of}

-- uses that are added in two parts
added_both : (place : List ℕ) (old new first more : List (List ℕ × ℕ)) → new ≡ (old ++ map (below place) first)
    ++ map (below place) more → new ≡ old ++ map (below place) (first ++ more)
added_both place old new first more e =
    e ∙ append_assoc old (map (below place) first) (map (below place) more)
    ∙ ap (λ xs. old ++ xs) (sym (map-append (below place) first more))

counted_both : (place : List ℕ) (old first more : List (List ℕ × ℕ)) (n : ℕ) →
    length (old ++ map (below place) first) + length more ≡ n → length old + length (first ++ more) ≡ n
counted_both place old first more n e =
    let a = length-append old (map (below place) first) in
    let b = length-map first (below place) in
    let c = length-append first more in
    omega arith

-- a term that exceeds the budget after some uses
pub exceeds_after : (spec : Spec) (place : List ℕ) (budget : ℕ) (t u : Tree)
    (first old middle : List (List ℕ × ℕ)) → Runs spec t first u → middle ≡ old ++ map (below place) first →
    Exceeds spec budget u middle → Exceeds spec budget t old
exceeds_after spec place budget t u first old middle runs e w = record {
  uses = first ++ w.uses;
  last = w.last;
  runs = runs_append spec t u w.last first w.uses runs w.runs;
  many = counted_both place old first w.uses (suc budget) (ap (λ xs. length xs + length w.uses) (sym e) ∙ w.many);
}

-- below the root of a term with normal arguments all is stuck
arguments_stuck : (spec : Spec) (t : Tree) → HasNormalArguments spec t → (p : List ℕ) (s : Tree) → Before p [] →
    IsAt p t s → IsStuck spec s
arguments_stuck spec t args [] s b at = absurd b
arguments_stuck spec (var n) args (k ∷ p) s b at = absurd at
arguments_stuck spec (app f ts) args (k ∷ p) s b at = all_at (IsNormal spec) (list_of ts) args.0.0 at.1.0 at.0
    at.1.2 p s at.2

-- a use at the root
pub root_use : (spec : Spec) (t : Tree) (index : ℕ) (entries : List (Option Tree)) → HasNormalArguments spec t →
    (found : Found spec t index entries) → IsFirstUse spec t [] (suc index) (apply entries found.rule.right)
root_use spec t index entries args found = record {
  old = t;
  new = apply entries found.rule.right;
  at = refl;
  rule = record {
    rule = found.rule;
    entries = entries;
    listed = (index, refl, found.listed);
    unguarded = found.unguarded;
    left = found.matched.0;
    right = refl;
  };
  made = refl;
  first = arguments_stuck spec t args;
  least = found.least;
}

-- the trace after a use at the root
pub root_added : (place : List ℕ) (index : ℕ) (old middle : List (List ℕ × ℕ)) →
    middle ≡ old ++ (place, index + 1) ∷ [] → middle ≡ old ++ map (below place) (([], suc index) ∷ [])
root_added place index old middle e =
    let k : (place, index + 1) ≡ (place ++ [], suc index) = ap (λ p. (p, index + 1)) (sym (append-nil place))
    ∙ ap (λ n. (place ++ [], n)) (add-one index) in
    e ∙ ap (λ x. old ++ x ∷ []) k

-- the chain of that use alone
pub root_runs : (spec : Spec) (t : Tree) (index : ℕ) (entries : List (Option Tree)) →
    HasNormalArguments spec t → (found : Found spec t index entries) →
    Runs spec t (([], suc index) ∷ []) (apply entries found.rule.right)
root_runs spec t index entries args found = (
  apply entries found.rule.right,
  root_use spec t index entries args found,
  tt,
  refl,
)

-- an opening that goes on by a use at the root and the opening of the right side
module _ (spec : Spec) (place : List ℕ) (budget : ℕ) (t u : Tree) (index : ℕ) (entries : List (Option Tree))
    (old here middle : List (List ℕ × ℕ)) (o : Opened spec place budget t old here u)
    (found : Found spec u index entries) (e : middle ≡ here ++ (place, index + 1) ∷ []) where
  both : middle ≡ old ++ map (below place) (o.uses ++ ([], suc index) ∷ [])
  both = added_both place old middle o.uses (([], suc index) ∷ []) (root_added place index here middle e
      ∙ ap (λ xs. xs ++ map (below place) (([], suc index) ∷ [])) o.added)

  chain : Runs spec t (o.uses ++ ([], suc index) ∷ []) (apply entries found.rule.right)
  chain = runs_append spec t u (apply entries found.rule.right) o.uses (([], suc index) ∷ []) o.runs
      (root_runs spec u index entries o.normal found)

  pub opened_again : (new : List (List ℕ × ℕ)) (v : Tree) →
      Opened spec place budget (apply entries found.rule.right) middle new v → Opened spec place budget t old new v
  opened_again new v w = record {
    uses = (o.uses ++ ([], suc index) ∷ []) ++ w.uses;
    runs = runs_append spec t (apply entries found.rule.right) v (o.uses ++ ([], suc index) ∷ []) w.uses chain w.runs;
    normal = w.normal;
    added = added_both place old new (o.uses ++ ([], suc index) ∷ []) w.uses
        (w.added ∙ ap (λ xs. xs ++ map (below place) w.uses) both);
    within = w.within;
  }

  pub exceeds_again : Exceeds spec budget (apply entries found.rule.right) middle → Exceeds spec budget t old
  exceeds_again w = exceeds_after spec place budget t (apply entries found.rule.right)
      (o.uses ++ ([], suc index) ∷ []) old middle chain both w

-- no budget is left for a use at the root
pub root_exceeds : (spec : Spec) (budget : ℕ) (t : Tree) (index : ℕ) (entries : List (Option Tree))
    (old : List (List ℕ × ℕ)) → HasNormalArguments spec t → Found spec t index entries → length old ≡ budget →
    Exceeds spec budget t old
root_exceeds spec budget t index entries old args found e = record {
  uses = ([], suc index) ∷ [];
  last = apply entries found.rule.right;
  runs = (apply entries found.rule.right, root_use spec t index entries args found, tt, refl);
  many = omega (arith, e);
}

args_narrow : (spec : Spec) (t : Tree) → HasNormalArguments spec t → IsNarrow t
args_narrow spec (var n) args = tt
args_narrow spec (app f ts) args = (args.1, all_are_narrow ts args.0.1)

pub args_stuck_normal : (spec : Spec) (t : Tree) → HasNormalArguments spec t → IsStuck spec t → IsNormal spec t
args_stuck_normal spec (var n) args stuck [] s at = λ number u w. stuck number u (subst (λ x. Use spec number x u) at w)
args_stuck_normal spec (var n) args stuck (k ∷ p) s at = absurd at
args_stuck_normal spec (app f ts) args stuck p s at = app_normal spec f ts args.0.0 stuck p s at

-- an opened term at whose root nothing matches
pub opened_normal : (spec : Spec) (place : List ℕ) (budget : ℕ) (t : Tree) (old new : List (List ℕ × ℕ))
    (v : Tree) → Opened spec place budget t old new v → IsStuck spec v → Normalized spec place budget t old new v
opened_normal spec place budget t old new v o stuck = record {
  uses = o.uses;
  runs = o.runs;
  normal = args_stuck_normal spec v o.normal stuck;
  narrow = args_narrow spec v o.normal;
  added = o.added;
  within = o.within;
}

normal_arguments : (spec : Spec) (v : Tree) → IsNormal spec v → IsNarrow v → HasNormalArguments spec v
normal_arguments spec (var n) normal narrow = tt
normal_arguments spec (app f ts) normal narrow = ((args_normal spec f ts normal, narrow_all ts narrow.1), narrow.0)

-- a term that is normal already, and a copy of it
pub opened_copy : (spec : Spec) (place : List ℕ) (budget : ℕ) (t v : Tree) (old : List (List ℕ × ℕ)) → v ≡ t →
    IsNormal spec v → IsNarrow v → length old ≤ budget → Opened spec place budget t old old v
opened_copy spec place budget t v old e normal narrow within = record {
  uses = [];
  runs = e;
  normal = normal_arguments spec v normal narrow;
  added = sym (append-nil old);
  within = within;
}

below_twice : (place : List ℕ) (k : ℕ) (ws : List (List ℕ × ℕ)) →
    map (below (place ++ k ∷ [])) ws ≡ map (below place) (map (below (k ∷ [])) ws)
below_twice place k [] = refl
below_twice place k (w ∷ ws) =
    let e : ((place ++ k ∷ []) ++ w.0, w.1) ≡ (place ++ (k ∷ w.0), w.1) = ap (λ p. (p, w.1))
    (append_assoc place (k ∷ []) w.0) in
    ap (λ x. x ∷ map (below (place ++ k ∷ [])) ws) e
    ∙ ap (λ xs. (place ++ (k ∷ w.0), w.1) ∷ xs) (below_twice place k ws)

-- no argument is normalized yet
pub advance_none : (spec : Spec) (place : List ℕ) (budget : ℕ) (ts made rest : List Tree)
    (old : List (List ℕ × ℕ)) → made ≡ [] → rest ≡ ts → length old ≤ budget →
    Advanced spec place budget ts old old made rest
advance_none spec place budget ts made rest old e r within = record {
  uses = [];
  runs = λ f. ap (λ us. app f (trees_of (us ++ rest))) e ∙ ap (λ us. app f (trees_of us)) r;
  done = subst (λ us. AreDone spec us) (sym e) (tt, tt);
  added = sym (append-nil old);
  within = within;
}

-- the first of the arguments that are left is normalized
module _ (spec : Spec) (place here : List ℕ) (budget : ℕ) (ts made : List Tree) (t : Tree) (rest : List Tree)
    (old middle : List (List ℕ × ℕ)) (a : Advanced spec place budget ts old middle made (t ∷ rest))
    (e : here ≡ place ++ (length made + 1) ∷ []) where
  pub advance : (v : Tree) (new : List (List ℕ × ℕ)) (more : List Tree) → more ≡ made ++ v ∷ [] →
      Normalized spec here budget t middle new v → Advanced spec place budget ts old new more rest
  advance v new more m one =
      let next = map (below ((length made + 1) ∷ [])) one.uses in
      let k : new ≡ middle ++ map (below place) next = one.added ∙ ap (λ p. middle ++ map (below p) one.uses) e
      ∙ ap (λ xs. middle ++ xs) (below_twice place (length made + 1) one.uses) in
      let whole : made ++ v ∷ rest ≡ more ++ rest = sym (append_assoc made (v ∷ []) rest)
      ∙ ap (λ us. us ++ rest) (sym m) in
      record {
        uses = a.uses ++ next;
        runs = λ f. runs_append spec _ (app f (trees_of (made ++ t ∷ rest))) _ a.uses next (a.runs f)
            (subst (λ us. Runs spec (app f (trees_of (made ++ t ∷ rest))) next (app f (trees_of us))) whole
            (runs_below spec f made rest a.done.0 t v one.uses one.runs));
        done = subst (λ us. AreDone spec us) (sym m) (
          all_append (IsNormal spec) made (v ∷ []) a.done.0 (one.normal, tt),
          all_append IsNarrow made (v ∷ []) a.done.1 (one.narrow, tt),
        );
        added = added_both place old new a.uses next (k ∙ ap (λ xs. xs ++ map (below place) next) a.added);
        within = one.within;
      }

  -- or has too many uses
  pub advance_exceeds : (f : ℕ) → Exceeds spec budget t middle → Exceeds spec budget (app f (trees_of ts)) old
  advance_exceeds f w =
      let next = map (below ((length made + 1) ∷ [])) w.uses in
      let n : length middle + length next ≡ suc budget = omega (
        arith,
        w.many,
        length-map w.uses (below ((length made + 1) ∷ [])),
      ) in
      record {
        uses = a.uses ++ next;
        last = app f (trees_of (made ++ w.last ∷ rest));
        runs = runs_append spec _ (app f (trees_of (made ++ t ∷ rest))) _ a.uses next (a.runs f)
            (runs_below spec f made rest a.done.0 t w.last w.uses w.runs);
        many = counted_both place old a.uses next (suc budget) (ap (λ xs. length xs + length next) (sym a.added) ∙ n);
      }

-- all arguments are normalized
pub all_advanced : (spec : Spec) (place : List ℕ) (budget f : ℕ) (ts : List Tree) (old new : List (List ℕ × ℕ))
    (vs : List Tree) (t v : Tree) → IsWalkOfAll spec place budget ts old new (Some vs) → length ts ≤ 8 →
    app f (trees_of ts) ≡ t → v ≡ app f (trees_of vs) → Opened spec place budget t old new v
all_advanced spec place budget f ts old new vs t v w few e is =
    let a = w.0 in
    let k = list_of-trees_of vs in
    let n : length vs ≤ 8 = omega (arith, w.1) in
    record {
      uses = a.uses;
      runs = subst (λ x. Runs spec t a.uses x) (sym is) (subst (λ x. Runs spec x a.uses (app f (trees_of vs))) e
          (subst (λ us. Runs spec (app f (trees_of ts)) a.uses (app f (trees_of us))) (append-nil vs) (a.runs f)));
      normal = subst (λ u. HasNormalArguments spec u) (sym is) (
        (
          subst (λ us. AllByRecursion (IsNormal spec) us) (sym k) a.done.0,
          subst (λ us. AllByRecursion IsNarrow us) (sym k) a.done.1,
        ),
        subst (λ us. length us ≤ 8) (sym k) n,
      );
      added = a.added;
      within = a.within;
    }

-- the item of a slice at an index
pub same_item : {X : Type 0} (xs ys : List X) (i : ℕ) (x y : X) → ys ≡ xs → slice_get xs i ≡ Some y →
    x ≡ get_or ys i x → x ≡ y
same_item xs ys i x y e at is =
    let k : get_or xs i x ≡ y = get_or_from_slice_get xs i y x at in
    is ∙ ap (λ zs. get_or zs i x) e ∙ k

-- a list with one more item
pub one_more : {X : Type 0} (xs ys : List X) (x : X) → ys ≡ xs ++ x ∷ [] → length ys ≡ length xs + 1
one_more xs ys x e = ap (λ zs. length zs) e ∙ length-append xs (x ∷ [])

pub grows : (place : List ℕ) (old new uses : List (List ℕ × ℕ)) → new ≡ old ++ map (below place) uses →
    length old ≤ length new
grows place old new uses e =
    let a = ap (λ xs. length xs) e in
    let b = length-append old (map (below place) uses) in
    omega arith

-- a place with one number more
pub one_deeper : (place short long : List ℕ) (i n : ℕ) → long ≡ short ++ (i + 1) ∷ [] → short ≡ place → n ≡ i →
    long ≡ place ++ (n + 1) ∷ []
one_deeper place short long i n e s k = e ∙ ap (λ p. p ++ (i + 1) ∷ []) s ∙ ap (λ j. place ++ (j + 1) ∷ []) (sym k)

-- a use that is added at the same place
pub added_at : (old new : List (List ℕ × ℕ)) (p q : List ℕ) (n : ℕ) → new ≡ old ++ (p, n) ∷ [] → p ≡ q →
    new ≡ old ++ (q, n) ∷ []
added_at old new p q n e k = e ∙ ap (λ r. old ++ (r, n) ∷ []) k

take_front : (xs ys : List ℕ) → take (length xs) (xs ++ ys) ≡ xs
take_front [] ys = refl
take_front (x ∷ xs) ys = ap (λ zs. x ∷ zs) (take_front xs ys)

-- a place after its last number is taken off
pub popped : (place long short : List ℕ) (k n : ℕ) → long ≡ place ++ k ∷ [] → short ≡ take (n - 1) long →
    n ≡ length long → short ≡ place
popped place long short k n e t m =
    let a = one_more place long k e in
    let b : n - 1 ≡ length place = omega arith in
    t ∙ ap (λ j. take j long) b ∙ ap (λ xs. take (length place) xs) e ∙ take_front place (k ∷ [])

-- a fact that holds if there is a value
pub if_some : {X : Type 0} (o : Option X) (x : X) (P : Type 0) → o ≡ Some x → IfSome o (λ _. P) → P
if_some o x P e h = subst (λ p. IfSome p (λ _. P)) e h

-- below the root of a symbol with normal arguments all is stuck
pub normal_before : (spec : Spec) (f : ℕ) (ts : Trees) → AllByRecursion (IsNormal spec) (list_of ts) →
    (p : List ℕ) (s : Tree) → Before p [] → IsAt p (app f ts) s → IsStuck spec s
normal_before spec f ts all [] s b at = absurd b
normal_before spec f ts all (k ∷ p) s b at = all_at (IsNormal spec) (list_of ts) all at.1.0 at.0 at.1.2 p s at.2
