-- Entries of a match are normal and narrow if the arguments are, and right sides are narrow.
use Rattle.std.proofs.Common.{◌≡◌, ℕ, ◌+◌, suc, ◌≤◌, inl, inr, length, List, [], ◌∷◌, map, Some, None, Option, refl}
use Rattle.std.proofs.Common.{ap, sym, ◌∙◌, subst, unwrap_or, arith}
use Rattle.std.specs.Option.{IsSome}
use Rattle.std.specs.List.{AllByRecursion}
use Rattle.term_core.specs.Tree.{Tree, Trees, var, app, none, some, trees_of, list_of}
use Rattle.term_core.specs.Measure.{weight, list_weight, list_weight_is}
use Rattle.term_core.proofs.Trees.{list_of-trees_of, trees_of-inj, args_eq}
use Rattle.term_core.specs.declared.ids.SortId.{SortId}
use Rattle.spec_core.specs.declared.records.Spec.{Spec}
use Rattle.spec_core.specs.Sig.{Sig}
use Rattle.spec_core.specs.Sorts.{Sorted, SortedAll}
use Rattle.term_core.specs.Variables.{Occurs, OccursAny}
use Rattle.spec_core.specs.WellSorted.{IsWellSorted, HasFewArguments, IsLeft}
use Rattle.substitutions.specs.Substitution.{entry, image, apply, apply_all}
use Rattle.substitutions.proofs.Instances.{apply_all-trees_of, image_entry, image_none}
use Rattle.matching.specs.Matching.{IsMatch}
use Rattle.normalization.specs.NormalForms.{IsNormal}
use Rattle.normalization.specs.Narrow.{IsNarrow, AreNarrow}
use Rattle.normalization.specs.Walks.{IsFine}
use Rattle.normalization.specs.Openings.{HasNormalArguments}
use Rattle.normalization.proofs.NormalTerms.{args_normal, variable_normal}

sorted_length : (sig : Sig) (ctx : List SortId) (ts : Trees) (ss : List SortId) → SortedAll sig ctx ts ss →
    length (list_of ts) ≡ length ss
sorted_length sig ctx none [] h = refl
sorted_length sig ctx none (s ∷ ss) h = absurd h
sorted_length sig ctx (some t ts) [] h = absurd h
sorted_length sig ctx (some t ts) (s ∷ ss) h = ap (λ n. suc n) (sorted_length sig ctx ts ss h.1)

mutual
  pub sorted_narrow : (sig : Sig) (ctx : List SortId) (t : Tree) (s : SortId) → HasFewArguments sig →
      Sorted sig ctx t s → IsNarrow t
  sorted_narrow sig ctx (var n) s few h = tt
  sorted_narrow sig ctx (app f ts) s few h =
      let n = sorted_length sig ctx ts h.0.args h.3 in
      (omega (arith, few f h.0 h.1), all_narrow sig ctx ts h.0.args few h.3)

  all_narrow : (sig : Sig) (ctx : List SortId) (ts : Trees) (ss : List SortId) → HasFewArguments sig →
      SortedAll sig ctx ts ss → AreNarrow ts
  all_narrow sig ctx none ss few h = tt
  all_narrow sig ctx (some t ts) [] few h = absurd h
  all_narrow sig ctx (some t ts) (s ∷ ss) few h = (sorted_narrow sig ctx t s few h.0, all_narrow sig ctx ts ss few h.1)

pub narrow_all : (ts : Trees) → AreNarrow ts → AllByRecursion IsNarrow (list_of ts)
narrow_all none h = tt
narrow_all (some t ts) h = (h.0, narrow_all ts h.1)

pub all_are_narrow : (ts : Trees) → AllByRecursion IsNarrow (list_of ts) → AreNarrow ts
all_are_narrow none h = tt
all_are_narrow (some t ts) h = (h.0, all_are_narrow ts h.1)

mutual
  -- the image of a variable of the term, if the instance is normal and narrow
  image_fine : (spec : Spec) (t : Tree) (s : List (Option Tree)) (n : ℕ) → IsNormal spec (apply s t) →
      IsNarrow (apply s t) → Occurs n t → IsNormal spec (image s n) × IsNarrow (image s n)
  image_fine spec (var m) s n normal narrow o = (
    subst (λ j. IsNormal spec (image s j)) (sym o) normal,
    subst (λ j. IsNarrow (image s j)) (sym o) narrow,
  )
  image_fine spec (app f ts) s n normal narrow o = images_fine spec ts s n
      (args_normal spec f (apply_all s ts) normal) narrow.1 o

  images_fine : (spec : Spec) (ts : Trees) (s : List (Option Tree)) (n : ℕ) →
      AllByRecursion (IsNormal spec) (list_of (apply_all s ts)) → AreNarrow (apply_all s ts) → OccursAny n ts →
      IsNormal spec (image s n) × IsNarrow (image s n)
  images_fine spec none s n normal narrow o = absurd o
  images_fine spec (some t ts) s n normal narrow (inl o) = image_fine spec t s n normal.0 narrow.0 o
  images_fine spec (some t ts) s n normal narrow (inr o) = images_fine spec ts s n normal.1 narrow.1 o

some_is : {X : Type 0} (o : Option X) (x : X) → o ≡ Some x → IsSome o
some_is None x e = absurd (let q : None ≡ Some x = e in cc)
some_is (Some y) x e = refl

-- the entries of a match of a left side with a term whose arguments are normal and narrow
pub match_fine : (spec : Spec) (left t : Tree) (entries : List (Option Tree)) → IsLeft spec.sig left →
    HasNormalArguments spec t → IsMatch left t entries → IsFine spec entries
match_fine spec (var k) t entries is args m n u e = absurd is
match_fine spec (app f ps) (var k) entries is args m n u e = absurd
    (let q : app f (apply_all entries ps) ≡ var k = m.0 in cc)
match_fine spec (app f ps) (app g ts) entries is args m n u e =
    let same : app f (apply_all entries ps) ≡ app g ts = m.0 in
    let k : ts ≡ apply_all entries ps = cc in
    let o = (m.1 n).0 (some_is (entry entries n) u e) in
    let i : image entries n ≡ u = ap (λ x. unwrap_or x (var n)) e in
    let r = images_fine spec ps entries n (subst (λ us. AllByRecursion (IsNormal spec) (list_of us)) k args.0.0)
    (subst (λ us. AreNarrow us) k (all_are_narrow ts args.0.1)) o in
    (subst (λ x. IsNormal spec x) i r.0, subst (λ x. IsNarrow x) i r.1)

-- the arguments of a symbol, as a slice has them
pub record Parts (args : List Tree) (t : Tree) : Type 0 where
  pub narrow : AllByRecursion IsNarrow args
  pub few : length args ≤ 8
  pub weighs : weight t ≡ list_weight args + 1

parts_here : (f : ℕ) (args : List Tree) → IsNarrow (app f (trees_of args)) → Parts args (app f (trees_of args))
parts_here f args n = record {
  narrow = subst (λ ts. AllByRecursion IsNarrow ts) (list_of-trees_of args) (narrow_all (trees_of args) n.1);
  few = subst (λ ts. length ts ≤ 8) (list_of-trees_of args) n.0;
  weighs = omega (arith, list_weight_is args);
}

pub parts : (f : ℕ) (args slice : List Tree) (t : Tree) → app f (trees_of args) ≡ t → slice ≡ args →
    IsNarrow t → Parts slice t
parts f args slice t e s n =
    subst (λ u. Parts slice u) e (subst (λ ts. Parts ts (app f (trees_of args))) (sym s)
    (parts_here f args (subst (λ u. IsNarrow u) (sym e) n)))

-- the instance of a symbol with arguments
pub walk_args : (f : ℕ) (args slice : List Tree) (t : Tree) (entries : List (Option Tree)) →
    app f (trees_of args) ≡ t → slice ≡ args → app f (trees_of (map (apply entries) slice)) ≡ apply entries t
walk_args f args slice t entries e s =
    ap (λ ts. app f (trees_of (map (apply entries) ts))) s
    ∙ ap (λ us. app f us) (sym (apply_all-trees_of entries args)) ∙ ap (λ u. apply entries u) e

-- the arguments of a term that is an instance of a pattern
pub args_of_instance : (s : List (Option Tree)) (f g : ℕ) (ps slice terms items : List Tree)
    (pattern term : Tree) → app f (trees_of ps) ≡ pattern → slice ≡ ps → app g (trees_of terms) ≡ term →
    items ≡ terms → apply s pattern ≡ term → map (apply s) slice ≡ items
args_of_instance s f g ps slice terms items pattern term e k d j is =
    let q : app f (apply_all s (trees_of ps)) ≡ app g (trees_of terms) = ap (λ x. apply s x) e ∙ is ∙ sym d in
    let r : trees_of (map (apply s) ps) ≡ trees_of terms = sym (apply_all-trees_of s ps) ∙ args_eq q in
    ap (λ xs. map (apply s) xs) k ∙ trees_of-inj (map (apply s) ps) terms r ∙ sym j

pub same_symbol : (s : List (Option Tree)) (f g : ℕ) (ps terms : List Tree) (pattern term : Tree) →
    app f (trees_of ps) ≡ pattern → app g (trees_of terms) ≡ term → apply s pattern ≡ term → g ≡ f
same_symbol s f g ps terms pattern term e d is =
    let q : app f (apply_all s (trees_of ps)) ≡ app g (trees_of terms) = ap (λ x. apply s x) e ∙ is ∙ sym d in
    cc

-- what stands for a variable is normal and narrow
pub image_done : (spec : Spec) → IsWellSorted spec → (s : List (Option Tree)) → IsFine spec s → (n : ℕ) →
    IsNormal spec (image s n) × IsNarrow (image s n)
image_done spec fine s h n = by (entry s n) refl
  where
    by : (o : Option Tree) → entry s n ≡ o → IsNormal spec (image s n) × IsNarrow (image s n)
    by (Some t) e =
        let k = sym (image_entry s n t e) in
        let d = h n t e in
        (subst (λ x. IsNormal spec x) k d.0, subst (λ x. IsNarrow x) k d.1)
    by None e =
        let k = sym (image_none s n e) in
        (subst (λ x. IsNormal spec x) k (variable_normal spec fine n), subst (λ x. IsNarrow x) k tt)
