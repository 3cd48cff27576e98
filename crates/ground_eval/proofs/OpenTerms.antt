-- Sides with constants, and what they say of sides with variables.
use Rattle.std.proofs.Common.{◌≡◌, ◌≢◌, ℕ, ◌+◌, ◌<◌, List, inl, inr, refl, sym, ◌∙◌, subst, arith, length}
use Rattle.term_core.specs.Tree.{Tree, Trees, var, app, none, some, instance}
use Rattle.term_core.specs.Variables.{Occurs, OccursAny}
use Rattle.spec_core.specs.declared.records.Equation.{Equation}
use Rattle.spec_core.specs.declared.records.Spec.{Spec}
use Rattle.spec_core.specs.WellSorted.{IsWellSorted}
use Rattle.spec_core.specs.Overlap.{NoOverlap}
use Rattle.spec_core.specs.Groups.{GroupsAreWhole}
use Rattle.spec_core.specs.Gives.{Gives}
use Rattle.spec_core.specs.Verdict.{SideGives, SideSpent}
use Rattle.spec_core.proofs.Determined.{determined}
use Rattle.open_evaluation.specs.Shifted.{shifted, closed, closed_all}
use Rattle.open_evaluation.proofs.Numbers.{number_kept}
use Rattle.open_evaluation.proofs.Apart.{apart_still, whole_still}
use Rattle.open_evaluation.specs.OpenGives.{IsOpen, AreOpen, VariablesAreBelow}
use Rattle.open_evaluation.specs.OpenVerdict.{HeadsDiffer, AreDifferent, SideOpens}
use Rattle.open_evaluation.proofs.ClosedTerms.{closed_inj}
use Rattle.open_evaluation.proofs.OpenValues.{gives_open, keeps_below}
use Rattle.open_evaluation.proofs.WithConstants.{gives_with}
use Rattle.open_evaluation.proofs.OutOfConstants.{gives_out}
use Rattle.ground_eval.specs.declared.answers.OpenSides.{OpenSides}
use Rattle.ground_eval.specs.declared.answers.OpenSides.TheVariants.{Same, Differ, Unknown}
use Rattle.ground_eval.specs.Constants.{IsConstant, HasConstant, SomeHasConstant, HeadsAreApart, AreApart, ValuesAre}
use Rattle.ground_eval.specs.Opened.{Extends}
use Rattle.ground_eval.specs.OpenSides.{Setting, with_constants, shifted_here, IsClosedSide, SidesOpen, IsSame}
use Rattle.ground_eval.specs.OpenSides.{IsDifferent, Isnt}
use Rattle.ground_eval.specs.Sides.{HasOneSort}
use Rattle.ground_eval.proofs.Marking.{apart_itself}

module _ (spec : Spec) (u : ℕ) where
  abbrev c : ℕ
  c = spec.sig.constructors

  abbrev Below : Trees → Type 0
  Below ts = (k : ℕ) → OccursAny k ts → k < u

  -- a constructor is no constant
  no_constant : (f g : ℕ) → f < c → g ≡ f → IsConstant c (c + u) g → ⊥
  no_constant f g h e is = omega (arith, h, e, is.0)

  mutual
    -- a constant stands for a variable of the open value
    has_variable : (v : Tree) → IsOpen spec.sig v → HasConstant c (c + u) (closed c u v) → (k : ℕ) × Occurs k v
    has_variable (var k) o h = (k, refl)
    has_variable (app f ts) o (inl h) = absurd (no_constant f _ o.0 (number_kept c u f o.0) h)
    has_variable (app f ts) o (inr h) = have_variable ts o.1 h

    have_variable : (vs : Trees) → AreOpen spec.sig vs → SomeHasConstant c (c + u) (closed_all c u vs) →
        (k : ℕ) × OccursAny k vs
    have_variable none o h = absurd h
    have_variable (some v vs) o (inl h) = let r = has_variable v o.0 h in (r.0, inl r.1)
    have_variable (some v vs) o (inr h) = let r = have_variable vs o.1 h in (r.0, inr r.1)

  mutual
    -- and for each variable one is there
    has_constant : (v : Tree) → VariablesAreBelow u v → (k : ℕ) → Occurs k v → HasConstant c (c + u) (closed c u v)
    has_constant (var n) b k o = let w : n < u = b n refl in inl (omega arith, omega arith)
    has_constant (app f ts) b k o = inr (have_constant ts b k o)

    have_constant : (vs : Trees) → Below vs → (k : ℕ) → OccursAny k vs → SomeHasConstant c (c + u) (closed_all c u vs)
    have_constant none b k o = absurd o
    have_constant (some v vs) b k (inl o) = inl (has_constant v (λ j p. b j (inl p)) k o)
    have_constant (some v vs) b k (inr o) = inr (have_constant vs (λ j p. b j (inr p)) k o)

  heads_there : (v w : Tree) → IsOpen spec.sig v → IsOpen spec.sig w → HeadsDiffer v w →
      HeadsAreApart c (c + u) (closed c u v) (closed c u w)
  heads_there (var m) w o p h = absurd h
  heads_there (app f ts) (var n) o p h = absurd h
  heads_there (app f ts) (app g us) o p h =
      let i = number_kept c u f o.0 in
      let j = number_kept c u g p.0 in
      (λ e. h (omega (arith, i, j, e)), no_constant f _ o.0 i, no_constant g _ p.0 j)

  heads_back : (v w : Tree) → VariablesAreBelow u v → VariablesAreBelow u w → IsOpen spec.sig v →
      IsOpen spec.sig w → HeadsAreApart c (c + u) (closed c u v) (closed c u w) → HeadsDiffer v w
  heads_back (var m) (var n) b d o p h = let w : m < u = b m refl in absurd (h.1 (omega arith, omega arith))
  heads_back (var m) (app g us) b d o p h = let w : m < u = b m refl in absurd (h.1 (omega arith, omega arith))
  heads_back (app f ts) (var n) b d o p h = let w : n < u = d n refl in absurd (h.2 (omega arith, omega arith))
  heads_back (app f ts) (app g us) b d o p h = λ e. h.0 (rw e refl)

  module _ (v w : Tree) (b : VariablesAreBelow u v) (d : VariablesAreBelow u w) (o : IsOpen spec.sig v)
      (p : IsOpen spec.sig w) where
    -- two open values are different if the values with constants are apart
    pub different_there : AreDifferent v w → AreApart c (c + u) (closed c u v) (closed c u w)
    different_there (inl h) = inl (heads_there v w o p h)
    different_there (inr h) = inr (
      λ e. h.0 (closed_inj c u v w b d e),
      λ k. (let r = has_variable v o k in h.1 r.0 r.1),
      λ k. (let r = has_variable w p k in h.2 r.0 r.1),
    )

    pub different_back : AreApart c (c + u) (closed c u v) (closed c u w) → AreDifferent v w
    different_back (inl h) = inl (heads_back v w b d o p h)
    different_back (inr h) = inr (
      λ e. h.0 (rw e refl),
      λ k x. h.1 (has_constant v b k x),
      λ k x. h.2 (has_constant w d k x),
    )

module _ (s : Setting) (new : Spec) (fine : IsWellSorted s.spec) (extends : Extends s.spec new s.sorts)
    (budget : ℕ) where
  abbrev cs : ℕ
  cs = s.spec.sig.constructors

  abbrev n : ℕ
  n = length s.sorts

  abbrev ys : List Tree
  ys = with_constants s

  -- what a side opens, with what is known of it
  pub record Opening (t w : Tree) : Type 0 where
    pub value : Tree
    pub is : w ≡ closed cs n value
    pub opens : SideOpens s.spec s.values budget t value
    pub below : VariablesAreBelow n value
    pub built : IsOpen s.spec.sig value

  pub side_there : (t v : Tree) → IsClosedSide s t → SideOpens s.spec s.values budget t v →
      SideGives new ys budget (shifted cs n t) (closed cs n v)
  side_there t v side h = (
    h.0,
    subst (λ x. Gives new x (closed cs n v) h.0) (sym side.is)
        (gives_with s.spec new s.sorts fine extends.more h.1 side.below),
    h.2,
  )

  abbrev opening_of : (t v : Tree) → IsClosedSide s t → SideOpens s.spec s.values budget t v → Opening t (closed cs n v)
  opening_of t v side h = record {
    value = v;
    is = refl;
    opens = h;
    below = keeps_below s.spec fine n h.1
        side.below;
    built = gives_open s.spec h.1;
  }

  pub side_back : (t w : Tree) → IsClosedSide s t → SideGives new ys budget (shifted cs n t) w → Opening t w
  side_back t w side h =
      let r = gives_out s.spec new s.sorts fine extends.more (subst (λ x. Gives new x w h.0) side.is h.1)
      (instance s.values t) side.below refl in
      let opens : SideOpens s.spec s.values budget t r.0 = (h.0, r.2, h.2) in
      record {
        value = r.0;
        is = r.1;
        opens = opens;
        below = keeps_below s.spec fine n r.2 side.below;
        built = gives_open s.spec r.2;
      }

  module _ (e : Equation) (sorted : HasOneSort new ys (shifted_here s e)) (left : IsClosedSide s e.left)
      (right : IsClosedSide s e.right) where
    -- if a side gives no value within the budget, the sides are neither
    pub left_spent : (NoOverlap new → GroupsAreWhole new → SideSpent new ys budget (shifted cs n e.left)) →
        SidesOpen s budget e Unknown
    left_spent h =
        let none = λ (apart : NoOverlap s.spec) (whole : GroupsAreWhole s.spec). h
        (apart_still s.spec new s.sorts extends.more fine extends.in_range apart)
        (whole_still s.spec new s.sorts extends.more fine whole) in (
          (λ apart whole x. (let g = side_there e.left x.0 left x.1 in none apart whole (closed cs n x.0) g.0 g.1 g.2)),
          (λ apart whole x. (let g = side_there e.left x.0 left x.3 in none apart whole (closed cs n x.0) g.0 g.1 g.2)),
        )

    pub right_spent : (NoOverlap new → GroupsAreWhole new → SideSpent new ys budget (shifted cs n e.right)) →
        SidesOpen s budget e Unknown
    right_spent h =
        let none = λ (apart : NoOverlap s.spec) (whole : GroupsAreWhole s.spec). h
        (apart_still s.spec new s.sorts extends.more fine extends.in_range apart)
        (whole_still s.spec new s.sorts extends.more fine whole) in (
          (λ apart whole x. (let g = side_there e.right x.0 right x.2 in
              none apart whole (closed cs n x.0) g.0 g.1 g.2)),
          (λ apart whole x. (let g = side_there e.right x.1 right x.4 in
              none apart whole (closed cs n x.1) g.0 g.1 g.2)),
        )

    module _ (v w : Tree) (l : SideGives new ys budget (shifted cs n e.left) v)
        (r : SideGives new ys budget (shifted cs n e.right) w) where
      abbrev a : Opening e.left v
      a = side_back e.left v left l

      abbrev b : Opening e.right w
      b = side_back e.right w right r

      -- the sides give no other values
      only : NoOverlap s.spec → GroupsAreWhole s.spec → (x y : Tree) →
          SideOpens s.spec s.values budget e.left x → SideOpens s.spec s.values budget e.right y →
          (v ≡ closed cs n x) × (w ≡ closed cs n y)
      only apart whole x y i j =
          let na = apart_still s.spec new s.sorts extends.more fine extends.in_range apart in
          let nw = whole_still s.spec new s.sorts extends.more fine whole in
          let g = side_there e.left x left i in
          let h = side_there e.right y right j in (
            (determined new extends.fine na nw l.1 sorted.0 sorted.1 g.1).0,
            (determined new extends.fine na nw r.1 sorted.0 sorted.2 h.1).0,
          )

      not_same : v ≢ w → Isnt s (IsSame s budget e)
      not_same differ apart whole x = let o = only apart whole x.0 x.0 x.1 x.2 in differ (o.0 ∙ sym o.1)

      not_different : (AreApart cs (cs + n) v w → ⊥) → Isnt s (IsDifferent s budget e)
      not_different near apart whole x =
          let o = only apart whole x.0 x.1 x.3 x.4 in
          let p = opening_of e.left x.0 left x.3 in
          let q = opening_of e.right x.1 right x.4 in
          let far = different_there s.spec n x.0 x.1 p.below q.below p.built q.built x.2 in
          near (subst (λ (z : Tree). AreApart cs (cs + n) z w) (sym o.0)
          (subst (λ (z : Tree). AreApart cs (cs + n) (closed cs n x.0) z) (sym o.1) far))

      pub sides_open : (answer : OpenSides) → ValuesAre cs (cs + n) v w answer → SidesOpen s budget e answer
      sides_open Same h =
          let k : a.value ≡ b.value = closed_inj cs n a.value b.value a.below b.below (sym a.is ∙ h ∙ b.is) in (
            (a.value, a.opens, subst (λ (x : Tree). SideOpens s.spec s.values budget e.right x) (sym k) b.opens),
            not_different (λ far. apart_itself cs (cs + n) v
                (subst (λ (z : Tree). AreApart cs (cs + n) v z) (sym h) far)),
          )
      sides_open Differ h =
          let far : AreApart cs (cs + n) (closed cs n a.value) (closed cs n b.value) = subst
          (λ (z : Tree). AreApart cs (cs + n) (closed cs n a.value) z) b.is
          (subst (λ (z : Tree). AreApart cs (cs + n) z w) a.is h) in (
            (
              a.value,
              b.value,
              different_back s.spec n a.value b.value a.below b.below a.built b.built far,
              a.opens,
              b.opens,
            ),
            not_same (λ q. apart_itself cs (cs + n) v (subst (λ (z : Tree). AreApart cs (cs + n) v z) (sym q) h)),
          )
      sides_open Unknown h = (not_same h.0, not_different h.1)

    -- sides that are the same aren't different
    pub not_both : IsSame s budget e → Isnt s (IsDifferent s budget e)
    not_both h = not_different (closed cs n h.0) (closed cs n h.0) (side_there e.left h.0 left h.1)
        (side_there e.right h.0 right h.2) (λ far. apart_itself cs (cs + n) (closed cs n h.0) far)
