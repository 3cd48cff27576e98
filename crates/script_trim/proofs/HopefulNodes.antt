-- The flags of the nodes so far.
use Rattle.std.proofs.Common.{◌≡◌, ◌⊎◌, ℕ, zero, suc, ◌+◌, ◌≤◌, ◌<◌, List, [], ◌∷◌, ◌++◌, Bool, false, Some}
use Rattle.std.proofs.Common.{None, inl, inr, refl, sym, ◌∙◌, ap, subst, arith, length, length-append, take}
use Rattle.std.proofs.Common.{get_or}
use Rattle.std.specs.Prelude.{Contains, slice_get}
use Rattle.std.specs.List.{AllByRecursion}
use Rattle.std.proofs.lemmas.List.{take_all}
use Rattle.std.proofs.lemmas.Option.{slice_get_read}
use Rattle.term_core.specs.Tree.{Tree}
use Rattle.spec_core.specs.declared.records.Spec.{Spec}
use Rattle.clause_core.specs.declared.answers.Children.{Children}
use Rattle.clause_core.specs.declared.clauses.Clause.{Clause}
use Rattle.clause_core.specs.declared.steps.Step.{Step}
use Rattle.acceptance.specs.Strict.{first_child}
use Rattle.inference_rules.specs.declared.nodes.Node.{Node}
use Rattle.inference_rules.specs.Answers.{clauses_of}
use Rattle.script_trim.specs.declared.blocks.Fit.{Fit}
use Rattle.script_trim.specs.Fitting.{own_steps, other_steps, AreDefined, AreFitting, IsByItself}
use Rattle.script_trim.specs.Fitting.{OnlyItselfFits, defined, left_out}
use Rattle.term_core.proofs.Items.{all_append}
use Rattle.script_trim.proofs.FirstFits.{own_and_others}
use Rattle.block_steps.proofs.ChildNumbers.{all_children, counted, counted_append, counted_cons}
use Rattle.script_trim.proofs.Places.{taken_more}

-- the number of the first child of the next node
pub first_next :
    (links : List Children) (i : ℕ) (m : Children) → slice_get links i ≡ Some m →
    first_child links (i + 1) ≡ first_child links i + length m.clauses
first_next links i m at =
    let n : i + 1 ≡ suc i = omega arith in
    let e : counted (take (i + 1) links) ≡ counted (take i links ++ m ∷ []) =
    ap (λ ms. counted ms) (ap (λ j. take j links) n ∙ taken_more links i m at) in
    omega (arith, e, counted_append (take i links) (m ∷ []), counted_cons m [])

-- an item after some others is one of these or the last
pub last_or_before :
    {A : Type 0} (xs : List A) (x y : A) (j : ℕ) → slice_get (xs ++ x ∷ []) j ≡ Some y → (slice_get xs j ≡ Some y) ⊎
    ((j ≡ length xs) × (x ≡ y))
last_or_before [] x y zero at = inr (refl, (let q : Some x ≡ Some y = at in cc))
last_or_before [] x y (suc j) at = absurd (let q : None ≡ Some y = at in cc)
last_or_before (z ∷ xs) x y zero at = inl at
last_or_before (z ∷ xs) x y (suc j) at = more (last_or_before xs x y j at)
  where
    more :
        (slice_get xs j ≡ Some y) ⊎ ((j ≡ length xs) × (x ≡ y)) → (slice_get (z ∷ xs) (suc j) ≡ Some y) ⊎
        ((suc j ≡ length (z ∷ xs)) × (x ≡ y))
    more (inl h) = inl h
    more (inr h) = inr (ap (λ n. suc n) h.0, h.1)

module _ (above : Tree → Tree → Type 0) (spec : Spec) (numbers : List ℕ) (nodes : List Node)
    (links : List Children) where
  -- what the flags of the first nodes say
  pub record TellHopeless (i before : ℕ) (flags : List Bool) : Type 0 where
    pub before_is : before ≡ first_child links i
    pub long : length flags ≡ i
    pub hopeless :
        (j : ℕ) → slice_get flags j ≡ Some false → OnlyItselfFits above spec (Contains numbers) (clauses_of nodes)
        (first_child links j) j

  pub none_told : TellHopeless 0 1 []
  none_told = record {
    before_is = refl;
    long = refl;
    hopeless = λ j at. absurd (let q : None ≡ Some false = at in cc);
  }

  module _ (i before : ℕ) (flags : List Bool) (t : TellHopeless i before flags) (m : Children) (lt : i < length links)
      (is : m ≡ get_or links i m) where
    at : slice_get links i ≡ Some m
    at = slice_get_read links (length links) i m refl lt is

    -- what is made before the next node is within the nodes
    pub within : first_child links (length links) ≤ length nodes → before + length m.clauses ≤ length nodes
    within few =
        let e : counted (take (length links) links) ≡ counted links =
        ap (λ ms. counted ms) (take_all (length links) links (omega arith)) in
        omega (arith, few, t.before_is, all_children links i m at, e)

    pub node_within :
        ((k : ℕ) → k < length links → k < first_child links k) →
        first_child links (length links) ≤ length nodes → i < length nodes
    node_within after few = omega (arith, after i lt, t.before_is, within few)

    pub one_told :
        (flag : Bool) (after : ℕ) → after ≡ before + length m.clauses →
        (flag ≡ false → OnlyItselfFits above spec (Contains numbers) (clauses_of nodes) before i) →
        TellHopeless (i + 1) after (flags ++ flag ∷ [])
    one_told flag after e none = record {
      before_is = omega (arith, e, t.before_is, first_next links i m at);
      long = omega (arith, t.long, length-append flags (flag ∷ []));
      hopeless = λ j off. by j (last_or_before flags flag false j off);
    }
      where
        by :
            (j : ℕ) → (slice_get flags j ≡ Some false) ⊎ ((j ≡ length flags) × (flag ≡ false)) →
            OnlyItselfFits above spec (Contains numbers) (clauses_of nodes) (first_child links j) j
        by j (inl h) = t.hopeless j h
        by j (inr (k, off)) =
            let n : i ≡ j = sym t.long ∙ sym k in
            subst (λ x. OnlyItselfFits above spec (Contains numbers) (clauses_of nodes) (first_child links x) x) n
            (subst (λ x. OnlyItselfFits above spec (Contains numbers) (clauses_of nodes) x i) t.before_is (none off))

  -- if the list of fits is empty, no step is defined but by the node itself
  all_left_out :
      (steps : List Step) (cs : List Clause) (i : ℕ) (fits : List Fit) → fits ≡ [] →
      AreDefined above spec (Contains numbers) cs i steps fits →
      AllByRecursion (IsByItself above spec (Contains numbers) cs i) steps
  all_left_out [] cs i fits e d = tt
  all_left_out (step ∷ steps) cs i fits e (defined {fits = more} p d) = absurd (cc)
  all_left_out (step ∷ steps) cs i fits e (left_out by d) = (by, all_left_out steps cs i fits e d)

  pub itself_where_empty :
      (i before : ℕ) (own others : List Fit) →
      AreFitting above spec (Contains numbers) own_steps (clauses_of nodes) before i own → length own ≡ 0 →
      AreFitting above spec (Contains numbers) other_steps (clauses_of nodes) before i others → length others ≡ 0 →
      OnlyItselfFits above spec (Contains numbers) (clauses_of nodes) before i
  itself_where_empty i before own others h e k f c at =
      let P = IsByItself above spec (Contains numbers) (take before (clauses_of nodes)) i in
      subst (λ ss. AllByRecursion P ss) (sym (own_and_others spec (clauses_of nodes) c))
      (all_append P (own_steps spec (clauses_of nodes) c) (other_steps spec (clauses_of nodes) c)
      (all_left_out _ _ i own (empty own e) (h c at)) (all_left_out _ _ i others (empty others f) (k c at)))
    where
      empty : (fs : List Fit) → length fs ≡ 0 → fs ≡ []
      empty [] e = refl
      empty (x ∷ fs) e = absurd (omega (arith, e))
