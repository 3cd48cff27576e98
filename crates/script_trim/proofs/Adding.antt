-- Closing steps that are tried one after the other.
use Rattle.std.proofs.Common.{◌≡◌, ℕ, ◌+◌, ◌<◌, ◌≤◌, List, [], ◌∷◌, ◌++◌, Some, sym, ◌∙◌, ap, subst, arith}
use Rattle.std.proofs.Common.{length}
use Rattle.std.proofs.Common.{map, take, append_assoc}
use Rattle.std.specs.Prelude.{flat_map, slice_get, Contains}
use Rattle.std.proofs.lemmas.List.{append-nil, take_all}
use Rattle.std.proofs.lemmas.Option.{get_or_from_slice_get, slice_get_within, slice_get-get_or}
use Rattle.std.proofs.lemmas.List.FromFn.{length-range_with_len, get_or-range_with_len}
use Rattle.std.proofs.lemmas.List.FromFn.{length-map-range_with_len}
use Rattle.std.proofs.lemmas.List.FromFn.{get_or-map-range_with_len}
use Rattle.std.proofs.lemmas.Grind.{flat_map-append}
use Rattle.std.specs.List.{range_with_len}
use Rattle.term_core.proofs.Items.{taken_next}
use Rattle.term_core.specs.Tree.{Tree}
use Rattle.clause_core.specs.declared.answers.Children.{Children}
use Rattle.clause_core.specs.declared.steps.Step.{Step}
use Rattle.inference_rules.specs.Answers.{clauses_of}
use Rattle.script_trim.specs.declared.blocks.Fit.{Fit}
use Rattle.script_trim.specs.declared.fitting.Spot.{Spot}
use Rattle.script_trim.specs.Fitting.{AreDefined, IsByItself, none, defined, left_out}
use Rattle.script_trim.specs.Trying.{MakesThere, Adds}

-- the next item
pub taken_at : {X : Type 0} (xs : List X) (k : ℕ) (x : X) → slice_get xs k ≡ Some x →
    take (k + 1) xs ≡ take k xs ++ x ∷ []
taken_at xs k x at = taken_next xs k x (slice_get_within xs k x at) (sym (get_or_from_slice_get xs k x x at))

-- the step of the equation with this number
pub step_at : (f : ℕ → Step) (count place number : ℕ) → place < count → number ≡ place + 1 →
    slice_get (map f (range_with_len 1 count)) place ≡ Some (f number)
step_at f count place number lt is =
    slice_get-get_or (map f (range_with_len 1 count)) place (f number)
    (omega (arith, lt, length-map-range_with_len f 1 count))
    ∙ ap (λ s. Some s) (get_or-map-range_with_len f 1 count place number (f number) lt (omega (arith, is)))

-- the number of the equation at this place
pub number_at : (count place number : ℕ) → place < count → number ≡ place + 1 →
    slice_get (range_with_len 1 count) place ≡ Some number
number_at count place number lt is =
    slice_get-get_or (range_with_len 1 count) place number (omega (arith, lt, length-range_with_len 1 count))
    ∙ ap (λ n. Some n) (get_or-range_with_len 1 count place number lt
    ∙ (let e : 1 + place ≡ number = omega (arith, is) in e))

module _ (above : Tree → Tree → Type 0) (spot : Spot) where
  abbrev AreDefinedThere : List Step → List Fit → Type 0
  AreDefinedThere = AreDefined above spot.spec.now (Contains spot.proved.now) (clauses_of spot.nodes.now)
      spot.number

  joined : (xs ys : List Step) (fs gs : List Fit) → AreDefinedThere xs fs → AreDefinedThere ys gs →
      AreDefinedThere (xs ++ ys) (fs ++ gs)
  joined [] ys [] gs none q = q
  joined [] ys (f ∷ fs) gs p q = elim p [ ]
  joined (x ∷ xs) ys (f ∷ fs) gs (defined is p) q = defined is (joined xs ys fs gs p q)
  joined (x ∷ xs) ys fs gs (left_out by p) q = left_out by (joined xs ys fs gs p q)

  pub adds_none : (fits : List Fit) → Adds above spot [] fits fits
  adds_none fits = record { more = []; is = sym (append-nil fits); defined = none }

  pub adds_then : (xs ys : List Step) (a b c : List Fit) → Adds above spot xs a b → Adds above spot ys b c →
      Adds above spot (xs ++ ys) a c
  adds_then xs ys a b c p q = record {
    more = p.more ++ q.more;
    is = q.is ∙ ap (λ fs. fs ++ q.more) p.is ∙ append_assoc a p.more q.more;
    defined = joined xs ys p.more q.more p.defined q.defined;
  }

  -- a step that is defined, and one that isn't
  pub adds_fit : (step : Step) (made : Children) (fits new : List Fit) → MakesThere above spot step made →
      new ≡ fits ++ record { step = step; made = made } ∷ [] → Adds above spot (step ∷ []) fits new
  adds_fit step made fits new makes is = record {
    more = record { step = step; made = made } ∷ [];
    is =
        is;
    defined = defined makes none;
  }

  pub adds_nothing : (step : Step) (fits : List Fit) → ((made : Children) → MakesThere above spot step made → ⊥) →
      Adds above spot (step ∷ []) fits fits
  adds_nothing step fits isnt = record {
    more = [];
    is = sym (append-nil fits);
    defined = left_out (λ made makes. absurd (isnt made makes)) none;
  }

  -- and one that refers to the node itself
  pub leaves_out :
      (step : Step) (fits : List Fit) → IsByItself above spot.spec.now (Contains spot.proved.now)
      (clauses_of spot.nodes.now) spot.number step → Adds above spot (step ∷ []) fits fits
  leaves_out step fits by = record { more = []; is = sym (append-nil fits); defined = left_out by none }

  -- the steps up to the next one
  pub adds_next : (steps : List Step) (k : ℕ) (step : Step) (a b c : List Fit) → slice_get steps k ≡ Some step →
      Adds above spot (take k steps) a b → Adds above spot (step ∷ []) b c →
      Adds above spot (take (k + 1) steps) a c
  adds_next steps k step a b c at p q = subst (λ ss. Adds above spot ss a c) (sym (taken_at steps k step at))
      (adds_then (take k steps) (step ∷ []) a b c p q)

  pub adds_all : (steps : List Step) (k : ℕ) (a b : List Fit) → length steps ≤ k →
      Adds above spot (take k steps) a b → Adds above spot steps a b
  adds_all steps k a b le p = subst (λ ss. Adds above spot ss a b) (take_all k steps le) p

  -- the same of the steps of items
  pub adds_item : (f : ℕ → List Step) (xs : List ℕ) (k x : ℕ) (a b c : List Fit) → slice_get xs k ≡ Some x →
      Adds above spot (flat_map f (take k xs)) a b → Adds above spot (f x) b c →
      Adds above spot (flat_map f (take (k + 1) xs)) a c
  adds_item f xs k x a b c at p q =
      let parted : flat_map f (take (k + 1) xs) ≡ flat_map f (take k xs) ++ f x =
      ap (λ ys. flat_map f ys) (taken_at xs k x at) ∙ flat_map-append f (take k xs) (x ∷ [])
      ∙ ap (λ ys. flat_map f (take k xs) ++ ys) (append-nil (f x)) in
      subst (λ ss. Adds above spot ss a c) (sym parted) (adds_then (flat_map f (take k xs)) (f x) a b c p q)

  pub adds_items : (f : ℕ → List Step) (xs : List ℕ) (k : ℕ) (a b : List Fit) → length xs ≤ k →
      Adds above spot (flat_map f (take k xs)) a b → Adds above spot (flat_map f xs) a b
  adds_items f xs k a b le p = subst (λ ys. Adds above spot (flat_map f ys) a b) (take_all k xs le) p
