-- What a step says, in words. Premises, conclusions and rules count from 1, nodes from 0.
use Rattle.std.specs.Prelude.{ℕ, suc, zero, ◌==◌, Bool, true, false, List, [], ◌∷◌, ◌++◌, Option, Some, None}
use Rattle.std.specs.Prelude.{if◌then◌else◌, codes, slice_get}
use Rattle.std.specs.Fmt.{decimal}
use Rattle.term_core.specs.Tree.{Tree}
use Rattle.spec_core.specs.declared.records.Goal.{Goal}
use Rattle.spec_core.specs.declared.records.Rule.{Rule}
use Rattle.spec_core.specs.declared.records.Spec.{Spec}
use Rattle.spec_core.specs.Sig.{Sig}
use Rattle.spec_core.specs.TermText.{variable_text}
use Rattle.clause_core.specs.declared.steps.Place.{Place}
use Rattle.clause_core.specs.declared.steps.Step.{Step}
use Rattle.clause_core.specs.declared.steps.Step.TheVariants.{Trivial, Match, Absurd, Subsume, ByLemma, Rule as rule}
use Rattle.clause_core.specs.declared.steps.Step.TheVariants.{Case, Decompose, Clash, Drop, Solve, Cover, Generalize}
use Rattle.clause_core.specs.declared.steps.Step.TheVariants.{Context, Hyp, Lemma}
use Rattle.page_core.specs.Events.{Event, link}
use Rattle.page_core.specs.declared.parts.Anchor.TheVariants.{Node as to_node}
use Rattle.proof_words.specs.InstanceEvents.{instance_events}
use Rattle.proof_words.specs.Lemmas.{goal_named, lemma_events, lemma_names}
use Rattle.proof_words.specs.ListEvents.{plain}
use Rattle.proof_words.specs.RuleEvents.{rule_events}
use Rattle.proof_words.specs.TermEvents.{side_events}

-- words, a number, and further words
abbrev pub said : List ℕ → ℕ → List ℕ → List Event
said words number more = plain words ∷ plain (decimal number) ∷ plain more ∷ []

abbrev pub trivial_events : ℕ → List Event
trivial_events conclusion =
    said (codes "both sides of conclusion ") conclusion (codes " are the same")

abbrev pub match_events : ℕ → ℕ → List Event
match_events conclusion premise =
    said (codes "conclusion ") conclusion (codes " is premise ") ++ plain (decimal premise) ∷ []

-- what an equation is called, before its number
abbrev pub equation_name : Bool → List ℕ
equation_name true = codes "conclusion "
equation_name false = codes "premise "

abbrev pub decompose_events : Bool → ℕ → List Event
decompose_events conclusion number =
    plain (codes "strip the constructor of ") ∷ plain (equation_name conclusion)
    ∷ plain (decimal number) ∷ []

abbrev pub split_events : List (List ℕ) → ℕ → List Event
split_events names n =
    plain (codes "split on ") ∷ plain (variable_text (slice_get names n) n) ∷ []

abbrev pub generalize_events : Sig → List (List ℕ) → Tree → List Event
generalize_events sig names t =
    plain (codes "a new variable for ") ∷ side_events sig names None t

-- in which direction an equation is used
abbrev pub direction : Bool → List ℕ
direction true = codes ", from left to right"
direction false = codes ", from right to left"

abbrev pub node_text : ℕ → List ℕ
node_text node = if node == 0 then codes "the goal itself" else (codes "node " ++ decimal node)

-- a link to a node of the goal's proof
abbrev pub node_event : ℕ → ℕ → Event
node_event goal node = link (to_node goal node) (node_text node)

-- the rule of this number, where the first one has the number 1
abbrev pub numbered_rule : List Rule → ℕ → Option Rule
numbered_rule rules zero = None
numbered_rule rules (suc place) = slice_get rules place

abbrev pub written_rule_events : Sig → Option Rule → List Event
written_rule_events sig None = []
written_rule_events sig (Some r) = plain (codes ": ") ∷ rule_events sig r

-- words, the number of a rule, and the rule
abbrev pub rule_step_events : Spec → List ℕ → ℕ → List Event
rule_step_events spec words number =
    plain words ∷ plain (decimal number)
    ∷ written_rule_events spec.sig (numbered_rule spec.rules number)

module _ (sig : Sig) (names : List (List ℕ)) where
  -- how an equation of a clause is used: its direction, and the terms for the clause's variables
  abbrev pub use_events : List (List ℕ) → Bool → List Tree → List Event
  use_events referred left terms =
      plain (direction left) ∷ instance_events sig names referred (codes ", with ") terms

  abbrev pub subsume_events : Event → List (List ℕ) → List Tree → List Event
  subsume_events node referred terms =
      plain (codes "induction hypothesis: ") ∷ node
      ∷ instance_events sig names referred (codes " with ") terms

  abbrev pub hyp_events : Event → List (List ℕ) → Bool → List Tree → List Event
  hyp_events node referred left terms =
      plain (codes "by ") ∷ node ∷ plain (codes " as induction hypothesis")
      ∷ use_events referred left terms

  abbrev pub by_lemma_events : List ℕ → Option (ℕ × Goal) → List Tree → List Event
  by_lemma_events name found terms =
      plain (codes "lemma ")
      ∷ (lemma_events sig name found
      ++ instance_events sig names (lemma_names found) (codes " with ") terms)

  abbrev pub lemma_step_events : List ℕ → Option (ℕ × Goal) → Bool → List Tree → List Event
  lemma_step_events name found left terms =
      plain (codes "by lemma ")
      ∷ (lemma_events sig name found ++ use_events (lemma_names found) left terms)

module _ (spec : Spec) (goal : ℕ) (names referred : List (List ℕ)) where
  -- the words of a step in the proof of the goal of this number: at a node with these names, where
  -- the node that the step refers to has the names `referred`
  abbrev pub step_events : Step → List Event
  step_events (Trivial conclusion) = trivial_events conclusion
  step_events (Match conclusion premise) = match_events conclusion premise
  step_events (Absurd premise) = said (codes "premise ") premise (codes " can't hold")
  step_events (Subsume node terms) =
      subsume_events spec.sig names (node_event goal node) referred terms
  step_events (ByLemma name terms) =
      by_lemma_events spec.sig names name (goal_named name 0 spec.goals) terms
  step_events (rule place number) = rule_step_events spec (codes "by rule ") number
  step_events (Case place number) =
      rule_step_events spec (codes "split on the tests of rule ") number
  step_events (Decompose conclusion number) = decompose_events conclusion number
  step_events (Clash conclusion) =
      said (codes "conclusion ") conclusion (codes " can't hold: left out")
  step_events (Drop conclusion number) =
      said (equation_name conclusion) number (codes " is left out")
  step_events (Solve premise) =
      said (codes "premise ") premise (codes " gives a variable its value")
  step_events (Cover variable patterns) = split_events names variable.0
  step_events (Generalize t) = generalize_events spec.sig names t
  step_events (Context place premise left) =
      said (codes "by premise ") premise (direction left)
  step_events (Hyp node terms place left) =
      hyp_events spec.sig names (node_event goal node) referred left terms
  step_events (Lemma name terms place left) =
      lemma_step_events spec.sig names name (goal_named name 0 spec.goals) left terms

-- the place that a step rewrites
abbrev pub marked_place : Step → Option Place
marked_place (rule place number) = Some place
marked_place (Case place number) = Some place
marked_place (Context place premise left) = Some place
marked_place (Hyp node terms place left) = Some place
marked_place (Lemma name terms place left) = Some place
marked_place step = None
