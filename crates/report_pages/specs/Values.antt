-- What a page shows of values, and of what sides give.
use Rattle.std.specs.Prelude.{◌≡◌, ◌≢◌, ℕ, ◌==◌, ◌⊎◌, List, [], ◌∷◌, ◌++◌, Option, None}
use Rattle.std.specs.Prelude.{if◌then◌else◌, codes}
use Rattle.std.specs.Fmt.{decimal}
use Rattle.term_core.specs.Tree.{Tree}
use Rattle.spec_core.specs.Sig.{Sig}
use Rattle.ground_eval.specs.declared.answers.Eval.{Eval}
use Rattle.ground_eval.specs.declared.answers.Eval.TheVariants.{Value as gives, Large, Spent}
use Rattle.page_core.specs.Events.{Event, within}
use Rattle.page_core.specs.declared.parts.Part.TheVariants.{Value}
use Rattle.proof_words.specs.ListEvents.{plain}
use Rattle.proof_words.specs.TermEvents.{side_events}
use Rattle.report_pages.specs.Differences.{difference}

-- `1 rule use`, or `n rule uses`
abbrev pub use_word : ℕ → List ℕ
use_word n = if n == 1 then codes " rule use" else codes " rule uses"

abbrev pub uses_events : ℕ → List Event
uses_events n = plain (decimal n) ∷ plain (use_word n) ∷ []

-- if two sides give values, the first place at which these differ
abbrev pub marked_in : Eval → Eval → Option (List ℕ)
marked_in (gives v n) (gives w m) = difference v w
marked_in (gives v n) (Large m) = None
marked_in (gives v n) Spent = None
marked_in (Large n) right = None
marked_in Spent right = None

module _ (sig : Sig) where
  -- a value has no variables, so it is shown without names
  abbrev pub value_events : Option (List ℕ) → Tree → List Event
  value_events mark v = side_events sig [] mark v

  -- `x = v`
  abbrev pub variable_events : List ℕ × Tree → List Event
  variable_events v = within Value (plain v.0 ∷ plain (codes " = ") ∷ value_events None v.1)

  -- the value that both sides give, and both costs
  abbrev pub both_give : Tree → ℕ → ℕ → List Event
  both_give v n m =
      plain (codes "  both sides give ") ∷ (value_events None v
      ++ plain (codes ", in ") ∷ plain (decimal n) ∷ plain (codes " and ") ∷ plain (decimal m)
      ∷ plain (codes " rule uses") ∷ [])

  module _ (steps : ℕ) where
    -- what a side gives within the steps, and at which cost
    abbrev pub side_gives : Option (List ℕ) → Eval → List Event
    side_gives mark (gives v n) =
        value_events mark v ++ (plain (codes " (") ∷ (uses_events n ++ plain (codes ")") ∷ []))
    side_gives mark (Large n) =
        plain (codes "a value of more than 10,000 symbols (") ∷ (uses_events n ++ plain (codes ")") ∷ [])
    side_gives mark Spent = plain (codes "no value within ") ∷ uses_events steps

    -- what each side gives, with the place at a path marked in both
    abbrev pub each_marked : Option (List ℕ) → Eval → Eval → List Event
    each_marked mark left right =
        plain (codes "  left gives ") ∷ (side_gives mark left
        ++ plain (codes ", right gives ") ∷ side_gives mark right)

    -- the same, with the first difference marked
    abbrev pub each_gives : Eval → Eval → List Event
    each_gives left right = each_marked (marked_in left right) left right

    -- what the sides give, by whether they give one value
    abbrev pub IsComparison : Eval → Eval → List Event → Type 0
    IsComparison (gives v n) (gives w m) events =
        ((v ≡ w) × (events ≡ both_give v n m))
        ⊎ ((v ≢ w) × (events ≡ each_gives (gives v n) (gives w m)))
    IsComparison (gives v n) (Large m) events = events ≡ each_gives (gives v n) (Large m)
    IsComparison (gives v n) Spent events = events ≡ each_gives (gives v n) Spent
    IsComparison (Large n) right events = events ≡ each_gives (Large n) right
    IsComparison Spent right events = events ≡ each_gives Spent right
